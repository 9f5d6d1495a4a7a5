use Rattle.std.proofs.Common.{◌≡◌, ◌-◌, length, take, drop, refl, sym, ◌∙◌}
use Rattle.std.specs.Bool.{Decides}
use Rattle.std.proofs.lemmas.List.{take_rest}
use Rattle.std.proofs.lemmas.Slice.Eq.{slice_eq-Decides}
use Rattle.fsc_base.specs.declared.word.WordKind.{WordKind}
use Rattle.fsc_base.specs.declared.word.WordKind.TheVariants.{Fat, Narrow}
use Rattle.fsc_base.specs.contracts.word.WordKindPartialEq.TheImpl.{eq-value}
use Rattle.fat_code.proofs.period.is_period.Goals as goal

same_kind : (a b : WordKind) → Decides (eq-value.it a b) (a ≡ b)
same_kind Fat Fat = (λ _. refl, λ _. refl)
same_kind Fat Narrow = (λ h. cc, λ h. cc)
same_kind Narrow Fat = (λ h. cc, λ h. cc)
same_kind Narrow Narrow = (λ _. refl, λ _. refl)

pub returns-then-kinds-n-eq0 : goal.returns-then-kinds-n-eq0
returns-then-kinds-n-eq0 c =
    let kinds = c.args.kinds.now in
    let n = c.args.n in
    let rest = take_rest kinds n in
    let same = slice_eq-Decides same_kind (take (length kinds - n) (drop n kinds)) (take (length kinds - n) kinds) c.eq.result c.eq.ensures in (
      λ h. record { some = c.requires.some; divides = c.if-kinds-n-eq0.true; repeats = sym rest ∙ same.0 h },
      λ h. same.1 (rest ∙ h.repeats),
    )
