-- Operations with one plain number.
use Rattle.std.proofs.Common.{◌≡◌, ℕ, ◌≢◌, List, [], ◌∷◌, Option, Some, None, Result, Ok, Err, refl, sym, ap, subst, ◌∙◌, append_assoc}
use Rattle.std.specs.Prelude.{IfSome, IsNone}
use Rattle.std.proofs.lemmas.List.{append-nil}
use Rattle.fat_code.specs.declared.fault.CheckNo.{CheckNo}
use Rattle.fat_code.specs.declared.fault.CheckNo.TheVariants.{Fault}
use Rattle.fat_code.specs.declared.fault.UnitFault.TheVariants as fault
use Rattle.fat_code.specs.declared.op.Op.{Op}
use Rattle.unit_file.specs.declared.number.Found.{Found}
use Rattle.unit_file.specs.Reading.{IsRead, IsReadNo, IsTag, ReadsBehind, Tells}
use Rattle.unit_file.specs.Spelling.{number, op_numbers, spelled_op}

wrong_tag : (file : List ℕ) (tag_at tag : ℕ) (refusal : CheckNo) → IsTag file tag_at tag → tag ≢ 1 → refusal ≡ Fault fault.Tag tag_at → IsReadNo file refusal
wrong_tag file tag_at tag refusal is other same =
    subst (λ (no : CheckNo). IsReadNo file no) (sym same) (record { inside = is.inside; wrong = λ one. other (is.value ∙ one) })

pub with_tag : (file : List ℕ) (tag_at tag at n behind : ℕ) (value : Option Op) (result : Result (Found Op) CheckNo) → IsTag file tag_at tag
    → IsRead number file at (record { value = n; behind = behind }) → IfSome value (λ this. op_numbers this ≡ tag ∷ n ∷ []) → (IsNone value → tag ≢ 1)
    → Tells value tag_at behind result → ReadsBehind (number tag) spelled_op file at result
unfolding spelled_op
with_tag file tag_at tag at n behind (Some this) (Ok found) is read some none tells =
    let same : this ≡ found.value = ap (λ (o : Option Op). elim o as (λ x. Op) [ None ↦ this | Some x ↦ x ]) tells.0 in
    let numbers_are : op_numbers found.value ≡ tag ∷ n ∷ [] = subst (λ (x : Op). op_numbers x ≡ tag ∷ n ∷ []) same some in
    record {
      bytes = rw (numbers_are, tells.1, read.bytes) (simp (append_assoc, append-nil) refl);
      within = rw tells.1 read.within;
    }
with_tag file tag_at tag at n behind None (Ok found) is read some none tells = absurd cc
with_tag file tag_at tag at n behind (Some this) (Err refusal) is read some none tells = absurd cc
with_tag file tag_at tag at n behind None (Err refusal) is read some none tells = wrong_tag file tag_at tag refusal is (none refl) tells.1
