use Rattle.std.proofs.Common.{◌≡◌, ℕ, ◌-◌, ◌%◌, ◌≤◌, ◌⊎◌, inl, inr, ap, ◌∙◌, arith}
use Rattle.access_methods.specs.Shaped.{layouts_of}
use Rattle.access_methods.specs.Forms.{layout_in}
use Rattle.access_methods.proofs.Descs.{stands_for_none, is_open, not_two}
use Rattle.access_methods.proofs.form.form_of.Goals as goal
use Rattle.access_methods.proofs.form.form_of.Goals.{else-desc-gt3-via-then-desc-gt3+else-desc-eq1, else-desc-gt3-via-else-desc-gt3}

pub returns-in-Some : goal.returns-in-Some
returns-in-Some c = (stands_for_none c.args.shapes.now c.args.desc (omega arith) (omega arith), omega arith, c.in-Some.ensures)

pub returns-in-None : goal.returns-in-None
returns-in-None c = (
  stands_for_none c.args.shapes.now c.args.desc (omega arith) (omega arith),
  λ of e h.
      let before : of ≡ c.args.desc - 1 = omega arith in
      ap (λ (n : ℕ). layouts_of c.args.shapes.now n) before ∙ c.in-None.ensures,
)

pub returns-in-Some-layout_of : goal.returns-in-Some-layout_of
returns-in-Some-layout_of c =
    let open_or_low : (c.args.desc ≤ 3) ⊎ (c.args.desc % 2 ≡ 0) = elim c.else-desc-gt3.branch [
      | else-desc-gt3-via-then-desc-gt3+else-desc-eq1 w ↦ inr (omega arith)
      | else-desc-gt3-via-else-desc-gt3 w ↦ inl (omega arith)
    ] in
    (c.in-Some-layout_of.ensures, not_two c.args.shapes.now c.args.desc (layout_in c.in-Some-layout_of.layout) c.in-Some-layout_of.ensures, is_open c.args.shapes.now c.args.desc open_or_low)

pub returns-in-None-layout_of : goal.returns-in-None-layout_of
returns-in-None-layout_of c =
    let open_or_low : (c.args.desc ≤ 3) ⊎ (c.args.desc % 2 ≡ 0) = elim c.else-desc-gt3.branch [
      | else-desc-gt3-via-then-desc-gt3+else-desc-eq1 w ↦ inr (omega arith)
      | else-desc-gt3-via-else-desc-gt3 w ↦ inl (omega arith)
    ] in
    (c.in-None-layout_of.ensures, is_open c.args.shapes.now c.args.desc open_or_low)
