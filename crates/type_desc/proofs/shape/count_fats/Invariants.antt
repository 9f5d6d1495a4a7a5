use Rattle.std.proofs.Common.{◌≡◌, ◌≤◌, ◌+◌, ℕ, length, get_or}
use Rattle.type_desc.specs.Places.{fats_before}
use Rattle.type_desc.proofs.shape.count_fats.Given as goal

abbrev pub invariant-loop-kind : goal.invariant-loop-kind
invariant-loop-kind l =
    (length l.fats.items ≡ l.kind-index + 1)
    × (l.count ≡ fats_before l.kinds l.kind-index)
    × (l.count ≤ l.kind-index)
    × ((w : ℕ) → w ≤ l.kind-index → get_or l.fats.items w 0 ≡ fats_before l.kinds w)
