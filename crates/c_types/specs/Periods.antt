-- The shortest list that gives another when it is repeated a whole number of times, as a function.
use Rattle.std.specs.Prelude.{ℕ, zero, suc, ◌+◌, ◌-◌, ◌%◌, ◌==◌, ◌&&◌, Bool, true, false, if◌then◌else◌, List, [], ◌∷◌, length, take, drop}
use Rattle.fsc_base.specs.declared.word.WordKind.{WordKind}
use Rattle.fsc_base.specs.declared.word.WordKind.TheVariants.{Fat, Narrow}

abbrev pub is_fat : WordKind → Bool
is_fat Fat = true
is_fat Narrow = false

abbrev pub same_kind : (one other : WordKind) → Bool
same_kind Fat other = is_fat other
same_kind Narrow Fat = false
same_kind Narrow Narrow = true

abbrev pub same_kinds : (one other : List WordKind) → Bool
same_kinds [] [] = true
same_kinds [] (k ∷ ks) = false
same_kinds (k ∷ ks) [] = false
same_kinds (k ∷ ks) (l ∷ ls) = same_kind k l && same_kinds ks ls

-- the first n kinds, repeated a whole number of times, give all of them
abbrev pub repeats : (n : ℕ) → List WordKind → Bool
repeats n kinds = (length kinds % n == 0) && same_kinds (drop n kinds) (take (length kinds - n) kinds)

-- the first of the lengths from n on that does, among so many
abbrev pub least_from : (many n : ℕ) → List WordKind → ℕ
least_from zero n kinds = n
least_from (suc many) n kinds = if repeats n kinds then n else least_from many (n + 1) kinds

abbrev pub period_of : List WordKind → List WordKind
period_of kinds = take (least_from (length kinds) 1 kinds) kinds
