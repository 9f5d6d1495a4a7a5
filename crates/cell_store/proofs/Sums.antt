-- Sums over lists whose items count alike.
use Rattle.std.proofs.Common.{◌≡◌, ℕ, ◌<◌, List, length, get_or, map, sym, ap, ◌∙◌, arith}
use Rattle.std.specs.Prelude.{sum, sum_by}
use Rattle.std.proofs.lemmas.List.{get_or-map, length-map, same_lists}
use Rattle.std.proofs.lemmas.List.Sums.{sum-map}
use Rattle.c_memory.specs.Blocks.{Block}

at : (f : Block → ℕ) (xs ys : List Block) (d : Block) → length xs ≡ length ys
    → ((k : ℕ) → k < length xs → f (get_or xs k d) ≡ f (get_or ys k d))
    → (k e : ℕ) → k < length xs → get_or (map f xs) k e ≡ get_or (map f ys) k e
at f xs ys d long alike k e h = get_or-map f xs k d e h ∙ alike k h ∙ sym (get_or-map f ys k d e (omega (arith, h, long)))

pub sum_by_alike : (f : Block → ℕ) (xs ys : List Block) (d : Block) → length xs ≡ length ys
    → ((k : ℕ) → k < length xs → f (get_or xs k d) ≡ f (get_or ys k d)) → sum_by f xs ≡ sum_by f ys
sum_by_alike f xs ys d long alike =
    let same : map f xs ≡ map f ys = same_lists (map f xs) (map f ys) (length-map xs f ∙ long ∙ sym (length-map ys f))
    (λ k e h. at f xs ys d long alike k e (omega (arith, h, length-map xs f))) in
    sym (sum-map f xs) ∙ ap sum same ∙ sum-map f ys
