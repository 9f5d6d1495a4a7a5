-- What is left of the open files falls with each line and each end of a file.
use Rattle.std.proofs.Common.{◌≡◌, ℕ, suc, ◌+◌, ◌-◌, ◌*◌, ◌^◌, ◌<◌, ◌≤◌, List, [], ◌∷◌, ◌++◌, sum_by, vec_len, ◌∙◌, ap, arith}
use Rattle.std.proofs.Math.Nat.{mul-lt-mul_of_pos_right, mul-le-mul_right, one-le-pow, pow-succ'}
use Rattle.std.proofs.lemmas.Nat.{pow_pos}
use Rattle.std.proofs.lemmas.List.Sums.{sum_by_push}
use Rattle.cpp_text.specs.Progress.{part, part_of, left_of}
use Rattle.cpp_text.specs.declared.source.Source.{Source}

-- fewer tokens on one level outweigh one more level
pub outweighs : (before after inner base unit row : ℕ) → after < before → 1 + inner < base → 0 < unit → row ≡ base * unit → (1 + after) * row + (1 + inner) * unit < (1 + before) * row
outweighs before after inner base unit row fewer below positive is =
    let small : (1 + inner) * unit < base * unit = mul-lt-mul_of_pos_right below positive in
    let more : 2 + after ≤ 1 + before = omega arith in
    let all : (2 + after) * row ≤ (1 + before) * row = mul-le-mul_right row more in
    omega (arith, small, all, is)

-- a level weighs as much as so many of the next one
pub level : (base depth : ℕ) → depth < 64 → base ^ (64 - depth) ≡ base * base ^ (64 - (depth + 1))
level base depth below =
    let e : 64 - depth ≡ suc (64 - (depth + 1)) = omega arith in
    ap (λ n. base ^ n) e ∙ pow-succ' base (64 - (depth + 1))

pub nests : (depth before after inner : ℕ) → depth < 64 → after < before → inner < 2 ^ 64 → part depth after + part (depth + 1) inner < part depth before
unfolding part
nests depth before after inner below fewer bounded =
    let room : 1 + inner < 2 ^ 65 = omega arith in
    outweighs before after inner (2 ^ 65) ((2 ^ 65) ^ (64 - (depth + 1))) ((2 ^ 65) ^ (64 - depth)) fewer room (one-le-pow (64 - (depth + 1)) (2 ^ 65) (pow_pos 65)) (level (2 ^ 65) depth below)

pub part-more : (depth before after : ℕ) → after < before → part depth after < part depth before
unfolding part
part-more depth before after fewer =
    let more : 1 + after < 1 + before = omega arith in
    mul-lt-mul_of_pos_right more (one-le-pow (64 - depth) (2 ^ 65) (pow_pos 65))

pub part-positive : (depth n : ℕ) → 0 < part depth n
unfolding part
part-positive depth n =
    let more : 0 < 1 + n = omega arith in
    let all : 0 * (2 ^ 65) ^ (64 - depth) < (1 + n) * (2 ^ 65) ^ (64 - depth) = mul-lt-mul_of_pos_right more (one-le-pow (64 - depth) (2 ^ 65) (pow_pos 65)) in
    omega (arith, all)

-- a line was read
pub shorter : (including : List Source) (before after : Source) → after.depth ≡ before.depth → vec_len after.rest < vec_len before.rest → left_of including after < left_of including before
shorter including before after same fewer =
    let less : part before.depth (vec_len after.rest) < part before.depth (vec_len before.rest) = part-more before.depth (vec_len before.rest) (vec_len after.rest) fewer in
    let is : part after.depth (vec_len after.rest) ≡ part before.depth (vec_len after.rest) = ap (λ d. part d (vec_len after.rest)) same in
    omega (arith, less, is)

-- a line was read and its file opened
pub nested : (including outer : List Source) (before after inner : Source) → outer ≡ including ++ after ∷ [] → after.depth ≡ before.depth → vec_len after.rest < vec_len before.rest
    → after.depth < 64 → inner.depth ≡ after.depth + 1 → vec_len inner.rest < 2 ^ 64 → left_of outer inner < left_of including before
nested including outer before after inner is same fewer below deeper bounded =
    let pushed : sum_by part_of outer ≡ sum_by part_of including + part_of after = ap (sum_by part_of) is ∙ sum_by_push part_of including after in
    let less : part after.depth (vec_len after.rest) + part (after.depth + 1) (vec_len inner.rest) < part after.depth (vec_len before.rest) = nests after.depth (vec_len before.rest) (vec_len after.rest) (vec_len inner.rest) below fewer bounded in
    let inside : part inner.depth (vec_len inner.rest) ≡ part (after.depth + 1) (vec_len inner.rest) = ap (λ d. part d (vec_len inner.rest)) deeper in
    let outside : part after.depth (vec_len before.rest) ≡ part before.depth (vec_len before.rest) = ap (λ d. part d (vec_len before.rest)) same in
    omega (arith, pushed, less, inside, outside)

-- a file was ended
pub ended : (outer including : List Source) (current last : Source) → outer ≡ including ++ last ∷ [] → left_of including last < left_of outer current
ended outer including current last is =
    let popped : sum_by part_of outer ≡ sum_by part_of including + part_of last = ap (sum_by part_of) is ∙ sum_by_push part_of including last in
    let positive : 0 < part current.depth (vec_len current.rest) = part-positive current.depth (vec_len current.rest) in
    omega (arith, popped, positive)
