-- The free cells of a pool after one was taken or put.
use Rattle.std.proofs.Common.{◌≡◌, ◌≢◌, ℕ, ◌+◌, ◌<◌, ◌⊎◌, inl, inr, List, [], ◌∷◌, ◌++◌, length, refl, sym, ap, ◌∙◌, arith}
use Rattle.std.specs.Prelude.{slice_index}
use Rattle.std.proofs.lemmas.Bool.{cases_lt, cases_eq}
use Rattle.std.proofs.lemmas.List.{length_push, get_or_push, get_or_append_left, length-set, get_or-set_same, get_or-set_other}
use Rattle.cell_store.specs.Pools.{Pool, free_of, no_list, with_cells, with_free}
use Rattle.cell_store.specs.Kept.{IsFree, free_cell}

module _ (pool : Pool) (class : ℕ) (cells : List ℕ) where
  pub lists_same : length (with_free pool class cells).free ≡ length pool.free
  lists_same = length-set pool.free class (with_cells (free_of pool class) cells)

  pub free_here : class < length pool.free → free_of (with_free pool class cells) class ≡ with_cells (free_of pool class) cells
  free_here known = get_or-set_same pool.free class (with_cells (free_of pool class) cells) no_list known

  pub free_there : (other : ℕ) → other ≢ class → free_of (with_free pool class cells) other ≡ free_of pool other
  free_there other differs = get_or-set_other pool.free class other (with_cells (free_of pool class) cells) no_list differs

  pub room_same : (other : ℕ) → class < length pool.free → (free_of (with_free pool class cells) other).room ≡ (free_of pool other).room
  room_same other known =
      elim (cases_eq other class) [
        | inl is ↦ rw (is, free_here known) refl
        | inr differs ↦ rw (free_there other differs) refl
      ]

-- ---- one was taken

-- a cell that is free now was free before, and isn't the one that was taken
pub record WasFree (pool new : Pool) (class last x i : ℕ) : Type 0 where
  pub was : IsFree pool x i
  pub same : free_cell new x i ≡ free_cell pool x i
  pub other : (x ≢ class) ⊎ (i ≢ last)

module _ (pool : Pool) (class cell : ℕ) (rest : List ℕ) (known : class < 30) (lists : length pool.free ≡ 30)
    (were : (free_of pool class).cells ≡ rest ++ cell ∷ []) where
  inside : class < length pool.free
  inside = omega arith

  pub length_were : length (free_of pool class).cells ≡ length rest + 1
  length_were = ap length were ∙ length_push rest cell

  pub taken_was_free : IsFree pool class (length rest)
  taken_was_free = record { known = known; within = omega (arith, length_were) }

  pub taken_is : free_cell pool class (length rest) ≡ cell
  taken_is = ap (λ (l : List ℕ). slice_index l (length rest)) were ∙ get_or_push rest cell 0 (length rest) refl

  pub was_free : (x i : ℕ) → IsFree (with_free pool class rest) x i → WasFree pool (with_free pool class rest) class (length rest) x i
  was_free x i free =
      elim (cases_eq x class) [
        | inl is ↦
            let now : (free_of (with_free pool class rest) x).cells ≡ rest = rw (is, free_here pool class rest inside) refl in
            let lt : i < length rest = omega (arith, free.within, ap length now) in
            let before : (free_of pool x).cells ≡ rest ++ cell ∷ [] = rw is were in
            record {
              was = record { known = free.known; within = omega (arith, ap length before, length_push rest cell) };
              same = rw (now, before) (sym (get_or_append_left rest (cell ∷ []) 0 i lt));
              other = inr (omega arith);
            }
        | inr differs ↦
            let now : free_of (with_free pool class rest) x ≡ free_of pool x = free_there pool class rest x differs in
            record {
              was = record { known = free.known; within = rw now at free.within };
              same = rw now refl;
              other = inl differs;
            }
      ]

-- ---- one was put

-- a cell that is free now was free before
pub record StaysFree (pool new : Pool) (x i : ℕ) : Type 0 where
  pub was : IsFree pool x i
  pub same : free_cell new x i ≡ free_cell pool x i

-- it is the one that was put
pub record IsPut (pool new : Pool) (class cell x i : ℕ) : Type 0 where
  pub class_is : x ≡ class
  pub place_is : i ≡ length (free_of pool class).cells
  pub cell_is : free_cell new x i ≡ cell

module _ (pool : Pool) (class cell : ℕ) (known : class < 30) (lists : length pool.free ≡ 30) where
  pub stays_or_put : (x i : ℕ) → IsFree (with_free pool class ((free_of pool class).cells ++ cell ∷ [])) x i
      → StaysFree pool (with_free pool class ((free_of pool class).cells ++ cell ∷ [])) x i
      ⊎ IsPut pool (with_free pool class ((free_of pool class).cells ++ cell ∷ [])) class cell x i
  stays_or_put x i free =
      elim (cases_eq x class) [
        | inl is ↦
            let cells = (free_of pool class).cells in
            let now : (free_of (with_free pool class (cells ++ cell ∷ [])) x).cells ≡ cells ++ cell ∷ [] =
            rw (is, free_here pool class (cells ++ cell ∷ []) (omega arith)) refl in
            let le : i < length cells + 1 = omega (arith, free.within, ap length now, length_push cells cell) in
            elim (cases_lt i (length cells)) [
              | inl lt ↦ inl (record {
                was = record { known = free.known; within = rw is lt };
                same = rw (now, is) (get_or_append_left cells (cell ∷ []) 0 i lt);
              })
              | inr ge ↦ inr (record {
                class_is = is;
                place_is = omega arith;
                cell_is = rw now (get_or_push cells cell 0 i (omega arith));
              })
            ]
        | inr differs ↦
            let now : free_of (with_free pool class ((free_of pool class).cells ++ cell ∷ [])) x ≡ free_of pool x =
            free_there pool class ((free_of pool class).cells ++ cell ∷ []) x differs in
            inl (record { was = record { known = free.known; within = rw now at free.within }; same = rw now refl })
      ]
