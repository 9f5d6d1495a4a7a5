-- Lists of names stay without repeats.
use Rattle.std.proofs.Common.{◌≡◌, ℕ, Bool, true, false, ◌||◌, List, [], ◌∷◌, ◌++◌, refl, sym, cond}
use Rattle.std.specs.List.{filter}
use Rattle.std.specs.Str.{bytes_eq}
use Rattle.std.proofs.lemmas.Slice.Eq.{bytes_eq-Decides}
use Rattle.pp_token.specs.HideSets.{has, NoRepeats}

or_true : (a b : Bool) (P : Type 0) → (a ≡ true → P) → (b ≡ true → P) → (a || b) ≡ true → P
or_true true b P f g h = f refl
or_true false b P f g h = g h

or_false_left : (a b : Bool) → (a || b) ≡ false → a ≡ false
or_false_left true b h = h
or_false_left false b h = refl

or_false_right : (a b : Bool) → (a || b) ≡ false → b ≡ false
or_false_right true b h = cc
or_false_right false b h = h

or_left : (a b : Bool) → a ≡ true → (a || b) ≡ true
or_left true b h = refl
or_left false b h = cc

or_right : (a b : Bool) → b ≡ true → (a || b) ≡ true
or_right true b h = refl
or_right false b h = h

-- what one of the names and one more is
has_push : (names : List (List ℕ)) (last name : List ℕ) (P : Type 0) → (has names name ≡ true → P) → (bytes_eq last name ≡ true → P) → has (names ++ last ∷ []) name ≡ true → P
has_push [] last name P f g h = or_true (bytes_eq last name) false P g (λ e. f e) h
has_push (x ∷ xs) last name P f g h = or_true (bytes_eq x name) (has (xs ++ last ∷ []) name) P (λ e. f (or_left (bytes_eq x name) (has xs name) e)) (λ e. has_push xs last name P (λ e2. f (or_right (bytes_eq x name) (has xs name) e2)) g e) h

equal_names : (a b : List ℕ) → bytes_eq a b ≡ true → bytes_eq b a ≡ true
equal_names a b e = (bytes_eq-Decides b a).1 (sym ((bytes_eq-Decides a b).0 e))

pub NoRepeats-push : (names : List (List ℕ)) (name : List ℕ) → has names name ≡ false → NoRepeats names → NoRepeats (names ++ name ∷ [])
NoRepeats-push [] name new once = ((λ (h : false ≡ true). cc), tt)
NoRepeats-push (x ∷ xs) name new once = (
  has_push xs name x ⊥ once.0 (λ e. let e2 : bytes_eq x name ≡ true = equal_names name x e in let e3 : bytes_eq x name ≡ false = or_false_left (bytes_eq x name) (has xs name) new in cc),
  NoRepeats-push xs name (or_false_right (bytes_eq x name) (has xs name) new) once.1,
)

kept : (b : Bool) (x : List ℕ) (rest names : List (List ℕ)) (name : List ℕ) → (has rest name ≡ true → has names name ≡ true) → has (cond b (x ∷ rest) rest) name ≡ true → has (x ∷ names) name ≡ true
kept true x rest names name f h = or_true (bytes_eq x name) (has rest name) (has (x ∷ names) name ≡ true) (λ e. or_left (bytes_eq x name) (has names name) e) (λ e. or_right (bytes_eq x name) (has names name) (f e)) h
kept false x rest names name f h = or_right (bytes_eq x name) (has names name) (f h)

has_filter : (p : List ℕ → Bool) (names : List (List ℕ)) (name : List ℕ) → has (filter p names) name ≡ true → has names name ≡ true
has_filter p [] name h = h
has_filter p (x ∷ xs) name h = kept (p x) x (filter p xs) xs name (λ e. has_filter p xs name e) h

kept_once : (b : Bool) (x : List ℕ) (rest names : List (List ℕ)) → (has names x ≡ true → ⊥) → (has rest x ≡ true → has names x ≡ true) → NoRepeats rest → NoRepeats (cond b (x ∷ rest) rest)
kept_once true x rest names new f once = ((λ h. new (f h)), once)
kept_once false x rest names new f once = once

pub NoRepeats-filter : (p : List ℕ → Bool) (names : List (List ℕ)) → NoRepeats names → NoRepeats (filter p names)
NoRepeats-filter p [] once = tt
NoRepeats-filter p (x ∷ xs) once = kept_once (p x) x (filter p xs) xs once.0 (λ e. has_filter p xs x e) (NoRepeats-filter p xs once.1)

pub NoRepeats-same : (names others : List (List ℕ)) → names ≡ others → NoRepeats others → NoRepeats names
NoRepeats-same names others e once = rw e once
