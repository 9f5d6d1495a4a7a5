-- What a sink has after several writes.
use Rattle.std.proofs.Common.{ℕ, ◌+◌, ◌<◌, ◌≤◌, List, [], ◌++◌, length, take, Option, Some, None, sym, ap, subst, ◌∙◌, append_assoc, arith}
use Rattle.std.proofs.lemmas.List.{append-nil, length-append, take-append-le}
use Rattle.std.proofs.Math.Seq.{take-append-add, take-length}
use Rattle.fsc_outside.specs.Streams.{Appends, AppendsFront, AppendsPart}

-- nothing is appended where nothing is written
pub appends_nothing : (told : Option (List ℕ)) → Appends told told []
appends_nothing None = tt
appends_nothing (Some written) = ap (λ (bytes : List ℕ). Some bytes) (sym (append-nil written))

pub appends_then : (old now new : Option (List ℕ)) (front part : List ℕ) → Appends old now front → Appends now new part → Appends old new (front ++ part)
appends_then None now new front part first then = tt
appends_then (Some written) now new front part first then =
    let step : Appends (Some (written ++ front)) new part = subst (λ (at : Option (List ℕ)). Appends at new part) first then in
    step ∙ ap Some (append_assoc written front part)

-- all of the front, and then a part of what follows it
pub appends_front_then : (old now new : Option (List ℕ)) (front part : List ℕ) → Appends old now front → AppendsFront now new part → AppendsFront old new (front ++ part)
appends_front_then old now new front part first then =
    let n = then.0 in
    (length front + n, omega (arith, length-append front part, then.1), rw (take-append-add front part n) (appends_then old now new front (take n part) first then.2))

-- a front of some bytes is one of all that begin with them
pub appends_front_longer : (old new : Option (List ℕ)) (bytes more : List ℕ) → AppendsFront old new bytes → AppendsFront old new (bytes ++ more)
appends_front_longer old new bytes more front =
    let n = front.0 in
    let within : n ≤ length bytes = front.1 in
    (n, omega (arith, length-append bytes more), rw take-append-le front.2)

-- the whole is a front
pub appends_front_whole : (old new : Option (List ℕ)) (bytes : List ℕ) → Appends old new bytes → AppendsFront old new bytes
appends_front_whole old new bytes whole = (length bytes, omega arith, rw (take-length bytes) whole)

-- all of the front, and then a part of what follows it and not all
pub appends_part_then : (old now new : Option (List ℕ)) (front part : List ℕ) → Appends old now front → AppendsPart now new part → AppendsPart old new (front ++ part)
appends_part_then old now new front part first then =
    let n = then.0 in
    (length front + n, omega (arith, length-append front part, then.1), rw (take-append-add front part n) (appends_then old now new front (take n part) first then.2))

-- a part of some bytes is one of all that begin with them
pub appends_part_longer : (old new : Option (List ℕ)) (bytes more : List ℕ) → AppendsPart old new bytes → AppendsPart old new (bytes ++ more)
appends_part_longer old new bytes more part =
    let n = part.0 in
    let within : n < length bytes = part.1 in
    let fits : n ≤ length bytes = omega (arith, within) in
    (n, omega (arith, within, length-append bytes more), rw (take-append-le n bytes more fits) part.2)
