-- Lines that are written one after another.
use Rattle.std.proofs.Common.{ℕ, ◌<◌, inl, inr, List, [], ◌∷◌, ◌++◌, length, Option, refl, length-append, arith}
use Rattle.fsc_outside.specs.Streams.{Appends, AppendsPart}
use Rattle.fsc_outside.proofs.Appending.{appends_nothing, appends_then, appends_part_then, appends_part_longer}
use Rattle.fsc_ending.specs.declared.ending.Ending.{Ending}
use Rattle.block_report.specs.declared.live.Live.{Live}
use Rattle.fsc_ending.specs.Ending.{line, note_of}
use Rattle.fsc_ending.specs.Lives.{front_of}
use Rattle.fsc_ending.specs.Reporting.{IsUnsaid, IsReported}

-- a line is never empty
pub some_line : (text : List ℕ) → 0 < length (line text)
some_line text = omega (arith, length-append text (10 ∷ []))

-- nothing is a part of what there is
pub nothing_of : (told : Option (List ℕ)) (bytes : List ℕ) → 0 < length bytes → AppendsPart told told bytes
nothing_of told bytes some = (0, some, appends_nothing told)

-- where the first of two texts has something, both have
pub front_refused : (first then : List ℕ) → 0 < length first → 0 < length (first ++ then)
front_refused first then some = omega (arith, length-append first then)

-- and where the second has
pub behind_refused : (first then : List ℕ) → 0 < length then → 0 < length (first ++ then)
behind_refused first then some = omega (arith, length-append first then)

-- all lines were written
pub reported_whole : (said : Ending) (marks : Option ℕ) (lives : Option (List Live)) (before now after : Option (List ℕ)) → Appends before now (front_of marks lives)
    → Appends now after (note_of said) → IsReported said marks lives said before after
reported_whole said marks lives before now after first then = inl (refl, appends_then before now after (front_of marks lives) (note_of said) first then)

-- the last line was cut short
pub reported_late : (said answer : Ending) (marks : Option ℕ) (lives : Option (List Live)) (before now after : Option (List ℕ)) → IsUnsaid answer
    → Appends before now (front_of marks lives) → AppendsPart now after (note_of said) → IsReported said marks lives answer before after
reported_late said answer marks lives before now after unsaid first then =
    inr (unsaid, appends_part_then before now after (front_of marks lives) (note_of said) first then)

-- those before it were
pub reported_early : (said answer : Ending) (marks : Option ℕ) (lives : Option (List Live)) (before after : Option (List ℕ)) → IsUnsaid answer
    → AppendsPart before after (front_of marks lives) → IsReported said marks lives answer before after
reported_early said answer marks lives before after unsaid first = inr (unsaid, appends_part_longer before after (front_of marks lives) (note_of said) first)
