-- What sort an answer is that names a cause or comes of a run.
use Rattle.std.proofs.Common.{◌≡◌, ℕ, ◌⊎◌, inl, inr, List, Bool, Option, Result, Ok, Err, refl, ap, ◌∙◌}
use Rattle.fsc_base.specs.declared.image.Image.{Image}
use Rattle.fsc_outside.specs.Calls.{FileCounts}
use Rattle.elf_image.specs.declared.fault.ElfFault.{ElfFault}
use Rattle.elf_image.specs.declared.fault.ReadElfNo.{ReadElfNo}
use Rattle.elf_image.specs.declared.fault.ReadElfNo.TheVariants as elf
use Rattle.rv_run.specs.Machine.{State}
use Rattle.rv_run.specs.ImageRun.{Streams}
use Rattle.fsc_ending.specs.declared.ending.Ending.{Ending}
use Rattle.fsc_ending.specs.declared.ending.Ending.TheVariants.{BadImage}
use Rattle.fsc_ending.specs.Sort.{ran, refused, sort_of, IsOfSort}
use Rattle.fsc_ending.proofs.Sorting.{sort_of_run}
use Rattle.fsc_run.specs.Reading.{RefusesRead, absent, unreadable, unheld}
use Rattle.fsc_run.specs.Running.{RanFrom, RunsImage}

pub refused_read : (ending : Ending) (file : List ℕ) (counts : FileCounts) → RefusesRead ending file counts → IsOfSort refused ending
refused_read ending file counts (absent is why) = inl (ap sort_of is)
refused_read ending file counts (unreadable is why) = inl (ap sort_of is)
refused_read ending file counts (unheld is) = inr is

pub of_run : (start : State) (steps : ℕ) (stats : Bool) (ending : Ending) (marks : Option ℕ) (before after : Streams)
    → RanFrom start steps stats ending marks before after → IsOfSort ran ending
of_run start steps stats ending marks before after run =
    elim (sort_of_run steps run.stopped) [
      | inl is ↦ inl (ap sort_of run.answer ∙ is)
      | inr is ↦ inr (run.answer ∙ is)
    ]

-- the answer of a file's image, or its fault
pub of_image : (image : Result Image ReadElfNo) (steps : ℕ) (stats : Bool) (ending : Ending) (marks : Option ℕ) (kept : Type 0) (before after : Streams)
    → RunsImage image steps stats ending marks kept before after
    → IsOfSort ran ending ⊎ ((fault : ElfFault) × (offset : ℕ) × (image ≡ Err (elf.Bad fault offset)) × (ending ≡ BadImage fault offset))
of_image (Ok image) steps stats ending marks kept before after (inl none) = inl (inr none.0)
of_image (Ok image) steps stats ending marks kept before after (inr run) = inl (of_run _ steps stats ending marks before after run)
of_image (Err (elf.Bad fault offset)) steps stats ending marks kept before after (inl memory, none) = inl (inr memory)
of_image (Err (elf.Bad fault offset)) steps stats ending marks kept before after (inr bad, none) = inr (fault, offset, refl, bad)
of_image (Err elf.NoMemory) steps stats ending marks kept before after none = inl (inr none.0)

-- a run does not end by a refusal
pub not_ran : (ending wanted : Ending) → IsOfSort ran ending → ending ≡ wanted → sort_of wanted ≡ refused → ⊥
not_ran ending wanted (inl is) same refusal = let s : sort_of ending ≡ refused = ap sort_of same ∙ refusal in cc
not_ran ending wanted (inr is) same refusal = let s : sort_of ending ≡ refused = ap sort_of same ∙ refusal in let m = ap sort_of is in cc

pub not_of_image : (image : Result Image ReadElfNo) (steps : ℕ) (stats : Bool) (ending wanted : Ending) (marks : Option ℕ) (kept : Type 0) (before after : Streams)
    → RunsImage image steps stats ending marks kept before after → ending ≡ wanted → sort_of wanted ≡ refused → ⊥
not_of_image image steps stats ending wanted marks kept before after runs same refusal =
    elim (of_image image steps stats ending marks kept before after runs) [
      | inl run ↦ not_ran ending wanted run same refusal
      | inr (fault, offset, bytes, is) ↦ let s : sort_of ending ≡ refused = ap sort_of same ∙ refusal in let m = ap sort_of is in cc
    ]
