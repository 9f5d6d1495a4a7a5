-- What was said, and what the notes put in its place.
use Rattle.std.proofs.Common.{◌≡◌, ℕ, ◌⊎◌, inl, inr, List, Option, None, sym, subst, ◌∙◌}
use Rattle.block_report.specs.declared.live.Live.{Live}
use Rattle.fsc_ending.specs.declared.ending.Ending.{Ending}
use Rattle.fsc_ending.specs.declared.ending.Ending.TheVariants.{NoteFault, NoMemory}
use Rattle.fsc_ending.specs.Reporting.{IsUnless, IsReported}

pub unless : (said ending : Ending) (marks : Option ℕ) (lives : Option (List Live)) (before after : Option (List ℕ)) → IsReported said marks lives ending before after → IsUnless said ending
unless said ending marks lives before after (inl (is, whole)) = inl is
unless said ending marks lives before after (inr (unsaid, part)) = inr unsaid

-- what was reported where no objects were told
pub no_lives : (said answer : Ending) (marks : Option ℕ) (lives : Option (List Live)) (before after : Option (List ℕ)) → lives ≡ None
    → IsReported said marks lives answer before after → IsReported said marks None answer before after
no_lives said answer marks lives before after none is = subst (λ (l : Option (List Live)). IsReported said marks l answer before after) none is

-- the answer where the notes took no other's place
pub is_said : (said ending wanted : Ending) → IsUnless said ending → ending ≡ wanted → (wanted ≡ NoteFault → ⊥) → (wanted ≡ NoMemory → ⊥) → said ≡ wanted
is_said said ending wanted (inl same) is no_note no_memory = sym same ∙ is
is_said said ending wanted (inr (inl fault)) is no_note no_memory = absurd (no_note (sym is ∙ fault))
is_said said ending wanted (inr (inr memory)) is no_note no_memory = absurd (no_memory (sym is ∙ memory))

-- what was to be said, or memory was refused
pub reported : (wanted said ending : Ending) → (said ≡ wanted) ⊎ (said ≡ NoMemory) → IsUnless said ending → IsUnless wanted ending
reported wanted said ending (inl same) (inl is) = inl (is ∙ same)
reported wanted said ending (inr memory) (inl is) = inr (inr (is ∙ memory))
reported wanted said ending told (inr other) = inr other
