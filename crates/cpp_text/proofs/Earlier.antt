-- What stops a call stops each call that made it.
use Rattle.std.proofs.Common.{◌≡◌, ℕ, ◌≤◌, List, inl, inr, sym, ◌∙◌, subst}
use Rattle.std.specs.Prelude.{IsSome}
use Rattle.fsc_outside.specs.Calls.{FileCounts}
use Rattle.fsc_outside.specs.Counts.{Rose}
use Rattle.fsc_outside.proofs.Earlier.{fails_earlier, misses_earlier}
use Rattle.fsc_base.specs.declared.place.Refused.{Refused}
use Rattle.fsc_base.specs.declared.place.Refused.TheVariants as reasons
use Rattle.cpp_text.specs.Outside.{StopsSearch, StopsLine, Breaks, RefusesUnit, IsOfText, NamesFault, NamesBroken, Answers}
use Rattle.cpp_text.specs.Causes.{OfText}
use Rattle.cpp_expand.specs.Causes.{Refuses}
use Rattle.fsc_base.specs.declared.place.Broken.{Broken}
use Rattle.cpp_text.specs.Stops.{stop_of}
use Rattle.cpp_text.specs.declared.refusal.PpNo.{PpNo}
use Rattle.cpp_text.specs.declared.refusal.PpNo.TheVariants as refusals
use Rattle.cpp_text.specs.declared.refusal.Stop.{Stop}
use Rattle.cpp_text.specs.declared.refusal.Stop.TheVariants as stops

pub search_earlier : (stop : Stop) (early late : FileCounts) → late.told ≡ early.told → late.blamed ≡ early.blamed → early.faults_before ≤ late.faults_before → late.faults_after ≡ early.faults_after
    → StopsSearch stop late → StopsSearch stop early
search_earlier (stops.Broken broken) early late told blamed before after h = h
search_earlier (stops.FileFault name) early late told blamed before after h = fails_earlier name early late told blamed before after h
search_earlier stops.NoMemory early late told blamed before after h = tt

pub breaks_earlier : (broken : Broken) (early late : FileCounts) → early.absences_before ≤ late.absences_before → late.absences_after ≡ early.absences_after → Breaks broken late → Breaks broken early
breaks_earlier broken early late before after (inl h) = inl h
breaks_earlier broken early late before after (inr (inl h)) = inr (inl h)
breaks_earlier broken early late before after (inr (inr h)) = inr (inr (h.0, misses_earlier early late before after h.1))

pub line_earlier : (stop : Stop) (early late : FileCounts) → late.told ≡ early.told → late.blamed ≡ early.blamed → early.faults_before ≤ late.faults_before → late.faults_after ≡ early.faults_after
    → early.absences_before ≤ late.absences_before → late.absences_after ≡ early.absences_after → StopsLine stop late → StopsLine stop early
line_earlier (stops.Broken broken) early late told blamed faults faults_after absences absences_after h = breaks_earlier broken early late absences absences_after h
line_earlier (stops.FileFault name) early late told blamed faults faults_after absences absences_after h = fails_earlier name early late told blamed faults faults_after h
line_earlier stops.NoMemory early late told blamed faults faults_after absences absences_after h = tt

-- what stops a search stops its line
pub line_of_search : (stop : Stop) (outside : FileCounts) → StopsSearch stop outside → StopsLine stop outside
line_of_search (stops.Broken broken) outside h = absurd h
line_of_search (stops.FileFault name) outside h = h
line_of_search stops.NoMemory outside h = tt

-- what was read already stops its line
pub line_of_refused : (refused : Refused) (outside : FileCounts) → Refuses OfText refused → StopsLine (stop_of refused) outside
line_of_refused (reasons.Broken broken) outside h = inl h
line_of_refused reasons.NoMemory outside h = tt

-- what the text alone refuses
pub refuses_text : (refusal : PpNo) (name : List ℕ) (outside : FileCounts) → IsOfText refusal → RefusesUnit refusal name outside
refuses_text (refusals.Broken broken file) name outside h = inl h
refuses_text refusals.Missing name outside h = absurd h
refuses_text (refusals.FileFault file) name outside h = absurd h
refuses_text refusals.NoMemory name outside h = tt

-- what a fault refuses
pub refuses_fault : (refusal : PpNo) (name own : List ℕ) (outside : FileCounts) → NamesFault refusal name → Rose outside.faults_before outside.faults_after → (IsSome outside.told → outside.blamed ≡ name) → RefusesUnit refusal own outside
refuses_fault (refusals.Broken broken file) name own outside h rose blamed = absurd h
refuses_fault refusals.Missing name own outside h rose blamed = absurd h
refuses_fault (refusals.FileFault file) name own outside h rose blamed = (rose, λ some. blamed some ∙ sym h)
refuses_fault refusals.NoMemory name own outside h rose blamed = tt

-- what a stop refuses
pub refuses_broken : (refusal : PpNo) (broken : Broken) (name : List ℕ) (outside : FileCounts) → NamesBroken refusal broken → Breaks broken outside → RefusesUnit refusal name outside
refuses_broken (refusals.Broken found file) broken name outside h k = subst (λ b. Breaks b outside) (sym h) k
refuses_broken refusals.Missing broken name outside h k = absurd h
refuses_broken (refusals.FileFault file) broken name outside h k = absurd h
refuses_broken refusals.NoMemory broken name outside h k = tt

pub refuses_stop : (stop : Stop) (refusal : PpNo) (name : List ℕ) (outside : FileCounts) → Answers stop refusal → StopsLine stop outside → RefusesUnit refusal name outside
refuses_stop (stops.Broken broken) refusal name outside h k = refuses_broken refusal broken name outside h k
refuses_stop (stops.FileFault file) refusal name outside h k = let P : PpNo → Type 0 = λ r. RefusesUnit r name outside in subst P (sym h) k
refuses_stop stops.NoMemory refusal name outside h k = let P : PpNo → Type 0 = λ r. RefusesUnit r name outside in subst P (sym h) tt

-- a broken rule of the text that is named
pub text_broken : (refusal : PpNo) (broken : Broken) → NamesBroken refusal broken → OfText broken.rule → IsOfText refusal
text_broken (refusals.Broken found file) broken h k = subst (λ b. OfText b.rule) (sym h) k
text_broken refusals.Missing broken h k = absurd h
text_broken (refusals.FileFault file) broken h k = absurd h
text_broken refusals.NoMemory broken h k = tt
