-- What is asked for is one job.
use Rattle.std.proofs.Common.{◌≡◌, ◌≢◌, ℕ, List, [], ◌∷◌, length, Bool, Option, Some, None, sym, ap, subst}
use Rattle.std.specs.Prelude.{IsSome}
use Rattle.fsc_outside.specs.FileMap.{FileMap, Holds}
use Rattle.plain_text.specs.Program.{IsPlain}
use Rattle.plain_text.proofs.ProgramLaws.{one_program_law}
use Rattle.command_line.specs.Requests.{Listed, IsUsable}
use Rattle.command_line.specs.declared.request.Request.{Request}
use Rattle.command_line.specs.declared.request.Request.TheVariants as request
use Rattle.command_line.proofs.RequestLaws
use Rattle.fsc_commands.specs.Refusing.{IsNoProgram}
use Rattle.fsc_tool.specs.Words.{Asks, AsksFiles, AsksRun, NamesToWrite, writes_of}
use Rattle.fsc_tool.specs.Tool.{Job, IsAsked}

-- words that ask for a run ask for one
pub one_request : (words : List (List ℕ)) (f g : List ℕ) (m n : ℕ) → Asks words f m → Asks words g n → (f ≡ g) × (m ≡ n)
one_request words f g m n p q =
    let same : request.Go m p.0 (f ∷ []) ≡ request.Go n q.0 (g ∷ []) = RequestLaws.one_request words (request.Go m p.0 (f ∷ [])) (request.Go n q.0 (g ∷ [])) p.1 q.1 in
    (cc, cc)

pub one_run : (words : List (List ℕ)) (f g : List ℕ) (m n : ℕ) (s t : Bool) → AsksRun words f m s → AsksRun words g n t → (f ≡ g) × ((m ≡ n) × (s ≡ t))
one_run words f g m n s t p q =
    let same : request.Run m s f ≡ request.Run n t g = RequestLaws.one_request words (request.Run m s f) (request.Run n t g) p q in
    (cc, (cc, cc))

pub not_both : (words : List (List ℕ)) (f g : List ℕ) (m n : ℕ) (t : Bool) → Asks words f m → AsksRun words g n t → ⊥
not_both words f g m n t p q =
    let same : request.Go m p.0 (f ∷ []) ≡ request.Run n t g = RequestLaws.one_request words (request.Go m p.0 (f ∷ [])) (request.Run n t g) p.1 q in
    cc

-- words that ask for one file don't ask for more
pub not_several : (words : List (List ℕ)) (f : List ℕ) (m n : ℕ) (files : List (List ℕ)) (s : Bool) → Asks words f m → AsksFiles words files n s → length files ≢ 1 → ⊥
not_several words f m n files s p q several =
    let same : request.Go m p.0 (f ∷ []) ≡ request.Go n s files = RequestLaws.one_request words (request.Go m p.0 (f ∷ [])) (request.Go n s files) p.1 q in
    let one : f ∷ [] ≡ files = cc in
    several (ap length (sym one))

-- nor do they ask for a run
pub not_files_run : (words : List (List ℕ)) (g : List ℕ) (m n : ℕ) (files : List (List ℕ)) (s t : Bool) → AsksFiles words files m s → AsksRun words g n t → ⊥
not_files_run words g m n files s t p q =
    let same : request.Go m s files ≡ request.Run n t g = RequestLaws.one_request words (request.Go m s files) (request.Run n t g) p q in
    cc

pub usable : (words : List (List ℕ)) (asked : Request) → Listed words asked → IsUsable words
usable words asked listed = RequestLaws.usable words asked listed

-- a told file has one text
pub one_text : (told : Option FileMap) (file : List ℕ) (s t : List ℕ) → IsSome told → Holds told file (Some s) → Holds told file (Some t) → s ≡ t
one_text None file s t is_told p q = absurd cc
one_text (Some files) file s t is_told p q = cc

-- a told file that has a text is not missing
pub not_missing : (told : Option FileMap) (file : List ℕ) (s : List ℕ) → IsSome told → Holds told file (Some s) → Holds told file None → ⊥
not_missing None file s is_told p q = absurd cc
not_missing (Some files) file s is_told p q = cc

-- words and told files ask for one run
pub one_job : (words : List (List ℕ)) (told : Option FileMap) (a b : Job) → IsSome told → IsAsked words told a → IsAsked words told b
    → (a.program ≡ b.program) × (a.steps ≡ b.steps)
one_job words told a b is_told p q =
    let request = one_request words a.file b.file a.steps b.steps p.request q.request in
    let held : Holds told b.file (Some a.text) = subst (λ (f : List ℕ). Holds told f (Some a.text)) request.0 p.text in
    let text = one_text told b.file a.text b.text is_told held q.text in
    (one_program_law b.text a.program b.program (subst (λ (t : List ℕ). IsPlain t a.program) text p.plain) q.plain, request.1)

-- a told file whose text is that of no job asks for none
pub no_job : (words : List (List ℕ)) (told : Option FileMap) (file : List ℕ) (steps : ℕ) (text : List ℕ) → Asks words file steps → Holds told file (Some text) → IsNoProgram text
    → (job : Job) → IsSome told → IsAsked words told job → ⊥
no_job words told file steps text asks held none job is_told asked =
    let same = one_request words file job.file steps job.steps asks asked.request in
    let held_here : Holds told job.file (Some text) = subst (λ (f : List ℕ). Holds told f (Some text)) same.0 held in
    none job.program (subst (λ (t : List ℕ). IsPlain t job.program) (one_text told job.file job.text text is_told asked.text held_here) asked.plain)

-- of two requests that words are listed as
pub same_request : (words : List (List ℕ)) (a b : Request) → Listed words a → Listed words b → a ≡ b
same_request words a b p q = RequestLaws.one_request words a b p q

-- words of a run, of `go` or of `mean` name no file to be written
pub writes_none : (words : List (List ℕ)) (file : List ℕ) (asked : Request) → Listed words asked → writes_of asked ≡ None → NamesToWrite words file → ⊥
writes_none words file asked listed none writes =
    let same : writes.0 ≡ asked = same_request words writes.0 asked writes.1 listed in
    let some : writes_of asked ≡ Some file = subst (λ (r : Request). writes_of r ≡ Some file) same writes.2 in
    cc

-- words of another request are not those of a run, nor of one file's
pub not_run : (words : List (List ℕ)) (asked : Request) (file : List ℕ) (steps : ℕ) (stats : Bool) → Listed words asked → AsksRun words file steps stats
    → (asked ≡ request.Run steps stats file → ⊥) → ⊥
not_run words asked file steps stats listed asks apart = apart (same_request words asked (request.Run steps stats file) listed asks)

pub not_go : (words : List (List ℕ)) (asked : Request) (file : List ℕ) (steps : ℕ) → Listed words asked → (asks : Asks words file steps)
    → (asked ≡ request.Go steps asks.0 (file ∷ []) → ⊥) → ⊥
not_go words asked file steps listed asks apart = apart (same_request words asked (request.Go steps asks.0 (file ∷ [])) listed asks.1)
