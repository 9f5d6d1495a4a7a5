-- What holds of all words that are listed.
use Rattle.std.proofs.Common.{◌≡◌, List, inl, inr, arith}
use Rattle.std.proofs.lemmas.Grind.{common_steps}
use Rattle.clap.specs.Words.{Text}
use Rattle.command_line.specs.Requests.{Holds, IsTaken, IsUsable, Listed}
use Rattle.command_line.specs.declared.request.Request.{Request}
use Rattle.command_line.specs.declared.request.Request.TheVariants.{Build, Compile, Link, Run, Go, Mean, Report, Demo}

taken : (words : List Text) (request : Request) → Holds words request → IsTaken words
taken words (Build image files) h = inl h.0
taken words (Compile unit file) h = inr (inl h.0)
taken words (Link image units) h = inr (inr (inl h.0))
taken words (Run steps stats image) h = inr (inr (inr (inl h.0)))
taken words (Go steps stats files) h = inr (inr (inr (inr (inl h.0))))
taken words (Mean cost files) h = inr (inr (inr (inr (inr (inl h.0)))))
taken words (Report steps files) h = inr (inr (inr (inr (inr (inr (inl h.0))))))
taken words (Demo count) h = inr (inr (inr (inr (inr (inr (inr h.0))))))

-- words that are listed are usable
pub usable : (words : List Text) (request : Request) → Listed words request → IsUsable words
unfolding IsUsable Listed
usable words request h = (h.0, taken words request h.1)

-- words are listed as one request at most
pub one_request : (words : List Text) (r s : Request) → Listed words r → Listed words s → r ≡ s
unfolding Listed
one_request words r s p q = grind (arith, common_steps)
