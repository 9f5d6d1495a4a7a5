use Rattle.std.proofs.Common.{◌≡◌, length}
use Rattle.pp_token.specs.Stepping.{IsReady, all_of, gathered}
use Rattle.pp_token.proofs.reading.Reader.steps.Given as goal

abbrev pub invariant-pieces : goal.invariant-pieces
invariant-pieces l = record {
  ready : IsReady l.self;
  so_far : gathered l.tokens.items (all_of l.self) ≡ gathered l.initial.tokens.items (all_of l.initial.self);
}

abbrev pub decreases-pieces : goal.decreases-pieces
decreases-pieces l = length l.self.text.now
