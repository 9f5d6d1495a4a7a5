use Rattle.std.proofs.Common.{◌≡◌, [], ◌∷◌, sym, subst₂, rules}
use Rattle.fsc_outside.specs.Calls.{counts_of}
use Rattle.fsc_run.specs.declared.running.Done.{Done}
use Rattle.fsc_run.specs.Running.{streams_of}
use Rattle.fsc_commands.specs.Going.{RunsFiles}
use Rattle.fsc_commands.proofs.c_file.go_text.Goals as goal

pub returns-clause-ran : goal.returns-clause-ran
returns-clause-ran g c =
    subst₂ (λ (done : Done) (files : g.row.F.Denot). RunsFiles c.go_lent.new.made done.ending done.marks (c.args.file.now ∷ []) c.args.steps c.args.stats (counts_of g.F.Files c.args.files.now files)
    ((c.go_lent.new.input ≡ c.args.input.now) × (c.go_lent.new.out ≡ c.args.out.now)) (streams_of g.S.Source g.O.Sink c.args.input.now c.args.out.now)
    (streams_of g.S.Source g.O.Sink c.go_lent.new.input c.go_lent.new.out)) (sym c.answer.ensures.answer) (search rules) c.go_lent.ensures.ran
