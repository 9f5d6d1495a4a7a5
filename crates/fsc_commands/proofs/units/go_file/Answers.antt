use Rattle.std.proofs.Common.{◌≡◌, ℕ, List, [], ◌∷◌, refl, subst, ◌∙◌}
use Rattle.fsc_outside.specs.Calls.{counts_of}
use Rattle.fsc_core.specs.declared.refusal.CoreNo.TheVariants as core
use Rattle.fsc_run.specs.Running.{streams_of}
use Rattle.fsc_commands.specs.Refusing.{refused_so}
use Rattle.fsc_commands.specs.Going.{RunsFiles, files_refused}
use Rattle.fsc_commands.proofs.units.go_file.Goals as goal

pub returns-in_default-clause-ran : goal.returns-in_default-clause-ran
returns-in_default-clause-ran g c =
    files_refused c.requires (refused_so core.NoMemory c.without_run.ensures.ending tt) (c.without_run.ensures.marks, (refl, refl), refl)

pub returns-clause-ran : goal.returns-clause-ran
returns-clause-ran g c =
    subst (λ (f : List ℕ). RunsFiles c.go_units.new.made c.go_units.result.ending c.go_units.result.marks (f ∷ []) c.args.steps c.args.stats (counts_of g.F.Files c.args.files.now c.go_units.new.files)
    ((c.go_units.new.input ≡ c.args.input.now) × (c.go_units.new.out ≡ c.args.out.now)) (streams_of g.S.Source g.O.Sink c.args.input.now c.args.out.now)
    (streams_of g.S.Source g.O.Sink c.go_units.new.input c.go_units.new.out)) (c.in-Ok.ensures ∙ c.as_slice.ensures) c.go_units.ensures.ran
