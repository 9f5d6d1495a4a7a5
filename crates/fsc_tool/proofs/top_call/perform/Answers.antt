use Rattle.std.proofs.Common.{◌≡◌, ℕ, List, inl, refl, ap, subst, sym, ◌∙◌, arith}
use Rattle.command_line.specs.Requests.{Listed}
use Rattle.command_line.specs.declared.request.Request.{Request}
use Rattle.command_line.specs.declared.request.Request.TheVariants as request
use Rattle.fsc_outside.specs.Calls.{counts_of}
use Rattle.fsc_ending.specs.declared.ending.Ending.{Ending}
use Rattle.fsc_run.specs.Running.{streams_of}
use Rattle.fsc_commands.specs.Writing.{BuildsFiles, CompilesFile, LinksFiles}
use Rattle.fsc_commands.specs.Meaning.{MeansFiles}
use Rattle.fsc_commands.specs.Demonstrating.{RunsDemo}
use Rattle.fsc_tool.specs.Performing.{file_asked, files_asked, image_asked, build_asked, compile_asked, link_asked, meaning_asked, report_asked}
use Rattle.fsc_tool.proofs.Demonstrations.{of_demo}
use Rattle.fsc_tool.proofs.Files.{builds_keep, compiles_keep, links_keep, keeps_named}
use Rattle.fsc_tool.proofs.Names.{one_name}
use Rattle.fsc_tool.proofs.Telling.{told_other, told_report}
use Rattle.fsc_tool.proofs.top_call.perform.Goals as goal

pub returns-then-names-eq1-clause-performed : goal.returns-then-names-eq1-clause-performed
returns-then-names-eq1-clause-performed g c =
    file_asked c.index-names-0.result c.in-Ok-Go.steps c.in-Ok-Go.stats
    (subst (λ (names : List (List ℕ)). Listed c.args.words.now (request.Go c.in-Ok-Go.steps c.in-Ok-Go.stats names)) (one_name _ c.index-names-0.result (omega arith) (omega arith) c.index-names-0.is) (subst (λ (asked : Request). Listed c.args.words.now asked) (c.in-Ok-Go.field-0-is ∙ ap (λ (names : List (List ℕ)). request.Go c.in-Ok-Go.steps c.in-Ok-Go.stats names) (sym c.as_slice-names.ensures)) c.in-Ok-Go.ensures.found))
    c.go.ensures.ran

pub returns-then-names-eq1-clause-untouched : goal.returns-then-names-eq1-clause-untouched
returns-then-names-eq1-clause-untouched g c = λ none.
    c.go.ensures.untouched (λ text held nobody. none (inl (c.index-names-0.result, c.in-Ok-Go.steps, text, (c.in-Ok-Go.stats, (subst (λ (names : List (List ℕ)). Listed c.args.words.now (request.Go c.in-Ok-Go.steps c.in-Ok-Go.stats names)) (one_name _ c.index-names-0.result (omega arith) (omega arith) c.index-names-0.is) (subst (λ (asked : Request). Listed c.args.words.now asked) (c.in-Ok-Go.field-0-is ∙ ap (λ (names : List (List ℕ)). request.Go c.in-Ok-Go.steps c.in-Ok-Go.stats names) (sym c.as_slice-names.ensures)) c.in-Ok-Go.ensures.found))), held, nobody)))

pub returns-in-Ok-Go-clause-performed : goal.returns-in-Ok-Go-clause-performed
returns-in-Ok-Go-clause-performed g c =
    files_asked c.as_slice-names.result.now c.in-Ok-Go.steps c.in-Ok-Go.stats
    (subst (λ (asked : Request). Listed c.args.words.now asked) (c.in-Ok-Go.field-0-is ∙ ap (λ (names : List (List ℕ)). request.Go c.in-Ok-Go.steps c.in-Ok-Go.stats names) (sym c.as_slice-names.ensures)) c.in-Ok-Go.ensures.found)
    (λ one. omega (arith, one))
    c.go_units.ensures.ran

pub returns-in-Ok-Run-clause-performed : goal.returns-in-Ok-Run-clause-performed
returns-in-Ok-Run-clause-performed g c =
    image_asked c.in-Ok-Run.image c.in-Ok-Run.steps c.in-Ok-Run.stats c.requires (subst (λ (asked : Request). Listed c.args.words.now asked) c.in-Ok-Run.field-0-is c.in-Ok-Run.ensures.found) c.run_file.ensures.ran

pub returns-in-Ok-Build-clause-performed : goal.returns-in-Ok-Build-clause-performed
returns-in-Ok-Build-clause-performed g c =
    build_asked c.in-Ok-Build.image c.as_slice.result.now c.requires
    (subst (λ (asked : Request). Listed c.args.words.now asked) (c.in-Ok-Build.field-0-is ∙ ap (λ (names : List (List ℕ)). request.Build c.in-Ok-Build.image names) (sym c.as_slice.ensures)) c.in-Ok-Build.ensures.found)
    (subst (λ (e : Ending). BuildsFiles e c.in-Ok-Build.image c.as_slice.result.now (counts_of g.F.Files c.args.files.now c.build_file.new.files) (g.F.Files.contents c.build_file.new.files)) (sym c.without_run.ensures.ending) c.build_file.ensures.builds)
    (c.without_run.ensures.marks, (refl, refl), refl)

pub returns-in-Ok-Build-clause-kept : goal.returns-in-Ok-Build-clause-kept
returns-in-Ok-Build-clause-kept g c = λ none. absurd (none c.in-Ok-Build.image ((request.Build c.in-Ok-Build.image c.as_slice.result.now), (subst (λ (asked : Request). Listed c.args.words.now asked) (c.in-Ok-Build.field-0-is ∙ ap (λ (names : List (List ℕ)). request.Build c.in-Ok-Build.image names) (sym c.as_slice.ensures)) c.in-Ok-Build.ensures.found), refl))

pub returns-in-Ok-Build-clause-others : goal.returns-in-Ok-Build-clause-others
returns-in-Ok-Build-clause-others g c =
    keeps_named c.args.words.now (request.Build c.in-Ok-Build.image c.as_slice.result.now) (g.F.Files.contents c.args.files.now) (g.F.Files.contents c.build_file.new.files) c.in-Ok-Build.image
    (subst (λ (asked : Request). Listed c.args.words.now asked) (c.in-Ok-Build.field-0-is ∙ ap (λ (names : List (List ℕ)). request.Build c.in-Ok-Build.image names) (sym c.as_slice.ensures)) c.in-Ok-Build.ensures.found)
    refl
    (builds_keep c.build_file.result c.in-Ok-Build.image c.as_slice.result.now (counts_of g.F.Files c.args.files.now c.build_file.new.files) (g.F.Files.contents c.build_file.new.files) c.build_file.ensures.builds)

pub returns-in-Ok-Compile-clause-performed : goal.returns-in-Ok-Compile-clause-performed
returns-in-Ok-Compile-clause-performed g c =
    compile_asked c.in-Ok-Compile.unit c.in-Ok-Compile.file c.requires
    (subst (λ (asked : Request). Listed c.args.words.now asked) c.in-Ok-Compile.field-0-is c.in-Ok-Compile.ensures.found)
    (subst (λ (e : Ending). CompilesFile e c.in-Ok-Compile.unit c.in-Ok-Compile.file (counts_of g.F.Files c.args.files.now c.compile_file.new.files) (g.F.Files.contents c.compile_file.new.files)) (sym c.without_run-in-Ok-Compile.ensures.ending) c.compile_file.ensures.compiles)
    (c.without_run-in-Ok-Compile.ensures.marks, (refl, refl), refl)

pub returns-in-Ok-Compile-clause-kept : goal.returns-in-Ok-Compile-clause-kept
returns-in-Ok-Compile-clause-kept g c = λ none. absurd (none c.in-Ok-Compile.unit ((request.Compile c.in-Ok-Compile.unit c.in-Ok-Compile.file), (subst (λ (asked : Request). Listed c.args.words.now asked) c.in-Ok-Compile.field-0-is c.in-Ok-Compile.ensures.found), refl))

pub returns-in-Ok-Compile-clause-others : goal.returns-in-Ok-Compile-clause-others
returns-in-Ok-Compile-clause-others g c =
    keeps_named c.args.words.now (request.Compile c.in-Ok-Compile.unit c.in-Ok-Compile.file) (g.F.Files.contents c.args.files.now) (g.F.Files.contents c.compile_file.new.files) c.in-Ok-Compile.unit
    (subst (λ (asked : Request). Listed c.args.words.now asked) c.in-Ok-Compile.field-0-is c.in-Ok-Compile.ensures.found)
    refl
    (compiles_keep c.compile_file.result c.in-Ok-Compile.unit c.in-Ok-Compile.file (counts_of g.F.Files c.args.files.now c.compile_file.new.files) (g.F.Files.contents c.compile_file.new.files) c.compile_file.ensures.compiles)

pub returns-in-Ok-Link-clause-performed : goal.returns-in-Ok-Link-clause-performed
returns-in-Ok-Link-clause-performed g c =
    link_asked c.in-Ok-Link.image c.as_slice-in-Ok-Link.result.now c.requires
    (subst (λ (asked : Request). Listed c.args.words.now asked) (c.in-Ok-Link.field-0-is ∙ ap (λ (names : List (List ℕ)). request.Link c.in-Ok-Link.image names) (sym c.as_slice-in-Ok-Link.ensures)) c.in-Ok-Link.ensures.found)
    (subst (λ (e : Ending). LinksFiles e c.in-Ok-Link.image c.as_slice-in-Ok-Link.result.now (counts_of g.F.Files c.args.files.now c.link_files.new.files) (g.F.Files.contents c.link_files.new.files)) (sym c.without_run-in-Ok-Link.ensures.ending) c.link_files.ensures.links)
    (c.without_run-in-Ok-Link.ensures.marks, (refl, refl), refl)

pub returns-in-Ok-Link-clause-kept : goal.returns-in-Ok-Link-clause-kept
returns-in-Ok-Link-clause-kept g c = λ none. absurd (none c.in-Ok-Link.image ((request.Link c.in-Ok-Link.image c.as_slice-in-Ok-Link.result.now), (subst (λ (asked : Request). Listed c.args.words.now asked) (c.in-Ok-Link.field-0-is ∙ ap (λ (names : List (List ℕ)). request.Link c.in-Ok-Link.image names) (sym c.as_slice-in-Ok-Link.ensures)) c.in-Ok-Link.ensures.found), refl))

pub returns-in-Ok-Link-clause-others : goal.returns-in-Ok-Link-clause-others
returns-in-Ok-Link-clause-others g c =
    keeps_named c.args.words.now (request.Link c.in-Ok-Link.image c.as_slice-in-Ok-Link.result.now) (g.F.Files.contents c.args.files.now) (g.F.Files.contents c.link_files.new.files) c.in-Ok-Link.image
    (subst (λ (asked : Request). Listed c.args.words.now asked) (c.in-Ok-Link.field-0-is ∙ ap (λ (names : List (List ℕ)). request.Link c.in-Ok-Link.image names) (sym c.as_slice-in-Ok-Link.ensures)) c.in-Ok-Link.ensures.found)
    refl
    (links_keep c.link_files.result c.in-Ok-Link.image c.as_slice-in-Ok-Link.result.now (counts_of g.F.Files c.args.files.now c.link_files.new.files) (g.F.Files.contents c.link_files.new.files) c.link_files.ensures.links)

pub returns-in-Ok-Mean-clause-performed : goal.returns-in-Ok-Mean-clause-performed
returns-in-Ok-Mean-clause-performed g c =
    meaning_asked c.as_slice-in-Ok-Mean.result.now c.in-Ok-Mean.cost c.requires
    (subst (λ (asked : Request). Listed c.args.words.now asked) (c.in-Ok-Mean.field-0-is ∙ ap (λ (names : List (List ℕ)). request.Mean c.in-Ok-Mean.cost names) (sym c.as_slice-in-Ok-Mean.ensures)) c.in-Ok-Mean.ensures.found)
    c.without_run-in-Ok-Mean.ensures.marks
    (subst (λ (e : Ending). MeansFiles e c.as_slice-in-Ok-Mean.result.now c.in-Ok-Mean.cost (counts_of g.F.Files c.args.files.now c.mean.new.files) ((c.mean.new.input ≡ c.args.input.now) × (c.mean.new.out ≡ c.args.out.now)) (streams_of g.S.Source g.O.Sink c.args.input.now c.args.out.now) (streams_of g.S.Source g.O.Sink c.mean.new.input c.mean.new.out)) (sym c.without_run-in-Ok-Mean.ensures.ending) c.mean.ensures.means)

pub returns-in-Ok-Demo-clause-performed : goal.returns-in-Ok-Demo-clause-performed
returns-in-Ok-Demo-clause-performed g c =
    of_demo _ _ _ _ _ _ _ _ c.in-Ok-Demo.count _ _ _
    (subst (λ (asked : Request). Listed c.args.words.now asked) c.in-Ok-Demo.field-0-is c.in-Ok-Demo.ensures.found)
    c.without_run-in-Ok-Demo.ensures.marks
    (λ is. c.demo.ensures.unread (sym c.without_run-in-Ok-Demo.ensures.ending ∙ is))
    (λ same. (refl, same))
    (subst (λ (e : Ending). RunsDemo c.demo.new.made e c.in-Ok-Demo.count (c.demo.new.out ≡ c.args.out.now) (g.O.Sink.written c.args.out.now) (g.O.Sink.written c.demo.new.out)) (sym c.without_run-in-Ok-Demo.ensures.ending) c.demo.ensures.ran)

pub returns-in-Ok-Report-clause-performed : goal.returns-in-Ok-Report-clause-performed
returns-in-Ok-Report-clause-performed g c =
    report_asked c.as_slice-in-Ok-Report.result.now c.in-Ok-Report.steps _
    (subst (λ (asked : Request). Listed c.args.words.now asked) (c.in-Ok-Report.field-0-is ∙ ap (λ (names : List (List ℕ)). request.Report c.in-Ok-Report.steps names) (sym c.as_slice-in-Ok-Report.ensures)) c.in-Ok-Report.ensures.found)
    c.report_files.ensures.ran

pub returns-in-Ok-Report-clause-told : goal.returns-in-Ok-Report-clause-told
returns-in-Ok-Report-clause-told g c =
    told_report _ _ _ _ _ c.as_slice-in-Ok-Report.result.now c.in-Ok-Report.steps _ _ _ _
    (subst (λ (asked : Request). Listed c.args.words.now asked) (c.in-Ok-Report.field-0-is ∙ ap (λ (names : List (List ℕ)). request.Report c.in-Ok-Report.steps names) (sym c.as_slice-in-Ok-Report.ensures)) c.in-Ok-Report.ensures.found)
    c.report_files.ensures.ran

pub returns-then-names-eq1-clause-told : goal.returns-then-names-eq1-clause-told
returns-then-names-eq1-clause-told g c =
    told_other _ _ _ _ _ _ (request.Go c.in-Ok-Go.steps c.in-Ok-Go.stats c.as_slice-names.result.now)
    (subst (λ (asked : Request). Listed c.args.words.now asked) (c.in-Ok-Go.field-0-is ∙ ap (λ (names : List (List ℕ)). request.Go c.in-Ok-Go.steps c.in-Ok-Go.stats names) (sym c.as_slice-names.ensures)) c.in-Ok-Go.ensures.found)
    refl

pub returns-in-Ok-Go-clause-told : goal.returns-in-Ok-Go-clause-told
returns-in-Ok-Go-clause-told g c =
    told_other _ _ _ _ _ _ (request.Go c.in-Ok-Go.steps c.in-Ok-Go.stats c.as_slice-names.result.now)
    (subst (λ (asked : Request). Listed c.args.words.now asked) (c.in-Ok-Go.field-0-is ∙ ap (λ (names : List (List ℕ)). request.Go c.in-Ok-Go.steps c.in-Ok-Go.stats names) (sym c.as_slice-names.ensures)) c.in-Ok-Go.ensures.found)
    refl

pub returns-in-Ok-Run-clause-told : goal.returns-in-Ok-Run-clause-told
returns-in-Ok-Run-clause-told g c =
    told_other _ _ _ _ _ _ (request.Run c.in-Ok-Run.steps c.in-Ok-Run.stats c.in-Ok-Run.image)
    (subst (λ (asked : Request). Listed c.args.words.now asked) c.in-Ok-Run.field-0-is c.in-Ok-Run.ensures.found)
    refl

pub returns-in-Ok-Demo-clause-told : goal.returns-in-Ok-Demo-clause-told
returns-in-Ok-Demo-clause-told g c =
    told_other _ _ _ _ _ _ (request.Demo c.in-Ok-Demo.count)
    (subst (λ (asked : Request). Listed c.args.words.now asked) c.in-Ok-Demo.field-0-is c.in-Ok-Demo.ensures.found)
    refl
