use Rattle.std.proofs.Common.{refl, subst}
use Rattle.fsc_commands.specs.declared.c_file.Found.{Found}
use Rattle.fsc_commands.specs.Finding.{IsFound}
use Rattle.fsc_commands.specs.Going.{file_unread, file_ran}
use Rattle.fsc_commands.proofs.Fronting.{built_file}
use Rattle.fsc_commands.proofs.c_file.go.Goals as goal

pub returns-in-Ok-Plain-clause-ran : goal.returns-in-Ok-Plain-clause-ran
returns-in-Ok-Plain-clause-ran g c =
    file_ran c.in-Ok-Plain.program
    (subst (λ (f : Found). IsFound f c.args.file.now (g.F.Files.contents c.args.files.now)) c.in-Ok-Plain.field-0-is c.in-Ok-Plain.ensures.plain) c.run.ensures.runs

pub returns-in-Err-clause-ran : goal.returns-in-Err-clause-ran
returns-in-Err-clause-ran g c = rw c.without_run.ensures.ending (file_unread c.requires c.in-Err.ensures.refused (c.without_run.ensures.marks, (refl, refl), refl))

pub returns-in-Ok-Text-clause-ran : goal.returns-in-Ok-Text-clause-ran
returns-in-Ok-Text-clause-ran g c =
    let found = subst (λ (f : Found). IsFound f c.args.file.now (g.F.Files.contents c.args.files.now)) c.in-Ok-Text.field-0-is c.in-Ok-Text.ensures.plain in
    built_file _ _ _ c.args.file.now c.in-Ok-Text.text _ _ _ _ _ _ _ c.in-Ok-Text.ensures.kept refl c.in-Ok-Text.ensures.faults_counted refl c.in-Ok-Text.ensures.absences_counted refl
    found.0 found.1 c.go_text.ensures.ran

pub returns-in-Ok-Text-clause-untouched : goal.returns-in-Ok-Text-clause-untouched
returns-in-Ok-Text-clause-untouched g c =
    let found = subst (λ (f : Found). IsFound f c.args.file.now (g.F.Files.contents c.args.files.now)) c.in-Ok-Text.field-0-is c.in-Ok-Text.ensures.plain in
    λ none. absurd (none c.in-Ok-Text.text found.0 found.1)

pub returns-in-Ok-Plain-clause-untouched : goal.returns-in-Ok-Plain-clause-untouched
returns-in-Ok-Plain-clause-untouched g c = λ none. c.run.ensures.untouched
