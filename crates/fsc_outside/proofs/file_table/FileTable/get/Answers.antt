use Rattle.std.proofs.Common.{sym, ap, ◌∙◌, Some}
use Rattle.fsc_outside.specs.FileMap.{FileMap, file_of}
use Rattle.fsc_outside.proofs.Named.{file_of-named}
use Rattle.fsc_outside.proofs.file_table.FileTable.get.Goals as goal

pub returns-in-Some : goal.returns-in-Some
returns-in-Some c =
    ap Some (c.as_slice.ensures) ∙ c.in-Some.ensures.value
    ∙ sym (file_of-named c.self.inside.entries.entries c.args.name.now) ∙ ap (λ (files : FileMap). file_of files c.args.name.now) c.self.view_is

pub returns-in-None : goal.returns-in-None
returns-in-None c = c.in-None.ensures.value ∙ sym (file_of-named c.self.inside.entries.entries c.args.name.now) ∙ ap (λ (files : FileMap). file_of files c.args.name.now) c.self.view_is
