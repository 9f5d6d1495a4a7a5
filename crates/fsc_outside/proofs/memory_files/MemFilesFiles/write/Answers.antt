use Rattle.std.proofs.Common.{ap, ◌≡◌}
use Rattle.fsc_outside.specs.Memory.{FilesState}
use Rattle.fsc_outside.proofs.Named.{file_of-insert_other}
use Rattle.fsc_outside.proofs.memory_files.MemFilesFiles.write.Goals as goal
use Rattle.fsc_outside.proofs.memory_files.MemFilesFiles.write.Goals.{in-Ok-put, in-Err-put}

pub returns-clause-others : goal.returns-clause-others
returns-clause-others c other apart =
    let table : c.self.inside.table ≡ c.args.self.now.files = ap (λ (s : FilesState). s.files) c.self.view_is in
    let stays = file_of-insert_other c.args.self.now.files c.args.name.now c.args.bytes.now other apart in
    elim c.match-put.branch [
      | in-Ok-put w ↦ cc (stays, w.in-Ok-put.ensures.ok, c.as_slice.ensures)
      | in-Err-put w ↦ cc w.in-Err-put.ensures.err
    ]
