use Rattle.std.proofs.Common.{◌+◌, ◌*◌, ap, ◌∙◌}
use Rattle.std.proofs.lemmas.Result.{err_from_is_err_and}
use Rattle.elf_image.specs.declared.file_header.FileHeader.{FileHeader}
use Rattle.elf_image.proofs.SegmentLoop.{fault_ends}
use Rattle.elf_image.proofs.reading.segments_of.Goals as goal

pub returns-in_err-found : goal.returns-in_err-found
returns-in_err-found c =
    let p = err_from_is_err_and c.from_residual.result c.from_residual.ensures.1 in
    let same_place = c.place_of-place.ensures ∙ ap (λ (h : FileHeader). h.table + 32 * c.loop-index.index) c.requires.of_file in
    rw (p.1, p.2) (fault_ends c.args.file.now c.args.header.now.count c.loop-index.index c.deref.result.now c.place_of-place.result c.in_err-found.field-0.0
    c.loop-index-test.true c.loop-index.invariant.clear (c.deref.ensures.value ∙ c.loop-index.invariant.so_far) same_place c.in_err-found.ensures.exact)
