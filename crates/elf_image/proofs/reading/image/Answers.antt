use Rattle.std.proofs.Common.{◌≡◌, Bool, List, [], ◌∷◌, length, None, ap, ◌∙◌, subst}
use Rattle.std.specs.Prelude.{◌==◌}
use Rattle.fsc_base.specs.declared.image.Segment.{Segment}
use Rattle.elf_image.specs.declared.fault.ElfFault.TheVariants.{Segment as OfSegment}
use Rattle.elf_image.specs.Checking.{Refuses}
use Rattle.elf_image.specs.Faults.{first_fault, row}
use Rattle.std.proofs.lemmas.Result.{err_from_is_err_and}
use Rattle.elf_image.proofs.ImageLaws.{IsPastSegments, header_refused, segments_refused, empty_refused, image_made}
use Rattle.elf_image.proofs.reading.image.Goals as goal

pub returns-in_err-header : goal.returns-in_err-header
returns-in_err-header c =
    let p = err_from_is_err_and c.from_residual.result c.from_residual.ensures.1 in
    rw (p.1, p.2) (header_refused c.args.bytes.now c.in_err-header.field-0.0 c.in_err-header.ensures.exact)

pub returns-in_err-segments_of : goal.returns-in_err-segments_of
returns-in_err-segments_of c =
    let p = err_from_is_err_and c.from_residual-in_err-segments_of.result c.from_residual-in_err-segments_of.ensures.1 in
    rw (p.1, p.2) (segments_refused c.args.bytes.now c.in_ok-header.header c.in_err-segments_of.field-0.0 c.in_ok-header.ensures.found c.in_ok-header.ensures.exact c.in_err-segments_of.ensures)

pub returns-in_err-refuse_if : goal.returns-in_err-refuse_if
returns-in_err-refuse_if c =
    let p = err_from_is_err_and c.from_residual-in_err-refuse_if.result c.from_residual-in_err-refuse_if.ensures.1 in
    let segments = c.from_vec-segments.result in
    let past : IsPastSegments c.args.bytes.now c.in_ok-header.header segments = record {
      of_file = c.in_ok-header.ensures.found;
      header_clear = c.in_ok-header.ensures.exact;
      segments_clear = c.in_ok-segments_of.ensures.0;
      so_far = c.from_vec-segments.ensures ∙ c.in_ok-segments_of.ensures.1;
    } in
    let test = c.is_empty.ensures ∙ ap (λ (items : List Segment). length items == 0) c.as_slice.ensures in
    let refused = subst (λ (empty : Bool). Refuses (row OfSegment empty 52 ∷ []) c.in_err-refuse_if.field-0.0) test c.in_err-refuse_if.ensures in
    rw (p.1, p.2) (empty_refused c.args.bytes.now c.in_ok-header.header segments c.in_err-refuse_if.field-0.0 past refused)

pub returns : goal.returns
returns c =
    let segments = c.from_vec-segments.result in
    let past : IsPastSegments c.args.bytes.now c.in_ok-header.header segments = record {
      of_file = c.in_ok-header.ensures.found;
      header_clear = c.in_ok-header.ensures.exact;
      segments_clear = c.in_ok-segments_of.ensures.0;
      so_far = c.from_vec-segments.ensures ∙ c.in_ok-segments_of.ensures.1;
    } in
    let test = c.is_empty.ensures ∙ ap (λ (items : List Segment). length items == 0) c.as_slice.ensures in
    let passed = subst (λ (empty : Bool). first_fault (row OfSegment empty 52 ∷ []) ≡ None) test c.in_ok-refuse_if.ensures in
    image_made c.args.bytes.now c.in_ok-header.header segments past passed
