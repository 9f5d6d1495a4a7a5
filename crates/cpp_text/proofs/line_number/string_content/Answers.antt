use Rattle.cpp_text.proofs.Contents.{is_content}
use Rattle.cpp_text.proofs.line_number.string_content.Goals as goal

pub returns-in-Ok : goal.returns-in-Ok
returns-in-Ok c = is_content _ _ _ _ _ c.new-name.ensures.items c.as_slice.ensures c.in-Ok.ensures c.from_vec.ensures
