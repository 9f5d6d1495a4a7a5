use Rattle.std.proofs.Common.{◌<◌, vec_len, refl, arith}
use Rattle.cpp_text.proofs.Nesting.{shorter, nested, ended}
use Rattle.cpp_text.proofs.reading.Reading.step.Goals as goal
use Rattle.cpp_text.proofs.reading.Reading.step.Goals.{in-Some+in_ok-include, in_default}

pub returns-then-is_empty-clause-shorter : goal.returns-then-is_empty-clause-shorter
returns-then-is_empty-clause-shorter g c = λ t. ended _ _ c.args.self.now.current _ (c.in_ok-end_file.ensures.progress t)

pub returns-clause-shorter : goal.returns-clause-shorter
returns-clause-shorter g c =
    let fewer : vec_len c.next_line.new.rest < vec_len c.args.self.now.current.rest = grind arith in
    elim c.match-inclusion.branch [
      | in-Some+in_ok-include w ↦ λ t. rw w.self-is (nested c.args.self.now.including.items _ c.args.self.now.current (record c.args.self.now.current { position = c.take_line.new.position; rest = c.next_line.new.rest }) w.include.new.self.current w.in_ok-include.ensures.outer refl fewer w.in_ok-include.ensures.limit w.in_ok-include.ensures.depth w.in_ok-include.ensures.bounded)
      | in_default w ↦ λ t. rw w.self-is (shorter c.args.self.now.including.items c.args.self.now.current (record c.args.self.now.current { position = c.take_line.new.position; rest = c.next_line.new.rest }) refl fewer)
    ]
