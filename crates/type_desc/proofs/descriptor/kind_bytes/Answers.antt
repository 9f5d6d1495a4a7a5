use Rattle.std.proofs.Common.{ℕ, ◌+◌, ◌-◌, arith, ap, sym, true≢false, ◌∙◌}
use Rattle.type_desc.proofs.DescriptorLaws.{parts, zeros_there, finds}
use Rattle.type_desc.proofs.descriptor.kind_bytes.Goals as goal
use Rattle.type_desc.proofs.descriptor.kind_bytes.Goals.{then-count-eq0-via-then-count-eq0, then-count-eq0-via-else-count-eq0+then-count-gt-MOST_WORDS, then-bytes-end-via-then-bytes-end, then-bytes-end-via-else-bytes-end+then-not-are_zeros}

pub returns-then-bytes-lt-COUNT_SIZE : goal.returns-then-bytes-lt-COUNT_SIZE
returns-then-bytes-lt-COUNT_SIZE c = λ kind_bytes counted. omega (arith, (parts c.args.bytes.now kind_bytes counted.1 counted.2).size)

pub returns-then-count-eq0 : goal.returns-then-count-eq0
returns-then-count-eq0 c = λ kind_bytes counted.
    let has = parts c.args.bytes.now kind_bytes counted.1 counted.2 in
    let count = c.read_u32-count.ensures ∙ has.count in
    elim c.then-count-eq0.branch [
      | then-count-eq0-via-then-count-eq0 w ↦ omega (arith, w.if-count-eq0.true, count, counted.0)
      | then-count-eq0-via-else-count-eq0+then-count-gt-MOST_WORDS w ↦ omega (arith, w.if-count-gt-MOST_WORDS.true, count, counted.1)
    ]

pub returns-then-bytes-end : goal.returns-then-bytes-end
returns-then-bytes-end c = λ kind_bytes counted.
    let bytes = c.args.bytes.now in
    let has = parts bytes kind_bytes counted.1 counted.2 in
    let count = c.read_u32-count.ensures ∙ has.count in
    elim c.then-bytes-end.branch [
      | then-bytes-end-via-then-bytes-end w ↦ omega (arith, w.if-bytes-end.true, c.next_multiple_of-end.ensures.value, count, has.size)
      | then-bytes-end-via-else-bytes-end+then-not-are_zeros w ↦
          let zeros = w.are_zeros.ensures.1 (zeros_there bytes kind_bytes c.read_u32-count.result (4 + c.next_multiple_of-end.result) has count (ap (λ (k : ℕ). 4 + k) c.next_multiple_of-end.ensures.value)) in
          true≢false (sym zeros ∙ w.if-not-are_zeros.true)
    ]

pub returns : goal.returns
returns c =
    let n = c.read_u32-count.result in
    let zeros = c.are_zeros.ensures.0 c.if-not-are_zeros.false in
    finds c.args.bytes.now n (4 + c.next_multiple_of-end.result) (4 + n - 4) (λ k. omega (arith, c.type_inv.bytes k)) c.read_u32-count.ensures (omega arith) (omega arith) (omega arith)
    (ap (λ (k : ℕ). 4 + k) c.next_multiple_of-end.ensures.value) c.if-bytes-end.false zeros
