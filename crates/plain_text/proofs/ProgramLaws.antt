-- Whole programs: what is read is spelled so, and what is spelled so is read.
use Rattle.std.proofs.Common.{◌≡◌, false, cond, eqb, ltb, ℕ, zero, suc, ◌^◌, ◌<◌, ◌≤◌, List, [], ◌∷◌, ◌++◌, length, Option, Some, None, Result, Ok, Err, refl, sym, ap, subst, ◌∙◌, arith}
use Rattle.std.specs.List.{prefix_len, flat_map, AllByRecursion}
use Rattle.std.specs.Char.{is_ascii_digit}
use Rattle.std.specs.Fmt.{decimal}
use Rattle.std.specs.Prelude.{codes, IfOk}
use Rattle.std.proofs.lemmas.Bool.{eqb-true, ltb-false, le-ltb}
use Rattle.std.proofs.lemmas.List.{nil_from_length}
use Rattle.std.proofs.lemmas.List.Elements.{All-from_recursion, recursion_from_All}
use Rattle.std.proofs.lemmas.Option.{cond_some, none-some, same_Some, some_pair_parts}
use Rattle.plain_text.specs.declared.program.Program.{Program}
use Rattle.plain_text.specs.declared.program.ReadNo.{ReadNo}
use Rattle.plain_text.specs.declared.program.ReadNo.TheVariants as refusals
use Rattle.plain_text.specs.Program.{Token, tight, spaced, opening, call_of, closing, Spells, IsPlain, Reads}
use Rattle.plain_text.specs.Reading.{◌>>=◌, Gives, skipped, tokens_at, number_at, token_at, call_at, calls_at, closing_at, program_at}
use Rattle.plain_text.proofs.TokenLaws.{spells, some_from, passed, AllSolid, solid-append, solid_front, skipped_takes, skipped_again, tokens_take, tokens_again}
use Rattle.plain_text.proofs.NumberLaws.{decimal_solid, number_takes, number_again}

-- the same, of equal parts
same_read : (read : Option (ℕ × List ℕ)) (m n : ℕ) (rest : List ℕ) → read ≡ Some (m, rest) → m ≡ n → read ≡ Some (n, rest)
same_read read m n rest e same = rw (← same) e

same_rest : (read : Option (List ℕ)) (rest after : List ℕ) → read ≡ Some rest → rest ≡ after → read ≡ Some after
same_rest read rest after e same = rw (← same) e

-- ---- the tokens of a call, before and behind its number

abbrev call_front : List Token
call_front = tight (codes "putchar") ∷ tight (codes "(") ∷ []

abbrev call_back : List Token
call_back = tight (codes ")") ∷ tight (codes ";") ∷ []

solid_front_of_call : AllSolid call_front
solid_front_of_call = (λ others. refl, (λ others. refl, tt))

solid_back_of_call : AllSolid call_back
solid_back_of_call = (λ others. refl, (λ others. refl, tt))

call_takes : (text : List ℕ) (n : ℕ) (rest : List ℕ) (more : List Token) → call_at text ≡ Some (n, rest) → Spells more rest → (n < 256) × Spells (call_of n ++ more) text
unfolding call_at
call_takes text n rest more e spelled =
    let front = some_from (tokens_at call_front (Some text)) (λ inner. number_at inner >>= λ number. tokens_at call_back (Some number.1) >>= λ rest. Some (number.0, rest)) (n, rest) e in
    let number = some_from (number_at front.0) (λ number. tokens_at call_back (Some number.1) >>= λ rest. Some (number.0, rest)) (n, rest) front.2 in
    let back = some_from (tokens_at call_back (Some number.0.1)) (λ rest. Some (number.0.0, rest)) (n, rest) number.2 in
    let pair = some_pair_parts number.0.0 n back.0 rest back.2 in
    let number_is : number_at front.0 ≡ Some (n, number.0.1) = same_read (number_at front.0) number.0.0 n number.0.1 number.1 pair.0 in
    let back_is : tokens_at call_back (Some number.0.1) ≡ Some rest = same_rest (tokens_at call_back (Some number.0.1)) back.0 rest back.1 pair.1 in
    let byte = number_takes front.0 n number.0.1 number_is in
    let spelled_back = tokens_take call_back more number.0.1 rest back_is spelled in
    let spelled_number = spells (tight (decimal n)) (call_back ++ more) front.0 number.0.1 byte.1 spelled_back in
    (byte.0, tokens_take call_front (tight (decimal n) ∷ (call_back ++ more)) text front.0 front.1 spelled_number)

call_again : (text : List ℕ) (n : ℕ) (more : List Token) → n < 256 → AllSolid more → Spells (call_of n ++ more) text → (rest : List ℕ) × (call_at text ≡ Some (n, rest)) × Spells more rest
unfolding call_at
call_again text n more small solid spelled =
    let behind_solid = solid-append call_back more solid_back_of_call solid in
    let front = tokens_again call_front (tight (decimal n) ∷ (call_back ++ more)) text solid_front_of_call (decimal_solid n (omega arith), behind_solid) spelled in
    let number = front.2 in
    let rest = number.1 in
    let no_digit : prefix_len is_ascii_digit rest ≡ 0 = rw number.5.2 refl in
    let read = number_again front.0 n rest small (number.0, number.2, number.3, number.4) (solid_front (call_back ++ more) rest behind_solid number.5) no_digit in
    let back = tokens_again call_back more rest solid_back_of_call solid number.5 in
    (back.0, rw (front.1, read, back.1) refl, back.2)

-- ---- `return NUM ; }`

abbrev closing_front : List Token
closing_front = spaced (codes "return") ∷ []

abbrev closing_back : List Token
closing_back = tight (codes ";") ∷ tight (codes "}") ∷ []

solid_front_of_closing : AllSolid closing_front
solid_front_of_closing = (λ others. refl, tt)

solid_back_of_closing : AllSolid closing_back
solid_back_of_closing = (λ others. refl, (λ others. refl, tt))

solid_closing : (n : ℕ) → n < 256 → AllSolid (closing n)
solid_closing n small = (λ others. refl, (decimal_solid n (omega arith), solid_back_of_closing))

closing_takes : (text : List ℕ) (n : ℕ) → closing_at text ≡ Some n → (n < 256) × Spells (closing n) text
unfolding closing_at
closing_takes text n e =
    let front = some_from (tokens_at closing_front (Some text)) (λ inner. number_at inner >>= λ number. tokens_at closing_back (Some number.1) >>= λ rest. cond (eqb (length rest) 0) (Some number.0) None) n e in
    let number = some_from (number_at front.0) (λ number. tokens_at closing_back (Some number.1) >>= λ rest. cond (eqb (length rest) 0) (Some number.0) None) n front.2 in
    let back = some_from (tokens_at closing_back (Some number.0.1)) (λ rest. cond (eqb (length rest) 0) (Some number.0.0) None) n number.2 in
    let end = cond_some (eqb (length back.0) 0) number.0.0 n back.2 in
    let number_is : number_at front.0 ≡ Some (n, number.0.1) = same_read (number_at front.0) number.0.0 n number.0.1 number.1 end.1 in
    let byte = number_takes front.0 n number.0.1 number_is in
    let nothing : back.0 ≡ [] = nil_from_length back.0 (eqb-true (length back.0) 0 end.0) in
    let spelled_back : Spells closing_back number.0.1 = tokens_take closing_back [] number.0.1 back.0 back.1 nothing in
    let spelled_number = spells (tight (decimal n)) closing_back front.0 number.0.1 byte.1 spelled_back in
    (byte.0, tokens_take closing_front (tight (decimal n) ∷ closing_back) text front.0 front.1 spelled_number)

closing_again : (text : List ℕ) (n : ℕ) → n < 256 → Spells (closing n) text → closing_at text ≡ Some n
unfolding closing_at
closing_again text n small spelled =
    let front = tokens_again closing_front (tight (decimal n) ∷ closing_back) text solid_front_of_closing (decimal_solid n (omega arith), solid_back_of_closing) spelled in
    let number = front.2 in
    let rest = number.1 in
    let no_digit : prefix_len is_ascii_digit rest ≡ 0 = rw number.5.2 refl in
    let read = number_again front.0 n rest small (number.0, number.2, number.3, number.4) (solid_front closing_back rest solid_back_of_closing number.5) no_digit in
    let back = tokens_again closing_back [] rest solid_back_of_closing tt number.5 in
    rw (front.1, read, back.1, back.2) refl

-- ---- calls

abbrev AllBytes : List ℕ → Type 0
AllBytes bytes = AllByRecursion (λ b. b < 256) bytes

-- what reading calls gives, as one call and the others
record TakesCalls (most : ℕ) (text : List ℕ) (more : List Token) (read : List ℕ × List ℕ) : Type 0 where
  few : length read.0 ≤ most
  bytes : AllBytes read.0
  spelled : Spells (flat_map call_of read.0 ++ more) text

-- the first call, or none, and then the others
calls_take_from : (most : ℕ) (text : List ℕ) (more : List Token) (first : Option (ℕ × List ℕ)) → ((rest : List ℕ) → Spells more (calls_at most rest).1 → TakesCalls most rest more (calls_at most rest)) → call_at text ≡ first → Spells more (calls_at (suc most) text).1 → TakesCalls (suc most) text more (calls_at (suc most) text)
unfolding calls_at
calls_take_from most text more None others e spelled =
    let read : calls_at (suc most) text ≡ ([], text) = rw e refl in
    rw read (record { few = omega arith; bytes = tt; spelled = rw read at spelled })
calls_take_from most text more (Some first) others e spelled =
    let read : calls_at (suc most) text ≡ (first.0 ∷ (calls_at most first.1).0, (calls_at most first.1).1) = rw e refl in
    let behind = others first.1 (rw read at spelled) in
    let call = call_takes text first.0 first.1 (flat_map call_of (calls_at most first.1).0 ++ more) e behind.spelled in
    rw read (record { few = omega (arith, behind.few); bytes = (call.0, behind.bytes); spelled = call.1 })

calls_take : (most : ℕ) (text : List ℕ) (more : List Token) → Spells more (calls_at most text).1 → TakesCalls most text more (calls_at most text)
unfolding calls_at
calls_take zero text more spelled = record { few = omega arith; bytes = tt; spelled = spelled }
calls_take (suc most) text more spelled = calls_take_from most text more (call_at text) (λ rest others. calls_take most rest more others) refl spelled

-- no call is in front of the closing
closing_no_call : (text : List ℕ) (n : ℕ) → Spells (closing n) text → call_at text ≡ None
unfolding call_at token_at
closing_no_call text n spelled = rw spelled.2 refl

solid_calls : (bytes : List ℕ) (n : ℕ) → AllBytes bytes → n < 256 → AllSolid (flat_map call_of bytes ++ closing n)
solid_calls [] n all small = solid_closing n small
solid_calls (b ∷ bytes) n all small =
    let others = solid-append call_back (flat_map call_of bytes ++ closing n) solid_back_of_call (solid_calls bytes n all.1 small) in
    solid-append call_front (tight (decimal b) ∷ (call_back ++ (flat_map call_of bytes ++ closing n))) solid_front_of_call (decimal_solid b (omega (arith, all.0)), others)

-- the calls in front of the closing are read
record ReadsCalls (bytes : List ℕ) (n : ℕ) (read : List ℕ × List ℕ) : Type 0 where
  these : read.0 ≡ bytes
  behind : Spells (closing n) read.1

calls_again : (bytes : List ℕ) (most : ℕ) (text : List ℕ) (n : ℕ) → length bytes ≤ most → AllBytes bytes → n < 256 → Spells (flat_map call_of bytes ++ closing n) text → ReadsCalls bytes n (calls_at most text)
unfolding calls_at
calls_again [] zero text n few all small spelled = record { these = refl; behind = spelled }
calls_again [] (suc most) text n few all small spelled =
    let read : calls_at (suc most) text ≡ ([], text) = rw (closing_no_call text n spelled) refl in
    rw read (record { these = refl; behind = spelled })
calls_again (b ∷ bytes) zero text n few all small spelled = absurd (omega arith)
calls_again (b ∷ bytes) (suc most) text n few all small spelled =
    let call = call_again text b (flat_map call_of bytes ++ closing n) all.0 (solid_calls bytes n all.1 small) spelled in
    let others = calls_again bytes most call.0 n (omega arith) all.1 small call.2 in
    let read : calls_at (suc most) text ≡ (b ∷ (calls_at most call.0).0, (calls_at most call.0).1) = rw call.1 refl in
    rw read (record { these = ap (λ (bs : List ℕ). b ∷ bs) others.these; behind = others.behind })

-- ---- the whole text

solid_opening : AllSolid opening
solid_opening = (λ others. refl, (λ others. refl, (λ others. refl, (λ others. refl, (λ others. refl, (λ others. refl, tt))))))

pub program_takes : (text : List ℕ) (program : Program) → program_at text ≡ Some program → IsPlain text program
unfolding program_at
program_takes text program e =
    let short = passed (ltb (2 ^ 24) (length text)) (tokens_at opening (Some (skipped text)) >>= λ inner. closing_at (calls_at 1000 inner).1 >>= λ status. Some (record { bytes = (calls_at 1000 inner).0; status = status })) program e in
    let front = some_from (tokens_at opening (Some (skipped text))) (λ inner. closing_at (calls_at 1000 inner).1 >>= λ status. Some (record { bytes = (calls_at 1000 inner).0; status = status })) program short.1 in
    let inner = front.0 in
    let end = some_from (closing_at (calls_at 1000 inner).1) (λ status. Some (record { bytes = (calls_at 1000 inner).0; status = status })) program front.2 in
    let status = end.0 in
    let ending = closing_takes (calls_at 1000 inner).1 status end.1 in
    let calls = calls_take 1000 inner (closing status) ending.1 in
    let blanks = skipped_takes text in
    let made : Program = record { bytes = (calls_at 1000 inner).0; status = status } in
    let plain : IsPlain text made = record {
      short = ltb-false _ _ short.0;
      few = calls.few;
      bytes = All-from_recursion (λ b. b < 256) (calls_at 1000 inner).0 calls.bytes;
      status = ending.0;
      spelled = (blanks.0, skipped text, blanks.1, blanks.2, tokens_take opening (flat_map call_of (calls_at 1000 inner).0 ++ closing status) (skipped text) inner front.1 calls.spelled);
    } in
    subst (λ (p : Program). IsPlain text p) (same_Some made program end.2) plain

pub program_again : (text : List ℕ) (program : Program) → IsPlain text program → program_at text ≡ Some program
unfolding program_at
program_again text program plain =
    let rest = plain.spelled.1 in
    let all = recursion_from_All (λ b. b < 256) program.bytes plain.bytes in
    let others = flat_map call_of program.bytes ++ closing program.status in
    let solid = solid_calls program.bytes program.status all plain.status in
    let none = solid_front (opening ++ others) rest (solid-append opening others solid_opening solid) plain.spelled.4 in
    let start : skipped text ≡ rest = rw plain.spelled.2 (skipped_again plain.spelled.0 rest plain.spelled.3 none) in
    let front = tokens_again opening others rest solid_opening solid plain.spelled.4 in
    let calls = calls_again program.bytes 1000 front.0 program.status plain.few all plain.status front.2 in
    let end = closing_again (calls_at 1000 front.0).1 program.status plain.status calls.behind in
    let short : ltb (2 ^ 24) (length text) ≡ false = le-ltb _ _ plain.short in
    rw (short, start, front.1, end, calls.these) refl

pub one_program_law : (text : List ℕ) (p q : Program) → IsPlain text p → IsPlain text q → p ≡ q
one_program_law text p q first second = same_Some p q (sym (program_again text p first) ∙ program_again text q second)

-- ---- what a reader that gives this ensures

pub is_found : (text : List ℕ) (r : Result Program ReadNo) → Gives r (program_at text) → IfOk r (λ program. IsPlain text program)
is_found text (Ok program) given = program_takes text program given
is_found text (Err refusal) given = tt

pub is_read : (text : List ℕ) (r : Result Program ReadNo) (program : Program) → Gives r (program_at text) → IsPlain text program → Reads r program
is_read text (Ok found) program given plain = same_Some found program (sym given ∙ program_again text program plain)
is_read text (Err refusals.NoMemory) program given plain = tt
is_read text (Err refusals.NotPlain) program given plain = none-some program (sym given ∙ program_again text program plain)
