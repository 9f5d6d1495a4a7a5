-- What a store changes of words.
use Rattle.std.proofs.Common.{◌≡◌, ◌≢◌, ℕ, ◌+◌, ◌%◌, ◌^◌, ◌<◌, ◌≤◌, ◌⊎◌, inl, inr, eqb, false, List, length, Option, Some, None, Result, Ok, Err, refl, sym, ap, is_some, subst, ◌∙◌, arith, ne_eqb}
use Rattle.std.specs.Option.{option_map}
use Rattle.std.specs.Result.{result_ok}
use Rattle.std.proofs.lemmas.Bool.{cases_lt}
use Rattle.guest_mem.specs.declared.fault.Fault.{Fault}
use Rattle.guest_mem.specs.declared.fault.StoreNo.{StoreNo}
use Rattle.guest_mem.specs.declared.fault.StoreNo.TheVariants as no
use Rattle.guest_mem.specs.declared.right.Right.TheVariants.{Read}
use Rattle.guest_mem.specs.Regions.{Region}
use Rattle.guest_mem.specs.Guest.{with_bytes, overwritten, little_endian, little_endian_bytes, loaded, stored, Stores}
use Rattle.guest_mem.specs.Layout.{layout, AllApart, HoldBytes}
use Rattle.guest_mem.proofs.LittleEndian.{length-little_endian_bytes, little_endian-little_endian_bytes}
use Rattle.guest_mem.proofs.Changes.{length-bytes_at, AreBytes-bytes_at}
use Rattle.guest_mem.proofs.Layouts.{covers-layout}
use Rattle.guest_mem.proofs.Accesses.{loaded-from, loaded-covered, loaded-Ok, stored-Ok, loaded-stored_same, loaded-stored_apart, layout-stored}
use Rattle.word_memory.specs.Words.{word_at, word_place, replaced, ChangesWord, StoresWord}
use Rattle.word_memory.proofs.Numbers.{little_endian-overwritten}
use Rattle.word_memory.proofs.Parts.{bytes_at-with_bytes_inside}

-- ---- words and loads

-- a word that is there is what a load gives
pub word-loaded : (regions : List Region) (at word : ℕ) → word_at regions at ≡ Some word → loaded 4 regions at ≡ Ok word
unfolding word_at
word-loaded regions at word h =
    elim (loaded 4 regions at) as (λ (r : Result ℕ Fault). result_ok r ≡ Some word → r ≡ Ok word) [
      | Ok value ↦ λ e. cc
      | Err fault ↦ λ e. absurd cc
    ] h

pub loaded-word : (regions : List Region) (at word : ℕ) → loaded 4 regions at ≡ Ok word → word_at regions at ≡ Some word
unfolding word_at
loaded-word regions at word h = ap result_ok h

-- where no word is there, none is there in memory of the same layout
pub word-missing : (old new : List Region) (at : ℕ) → layout new ≡ layout old → word_at old at ≡ None → word_at new at ≡ None
unfolding word_at
word-missing old new at laid none =
    elim (loaded 4 new at) as (λ (r : Result ℕ Fault). loaded 4 new at ≡ r → result_ok r ≡ None) [
      | Ok word ↦ λ is.
          let read = loaded-Ok 4 new at word is in
          let covered = loaded-covered 4 old at read.0 (sym (covers-layout old new Read at 4 laid) ∙ ap is_some read.1.1) in
          absurd (let e : ◌≡◌ {A = Option ℕ} (Some covered.0) None = sym (ap result_ok covered.1) ∙ none in cc)
      | Err fault ↦ λ is. refl
    ] refl

-- no word is at an address that is no multiple of 4
pub word-misaligned : (regions : List Region) (at : ℕ) → 0 < at % 4 → word_at regions at ≡ None
unfolding word_at loaded
word-misaligned regions at odd = let tested : eqb (at % 4) 0 ≡ false = ne_eqb (at % 4) 0 (λ (e : at % 4 ≡ 0). omega arith) in rw tested refl

-- ---- what a store changes

apart_from : (at width other : ℕ) → at % 4 + width ≤ 4 → other % 4 ≡ 0 → other ≢ word_place at → (other + 4 ≤ at) ⊎ (at + width ≤ other)
apart_from at width other fits aligned differs =
    elim (cases_lt other (word_place at)) [
      | inl below ↦ inl (omega arith)
      | inr from ↦
          elim (cases_lt (word_place at) other) [
            | inl above ↦ inr (omega arith)
            | inr to ↦ absurd (differs (omega arith))
          ]
    ]

-- no word but the one that holds the bytes
pub other_words : (width : ℕ) (old new : List Region) (at value other : ℕ) → at % 4 + width ≤ 4 → stored width old at value ≡ Ok new → other ≢ word_place at
    → word_at new other ≡ word_at old other
unfolding word_at
other_words width old new at value other fits h differs =
    elim (cases_lt 0 (other % 4)) [
      | inl odd ↦ word-misaligned new other odd ∙ sym (word-misaligned old other odd)
      | inr even ↦ ap result_ok (loaded-stored_apart width old at value new 4 other h (apart_from at width other fits (omega arith) differs))
    ]

changed_there : (width : ℕ) (old new : List Region) (at value word : ℕ) → AllApart old → HoldBytes old → at % 4 + width ≤ 4 → stored width old at value ≡ Ok new
    → word_at old (word_place at) ≡ Some word → word_at new (word_place at) ≡ Some (replaced (at % 4) width word value)
unfolding word_at
changed_there width old new at value word apart held fits h is =
    let place = word_place at in
    let read = loaded-Ok 4 old place word (word-loaded old place word is) in
    let was = read.1.0 in
    let bytes : List ℕ = little_endian_bytes width value in
    let long : length bytes ≡ width = length-little_endian_bytes width value in
    let long_was : length was ≡ 4 = length-bytes_at old Read place 4 was read.1.1 in
    let here : at ≡ place + at % 4 = omega arith in
    let put = subst (λ (a : ℕ). with_bytes old a bytes ≡ Some new) here (stored-Ok width old at value new h).1 in
    let now = bytes_at-with_bytes_inside old new Read place 4 was (at % 4) bytes apart put read.1.1 (omega arith) in
    let spelled : little_endian bytes ≡ value % 256 ^ length bytes =
    little_endian-little_endian_bytes width value ∙ ap (λ (n : ℕ). value % 256 ^ n) (sym long) in
    let number = little_endian-overwritten was (at % 4) value bytes (AreBytes-bytes_at old Read place 4 was read.1.1 held) (omega arith) spelled in
    ap result_ok (loaded-from 4 new place (overwritten was (at % 4) bytes) read.0 now)
    ∙ ap Some (number ∙ ap (λ (n : ℕ). replaced (at % 4) n (little_endian was) value) long ∙ ap (λ (n : ℕ). replaced (at % 4) width n value) (sym read.1.2))

-- A store within one word replaces that part of it.
pub changes_part : (width : ℕ) (old new : List Region) (at value : ℕ) → AllApart old → HoldBytes old → at % 4 + width ≤ 4 → stored width old at value ≡ Ok new
    → ChangesWord (word_place at) (λ word. replaced (at % 4) width word value) old new
changes_part width old new at value apart held fits h = record {
  there =
      elim (word_at old (word_place at)) as (λ (o : Option ℕ). word_at old (word_place at) ≡ o
      → word_at new (word_place at) ≡ option_map (λ word. replaced (at % 4) width word value) o) [
        | None ↦ λ is. word-missing old new (word_place at) (layout-stored width old at value new h) is
        | Some word ↦ λ is. changed_there width old new at value word apart held fits h is
      ] refl;
  others = λ other differs. other_words width old new at value other fits h differs;
}

word_put : (old new : List Region) (at value word : ℕ) → AllApart old → stored 4 old at value ≡ Ok new → word_at old at ≡ Some word
    → word_at new at ≡ Some (value % 2 ^ 32)
word_put old new at value word apart h is =
    let read = loaded-Ok 4 old at word (word-loaded old at word is) in
    loaded-word new at (value % 2 ^ 32) (loaded-stored_same 4 old at value new apart h (ap is_some read.1.1))

-- A store of four bytes puts its value in the place of the word.
pub changes_word : (old new : List Region) (at value : ℕ) → AllApart old → stored 4 old at value ≡ Ok new → ChangesWord at (λ word. value % 2 ^ 32) old new
changes_word old new at value apart h =
    let aligned : at % 4 ≡ 0 = (stored-Ok 4 old at value new h).0 in
    let here : word_place at ≡ at = omega arith in
    record {
      there =
          elim (word_at old at) as (λ (o : Option ℕ). word_at old at ≡ o → word_at new at ≡ option_map (λ word. value % 2 ^ 32) o) [
            | None ↦ λ is. word-missing old new at (layout-stored 4 old at value new h) is
            | Some word ↦ λ is. word_put old new at value word apart h is
          ] refl;
      others = λ other differs. other_words 4 old new at value other (omega arith) h (λ (e : other ≡ word_place at). differs (e ∙ here));
    }

-- a byte lies within one word, and so does a half that a store does not refuse
pub changes_byte : (old new : List Region) (at value : ℕ) → AllApart old → HoldBytes old → stored 1 old at value ≡ Ok new
    → ChangesWord (word_place at) (λ word. replaced (at % 4) 1 word value) old new
changes_byte old new at value apart held h = changes_part 1 old new at value apart held (omega arith) h

pub changes_half : (old new : List Region) (at value : ℕ) → AllApart old → HoldBytes old → stored 2 old at value ≡ Ok new
    → ChangesWord (word_place at) (λ word. replaced (at % 4) 2 word value) old new
changes_half old new at value apart held h =
    let even : at % 2 ≡ 0 = (stored-Ok 2 old at value new h).0 in
    changes_part 2 old new at value apart held (omega arith) h

-- ---- loads after it

-- of the word that changed, and of another
pub loaded_changed : (at : ℕ) (change : ℕ → ℕ) (old new : List Region) (word : ℕ) → ChangesWord at change old new → loaded 4 old at ≡ Ok word → loaded 4 new at ≡ Ok (change word)
loaded_changed at change old new word changes is = word-loaded new at (change word) (changes.there ∙ ap (option_map change) (loaded-word old at word is))

pub loaded_other : (at : ℕ) (change : ℕ → ℕ) (old new : List Region) (other word : ℕ) → ChangesWord at change old new → other ≢ at → loaded 4 old other ≡ Ok word
    → loaded 4 new other ≡ Ok word
loaded_other at change old new other word changes differs is = word-loaded new other word (changes.others other differs ∙ loaded-word old other word is)

-- ---- stores that may be refused

pub stores_word : (at : ℕ) (change : ℕ → ℕ) (said : Result (List Region) Fault) (old new : List Region) (result : Result (Unit {0}) StoreNo) → Stores said old new result
    → (said ≡ Ok new → ChangesWord at change old new) → StoresWord at change old new result
stores_word at change said old new (Ok _) stores changes = changes stores
stores_word at change said old new (Err no.Misaligned) stores changes = stores.1
stores_word at change said old new (Err no.Outside) stores changes = stores.1
stores_word at change said old new (Err no.NoMemory) stores changes = stores.1
