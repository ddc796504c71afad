-- The calls of a load and their fields: each call is read back from its field.
use mathlib.Core.Bool.{Bool, true, false, not, ◌&&◌}
use mathlib.Core.List.{List, ◌++◌}
use mathlib.Core.Path.{◌≡◌, refl, ap, ap₂, ◌∙◌}
use Prim.Native.Nat.{ℕ, zero, suc, ◌/◌, ◌%◌, ◌^◌, ◌≤◌, ◌<◌}
use native.Mathlib.Nat.{pow-suc}
use native.Mathlib.Omega.{arith}
use lib.Dec.{leb}
use lib.ListN.{length}
use Rattle.std.specs.List.{list_all}
use Rattle.std.proofs.lemmas.List.Folds.{list_all-append}
use Rattle.pmc330_model.specs.Calls.{Call, read, write, input, advance, trigger, reset, look, clear}
use Rattle.trace.specs.Grammar.{length_in, is_kind_in, length_of, is_call_tag, is_answer_tag, low_first, signed_of, call_of}
use Rattle.trace.specs.Fields.{Field, field_bytes, call_in}
use Rattle.trace.proofs.FieldBytes.{is_sound}
use Rattle.load.specs.Load.{voltage_of, offset_of, call_picked, call_from, low_bytes, is_byte, unsigned_of, field_for}

-- ---- a number in bytes, and back

low_back : (size n : ℕ) → n < 256 ^ size → low_first (low_bytes size n) ≡ n
unfolding low_first low_bytes
low_back zero n h = omega arith
low_back (suc size) n h =
    omega (arith, low_back size (n / 256) (omega (arith, pow-suc 256 size, h)))

-- a voltage of the load is within 31 bits either way
module _ (q : ℕ) where
  abbrev v : ℕ
  v = q % 20_000_001

  voltage_fits : unsigned_of (voltage_of q) < 256 ^ 4
  voltage_fits = grind arith

  voltage_back : signed_of (unsigned_of (voltage_of q)) ≡ voltage_of q
  unfolding signed_of
  voltage_back = grind arith

-- ---- a call's field

-- it can stand in a trace, as a call, and is 3 to 10 bytes
pub record CallField (field : Field) : Type 0 where
  pub sound : is_sound field ≡ true
  pub is_call : is_call_tag field.tag ≡ true
  pub no_answer : is_answer_tag field.tag ≡ false
  pub least : 3 ≤ length (field_bytes field)
  pub most : length (field_bytes field) ≤ 10

-- the same as one test
abbrev is_call_field : Field → Bool
is_call_field field =
    is_sound field
    && (is_call_tag field.tag
    && (not (is_answer_tag field.tag) && (leb 3 (length (field_bytes field)) && leb (length (field_bytes field)) 10)))

tested : (field : Field) → is_call_field field ≡ true → CallField field
tested field e = grind arith

pub call_field : (call : Call) → CallField (field_for call)
unfolding length_of length_in is_call_tag is_answer_tag is_kind_in low_bytes
call_field call = grind arith

-- and it is bytes
low_bytes_are : (size n : ℕ) → list_all is_byte (low_bytes size n) ≡ true
unfolding low_bytes
low_bytes_are zero n = refl
low_bytes_are (suc size) n = let later = low_bytes_are size (n / 256) in grind arith

low_and : (size n : ℕ) (bytes : List ℕ) → list_all is_byte (low_bytes size n ++ bytes) ≡ list_all is_byte bytes
low_and size n bytes = list_all-append is_byte (low_bytes size n) bytes ∙ ap (λ (first : Bool). first && list_all is_byte bytes) (low_bytes_are size n)

pub call_is_bytes : (call : Call) → list_all is_byte (field_bytes (field_for call)) ≡ true
unfolding low_bytes
call_is_bytes (read width offset) = low_and 1 width (low_bytes 2 offset) ∙ low_bytes_are 2 offset
call_is_bytes (write width offset value) =
    low_and 1 width (low_bytes 2 offset ++ low_bytes 4 value) ∙ low_and 2 offset (low_bytes 4 value) ∙ low_bytes_are 4 value
call_is_bytes (input channel microvolts) = low_and 1 channel (low_bytes 4 (unsigned_of microvolts)) ∙ low_bytes_are 4 (unsigned_of microvolts)
call_is_bytes (advance ticks) = low_bytes_are 4 ticks
call_is_bytes trigger = refl
call_is_bytes reset = refl
call_is_bytes (look slot) = low_bytes_are 1 slot
call_is_bytes (clear slot) = low_bytes_are 1 slot

-- the player reads the call from it
module _ (q : ℕ) where
  offset_back : low_first (low_bytes 2 (offset_of q)) ≡ offset_of q
  offset_back = low_back 2 (offset_of q) (omega arith)

  read_back : call_in (field_for (read 16 (offset_of q))) ≡ read 16 (offset_of q)
  unfolding low_first low_bytes call_of
  read_back = ap (read 16) offset_back

  write_back : call_in (field_for (write 16 (offset_of q) (q % 65_536))) ≡ write 16 (offset_of q) (q % 65_536)
  unfolding low_first low_bytes call_of
  write_back = grind arith

  input_back : call_in (field_for (input (q % 32) (voltage_of q))) ≡ input (q % 32) (voltage_of q)
  unfolding low_first low_bytes call_of
  input_back =
      ap₂ input (low_back 1 (q % 32) (omega arith))
      (ap signed_of (low_back 4 (unsigned_of (voltage_of q)) (voltage_fits q)) ∙ voltage_back q)

  advance_back : call_in (field_for (advance (q % 4_096))) ≡ advance (q % 4_096)
  unfolding low_first low_bytes call_of
  advance_back = ap advance (low_back 4 (q % 4_096) (omega arith))

trigger_back : call_in (field_for trigger) ≡ trigger
unfolding call_of
trigger_back = refl

reset_back : call_in (field_for reset) ≡ reset
unfolding call_of
reset_back = refl

-- ---- the call that is picked

-- what holds of each of the six calls holds of the one that is picked
picked :
    (P : Call → Type 0) (q : ℕ) → P (read 16 (offset_of q)) → P (write 16 (offset_of q) (q % 65_536)) → P (input (q % 32) (voltage_of q))
    → P (advance (q % 4_096)) → P trigger → P reset → (pick : ℕ) → P (call_picked pick q)
unfolding call_picked
picked P q a b d e f g pick = grind arith

pub call_back : (x : ℕ) → call_in (field_for (call_from x)) ≡ call_from x
call_back x =
    let q = x / 8 in
    picked (λ (call : Call). call_in (field_for call) ≡ call) q (read_back q) (write_back q) (input_back q) (advance_back q) trigger_back reset_back (x % 8)
