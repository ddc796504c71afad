-- What the data sheet says of a load, proved. The statements are in specs/Sentences.antt.
use mathlib.Core.Bool.{Bool, true, false, cond, ◌&&◌}
use mathlib.Core.List.{List, ◌∷◌, ◌++◌, map}
use mathlib.Core.Path.{◌≡◌, refl, sym, ap, ap₂, subst, ◌∙◌}
use Prim.Native.Nat.{ℕ, zero, suc, ◌+◌, ◌*◌, ◌≤◌, ◌<◌}
use native.Mathlib.Omega.{arith}
use lib.ListN.{length, take, drop, length-append, length-drop}
use lib.Seq.{take-append_seam, drop-append_seam, drop-cons}
use borrow.Author.Tests.{le-leb}
use Rattle.std.specs.List.{list_all}
use Rattle.std.proofs.lemmas.List.Folds.{list_all-append}
use Rattle.analog.specs.Answers.{all_met, value_of}
use Rattle.analog.proofs.AnswerLaws.{answered_by, accepted_is}
use Rattle.pmc330_model.specs.Calls.{Call}
use Rattle.pmc330_model.specs.Logbook.{logbook_answers}
use Rattle.trace.specs.Grammar.{length_in, length_of, low_first}
use Rattle.trace.specs.Fields.{Field, Fields, damaged, field_bytes, bytes_of_fields, tag_of, is_whole, same_bytes, is_heading, range_of, whole, later_fields, is_undamaged, listed, fields_after, call_fields, call_in, calls_of}
use Rattle.trace.specs.Play.{answers_follow, trace_questions, in_buffer}
use Rattle.trace.proofs.FieldBytes.{all_sound, parsed, fields_back}
use Rattle.trace.proofs.CheckLaws.{heading_front, heading_length, heading_starts}
use Rattle.trace.proofs.Sentences.{traces_accepted}
use Rattle.load.specs.Bits.{stepped}
use Rattle.load.specs.Load.{call_from, load_calls, is_byte, field_for, load_trace, load_questions, load_answer, load_output}
use Rattle.load.specs.Machine.{calls_bytes}
use Rattle.load.specs.Sentences.{PlayedLoad, EveryXor, EveryShift, EveryLoad, EveryReadLoad, EveryUniqueLoad, EveryPlayedLoad}
use Rattle.load.proofs.BitLaws.{xor_bit, xor_most, left_bit, left_most, right_bit}
use Rattle.load.proofs.CallLaws.{call_field, call_is_bytes, call_back}
use Rattle.load.proofs.UniqueLaws.{dropped_bytes, fields_are}

pub xor_by_bits : EveryXor
xor_by_bits x y = record { bit = λ place h. xor_bit place x y h; most = xor_most x y }

pub shifts_by_bits : EveryShift
shifts_by_bits places x =
    record { left = λ place h. left_bit places place x h; most = left_most places x; right = λ place. right_bit places place x }

-- ---- the fields of a load

abbrev fields_from : (x calls : ℕ) → List Field
fields_from x calls = map field_for (load_calls x calls)

fields_sound : (x calls : ℕ) → all_sound (fields_from x calls) ≡ true
unfolding load_calls all_sound
fields_sound x zero = refl
fields_sound x (suc calls) = ap₂ ◌&&◌ (call_field (call_from (stepped x))).sound (fields_sound (stepped x) calls)

-- every field is a call, and the player reads from it the call that it was made of
all_calls : (x calls : ℕ) → call_fields (fields_from x calls) ≡ fields_from x calls
unfolding load_calls call_fields
all_calls x zero = refl
all_calls x (suc calls) = rw (call_field (call_from (stepped x))).is_call (ap (λ (later : List Field). field_for (call_from (stepped x)) ∷ later) (all_calls (stepped x) calls))

all_back : (x calls : ℕ) → map call_in (fields_from x calls) ≡ load_calls x calls
unfolding load_calls
all_back x zero = refl
all_back x (suc calls) = ap₂ ◌∷◌ (call_back (stepped x)) (all_back (stepped x) calls)

-- none is a recorded answer
none_recorded : (before x calls : ℕ) → answers_follow before (fields_from x calls) ≡ true
unfolding load_calls answers_follow
none_recorded before x zero = refl
none_recorded before x (suc calls) =
    rw (call_field (call_from (stepped x))).no_answer (none_recorded (field_for (call_from (stepped x))).tag (stepped x) calls)

how_many : (x calls : ℕ) → length (load_calls x calls) ≡ calls
unfolding load_calls
how_many x zero = refl
how_many x (suc calls) = ap suc (how_many (stepped x) calls)

-- 3 to 10 bytes each
least_bytes : (x calls : ℕ) → 3 * calls ≤ length (calls_bytes x calls)
unfolding bytes_of_fields load_calls
least_bytes x zero = omega arith
least_bytes x (suc calls) =
    let y = stepped x in
    omega (arith, length-append (field_bytes (field_for (call_from y))) (calls_bytes y calls), (call_field (call_from y)).least, least_bytes y calls)

most_bytes : (x calls : ℕ) → length (calls_bytes x calls) ≤ 10 * calls
unfolding bytes_of_fields load_calls
most_bytes x zero = omega arith
most_bytes x (suc calls) =
    let y = stepped x in
    omega (arith, length-append (field_bytes (field_for (call_from y))) (calls_bytes y calls), (call_field (call_from y)).most, most_bytes y calls)

all_bytes : (x calls : ℕ) → list_all is_byte (calls_bytes x calls) ≡ true
unfolding bytes_of_fields load_calls
all_bytes x zero = refl
all_bytes x (suc calls) =
    let y = stepped x in
    list_all-append is_byte (field_bytes (field_for (call_from y))) (calls_bytes y calls)
    ∙ ap₂ ◌&&◌ (call_is_bytes (call_from y)) (all_bytes y calls)

-- ---- the trace of a load

module _ (seed range calls : ℕ) where
  abbrev trace : List ℕ
  trace = load_trace seed range calls

  -- the heading, and the fields of the calls
  trace_length : length trace ≡ 8 + length (calls_bytes seed calls)
  unfolding load_trace bytes_of_fields
  trace_length = omega arith

  abbrev fields : List Field
  fields = fields_from seed calls

  later : later_fields trace ≡ whole fields
  unfolding load_trace bytes_of_fields
  later = fields_back fields (fields_sound seed calls)

  alone : call_fields (fields_after trace) ≡ fields_after trace
  alone = ap call_fields (ap listed later) ∙ all_calls seed calls ∙ sym (ap listed later)

  made : calls_of trace ≡ load_calls seed calls
  made = ap (λ (l : List Field). map call_in (call_fields l)) (ap listed later) ∙ ap (map call_in) (all_calls seed calls) ∙ all_back seed calls

  stated : range_of trace ≡ range
  unfolding load_trace bytes_of_fields
  stated = refl

  bytes_are : range < 256 → list_all is_byte trace ≡ true
  unfolding load_trace bytes_of_fields
  bytes_are fits = let later = all_bytes seed calls in grind arith

  heading : range ≤ 3 → is_heading trace ≡ true
  unfolding load_trace bytes_of_fields is_heading is_whole same_bytes length_of length_in low_first
  heading valid = grind arith

  accepted :
      (room : ℕ) → range ≤ 3 → length trace ≤ 16_777_216 → 5 * calls ≤ room
      → all_met (trace_questions trace room) ≡ true
  unfolding all_met
  accepted room valid short fits =
      let follow : answers_follow (tag_of trace) (fields_after trace) ≡ true =
      ap (answers_follow (tag_of trace)) (ap listed later) ∙ none_recorded (tag_of trace) seed calls in
      let many : length (calls_of trace) ≡ calls = ap length made ∙ how_many seed calls in
      rw (
        le-leb (length trace) 16_777_216 short,
        heading valid,
        ap is_undamaged later,
        follow,
        le-leb (5 * length (calls_of trace)) room (omega (arith, many, fits)),
      )

  played : (answers : List ℕ) → range ≤ 3 → length trace ≤ 16_777_216 → 5 * calls ≤ length answers → PlayedLoad seed range calls trace answers
  played answers valid short room =
      let yes = accepted (length answers) valid short room in
      let done = traces_accepted trace answers yes in
      record {
        accepted = yes;
        result = done.result ∙ ap (λ (l : List Call). 256 * length l) made ∙ ap (λ (n : ℕ). 256 * n) (how_many seed calls);
        buffer =
            done.answers
            ∙ ap₂ (λ (r : ℕ) (l : List Call). in_buffer (logbook_answers r l) answers) stated made;
      }

pub loads_read : EveryReadLoad
loads_read seed range calls =
    record {
      stated = stated seed range calls;
      fields = later seed range calls;
      alone = alone seed range calls;
      made = made seed range calls;
      many = how_many seed calls;
      bytes = bytes_are seed range calls;
      least = omega (arith, trace_length seed range calls, least_bytes seed calls);
      most = omega (arith, trace_length seed range calls, most_bytes seed calls);
    }

-- ---- no other bytes

undamaged_is : (later : Fields) → is_undamaged later ≡ true → later ≡ whole (listed later)
undamaged_is damaged e = cc
undamaged_is (whole found) e = refl

pub loads_unique : EveryUniqueLoad
unfolding load_trace bytes_of_fields
loads_unique seed calls trace bytes starts undamaged only read =
    let later = fields_after trace in
    let parts = parsed (drop 8 trace) later (undamaged_is (later_fields trace) undamaged) in
    let front : drop 7 trace ≡ range_of trace ∷ drop 8 trace = drop-cons trace 7 0 (omega (arith, heading_length trace starts)) in
    let same : later ≡ map field_for (load_calls seed calls) =
    sym (fields_are later parts.sound only (ap (list_all is_byte) parts.back ∙ dropped_bytes 8 trace bytes))
    ∙ ap (λ (l : List Field). map field_for (map call_in l)) (sym only)
    ∙ ap (map field_for) read in
    heading_starts trace starts
    ∙ ap (λ (l : List ℕ). heading_front ++ l) (front ∙ ap (λ (l : List ℕ). range_of trace ∷ l) (sym parts.back ∙ ap bytes_of_fields same))

-- ---- the answer of a load, and its buffer

module _ (seed range calls : ℕ) (out : List ℕ) where
  abbrev bytes : List ℕ
  bytes = load_trace seed range calls

  abbrev met : Bool
  met = all_met (load_questions seed range calls (length out))

  -- what the questions say where all are met
  record AllMet : Type 0 where
    pub valid : range ≤ 3
    pub room : length bytes ≤ length out
    pub short : length bytes ≤ 16_777_216

  met_says : met ≡ true → AllMet
  unfolding all_met
  met_says e = grind arith

  beyond_stays : (t : Bool) → drop (length bytes) (cond t (bytes ++ drop (length bytes) out) out) ≡ drop (length bytes) out
  beyond_stays true = drop-append_seam bytes (drop (length bytes) out)
  beyond_stays false = refl

  size_stays : (t : Bool) → met ≡ t → length (cond t (bytes ++ drop (length bytes) out) out) ≡ length out
  size_stays true e =
      omega (arith, (met_says e).room, length-append bytes (drop (length bytes) out), length-drop (length bytes) out)
  size_stays false e = refl

  front_is : met ≡ true → take (length bytes) (load_output seed range calls out) ≡ bytes
  unfolding load_output
  front_is e = rw e (take-append_seam bytes (drop (length bytes) out))

  value_is : met ≡ true → value_of (load_answer seed range calls (length out)) ≡ length bytes
  unfolding load_answer
  value_is e = ap value_of (accepted_is (load_questions seed range calls (length out)) (length bytes) e)

pub loads_answered : EveryLoad
unfolding load_answer load_output
loads_answered seed range calls out =
    record {
      answer = answered_by (load_questions seed range calls (length out)) (length (load_trace seed range calls));
      refused = λ unmet. rw unmet;
      value = value_is seed range calls out;
      front = front_is seed range calls out;
      beyond = beyond_stays seed range calls out (met seed range calls out);
      size = size_stays seed range calls out (met seed range calls out) refl;
    }

pub loads_played : EveryPlayedLoad
loads_played seed range calls out answers e room =
    let says = met_says seed range calls out e in
    let is : load_trace seed range calls ≡ take (value_of (load_answer seed range calls (length out))) (load_output seed range calls out) =
    sym (ap (λ (n : ℕ). take n (load_output seed range calls out)) (value_is seed range calls out e) ∙ front_is seed range calls out e) in
    subst (λ (trace : List ℕ). PlayedLoad seed range calls trace answers) is (played seed range calls answers says.valid says.short room)
