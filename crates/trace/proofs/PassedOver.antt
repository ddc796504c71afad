-- The player passes over recorded answers, proved. The statement is in specs/Sentences.antt.
use mathlib.Core.Bool.{Bool, true, false, cond, ◌&&◌}
use mathlib.Core.List.{List, [], ◌∷◌, ◌++◌, map}
use mathlib.Core.Path.{◌≡◌, refl, sym, ap, ap₂, ◌∙◌}
use Prim.Native.Nat.{ℕ, ◌+◌, ◌*◌, ◌≤◌, ◌<◌}
use native.Mathlib.Omega.{arith}
use lib.Dec.{eqb, leb}
use lib.ListN.{length, get_or, take, drop, length-append, length-drop, take-append-drop}
use lib.Seq.{length-take-le, take_at, drop_at, get_or-take, take-append-le, drop-append-le}
use borrow.Author.Tests.{le-leb, eq-eqb}
use Rattle.analog.specs.Answers.{first_no, all_met}
use Rattle.analog.proofs.AnswerLaws.{none_first}
use Rattle.pmc330_model.specs.Board.{answers_of}
use Rattle.pmc330_model.specs.Calls.{Call}
use Rattle.trace.specs.Grammar.{is_call_tag, length_of, length_in, low_first}
use Rattle.trace.specs.Fields.{Field, bytes_of_fields, tag_of, size_of, is_whole, fixed_bytes, same_bytes, range_of, is_heading, whole, later_fields, fields_of, is_undamaged, listed, fields_after, call_fields, call_in, calls_among, calls_of, without_answers}
use Rattle.trace.specs.Play.{answers_follow, field_questions, trace_number, in_buffer, calls_answered, played_buffer}
use Rattle.trace.specs.Sentences.{EveryPassedOver}
use Rattle.trace.proofs.FieldLaws.{call_no_answer, whole_parts}
use Rattle.trace.proofs.FieldBytes.{Parsed, parsed, calls_sound, calls_shorter, fields_back}
use Rattle.trace.proofs.CheckLaws.{heading_parts, heading_length, is_heading_lem, walkable}
use Rattle.trace.proofs.PlayLaws.{number_is}

-- ---- the calls alone

calls_again : (fields : List Field) → call_fields (call_fields fields) ≡ call_fields fields
unfolding call_fields
calls_again [] = refl
calls_again (field ∷ fields) = go (is_call_tag field.tag) refl (calls_again fields)
  where
    go :
        (t : Bool) → is_call_tag field.tag ≡ t → call_fields (call_fields fields) ≡ call_fields fields
        → call_fields (cond t (field ∷ call_fields fields) (call_fields fields)) ≡ cond t (field ∷ call_fields fields) (call_fields fields)
    go true e rest = rw e (ap (λ (l : List Field). field ∷ l) rest)
    go false e rest = rest

calls_follow : (before : ℕ) (fields : List Field) → answers_follow before (call_fields fields) ≡ true
unfolding call_fields answers_follow
calls_follow before [] = refl
calls_follow before (field ∷ fields) = go (is_call_tag field.tag) refl (calls_follow field.tag fields) (calls_follow before fields)
  where
    go :
        (t : Bool) → is_call_tag field.tag ≡ t → answers_follow field.tag (call_fields fields) ≡ true → answers_follow before (call_fields fields) ≡ true
        → answers_follow before (cond t (field ∷ call_fields fields) (call_fields fields)) ≡ true
    go true e here later = rw (call_no_answer field.tag e) here
    go false e here later = later

-- ---- the heading stays

-- a trace that begins with the first eight bytes of another
module _ (trace rest : List ℕ) (e : is_heading trace ≡ true) where
  abbrev head : List ℕ
  head = take 8 trace

  abbrev other : List ℕ
  other = head ++ rest

  long : 8 ≤ length trace
  long = heading_length trace e

  head_length : length head ≡ 8
  head_length = length-take-le 8 trace long

  byte_same : (k : ℕ) → k < 8 → get_or other k 0 ≡ get_or trace k 0
  byte_same k less =
      sym (get_or-take 8 other k 0 less)
      ∙ ap (λ (l : List ℕ). get_or l k 0) (take_at head rest 8 head_length)
      ∙ get_or-take 8 trace k 0 less

  in_head : (xs : List ℕ) (m n : ℕ) → m + n ≤ 8 → take n (drop m (head ++ xs)) ≡ take n (drop m head)
  in_head xs m n within =
      ap (take n) (drop-append-le m head xs (omega (arith, head_length)))
      ∙ take-append-le n (drop m head) xs (omega (arith, head_length, length-drop m head))

  part_same : (m n : ℕ) → m + n ≤ 8 → take n (drop m other) ≡ take n (drop m trace)
  part_same m n within =
      in_head rest m n within
      ∙ sym (in_head (drop 8 trace) m n within)
      ∙ ap (λ (l : List ℕ). take n (drop m l)) (take-append-drop 8 trace)

  other_whole : is_whole trace ≡ true → is_whole other ≡ true
  unfolding is_whole length_of length_in
  other_whole field =
      let size : size_of other ≡ size_of trace = ap low_first (part_same 1 2 (omega arith)) in
      let tag : tag_of other ≡ tag_of trace = byte_same 0 (omega arith) in
      let five : size_of trace ≡ 5 = (whole_parts trace field).stated ∙ ap length_of (heading_parts trace e).tag in
      let enough : length other ≡ 8 + length rest = length-append head rest ∙ ap (λ (n : ℕ). n + length rest) head_length in
      ap₂ ◌&&◌
      (ap₂ ◌&&◌ (le-leb 3 (length other) (omega (arith, enough))) (eq-eqb (size_of other) (length_of (tag_of other)) (size ∙ (whole_parts trace field).stated ∙ sym (ap length_of tag))))
      (le-leb (3 + size_of other) (length other) (omega (arith, enough, size, five)))

  pub other_range : range_of other ≡ range_of trace
  other_range = byte_same 7 (omega arith)

  pub other_heading : is_heading other ≡ true
  unfolding is_heading
  other_heading =
      let parts = heading_parts trace e in
      ap₂ ◌&&◌
      (ap₂ ◌&&◌
      (ap₂ ◌&&◌ (other_whole parts.field) (eq-eqb (tag_of other) 0 (byte_same 0 (omega arith) ∙ parts.tag)))
      (ap (λ (l : List ℕ). same_bytes l fixed_bytes) (part_same 3 4 (omega arith)) ∙ parts.fixed))
      (ap (λ (n : ℕ). leb n 3) other_range ∙ le-leb (range_of trace) 3 parts.range)

-- ---- the trace without its recorded answers

module _ (trace : List ℕ) (none : first_no (field_questions trace) ≡ 0) where
  abbrev fields : List Field
  fields = fields_after trace

  abbrev calls : List ℕ
  calls = bytes_of_fields (call_fields fields)

  heading : is_heading trace ≡ true
  heading = is_heading_lem trace none

  read : Parsed (drop 8 trace) fields
  read = parsed (drop 8 trace) fields (walkable trace none).undamaged

  back : take 8 trace ++ bytes_of_fields fields ≡ trace
  back = ap (λ (l : List ℕ). take 8 trace ++ l) read.back ∙ take-append-drop 8 trace

  later_is : later_fields (without_answers trace) ≡ whole (call_fields fields)
  later_is =
      ap fields_of (drop_at (take 8 trace) calls 8 (head_length trace calls heading))
      ∙ fields_back (call_fields fields) (calls_sound fields read.sound)

  left_is : fields_after (without_answers trace) ≡ call_fields fields
  left_is = ap listed later_is

  calls_same : calls_of (without_answers trace) ≡ calls_of trace
  calls_same = ap calls_among left_is ∙ ap (map call_in) (calls_again fields)

  shorter : length (without_answers trace) ≤ 16_777_216
  shorter =
      omega
      (arith, length-append (take 8 trace) calls, length-append (take 8 trace) (bytes_of_fields fields), calls_shorter fields, ap length back, (walkable trace none).short)

  -- no question is answered with no
  without_met : all_met (field_questions (without_answers trace)) ≡ true
  unfolding all_met
  without_met =
      rw (
        le-leb (length (without_answers trace)) 16_777_216 shorter,
        other_heading trace calls heading,
        ap is_undamaged later_is,
        ap (answers_follow (tag_of (without_answers trace))) left_is ∙ calls_follow (tag_of (without_answers trace)) fields,
      )

  number_same : (room : ℕ) → trace_number trace room ≡ trace_number (without_answers trace) room
  number_same room =
      number_is trace room
      ∙ rw (none) refl
      ∙ ap (λ (made : List Call). cond (leb (5 * length made) room) 0 20) (sym calls_same)
      ∙ sym (number_is (without_answers trace) room ∙ rw (none_first (field_questions (without_answers trace)) without_met) refl)

pub answers_passed_over : EveryPassedOver
unfolding calls_answered played_buffer
answers_passed_over trace buffer met =
    let none = none_first (field_questions trace) met in
    let room = length buffer in
    let number = number_same trace none room in
    record {
      bytes = back trace none;
      calls = later_is trace none;
      met = without_met trace none;
      result =
          ap₂ (λ (n : ℕ) (made : List Call). 256 * cond (eqb n 0) (length made) 0 + n) number (sym (calls_same trace none));
      answers =
          ap (λ (n : ℕ). cond (eqb n 0) (in_buffer (answers_of (range_of trace) (calls_of trace)) buffer) buffer) number
          ∙ ap₂ (λ (range : ℕ) (made : List Call). cond (eqb (trace_number (without_answers trace) room) 0) (in_buffer (answers_of range made) buffer) buffer)
          (sym (other_range trace (calls trace none) (heading trace none))) (sym (calls_same trace none));
    }
