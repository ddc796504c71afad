-- The laws of the check: what it finds is what questions 18, 19 and 26 say, and what they say of the trace.
use mathlib.Core.Bool.{Bool, true, false, cond, ◌&&◌, false≢true}
use mathlib.Core.List.{List, [], ◌∷◌, ◌++◌}
use mathlib.Core.Path.{◌≡◌, refl, sym, ap, ap₂, subst, ◌∙◌}
use Prim.Native.Nat.{ℕ, ◌+◌, ◌*◌, ◌≤◌, ◌<◌}
use native.Mathlib.Nat.{zero-add}
use native.Mathlib.Omega.{arith}
use lib.Dec.{leb}
use lib.ListN.{length, take, drop, length-drop, take-append-drop}
use Rattle.std.proofs.lemmas.Bool.{and_parts}
use Rattle.std.proofs.lemmas.Slice.Eq.{IsBytesEq, compares_Decides}
use borrow.Author.Tests.{le-leb, lt-leb, eqb-true, leb-true}
use Rattle.analog.specs.Answers.{first_no, asked, with_value, answered}
use Rattle.analog.proofs.AnswerLaws.{ok_first}
use Rattle.trace.specs.Grammar.{length_in, length_of, is_call_tag, is_answer_tag, low_first}
use Rattle.trace.specs.Fields.{Field, tag_of, is_whole, is_heading, range_of, fixed_bytes, same_bytes, Fields, damaged, whole, later_fields, is_undamaged, listed, fields_after, calls_among, calls_of}
use Rattle.trace.specs.Play.{answers_follow, field_questions}
use Rattle.trace.specs.Machine.{none_strays, walked, check_of, Walkable}
use Rattle.std.specs.Prelude.{Result, Ok, Err, ⊤}
use Rattle.analog.specs.declared.Refusal.{Refusal}
use Rattle.analog.specs.declared.Refusal.TheVariants.{BadHeading, BadField, StrayAnswer}
use Rattle.trace.proofs.FieldLaws.{whole_parts, heading_no_call, calls_few, heading_long}
use Rattle.trace.proofs.FieldBytes.{parsed}

-- ---- the heading

-- what a heading has
pub record Heading (trace : List ℕ) : Type 0 where
  pub field : is_whole trace ≡ true
  pub tag : tag_of trace ≡ 0
  pub fixed : same_bytes (take 4 (drop 3 trace)) fixed_bytes ≡ true
  pub range : range_of trace ≤ 3

pub heading_parts : (trace : List ℕ) → is_heading trace ≡ true → Heading trace
unfolding is_heading
heading_parts trace e =
    let three = (and_parts _ _ e).0 in
    let two = (and_parts _ _ three).0 in
    record {
      field = (and_parts _ _ two).0;
      tag = eqb-true (tag_of trace) 0x00 (and_parts _ _ two).1;
      fixed = (and_parts _ _ three).1;
      range = leb-true (range_of trace) 3 (and_parts _ _ e).1;
    }

pub heading_length : (trace : List ℕ) → is_heading trace ≡ true → 8 ≤ length trace
heading_length trace e = heading_long trace (heading_parts trace e).field (heading_parts trace e).tag

-- the heading's bytes before its range: tag 00H, length 5, "A330"
abbrev pub heading_front : List ℕ
heading_front = 0x00 ∷ 5 ∷ 0 ∷ fixed_bytes

module _ (range : ℕ) (rest : List ℕ) where
  abbrev opened : List ℕ
  opened = 0x00 ∷ 5 ∷ 0 ∷ 0x41 ∷ 0x33 ∷ 0x33 ∷ 0x30 ∷ range ∷ rest

  heading_here : is_heading opened ≡ leb range 3
  unfolding is_heading is_whole same_bytes low_first length_of length_in
  heading_here = rw (le-leb 3 (length opened) (omega arith), le-leb 8 (length opened) (omega arith))

pub heading_found : (trace : List ℕ) → 8 ≤ length trace → trace ≡ heading_front ++ drop 7 trace → is_heading trace ≡ leb (range_of trace) 3
heading_found trace long e = go (drop 7 trace) e
  where
    go : (later : List ℕ) → trace ≡ heading_front ++ later → is_heading trace ≡ leb (range_of trace) 3
    go [] e = absurd (omega (arith, ap length e))
    go (range ∷ rest) e = subst (λ (l : List ℕ). is_heading l ≡ leb (range_of l) 3) (sym e) (heading_here range rest)

bytes_equal : IsBytesEq same_bytes
unfolding same_bytes
bytes_equal = record { empty = refl; shorter = λ y ys. refl; longer = λ x xs. refl; heads = λ x y xs ys. refl }

pub heading_starts : (trace : List ℕ) → is_heading trace ≡ true → trace ≡ heading_front ++ drop 7 trace
unfolding low_first length_of length_in
heading_starts [] e = absurd (omega (arith, heading_length [] e))
heading_starts (a ∷ []) e = absurd (omega (arith, heading_length (a ∷ []) e))
heading_starts (a ∷ b ∷ []) e = absurd (omega (arith, heading_length (a ∷ b ∷ []) e))
heading_starts (a ∷ b ∷ d ∷ rest) e =
    let h = heading_parts (a ∷ b ∷ d ∷ rest) e in
    let size : b + 256 * (d + 256 * 0) ≡ 5 = (whole_parts (a ∷ b ∷ d ∷ rest) h.field).stated ∙ ap length_of h.tag in
    let low : b ≡ 5 = omega (arith, size) in
    let high : d ≡ 0 = omega (arith, size) in
    let fixed : take 4 rest ≡ fixed_bytes = (compares_Decides same_bytes bytes_equal (take 4 rest) fixed_bytes).0 h.fixed in
    ap₂ (λ (x y : ℕ). x ∷ y ∷ d ∷ rest) h.tag low
    ∙ ap₂ (λ (x : ℕ) (l : List ℕ). 0x00 ∷ 5 ∷ x ∷ l) high (sym (take-append-drop 4 rest) ∙ ap (λ (l : List ℕ). l ++ drop 4 rest) fixed)

-- ---- the check and the questions

-- question 26: none strays
none_strays_law : (before : ℕ) (fields : List Field) → none_strays (is_call_tag before) fields ≡ answers_follow before fields
unfolding none_strays answers_follow
none_strays_law before [] = refl
none_strays_law before (field ∷ fields) =
    ap (λ (t : Bool). cond (is_answer_tag field.tag) (is_call_tag before) true && t) (none_strays_law field.tag fields)

module _ (trace : List ℕ) where
  pub check_long : 16_777_216 < length trace → check_of trace ≡ Err BadHeading
  unfolding check_of answered asked
  check_long long = rw (lt-leb (length trace) 16_777_216 long)

  module _ (short : length trace ≤ 16_777_216) where
    pub check_heading : is_heading trace ≡ false → check_of trace ≡ Err BadHeading
    unfolding check_of answered asked
    check_heading other = rw (le-leb (length trace) 16_777_216 short, other)

    pub check_walked : is_heading trace ≡ true → walked 0 false false (later_fields trace) ≡ check_of trace
    unfolding check_of answered asked
    check_walked heading =
        ap (λ (t : Bool). walked 0 false t (later_fields trace)) (sym (ap is_call_tag (heading_parts trace heading).tag ∙ heading_no_call))
        ∙ rw (le-leb (length trace) 16_777_216 short, heading) (go (later_fields trace))
      where
        answered_by : (fields : List Field) (follow : Bool) → none_strays (is_call_tag (tag_of trace)) fields ≡ follow
            → walked 0 false (is_call_tag (tag_of trace)) (whole fields)
            ≡ with_value (cond follow (Ok record {}) (Err StrayAnswer)) (length (calls_among fields))
        answered_by fields true e = rw e (ap Ok (zero-add (length (calls_among fields))))
        answered_by fields false e = rw e

        go :
            (fields : Fields)
            → walked 0 false (is_call_tag (tag_of trace)) fields
            ≡ with_value (cond (is_undamaged fields) (cond (answers_follow (tag_of trace) (listed fields)) (Ok record {}) (Err StrayAnswer)) (Err BadField)) (length (calls_among (listed fields)))
        go damaged = refl
        go (whole fields) = answered_by fields (answers_follow (tag_of trace) fields) (none_strays_law (tag_of trace) fields)

-- ---- what is known of a trace, by what its check found

value_back : (r : Result ⊤ Refusal) (n m : ℕ) → Ok n ≡ with_value r m → (r ≡ Ok record {}) × (n ≡ m)
value_back (Ok all) n m e = (refl, cc)
value_back (Err refusal) n m e = cc

refusal_back : (r : Result ⊤ Refusal) (refusal : Refusal) (m : ℕ) → Err refusal ≡ with_value r m → r ≡ Err refusal
refusal_back (Ok all) refusal m e = cc
refusal_back (Err other) refusal m e = cc

-- refused: by the first question that is answered with no
pub found_refused : (trace : List ℕ) (refusal : Refusal) → Err refusal ≡ check_of trace → asked (field_questions trace) ≡ Err refusal
unfolding check_of answered
found_refused trace refusal found = refusal_back (asked (field_questions trace)) refusal (length (calls_of trace)) found

-- counted: no question is answered with no, and these are the calls
pub found_calls : (trace : List ℕ) (n : ℕ) → Ok n ≡ check_of trace → (first_no (field_questions trace) ≡ 0) × (n ≡ length (calls_of trace))
unfolding check_of answered
found_calls trace n found =
    let back = value_back (asked (field_questions trace)) n (length (calls_of trace)) found in
    (ok_first (field_questions trace) back.0, back.1)

-- ---- a trace of which no question is answered with no

all_met_lem : (a b d : Bool) → ◌≡◌ {A = ℕ} (cond a (cond b (cond d 0 26) 19) 18) 0 → (a ≡ true) × (b ≡ true) × (d ≡ true)
all_met_lem true true true e = (refl, refl, refl)
all_met_lem true true false e = absurd (omega arith)
all_met_lem true false d e = absurd (omega arith)
all_met_lem false b d e = absurd (omega arith)

undamaged_is : (fields : Fields) → is_undamaged fields ≡ true → fields ≡ whole (listed fields)
undamaged_is damaged e = absurd (false≢true e)
undamaged_is (whole fields) e = refl

module _ (trace : List ℕ) (none : first_no (field_questions trace) ≡ 0) where
  met :
      ((leb (length trace) 16_777_216 && is_heading trace) ≡ true) × (is_undamaged (later_fields trace) ≡ true)
      × (answers_follow (tag_of trace) (fields_after trace) ≡ true)
  unfolding first_no
  met = all_met_lem _ _ _ none

  pub is_heading_lem : is_heading trace ≡ true
  is_heading_lem = (and_parts _ _ met.0).1

  pub follows : answers_follow (tag_of trace) (fields_after trace) ≡ true
  follows = met.2

  pub walkable : Walkable trace
  walkable =
      record {
        heading = is_heading_lem;
        long = heading_length trace is_heading_lem;
        short = leb-true (length trace) 16_777_216 (and_parts _ _ met.0).0;
        undamaged = undamaged_is (later_fields trace) met.1;
      }

  -- the calls of a trace are not many
  pub calls_most : length (calls_of trace) ≤ 16_777_216
  calls_most = omega (arith, calls_few (fields_after trace), (parsed (drop 8 trace) (fields_after trace) walkable.undamaged).few, length-drop 8 trace, walkable.short)
