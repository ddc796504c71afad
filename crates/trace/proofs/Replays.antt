-- The sentences on replays, proved. Their statements are in specs/Sentences.antt.
use mathlib.Core.Bool.{Bool, true, false, cond, false≢true}
use mathlib.Core.List.{List, [], ◌∷◌, ◌++◌, append-nil}
use mathlib.Core.Logic.{◌⊎◌, inl, inr}
use mathlib.Core.Path.{◌≡◌, refl, sym, ap, ap₂, subst, ◌∙◌}
use Prim.Native.Nat.{ℕ, ◌+◌, ◌≤◌, ◌<◌}
use native.Mathlib.Nat.{zero-add}
use native.Mathlib.Omega.{arith}
use lib.Dec.{eqb}
use lib.ListN.{length, drop, length-drop}
use borrow.Author.Tests.{ne_eqb}
use Rattle.std.specs.Prelude.{Result, Ok, Err}
use Rattle.analog.specs.Answers.{number_of_refusal, first_no, all_met, Answer}
use Rattle.analog.specs.declared.Refusal.{Refusal}
use Rattle.analog.proofs.RefusalLaws.{number_some, number_small, same_refusal}
use Rattle.analog.proofs.AnswerLaws.{Outcome, met, unmet, outcome, none_first}
use Rattle.pmc330_model.specs.Board.{answers_of}
use Rattle.pmc330_model.proofs.Sentences.{answers_agree}
use Rattle.trace.specs.Grammar.{is_call_tag}
use Rattle.trace.specs.Fields.{Field, tag_of, range_of, fields_after, call_fields, answer_fields, calls_among, calls_of}
use Rattle.trace.specs.Play.{answers_follow, field_questions}
use Rattle.trace.specs.Replay.{is_equal, answer_to, comparisons_from, first_difference, replayed, replay_number, replay_index, replay_count}
use Rattle.trace.specs.Sentences.{RefusedReplay, EveryRefusedReplay, RecordedCall, index_of, count_to, is_as_recorded, AllAgree, FirstDiffers, EveryReplay, EveryPackedReplay}
use Rattle.trace.specs.declared.Replayed.{Replayed}
use Rattle.trace.specs.declared.Replayed.TheVariants.{Agree, Differs}
use Rattle.trace.proofs.FieldBytes.{all_sound, parsed}
use Rattle.trace.proofs.FieldLaws.{heading_no_call}
use Rattle.trace.proofs.CheckLaws.{heading_parts, is_heading_lem, follows, walkable}
use Rattle.trace.proofs.ReplayLaws.{replay_refused, replay_runs}
use Rattle.trace.proofs.RecordedLaws.{EndsInCall, search_from, answers, answer_is, all_equal_lem, compared_next, all_equal, difference_after, comparisons_append, comparisons_counted, sound_before}

pub replays_refused : EveryRefusedReplay
replays_refused trace failed = go (outcome (field_questions trace))
  where
    go : Outcome (field_questions trace) → RefusedReplay trace
    go (met all none ok) = absurd (false≢true (sym failed ∙ all))
    go (unmet refusal some number err) = record { refusal = refusal; first = err; result = replay_refused trace refusal err; number = sym number }

-- ---- how large its numbers are

pub record Small (most : ℕ) (replay : Result Replayed Refusal) : Type 0 where
  pub number : replay_number replay < 256
  pub index : replay_index replay ≤ most
  pub count : replay_count replay ≤ most

abbrev pub SmallFound : (most : ℕ) → Replayed → Type 0
SmallFound most found = Small most (Ok found)

differs_small : (answers : List Answer) (fields : List Field) (index count most : ℕ) → index + length fields ≤ most → count + length fields ≤ most → SmallFound most (first_difference count (comparisons_from index answers fields))
unfolding first_difference comparisons_from
differs_small answers [] index count most i n = record { number = omega arith; index = omega arith; count = omega arith }
differs_small answers (field ∷ fields) index count most i n =
    go (is_call_tag field.tag)
    (differs_small answers fields (index + 1) count most (omega arith) (omega arith))
    (differs_small answers fields index (count + 1) most (omega arith) (omega arith))
  where
    compare :
        (equal : Bool) → SmallFound most (first_difference (count + 1) (comparisons_from index answers fields))
        → SmallFound most (cond equal (first_difference (count + 1) (comparisons_from index answers fields)) (Differs index (count + 1)))
    compare true later = later
    compare false later = record { number = omega arith; index = omega arith; count = omega arith }

    go :
        (call : Bool) → SmallFound most (first_difference count (comparisons_from (index + 1) answers fields))
        → SmallFound most (first_difference (count + 1) (comparisons_from index answers fields))
        → SmallFound most
        (first_difference count
        (cond call (comparisons_from (index + 1) answers fields)
        (record { index = index; answer = answer_to answers index; body = field.body } ∷ comparisons_from index answers fields)))
    go true made compared = made
    go false made compared = compare (is_equal (answer_to answers index) field.body) compared

-- a field has three bytes or more, and a trace at most 2^24
pub replay_small : (trace : List ℕ) → Small 5_592_405 (replayed trace)
replay_small trace = go (outcome (field_questions trace))
  where
    go : Outcome (field_questions trace) → Small 5_592_405 (replayed trace)
    go (met all none ok) =
        let w = walkable trace none in
        let few = (parsed (drop 8 trace) (fields_after trace) w.undamaged).few in
        subst (Small 5_592_405) (sym (replay_runs trace none))
        (differs_small (answers_of (range_of trace) (calls_of trace)) (fields_after trace) 0 0 5_592_405 (omega (arith, few, length-drop 8 trace, w.short)) (omega (arith, few, length-drop 8 trace, w.short)))
    go (unmet refusal some number err) =
        subst (Small 5_592_405) (sym (replay_refused trace refusal err)) (record { number = number_small refusal; index = omega arith; count = omega arith })

-- ---- what it finds

module _ (trace : List ℕ) (met : all_met (field_questions trace) ≡ true) where
  abbrev fields : List Field
  fields = fields_after trace

  none : first_no (field_questions trace) ≡ 0
  none = none_first (field_questions trace) met

  sound : all_sound fields ≡ true
  sound = (parsed (drop 8 trace) fields (walkable trace none).undamaged).sound

  -- by the logbook's answers
  finds : replayed trace ≡ Ok (first_difference 0 (comparisons_from 0 (answers (range_of trace) fields) fields))
  finds =
      let valid = (heading_parts trace (is_heading_lem trace none)).range in
      replay_runs trace none
      ∙ ap (λ (l : List Answer). Ok (first_difference 0 (comparisons_from 0 l fields))) (answers_agree (range_of trace) (omega (arith, valid)) (calls_of trace))

  -- the heading is no call
  no_call_before : is_call_tag (tag_of trace) ≡ true → EndsInCall (range_of trace) fields []
  no_call_before call = absurd (false≢true (sym heading_no_call ∙ sym (ap is_call_tag (heading_parts trace (is_heading_lem trace none)).tag) ∙ call))

  -- the comparisons of the first fields are equal, if every call that is recorded among them is right
  first_equal :
      (limit : ℕ) → ((r : RecordedCall fields) → index_of r ≤ limit → is_as_recorded (range_of trace) r ≡ true)
      → (part rest : List Field) → fields ≡ part ++ rest → length (calls_among part) ≤ limit
      → all_equal (comparisons_from 0 (answers (range_of trace) fields) part) ≡ true
  unfolding call_fields
  first_equal limit right part rest place most =
      all_equal_lem (range_of trace) fields limit right [] part rest (tag_of trace) place
      no_call_before
      (ap (answers_follow (tag_of trace)) (sym place) ∙ follows trace none)
      (sound_before part rest (ap all_sound (sym place) ∙ sound))
      (omega (arith, most))

  agrees : AllAgree (range_of trace) fields → replayed trace ≡ Ok (Agree (length (answer_fields fields)))
  unfolding first_difference
  agrees right =
      let all = comparisons_from 0 (answers (range_of trace) fields) fields in
      let equal = first_equal (length (calls_among fields)) (λ r most. right r) fields [] (sym (append-nil fields)) (omega arith) in
      finds
      ∙ ap Ok
      (ap (first_difference 0) (sym (append-nil all))
      ∙ difference_after 0 all [] equal
      ∙ ap Agree (zero-add (length all) ∙ comparisons_counted (answers (range_of trace) fields) 0 fields sound))

  differing : (first : FirstDiffers (range_of trace) fields) → replayed trace ≡ Ok (Differs (index_of first.recorded) (count_to first.recorded))
  differing first =
      let r = first.recorded in
      let tail : List Field = r.call ∷ r.answer ∷ r.after in
      let logbook = answers (range_of trace) fields in
      let before = comparisons_from 0 logbook r.before in
      let equal = first_equal (length (calls_among r.before)) (λ s most. first.equal_before s (omega (arith, most))) r.before tail r.place (omega arith) in
      let counted = comparisons_counted logbook 0 r.before (sound_before r.before tail (ap all_sound (sym r.place) ∙ sound)) in
      finds
      ∙ ap Ok
      (ap (λ (l : List Field). first_difference 0 (comparisons_from 0 logbook l)) r.place
      ∙ ap (first_difference 0) (comparisons_append logbook 0 r.before tail)
      ∙ difference_after 0 before (comparisons_from (0 + length (calls_among r.before)) logbook tail) equal
      ∙ ap₂ (λ (n m : ℕ). first_difference n (comparisons_from m logbook tail)) (zero-add (length before) ∙ counted) (zero-add (length (calls_among r.before)))
      ∙ compared_next (range_of trace) fields r (length (answer_fields r.before)) false (ap (λ (a : Answer). is_equal a r.answer.body) (answer_is (range_of trace) fields r) ∙ first.unequal))

  which_holds : AllAgree (range_of trace) fields ⊎ FirstDiffers (range_of trace) fields
  which_holds =
      search_from (range_of trace) fields [] fields (tag_of trace) refl no_call_before (follows trace none) sound (λ r most. absurd (omega (arith, most)))

pub replays_answered : EveryReplay
replays_answered trace all = record { either = which_holds trace all; agree = agrees trace all; differs = differing trace all }

-- ---- what C gets

-- which case a replay is
record ReadBack (replay : Result Replayed Refusal) : Type 0 where
  numbered : 0 < replay_number replay → (refusal : Refusal) × (replay_number replay ≡ number_of_refusal refusal)
  refused : (refusal : Refusal) → replay_number replay ≡ number_of_refusal refusal → replay ≡ Err refusal
  found : replay_number replay ≡ 0 → replay ≡ Ok (cond (eqb (replay_index replay) 0) (Agree (replay_count replay)) (Differs (replay_index replay) (replay_count replay)))

not_refused : (replay : Result Replayed Refusal) (refusal : Refusal) → replay_number replay ≡ 0 → replay_number replay ≡ number_of_refusal refusal → replay ≡ Err refusal
not_refused replay refusal none number = absurd (omega (arith, number_some refusal))

refused_is : (refusal : Refusal) → ReadBack (Err refusal)
refused_is refusal =
    record {
      numbered = λ some. (refusal, refl);
      refused = λ other number. ap Err (same_refusal refusal other number);
      found = λ none. absurd (omega (arith, none, number_some refusal));
    }

agree_is : (count : ℕ) → ReadBack (Ok (Agree count))
agree_is count =
    record {
      numbered = λ some. absurd (omega (arith, some));
      refused = λ refusal number. not_refused (Ok (Agree count)) refusal refl number;
      found = λ none. refl;
    }

differs_is : (index count : ℕ) → 0 < index → ReadBack (Ok (Differs index count))
differs_is index count first =
    record {
      numbered = λ some. absurd (omega (arith, some));
      refused = λ refusal number. not_refused (Ok (Differs index count)) refusal refl number;
      found = λ none. sym (ap (λ (t : Bool). Ok (cond t (Agree count) (Differs index count))) (ne_eqb index 0 (λ e. omega arith)));
    }

which_case : (trace : List ℕ) → ReadBack (replayed trace)
which_case trace = go (outcome (field_questions trace))
  where
    found : (all : all_met (field_questions trace) ≡ true) → AllAgree (range_of trace) (fields_after trace) ⊎ FirstDiffers (range_of trace) (fields_after trace) → ReadBack (replayed trace)
    found all (inl agree) = subst ReadBack (sym (agrees trace all agree)) (agree_is (length (answer_fields (fields_after trace))))
    found all (inr first) = subst ReadBack (sym (differing trace all first)) (differs_is (index_of first.recorded) (count_to first.recorded) (omega arith))

    go : Outcome (field_questions trace) → ReadBack (replayed trace)
    go (met all _ _) = found all (which_holds trace all)
    go (unmet refusal some number err) = subst ReadBack (sym (replay_refused trace refusal err)) (refused_is refusal)

pub replays_packed : EveryPackedReplay
replays_packed trace =
    let small = replay_small trace in
    let back = which_case trace in
    record {
      number = omega (arith, small.number);
      index = omega (arith, small.number, small.index);
      count = omega (arith, small.number, small.index);
      numbered = back.numbered;
      refused = back.refused;
      found = back.found;
    }
