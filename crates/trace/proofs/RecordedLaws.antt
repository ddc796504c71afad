-- The laws of recorded calls: what is compared, and with which answer of the logbook.
use mathlib.Core.Bool.{Bool, true, false, cond, ◌&&◌, false≢true}
use mathlib.Core.List.{List, [], ◌∷◌, ◌++◌, map, append_assoc, append-nil}
use mathlib.Core.Logic.{◌⊎◌, inl, inr, ⊎_elim}
use mathlib.Core.Path.{◌≡◌, refl, sym, ap, ap₂, subst, ◌∙◌}
use Prim.Native.Nat.{ℕ, suc, ◌+◌, ◌-◌, ◌≤◌, ◌<◌}
use native.Mathlib.Nat.{add-zero}
use native.Mathlib.Numerals.{add-one}
use native.Mathlib.Omega.{arith}
use lib.ListN.{length, get_or, take, drop, length-append}
use lib.Seq.{take-append_seam, get_or-append_seam, get_or-append-add, take-add}
use Rattle.std.proofs.lemmas.Bool.{cases_lt, and_parts}
use Rattle.pmc330_model.specs.Calls.{Call}
use Rattle.pmc330_model.specs.Logbook.{Logbook, logged, logged_answer, logged_from, logged_answers_from, logbook_of, logbook_answers, new_logbook}
use Rattle.pmc330_model.specs.Words.{to_bit}
use Rattle.trace.specs.Grammar.{is_call_tag, is_answer_tag}
use Rattle.trace.specs.Fields.{Field, is_later_tag, call_fields, answer_fields, call_in, calls_among}
use Rattle.trace.specs.Play.{answers_follow}
use Rattle.trace.specs.Replay.{is_equal, Comparison, answer_to, comparisons_from, first_difference}
use Rattle.trace.specs.Sentences.{RecordedCall, index_of, is_as_recorded, AllAgree, FirstDiffers}
use Rattle.trace.specs.declared.Replayed.TheVariants.{Differs}
use Rattle.trace.proofs.FieldLaws.{answer_else, answer_no_call, call_no_answer, calls_counted}
use Rattle.trace.proofs.FieldBytes.{all_sound}
use Rattle.std.specs.Prelude.{Ok}
use Rattle.analog.specs.Answers.{Answer}

-- ---- lists of fields, in two parts

calls_append : (xs ys : List Field) → calls_among (xs ++ ys) ≡ calls_among xs ++ calls_among ys
unfolding call_fields
calls_append [] ys = refl
calls_append (x ∷ xs) ys = go (is_call_tag x.tag) (calls_append xs ys)
  where
    go :
        (t : Bool) → calls_among (xs ++ ys) ≡ calls_among xs ++ calls_among ys
        → map call_in (cond t (x ∷ call_fields (xs ++ ys)) (call_fields (xs ++ ys))) ≡ map call_in (cond t (x ∷ call_fields xs) (call_fields xs)) ++ calls_among ys
    go true e = ap (λ (l : List Call). call_in x ∷ l) e
    go false e = e

calls_length : (xs ys : List Field) → length (calls_among (xs ++ ys)) ≡ length (calls_among xs) + length (calls_among ys)
calls_length xs ys = ap length (calls_append xs ys) ∙ length-append (calls_among xs) (calls_among ys)

calls_end : (xs : List Field) (x : Field) → length (calls_among (xs ++ (x ∷ []))) ≡ length (calls_among xs) + to_bit (is_call_tag x.tag)
unfolding call_fields
calls_end xs x = calls_length xs (x ∷ []) ∙ omega (arith, calls_counted x [])

module _ (answers : List Answer) where
  pub comparisons_append :
      (index : ℕ) (xs ys : List Field)
      → comparisons_from index answers (xs ++ ys) ≡ comparisons_from index answers xs ++ comparisons_from (index + length (calls_among xs)) answers ys
  unfolding comparisons_from call_fields
  comparisons_append index [] ys = ap (λ (n : ℕ). comparisons_from n answers ys) (sym (add-zero index))
  comparisons_append index (x ∷ xs) ys =
      go (is_call_tag x.tag) (calls_counted x xs) (comparisons_append (index + 1) xs ys) (comparisons_append index xs ys)
    where
      this : Comparison
      this = record { index = index; answer = answer_to answers index; body = x.body }

      go :
          (t : Bool) → length (calls_among (x ∷ xs)) ≡ to_bit t + length (calls_among xs)
          → comparisons_from (index + 1) answers (xs ++ ys) ≡ comparisons_from (index + 1) answers xs ++ comparisons_from (index + 1 + length (calls_among xs)) answers ys
          → comparisons_from index answers (xs ++ ys) ≡ comparisons_from index answers xs ++ comparisons_from (index + length (calls_among xs)) answers ys
          → cond t (comparisons_from (index + 1) answers (xs ++ ys)) (this ∷ comparisons_from index answers (xs ++ ys))
          ≡ cond t (comparisons_from (index + 1) answers xs) (this ∷ comparisons_from index answers xs) ++ comparisons_from (index + length (calls_among (x ∷ xs))) answers ys
      go true counted made other =
          let same : index + 1 + length (calls_among xs) ≡ index + length (calls_among (x ∷ xs)) = omega (arith, counted) in
          made ∙ ap (λ (n : ℕ). comparisons_from (index + 1) answers xs ++ comparisons_from n answers ys) same
      go false counted made other =
          let same : index + length (calls_among xs) ≡ index + length (calls_among (x ∷ xs)) = omega (arith, counted) in
          ap (λ (l : List Comparison). this ∷ l) (other ∙ ap (λ (n : ℕ). comparisons_from index answers xs ++ comparisons_from n answers ys) same)

  -- one for each recorded answer
  pub comparisons_counted : (index : ℕ) (xs : List Field) → all_sound xs ≡ true → length (comparisons_from index answers xs) ≡ length (answer_fields xs)
  unfolding comparisons_from answer_fields all_sound
  comparisons_counted index [] sound = refl
  comparisons_counted index (x ∷ xs) sound =
      let rest = (and_parts _ _ sound).1 in
      go (is_call_tag x.tag) refl (is_answer_tag x.tag) refl (comparisons_counted (index + 1) xs rest) (comparisons_counted index xs rest)
    where
      later : is_later_tag x.tag ≡ true
      later = (and_parts _ _ (and_parts _ _ sound).0).0

      go :
          (t : Bool) → is_call_tag x.tag ≡ t → (s : Bool) → is_answer_tag x.tag ≡ s
          → length (comparisons_from (index + 1) answers xs) ≡ length (answer_fields xs)
          → length (comparisons_from index answers xs) ≡ length (answer_fields xs)
          → length (cond t (comparisons_from (index + 1) answers xs) (record { index = index; answer = answer_to answers index; body = x.body } ∷ comparisons_from index answers xs))
          ≡ length (cond s (x ∷ answer_fields xs) (answer_fields xs))
      go true call true answer made other = absurd (false≢true (sym (call_no_answer x.tag call) ∙ answer))
      go true call false answer made other = made
      go false call true answer made other = ap suc other
      go false call false answer made other = absurd (false≢true (sym answer ∙ answer_else x.tag later call))

-- ---- the first difference

abbrev pub all_equal : List Comparison → Bool
all_equal [] = true
all_equal (next ∷ later) = is_equal next.answer next.body && all_equal later

pub difference_after : (count : ℕ) (xs ys : List Comparison) → all_equal xs ≡ true → first_difference count (xs ++ ys) ≡ first_difference (count + length xs) ys
unfolding first_difference
difference_after count [] ys equal = ap (λ (n : ℕ). first_difference n ys) (sym (add-zero count))
difference_after count (x ∷ xs) ys equal =
    let same : count + 1 + length xs ≡ count + suc (length xs) = omega arith in
    rw (and_parts (is_equal x.answer x.body) _ equal).0
    (difference_after (count + 1) xs ys (and_parts _ _ equal).1
    ∙ ap (λ (n : ℕ). first_difference n ys) same)

-- ---- the answer of a recorded call

logged_at :
    (l : Logbook) (before : List Call) (call : Call) (after : List Call) (d : Answer)
    → get_or (logged_answers_from l (before ++ (call ∷ after))) (length before) d ≡ logged_answer (logged_from l before) call
unfolding logged_answers_from logged_from
logged_at l [] call after d = refl
logged_at l (first ∷ before) call after d = logged_at (logged l first) before call after d

module _ (range : ℕ) (fields : List Field) where
  abbrev pub answers : List Answer
  answers = logbook_answers range (calls_among fields)

  -- the answer to the call of its index is that of the logbook of the calls before it
  pub answer_is :
      (r : RecordedCall fields)
      → answer_to answers (index_of r) ≡ logged_answer (logbook_of range (calls_among r.before)) (call_in r.call)
  unfolding call_fields
  answer_is r =
      let calls : calls_among fields ≡ calls_among r.before ++ (call_in r.call ∷ calls_among (r.answer ∷ r.after)) =
      ap calls_among r.place ∙ calls_append r.before (r.call ∷ r.answer ∷ r.after) ∙ ap (λ (l : List Call). calls_among r.before ++ l) (rw r.call_tag) in
      ap (answer_to answers) (add-one (length (calls_among r.before)))
      ∙ ap (λ (l : List Call). get_or (logbook_answers range l) (length (calls_among r.before)) (Ok 0)) calls
      ∙ logged_at (new_logbook range) (calls_among r.before) (call_in r.call) (calls_among (r.answer ∷ r.after)) (Ok 0)

  -- fields that end in a call
  pub record EndsInCall (done : List Field) : Type 0 where
    pub front : List Field
    pub call : Field
    pub same : done ≡ front ++ (call ∷ [])
    pub is_call : is_call_tag call.tag ≡ true

  -- a recorded answer after such fields is that of a recorded call
  abbrev recorded : (done later : List Field) (field : Field) → fields ≡ done ++ (field ∷ later) → EndsInCall done → is_answer_tag field.tag ≡ true → RecordedCall fields
  recorded done later field place ends answer =
      record {
        before = ends.front;
        call = ends.call;
        answer = field;
        after = later;
        place = place ∙ ap (λ (l : List Field). l ++ (field ∷ later)) ends.same ∙ append_assoc ends.front (ends.call ∷ []) (field ∷ later);
        call_tag = ends.is_call;
        answer_tag = answer;
      }

  index_after : (done : List Field) (ends : EndsInCall done) → length (calls_among done) ≡ length (calls_among ends.front) + 1
  index_after done ends = ap (λ (l : List Field). length (calls_among l)) ends.same ∙ calls_end ends.front ends.call ∙ ap (λ (t : Bool). length (calls_among ends.front) + to_bit t) ends.is_call

  module _ (limit : ℕ) (right : (r : RecordedCall fields) → index_of r ≤ limit → is_as_recorded range r ≡ true) where
    -- the comparison of a recorded answer after such fields
    is_equal_lem :
        (done later : List Field) (field : Field) → fields ≡ done ++ (field ∷ later) → EndsInCall done → is_answer_tag field.tag ≡ true
        → length (calls_among done) ≤ limit → is_equal (answer_to answers (length (calls_among done))) field.body ≡ true
    is_equal_lem done later field place ends answer most =
        let r = recorded done later field place ends answer in
        let index = index_after done ends in
        ap (λ (n : ℕ). is_equal (answer_to answers n) field.body) index
        ∙ ap (λ (a : Answer). is_equal a field.body) (answer_is r)
        ∙ right r (omega (arith, index, most))

    -- up to the limit all are equal
    pub all_equal_lem :
        (done part rest : List Field) (before : ℕ) → fields ≡ done ++ (part ++ rest) → (is_call_tag before ≡ true → EndsInCall done)
        → answers_follow before (part ++ rest) ≡ true → all_sound part ≡ true → length (calls_among done) + length (calls_among part) ≤ limit
        → all_equal (comparisons_from (length (calls_among done)) answers part) ≡ true
    unfolding comparisons_from answers_follow all_sound call_fields
    all_equal_lem done [] rest before place ends follow sound most = refl
    all_equal_lem done (field ∷ part) rest before place ends follow sound most =
        let place' = place ∙ sym (append_assoc done (field ∷ []) (part ++ rest)) in
        let follow' = (and_parts _ _ follow).1 in
        let most' : length (calls_among (done ++ (field ∷ []))) + length (calls_among part) ≤ limit = omega (arith, calls_end done field, calls_counted field part, most) in
        go (is_call_tag field.tag) refl (calls_end done field)
        (all_equal_lem (done ++ (field ∷ [])) part rest field.tag place' (λ made. record { front = done; call = field; same = refl; is_call = made }) follow' (and_parts _ _ sound).1 most')
      where
        n : ℕ
        n = length (calls_among done)

        later : is_later_tag field.tag ≡ true
        later = (and_parts _ _ (and_parts _ _ sound).0).0

        go :
            (t : Bool) → is_call_tag field.tag ≡ t → length (calls_among (done ++ (field ∷ []))) ≡ n + to_bit t
            → all_equal (comparisons_from (length (calls_among (done ++ (field ∷ [])))) answers part) ≡ true
            → all_equal (cond t (comparisons_from (n + 1) answers part) (record { index = n; answer = answer_to answers n; body = field.body } ∷ comparisons_from n answers part)) ≡ true
        go true made index rest' = sym (ap (λ (k : ℕ). all_equal (comparisons_from k answers part)) index) ∙ rest'
        go false other index rest' =
            let answer = answer_else field.tag later other in
            let after_call : is_call_tag before ≡ true =
            sym (ap (λ (t : Bool). cond t (is_call_tag before) true) answer) ∙ (and_parts _ _ follow).0 in
            ap₂ ◌&&◌ (is_equal_lem done (part ++ rest) field place (ends after_call) answer (omega (arith, most)))
            (sym (ap (λ (k : ℕ). all_equal (comparisons_from k answers part)) (index ∙ add-zero n)) ∙ rest')

  -- what the comparisons after the fields before a recorded call find
  pub compared_next :
      (r : RecordedCall fields) (count : ℕ) (equal : Bool) → is_equal (answer_to answers (index_of r)) r.answer.body ≡ equal
      → first_difference count (comparisons_from (length (calls_among r.before)) answers (r.call ∷ r.answer ∷ r.after))
      ≡ cond equal (first_difference (count + 1) (comparisons_from (index_of r) answers r.after)) (Differs (index_of r) (count + 1))
  unfolding comparisons_from first_difference
  compared_next r count equal e = rw (r.call_tag, answer_no_call r.answer.tag r.answer_tag, e)

pub sound_before : (xs ys : List Field) → all_sound (xs ++ ys) ≡ true → all_sound xs ≡ true
unfolding all_sound
sound_before [] ys e = refl
sound_before (x ∷ xs) ys e =
    ap₂ ◌&&◌ (and_parts _ _ e).0 (sound_before xs ys (and_parts _ _ e).1)

-- ---- the search for the first that differs

module _ (range : ℕ) (fields : List Field) where
  abbrev no_field : Field
  no_field = record { tag = 0; body = [] }

  -- what stands at the places of a recorded call
  before_is : (r : RecordedCall fields) → take (length r.before) fields ≡ r.before
  before_is r = ap (take (length r.before)) r.place ∙ take-append_seam r.before (r.call ∷ r.answer ∷ r.after)

  call_is : (r : RecordedCall fields) → get_or fields (length r.before) no_field ≡ r.call
  call_is r = ap (λ (l : List Field). get_or l (length r.before) no_field) r.place ∙ get_or-append_seam r.before r.call (r.answer ∷ r.after) no_field

  recorded_is : (r : RecordedCall fields) → get_or fields (length r.before + 1) no_field ≡ r.answer
  recorded_is r =
      ap (λ (l : List Field). get_or l (length r.before + 1) no_field) r.place
      ∙ get_or-append-add r.before (r.call ∷ r.answer ∷ r.after) 1 no_field

  recorded_length : (r : RecordedCall fields) → length r.before + 2 ≤ length fields
  recorded_length r = omega (arith, ap length r.place, length-append r.before (r.call ∷ r.answer ∷ r.after))

  -- at the same place they are the same
  same_place : (r s : RecordedCall fields) → length r.before ≡ length s.before → is_as_recorded range r ≡ is_as_recorded range s
  same_place r s e =
      let before = sym (before_is r) ∙ ap (λ (n : ℕ). take n fields) e ∙ before_is s in
      let call = sym (call_is r) ∙ ap (λ (n : ℕ). get_or fields n no_field) e ∙ call_is s in
      let answer = sym (recorded_is r) ∙ ap (λ (n : ℕ). get_or fields (n + 1) no_field) e ∙ recorded_is s in
      λ i. is_equal (logged_answer (logbook_of range (calls_among (before i))) (call_in (call i))) (answer i).body

  -- one that comes no earlier has no smaller index
  index_grows : (r s : RecordedCall fields) → length r.before ≤ length s.before → index_of r ≤ index_of s
  index_grows r s least =
      let n = length r.before in
      let more = length s.before - n in
      let same : n + more ≡ length s.before = omega arith in
      let split : s.before ≡ r.before ++ take more (drop n fields) =
      sym (before_is s) ∙ ap (λ (k : ℕ). take k fields) (sym same) ∙ take-add n more fields ∙ ap (λ (l : List Field). l ++ take more (drop n fields)) (before_is r) in
      omega (arith, ap (λ (l : List Field). length (calls_among l)) split, calls_length r.before (take more (drop n fields)))

  -- every recorded call that lies in the first fields is equal
  abbrev EqualIn : (n : ℕ) → Type 0
  EqualIn n = (r : RecordedCall fields) → length r.before + 2 ≤ n → is_as_recorded range r ≡ true

  -- one field more: nothing new ends there, or what does is equal
  one_more : (n : ℕ) → EqualIn n → ((r : RecordedCall fields) → length r.before + 2 ≡ n + 1 → is_as_recorded range r ≡ true) → EqualIn (n + 1)
  one_more n equal last r most =
      ⊎_elim (λ (h : length r.before + 2 < n + 1). equal r (omega arith)) (λ (h : n + 1 ≤ length r.before + 2). last r (omega arith)) (cases_lt (length r.before + 2) (n + 1))

  module _ (done later : List Field) (field : Field) (place : fields ≡ done ++ (field ∷ later)) where
    field_is : get_or fields (length done) no_field ≡ field
    field_is = ap (λ (l : List Field). get_or l (length done) no_field) place ∙ get_or-append_seam done field later no_field

    -- what ends with this field has it for its recorded answer
    ends_here : (r : RecordedCall fields) → length r.before + 2 ≡ length done + 1 → r.answer ≡ field
    ends_here r e =
        let at : length r.before + 1 ≡ length done = omega arith in
        sym (recorded_is r) ∙ ap (λ (n : ℕ). get_or fields n no_field) at ∙ field_is

    after_call : is_call_tag field.tag ≡ true → EqualIn (length done) → EqualIn (length done + 1)
    after_call call equal =
        one_more (length done) equal
        (λ r e. absurd (false≢true (sym (answer_no_call r.answer.tag r.answer_tag) ∙ ap (λ (f : Field). is_call_tag f.tag) (ends_here r e) ∙ call)))

    module _ (ends : EndsInCall range fields done) (answer : is_answer_tag field.tag ≡ true) where
      abbrev this : RecordedCall fields
      this = recorded range fields done later field place ends answer

      this_length : length this.before + 1 ≡ length done
      this_length = sym (ap length ends.same ∙ length-append ends.front (ends.call ∷ []))

      after_equal : is_as_recorded range this ≡ true → EqualIn (length done) → EqualIn (length done + 1)
      after_equal right equal = one_more (length done) equal (λ r e. same_place r this (omega (arith, this_length)) ∙ right)

      differs_here : is_as_recorded range this ≡ false → EqualIn (length done) → FirstDiffers range fields
      differs_here wrong equal =
          record {
            recorded = this;
            unequal = wrong;
            equal_before = λ earlier less. equal earlier (⊎_elim
                (λ (h : length done < length earlier.before + 2). absurd (omega (arith, index_grows this earlier (omega (arith, this_length)))))
                (λ (h : length earlier.before + 2 ≤ length done). h)
                (cases_lt (length done) (length earlier.before + 2)));
          }

  pub search_from :
      (done part : List Field) (before : ℕ) → fields ≡ done ++ part → (is_call_tag before ≡ true → EndsInCall range fields done)
      → answers_follow before part ≡ true → all_sound part ≡ true → EqualIn (length done) → AllAgree range fields ⊎ FirstDiffers range fields
  unfolding answers_follow all_sound
  search_from done [] before place ends follow sound equal =
      inl (λ r. equal r (omega (arith, recorded_length r, ap length (place ∙ append-nil done))))
  search_from done (field ∷ part) before place ends follow sound equal =
      go (is_call_tag field.tag) refl
      (λ (next : EqualIn (length done + 1)).
      search_from (done ++ (field ∷ [])) part field.tag (place ∙ sym (append_assoc done (field ∷ []) part))
      (λ made. record { front = done; call = field; same = refl; is_call = made })
      (and_parts _ _ follow).1
      (and_parts _ _ sound).1
      (subst EqualIn (sym (length-append done (field ∷ []))) next))
    where
      Rest : Type 0
      Rest = EqualIn (length done + 1) → AllAgree range fields ⊎ FirstDiffers range fields

      compare : (e : EndsInCall range fields done) (answer : is_answer_tag field.tag ≡ true) (t : Bool) → is_as_recorded range (this done part field place e answer) ≡ t → Rest → AllAgree range fields ⊎ FirstDiffers range fields
      compare e answer true right rest = rest (after_equal done part field place e answer right equal)
      compare e answer false wrong rest = inr (differs_here done part field place e answer wrong equal)

      go : (t : Bool) → is_call_tag field.tag ≡ t → Rest → AllAgree range fields ⊎ FirstDiffers range fields
      go true call rest = rest (after_call done part field place call equal)
      go false other rest =
          let later = (and_parts _ _ (and_parts _ _ sound).0).0 in
          let answer = answer_else field.tag later other in
          let called : is_call_tag before ≡ true =
          sym (ap (λ (t : Bool). cond t (is_call_tag before) true) answer) ∙ (and_parts _ _ follow).0 in
          compare (ends called) answer (is_as_recorded range (this done part field place (ends called) answer)) refl rest
