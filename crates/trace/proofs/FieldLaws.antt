-- The laws of fields: some bytes' fields are their first field, then the fields after it.
use mathlib.Core.Bool.{Bool, true, false, cond, not, ◌&&◌, ◌||◌, false≢true}
use mathlib.Core.List.{List, [], ◌∷◌}
use mathlib.Core.Logic.{⊎_elim}
use mathlib.Core.Path.{◌≡◌, refl, sym, ap, ap₂, ◌∙◌}
use Prim.Native.Nat.{ℕ, zero, suc, ◌+◌, ◌≤◌, ◌<◌}
use native.Mathlib.Omega.{arith}
use lib.Dec.{eqb, ltb, leb}
use lib.ListN.{length, get_or, take, drop, length-drop}
use lib.Seq.{length-take-le}
use borrow.Author.Tests.{le-leb, eq-eqb, ne_eqb, eqb-true, ltb-true, leb-true}
use Rattle.std.specs.Prelude.{Ok, Err}
use Rattle.analog.specs.declared.Refusal.TheVariants.{StrayAnswer}
use Rattle.pmc330_model.specs.Words.{to_bit}
use Rattle.std.proofs.lemmas.Bool.{cases_lt, and_parts}
use Rattle.pmc330_model.proofs.Cases.{values_below, same_below}
use Rattle.trace.specs.Grammar.{Kind, Row, is_answer, grammar, length_in, is_kind_in, length_of, is_call_tag, is_answer_tag, low_first, number_at}
use Rattle.trace.specs.Fields.{Field, tag_of, size_of, body_of, first_field, after_field, is_whole, Fields, damaged, whole, in_front, is_later_tag, is_later_field, fields_in, fields_of, is_undamaged, listed, call_fields, call_in, calls_among}
use Rattle.trace.specs.Machine.{SplitsField, none_strays, walked}
use Rattle.trace.specs.Stated.{byte_of}
use Rattle.trace.specs.declared.fields.Tag.{Tag}
use Rattle.trace.specs.declared.fields.Tag.TheVariants.{Read}

-- ---- the grammar's table

-- a number of every row, its tag or its size, is below a bound
abbrev rows_below : (of : Row → ℕ) → ℕ → List Row → Bool
rows_below of n [] = true
rows_below of n (r ∷ rows) = ltb (of r) n && rows_below of n rows

abbrev tag_in : Row → ℕ
tag_in r = r.tag

abbrev size_in : Row → ℕ
size_in r = r.size

-- a tag beyond them all is of no kind
no_row : (is_kind : Kind → Bool) (n : ℕ) (rows : List Row) → rows_below tag_in n rows ≡ true → (tag : ℕ) → n ≤ tag → is_kind_in is_kind rows tag ≡ false
unfolding is_kind_in
no_row is_kind n [] below tag beyond = refl
no_row is_kind n (r ∷ rows) below tag beyond =
    let less = ltb-true r.tag n ((and_parts (ltb r.tag n) (rows_below tag_in n rows) below).0) in
    rw (ne_eqb tag r.tag (λ e. omega arith)) (no_row is_kind n rows ((and_parts (ltb r.tag n) (rows_below tag_in n rows) below).1) tag beyond)

-- a test of tags is a rule of the table: computed for each tag up to the greatest, and false beyond
by_table :
    (test rule : ℕ → Bool) → values_below test 10 ≡ values_below rule 10 → ((tag : ℕ) → 10 ≤ tag → test tag ≡ false)
    → ((tag : ℕ) → 10 ≤ tag → rule tag ≡ false) → (tag : ℕ) → test tag ≡ rule tag
by_table test rule same far far' tag =
    ⊎_elim (λ (h : tag < 10). same_below test rule 10 same tag h) (λ (h : 10 ≤ tag). far tag h ∙ sym (far' tag h)) (cases_lt tag 10)

answer_beyond : (tag : ℕ) → 10 ≤ tag → is_answer_tag tag ≡ false
unfolding is_answer_tag
answer_beyond = no_row is_answer 10 grammar refl

answer_test : (tag : ℕ) → eqb tag 9 ≡ is_answer_tag tag
unfolding is_answer_tag is_kind_in
answer_test = by_table (λ tag. eqb tag 9) is_answer_tag refl (λ tag h. ne_eqb tag 9 (λ e. omega arith)) answer_beyond

-- the heading's tag
pub heading_no_call : is_call_tag 0 ≡ false
unfolding is_call_tag is_kind_in
heading_no_call = refl

-- a tag that may stand after the heading is a call's, or else a recorded answer's
pub answer_else : (tag : ℕ) → is_later_tag tag ≡ true → is_call_tag tag ≡ false → is_answer_tag tag ≡ true
answer_else tag later none = sym (rw none) ∙ later

pub answer_no_call : (tag : ℕ) → is_answer_tag tag ≡ true → is_call_tag tag ≡ false
unfolding is_call_tag is_kind_in
answer_no_call tag e = ap is_call_tag (eqb-true tag 9 (answer_test tag ∙ e))

pub call_no_answer : (tag : ℕ) → is_call_tag tag ≡ true → is_answer_tag tag ≡ false
call_no_answer tag made = go (is_answer_tag tag) refl
  where
    go : (t : Bool) → is_answer_tag tag ≡ t → t ≡ false
    go true e = sym made ∙ answer_no_call tag e
    go false e = refl

-- no body is long
size_below : (n : ℕ) (rows : List Row) → 0 < n → rows_below size_in n rows ≡ true → (tag : ℕ) → length_in rows tag < n
unfolding length_in
size_below n [] some below tag = some
size_below n (r ∷ rows) some below tag =
    go (eqb tag r.tag) (ltb-true r.size n ((and_parts (ltb r.size n) (rows_below size_in n rows) below).0))
    (size_below n rows some ((and_parts (ltb r.size n) (rows_below size_in n rows) below).1) tag)
  where
    go : (t : Bool) → r.size < n → length_in rows tag < n → cond t r.size (length_in rows tag) < n
    go true here later = here
    go false here later = later

pub length_small : (tag : ℕ) → length_of tag < 8
unfolding length_of
length_small = size_below 8 grammar (omega arith) refl

-- a recorded answer has five bytes
pub answer_length : (tag : ℕ) → is_later_tag tag ≡ true → is_call_tag tag ≡ false → length_of tag ≡ 5
unfolding length_of length_in
answer_length tag later none = ap length_of (eqb-true tag 9 (answer_test tag ∙ answer_else tag later none))

-- ---- the code's tags

pub tag_later : (tag : Tag) → is_later_tag (byte_of tag) ≡ true
unfolding is_call_tag is_answer_tag is_kind_in
tag_later Read = refl
tag_later _ = refl

pub answer_or_call : (tag : Tag) → is_answer_tag (byte_of tag) ≡ not (is_call_tag (byte_of tag))
unfolding is_call_tag is_answer_tag is_kind_in
answer_or_call Read = refl
answer_or_call _ = refl

-- a byte that is no tag's may not stand after the heading
pub no_tag :
    (byte : ℕ) → (byte ≡ 1 → ⊥) → (byte ≡ 2 → ⊥) → (byte ≡ 3 → ⊥) → (byte ≡ 4 → ⊥) → (byte ≡ 5 → ⊥) → (byte ≡ 6 → ⊥) → (byte ≡ 7 → ⊥) → (byte ≡ 8 → ⊥) → (byte ≡ 9 → ⊥)
    → is_later_tag byte ≡ false
unfolding is_call_tag is_answer_tag is_kind_in
no_tag byte n₁ n₂ n₃ n₄ n₅ n₆ n₇ n₈ n₉ =
    rw (ne_eqb byte 1 n₁, ne_eqb byte 2 n₂, ne_eqb byte 3 n₃, ne_eqb byte 4 n₄, ne_eqb byte 5 n₅, ne_eqb byte 6 n₆, ne_eqb byte 7 n₇, ne_eqb byte 8 n₈, ne_eqb byte 9 n₉)
    (go (eqb byte 0))
  where
    go : (heading : Bool) → (cond heading false false || cond heading false false) ≡ false
    go true = refl
    go false = refl

-- ---- numbers

pub first_byte : (l : List ℕ) → get_or l 0 0 ≡ number_at 0 1 l
unfolding low_first
first_byte [] = refl
first_byte (a ∷ l) = omega arith

-- ---- the fields of some bytes

pub empty : (bytes : List ℕ) → length bytes ≡ 0 → (turns : ℕ) → fields_in (suc turns) bytes ≡ whole []
unfolding fields_in
empty bytes e turns = rw (eq-eqb (length bytes) 0 e)

abbrev pub step : List ℕ → Fields → Fields
step bytes rest = cond (is_later_field bytes) (in_front (first_field bytes) rest) damaged

pub one_turn : (bytes : List ℕ) → 0 < length bytes → (turns : ℕ) → fields_in (suc turns) bytes ≡ step bytes (fields_in turns (after_field bytes))
unfolding fields_in
one_turn bytes some turns = rw (ne_eqb (length bytes) 0 (λ e. omega arith))

-- turns beyond the length make no difference
pub enough : (n m : ℕ) (bytes : List ℕ) → length bytes < n → length bytes < m → fields_in n bytes ≡ fields_in m bytes
enough zero m bytes h k = absurd (omega arith)
enough (suc n) zero bytes h k = absurd (omega arith)
enough (suc n) (suc m) bytes h k =
    ⊎_elim
    (λ (some : 0 < length bytes).
    one_turn bytes some n
    ∙ ap (step bytes) (enough n m (after_field bytes) (omega (arith, length-drop (3 + size_of bytes) bytes)) (omega (arith, length-drop (3 + size_of bytes) bytes)))
    ∙ sym (one_turn bytes some m))
    (λ (none : length bytes ≤ 0). empty bytes (omega arith) n ∙ sym (empty bytes (omega arith) m))
    (cases_lt 0 (length bytes))

pub fields_end : (bytes : List ℕ) → length bytes ≡ 0 → fields_of bytes ≡ whole []
unfolding fields_of
fields_end bytes e = empty bytes e (length bytes)

pub fields_step : (bytes : List ℕ) → 0 < length bytes → fields_of bytes ≡ cond (is_later_field bytes) (in_front (first_field bytes) (fields_of (after_field bytes))) damaged
unfolding fields_of
fields_step bytes some =
    let less = length-drop (3 + size_of bytes) bytes in
    one_turn bytes some (length bytes)
    ∙ ap (step bytes) (enough (length bytes) (suc (length (after_field bytes))) (after_field bytes) (omega (arith, less)) (omega arith))

-- what the code's test of the end says
pub some_left : (bytes : List ℕ) {t : Bool} → t ≡ eqb (length bytes) 0 → t ≡ false → 0 < length bytes
some_left [] e f = absurd (false≢true (sym f ∙ e))
some_left (b ∷ bytes) e f = omega arith

pub none_left : (bytes : List ℕ) {t : Bool} → t ≡ eqb (length bytes) 0 → t ≡ true → length bytes ≡ 0
none_left bytes e f = eqb-true (length bytes) 0 (sym e ∙ f)

-- ---- a whole field

-- what it has
pub record WholeField (bytes : List ℕ) : Type 0 where
  pub head : 3 ≤ length bytes
  pub stated : size_of bytes ≡ length_of (tag_of bytes)
  pub ends : 3 + size_of bytes ≤ length bytes

pub whole_parts : (bytes : List ℕ) → is_whole bytes ≡ true → WholeField bytes
unfolding is_whole
whole_parts bytes field =
    let front = (and_parts (leb 3 (length bytes) && eqb (size_of bytes) (length_of (tag_of bytes))) (leb (3 + size_of bytes) (length bytes)) field).0 in
    record {
      head = leb-true 3 (length bytes) ((and_parts (leb 3 (length bytes)) _ front).0);
      stated = eqb-true _ _ ((and_parts (leb 3 (length bytes)) _ front).1);
      ends = leb-true _ _ ((and_parts (leb 3 (length bytes) && eqb (size_of bytes) (length_of (tag_of bytes))) _ field).1);
    }

parts_whole : (bytes : List ℕ) → WholeField bytes → is_whole bytes ≡ true
unfolding is_whole
parts_whole bytes p = rw (le-leb 3 (length bytes) p.head, eq-eqb (size_of bytes) (length_of (tag_of bytes)) p.stated, le-leb (3 + size_of bytes) (length bytes) p.ends)

pub no_later_field : (bytes : List ℕ) → (WholeField bytes → ⊥) → is_later_field bytes ≡ false
no_later_field bytes none = go (is_whole bytes) refl
  where
    go : (t : Bool) → is_whole bytes ≡ t → (t && is_later_tag (tag_of bytes)) ≡ false
    go true e = absurd (none (whole_parts bytes e))
    go false e = refl

pub later_some : (bytes : List ℕ) → is_later_field bytes ≡ true → 0 < length bytes
later_some bytes later = omega (arith, (whole_parts bytes ((and_parts (is_whole bytes) _ later).0)).head)

pub parts_later : (bytes : List ℕ) → WholeField bytes → is_later_tag (tag_of bytes) ≡ true → is_later_field bytes ≡ true
parts_later bytes p later = rw (parts_whole bytes p, later)

-- its tag and its size stand in its first three bytes
pub head_tag : (bytes : List ℕ) → get_or (take 3 bytes) 0 0 ≡ tag_of bytes
head_tag [] = refl
head_tag (b ∷ bytes) = refl

pub head_size : (bytes : List ℕ) → number_at 1 2 (take 3 bytes) ≡ size_of bytes
head_size [] = refl
head_size (a ∷ []) = refl
head_size (a ∷ b ∷ []) = refl
head_size (a ∷ b ∷ d ∷ bytes) = refl

-- the body of a whole field, by its tag
pub body_length : (bytes : List ℕ) → is_later_field bytes ≡ true → length (body_of bytes) ≡ length_of (tag_of bytes)
body_length bytes later =
    let p = whole_parts bytes ((and_parts (is_whole bytes) _ later).0) in
    length-take-le (size_of bytes) (drop 3 bytes) (omega (arith, p.ends, length-drop 3 bytes)) ∙ p.stated

-- ---- the next field

-- the fields where no later field stands first, or one does
pub no_field : (bytes : List ℕ) → 0 < length bytes → is_later_field bytes ≡ false → fields_of bytes ≡ damaged
no_field bytes some e = fields_step bytes some ∙ rw e

pub a_field : (bytes : List ℕ) → is_later_field bytes ≡ true → fields_of bytes ≡ in_front (first_field bytes) (fields_of (after_field bytes))
a_field bytes e = fields_step bytes (later_some bytes e) ∙ rw e

-- where none is damaged: the field that comes next, or the end
pub next_field :
    (bytes : List ℕ) (tag : ℕ) (body after : List ℕ) → SplitsField bytes tag body after → is_undamaged (fields_of bytes) ≡ true
    → (listed (fields_of bytes) ≡ record { tag = tag; body = body } ∷ listed (fields_of after)) × (is_undamaged (fields_of after) ≡ true)
next_field bytes tag body after s e = go (fields_of after) (a_field bytes s.later ∙ λ i. in_front (record { tag = sym s.tag_same i; body = sym s.body_same i }) (fields_of (sym s.after_same i)))
  where
    go : (later : Fields) → fields_of bytes ≡ in_front (record { tag = tag; body = body }) later → (listed (fields_of bytes) ≡ record { tag = tag; body = body } ∷ listed later) × (is_undamaged later ≡ true)
    go damaged f = absurd (false≢true (sym (ap is_undamaged f) ∙ e))
    go (whole fields) f = (ap listed f, refl)

pub no_next : (bytes : List ℕ) → is_later_field bytes ≡ false → is_undamaged (fields_of bytes) ≡ true → listed (fields_of bytes) ≡ []
no_next [] none e = ap listed (fields_end [] refl)
no_next (b ∷ bytes) none e = absurd (false≢true (sym (ap is_undamaged (no_field (b ∷ bytes) (omega arith) none)) ∙ e))

-- the calls of a field and those after it
pub call_front : (field : Field) (later : List Field) → is_call_tag field.tag ≡ true → calls_among (field ∷ later) ≡ call_in field ∷ calls_among later
unfolding call_fields
call_front field later e = rw e

pub other_front : (field : Field) (later : List Field) → is_call_tag field.tag ≡ false → calls_among (field ∷ later) ≡ calls_among later
unfolding call_fields
other_front field later e = rw e

-- ---- a turn of the check

pub calls_counted : (field : Field) (later : List Field) → length (calls_among (field ∷ later)) ≡ to_bit (is_call_tag field.tag) + length (calls_among later)
calls_counted field later = go (is_call_tag field.tag) refl
  where
    go : (t : Bool) → is_call_tag field.tag ≡ t → length (calls_among (field ∷ later)) ≡ to_bit t + length (calls_among later)
    go true e = ap length (call_front field later e) ∙ omega arith
    go false e = ap length (other_front field later e) ∙ omega arith

-- a recorded answer strays, or one after it does
strays_front : (strays answer after_call later : Bool) → (strays || not (cond answer after_call true && later)) ≡ ((strays || answer && not after_call) || not later)
strays_front true answer after_call later = refl
strays_front false true true later = refl
strays_front false true false later = refl
strays_front false false after_call later = refl

walked_front :
    (calls : ℕ) (strays after_call : Bool) (field : Field) (fields : Fields)
    → walked calls strays after_call (in_front field fields)
    ≡ walked (calls + to_bit (is_call_tag field.tag)) (strays || is_answer_tag field.tag && not after_call) (is_call_tag field.tag) fields
unfolding none_strays
walked_front calls strays after_call field damaged = refl
walked_front calls strays after_call field (whole fields) =
    let made : calls + length (calls_among (field ∷ fields)) ≡ calls + to_bit (is_call_tag field.tag) + length (calls_among fields) = omega (arith, calls_counted field fields) in
    ap₂ (λ (t : Bool) (m : ℕ). cond t (Err StrayAnswer) (Ok m)) (strays_front strays (is_answer_tag field.tag) after_call (none_strays (is_call_tag field.tag) fields)) made

one_turn_on :
    (calls : ℕ) (strays after_call : Bool) (bytes : List ℕ) (tag : ℕ) (body after : List ℕ) → SplitsField bytes tag body after
    → walked calls strays after_call (fields_of bytes)
    ≡ walked (calls + to_bit (is_call_tag tag)) (strays || is_answer_tag tag && not after_call) (is_call_tag tag) (fields_of after)
one_turn_on calls strays after_call bytes tag body after s =
    ap (walked calls strays after_call) (a_field bytes s.later)
    ∙ walked_front calls strays after_call (first_field bytes) (fields_of (after_field bytes))
    ∙ sym (ap₂ (λ (tag : ℕ) (after : List ℕ). walked (calls + to_bit (is_call_tag tag)) (strays || is_answer_tag tag && not after_call) (is_call_tag tag) (fields_of after)) s.tag_same s.after_same)

-- by what the turn counts
pub walk_turn :
    (calls : ℕ) (strays after_call : Bool) (bytes : List ℕ) (tag : ℕ) (body after : List ℕ) → SplitsField bytes tag body after
    → (more : ℕ) (stray made : Bool) → more ≡ to_bit (is_call_tag tag) → stray ≡ (strays || is_answer_tag tag && not after_call) → made ≡ is_call_tag tag
    → walked (calls + more) stray made (fields_of after) ≡ walked calls strays after_call (fields_of bytes)
walk_turn calls strays after_call bytes tag body after s more stray made m t u =
    (λ i. walked (calls + m i) (t i) (u i) (fields_of after)) ∙ sym (one_turn_on calls strays after_call bytes tag body after s)

pub walk_end : (bytes : List ℕ) (calls : ℕ) (strays after_call : Bool) → length bytes ≡ 0 → walked calls strays after_call (fields_of bytes) ≡ cond strays (Err StrayAnswer) (Ok calls)
unfolding none_strays call_fields
walk_end bytes calls strays after_call none =
    let all : (strays || false) ≡ strays = go strays in
    let same : calls + 0 ≡ calls = omega arith in
    ap (walked calls strays after_call) (fields_end bytes none) ∙ ap₂ (λ (t : Bool) (m : ℕ). cond t (Err StrayAnswer) (Ok m)) all same
  where
    go : (t : Bool) → (t || false) ≡ t
    go true = refl
    go false = refl

-- ---- how many calls there can be

pub bit_small : (t : Bool) → to_bit t ≤ 1
bit_small true = omega arith
bit_small false = omega arith

pub calls_few : (fields : List Field) → length (calls_among fields) ≤ length fields
unfolding call_fields
calls_few [] = omega arith
calls_few (field ∷ fields) = omega (arith, calls_counted field fields, calls_few fields, bit_small (is_call_tag field.tag))

-- the heading has eight bytes
pub heading_long : (trace : List ℕ) → is_whole trace ≡ true → tag_of trace ≡ 0 → 8 ≤ length trace
unfolding length_of length_in
heading_long trace field tag =
    let p = whole_parts trace field in
    omega (arith, p.ends, p.stated ∙ ap length_of tag)
