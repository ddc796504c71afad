-- Fields of bytes and bytes of fields: each is the other's inverse.
use mathlib.Core.Bool.{Bool, true, false, cond, ◌&&◌}
use mathlib.Core.List.{List, [], ◌∷◌, ◌++◌}
use mathlib.Core.Logic.{⊎_elim}
use mathlib.Core.Path.{◌≡◌, refl, sym, ap, ap₂, subst, ◌∙◌}
use Prim.Native.Nat.{ℕ, zero, suc, ◌+◌, ◌*◌, ◌/◌, ◌%◌, ◌≤◌, ◌<◌}
use native.Mathlib.Omega.{arith}
use lib.Dec.{eqb}
use lib.ListN.{length, take, drop, length-append, length-drop, take-append-drop}
use lib.Seq.{drop-drop, length-take-le, take_at, drop_at}
use borrow.Author.Tests.{le-leb, eq-eqb}
use Rattle.std.proofs.lemmas.Bool.{cases_lt, and_parts}
use Rattle.trace.specs.Grammar.{length_of, is_call_tag, low_first}
use Rattle.trace.specs.Fields.{Field, Fields, field_bytes, bytes_of_fields, tag_of, size_of, body_of, first_field, after_field, is_whole, damaged, whole, in_front, is_later_tag, is_later_field, fields_in, fields_of, listed, call_fields}
use Rattle.trace.proofs.FieldLaws.{length_small, whole_parts, empty, one_turn, fields_end, fields_step}

-- ---- fields that can stand in a trace

abbrev pub is_sound : Field → Bool
is_sound field = is_later_tag field.tag && eqb (length field.body) (length_of field.tag)

unfoldable pub all_sound : List Field → Bool
all_sound [] = true
all_sound (field ∷ fields) = is_sound field && all_sound fields

-- the calls among them are such fields, and take no more bytes
pub calls_sound : (fields : List Field) → all_sound fields ≡ true → all_sound (call_fields fields) ≡ true
unfolding all_sound call_fields
calls_sound [] e = refl
calls_sound (field ∷ fields) e =
    go (is_call_tag field.tag) (and_parts _ _ e).0 (calls_sound fields (and_parts _ _ e).1)
  where
    go : (t : Bool) → is_sound field ≡ true → all_sound (call_fields fields) ≡ true → all_sound (cond t (field ∷ call_fields fields) (call_fields fields)) ≡ true
    go true here later = rw here later
    go false here later = later

pub calls_shorter : (fields : List Field) → length (bytes_of_fields (call_fields fields)) ≤ length (bytes_of_fields fields)
unfolding bytes_of_fields call_fields
calls_shorter [] = omega arith
calls_shorter (field ∷ fields) = go (is_call_tag field.tag) (calls_shorter fields)
  where
    go :
        (t : Bool) → length (bytes_of_fields (call_fields fields)) ≤ length (bytes_of_fields fields)
        → length (bytes_of_fields (cond t (field ∷ call_fields fields) (call_fields fields))) ≤ length (field_bytes field ++ bytes_of_fields fields)
    go true less =
        omega (arith, less, length-append (field_bytes field) (bytes_of_fields (call_fields fields)), length-append (field_bytes field) (bytes_of_fields fields))
    go false less = omega (arith, less, length-append (field_bytes field) (bytes_of_fields fields))

-- ---- from bytes to fields and back

-- what the fields of some bytes are
pub record Parsed (bytes : List ℕ) (fields : List Field) : Type 0 where
  pub few : 3 * length fields ≤ length bytes
  pub sound : all_sound fields ≡ true
  pub back : bytes_of_fields fields ≡ bytes

two_bytes : (low high : ℕ) → low_first (low ∷ high ∷ []) ≡ low + 256 * high
unfolding low_first
two_bytes low high = omega arith

-- the bytes of the first field and those after it
first_back : (bytes : List ℕ) → is_whole bytes ≡ true → field_bytes (first_field bytes) ++ after_field bytes ≡ bytes
first_back [] field = absurd (omega (arith, (whole_parts [] field).head))
first_back (a ∷ []) field = absurd (omega (arith, (whole_parts (a ∷ []) field).head))
first_back (a ∷ b ∷ []) field = absurd (omega (arith, (whole_parts (a ∷ b ∷ []) field).head))
first_back (a ∷ b ∷ d ∷ rest) field =
    let bytes : List ℕ = a ∷ b ∷ d ∷ rest in
    let parts = whole_parts bytes field in
    let n = size_of bytes in
    let size : length (body_of bytes) ≡ n = length-take-le n rest (omega (arith, parts.ends)) in
    let small : n < 8 = omega (arith, parts.stated, length_small a) in
    let stated : n ≡ b + 256 * d = two_bytes b d in
    let low : length (body_of bytes) % 256 ≡ b = omega (arith, size, small, stated) in
    let high : length (body_of bytes) / 256 ≡ d = omega (arith, size, small, stated) in
    ap₂ (λ (x y : ℕ). a ∷ x ∷ y ∷ (take n rest ++ after_field bytes)) low high
    ∙ ap (λ (l : List ℕ). a ∷ b ∷ d ∷ (take n rest ++ l)) (sym (drop-drop n 3 bytes))
    ∙ ap (λ (l : List ℕ). a ∷ b ∷ d ∷ l) (take-append-drop n rest)

first_sound : (bytes : List ℕ) → is_later_field bytes ≡ true → is_sound (first_field bytes) ≡ true
first_sound bytes later =
    let parts = whole_parts bytes (and_parts _ _ later).0 in
    let body : length (body_of bytes) ≡ size_of bytes = length-take-le (size_of bytes) (drop 3 bytes) (omega (arith, parts.ends, length-drop 3 bytes)) in
    ap₂ ◌&&◌ (and_parts _ _ later).1 (eq-eqb (length (body_of bytes)) (length_of (tag_of bytes)) (body ∙ parts.stated))

-- a field in front of others
parsed_front : (bytes : List ℕ) (later : List Field) → is_later_field bytes ≡ true → Parsed (after_field bytes) later → Parsed bytes (first_field bytes ∷ later)
unfolding bytes_of_fields all_sound
parsed_front bytes later e rest =
    let field = (and_parts _ _ e).0 in
    record {
      few = omega (arith, rest.few, (whole_parts bytes field).ends, length-drop (3 + size_of bytes) bytes);
      sound = ap₂ ◌&&◌ (first_sound bytes e) rest.sound;
      back = ap (λ (l : List ℕ). field_bytes (first_field bytes) ++ l) rest.back ∙ first_back bytes field;
    }

parsed_none : (bytes : List ℕ) (fields : List Field) → length bytes ≡ 0 → fields ≡ [] → Parsed bytes fields
unfolding bytes_of_fields all_sound
parsed_none [] fields none e = subst (Parsed []) (sym e) (record { few = omega arith; sound = refl; back = refl })
parsed_none (byte ∷ bytes) fields none e = absurd (omega arith)

parsed_in : (n : ℕ) (bytes : List ℕ) (fields : List Field) → fields_in n bytes ≡ whole fields → Parsed bytes fields
unfolding fields_in
parsed_in zero bytes fields e = cc
parsed_in (suc n) bytes fields e = ⊎_elim (some (parsed_in n (after_field bytes))) none (cases_lt 0 (length bytes))
  where
    Rest : Type 0
    Rest = (later : List Field) → fields_in n (after_field bytes) ≡ whole later → Parsed (after_field bytes) later

    turn : Rest → (t : Bool) → is_later_field bytes ≡ t → (later : Fields) → fields_in n (after_field bytes) ≡ later → cond t (in_front (first_field bytes) later) damaged ≡ whole fields → Parsed bytes fields
    turn rest true field (whole later) met q = subst (Parsed bytes) (ap listed q) (parsed_front bytes later field (rest later met))
    turn rest true field damaged met q = cc
    turn rest false none later met q = cc

    some : Rest → 0 < length bytes → Parsed bytes fields
    some rest h = turn rest (is_later_field bytes) refl (fields_in n (after_field bytes)) refl (sym (one_turn bytes h n) ∙ e)

    none : length bytes ≤ 0 → Parsed bytes fields
    none h = parsed_none bytes fields (omega arith) (sym (ap listed (sym (empty bytes (omega arith) n) ∙ e)))

pub parsed : (bytes : List ℕ) (fields : List Field) → fields_of bytes ≡ whole fields → Parsed bytes fields
unfolding fields_of
parsed bytes fields e = parsed_in (suc (length bytes)) bytes fields e

-- ---- from fields to bytes and back

module _ (field : Field) (rest : List ℕ) (sound : is_sound field ≡ true) where
  abbrev n : ℕ
  n = length field.body

  abbrev bytes : List ℕ
  bytes = field_bytes field ++ rest

  size_back : size_of bytes ≡ n
  size_back = two_bytes (n % 256) (n / 256) ∙ omega arith

  length_is : length bytes ≡ 3 + n + length rest
  length_is = omega (arith, length-append field.body rest)

  is_later : is_later_field bytes ≡ true
  unfolding is_whole
  is_later =
      rw (
        size_back,
        le-leb 3 (length bytes) (omega (arith, length_is)),
        (and_parts _ (eqb n (length_of field.tag)) sound).1,
        le-leb (3 + n) (length bytes) (omega (arith, length_is)),
      )
      (and_parts _ _ sound).0

  field_back : first_field bytes ≡ field
  field_back =
      ap (λ (body : List ℕ). record { tag = field.tag; body = body })
      (ap (λ (k : ℕ). take k (field.body ++ rest)) size_back ∙ take_at field.body rest n refl)

  after_back : after_field bytes ≡ rest
  after_back = sym (drop-drop (size_of bytes) 3 bytes) ∙ ap (λ (k : ℕ). drop k (field.body ++ rest)) size_back ∙ drop_at field.body rest n refl

pub fields_back : (fields : List Field) → all_sound fields ≡ true → fields_of (bytes_of_fields fields) ≡ whole fields
unfolding bytes_of_fields all_sound
fields_back [] sound = fields_end [] refl
fields_back (field ∷ fields) sound =
    let here = (and_parts _ _ sound).0 in
    let rest = bytes_of_fields fields in
    fields_step (bytes field rest here) (omega (arith, length_is field rest here))
    ∙ rw (is_later field rest here) (ap₂ (λ (f : Field) (l : List ℕ). in_front f (fields_of l)) (field_back field rest here) (after_back field rest here))
    ∙ ap (in_front field) (fields_back fields (and_parts _ _ sound).1)
