-- A call's field is the only one of bytes from which the player reads that call.
use mathlib.Core.Bool.{Bool, true, false, cond}
use mathlib.Core.List.{List, [], ◌∷◌, ◌++◌, map}
use mathlib.Core.Path.{◌≡◌, refl, sym, ap, ap₂, ◌∙◌}
use Prim.Native.Nat.{ℕ, ◌+◌, ◌^◌, ◌≤◌, ◌<◌}
use native.Mathlib.Nat.{pow-suc}
use native.Mathlib.Omega.{arith}
use lib.ListN.{length, take, drop, length-append, length-drop, take-append-drop}
use lib.Seq.{drop-drop, length-take-le, take-length}
use Rattle.std.specs.List.{list_all}
use Rattle.std.proofs.lemmas.Bool.{and_parts, eqb-true}
use Rattle.std.proofs.lemmas.List.Folds.{list_all-append}
use Rattle.trace.specs.Grammar.{length_of, length_in, is_call_tag, is_kind_in, low_first, signed_of, call_of}
use Rattle.trace.specs.Fields.{Field, field_bytes, bytes_of_fields, is_later_tag, call_fields, call_in}
use Rattle.trace.proofs.FieldBytes.{is_sound, all_sound, calls_shorter}
use Rattle.load.specs.Load.{low_bytes, is_byte, unsigned_of, field, field_for}

abbrev pub Bytes : List ℕ → Type 0
Bytes l = list_all is_byte l ≡ true

-- ---- bytes in a list

bytes_parts : (xs ys : List ℕ) → Bytes (xs ++ ys) → Bytes xs × Bytes ys
bytes_parts xs ys e = and_parts _ _ (sym (list_all-append is_byte xs ys) ∙ e)

module _ (n : ℕ) (l : List ℕ) (bytes : Bytes l) where
  cut_parts : Bytes (take n l) × Bytes (drop n l)
  cut_parts = bytes_parts (take n l) (drop n l) (ap (list_all is_byte) (take-append-drop n l) ∙ bytes)

  pub taken_bytes : Bytes (take n l)
  taken_bytes = cut_parts.0

  pub dropped_bytes : Bytes (drop n l)
  dropped_bytes = cut_parts.1

-- ---- bytes of the number that they are

again : (l : List ℕ) → Bytes l → low_bytes (length l) (low_first l) ≡ l
unfolding low_first low_bytes
again [] bytes = refl
again (byte ∷ l) bytes =
    let rest = again l (and_parts (is_byte byte) (list_all is_byte l) bytes).1 in
    grind arith

number_fits : (l : List ℕ) → Bytes l → low_first l < 256 ^ length l
unfolding low_first
number_fits [] bytes = omega arith
number_fits (byte ∷ l) bytes =
    let rest = number_fits l (and_parts (is_byte byte) (list_all is_byte l) bytes).1 in
    grind (arith, pow-suc 256 (length l))

-- the last number of a body, and one with others after it
last : (n : ℕ) (l : List ℕ) → length l ≡ n → Bytes l → low_bytes n (low_first (take n l)) ≡ l
last n l e bytes =
    ap (λ (k : ℕ). low_bytes k (low_first (take k l))) (sym e)
    ∙ ap (λ (part : List ℕ). low_bytes (length l) (low_first part)) (take-length l)
    ∙ again l bytes

next : (n : ℕ) (l after : List ℕ) → n ≤ length l → Bytes l → after ≡ drop n l → low_bytes n (low_first (take n l)) ++ after ≡ l
next n l after within bytes e =
    ap₂ ◌++◌
    (ap (λ (k : ℕ). low_bytes k (low_first (take n l))) (sym (length-take-le n l within)) ∙ again (take n l) (taken_bytes n l bytes))
    e
    ∙ take-append-drop n l

-- two's complement, and back
unsigned_back : (n : ℕ) → n < 256 ^ 4 → unsigned_of (signed_of n) ≡ n
unfolding signed_of
unsigned_back n fits = grind arith

-- ---- a field of the call that is read from it

abbrev IsFieldOf : (tag : ℕ) → Type 0
IsFieldOf tag = (body : List ℕ) → length body ≡ length_of tag → Bytes body → field_for (call_of tag body) ≡ field tag body

module _ (body : List ℕ) (bytes : Bytes body) where
  -- the body from a place on
  after_bytes : (n : ℕ) → Bytes (drop n body)
  after_bytes n = dropped_bytes n body bytes

  last_from : (from n : ℕ) → length body ≡ from + n → low_bytes n (low_first (take n (drop from body))) ≡ drop from body
  last_from from n e = last n (drop from body) (omega (arith, length-drop from body, e)) (after_bytes from)

  next_from :
      (from n : ℕ) (after : List ℕ) → from + n ≤ length body → after ≡ drop (from + n) body
      → low_bytes n (low_first (take n (drop from body))) ++ after ≡ drop from body
  next_from from n after within e =
      next n (drop from body) after (omega (arith, length-drop from body, within)) (after_bytes from) (e ∙ sym (drop-drop n from body))

read_is : IsFieldOf 0x01
unfolding length_of length_in call_of
read_is body e bytes = ap (field 0x01) (next_from body bytes 0 1 _ (omega (arith, e)) (last_from body bytes 1 2 e))

write_is : IsFieldOf 0x02
unfolding length_of length_in call_of low_bytes
write_is body e bytes =
    ap (field 0x02)
    (next_from body bytes 0 1 _ (omega (arith, e)) (next_from body bytes 1 2 _ (omega (arith, e)) (last_from body bytes 3 4 e)))

input_is : IsFieldOf 0x03
unfolding length_of length_in call_of
input_is body e bytes =
    let voltage = take 4 (drop 1 body) in
    let size : length voltage ≡ 4 = length-take-le 4 (drop 1 body) (omega (arith, e, length-drop 1 body)) in
    let fits = number_fits voltage (taken_bytes 4 (drop 1 body) (dropped_bytes 1 body bytes)) in
    let short : low_first voltage < 256 ^ 4 = omega (arith, fits, ap (λ (k : ℕ). 256 ^ k) size) in
    ap (field 0x03)
    (ap (λ (m : ℕ). low_bytes 1 (low_first (take 1 body)) ++ low_bytes 4 m) (unsigned_back (low_first voltage) short)
    ∙ next_from body bytes 0 1 _ (omega (arith, e)) (last_from body bytes 1 4 e))

advance_is : IsFieldOf 0x04
unfolding length_of length_in call_of
advance_is body e bytes = ap (field 0x04) (last_from body bytes 0 4 e)

trigger_is : IsFieldOf 0x05
unfolding length_of length_in call_of
trigger_is [] e bytes = refl
trigger_is (byte ∷ body) e bytes = absurd (omega (arith, e))

reset_is : IsFieldOf 0x06
unfolding length_of length_in call_of
reset_is [] e bytes = refl
reset_is (byte ∷ body) e bytes = absurd (omega (arith, e))

look_is : IsFieldOf 0x07
unfolding length_of length_in call_of
look_is body e bytes = ap (field 0x07) (last_from body bytes 0 1 e)

clear_is : IsFieldOf 0x08
unfolding length_of length_in call_of
clear_is body e bytes = ap (field 0x08) (last_from body bytes 0 1 e)

-- what holds of each call's tag
each_tag :
    (P : ℕ → Type 0) → P 0x01 → P 0x02 → P 0x03 → P 0x04 → P 0x05 → P 0x06 → P 0x07 → P 0x08 → (tag : ℕ) → is_call_tag tag ≡ true → P tag
unfolding is_call_tag is_kind_in
each_tag P a b d e f g h i tag is = grind arith

pub field_is : (f : Field) → is_sound f ≡ true → is_call_tag f.tag ≡ true → Bytes f.body → field_for (call_in f) ≡ f
field_is f sound call bytes =
    let size = eqb-true (length f.body) (length_of f.tag) (and_parts (is_later_tag f.tag) _ sound).1 in
    each_tag IsFieldOf read_is write_is input_is advance_is trigger_is reset_is look_is clear_is f.tag call f.body size bytes

-- where all fields are calls, the first one is, and so are the others
calls_parts : (f : Field) (fields : List Field) → call_fields (f ∷ fields) ≡ f ∷ fields → (is_call_tag f.tag ≡ true) × (call_fields fields ≡ fields)
unfolding call_fields bytes_of_fields
calls_parts f fields all = go (is_call_tag f.tag) refl all
  where
    go :
        (t : Bool) → is_call_tag f.tag ≡ t → cond t (f ∷ call_fields fields) (call_fields fields) ≡ f ∷ fields
        → (is_call_tag f.tag ≡ true) × (call_fields fields ≡ fields)
    go true e p = (e, ap (drop 1) p)
    go false e p =
        absurd (omega (
          arith,
          calls_shorter fields,
          ap (λ (l : List Field). length (bytes_of_fields l)) p,
          length-append (field_bytes f) (bytes_of_fields fields),
        ))

pub fields_are :
    (fields : List Field) → all_sound fields ≡ true → call_fields fields ≡ fields → Bytes (bytes_of_fields fields)
    → map field_for (map call_in fields) ≡ fields
unfolding all_sound bytes_of_fields
fields_are [] sound all bytes = refl
fields_are (f ∷ fields) sound all bytes =
    let calls = calls_parts f fields all in
    let sounds = and_parts _ _ sound in
    let parts = bytes_parts (field_bytes f) (bytes_of_fields fields) bytes in
    ap₂ ◌∷◌ (field_is f sounds.0 calls.0 (dropped_bytes 3 (field_bytes f) parts.0)) (fields_are fields sounds.1 calls.1 parts.1)
