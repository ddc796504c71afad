-- The grammar of a trace: it is a string of fields, each a tag, a length and a body (data sheet, "Traces").
use Rattle.std.specs.Prelude.{ℕ, ◌+◌, ◌*◌, Bool, true, false, if◌then◌else◌, List, [], ◌∷◌, ◌==◌, nat_lt, ℤ, pos, ◌-ℤ◌, take, drop}
use Rattle.pmc330_model.specs.Calls.{Call, read, write, input, advance, trigger, reset, look, clear}

-- what a field is: the heading of a trace, a call, or a recorded answer to the call before it
pub data Kind : Type 0 where
  a_heading : Kind
  a_call : Kind
  an_answer : Kind

abbrev pub is_call : Kind → Bool
is_call a_heading = false
is_call a_call = true
is_call an_answer = false

abbrev pub is_answer : Kind → Bool
is_answer a_heading = false
is_answer a_call = false
is_answer an_answer = true

-- a row of the grammar: a tag, the length of its body, and what it is
pub record Row : Type 0 where
  pub tag : ℕ
  pub size : ℕ
  pub kind : Kind

abbrev pub row : ℕ → ℕ → Kind → Row
row tag size kind = record { tag = tag; size = size; kind = kind }

-- the heading; read, write, input, advance, trigger, reset, look and clear; a recorded answer
abbrev pub grammar : List Row
grammar =
    row 0x00 5 a_heading
    ∷ row 0x01 3 a_call
    ∷ row 0x02 7 a_call
    ∷ row 0x03 5 a_call
    ∷ row 0x04 4 a_call
    ∷ row 0x05 0 a_call
    ∷ row 0x06 0 a_call
    ∷ row 0x07 1 a_call
    ∷ row 0x08 1 a_call
    ∷ row 0x09 5 an_answer
    ∷ []

-- looking a tag up; one that is not there is of no kind
unfoldable pub length_in : List Row → ℕ → ℕ
length_in [] tag = 0
length_in (r ∷ rows) tag = if tag == r.tag then r.size else length_in rows tag

unfoldable pub is_kind_in : (is_kind : Kind → Bool) → List Row → ℕ → Bool
is_kind_in is_kind [] tag = false
is_kind_in is_kind (r ∷ rows) tag = if tag == r.tag then is_kind r.kind else is_kind_in is_kind rows tag

unfoldable pub length_of : (tag : ℕ) → ℕ
length_of tag = length_in grammar tag

unfoldable pub is_call_tag : (tag : ℕ) → Bool
is_call_tag tag = is_kind_in is_call grammar tag

unfoldable pub is_answer_tag : (tag : ℕ) → Bool
is_answer_tag tag = is_kind_in is_answer grammar tag

-- the number of some bytes, low byte first
unfoldable pub low_first : List ℕ → ℕ
low_first [] = 0
low_first (byte ∷ bytes) = byte + 256 * low_first bytes

-- the number in `size` bytes from byte `from` on
abbrev pub number_at : (from size : ℕ) → List ℕ → ℕ
number_at from size bytes = low_first (take size (drop from bytes))

-- two's complement in 32 bits, as a voltage has it
unfoldable pub signed_of : ℕ → ℤ
signed_of n = if nat_lt n 0x8000_0000 then pos n else pos n -ℤ pos 0x1_0000_0000

-- the call of a field, with its numbers from the places of the body (data sheet, "Traces").
-- 06H is read as reset, and so is what is no call's tag; it is asked of calls alone, see `calls_among`
unfoldable pub call_of : (tag : ℕ) (body : List ℕ) → Call
call_of tag body =
    if tag == 0x01 then read (number_at 0 1 body) (number_at 1 2 body)
    else (if tag == 0x02 then write (number_at 0 1 body) (number_at 1 2 body) (number_at 3 4 body)
    else (if tag == 0x03 then input (number_at 0 1 body) (signed_of (number_at 1 4 body))
    else (if tag == 0x04 then advance (number_at 0 4 body)
    else (if tag == 0x05 then trigger
    else (if tag == 0x07 then look (number_at 0 1 body)
    else (if tag == 0x08 then clear (number_at 0 1 body) else reset))))))
