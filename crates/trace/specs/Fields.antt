-- The fields of a trace (data sheet, "Traces").
use Rattle.std.specs.Prelude.{ℕ, zero, suc, ◌+◌, ◌/◌, ◌%◌, Bool, true, false, if◌then◌else◌, ◌&&◌, ◌||◌, List, [], ◌∷◌, ◌++◌, map, ◌==◌, nat_le, length, get_or, take, drop}
use Rattle.pmc330_model.specs.Calls.{Call}
use Rattle.trace.specs.Grammar.{length_of, is_call_tag, is_answer_tag, number_at, call_of}

-- a field
pub record Field : Type 0 where
  pub tag : ℕ
  pub body : List ℕ

-- its bytes: the tag, the length of the body in two bytes, low byte first, and the body
abbrev pub field_bytes : Field → List ℕ
field_bytes field = field.tag ∷ length field.body % 256 ∷ length field.body / 256 ∷ field.body

unfoldable pub bytes_of_fields : List Field → List ℕ
bytes_of_fields [] = []
bytes_of_fields (field ∷ fields) = field_bytes field ++ bytes_of_fields fields

-- the first field of some bytes, and the bytes after it
abbrev pub tag_of : List ℕ → ℕ
tag_of bytes = get_or bytes 0 0

abbrev pub size_of : List ℕ → ℕ
size_of bytes = number_at 1 2 bytes

abbrev pub body_of : List ℕ → List ℕ
body_of bytes = take (size_of bytes) (drop 3 bytes)

abbrev pub first_field : List ℕ → Field
first_field bytes = record { tag = tag_of bytes; body = body_of bytes }

abbrev pub after_field : List ℕ → List ℕ
after_field bytes = drop (3 + size_of bytes) bytes

-- it is whole, with its tag's length
unfoldable pub is_whole : List ℕ → Bool
is_whole bytes =
    nat_le 3 (length bytes) && size_of bytes == length_of (tag_of bytes) && nat_le (3 + size_of bytes) (length bytes)

-- The heading is the first eight bytes of a trace: tag 00H, length 5, the fixed bytes A330, the range.
abbrev pub fixed_bytes : List ℕ
fixed_bytes = 0x41 ∷ 0x33 ∷ 0x33 ∷ 0x30 ∷ []

unfoldable pub same_bytes : List ℕ → List ℕ → Bool
same_bytes [] [] = true
same_bytes [] (y ∷ ys) = false
same_bytes (x ∷ xs) [] = false
same_bytes (x ∷ xs) (y ∷ ys) = x == y && same_bytes xs ys

abbrev pub range_of : (trace : List ℕ) → ℕ
range_of trace = get_or trace 7 0

unfoldable pub is_heading : (trace : List ℕ) → Bool
is_heading trace =
    is_whole trace && tag_of trace == 0x00 && same_bytes (take 4 (drop 3 trace)) fixed_bytes && nat_le (range_of trace) 3

-- what the later fields are: a list of fields, or damaged
pub data Fields : Type 0 where
  damaged : Fields
  whole : (fields : List Field) → Fields

abbrev pub in_front : Field → Fields → Fields
in_front field damaged = damaged
in_front field (whole fields) = whole (field ∷ fields)

-- a field after the heading is whole, with the tag of a call or of a recorded answer
abbrev pub is_later_tag : (tag : ℕ) → Bool
is_later_tag tag = is_call_tag tag || is_answer_tag tag

abbrev pub is_later_field : List ℕ → Bool
is_later_field bytes = is_whole bytes && is_later_tag (tag_of bytes)

-- the fields of some bytes, in at most so many turns
unfoldable pub fields_in : (turns : ℕ) → List ℕ → Fields
fields_in zero bytes = damaged
fields_in (suc turns) bytes =
    if length bytes == 0 then whole []
    else (if is_later_field bytes then in_front (first_field bytes) (fields_in turns (after_field bytes)) else damaged)

-- these turns are enough, by `WalkEnough` in Sentences
unfoldable pub fields_of : List ℕ → Fields
fields_of bytes = fields_in (suc (length bytes)) bytes

-- the fields after the heading
abbrev pub later_fields : (trace : List ℕ) → Fields
later_fields trace = fields_of (drop 8 trace)

abbrev pub is_undamaged : Fields → Bool
is_undamaged damaged = false
is_undamaged (whole fields) = true

-- as a list; none where damaged
abbrev pub listed : Fields → List Field
listed damaged = []
listed (whole fields) = fields

abbrev pub fields_after : (trace : List ℕ) → List Field
fields_after trace = listed (later_fields trace)

-- among fields, those that are calls, and those that are recorded answers, in order
unfoldable pub call_fields : List Field → List Field
call_fields [] = []
call_fields (field ∷ fields) = if is_call_tag field.tag then field ∷ call_fields fields else call_fields fields

unfoldable pub answer_fields : List Field → List Field
answer_fields [] = []
answer_fields (field ∷ fields) = if is_answer_tag field.tag then field ∷ answer_fields fields else answer_fields fields

-- the calls of some fields, in order
abbrev pub call_in : Field → Call
call_in field = call_of field.tag field.body

abbrev pub calls_among : List Field → List Call
calls_among fields = map call_in (call_fields fields)

-- the calls of a trace
abbrev pub calls_of : (trace : List ℕ) → List Call
calls_of trace = calls_among (fields_after trace)

-- a trace without its recorded answers: the heading, and the calls
abbrev pub without_answers : (trace : List ℕ) → List ℕ
without_answers trace = take 8 trace ++ bytes_of_fields (call_fields (fields_after trace))
