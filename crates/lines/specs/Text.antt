-- The lines that the programs print, as bytes (data sheet, "Traces" and "Recordings and replays").
use Rattle.std.specs.Prelude.{ℕ, zero, suc, ◌+◌, ◌*◌, ◌/◌, ◌%◌, ◌≤◌, ◌<◌, if◌then◌else◌, ◌&&◌, List, [], ◌∷◌, ◌++◌, ◌≡◌, nat_lt, nat_le, length, take, drop, get_or}
use Rattle.lines.specs.declared.Line.{Line}
use Rattle.lines.specs.declared.Line.TheVariants.{Call, Refused, Agree, Differs}

-- the byte of a digit: '0' to '9', then 'A' to 'F'
abbrev pub digit_of : ℕ → ℕ
digit_of digit = if nat_lt digit 10 then 48 + digit else 55 + digit

-- the last digits of a number to a base, so many of them, highest first
unfoldable pub digits_of : (base count number : ℕ) → List ℕ
digits_of base zero number = []
digits_of base (suc n) number = digits_of base n (number / base) ++ (digit_of (number % base) ∷ [])

-- a number's decimal digits, highest first: the number itself below 10, else the digits of its tenth and then its last one.
-- There are at most so many places
unfoldable pub decimal_in : (places number : ℕ) → List ℕ
decimal_in zero number = []
decimal_in (suc n) number =
    if nat_lt number 10 then digit_of number ∷ [] else decimal_in n (number / 10) ++ (digit_of (number % 10) ∷ [])

-- no leading zero, and '0' for 0. A number has at most one place more than it counts
abbrev pub decimal_of : (number : ℕ) → List ℕ
decimal_of number = decimal_in (suc number) number

-- a value as eight hexadecimal digits
abbrev pub hex_of : (value : ℕ) → List ℕ
hex_of value = digits_of 16 8 value

abbrev pub blank : List ℕ
blank = 32 ∷ []

abbrev pub newline : List ℕ
newline = 10 ∷ []

-- the line of a call: its index from 1, the number and the value of its answer, one blank between
abbrev pub line_of : (index number value : ℕ) → List ℕ
line_of index number value = decimal_of index ++ blank ++ decimal_of number ++ blank ++ hex_of value ++ newline

-- the word `refused` and a blank
abbrev pub refused_word : List ℕ
refused_word = 114 ∷ 101 ∷ 102 ∷ 117 ∷ 115 ∷ 101 ∷ 100 ∷ 32 ∷ []

-- the line of a refused trace: `refused` and its number
unfoldable pub refused_of : (number : ℕ) → List ℕ
refused_of number = refused_word ++ decimal_of number ++ newline

-- the line of a replay: `agree` and how many answers were compared; or `differs`, the index of the call and that count
abbrev pub agree_word : List ℕ
agree_word = 97 ∷ 103 ∷ 114 ∷ 101 ∷ 101 ∷ 32 ∷ []

unfoldable pub agree_of : (count : ℕ) → List ℕ
agree_of count = agree_word ++ decimal_of count ++ newline

abbrev pub differs_word : List ℕ
differs_word = 100 ∷ 105 ∷ 102 ∷ 102 ∷ 101 ∷ 114 ∷ 115 ∷ 32 ∷ []

unfoldable pub differs_of : (index count : ℕ) → List ℕ
differs_of index count = differs_word ++ decimal_of index ++ blank ++ decimal_of count ++ newline

-- an answer has five bytes: its number in one, its value in four, low byte first
abbrev pub number_in : (answers : List ℕ) (at : ℕ) → ℕ
number_in answers at = get_or answers at 0

abbrev pub word_in : (answers : List ℕ) (at : ℕ) → ℕ
word_in answers at =
    get_or answers at 0 + get_or answers (at + 1) 0 * 0x100 + get_or answers (at + 2) 0 * 0x10000 + get_or answers (at + 3) 0 * 0x1000000

-- the line of a call, by how many calls are before it
abbrev pub call_line : (answers : List ℕ) (call : ℕ) → List ℕ
call_line answers call = line_of (call + 1) (number_in answers (5 * call)) (word_in answers (5 * call + 1))

-- a line for each call
unfoldable pub lines_of : (answers : List ℕ) (calls : ℕ) → List ℕ
lines_of answers zero = []
lines_of answers (suc n) = lines_of answers n ++ call_line answers n

-- what is printed of the answers of so many calls: all lines where each call has an answer, else nothing
abbrev pub taken_lines : (answers : List ℕ) (calls : ℕ) → List ℕ
taken_lines answers calls = if nat_le (5 * calls) (length answers) then lines_of answers calls else []

-- 32 bytes have room for a call's line, where the answers are bytes and the calls are counted in 32 bits
abbrev pub EveryTextFits : Type 0
EveryTextFits =
    (answers : List ℕ) (calls : ℕ) → ((place : ℕ) → get_or answers place 0 < 256) → calls < 0x100000000
    → length (lines_of answers calls) ≤ 32 * calls

-- the text of a line
abbrev pub text_of : Line → List ℕ
text_of (Call index number value) = line_of index number value
text_of (Refused number) = refused_of number
text_of (Agree count) = agree_of count
text_of (Differs index count) = differs_of index count

-- what a buffer takes of a line: all of it where it has at least 32 bytes, else nothing
abbrev pub taken : (line buffer : List ℕ) → List ℕ
taken line buffer = if nat_le 32 (length buffer) then line else []

-- what a buffer takes of the lines of so many calls: all of them where each call has an answer and there are 32 bytes for each, else nothing
abbrev pub put_lines : (answers : List ℕ) (calls : ℕ) (buffer : List ℕ) → List ℕ
put_lines answers calls buffer =
    if nat_le (5 * calls) (length answers) && nat_le (32 * calls) (length buffer) then lines_of answers calls else []

-- a buffer that begins with a text, of so many bytes, and is as before from there on; the last two facts follow, and let a caller take those bytes
pub record Begins (text before after : List ℕ) (count : ℕ) : Type 0 where
  pub counted : count ≡ length text
  pub holds : after ≡ text ++ drop count before
  pub within : count ≤ length after
  pub front : count ≡ length (take count after)

-- ---- examples

-- lines that the data sheet and README print, and some at the ends of the ranges
pub record LineExamples : Type 0 where
  -- "1 0 00000000"
  pub first : line_of 1 0 0 ≡ (49 ∷ 32 ∷ 48 ∷ 32 ∷ 48 ∷ 48 ∷ 48 ∷ 48 ∷ 48 ∷ 48 ∷ 48 ∷ 48 ∷ 10 ∷ [])
  -- "6 0 00008000"
  pub sixth : line_of 6 0 0x8000 ≡ (54 ∷ 32 ∷ 48 ∷ 32 ∷ 48 ∷ 48 ∷ 48 ∷ 48 ∷ 56 ∷ 48 ∷ 48 ∷ 48 ∷ 10 ∷ [])
  -- "10920 255 FEDCBA98"
  pub last : line_of 10920 255 0xFEDCBA98 ≡ (49 ∷ 48 ∷ 57 ∷ 50 ∷ 48 ∷ 32 ∷ 50 ∷ 53 ∷ 53 ∷ 32 ∷ 70 ∷ 69 ∷ 68 ∷ 67 ∷ 66 ∷ 65 ∷ 57 ∷ 56 ∷ 10 ∷ [])
  -- "refused 18"
  pub refused : refused_of 18 ≡ (114 ∷ 101 ∷ 102 ∷ 117 ∷ 115 ∷ 101 ∷ 100 ∷ 32 ∷ 49 ∷ 56 ∷ 10 ∷ [])
  -- "agree 0"
  pub agree : agree_of 0 ≡ (97 ∷ 103 ∷ 114 ∷ 101 ∷ 101 ∷ 32 ∷ 48 ∷ 10 ∷ [])
  -- "differs 12 7"
  pub differs : differs_of 12 7 ≡ (100 ∷ 105 ∷ 102 ∷ 102 ∷ 101 ∷ 114 ∷ 115 ∷ 32 ∷ 49 ∷ 50 ∷ 32 ∷ 55 ∷ 10 ∷ [])
