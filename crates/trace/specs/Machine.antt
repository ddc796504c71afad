-- How the code computes: what its private functions promise. Nothing that a caller may cite stands here.
use Rattle.std.specs.Prelude.{ℕ, ◌+◌, ◌≤◌, Bool, true, if◌then◌else◌, not, ◌&&◌, ◌||◌, List, [], ◌∷◌, ◌≡◌, length, Ok, Err}
use Rattle.analog.specs.Answers.{Answer, answered}
use Rattle.analog.specs.declared.Refusal.TheVariants.{BadField, StrayAnswer}
use Rattle.trace.specs.Grammar.{is_call_tag, is_answer_tag, call_of}
use Rattle.trace.specs.Fields.{Field, Fields, damaged, whole, tag_of, body_of, after_field, is_heading, is_later_field, later_fields, fields_after, calls_among, calls_of}
use Rattle.trace.specs.Play.{field_questions}
use Rattle.trace.specs.Stated.{call_stated}
use Rattle.trace.specs.declared.calls.Call.{Call}

-- a later field stands first in some bytes: its tag and its body, and the bytes after it
pub record SplitsField (bytes : List ℕ) (tag : ℕ) (body after : List ℕ) : Type 0 where
  pub later : is_later_field bytes ≡ true
  pub tag_same : tag ≡ tag_of bytes
  pub body_same : body ≡ body_of bytes
  pub after_same : after ≡ after_field bytes

-- a field of this tag and body states a call
pub record StatesCall (tag : ℕ) (body : List ℕ) (call : Call) : Type 0 where
  pub made : is_call_tag tag ≡ true
  pub same : call_stated call ≡ call_of tag body

-- no recorded answer among fields strays from a call; whether a call stands before them is given
unfoldable pub none_strays : (after_call : Bool) → List Field → Bool
none_strays after_call [] = true
none_strays after_call (field ∷ fields) =
    (if is_answer_tag field.tag then after_call else true) && none_strays (is_call_tag field.tag) fields

-- the walk over the later fields, with so many calls before them, and whether an answer before them strayed
abbrev pub walked : (calls : ℕ) (strays after_call : Bool) → Fields → Answer
walked calls strays after_call damaged = Err BadField
walked calls strays after_call (whole fields) =
    if strays || not (none_strays after_call fields) then Err StrayAnswer else Ok (calls + length (calls_among fields))

-- the check of a trace: the first question that is answered with no, or how many calls it has
unfoldable pub check_of : (trace : List ℕ) → Answer
check_of trace = answered (field_questions trace) (length (calls_of trace))

-- what a checked trace has
pub record Walkable (trace : List ℕ) : Type 0 where
  pub heading : is_heading trace ≡ true
  pub long : 8 ≤ length trace
  pub short : length trace ≤ 16_777_216
  pub undamaged : later_fields trace ≡ whole (fields_after trace)
