-- What the program prints.
use Rattle.std.specs.Prelude.{ℕ, List, replicate, Ok, Err}
use Rattle.analog.specs.Answers.{Answer, number_of_refusal}
use Rattle.lines.specs.Text.{refused_of, taken_lines}
use Rattle.trace.specs.Play.{played, played_buffer}

-- a line for each call, or one line for a refused trace
abbrev pub outcome_text : (played : Answer) (answers : List ℕ) → List ℕ
outcome_text (Ok calls) answers = taken_lines answers calls
outcome_text (Err refusal) answers = refused_of (number_of_refusal refusal)

-- of a trace, played with an answer buffer of 54,600 zeros
abbrev pub printed_of : (trace : List ℕ) → List ℕ
printed_of trace = outcome_text (played trace 54600) (played_buffer trace (replicate 54600 0))
