-- What the program prints.
use Rattle.std.specs.Prelude.{ℕ, List, Result, Ok, Err}
use Rattle.analog.specs.Answers.{number_of_refusal}
use Rattle.analog.specs.declared.Refusal.{Refusal}
use Rattle.lines.specs.Text.{refused_of, agree_of, differs_of}
use Rattle.trace.specs.declared.Replayed.{Replayed}
use Rattle.trace.specs.declared.Replayed.TheVariants.{Agree, Differs}

-- of a replay: one line
abbrev pub printed_of : Result Replayed Refusal → List ℕ
printed_of (Ok (Agree count)) = agree_of count
printed_of (Ok (Differs index count)) = differs_of index count
printed_of (Err refusal) = refused_of (number_of_refusal refusal)
