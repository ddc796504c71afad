-- The bench cases of the analog arithmetic hold, by computation.
use Rattle.analog.specs.Answers.{asked, answered}
use Rattle.analog.specs.Code.{code_of, in_format}
use Rattle.analog.specs.Correction.{corrected_count, corrected_answer}
use Rattle.analog.specs.Bench.{AnalogCases}
use native.Mathlib.Omega.{arith}

pub analog_cases : AnalogCases
unfolding asked answered code_of in_format corrected_count corrected_answer
analog_cases = grind arith
