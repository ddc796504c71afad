-- The bench cases hold, by computation: among them some 17,000 single ticks, about three seconds.
use Rattle.analog.specs.Answers.{first_no, asked, answered}
use Rattle.analog.specs.Code.{code_of, in_format}
use Rattle.analog.specs.Correction.{corrected_count, corrected_answer}
use Rattle.schedule.specs.Scan.{ticked}
use Rattle.schedule.specs.Scan as schedule
use Rattle.pmc330_model.specs.Map.{word_at, class_of}
use Rattle.pmc330_model.specs.Words.{joined, held_word, read_word, written_word, with_word, gains_from}
use Rattle.pmc330_model.specs.Questions.{call_questions}
use Rattle.pmc330_model.specs.Board.{stored, code_taken, advanced, stores_in, started, triggered, after_write, after_call, value_of_call, board_call, board_from, answers_from}
use Rattle.pmc330_model.specs.Bench.{BenchCases}
use native.Mathlib.Omega.{arith}

pub bench_cases : BenchCases
unfolding first_no asked answered word_at class_of joined held_word read_word written_word with_word gains_from call_questions stored code_taken ticked schedule.advanced schedule.stores_in advanced stores_in started triggered after_write after_call value_of_call board_call board_from answers_from code_of in_format corrected_count corrected_answer
bench_cases = grind arith
