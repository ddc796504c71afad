-- The bench cases of traces hold, by computation.
use Rattle.analog.specs.Answers.{first_no, asked, answered}
use Rattle.analog.specs.Code.{code_of, in_format}
use Rattle.schedule.specs.Scan.{ticked}
use Rattle.schedule.specs.Scan as schedule
use Rattle.pmc330_model.specs.Map.{word_at, class_of}
use Rattle.pmc330_model.specs.Words.{joined, held_word, read_word, written_word, with_word}
use Rattle.pmc330_model.specs.Questions.{call_questions}
use Rattle.pmc330_model.specs.Board.{stored, code_taken, advanced, stores_in, started, after_write, after_call, value_of_call, board_call, answers_from}
use Rattle.trace.specs.Grammar.{length_in, is_kind_in, length_of, is_call_tag, is_answer_tag, low_first, signed_of, call_of}
use Rattle.trace.specs.Fields.{is_whole, same_bytes, is_heading, fields_in, fields_of, call_fields}
use Rattle.trace.specs.Play.{answers_follow, trace_number, bytes_of, in_buffer, calls_answered, played_buffer}
use Rattle.trace.specs.Replay.{comparisons_from, first_difference, replayed}
use Rattle.trace.specs.Bench.{TraceCases}
use native.Mathlib.Omega.{arith}

pub trace_cases : TraceCases
unfolding first_no asked answered code_of in_format word_at class_of joined held_word read_word written_word with_word call_questions stored code_taken ticked schedule.advanced schedule.stores_in advanced stores_in started after_write after_call value_of_call board_call answers_from length_in is_kind_in length_of is_call_tag is_answer_tag low_first signed_of call_of is_whole same_bytes is_heading fields_in fields_of call_fields answers_follow trace_number bytes_of in_buffer calls_answered played_buffer comparisons_from first_difference replayed
trace_cases = grind arith
