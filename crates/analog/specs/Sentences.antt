-- Sentence 1 of the data sheet, of every answer, and of the correction. `correction_answered` in proofs/Sentences.antt proves the latter.
use Rattle.std.specs.Prelude.{ℕ, true, false, List, ◌≡◌, Err, IsErrAnd}
use Rattle.analog.specs.Answers.{Answer, Question, first_no, all_met, asked, number_of, value_of, is_accepted}
use Rattle.analog.specs.Correction.{correction_questions, corrected_answer}

-- an answer to a call that is asked these questions: it is refused if one of them is answered with no, and otherwise accepted; if
-- refused, its number is that of the first question that is answered with no, and its value is 0
pub record AnsweredBy (questions : List Question) (answer : Answer) : Type 0 where
  pub refused : all_met questions ≡ false → IsErrAnd answer (λ refusal. asked questions ≡ Err refusal)
  pub accepted : all_met questions ≡ true → is_accepted answer ≡ true
  pub number : number_of answer ≡ first_no questions
  pub value : all_met questions ≡ false → value_of answer ≡ 0

-- the correction, on any arguments: questions 15, 16 and 17
abbrev pub EveryCorrection : Type 0
EveryCorrection =
    (range gain high low high_sum low_sum raw : ℕ)
    → AnsweredBy (correction_questions range gain high low high_sum low_sum raw)
    (corrected_answer range gain high low high_sum low_sum raw)
