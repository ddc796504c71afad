-- Sentence 1 of the correction, proved. Its statement is in specs/Sentences.antt.
use Rattle.analog.specs.Correction.{correction_questions, corrected_count, corrected_answer}
use Rattle.analog.specs.Sentences.{EveryCorrection}
use Rattle.analog.proofs.AnswerLaws.{answered_by}

pub correction_answered : EveryCorrection
unfolding corrected_answer
correction_answered range gain high low high_sum low_sum raw =
    answered_by (correction_questions range gain high low high_sum low_sum raw) (corrected_count range gain high low high_sum low_sum raw)
