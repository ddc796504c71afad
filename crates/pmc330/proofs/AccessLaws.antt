-- A read and a write: the code's parts are the definition's.
use mathlib.Core.Bool.{Bool, not}
use mathlib.Core.List.{[], ◌∷◌}
use mathlib.Core.Path.{◌≡◌, sym, ap, ap₂, ◌∙◌}
use Prim.Native.Nat.{ℕ, ◌^◌}
use lib.Dec.{ltb}
use Rattle.std.specs.Prelude.{Err}
use Rattle.analog.specs.Answers.{question, asked}
use Rattle.analog.specs.declared.Refusal.{Refusal}
use Rattle.analog.specs.declared.Refusal.TheVariants.{BadValue, BadDirection}
use Rattle.pmc330_model.specs.Map.{class_of, is_readable}
use Rattle.pmc330_model.specs.declared.Register.{Register}
use Rattle.pmc330_model.specs.Words.{read_word, read_bytes, held_word, written_word, with_word}
use Rattle.pmc330_model.specs.Calls.{read, write}
use Rattle.pmc330_model.specs.Questions.{resulting_word, call_questions, access_questions, word_questions}
use Rattle.pmc330_model.specs.Board.{view_of, questions_of, after_read, after_write, after_call, value_of_call}
use Rattle.pmc330_model.specs.declared.Board.{Board}
use Rattle.pmc330.specs.Widths.{bits_of, IsAccess}
use Rattle.pmc330.specs.declared.access.Access.{Access}
use Rattle.pmc330.proofs.QuestionLaws.{and_then, asked_append, asked_then}
use native.Mathlib.Omega.{arith}

-- the questions of an access that is refused, and those that are left of one that is not
module _ (b : Board) (bits at : ℕ) where
  pub read_refused : {refusal : Refusal} → asked (access_questions bits at (class_of at)) ≡ Err refusal → asked (questions_of b (read bits at)) ≡ Err refusal
  unfolding call_questions
  read_refused e = asked_then (access_questions bits at (class_of at)) _ e

  pub write_refused :
      (value : ℕ) {refusal : Refusal} → asked (access_questions bits at (class_of at)) ≡ Err refusal
      → asked (questions_of b (write bits at value)) ≡ Err refusal
  unfolding call_questions
  write_refused value e = asked_then (access_questions bits at (class_of at)) _ e

  module _ (a : Access) (is : IsAccess bits at a) (register : Register) (found : register ≡ class_of a.offset) where
    class_is : register ≡ class_of at
    class_is = found ∙ ap class_of is.offset

    pub read_asked : asked (questions_of b (read bits at)) ≡ asked (question BadDirection (is_readable register) ∷ [])
    unfolding call_questions
    read_asked =
        asked_then (access_questions bits at (class_of at)) _ is.met
        ∙ ap (λ (r : Register). asked (question BadDirection (is_readable r) ∷ [])) (sym class_is)

    pub read_board : after_read register b ≡ after_call b (read bits at)
    unfolding after_call
    read_board = ap (λ (r : Register). after_read r b) class_is

    pub read_value : read_bytes (bits_of a.width) a.offset (read_word (view_of b) register) ≡ value_of_call b (read bits at)
    unfolding value_of_call
    read_value = grind arith

    module _ (value word : ℕ) (written : word ≡ written_word (bits_of a.width) a.offset value (held_word b.registers b.gains register)) where
      word_is : word ≡ resulting_word b.registers b.gains bits at value
      word_is = grind arith

      -- 4, and then 5 and on
      pub write_asked :
          asked (questions_of b (write bits at value))
          ≡ and_then (asked (question BadValue (ltb value (2 ^ bits_of a.width)) ∷ [])) (word_questions b.registers (not b.cycle.timer.running) register word (with_word register word b.registers))
      unfolding call_questions
      write_asked =
          let idle : Bool = not b.cycle.timer.running in
          asked_then (access_questions bits at (class_of at)) _ is.met
          ∙ sym (ap₂ (λ (r : Register) (n : ℕ). asked (question BadValue (ltb value (2 ^ bits)) ∷ word_questions b.registers idle r n (with_word r n b.registers))) class_is word_is)
          ∙ sym (ap (λ (n : ℕ). asked (question BadValue (ltb value (2 ^ n)) ∷ word_questions b.registers idle register word (with_word register word b.registers))) is.width)
          ∙ asked_append (question BadValue (ltb value (2 ^ bits_of a.width)) ∷ []) _

      pub write_board : after_write register word b ≡ after_call b (write bits at value)
      unfolding after_call
      write_board = grind arith
