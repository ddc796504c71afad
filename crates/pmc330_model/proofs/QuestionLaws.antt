-- The questions of a call: where none is answered with no, each is met.
use mathlib.Core.Bool.{Bool, true, false}
use mathlib.Core.List.{List, ◌∷◌}
use mathlib.Core.Path.{◌≡◌}
use Prim.Native.Nat.{ℕ}
use native.Mathlib.Omega.{arith}
use Rattle.analog.specs.Answers.{Question, question, first_no}
use Rattle.analog.specs.declared.Refusal.{Refusal}
use Rattle.pmc330_model.specs.Map.{class_of}
use Rattle.pmc330_model.specs.declared.Register.{Register}
use Rattle.pmc330_model.specs.Words.{with_word, is_start}
use Rattle.pmc330_model.specs.Calls.{write}
use Rattle.pmc330_model.specs.Questions.{is_allowed, word_questions, resulting_word, call_questions}
use Rattle.pmc330_model.specs.declared.Registers.{Registers}

-- where no question is answered with no, each is met
pub first_met : (refusal : Refusal) (met : Bool) (later : List Question) → first_no (question refusal met ∷ later) ≡ 0 → met ≡ true
unfolding first_no
first_met refusal met later e = grind arith

pub rest_met : (refusal : Refusal) (met : Bool) (later : List Question) → first_no (question refusal met ∷ later) ≡ 0 → first_no later ≡ 0
unfolding first_no
rest_met refusal met later e = grind arith

-- question 6: a cycle that runs is not started again
no_start :
    (register : Register) (word : ℕ) (resulting : Registers) → is_allowed false register word resulting ≡ true
    → is_start register word ≡ false
no_start register word resulting e = grind arith

module _ (r : Registers) (gains : List ℕ) (width offset value : ℕ)
    (met : first_no (call_questions r gains false (write width offset value)) ≡ 0) where
  abbrev word : ℕ
  word = resulting_word r gains width offset value

  pub running_allowed : is_allowed false (class_of offset) word (with_word (class_of offset) word r) ≡ true
  unfolding call_questions
  running_allowed =
      let five : first_no (word_questions r false (class_of offset) word (with_word (class_of offset) word r)) ≡ 0 = rest_met _ _ _ (rest_met _ _ _ (rest_met _ _ _ (rest_met _ _ _ met))) in
      first_met _ _ _ (rest_met _ _ _ five)

  pub running_unstarted : is_start (class_of offset) word ≡ false
  running_unstarted = no_start (class_of offset) word (with_word (class_of offset) word r) running_allowed
