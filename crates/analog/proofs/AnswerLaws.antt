-- An answer follows its questions: what `asked` and `answered` give, by whether all are met.
use mathlib.Core.Bool.{Bool, true, false, false≢true}
use mathlib.Core.List.{List, [], ◌∷◌}
use mathlib.Core.Path.{◌≡◌, refl, sym, ap, ◌∙◌}
use Prim.Native.Nat.{ℕ, ◌<◌}
use native.Mathlib.Omega.{arith}
use Rattle.std.specs.Prelude.{Result, Ok, Err, ⊤}
use Rattle.analog.specs.Answers.{number_of_refusal, Question, first_no, all_met, asked, with_value, answered, number_of, is_accepted}
use Rattle.analog.specs.Sentences.{AnsweredBy}
use Rattle.analog.specs.declared.Refusal.{Refusal}
use Rattle.analog.proofs.RefusalLaws.{number_some}

-- what the questions come to: all are met, or one is answered with no and refuses with its number
pub data Outcome : List Question → Type 0 where
  met : {questions : List Question} → all_met questions ≡ true → first_no questions ≡ 0 → asked questions ≡ Ok record {} → Outcome questions
  unmet :
      {questions : List Question} (refusal : Refusal) → all_met questions ≡ false → first_no questions ≡ number_of_refusal refusal
      → asked questions ≡ Err refusal → Outcome questions

pub outcome : (questions : List Question) → Outcome questions
unfolding all_met first_no asked
outcome [] = met refl refl refl
outcome (q ∷ later) = go q.met refl (outcome later)
  where
    go : (answer : Bool) → q.met ≡ answer → Outcome later → Outcome (q ∷ later)
    go true e (met all none ok) = met (rw e all) (rw e none) (rw e ok)
    go true e (unmet refusal some number err) = unmet refusal (rw e some) (rw e number) (rw e err)
    go false e later_outcome = unmet q.refusal (rw e refl) (rw e refl) (rw e refl)

-- all met: the number is 0
pub none_first : (questions : List Question) → all_met questions ≡ true → first_no questions ≡ 0
none_first questions e = go (outcome questions)
  where
    go : Outcome questions → first_no questions ≡ 0
    go (met all none ok) = none
    go (unmet refusal some number err) = absurd (false≢true (sym some ∙ e))

-- not all met: the number is not 0
pub some_first : (questions : List Question) → all_met questions ≡ false → 0 < first_no questions
some_first questions e = go (outcome questions)
  where
    go : Outcome questions → 0 < first_no questions
    go (met all none ok) = absurd (false≢true (sym e ∙ all))
    go (unmet refusal some number err) = omega (arith, number, number_some refusal)

-- the number is 0: all are met
pub none_asked : (questions : List Question) → first_no questions ≡ 0 → asked questions ≡ Ok record {}
none_asked questions e = go (outcome questions)
  where
    go : Outcome questions → asked questions ≡ Ok record {}
    go (met all none ok) = ok
    go (unmet refusal some number err) = absurd (omega (arith, e, number, number_some refusal))

-- the number of the first question that is answered with no, by what `asked` gives
number_asked : (questions : List Question) → first_no questions ≡ number_of (with_value (asked questions) 0)
number_asked questions = go (outcome questions)
  where
    go : Outcome questions → first_no questions ≡ number_of (with_value (asked questions) 0)
    go (met all none ok) = rw ok none
    go (unmet refusal some number err) = rw err number

pub ok_first : (questions : List Question) → asked questions ≡ Ok record {} → first_no questions ≡ 0
ok_first questions e = number_asked questions ∙ ap (λ (r : Result ⊤ Refusal). number_of (with_value r 0)) e

pub err_first : (questions : List Question) (refusal : Refusal) → asked questions ≡ Err refusal → first_no questions ≡ number_of_refusal refusal
err_first questions refusal e = number_asked questions ∙ ap (λ (r : Result ⊤ Refusal). number_of (with_value r 0)) e

-- the answer, by what `asked` gives
pub answered_ok : (questions : List Question) (value : ℕ) → asked questions ≡ Ok record {} → answered questions value ≡ Ok value
unfolding answered
answered_ok questions value e = ap (λ (r : Result ⊤ Refusal). with_value r value) e

pub answered_err : (questions : List Question) (value : ℕ) (refusal : Refusal) → asked questions ≡ Err refusal → answered questions value ≡ Err refusal
unfolding answered
answered_err questions value refusal e = ap (λ (r : Result ⊤ Refusal). with_value r value) e

module _ (questions : List Question) (value : ℕ) where
  pub accepted_is : all_met questions ≡ true → answered questions value ≡ Ok value
  accepted_is e = answered_ok questions value (none_asked questions (none_first questions e))

  pub answered_by : AnsweredBy questions (answered questions value)
  unfolding answered
  answered_by = go (outcome questions)
    where
      go : Outcome questions → AnsweredBy questions (with_value (asked questions) value)
      go (met all none ok) =
          rw ok
          (record {
            refused = λ f. absurd (false≢true (sym f ∙ all));
            accepted = λ f. refl;
            number = sym none;
            value = λ f. absurd (false≢true (sym f ∙ all));
          })
      go (unmet refusal some number err) =
          rw err
          (record {
            refused = λ f. err;
            accepted = λ f. absurd (false≢true (sym some ∙ f));
            number = sym number;
            value = λ f. refl;
          })

-- where the answer is accepted, no question is answered with no
pub accepted_none : (questions : List Question) (value : ℕ) → is_accepted (answered questions value) ≡ true → first_no questions ≡ 0
unfolding answered
accepted_none questions value e = go (outcome questions)
  where
    go : Outcome questions → first_no questions ≡ 0
    go (met all none ok) = none
    go (unmet refusal some number err) = absurd (false≢true (sym (ap (λ (r : Result ⊤ Refusal). is_accepted (with_value r value)) err) ∙ e))

-- of a call's value only that of an accepted call is answered
pub same_if_met : (questions : List Question) (value other : ℕ) → (first_no questions ≡ 0 → value ≡ other) → answered questions value ≡ answered questions other
unfolding answered
same_if_met questions value other same = go (outcome questions)
  where
    go : Outcome questions → with_value (asked questions) value ≡ with_value (asked questions) other
    go (met all none ok) = ap (with_value (asked questions)) (same none)
    go (unmet refusal some number err) = rw err refl
