-- What the data sheet says of the window, proved. The statement is in specs/Sentences.antt.
use mathlib.Core.Bool.{Bool, true, false, cond}
use mathlib.Core.List.{List, ◌++◌}
use mathlib.Core.Path.{◌≡◌, refl, ap}
use Prim.Native.Nat.{ℕ, ◌≤◌}
use lib.Dec.{leb}
use borrow.Author.Tests.{leb-true}
use lib.ListN.{length, get_or, drop}
use Rattle.analog.specs.Answers.{all_met, value_of}
use Rattle.analog.proofs.AnswerLaws.{answered_by, accepted_is}
use Rattle.window.specs.Sentences.{EveryWindow}
use Rattle.window.specs.Window.{sums_after, held_after, is_length, window_questions, window_answer, window_output}
use Rattle.window.proofs.WindowLaws.{sum_at, sums_size, past_sums, held_is}

module _ (n : ℕ) (codes output : List ℕ) where
  abbrev all_sums : List ℕ
  all_sums = sums_after n codes (length codes) ++ drop (length codes) output

  beyond_stays : (met : Bool) (k : ℕ) → length codes ≤ k → get_or (cond met all_sums output) k 0 ≡ get_or output k 0
  beyond_stays true k h = past_sums n codes k output h
  beyond_stays false k h = refl

  size_stays : (valid fits : Bool) → is_length n ≡ valid → leb (length codes) (length output) ≡ fits → length (window_output n codes output) ≡ length output
  unfolding window_output all_met
  size_stays true true v f = rw (v, f) (sums_size n codes (length codes) output (leb-true (length codes) (length output) f))
  size_stays true false v f = simp (v, f)
  size_stays false true v f = simp (v, f)
  size_stays false false v f = simp (v, f)

pub windows_answered : EveryWindow
unfolding window_answer window_output all_met
windows_answered n codes output =
    let questions = window_questions n codes output in
    let held = held_after n (length codes) in
    record {
      answer = answered_by questions held;
      refused = λ unmet. rw unmet;
      sums = λ met k h. rw met (sum_at n codes (length codes) k (drop (length codes) output) h);
      beyond = beyond_stays n codes output (all_met questions);
      size = size_stays n codes output (is_length n) (leb (length codes) (length output)) refl refl;
      holds = held_is n codes;
      count = λ met. ap value_of (accepted_is questions held met);
    }
