-- What the data sheet says of the running average. `windows_answered` in proofs/Sentences.antt proves it.
use Rattle.std.specs.Prelude.{ℕ, suc, ◌≤◌, ◌<◌, true, false, List, [], ◌∷◌, ◌≡◌, length, get_or, Ok}
use Rattle.analog.specs.Answers.{all_met, value_of}
use Rattle.analog.specs.Sentences.{AnsweredBy}
use Rattle.analog.specs.Sums.{sum_of}
use Rattle.window.specs.Window.{window_after, held_after, window_questions, window_answer, window_output}

-- A run of codes through a window of N. Accepted, the place of each code has the sum of the last N up to it, and the value is how many
-- codes the last sum holds; refused, the output stays. Places past the run always stay.
pub record SummedRun (n : ℕ) (codes output : List ℕ) : Type 0 where
  pub answer : AnsweredBy (window_questions n codes output) (window_answer n codes output)
  pub refused : all_met (window_questions n codes output) ≡ false → window_output n codes output ≡ output
  pub sums :
      all_met (window_questions n codes output) ≡ true → (k : ℕ) → k < length codes
      → get_or (window_output n codes output) k 0 ≡ sum_of (window_after n codes (suc k))
  pub beyond : (k : ℕ) → length codes ≤ k → get_or (window_output n codes output) k 0 ≡ get_or output k 0
  pub size : length (window_output n codes output) ≡ length output
  pub holds : (m : ℕ) → m ≤ length codes → length (window_after n codes m) ≡ held_after n m
  pub count : all_met (window_questions n codes output) ≡ true → value_of (window_answer n codes output) ≡ held_after n (length codes)

-- any length, any run, any output
abbrev pub EveryWindow : Type 0
EveryWindow = (n : ℕ) (codes output : List ℕ) → SummedRun n codes output

-- an example: the codes 1 to 10 through a window of 8, into an output of ten places
abbrev pub ten : List ℕ
ten = 1 ∷ 2 ∷ 3 ∷ 4 ∷ 5 ∷ 6 ∷ 7 ∷ 8 ∷ 9 ∷ 10 ∷ []

pub record WindowExample : Type 0 where
  pub sums : window_output 8 ten ten ≡ (1 ∷ 3 ∷ 6 ∷ 10 ∷ 15 ∷ 21 ∷ 28 ∷ 36 ∷ 44 ∷ 52 ∷ [])
  pub count : window_answer 8 ten ten ≡ Ok 8
