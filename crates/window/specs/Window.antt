-- The running average: the sums of a window over a run of straight codes (data sheet, "Running average").
use Rattle.std.specs.Prelude.{ℕ, zero, suc, ◌-◌, Bool, if◌then◌else◌, ◌||◌, List, [], ◌∷◌, ◌++◌, ◌==◌, nat_le, length, take, drop}
use Rattle.analog.specs.Answers.{Question, question, all_met, answered, Answer}
use Rattle.analog.specs.Sums.{sum_of}
use Rattle.analog.specs.declared.Refusal.TheVariants.{BadWindow, ShortBuffer}

-- the last N of a list; all of it where it has fewer
abbrev pub last_of : (n : ℕ) (codes : List ℕ) → List ℕ
last_of n codes = drop (length codes - n) codes

-- what the window holds after the first `count` codes of a run: the last N of these
abbrev pub window_after : (n : ℕ) (codes : List ℕ) (count : ℕ) → List ℕ
window_after n codes count = last_of n (take count codes)

-- the sums after each of the first `count` codes, one a code
unfoldable pub sums_after : (n : ℕ) (codes : List ℕ) (count : ℕ) → List ℕ
sums_after n codes zero = []
sums_after n codes (suc k) = sums_after n codes k ++ (sum_of (window_after n codes (suc k)) ∷ [])

-- how many codes a sum holds: N, or the codes so far where these are fewer
abbrev pub held_after : (n count : ℕ) → ℕ
held_after n count = if nat_le n count then n else count

abbrev pub is_length : ℕ → Bool
is_length n = n == 8 || n == 16 || n == 32

-- 21, the length is 8, 16 or 32; then 20, the output has a place for each code of the run
abbrev pub window_questions : (n : ℕ) (codes output : List ℕ) → List Question
window_questions n codes output =
    question BadWindow (is_length n)
    ∷ question ShortBuffer (nat_le (length codes) (length output))
    ∷ []

-- the value is how many codes the last sum holds
unfoldable pub window_answer : (n : ℕ) (codes output : List ℕ) → Answer
window_answer n codes output = answered (window_questions n codes output) (held_after n (length codes))

-- the output afterwards: a refusal leaves it as it was, an accepted call the places past the run
unfoldable pub window_output : (n : ℕ) (codes output : List ℕ) → List ℕ
window_output n codes output =
    if all_met (window_questions n codes output)
    then sums_after n codes (length codes) ++ drop (length codes) output
    else output
