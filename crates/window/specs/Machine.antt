-- What the private functions promise: how the code computes. No caller cites it.
use Rattle.std.specs.Prelude.{ℕ, ◌≤◌, List, ◌++◌, ◌≡◌, length, drop}
use Rattle.analog.specs.Sums.{sum_of}
use Rattle.window.specs.Window.{window_after, sums_after}

-- a window that has filled: its sum, and the sums so far in front of the output
pub record Filled (full : ℕ) (codes : List ℕ) (sum : ℕ) (output : List ℕ) : Type 0 where
  pub most : full ≤ 32
  pub within : full ≤ length codes
  pub room : length codes ≤ length output
  pub total : sum ≡ sum_of (window_after full codes full)
  pub holds : output ≡ sums_after full codes full ++ drop full output
