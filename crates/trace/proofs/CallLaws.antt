-- The laws of a call's numbers.
use mathlib.Core.Logic.{⊎_elim}
use mathlib.Core.Path.{◌≡◌, ap}
use Prim.Native.Nat.{ℕ, ◌≤◌, ◌<◌}
use native.Mathlib.Omega.{arith}
use mir.Syntax.{w32}
use mir.Val.{to_z}
use lib.IntN.{negsuc}
use borrow.Author.Tests.{lt-ltb, le-ltb}
use Rattle.std.proofs.lemmas.Bool.{cases_lt}
use Rattle.trace.specs.Grammar.{signed_of}

-- two's complement
pub signed_is : (n : ℕ) → n < 0x1_0000_0000 → to_z w32 n ≡ signed_of n
unfolding signed_of
signed_is n fits =
    ⊎_elim (λ (low : n < 0x8000_0000). rw (lt-ltb n 0x8000_0000 low))
    (λ (high : 0x8000_0000 ≤ n). rw (le-ltb n 0x8000_0000 high, lt-ltb n 0x1_0000_0000 fits) (ap negsuc (omega arith)))
    (cases_lt n 0x8000_0000)
