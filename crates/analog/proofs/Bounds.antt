-- A code fits 16 bits, in either format.
use mathlib.Core.Bool.{Bool}
use Prim.Native.Nat.{ℕ, ◌<◌}
use native.Mathlib.Omega.{arith}
use lib.IntN.{ℤ}
use Rattle.analog.specs.Code.{limited, code_of, in_format}

-- whatever is limited
limited_below : (z : ℤ) → limited z < 65536
limited_below z = grind arith

pub code_below : (range gain : ℕ) (v : ℤ) → code_of range gain v < 65536
unfolding code_of
code_below range gain v = search limited_below

pub format_below : (straight : Bool) (code : ℕ) → code < 65536 → in_format straight code < 65536
unfolding in_format
format_below straight code h = grind arith
