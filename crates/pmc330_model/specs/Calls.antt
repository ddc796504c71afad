-- The calls of the lists that sentence 3 is about, with their arguments.
use Rattle.std.specs.Prelude.{ℕ, ℤ}

pub data Call : Type 0 where
  read : (width offset : ℕ) → Call
  write : (width offset value : ℕ) → Call
  input : (channel : ℕ) (microvolts : ℤ) → Call
  advance : (ticks : ℕ) → Call
  trigger reset : Call
  look clear : (slot : ℕ) → Call
