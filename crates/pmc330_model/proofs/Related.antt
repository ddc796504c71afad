-- How a board and its logbook stay related.
use mathlib.Core.Bool.{Bool, true, false, cond}
use mathlib.Core.List.{List}
use mathlib.Core.Path.{◌≡◌}
use Prim.Native.Nat.{ℕ}
use Rattle.pmc330_model.specs.Logbook.{Event, CycleSince, Logbook}
use Rattle.pmc330_model.specs.declared.Board.{Board}
use Rattle.pmc330_model.proofs.Agreement.{book_of, Agrees, Related}
use native.Mathlib.Omega.{arith}

-- a logbook and a board that nothing happens to
pub unchanged : (b : Board) (tick : ℕ) (cycle : CycleSince) (events : List Event) → Agrees b tick cycle events → Related (book_of b tick cycle events) b
unchanged b tick cycle events agrees = grind arith

-- of two tests with the same outcome, the same branch
pub both : {l l' : Logbook} {b b' : Board} (t u : Bool) → t ≡ u → (t ≡ true → Related l b) → (t ≡ false → Related l' b') → Related (cond u l l') (cond t b b')
both t u e this other = grind arith
