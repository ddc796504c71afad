-- A conversion begins: the board's beginning is the logbook's.
use mathlib.Core.Bool.{Bool, not, cond, ◌&&◌}
use mathlib.Core.List.{List}
use mathlib.Core.Path.{◌≡◌, ap, ◌∙◌}
use Prim.Native.Nat.{ℕ, suc, ◌+◌, ◌%◌, ◌<◌}
use Rattle.schedule.proofs.Standing.{begun_ends}
use Rattle.analog.proofs.Bounds.{code_below}
use Rattle.pmc330_model.specs.Schedule.{pass_length, is_differential, slot_of, voltage_at}
use Rattle.pmc330_model.specs.Plan.{plan_of}
use Rattle.pmc330_model.specs.Board.{code_taken, begun}
use Rattle.pmc330_model.specs.Logbook.{Event, CycleSince, begins}
use Rattle.pmc330_model.specs.declared.Board.{Board}
use Rattle.pmc330_model.proofs.Agreement.{Startable, book_of, NextIs}
use Rattle.pmc330_model.proofs.Due.{parity_next}
use native.Mathlib.Omega.{arith}

module _ (b : Board) (startable : Startable b.registers) (k : ℕ) (index : b.cycle.timer.index ≡ k % pass_length b.registers) where
  -- the logbook with conversion k's code is that of the board that has begun it
  pub begins_is : (tick : ℕ) (cycle : CycleSince) (events : List Event) → begins k (book_of b tick cycle events) ≡ book_of (begun b) tick cycle events
  unfolding code_taken
  begins_is tick cycle events = grind arith

  -- and then the one after it is next
  pub begun_next : NextIs b.registers k b.cycle.odd b.cycle.slot → NextIs b.registers (suc k) (begun b).cycle.odd (begun b).cycle.slot
  unfolding code_taken
  begun_next next =
      record {
        parity =
            ap (λ (ends : Bool). cond (is_differential b.registers && ends) (not b.cycle.odd) b.cycle.odd) (begun_ends (plan_of b.registers) k b.cycle.timer index)
            ∙ parity_next b.registers k b.cycle.odd next.parity;
        before = λ j e. slot ∙ ap (slot_of b.registers) (same e);
      }
    where
      slot : (begun b).cycle.slot ≡ slot_of b.registers k
      slot = grind (arith, next.parity)

      same : {i j : ℕ} → suc i ≡ suc j → i ≡ j
      same e = cc

pub begun_held : (b : Board) → (begun b).taken < 65536
unfolding code_taken
begun_held b =
    code_below b.range _ (voltage_at b.registers b.inputs ((b.registers.start + b.cycle.timer.index) % 32))
