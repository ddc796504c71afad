-- A conversion is stored: the board's store is the logbook's event.
use mathlib.Core.Bool.{Bool, ◌||◌}
use mathlib.Core.List.{List, ◌∷◌}
use mathlib.Core.Path.{◌≡◌, sym, subst, subst₂}
use Prim.Native.Nat.{ℕ, ◌+◌, ◌<◌, min}
use native.Mathlib.Nat.{mod-eq_of_lt}
use lib.ListN.{get_or, set}
use Rattle.analog.proofs.Bounds.{format_below}
use Rattle.pmc330_model.specs.Map.{is_straight}
use Rattle.pmc330_model.specs.Schedule.{slot_of, ends_pass, formatted_by, is_interrupting}
use Rattle.pmc330_model.specs.Board.{stored}
use Rattle.pmc330_model.specs.Logbook.{Event, store, store_at}
use Rattle.pmc330_model.specs.declared.Board.{Board}
use Rattle.pmc330_model.proofs.Agreement.{Startable, Memory}
use Rattle.pmc330_model.proofs.Due.{slot_below}
use Rattle.pmc330_model.proofs.Memory.{memory_store}

-- the event of conversion k's store, at a tick
abbrev pub store_of : Board → (tick k : ℕ) → Event
store_of b tick k = store (store_at b.registers tick b.taken (slot_of b.registers k) (ends_pass b.registers k))

pub slot_memory :
    (b : Board) (tick slot : ℕ) (ends : Bool) → slot < 32 → (events : List Event) → Memory events b.codes b.unread b.pending
    → b.taken < 65536
    → Memory (store (store_at b.registers tick b.taken slot ends) ∷ events) (stored slot ends b).codes (stored slot ends b).unread (stored slot ends b).pending
unfolding stored
slot_memory b tick slot ends below events memory small =
    let code : ℕ = formatted_by b.registers b.taken in
    subst
    (λ (at : ℕ).
    Memory (store (store_at b.registers tick b.taken slot ends) ∷ events) (set b.codes at code) (set b.unread at (min 2 (get_or b.unread at 0 + 1)))
    (b.pending || is_interrupting b.registers ends))
    (sym (mod-eq_of_lt below))
    (memory_store events b.codes b.unread b.pending memory
    (store_at b.registers tick b.taken slot ends)
    (format_below (is_straight b.registers.control) b.taken small))

module _ (b : Board) (startable : Startable b.registers) (tick k slot : ℕ) (ends : Bool) (slot_is : slot ≡ slot_of b.registers k) (ends_is : ends ≡ ends_pass b.registers k) where
  pub stored_memory :
      (events : List Event) → Memory events b.codes b.unread b.pending → b.taken < 65536
      → Memory (store_of b tick k ∷ events) (stored slot ends b).codes (stored slot ends b).unread (stored slot ends b).pending
  stored_memory events memory small =
      subst₂
      (λ (at : ℕ) (last : Bool).
      Memory (store (store_at b.registers tick b.taken at last) ∷ events) (stored slot ends b).codes (stored slot ends b).unread (stored slot ends b).pending)
      slot_is
      ends_is
      (slot_memory b tick slot ends (subst (λ (s : ℕ). s < 32) (sym slot_is) (slot_below b.registers startable k)) events memory small)
