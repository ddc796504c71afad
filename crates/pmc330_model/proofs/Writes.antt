-- An accepted write: the registers, a release, a stop and a start, on the board as in the logbook.
use mathlib.Core.Bool.{Bool, true, false, not, cond, ◌&&◌}
use mathlib.Core.List.{List, ◌∷◌}
use mathlib.Core.Logic.{◌⊎◌, inl, inr}
use mathlib.Core.Path.{◌≡◌, refl, sym, subst}
use Prim.Native.Nat.{ℕ, ◌/◌, ◌%◌}
use native.Mathlib.Omega.{arith}
use lib.ListN.{length}
use borrow.Author.Tests.{leb-true}
use Rattle.std.proofs.lemmas.Bool.{and_parts, and_right}
use Rattle.pmc330_model.specs.Map.{scan_field, kept_control}
use Rattle.pmc330_model.specs.declared.Register.{Register}
use Rattle.pmc330_model.specs.declared.Register.TheVariants.{Interrupt, Control, Prescaler, Timer, Channels, Gain}
use Rattle.pmc330_model.specs.Words.{with_word, gains_with, bit_of, is_release, is_stop, is_start}
use Rattle.pmc330_model.specs.Board.{word_written, started, after_write}
use Rattle.pmc330_model.specs.Logbook.{Event, release, CycleSince, idle, since, is_idle, starts, writes}
use Rattle.pmc330_model.specs.Questions.{is_allowed, is_valid, has_channels, has_interval}
use Rattle.pmc330_model.specs.declared.Registers.{Registers}
use Rattle.pmc330_model.specs.declared.Cycle.{Cycle}
use Rattle.pmc330_model.specs.declared.Board.{Board}
use Rattle.pmc330_model.proofs.Agreement.{book_of, Memory, Limits, Startable, NextIs, Timed, TriggerTaken, Untriggered, Armed, RunningAgrees, CycleAgrees, Agrees, Related}
use Rattle.pmc330_model.proofs.Memory.{memory_release}
use Rattle.pmc330_model.proofs.Starts.{startable_of, started_agrees}
use Rattle.pmc330_model.proofs.Related.{unchanged, both}

and_true : (a : Bool) → (a && true) ≡ a
and_true a = grind arith

-- a running cycle does not depend on the board enable
module _ (r : Registers) (enable : Bool) where
  abbrev pub enabled : Registers
  enabled =
      record { enable = enable; control = r.control; prescaler = r.prescaler; timer = r.timer; start = r.start; end = r.end }

  pub startable_kept : Startable r → Startable enabled
  startable_kept s = grind arith

  module _ (T tick : ℕ) (triggers : List ℕ) (c : Cycle) where
    next_kept : (k : ℕ) → NextIs r k c.odd c.slot → NextIs enabled k c.odd c.slot
    next_kept k h = record { parity = h.parity; before = h.before }

    waiting_kept : TriggerTaken r tick triggers c ⊎ Untriggered triggers c → TriggerTaken enabled tick triggers c ⊎ Untriggered triggers c
    waiting_kept h = grind arith

    mode_kept : Timed r T tick c ⊎ Armed r tick triggers c → Timed enabled T tick c ⊎ Armed enabled tick triggers c
    mode_kept (inl t) = inl (record { k = t.k; timed = t.timed; stands = t.stands; next = next_kept t.k t.next })
    mode_kept (inr a) =
        inr
        (record {
          timed = a.timed;
          trigger_only = a.trigger_only;
          running = a.running;
          index = a.index;
          next = next_kept (length triggers) a.next;
          flight = waiting_kept a.flight;
        })

    running_kept : RunningAgrees r T tick triggers c → RunningAgrees enabled T tick triggers c
    running_kept h = record { startable = startable_kept h.startable; mode = mode_kept h.mode }

  cycle_kept : (tick : ℕ) (cycle : CycleSince) (c : Cycle) → CycleAgrees r tick cycle c → CycleAgrees enabled tick cycle c
  cycle_kept tick idle c h = h
  cycle_kept tick (since T triggers) c h = running_kept T tick triggers c h

-- the scan field of Control as it is kept
pub kept_scan : (word : ℕ) → scan_field (kept_control word) ≡ scan_field word
kept_scan word = omega arith

module _ (b : Board) (tick : ℕ) (cycle : CycleSince) (events : List Event) (agrees : Agrees b tick cycle events) where
  abbrev Written : Register → (word : ℕ) → Type 0
  Written register word =
      Agrees (word_written register word b) tick (cond (is_stop register word) idle cycle) (cond (is_release register word) (release ∷ events) events)

  kept_memory : Memory events b.codes b.unread (b.pending && true)
  kept_memory = rw (and_true b.pending) agrees.memory

  -- a write that leaves the registers as they are
  same_registers : (gains : List ℕ) → Agrees (record { range = b.range; inputs = b.inputs; gains = gains; codes = b.codes; unread = b.unread; pending = b.pending && true; registers = b.registers; taken = b.taken; cycle = b.cycle }) tick cycle events
  same_registers gains = grind arith

  -- a write of registers on an idle board
  new_registers : (r : Registers) → Limits r → is_idle cycle ≡ true → Agrees (record { range = b.range; inputs = b.inputs; gains = b.gains; codes = b.codes; unread = b.unread; pending = b.pending && true; registers = r; taken = b.taken; cycle = b.cycle }) tick cycle events
  new_registers r limits e = grind arith

  interrupt_written : (word : ℕ) → Written Interrupt word
  unfolding with_word
  interrupt_written word =
      record {
        memory = memory (bit_of 15 word);
        taken = agrees.taken;
        limits = record { scan = agrees.limits.scan; start = agrees.limits.start; end = agrees.limits.end };
        running = cycle_kept b.registers (bit_of 0 word) tick cycle b.cycle agrees.running;
      }
    where
      memory : (releases : Bool) → Memory (cond releases (release ∷ events) events) b.codes b.unread (b.pending && not releases)
      memory true = rw (and_right b.pending false refl) (memory_release events b.codes b.unread b.pending agrees.memory)
      memory false = kept_memory

  control_written : (word : ℕ) → is_allowed (is_idle cycle) Control word (with_word Control word b.registers) ≡ true → is_valid Control (with_word Control word b.registers) ≡ true → Written Control word
  unfolding with_word
  control_written word allowed valid = grind arith

  -- the board and the logbook after the word is written
  written_agrees : (register : Register) (word : ℕ) → is_allowed (is_idle cycle) register word (with_word register word b.registers) ≡ true → is_valid register (with_word register word b.registers) ≡ true → Written register word
  unfolding with_word
  written_agrees Interrupt word allowed valid = interrupt_written word
  written_agrees Control word allowed valid = control_written word allowed valid
  written_agrees Prescaler word allowed valid =
      new_registers _ (record { scan = agrees.limits.scan; start = agrees.limits.start; end = agrees.limits.end }) allowed
  written_agrees Timer word allowed valid =
      new_registers _ (record { scan = agrees.limits.scan; start = agrees.limits.start; end = agrees.limits.end }) allowed
  written_agrees Channels word allowed valid =
      new_registers _
      (record {
        scan = agrees.limits.scan;
        start = leb-true (word % 0x100) 31 (and_parts _ _ valid).0;
        end = leb-true (word / 0x100) 31 (and_parts _ _ valid).1;
      })
      allowed
  written_agrees (Gain group) word allowed valid = same_registers (gains_with (Gain group) word b.gains)
  written_agrees _ word allowed valid = same_registers b.gains

  -- a start leaves the registers as they are
  start_keeps : (register : Register) (word : ℕ) → is_start register word ≡ true → with_word register word b.registers ≡ b.registers
  unfolding with_word
  start_keeps register word e = grind arith

  module _ (register : Register) (word : ℕ) (next : Written register word) where
    starting : is_start register word ≡ true → has_channels b.registers ≡ true → has_interval b.registers ≡ true → (scan_field b.registers.control ≡ 0 → ⊥)
        → Related (starts (book_of (word_written register word b) tick (cond (is_stop register word) idle cycle) (cond (is_release register word) (release ∷ events) events))) (started (word_written register word b))
    starting e channels paced some =
        let same : b.registers ≡ with_word register word b.registers = sym (start_keeps register word e) in
        started_agrees (word_written register word b) tick (cond (is_stop register word) idle cycle) (cond (is_release register word) (release ∷ events) events) next
        (startable_of (with_word register word b.registers) next.limits
        (subst (λ (r : Registers). has_channels r ≡ true) same channels)
        (subst (λ (r : Registers). has_interval r ≡ true) same paced))
        (subst (λ (r : Registers). scan_field r.control ≡ 0 → ⊥) same some)

  pub write_agrees :
      (register : Register) (word : ℕ) → is_allowed (is_idle cycle) register word (with_word register word b.registers) ≡ true
      → is_valid register (with_word register word b.registers) ≡ true
      → (is_start register word ≡ true → (scan_field b.registers.control ≡ 0 → ⊥) × (has_channels b.registers ≡ true) × (has_interval b.registers ≡ true))
      → Related (writes register word (book_of b tick cycle events)) (after_write register word b)
  unfolding writes after_write
  write_agrees register word allowed valid start =
      let next : Written register word = written_agrees register word allowed valid in
      both (is_start register word) (is_start register word) refl
      (λ e. starting register word next e (start e).1 (start e).2 (start e).0)
      (λ e. unchanged (word_written register word b) tick (cond (is_stop register word) idle cycle) (cond (is_release register word) (release ∷ events) events) next)
