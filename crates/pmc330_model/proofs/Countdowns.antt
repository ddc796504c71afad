-- How far the countdowns of a board reach that a list of calls leads to: one advance spans the longest of them.
use mathlib.Core.Bool.{Bool, false, cond, ◌&&◌}
use mathlib.Core.List.{List, [], ◌∷◌}
use mathlib.Core.Path.{refl, sym, subst}
use Prim.Native.Nat.{ℕ, ◌≤◌}
use native.Mathlib.Nat.{mul-le-mul}
use native.Mathlib.Omega.{arith}
use lib.Dec.{eqb}
use Rattle.analog.specs.Answers.{first_no}
use Rattle.schedule.proofs.Bounds.{Near, Short, started_near, elapsed_near, begun_near, advanced_near}
use Rattle.schedule.proofs.Maps.{advanced_keeps}
use Rattle.pmc330_model.specs.Map.{class_of, trigger_field}
use Rattle.pmc330_model.specs.declared.Register.{Register}
use Rattle.pmc330_model.specs.declared.Register.TheVariants.{Mailbox}
use Rattle.pmc330_model.specs.Words.{written_word, with_word, is_stop, is_start}
use Rattle.pmc330_model.specs.Schedule.{interval, is_burst, is_timed, is_trigger_only}
use Rattle.pmc330_model.specs.Plan.{plan_of}
use Rattle.pmc330_model.specs.Calls.{Call, read, write, input, advance, trigger, reset, look, clear}
use Rattle.pmc330_model.specs.Questions.{has_channels, has_interval}
use Rattle.pmc330_model.specs.Board.{idle_cycle, restarted, word_written, with_cycle, new_board, cleared_board, stored, code_taken, begun, board_effects, scan_of, advanced, fresh_cycle, started, trigger_taken, armed_by_trigger, triggered, after_read, after_write, after_call, board_call, questions_of, board_from, board_after}
use Rattle.pmc330_model.specs.declared.Registers.{Registers}
use Rattle.pmc330_model.specs.declared.Cycle.{Cycle}
use Rattle.pmc330_model.specs.declared.Board.{Board}

-- the registers fit their bits
pub record Fitting (r : Registers) : Type 0 where
  pub prescaler : r.prescaler ≤ 255
  pub timer : r.timer ≤ 65535
  pub end : r.end ≤ 255

-- and no beginning is farther away than the longest interval and a burst's step, no store than 64 ticks
pub record Bounded (b : Board) : Type 0 where
  pub registers : Fitting b.registers
  pub timer : Near 16_711_545 64 b.cycle.timer

-- ---- the parts of a step

plan_short : (r : Registers) → Fitting r → Short 16_711_545 64 (plan_of r)
plan_short r fit =
    let most : interval r ≤ 16_711_425 = mul-le-mul fit.prescaler fit.timer in
    record { first = grind (arith, most); step = grind (arith, most); turn = grind (arith, most); delay = omega arith }

begun_bounded : (b : Board) → Fitting b.registers → Bounded (begun b)
unfolding code_taken
begun_bounded b fit = record { registers = fit; timer = begun_near (plan_short b.registers fit) b.cycle.timer }

-- a choice of two bounded boards
either_bounded : (t : Bool) (a b : Board) → Bounded a → Bounded b → Bounded (cond t a b)
either_bounded t a b h g = grind arith

started_bounded : (b : Board) → Fitting b.registers → Bounded (started b)
unfolding started
started_bounded b fit =
    either_bounded (is_burst b.registers) (begun (restarted b)) (restarted b) (begun_bounded (restarted b) fit)
    (record { registers = fit; timer = started_near (plan_short b.registers fit) })

-- ---- time and triggers

advanced_bounded : (n : ℕ) (b : Board) → Bounded b → Bounded (advanced n b)
unfolding advanced code_taken stored
advanced_bounded n b h =
    let kept = advanced_keeps (plan_of b.registers) board_effects (λ (x : Board). x.registers) (λ index x. refl) (λ ends x. refl) n (scan_of b) in
    either_bounded (is_timed b.registers) _ _
    (record {
      registers = subst Fitting (sym kept) h.registers;
      timer = advanced_near (plan_short b.registers h.registers) board_effects n (scan_of b) h.timer;
    })
    (either_bounded b.cycle.timer.running _ b (record { registers = h.registers; timer = elapsed_near n b.cycle.timer h.timer }) h)

taken_bounded : (b : Board) → Fitting b.registers → Bounded (trigger_taken b)
unfolding stored
taken_bounded b fit = begun_bounded (cond b.cycle.waiting (stored b.cycle.slot b.cycle.timer.ends b) b) (grind arith)

armed_bounded : (b : Board) → Fitting b.registers → Bounded (armed_by_trigger b)
unfolding stored
armed_bounded b fit = begun_bounded (with_cycle (stored b.registers.start false b) (fresh_cycle b.registers)) fit

triggered_bounded : (b : Board) → Bounded b → Bounded (triggered b)
unfolding triggered
triggered_bounded b h =
    let fit = h.registers in
    either_bounded (eqb (trigger_field b.registers.control) 1) _ b
    (either_bounded b.cycle.timer.running _ _
    (either_bounded (is_trigger_only b.registers && eqb b.cycle.timer.lag 0) _ b (taken_bounded b fit) h)
    (either_bounded (is_trigger_only b.registers) _ _
    (either_bounded (has_channels b.registers) _ b (armed_bounded b fit) h)
    (either_bounded (is_timed b.registers && has_channels b.registers && has_interval b.registers) _ b (started_bounded b fit) h)))
    h

-- ---- writes

-- a cycle that ends, or goes on
either_near : (t : Bool) (c : Cycle) → Near 16_711_545 64 c.timer → Near 16_711_545 64 (cond t idle_cycle c).timer
either_near t c near = grind arith

written_most : (width offset value old : ℕ) → written_word width offset value old ≤ 65535
unfolding written_word
written_most width offset value old = grind arith

fitting_with : (register : Register) (word : ℕ) (r : Registers) → word ≤ 65535 → Fitting r → Fitting (with_word register word r)
unfolding with_word
fitting_with register word r most fit = grind arith

write_bounded : (register : Register) (word : ℕ) (b : Board) → word ≤ 65535 → Bounded b → Bounded (after_write register word b)
unfolding after_write
write_bounded register word b most h =
    let next : Bounded (word_written register word b) =
    record {
      registers = fitting_with register word b.registers most h.registers;
      timer = either_near (is_stop register word) b.cycle h.timer;
    } in
    either_bounded (is_start register word) _ _ (started_bounded (word_written register word b) next.registers) next

read_bounded : (register : Register) (b : Board) → Bounded b → Bounded (after_read register b)
read_bounded register b h = grind arith

-- ---- calls

cleared_bounded : (b : Board) → Bounded (cleared_board b.range b.inputs)
cleared_bounded b = grind arith

call_bounded : (b : Board) (call : Call) → Bounded b → Bounded (after_call b call)
unfolding after_call
call_bounded b (read width offset) h = read_bounded (class_of offset) b h
call_bounded b (write width offset value) h = write_bounded (class_of offset) _ b (written_most width offset value _) h
call_bounded b (input channel microvolts) h = record { registers = h.registers; timer = h.timer }
call_bounded b (advance ticks) h = advanced_bounded ticks b h
call_bounded b trigger h = triggered_bounded b h
call_bounded b reset h = cleared_bounded b
call_bounded b (look slot) h = h
call_bounded b (clear slot) h = read_bounded (Mailbox slot) b h

calls_bounded : (calls : List Call) (b : Board) → Bounded b → Bounded (board_from b calls)
unfolding board_from board_call
calls_bounded [] b h = h
calls_bounded (call ∷ calls) b h = calls_bounded calls (board_call b call).board (either_bounded (eqb (first_no (questions_of b call)) 0) _ b (call_bounded b call h) h)

pub list_bounded : (range : ℕ) (calls : List Call) → Bounded (board_after range calls)
list_bounded range calls = calls_bounded calls (new_board range) (cleared_bounded (new_board range))
