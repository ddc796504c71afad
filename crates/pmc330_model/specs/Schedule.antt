-- The formulas of the schedule (data sheet, "The schedule"), to which both the board and the logbook are held.
use Rattle.std.specs.Prelude.{ℕ, ◌+◌, ◌-◌, ◌*◌, ◌/◌, ◌%◌, Bool, not, ◌&&◌, ◌||◌, List, ℤ, pos, slice_index, slice_index_or, if◌then◌else◌, ◌==◌, nat_lt}
use Rattle.analog.specs.Code.{calibration_of, code_of, in_format}
use Rattle.pmc330_model.specs.Map.{is_straight, acquisition_field, scan_field, is_timer_enabled, interrupt_field}
use Rattle.pmc330_model.specs.declared.Registers.{Registers}

-- m = End - Start + 1, the conversions of a pass; the difference is at least 0
abbrev pub pass_length : Registers → ℕ
pass_length r = r.end - r.start + 1

-- I, in ticks
abbrev pub interval : Registers → ℕ
interval r = r.prescaler * r.timer

abbrev pub is_differential : Registers → Bool
is_differential r = acquisition_field r.control == 0

-- scan 001 uniform continuous, 010 uniform single, 011 burst continuous, 100 burst single, 101 external trigger only
abbrev pub is_uniform : Registers → Bool
is_uniform r = scan_field r.control == 1 || scan_field r.control == 2

abbrev pub is_burst : Registers → Bool
is_burst r = scan_field r.control == 3 || scan_field r.control == 4

abbrev pub is_single : Registers → Bool
is_single r = scan_field r.control == 2 || scan_field r.control == 4

abbrev pub is_continuous : Registers → Bool
is_continuous r = scan_field r.control == 1 || scan_field r.control == 3

-- the modes with a schedule in time
abbrev pub is_timed : Registers → Bool
is_timed r = is_uniform r || is_burst r

abbrev pub is_trigger_only : Registers → Bool
is_trigger_only r = scan_field r.control == 5

-- conversion k, from 0, is in pass k / m, on channel Start + k % m
abbrev pub channel_of : Registers → (k : ℕ) → ℕ
channel_of r k = r.start + k % pass_length r

abbrev pub in_odd_pass : Registers → (k : ℕ) → Bool
in_odd_pass r k = k / pass_length r % 2 == 1

-- its slot is the channel, plus 16 if differential and the pass is odd
abbrev pub slot_of : Registers → (k : ℕ) → ℕ
slot_of r k = channel_of r k + (if is_differential r && in_odd_pass r k then 16 else 0)

-- the last conversion of its pass
abbrev pub ends_pass : Registers → (k : ℕ) → Bool
ends_pass r k = k % pass_length r + 1 == pass_length r

-- the voltage at a channel: its input, or the calibration voltage
abbrev pub voltage_at : Registers → (inputs : List ℤ) → (channel : ℕ) → ℤ
voltage_at r inputs channel =
    if nat_lt (acquisition_field r.control) 2 then slice_index_or inputs channel (pos 0)
    else pos (calibration_of (acquisition_field r.control))

-- the straight code that a conversion on a channel takes
abbrev pub code_at : (range : ℕ) → Registers → (gains : List ℕ) → (inputs : List ℤ) → (channel : ℕ) → ℕ
code_at range r gains inputs channel = code_of range (slice_index gains channel) (voltage_at r inputs channel)

-- a code in the format that is then in force
abbrev pub formatted_by : Registers → (code : ℕ) → ℕ
formatted_by r code = in_format (is_straight r.control) code

-- whether a store interrupts: by Control bits 13-12, 01 each store, 10 the last of a pass
abbrev pub is_interrupting : Registers → (ends : Bool) → Bool
is_interrupting r ends = interrupt_field r.control == 1 || interrupt_field r.control == 2 && ends

-- D: I in burst continuous with the timer enabled, else 0
abbrev pub burst_delay : Registers → ℕ
burst_delay r = if scan_field r.control == 3 && is_timer_enabled r.control then interval r else 0

-- when conversion k begins, counted from the tick T at which the cycle starts
unfoldable pub begins_at : Registers → (k : ℕ) → ℕ
begins_at r k =
    let m : ℕ = pass_length r in
    if is_uniform r then (k + 1) * interval r else k / m * (120 * m + burst_delay r) + 120 * (k % m)

-- the ticks of a pass, in uniform and in burst mode
abbrev pub pass_ticks : Registers → ℕ
pass_ticks r = if is_uniform r then pass_length r * interval r else 120 * pass_length r + burst_delay r

-- the conversions of the schedule: single modes have one pass
abbrev pub is_scheduled : Registers → (k : ℕ) → Bool
is_scheduled r k = is_timed r && (not (is_single r) || nat_lt k (pass_length r))
