-- Bench cases, worked by hand from the rules beside them, as one table with one claim.
use Rattle.std.specs.Prelude.{ℕ, Bool, true, false, List, [], ◌∷◌, ◌++◌, ◌≡◌, ℤ, pos, neg_ℤ, Ok, Err}
use Rattle.analog.specs.Code.{code_of, in_format}
use Rattle.analog.specs.Correction.{corrected_answer}
use Rattle.pmc330_model.specs.Schedule.{interval}
use Rattle.pmc330_model.specs.Calls.{Call, read, write, input, advance, trigger, reset, look, clear}
use Rattle.pmc330_model.specs.Board.{board_after, answers_of, new_board, new_call, questions_of, request_line}
use Rattle.analog.specs.Answers.{Answer, first_no}
use Rattle.analog.specs.Bench.{AllHold}
use Rattle.analog.specs.declared.Refusal.{Refusal}
use Rattle.analog.specs.declared.Refusal.TheVariants.{BadWidth, BadOffset, Unmapped, BadValue, BadDirection, Busy, BadCode, NoScan, BadChannels, BadInterval, BadChannel, BadVoltage, BadRange, BadSlot}

infix 68 ◌gives◌ ◌is_refused_by◌
-- a call and the answer that it is to have
pub record Step : Type 0 where
  pub call : Call
  pub answer : Answer

abbrev pub ◌gives◌ : Call → (value : ℕ) → Step
call gives value = record { call = call; answer = Ok value }

abbrev pub ◌is_refused_by◌ : Call → Refusal → Step
call is_refused_by refusal = record { call = call; answer = Err refusal }

abbrev pub calls_of : List Step → List Call
calls_of [] = []
calls_of (step ∷ steps) = step.call ∷ calls_of steps

abbrev pub expected_of : List Step → List Answer
expected_of [] = []
expected_of (step ∷ steps) = step.answer ∷ expected_of steps

pub data Case : Type 0 where
  -- the answers of calls on a new board of range 1
  answers : List Step → Case
  -- I after them
  interval_is : (expected : ℕ) → List Step → Case
  -- the request line after them
  line_is : (expected : Bool) → List Step → Case
  -- the number of the first question of a call that is answered with no on a new board of range 1; 0 if none is
  first_no_is : (expected : ℕ) → Call → Case
  -- the answer of a new board of a range
  new_answers : (range : ℕ) → Answer → Case
  -- the code of a voltage in a format
  code_is : (range gain : ℕ) (v : ℤ) (straight : Bool) (expected : ℕ) → Case
  -- the corrected count of a raw code
  corrected_to : (range gain high low high_sum low_sum raw expected : ℕ) → Case

abbrev pub Holds : Case → Type 0
Holds (answers steps) = answers_of 1 (calls_of steps) ≡ expected_of steps
Holds (interval_is expected steps) = interval (board_after 1 (calls_of steps)).registers ≡ expected
Holds (line_is expected steps) = request_line (board_after 1 (calls_of steps)) ≡ expected
Holds (first_no_is expected call) = first_no (questions_of (new_board 1) call) ≡ expected
Holds (new_answers range expected) = (new_call range).answer ≡ expected
Holds (code_is range gain v straight expected) = in_format straight (code_of range gain v) ≡ expected
Holds (corrected_to range gain high low high_sum low_sum raw expected) =
    corrected_answer range gain high low high_sum low_sum raw ≡ Ok expected

-- the calls: Control and channels; prescaler and timer; Start Convert; New and Missed Data of slots 0-15 and 16-31
abbrev pub registers : (control channels : ℕ) → List Step
registers control channels = write 16 0x04 control gives 0 ∷ write 16 0x10 channels gives 0 ∷ []

abbrev pub times : (prescaler timer : ℕ) → List Step
times prescaler timer = write 8 0x09 prescaler gives 0 ∷ write 16 0x0c timer gives 0 ∷ []

abbrev pub start : Call
start = write 16 0x24 1

abbrev pub new_low : Call
new_low = read 16 0x14

abbrev pub new_high : Call
new_high = read 16 0x18

abbrev pub missed_low : Call
missed_low = read 16 0x1c

abbrev pub missed_high : Call
missed_high = read 16 0x20

-- a write that changes nothing here: accepted by an idle board, and refused by a running one with 6
abbrev pub if_idle : Call
if_idle = write 16 0x40 0

-- Burst single of channel 0 on new inputs, straight: the code of 0 V after 64 ticks, and New until its mailbox is read
abbrev pub seven_calls : List Step
seven_calls =
    write 16 0x10 0x0000 gives 0
    ∷ write 16 0x04 0x0401 gives 0
    ∷ start gives 0
    ∷ advance 64 gives 1
    ∷ new_low gives 0x0001
    ∷ read 16 0x80 gives 0x8000
    ∷ new_low gives 0x0000
    ∷ []

-- Control 0A09H, channels 3 to 13, prescaler 80, timer 8, start at 0: I = 640; channel 3 is stored at 704, 13 at 7104. New Data's low
-- word is 1FF8H at 7103; at 7104 it is 3FF8H and the board is idle
abbrev pub uniform_single : List Step
uniform_single =
    registers 0x0a09 0x0d03
    ++ times 80 8
    ++ start gives 0
    ∷ advance 703 gives 0
    ∷ new_low gives 0x0000
    -- at 704
    ∷ advance 1 gives 1
    ∷ new_low gives 0x0008
    -- at 7103
    ∷ advance 6399 gives 9
    ∷ new_low gives 0x1ff8
    ∷ if_idle is_refused_by Busy
    -- at 7104
    ∷ advance 1 gives 1
    ∷ new_low gives 0x3ff8
    ∷ if_idle gives 0
    ∷ []

-- Control 0401H, channels 0 to 3: stores at 64, 184, 304 and 424
abbrev pub burst_single : List Step
burst_single =
    registers 0x0401 0x0300
    ++ start gives 0
    ∷ advance 63 gives 0
    ∷ advance 1 gives 1
    -- at 183 and 184
    ∷ advance 119 gives 0
    ∷ advance 1 gives 1
    -- at 303 and 304
    ∷ advance 119 gives 0
    ∷ advance 1 gives 1
    -- at 423 and 424
    ∷ advance 119 gives 0
    ∷ advance 1 gives 1
    ∷ advance 1000 gives 0
    ∷ []

-- Control 0301H, channel 0: slot 0 at 64, slot 16 at 184, slot 0 at 304 with its Missed bit
abbrev pub burst_continuous : List Step
burst_continuous =
    registers 0x0301 0x0000
    ++ start gives 0
    ∷ advance 63 gives 0
    ∷ new_low gives 0x0000
    -- at 64
    ∷ advance 1 gives 1
    ∷ new_low gives 0x0001
    ∷ advance 119 gives 0
    ∷ new_high gives 0x0000
    -- at 184
    ∷ advance 1 gives 1
    ∷ new_high gives 0x0001
    ∷ advance 119 gives 0
    ∷ missed_low gives 0x0000
    -- at 304
    ∷ advance 1 gives 1
    ∷ missed_low gives 0x0001
    ∷ missed_high gives 0x0000
    ∷ []

-- uniform: prescaler × timer of 64 × 1 starts, 63 × 1 is refused by 10
abbrev pub slow_enough : (control : ℕ) → List Step
slow_enough control = registers control 0x0000 ++ times 64 1 ++ start gives 0 ∷ if_idle is_refused_by Busy ∷ []

abbrev pub too_fast : (control : ℕ) → List Step
too_fast control = registers control 0x0000 ++ times 63 1 ++ start is_refused_by BadInterval ∷ if_idle gives 0 ∷ []

-- differential: End 15 starts, 16 is refused by 9
abbrev pub last_pair : List Step
last_pair = registers 0x0401 0x0f00 ++ start gives 0 ∷ if_idle is_refused_by Busy ∷ []

abbrev pub no_pair : List Step
no_pair = registers 0x0401 0x1000 ++ start is_refused_by BadChannels ∷ if_idle gives 0 ∷ []

-- ---- words of the register map

-- A read gives the live bytes that its width covers, from its first byte on, and 0 for the missing ones. A narrow write keeps the
-- other byte, a 32-bit write uses the low 16 bits
abbrev pub all_widths : List Step
all_widths =
    write 16 0x0c 0x1234 gives 0
    ∷ read 8 0x0c gives 0x34
    ∷ read 8 0x0d gives 0x12
    ∷ read 32 0x0c gives 0x1234
    ∷ write 8 0x0c 0x56 gives 0
    ∷ read 16 0x0c gives 0x1256
    ∷ write 8 0x0d 0x78 gives 0
    ∷ read 16 0x0c gives 0x7856
    ∷ write 32 0x0c 0x9abc_def0 gives 0
    ∷ read 32 0x0c gives 0xdef0
    ∷ []

-- 08H: the low byte takes nothing and reads 0, the high byte is the prescaler. 10H: Start Channel low, End Channel high
abbrev pub two_bytes : List Step
two_bytes =
    write 16 0x08 0x5011 gives 0
    ∷ write 8 0x08 0x22 gives 0
    ∷ read 16 0x08 gives 0x5000
    ∷ read 8 0x09 gives 0x50
    ∷ write 8 0x11 0x1f gives 0
    ∷ write 8 0x10 0x03 gives 0
    ∷ read 16 0x10 gives 0x1f03
    ∷ []

-- Gain: two bits a channel, the first channel lowest. 48H begins with channel 16: 16 to 19 get gains 1, 2, 4 and 8. With 625,000
-- uV at each they are 1/32, 1/16, 1/8 and 1/4 of the width of 20 V above the middle code, 8000H
abbrev pub four_gains : List Step
four_gains =
    write 16 0x48 0x00e4 gives 0
    ∷ read 16 0x48 gives 0x00e4
    ∷ input 16 (pos 625_000) gives 0
    ∷ input 17 (pos 625_000) gives 0
    ∷ input 18 (pos 625_000) gives 0
    ∷ input 19 (pos 625_000) gives 0
    ∷ registers 0x0409 0x1310
    ++ start gives 0
    ∷ advance 424 gives 4
    ∷ new_low gives 0x0000
    ∷ new_high gives 0x000f
    ∷ read 16 0xc0 gives 0x8800
    ∷ read 16 0xc4 gives 0x9000
    ∷ read 16 0xc8 gives 0xa000
    ∷ read 16 0xcc gives 0xc000
    ∷ []

-- 00H: enable is bit 0, pending bit 1, and bit 15 reads 0. Interrupt code 01: each store makes pending 1. Writing 1 to bit 15
-- releases, also while a cycle runs
abbrev pub each_store : List Step
each_store =
    write 16 0x00 0x0001 gives 0
    ∷ registers 0x1409 0x0100
    ++ start gives 0
    ∷ advance 63 gives 0
    ∷ read 16 0x00 gives 0x0001
    ∷ advance 1 gives 1
    ∷ read 16 0x00 gives 0x0003
    ∷ write 16 0x00 0x8001 gives 0
    ∷ read 16 0x00 gives 0x0001
    ∷ advance 120 gives 1
    ∷ read 16 0x00 gives 0x0003
    ∷ []

-- Interrupt code 10: the last store of a pass alone; enabled or not
abbrev pub last_of_pass : List Step
last_of_pass =
    registers 0x2409 0x0100
    ++ start gives 0
    ∷ advance 64 gives 1
    ∷ read 16 0x00 gives 0x0000
    ∷ advance 120 gives 1
    ∷ read 16 0x00 gives 0x0002
    ∷ []

-- Interrupt code 00: no store
abbrev pub no_store : List Step
no_store = registers 0x0409 0x0000 ++ start gives 0 ∷ advance 64 gives 1 ∷ read 16 0x00 gives 0x0000 ∷ []

-- ---- Control, field by field

-- bits 6, 7, 14 and 15 are kept as 0
abbrev pub all_fields : List Step
all_fields = write 16 0x04 0xedfd gives 0 ∷ read 16 0x04 gives 0x2d3d ∷ write 8 0x05 0xc0 gives 0 ∷ read 16 0x04 gives 0x003d ∷ []

-- not used: trigger 11, acquisition 010, scan 110 and 111, interrupt 11
abbrev pub not_used : List Step
not_used =
    write 16 0x04 0x0006 is_refused_by BadCode
    ∷ write 16 0x04 0x0010 is_refused_by BadCode
    ∷ write 16 0x04 0x0600 is_refused_by BadCode
    ∷ write 16 0x04 0x0700 is_refused_by BadCode
    ∷ write 16 0x04 0x3000 is_refused_by BadCode
    ∷ read 16 0x04 gives 0x0000
    ∷ []

-- one conversion of channel 0, and its code
abbrev pub converts : (control code : ℕ) → List Step
converts control code = registers control 0x0000 ++ start gives 0 ∷ advance 64 gives 1 ∷ read 16 0x80 gives code ∷ []

-- Acquisition, with 5 V at the input: 000 differential and 001 single ended have the input, 011 to 110 are calibrations at 4.9,
-- 2.45, 1.225 and 0.6125 V, 111 at 0 V. These are 0.75, 0.745, 0.6225, 0.56125, 0.530625 and 0.5 of the 20 V from -10 V on.
-- Two's complement flips bit 15
abbrev pub acquisitions : List Step
acquisitions =
    input 0 (pos 5_000_000) gives 0
    ∷ converts 0x0401 0xc000
    ++ converts 0x0409 0xc000
    ++ converts 0x0419 48_824
    ++ converts 0x0421 40_796
    ++ converts 0x0429 36_782
    ++ converts 0x0431 34_775
    ++ converts 0x0439 0x8000
    ++ converts 0x0408 0x4000

-- A calibration has the channel's gain: 0.6125 V × 8 is 4.9 V. It is not differential: every pass stores in the channel's own slot
abbrev pub calibration_scan : List Step
calibration_scan =
    write 16 0x40 0x0003 gives 0
    ∷ registers 0x0331 0x0000
    ++ start gives 0
    ∷ advance 184 gives 2
    ∷ new_high gives 0x0000
    ∷ missed_low gives 0x0001
    ∷ read 16 0x80 gives 48_824
    ∷ []

-- Scan of channel 0 with the timer enabled and I = 64: the stores up to tick 64 and in the 192 ticks after it
abbrev pub scans : (control until_64 until_256 : ℕ) → List Step
scans control until_64 until_256 =
    registers control 0x0000
    ++ times 64 1
    ++ start gives 0
    ∷ advance 64 gives until_64
    ∷ advance 192 gives until_256
    ∷ []

-- a scan of 000 starts nothing
abbrev pub scan_off : List Step
scan_off = registers 0x0809 0x0000 ++ start is_refused_by NoScan ∷ if_idle gives 0 ∷ []

-- a trigger acts only with trigger field 01
abbrev pub triggers : (control stores : ℕ) → List Step
triggers control stores = registers control 0x0000 ++ trigger gives 0 ∷ advance 64 gives stores ∷ []

-- ---- the schedule

-- Burst continuous with the timer enabled waits D = I = 100 after each pass: channels 0 and 1 are stored at 64 and 184, then at
-- 404 and 524, then 744
abbrev pub burst_delayed : List Step
burst_delayed =
    registers 0x0b09 0x0100
    ++ times 20 5
    ++ start gives 0
    ∷ advance 184 gives 2
    ∷ advance 219 gives 0
    ∷ advance 1 gives 1
    ∷ advance 119 gives 0
    ∷ advance 1 gives 1
    ∷ advance 219 gives 0
    ∷ advance 1 gives 1
    ∷ []

-- in burst single, and in burst continuous with the timer disabled, I is not asked about and delays nothing
abbrev pub interval_unused : (control stores : ℕ) → List Step
interval_unused control stores = registers control 0x0100 ++ times 63 1 ++ start gives 0 ∷ advance 424 gives stores ∷ []

-- in the uniform modes the timer is to be enabled
abbrev pub timer_disabled : (control : ℕ) → List Step
timer_disabled control = registers control 0x0000 ++ times 64 1 ++ start is_refused_by BadInterval ∷ if_idle gives 0 ∷ []

-- External trigger only: Start Convert arms, a trigger 63 ticks after the last one taken is ignored, and one after 64 is taken: it
-- stores the code that the last one took
abbrev pub external_triggers : List Step
external_triggers =
    input 0 (pos 5_000_000) gives 0
    ∷ registers 0x050b 0x0100
    ++ start gives 0
    ∷ trigger gives 0
    ∷ advance 63 gives 0
    ∷ trigger gives 0
    ∷ look 0 gives 0
    ∷ advance 1 gives 0
    ∷ trigger gives 0
    ∷ look 0 gives 0x1c000
    ∷ advance 64 gives 0
    ∷ trigger gives 0
    ∷ look 1 gives 0x18000
    ∷ []

-- unarmed, the first trigger arms and stores the code last taken, here 0
abbrev pub unarmed_trigger : List Step
unarmed_trigger =
    input 0 (pos 5_000_000) gives 0
    ∷ registers 0x050b 0x0000
    ++ trigger gives 0
    ∷ look 0 gives 0x10000
    ∷ advance 64 gives 0
    ∷ trigger gives 0
    ∷ look 0 gives 0x3c000
    ∷ []

-- A code is taken when its conversion begins: a change of the input after that, a read and a release move nothing
abbrev pub code_in_flight : List Step
code_in_flight =
    input 0 (pos 5_000_000) gives 0
    ∷ registers 0x0401 0x0000
    ++ start gives 0
    ∷ input 0 (pos 0) gives 0
    ∷ read 16 0x04 gives 0x0401
    ∷ write 16 0x00 0x8000 gives 0
    ∷ advance 64 gives 1
    ∷ read 16 0x80 gives 0xc000
    ∷ []

-- a reset forgets the code last taken: the unarmed trigger after it stores 0
abbrev pub code_forgotten : List Step
code_forgotten =
    input 0 (pos 5_000_000) gives 0
    ∷ converts 0x0401 0xc000
    ++ reset gives 0
    ∷ registers 0x050b 0x0000
    ++ trigger gives 0
    ∷ look 0 gives 0x10000
    ∷ []

-- a reset restores a new board, but keeps range and inputs: 5 V × 8 is above the range, and 5 V is C000H
abbrev pub resets : List Step
resets =
    input 0 (pos 5_000_000) gives 0
    ∷ write 16 0x40 0x0003 gives 0
    ∷ converts 0x1401 0xffff
    ++ reset gives 0
    ∷ read 16 0x00 gives 0x0000
    ∷ read 16 0x04 gives 0x0000
    ∷ read 16 0x40 gives 0x0000
    ∷ read 16 0x80 gives 0x0000
    ∷ converts 0x0401 0xc000

-- ---- mailboxes

-- two more stores in each of slots 0 and 1, where a burst of the two runs; then a call that clears New and Missed of slot 0 alone
abbrev pub clears : Call → (value : ℕ) → List Step
clears call value =
    advance 480 gives 4
    ∷ new_low gives 0x0003
    ∷ missed_low gives 0x0003
    ∷ call gives value
    ∷ new_low gives 0x0002
    ∷ missed_low gives 0x0002
    ∷ clear 1 gives 0
    ∷ []

-- a mailbox read of any width does; 48,824, the code of 4.9 V, is BEB8H
abbrev pub mailbox_reads : List Step
mailbox_reads =
    registers 0x0319 0x0100
    ++ start gives 0
    ∷ advance 64 gives 1
    ∷ clear 0 gives 0
    ∷ clears (read 8 0x80) 0xb8
    ++ clears (read 8 0x81) 0xbe
    ++ clears (read 16 0x80) 0xbeb8
    ++ clears (read 32 0x80) 0xbeb8
    ++ clears (clear 0) 0

-- A look gives the code, plus 65536 if New, plus 131072 if Missed, and changes nothing; a clear drops both bits and keeps the code
abbrev pub looks : List Step
looks =
    registers 0x0319 0x0000
    ++ start gives 0
    ∷ look 0 gives 0
    ∷ advance 64 gives 1
    ∷ look 0 gives 0x1beb8
    ∷ advance 120 gives 1
    ∷ look 0 gives 0x3beb8
    ∷ look 0 gives 0x3beb8
    ∷ clear 0 gives 0
    ∷ look 0 gives 0xbeb8
    ∷ look 31 gives 0
    ∷ look 32 is_refused_by BadSlot
    ∷ clear 31 gives 0
    ∷ clear 32 is_refused_by BadSlot
    ∷ []

-- ---- what is refused

-- the questions of an access, in order: its width, its offset, whether that is mapped, the value, the direction
abbrev pub accesses : List Step
accesses =
    read 24 0x101 is_refused_by BadWidth
    ∷ read 16 0x100 is_refused_by BadOffset
    ∷ read 16 0x15 is_refused_by BadOffset
    ∷ write 32 0x02 0 is_refused_by BadOffset
    ∷ write 8 0x02 0x100 is_refused_by Unmapped
    ∷ read 16 0x28 is_refused_by Unmapped
    ∷ read 16 0x3c is_refused_by Unmapped
    ∷ read 16 0x50 is_refused_by Unmapped
    ∷ read 16 0x7c is_refused_by Unmapped
    ∷ write 8 0x14 0x100 is_refused_by BadValue
    ∷ write 16 0x0c 0x1_0000 is_refused_by BadValue
    ∷ write 32 0x0c 0x1_0000_0000 is_refused_by BadValue
    ∷ write 16 0x14 0 is_refused_by BadDirection
    ∷ write 16 0x20 0 is_refused_by BadDirection
    ∷ write 16 0xfc 0 is_refused_by BadDirection
    ∷ read 16 0x24 is_refused_by BadDirection
    ∷ write 16 0x10 0x0020 is_refused_by BadCode
    ∷ write 16 0x10 0x2000 is_refused_by BadCode
    ∷ read 16 0x10 gives 0x0000
    ∷ []

-- While a cycle runs a write is refused, but for one of Interrupt, of Control with scan 000, which ends the cycle, and of Start
-- Convert without bit 0. The direction is asked about before, the channels after
abbrev pub busy : List Step
busy =
    registers 0x0309 0x0000
    ++ start gives 0
    ∷ write 16 0x0c 1 is_refused_by Busy
    ∷ write 16 0x04 0x0309 is_refused_by Busy
    ∷ write 16 0x10 0x2020 is_refused_by Busy
    ∷ write 16 0x14 0 is_refused_by BadDirection
    ∷ start is_refused_by Busy
    ∷ write 16 0x24 0x0002 gives 0
    ∷ write 16 0x00 0x0001 gives 0
    ∷ read 16 0x00 gives 0x0001
    ∷ write 16 0x04 0x0009 gives 0
    ∷ advance 64 gives 0
    ∷ write 16 0x0c 1 gives 0
    ∷ []

-- Start is to be at most End
abbrev pub start_above_end : List Step
start_above_end = registers 0x0409 0x0304 ++ start is_refused_by BadChannels ∷ if_idle gives 0 ∷ []

-- an input's channel is at most 31, its voltage from -35 V to 55 V
abbrev pub inputs : List Step
inputs =
    input 31 (pos 55_000_000) gives 0
    ∷ input 31 (pos 55_000_001) is_refused_by BadVoltage
    ∷ input 31 (neg_ℤ (pos 35_000_000)) gives 0
    ∷ input 31 (neg_ℤ (pos 35_000_001)) is_refused_by BadVoltage
    ∷ input 32 (pos 55_000_001) is_refused_by BadChannel
    ∷ []

-- the table: the uniform modes are continuous, 0901H, and single, 0A01H
abbrev pub cases : List Case
cases =
    answers seven_calls
    ∷ interval_is 640 (registers 0x0a09 0x0d03 ++ times 80 8)
    ∷ answers uniform_single
    ∷ answers burst_single
    ∷ answers burst_continuous
    ∷ answers (slow_enough 0x0901)
    ∷ answers (slow_enough 0x0a01)
    ∷ answers (too_fast 0x0901)
    ∷ answers (too_fast 0x0a01)
    ∷ answers last_pair
    ∷ answers no_pair
    -- range 1, gain 1: 0 uV is 8000H; -1 uV is 7FFFH, in two's complement FFFFH; 10,000,000 uV is FFFFH
    ∷ code_is 1 0 (pos 0) true 0x8000
    ∷ code_is 1 0 (neg_ℤ (pos 1)) true 0x7fff
    ∷ code_is 1 0 (neg_ℤ (pos 1)) false 0xffff
    ∷ code_is 1 0 (pos 10_000_000) true 0xffff
    -- range 3, gain 8: 612,500 uV is 32112, 1,225,000 uV is 64225
    ∷ code_is 3 3 (pos 612_500) true 32112
    ∷ code_is 3 3 (pos 1_225_000) true 64225
    -- those two as sums, 1,027,584 and 2,055,200: raw 32112 becomes 32113, 64225 stays, 0 becomes 1
    ∷ corrected_to 3 3 0b101 0b110 2_055_200 1_027_584 32112 32113
    ∷ corrected_to 3 3 0b101 0b110 2_055_200 1_027_584 64225 64225
    ∷ corrected_to 3 3 0b101 0b110 2_055_200 1_027_584 0 1
    -- the words of the register map
    ∷ answers all_widths
    ∷ answers two_bytes
    ∷ answers four_gains
    ∷ answers each_store
    ∷ answers last_of_pass
    ∷ answers no_store
    -- the request line is enable and pending
    ∷ line_is true each_store
    ∷ line_is false last_of_pass
    ∷ line_is false (write 16 0x00 0x0001 gives 0 ∷ [])
    -- Control, field by field: scans 001 uniform continuous, stored at 128, 192 and 256; 010 uniform single, at 128; 011 burst
    -- continuous with D = I, at 64 and 248; 100 burst single, at 64; 101 external trigger only; triggers 00, 01 and 10
    ∷ answers all_fields
    ∷ answers not_used
    ∷ answers acquisitions
    ∷ answers calibration_scan
    ∷ answers scan_off
    ∷ answers (scans 0x0909 0 3)
    ∷ answers (scans 0x0a09 0 1)
    ∷ answers (scans 0x0b09 1 1)
    ∷ answers (scans 0x0c09 1 0)
    ∷ answers (scans 0x0d09 0 0)
    ∷ answers (triggers 0x0409 0)
    ∷ answers (triggers 0x040b 1)
    ∷ answers (triggers 0x040d 0)
    -- the schedule: bursts single, 0C09H, and continuous, 0B09H with the timer enabled and 0309H with it disabled
    ∷ answers burst_delayed
    ∷ answers (too_fast 0x0b09)
    ∷ answers (interval_unused 0x0c09 2)
    ∷ answers (interval_unused 0x0309 4)
    ∷ answers (timer_disabled 0x0109)
    ∷ answers (timer_disabled 0x0209)
    ∷ answers external_triggers
    ∷ answers unarmed_trigger
    ∷ answers code_in_flight
    ∷ answers code_forgotten
    ∷ answers resets
    -- mailboxes
    ∷ answers mailbox_reads
    ∷ answers looks
    -- what is refused; an advance is at most 16,777,216 ticks, a new board's range at most 3
    ∷ answers accesses
    ∷ answers busy
    ∷ answers start_above_end
    ∷ answers inputs
    ∷ first_no_is 0 (advance 16_777_216)
    ∷ first_no_is 13 (advance 16_777_217)
    ∷ new_answers 3 (Ok 0)
    ∷ new_answers 4 (Err BadRange)
    ∷ []

-- the claim that `bench_cases` proves
abbrev pub BenchCases : Type 0
BenchCases = AllHold Holds cases
