-- What the words of the map hold, and what a read or a write of any width covers of them (data sheet, "Register map", "Widths").
use Rattle.std.specs.Prelude.{ℕ, zero, suc, ◌+◌, ◌-◌, ◌*◌, ◌/◌, ◌%◌, ◌^◌, Bool, false, ◌&&◌, List, slice_index, set, if◌then◌else◌, ◌==◌, nat_le, nat_lt}
use Rattle.pmc330_model.specs.Map.{kept_control, scan_field}
use Rattle.pmc330_model.specs.declared.Register.{Register}
use Rattle.pmc330_model.specs.declared.Register.TheVariants.{Interrupt, Control, Prescaler, Timer, Channels, StartConvert, NewData, MissedData, Gain, Mailbox}
use Rattle.pmc330_model.specs.declared.Registers.{Registers}

-- count digits to a base, the first one lowest: a word of bits or of two-bit gains
unfoldable pub joined : (base : ℕ) (digit : ℕ → ℕ) (count : ℕ) → ℕ
joined base digit zero = 0
joined base digit (suc n) = joined base digit n + digit n * base ^ n

abbrev pub to_bit : Bool → ℕ
to_bit b = if b then 1 else 0

abbrev pub bit_of : (place word : ℕ) → Bool
bit_of place word = word / 2 ^ place % 2 == 1

-- what can be seen of a board through its registers, and by a look
pub record View : Type 0 where
  pub registers : Registers
  pub gains : List ℕ
  pub code : (slot : ℕ) → ℕ
  pub is_new : (slot : ℕ) → Bool
  pub is_missed : (slot : ℕ) → Bool
  pub pending : Bool

-- the word as the registers hold it, of which a narrow write keeps the other byte
unfoldable pub held_word : Registers → (gains : List ℕ) → Register → ℕ
-- bit 0 is enable
held_word r gains Interrupt = to_bit r.enable
held_word r gains Control = r.control
-- the low byte reads 0 and takes nothing, the high byte is the prescaler
held_word r gains Prescaler = r.prescaler * 0x100
held_word r gains Timer = r.timer
-- the low byte is Start Channel, the high byte End Channel
held_word r gains Channels = r.start + r.end * 0x100
-- eight channels a word, two bits each from bit 0, the first channel lowest
held_word r gains (Gain group) = joined 4 (λ i. slice_index gains (8 * group + i)) 8
-- Start Convert holds nothing: a byte write to 25H never sets bit 0; the other registers take no write
held_word r gains _ = 0

-- the word that is read
unfoldable pub read_word : View → Register → ℕ
-- bit 1 is pending, read only; bit 15 and the others read 0
read_word v Interrupt = held_word v.registers v.gains Interrupt + to_bit v.pending * 2
-- New Data of slots 0-15 and 16-31, Missed Data likewise
read_word v (NewData half) = joined 2 (λ i. to_bit (v.is_new (16 * half + i))) 16
read_word v (MissedData half) = joined 2 (λ i. to_bit (v.is_missed (16 * half + i))) 16
read_word v (Mailbox slot) = v.code slot
read_word v register = held_word v.registers v.gains register

-- a look's value: the code, plus 65536 if New, plus 131072 if Missed
abbrev pub look_value : View → (slot : ℕ) → ℕ
look_value v slot = v.code slot + (if v.is_new slot then 65_536 else 0) + (if v.is_missed slot then 131_072 else 0)

-- a read gives the live bytes that its width covers, from its first byte on; missing ones are 0
abbrev pub read_bytes : (width offset word : ℕ) → ℕ
read_bytes width offset word = word / 0x100 ^ (offset % 4) % 2 ^ width

-- byte i of a word after a write: the written one where the width covers it, else the old one.
-- A narrow write keeps the other byte, a 32-bit write uses the low 16 bits
abbrev pub written_byte : (width offset value old i : ℕ) → ℕ
written_byte width offset value old i =
    if nat_le (offset % 4) i && nat_lt i (offset % 4 + width / 8) then value / 0x100 ^ (i - offset % 4) % 0x100
    else old / 0x100 ^ i % 0x100

unfoldable pub written_word : (width offset value old : ℕ) → ℕ
written_word width offset value old =
    written_byte width offset value old 0 + written_byte width offset value old 1 * 0x100

-- the registers after a register takes a word
unfoldable pub with_word : Register → (word : ℕ) → Registers → Registers
with_word Interrupt word r = record r { enable = bit_of 0 word }
with_word Control word r = record r { control = kept_control word }
with_word Prescaler word r = record r { prescaler = word / 0x100 }
with_word Timer word r = record r { timer = word }
with_word Channels word r = record r { start = word % 0x100; end = word / 0x100 }
with_word _ word r = r

-- the gains after `count` channels, from `channel` on, took two bits each of the word
unfoldable pub gains_from : (channel word count : ℕ) → List ℕ → List ℕ
gains_from channel word zero gains = gains
gains_from channel word (suc n) gains = set (gains_from channel word n gains) (channel + n) (word / 4 ^ n % 4)

abbrev pub gains_with : Register → (word : ℕ) → List ℕ → List ℕ
gains_with (Gain group) word gains = gains_from (8 * group) word 8 gains
gains_with _ word gains = gains

-- what an accepted write of a word does besides. Interrupt with bit 15 set releases
abbrev pub is_release : Register → (word : ℕ) → Bool
is_release Interrupt word = bit_of 15 word
is_release _ word = false

-- Control with scan 000 ends the cycle
abbrev pub is_stop : Register → (word : ℕ) → Bool
is_stop Control word = scan_field word == 0
is_stop _ word = false

-- Start Convert with bit 0 set starts one
abbrev pub is_start : Register → (word : ℕ) → Bool
is_start StartConvert word = bit_of 0 word
is_start _ word = false
