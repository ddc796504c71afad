-- What each byte offset of the board belongs to, and the fields of Control (data sheet, "Register map").
use Rattle.std.specs.Prelude.{ℕ, ◌+◌, ◌-◌, ◌*◌, ◌/◌, ◌%◌, Bool, true, false, List, [], ◌∷◌, slice_index_or, if◌then◌else◌, ◌==◌, nat_lt}
use Rattle.pmc330_model.specs.declared.Register.{Register}
use Rattle.pmc330_model.specs.declared.Register.TheVariants.{Unmapped, Interrupt, Control, Prescaler, Timer, Channels, StartConvert, NewData, MissedData, Gain, Mailbox}

-- the words from 00H to 24H
abbrev pub low_words : List Register
low_words =
    Interrupt
    ∷ Control
    ∷ Prescaler
    ∷ Timer
    ∷ Channels
    ∷ NewData 0
    ∷ NewData 1
    ∷ MissedData 0
    ∷ MissedData 1
    ∷ StartConvert
    ∷ []

-- the register of word n, at offset 4 × n: Gain from 40H, Mailbox from 80H to FCH
unfoldable pub word_at : ℕ → Register
word_at n =
    if nat_lt n 0x10 then slice_index_or low_words n Unmapped
    else if nat_lt n 0x14 then Gain (n - 0x10)
    else if nat_lt n 0x20 then Unmapped
    else if nat_lt n 0x40 then Mailbox (n - 0x20)
    else Unmapped

-- a mapped word has two live bytes, its first two; the other two are unmapped
unfoldable pub class_of : (offset : ℕ) → Register
class_of offset = if nat_lt (offset % 4) 2 then word_at (offset / 4) else Unmapped

abbrev pub is_mapped : Register → Bool
is_mapped Unmapped = false
is_mapped _ = true

-- New Data, Missed Data and the mailboxes are read only. What is unmapped is refused by question 3, before this is asked
abbrev pub is_writable : Register → Bool
is_writable (NewData half) = false
is_writable (MissedData half) = false
is_writable (Mailbox slot) = false
is_writable _ = true

-- what goes for a mailbox, and what otherwise
abbrev pub if_mailbox : {A : Type 0} → Register → ((slot : ℕ) → A) → A → A
if_mailbox (Mailbox slot) this o = this slot
if_mailbox _ this o = o

-- Start Convert is write only
abbrev pub is_readable : Register → Bool
is_readable StartConvert = false
is_readable _ = true

-- Control, field by field: bit 0 the format (1 straight binary, 0 two's complement), bits 2-1 trigger, 5-3 acquisition, 10-8 scan,
-- bit 11 timer enable, bits 13-12 interrupt
abbrev pub is_straight : ℕ → Bool
is_straight word = word % 2 == 1

abbrev pub trigger_field : ℕ → ℕ
trigger_field word = word / 2 % 4

abbrev pub acquisition_field : ℕ → ℕ
acquisition_field word = word / 8 % 8

abbrev pub scan_field : ℕ → ℕ
scan_field word = word / 0x100 % 8

abbrev pub is_timer_enabled : ℕ → Bool
is_timer_enabled word = word / 0x800 % 2 == 1

abbrev pub interrupt_field : ℕ → ℕ
interrupt_field word = word / 0x1000 % 4

-- bits 6, 7, 14 and 15 are kept as 0
abbrev pub kept_control : ℕ → ℕ
kept_control word = word % 0x40 + word / 0x100 % 0x40 * 0x100
