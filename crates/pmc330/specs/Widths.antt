-- The three widths, as the code has them, an access that has one, and what can be seen of a board. Nothing that a caller
-- may cite stands here.
use Rattle.std.specs.Prelude.{ℕ, Bool, List, if◌then◌else◌, ◌==◌, nat_le, slice_index, ◌≡◌, Result, Ok, Err}
use Rattle.analog.specs.Answers.{asked}
use Rattle.analog.specs.declared.Refusal.{Refusal}
use Rattle.analog.specs.declared.Refusal.TheVariants.{BadWidth}
use Rattle.pmc330_model.specs.Map.{class_of}
use Rattle.pmc330_model.specs.Questions.{access_questions}
use Rattle.pmc330.specs.declared.widths.Width.{Width}
use Rattle.pmc330.specs.declared.widths.Width.TheVariants.{Byte, Half, Word}
use Rattle.pmc330_model.specs.Words.{View}
use Rattle.pmc330_model.specs.declared.Registers.{Registers}
use Rattle.pmc330.specs.declared.access.Access.{Access}

abbrev pub bits_of : Width → ℕ
bits_of Byte = 8
bits_of Half = 16
bits_of Word = 32

-- the width of so many bits, or question 1's refusal
abbrev pub width_of : (bits : ℕ) → Result Width Refusal
width_of bits =
    if bits == 8 then Ok Byte
    else (if bits == 16 then Ok Half
    else (if bits == 32 then Ok Word else Err BadWidth))

-- what an access holds, of which questions 1 to 3 are met
pub record IsAccess (bits at : ℕ) (a : Access) : Type 0 where
  pub width : bits_of a.width ≡ bits
  pub offset : a.offset ≡ at
  pub met : asked (access_questions bits at (class_of at)) ≡ Ok record {}

-- what can be seen through the registers of a board, by its fields
abbrev pub view_in : Registers → (pending : Bool) → (gains codes unread : List ℕ) → View
view_in r pending gains codes unread =
    record {
      registers = r;
      gains = gains;
      code = λ slot. slice_index codes slot;
      is_new = λ slot. nat_le 1 (slice_index unread slot);
      is_missed = λ slot. nat_le 2 (slice_index unread slot);
      pending = pending;
    }
