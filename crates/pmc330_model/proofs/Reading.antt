-- What is read: a joined word's digits, the words of the board and of its logbook, and sentence 3 of the two.
use mathlib.Core.Bool.{Bool, true, cond, ◌&&◌}
use mathlib.Core.List.{List}
use mathlib.Core.Path.{◌≡◌, refl, ap, ◌∙◌}
use Prim.Native.Nat.{ℕ, zero, suc, ◌+◌, ◌-◌, ◌*◌, ◌/◌, ◌%◌, ◌^◌, ◌≤◌, ◌<◌, min}
use native.Mathlib.Nat.{zero-add, suc-add, add_comm, mul_comm, mul_assoc, pow-zero, pow-suc, pow-succ', one-le-pow, mod-eq_of_lt, add-mul-div_right, add-mul-mod_self_right}
use native.Mathlib.Omega.{arith}
use lib.Arith.{digits_lt, digits_div}
use lib.Pow.{pow-add}
use lib.Dec.{eqb, ltb, leb}
use lib.ListN.{get_or}
use borrow.Author.Tests.{eq-eqb, lt-ltb}
use Rattle.analog.specs.Answers.{first_no, value_of, is_accepted, Answer}
use Rattle.analog.proofs.AnswerLaws.{none_asked, answered_ok}
use Rattle.pmc330_model.specs.Map.{word_at, class_of, is_mapped, is_readable}
use Rattle.pmc330_model.specs.declared.Register.{Register}
use Rattle.pmc330_model.specs.declared.Register.TheVariants.{Interrupt, NewData, MissedData, Gain, Mailbox}
use Rattle.pmc330_model.specs.Words.{joined, to_bit, bit_of, held_word, read_word, look_value}
use Rattle.pmc330_model.specs.Questions.{read_questions, call_questions}
use Rattle.pmc330_model.specs.Board.{view_of, value_of_call, board_call, read_call}
use Rattle.pmc330_model.specs.Logbook.{Event, CycleSince, last_store, stores_since, interrupted, logbook_view}
use Rattle.pmc330_model.specs.Sentences.{ReadsBit, Sentence3}
use Rattle.pmc330_model.specs.declared.Board.{Board}
use Rattle.pmc330_model.proofs.Agreement.{book_of, Agrees}
use Rattle.std.specs.Prelude.{Ok}

-- ---- a word of digits to a base

-- a multiple of a higher power does not change a digit
digit_kept : (base x y i d : ℕ) → zero < base → (x + y * base ^ (d + suc i)) / base ^ i % base ≡ x / base ^ i % base
digit_kept base x y i d some =
    rw (regrouped, add-mul-div_right x (y * base ^ d * base) (one-le-pow i base some))
    (add-mul-mod_self_right (x / base ^ i) (y * base ^ d) base)
  where
    regrouped : y * base ^ (d + suc i) ≡ y * base ^ d * base * base ^ i
    regrouped = simp (pow-add base d (suc i), pow-succ' base i, mul_assoc)

module _ (base : ℕ) (digit : ℕ → ℕ) (small : (j : ℕ) → digit j < base) where
  -- a word of n digits is below the n-th power
  pub joined_below : (n : ℕ) → joined base digit n < base ^ n
  unfolding joined
  joined_below zero = rw (pow-zero base) (omega arith)
  joined_below (suc n) =
      rw (pow-suc base n, mul_comm (base ^ n) base, add_comm (joined base digit n) (digit n * base ^ n))
      (digits_lt (small n) (joined_below n))

  -- the last digit stands above all others
  last_digit_lem : (n : ℕ) → joined base digit (suc n) / base ^ n % base ≡ digit n
  unfolding joined
  last_digit_lem n =
      rw (add_comm (joined base digit n) (digit n * base ^ n), digits_div (digit n) (joined_below n))
      (mod-eq_of_lt (small n))

  -- d more digits stand above digit i
  digit_below : (i d : ℕ) → joined base digit (d + suc i) / base ^ i % base ≡ digit i
  unfolding joined
  digit_below i zero = rw (zero-add (suc i)) (last_digit_lem i)
  digit_below i (suc d) =
      rw (suc-add d (suc i), digit_kept base (joined base digit (d + suc i)) (digit (d + suc i)) i d (omega (arith, small 0)))
      (digit_below i d)

  -- each digit is found again in its place
  pub digit_joined : (n i : ℕ) → i < n → joined base digit n / base ^ i % base ≡ digit i
  digit_joined n i h =
      let e : n ≡ n - suc i + suc i = omega arith in
      rw e (digit_below i (n - suc i))

-- words of the same digits are the same
pub joined_same : (base : ℕ) (f g : ℕ → ℕ) (n : ℕ) → ((i : ℕ) → i < n → f i ≡ g i) → joined base f n ≡ joined base g n
unfolding joined
joined_same base f g zero same = refl
joined_same base f g (suc n) same =
    rw (joined_same base f g n (λ i h. same i (omega arith)), same n (omega arith))

-- ---- the registers of the map

-- a slot is below 32, a half below 2 and a group of gains below 4: the agreement is about no others
abbrev Placed : Register → Type 0
Placed (NewData half) = half < 2
Placed (MissedData half) = half < 2
Placed (Gain group) = group < 4
Placed (Mailbox slot) = slot < 32
Placed _ = Unit

placed_either : (t : Bool) (x y : Register) → (t ≡ true → Placed x) → Placed y → Placed (cond t x y)
placed_either t x y one other = grind arith

placed_word : (n : ℕ) → Placed (word_at n)
unfolding word_at
placed_word n = grind arith

-- every register that an offset has is so
placed : (offset : ℕ) → Placed (class_of offset)
unfolding class_of
placed offset = placed_either (ltb (offset % 4) 2) _ _ (λ live. placed_word (offset / 4)) tt

-- word n of the map is this register, and it may be read
pub record ReadAt (n : ℕ) (register : Register) : Type 0 where
  pub low : n < 64
  pub is : word_at n ≡ register
  pub mapped : is_mapped register ≡ true
  pub readable : is_readable register ≡ true

pub mailbox_at : (s : ℕ) → s < 32 → ReadAt (0x20 + s) (Mailbox s)
unfolding word_at
mailbox_at s h = grind arith

new_data_at : (half : ℕ) → half < 2 → ReadAt (5 + half) (NewData half)
unfolding word_at
new_data_at half h = grind arith

missed_data_at : (half : ℕ) → half < 2 → ReadAt (7 + half) (MissedData half)
unfolding word_at
missed_data_at half h = grind arith

interrupt_at : ReadAt 0 Interrupt
unfolding word_at
interrupt_at = grind arith

-- the register at either live byte of a word is that of the word
pub class_is : (n byte offset : ℕ) → byte < 2 → offset ≡ 4 * n + byte → class_of offset ≡ word_at n
unfolding class_of
class_is n byte offset live e = grind arith

-- a 16-bit read of a word meets every question
pub word_met :
    (n offset : ℕ) (register : Register) → offset ≡ 4 * n → ReadAt n register
    → first_no (read_questions 16 offset (class_of offset)) ≡ 0
unfolding first_no
word_met n offset register e place =
    rw (lt-ltb offset 256 (omega arith), eq-eqb (offset % 2) 0 (omega arith), class_is n 0 offset (omega arith) (omega arith), place.is, place.mapped, place.readable)

-- so it is accepted, and gives the whole word
word_read :
    (b : Board) (n offset : ℕ) (register : Register) → offset ≡ 4 * n → ReadAt n register
    → read_word (view_of b) register < 65536
    → (read_call b 16 offset).answer ≡ Ok (read_word (view_of b) register)
unfolding board_call call_questions value_of_call
word_read b n offset register e place small =
    let first : offset % 4 ≡ 0 = omega arith in
    answered_ok (read_questions 16 offset (class_of offset)) _ (none_asked _ (word_met n offset register e place))
    ∙ rw (class_is n 0 offset (omega arith) (omega arith), place.is, first)
    (ap Ok (omega arith))

-- ---- bits

bit_small : (t : Bool) → to_bit t < 2
bit_small t = grind arith

bit_back : (t : Bool) → eqb (to_bit t) 1 ≡ t
bit_back t = grind arith

-- the word of New or Missed Data for sixteen slots, and the bit of a slot in it
abbrev flag_word : (is_set : ℕ → Bool) (half : ℕ) → ℕ
flag_word is_set half = joined 2 (λ i. to_bit (is_set (16 * half + i))) 16

flag_small : (is_set : ℕ → Bool) (half : ℕ) → flag_word is_set half < 65536
flag_small is_set half = joined_below 2 _ (λ i. bit_small (is_set (16 * half + i))) 16

flag_bit : (is_set : ℕ → Bool) (s : ℕ) → bit_of (s % 16) (flag_word is_set (s / 16)) ≡ is_set s
flag_bit is_set s =
    let e : 16 * (s / 16) + s % 16 ≡ s = omega arith in
    rw (digit_joined 2 _ (λ i. bit_small (is_set (16 * (s / 16) + i))) 16 (s % 16) (omega arith), e) (bit_back (is_set s))

-- bit 1 of the Interrupt word
pending_bit : (enable pending : Bool) → bit_of 1 (to_bit enable + to_bit pending * 2) ≡ pending
pending_bit enable pending = grind arith

-- ---- a board and its logbook

-- a count that stands still at 2 reaches 1 and 2 as the stores themselves do
reaches_same : (k count stores : ℕ) → k ≤ 2 → count ≡ min 2 stores → leb k count ≡ leb k stores
reaches_same k count stores low e = grind arith

module _ (b : Board) (tick : ℕ) (cycle : CycleSince) (events : List Event) where
  -- the stores of a slot that were not read reach a threshold: 1 for New, 2 for Missed
  abbrev reaches : (k slot : ℕ) → Bool
  reaches k slot = leb k (stores_since slot events)

  -- the logbook's word
  abbrev logged : Register → ℕ
  logged register = read_word (logbook_view (book_of b tick cycle events)) register

  module _ (agrees : Agrees b tick cycle events) where
    flags_same :
        (k half : ℕ) → k ≤ 2 → half < 2
        → flag_word (λ slot. leb k (get_or b.unread slot 0)) half ≡ flag_word (reaches k) half
    flags_same k half low h = joined_same 2 _ _ 16 same
      where
        same : (i : ℕ) → i < 16 → to_bit (leb k (get_or b.unread (16 * half + i) 0)) ≡ to_bit (reaches k (16 * half + i))
        same i room = ap to_bit (reaches_same k _ _ low (agrees.memory.count (16 * half + i) (omega arith)))

    same_word : (register : Register) → Placed register → read_word (view_of b) register ≡ logged register
    unfolding read_word
    same_word Interrupt fits = rw agrees.memory.interrupt
    same_word (NewData half) fits = flags_same 1 half (omega arith) fits
    same_word (MissedData half) fits = flags_same 2 half (omega arith) fits
    same_word (Mailbox slot) fits = agrees.memory.code slot fits
    same_word _ fits = refl

    pub words_agree :
        (offset : ℕ)
        → read_word (view_of b) (class_of offset) ≡ read_word (logbook_view (book_of b tick cycle events)) (class_of offset)
    words_agree offset = same_word (class_of offset) (placed offset)

    -- a look at a slot shows what the events say
    pub look_agrees : (slot : ℕ) → slot < 32 → look_value (view_of b) slot ≡ look_value (logbook_view (book_of b tick cycle events)) slot
    look_agrees slot h = grind arith

    -- a 16-bit read of the board gives the logbook's word
    logged_read :
        (n offset : ℕ) (register : Register) → offset ≡ 4 * n → ReadAt n register → logged register < 65536
        → (read_call b 16 offset).answer ≡ Ok (logged register)
    logged_read n offset register e place small =
        word_read b n offset register e place (rw same small) ∙ ap Ok same
      where
        same : read_word (view_of b) register ≡ logged register
        same = rw (class_is n 0 offset (omega arith) (omega arith), place.is) at (words_agree offset)

    -- of New or Missed Data, whose two words begin at word `first`, it gives the slot's bit
    flag_read :
        (k first s : ℕ) (register : Register) → ReadAt (first + s / 16) register
        → logged register ≡ flag_word (reaches k) (s / 16)
        → ReadsBit b (4 * first + 4 * (s / 16)) (s % 16) (reaches k s)
    flag_read k first s register place word =
        record { accepted = ap is_accepted given; shown = ap (λ (a : Answer). bit_of (s % 16) (value_of a)) given ∙ flag_bit (reaches k) s }
      where
        given : (read_call b 16 (4 * first + 4 * (s / 16))).answer ≡ Ok (flag_word (reaches k) (s / 16))
        given =
            logged_read (first + s / 16) (4 * first + 4 * (s / 16)) register (omega arith) place (rw word (flag_small (reaches k) (s / 16)))
            ∙ ap Ok word

    pending_read : ReadsBit b 0x00 1 (interrupted events)
    unfolding read_word held_word
    pending_read =
        let enable : Bool = b.registers.enable in
        let given = logged_read 0 0 Interrupt refl interrupt_at (omega (arith, bit_small enable, bit_small (interrupted events))) in
        record {
          accepted = ap is_accepted given;
          shown = ap (λ (a : Answer). bit_of 1 (value_of a)) given ∙ pending_bit enable (interrupted events);
        }

    -- a code is read whole because it fits 16 bits
    mailbox_read : (s : ℕ) → s < 32 → (read_call b 16 (0x80 + 4 * s)).answer ≡ Ok (last_store s events)
    unfolding read_word
    mailbox_read s h =
        logged_read (0x20 + s) (0x80 + 4 * s) (Mailbox s) (omega arith) (mailbox_at s h)
        (omega (arith, agrees.memory.small s, agrees.memory.code s h))

    pub sentence3_of : Sentence3 b (book_of b tick cycle events)
    unfolding read_word
    sentence3_of =
        record {
          mailbox = mailbox_read;
          new_data = λ s h. flag_read 1 5 s (NewData (s / 16)) (new_data_at (s / 16) (omega arith)) refl;
          missed_data = λ s h. flag_read 2 7 s (MissedData (s / 16)) (missed_data_at (s / 16) (omega arith)) refl;
          pending = pending_read;
          line = ap (λ (t : Bool). b.registers.enable && t) agrees.memory.interrupt;
        }
