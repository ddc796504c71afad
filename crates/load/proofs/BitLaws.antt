-- Exclusive or by the definition and by the kit's operator; the bits of exclusive or and of the shifts.
use mathlib.Core.Bool.{cond, not, ◌&&◌}
use mathlib.Core.Logic.{⊎_elim}
use mathlib.Core.Path.{◌≡◌, sym, ap, ap₂, ◌∙◌}
use Prim.Native.Nat.{ℕ, zero, suc, ◌+◌, ◌-◌, ◌*◌, ◌/◌, ◌%◌, ◌^◌, ◌<◌, ◌≤◌}
use native.Mathlib.Nat.{pow-suc}
use native.Mathlib.Omega.{arith}
use lib.Dec.{eqb, leb}
use lib.Pow.{shr-shr}
use Rattle.std.specs.Int.{bit_at}
use Rattle.std.specs.Int.Bits.{bit_xor}
use Rattle.std.proofs.lemmas.Bool.{cases_lt}
use Rattle.std.proofs.lemmas.Nat.{pow_pos, xor_of_32}
use Rattle.std.proofs.lemmas.Nat.Bits.{bit_at-suc, bit_at-zero, bit_at_xor, bit_at_cat_low, bit_at_cat_high, same_from_bits_below}
use Rattle.pmc330_model.specs.Words.{bit_of}
use Rattle.load.specs.Bits.{shifted_left, shifted_right, xor_in, xor_of, xor_left, xor_right, stepped}

-- ---- exclusive or

xor_fits : (bits a b : ℕ) → xor_in bits a b < 2 ^ bits
unfolding xor_in
xor_fits zero a b = omega arith
xor_fits (suc bits) a b = omega (arith, pow-suc 2 bits, xor_fits bits (a / 2) (b / 2))

pub xor_most : (a b : ℕ) → xor_of a b < 2 ^ 32
unfolding xor_of
xor_most a b = xor_fits 32 a b

xor_bits : (bits place a b : ℕ) → place < bits → bit_at (xor_in bits a b) place ≡ (bit_at a place + bit_at b place) % 2
unfolding xor_in
xor_bits zero place a b h = absurd (omega arith)
xor_bits (suc bits) zero a b h = omega arith
xor_bits (suc bits) (suc place) a b h =
    let half : xor_in (suc bits) a b / 2 ≡ xor_in bits (a / 2) (b / 2) = omega arith in
    bit_at-suc (xor_in (suc bits) a b) place
    ∙ ap (λ (n : ℕ). bit_at n place) half
    ∙ xor_bits bits place (a / 2) (b / 2) (omega arith)
    ∙ ap₂ (λ (x y : ℕ). (x + y) % 2) (sym (bit_at-suc a place)) (sym (bit_at-suc b place))

-- a bit is set where just one of the two is
digit_set : (a b : ℕ) → a < 2 → b < 2 → eqb ((a + b) % 2) 1 ≡ cond (eqb a 1) (not (eqb b 1)) (eqb b 1)
digit_set = grind arith

pub xor_bit :
    (place a b : ℕ) → place < 32 → bit_of place (xor_of a b) ≡ cond (bit_of place a) (not (bit_of place b)) (bit_of place b)
unfolding xor_of
xor_bit place a b h =
    ap (λ (n : ℕ). eqb n 1) (xor_bits 32 place a b h) ∙ digit_set (bit_at a place) (bit_at b place) (omega arith) (omega arith)

-- the kit's operator gives the same bits
bit_xor_is : (a b : ℕ) → a < 2 ^ 32 → b < 2 ^ 32 → bit_xor a b ≡ xor_of a b
unfolding xor_of
bit_xor_is a b ha hb =
    same_from_bits_below 32 (bit_xor a b) (xor_of a b) (xor_of_32 a b ha hb) (xor_most a b)
    (λ place h. bit_at_xor a b place ∙ sym (xor_bits 32 place a b h))

-- ---- shifts

pub left_most : (places x : ℕ) → shifted_left places x < 2 ^ 32
left_most places x = omega arith

module _ (places place x : ℕ) where
  -- what is lost past 32 bits is no bit below
  low_bit : place < 32 → bit_at (shifted_left places x) place ≡ bit_at (x * 2 ^ places + 0) place
  low_bit h =
      let n = x * 2 ^ places in
      let whole : n / 2 ^ 32 * 2 ^ 32 + n % 2 ^ 32 ≡ n + 0 = omega arith in
      sym (bit_at_cat_low (n / 2 ^ 32) 32 (n % 2 ^ 32) place h) ∙ ap (λ (n : ℕ). bit_at n place) whole

  pub left_bit : place < 32 → bit_of place (shifted_left places x) ≡ (leb places place && bit_of (place - places) x)
  left_bit h =
      ⊎_elim
      (λ (below : place < places).
      let bit = low_bit h ∙ bit_at_cat_low x places 0 place below ∙ bit_at-zero place in
      grind arith)
      (λ (from : places ≤ place).
      let bit = low_bit h ∙ bit_at_cat_high x places 0 place (pow_pos places) from in
      grind arith)
      (cases_lt place places)

pub right_bit : (places place x : ℕ) → bit_of place (shifted_right places x) ≡ bit_of (places + place) x
right_bit places place x = ap (λ (n : ℕ). eqb (n % 2) 1) (shr-shr x places place)

-- ---- a step, as the code has it

-- x and x shifted by so many places
abbrev with_left : (places x : ℕ) → ℕ
with_left places x = bit_xor x (shifted_left places x)

abbrev with_right : (places x : ℕ) → ℕ
with_right places x = bit_xor x (shifted_right places x)

left_is : (places x : ℕ) → x < 2 ^ 32 → with_left places x ≡ xor_left places x
left_is places x h = bit_xor_is x (shifted_left places x) h (left_most places x)

right_is : (x : ℕ) → x < 2 ^ 32 → with_right 17 x ≡ xor_right 17 x
right_is x h = bit_xor_is x (shifted_right 17 x) h (omega arith)

pub step_is : (x : ℕ) → x < 2 ^ 32 → with_left 5 (with_right 17 (with_left 13 x)) ≡ stepped x
unfolding stepped
step_is x h =
    let a = xor_left 13 x in
    let b = xor_right 17 a in
    ap (λ (a : ℕ). with_left 5 (with_right 17 a)) (left_is 13 x h)
    ∙ ap (with_left 5) (right_is a (xor_most x (shifted_left 13 x)))
    ∙ left_is 5 b (xor_most a (shifted_right 17 a))
