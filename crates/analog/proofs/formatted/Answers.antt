-- Straight, the code as it is; else by the cases of the definition.
use mathlib.Core.Path.{◌≡◌, refl, ap, ◌∙◌}
use mathlib.Core.Logic.{◌⊎◌, inl, inr}
use Prim.Native.Nat.{ℕ, ◌+◌, ◌-◌, ◌*◌, ◌^◌, ◌<◌, ◌≤◌}
use native.Mathlib.Omega.{arith}
use borrow.Author.Tests.{lt-ltb, le-ltb}
use lib.Bits.{bit_xor}
use mathlib.Core.Bool.{false}
use Rattle.std.proofs.lemmas.Nat.{xor_block}
use Rattle.std.specs.Int.Bits.{xor_zero_r}
use Rattle.analog.specs.Code.{in_format}
use Rattle.std.proofs.lemmas.Bool.{cases_lt}
use Rattle.analog.proofs.formatted.Goals as goal

pub returns-then-straight : goal.returns-then-straight
unfolding in_format
returns-then-straight c = simp c.if-straight.true

block : (n high : ℕ) → high ≡ 0 → n ≡ high * 2 ^ 15 + n
block n high e = omega (arith, e)

flipped : (code : ℕ) → code < 65536 → (code < 0x8000) ⊎ (0x8000 ≤ code) → bit_xor code 0x8000 ≡ in_format false code
unfolding in_format
flipped code h (inl low) =
    let e : bit_xor code 0 ≡ code = xor_zero_r code in
    rw (lt-ltb code 0x8000 low)
    (ap (λ (n : ℕ). bit_xor n 0x8000) (block code 0 refl)
    ∙ xor_block 15 0 1 code 0 low (omega arith)
    ∙ omega (arith, e))
flipped code h (inr high) =
    let rest : ℕ = code - 0x8000 in
    let e : bit_xor rest 0 ≡ rest = xor_zero_r rest in
    rw (le-ltb code 0x8000 high)
    (ap (λ (n : ℕ). bit_xor n 0x8000) (omega (arith, high))
    ∙ xor_block 15 1 1 rest 0 (omega arith) (omega arith)
    ∙ omega (arith, e))

pub returns-else-straight : goal.returns-else-straight
returns-else-straight c = rw c.if-straight.false (flipped c.args.code (omega (arith, c.ranges.code.fits)) (cases_lt c.args.code 0x8000))
