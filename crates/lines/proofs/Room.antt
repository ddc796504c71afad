-- How long a call's line is.
use Rattle.std.proofs.Common.{ℕ, zero, suc, ◌+◌, ◌*◌, ◌/◌, ◌≤◌, ◌<◌, ◌≡◌, length, length-append, sym, refl, ◌∙◌, arith}
use Rattle.std.proofs.lemmas.Fmt.{length-decimal-le}
use Rattle.lines.specs.Text.{digits_of, decimal_of, line_of, call_line, lines_of, EveryTextFits}
use Rattle.lines.proofs.TextLaws.{decimal_same}

length_digits : (base count number : ℕ) → length (digits_of base count number) ≡ count
unfolding digits_of
length_digits base zero number = refl
length_digits base (suc n) number = length-append (digits_of base n (number / base)) _ ∙ omega (arith, length_digits base n (number / base))

length_decimal : (n : ℕ) → n < 0x100000000 → length (decimal_of n) ≤ 10
length_decimal n h = rw (sym (decimal_same n (omega arith))) (length-decimal-le 10 n (omega arith) (omega arith) (omega arith))

pub length_line : (index number value : ℕ) → index < 0x100000000 → number < 0x100000000 → length (line_of index number value) ≤ 31
length_line index number value h k = simp length-append (omega (arith, length_decimal index h, length_decimal number k, length_digits 16 8 value))

pub text_fits : EveryTextFits
unfolding lines_of
text_fits answers zero bytes h = omega arith
text_fits answers (suc n) bytes h =
    let line : length (call_line answers n) ≤ 31 = length_line (n + 1) _ _ (omega arith) (omega (arith, bytes (5 * n))) in
    omega (arith, length-append (lines_of answers n) (call_line answers n), line, text_fits answers n bytes (omega arith))
