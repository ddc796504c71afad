-- Each digit is that of its shift.
use Rattle.std.proofs.Common.{rules, ℕ, ◌-◌, ◌*◌, ◌/◌, ◌%◌, ◌^◌, ◌<◌, ◌≡◌, ◌∙◌, get_or, refl, arith}
use Rattle.std.proofs.lemmas.List.FromFn.{fill_by_all}
use Rattle.lines.specs.Text.{digit_of}
use Rattle.lines.proofs.TextLaws.{digit_in_table, hex_by_shifts}
use Rattle.lines.proofs.FromFnLaws.{made}
use Rattle.lines.proofs.hex_digits.Goals as goal

pub returns : goal.returns
returns c =
    let items = c.from_fn.ensures.items in
    let digit : ℕ → ℕ = λ k. digit_of (c.args.value / 2 ^ (28 - 4 * k) % 16) in
    let each : (k : ℕ) → k < 8 → get_or c.from_fn.result k 0 ≡ digit k = λ k h.
    made _ (λ p. p.0.now ≡ c.args.value) digit 8 (λ p q i x h kept called. (search rules, search (rules, digit_in_table))) 8 0 _ c.from_fn.result (omega arith) refl items.each k (omega arith) h in
    fill_by_all digit c.from_fn.result 8 0 items.long each ∙ hex_by_shifts c.args.value
