-- The trace begins with the heading's bytes before its range.
use mathlib.Core.Path.{◌≡◌, refl, sym, ◌∙◌}
use mathlib.Core.Bool.{Bool, true, false}
use native.Mathlib.Omega.{arith}
use Rattle.std.proofs.Common.{rules}
use lib.ListN.{length, drop}
use borrow.Author.Tests.{leb-true}
use Rattle.trace.specs.Fields.{is_heading}
use Rattle.std.proofs.lemmas.Slice.Eq.{starts_is}
use Rattle.std.proofs.lemmas.Bool.Decides.{Decides-eqb}
use Rattle.trace.proofs.CheckLaws.{heading_length, heading_front, heading_found, heading_starts}
use Rattle.trace.proofs.fields.is_heading.Goals as goal
use Rattle.trace.proofs.fields.is_heading.Goals.{then-trace-ge8, else-trace-ge8}

pub returns-then-starts_with : goal.returns-then-starts_with
returns-then-starts_with c =
    elim c.if-trace-ge8.branch [
      | then-trace-ge8 w ↦ search rules ∙ sym (heading_found c.args.trace.now w.if-trace-ge8.true ((starts_is Decides-eqb c.args.trace.now heading_front w.starts_with.result w.starts_with.ensures.value).0 (sym w.value-is ∙ c.if-starts_with.true)))
      | else-trace-ge8 w ↦ absurd (omega (arith, leb-true 8 (length c.args.trace.now) (sym w.value-is ∙ c.if-starts_with.true), w.if-trace-ge8.false))
    ]

pub returns-else-starts_with : goal.returns-else-starts_with
returns-else-starts_with c =
    let other : is_heading c.args.trace.now ≡ false = go (is_heading c.args.trace.now) refl in
    c.if-starts_with.false ∙ sym other
  where
    go : (t : Bool) → is_heading c.args.trace.now ≡ t → t ≡ false
    go false e = refl
    go true e =
        elim c.if-trace-ge8.branch [
          | then-trace-ge8 w ↦ sym ((starts_is Decides-eqb c.args.trace.now heading_front w.starts_with.result w.starts_with.ensures.value).1 (drop 7 c.args.trace.now) (heading_starts c.args.trace.now e)) ∙ sym w.value-is ∙ c.if-starts_with.false
          | else-trace-ge8 w ↦ absurd (omega (arith, heading_length c.args.trace.now e, w.if-trace-ge8.false))
        ]
