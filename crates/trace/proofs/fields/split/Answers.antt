-- Its parts are the field's.
use mathlib.Core.List.{List}
use mathlib.Core.Path.{◌≡◌, sym, ap, ap₂, ◌∙◌}
use native.Mathlib.Omega.{arith}
use Prim.Native.Nat.{ℕ}
use lib.ListN.{length, get_or, take, drop, length-drop}
use lib.Seq.{drop-drop}
use Rattle.std.proofs.lemmas.List.{take_rest}
use Rattle.trace.specs.Grammar.{length_of, number_at}
use Rattle.trace.specs.Fields.{tag_of, size_of, is_later_tag}
use Rattle.trace.specs.Stated.{byte_of}
use Rattle.trace.proofs.FieldLaws.{no_later_field, parts_later, head_tag, head_size, tag_later}
use Rattle.trace.proofs.fields.split.Goals as goal
use Rattle.trace.proofs.fields.split.Goals.{After-number-size, then-size-length-via-then-size-length, then-size-length-via-else-size-length+then-rest-size}

module _ (c : After-number-size) where
  tag_is : byte_of c.in_ok-tag.tag ≡ tag_of c.args.bytes.now
  tag_is = c.in_ok-tag.ensures ∙ ap (λ (l : List ℕ). get_or l 0 0) c.in_ok-head.ensures.cases.1 ∙ head_tag c.args.bytes.now

  size_is : c.number-size.result ≡ size_of c.args.bytes.now
  size_is = c.number-size.ensures ∙ ap (number_at 1 2) c.in_ok-head.ensures.cases.1 ∙ head_size c.args.bytes.now

pub returns-in_err-head : goal.returns-in_err-head
returns-in_err-head c =
    rw c.from_residual.ensures (no_later_field c.args.bytes.now (λ w. omega (arith, c.in_err-head.ensures.cases, w.head)))

pub returns-then-size-length : goal.returns-then-size-length
returns-then-size-length c =
    let bytes = c.args.bytes.now in
    let k = (goal.at.returns-then-size-length c).After-number-size in
    let rest = ap length c.in_ok-head.ensures.cases.2 in
    no_later_field bytes
    (λ w.
    elim c.then-size-length.branch [
      | then-size-length-via-then-size-length o ↦ o.if-size-length.true (size_is k ∙ w.stated ∙ sym (ap length_of (tag_is k)) ∙ sym c.length.ensures)
      | then-size-length-via-else-size-length+then-rest-size o ↦ omega (arith, o.if-rest-size.true, size_is k, rest, length-drop 3 bytes, w.ends)
    ])

pub returns : goal.returns
returns c =
    let bytes = c.args.bytes.now in
    let k = (goal.at.returns c).After-number-size in
    let rest = c.in_ok-head.ensures.cases.2 in
    record {
      later =
          parts_later bytes
          (record {
            head = c.in_ok-head.ensures.cases.0;
            stated = sym (size_is k) ∙ c.if-size-length.false ∙ c.length.ensures ∙ ap length_of (tag_is k);
            ends = omega (arith, c.if-rest-size.false, size_is k, ap length rest, length-drop 3 bytes, c.in_ok-head.ensures.cases.0);
          })
          (sym (ap is_later_tag (tag_is k)) ∙ tag_later c.in_ok-tag.tag);
      tag_same = tag_is k;
      body_same = ap (λ (n : ℕ). take n (drop 3 bytes)) (omega (arith, size_is k));
      after_same = take_rest c.in_ok-head.rest.now c.number-size.result ∙ ap₂ drop (size_is k) rest ∙ drop-drop (size_of bytes) 3 bytes;
    }
