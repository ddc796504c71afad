-- Each turn counts its field, and the end finds what is counted.
use mathlib.Core.Bool.{Bool, true, false, not, ◌&&◌, ◌||◌, cond}
use mathlib.Core.List.{List}
use mathlib.Core.Path.{◌≡◌, refl, sym, ap, ap₂, ◌∙◌}
use Prim.Native.Nat.{ℕ, ◌+◌}
use native.Mathlib.Omega.{arith}
use mir.Val.{bool_byte}
use lib.ListN.{length, length-drop}
use Rattle.pmc330_model.specs.Words.{to_bit}
use Rattle.trace.specs.Grammar.{is_call_tag, is_answer_tag}
use Rattle.trace.specs.Fields.{size_of, fields_of, later_fields}
use Rattle.trace.specs.Machine.{walked}
use Rattle.trace.specs.Stated.{byte_of}
use Rattle.std.specs.Prelude.{Ok, Err}
use Rattle.analog.specs.declared.Refusal.TheVariants.{StrayAnswer}
use Rattle.trace.proofs.FieldLaws.{some_left, none_left, answer_or_call, bit_small, later_some, no_field, walk_turn, walk_end}
use Rattle.trace.proofs.fields.check_later.Goals as goal
use Rattle.trace.proofs.fields.check_later.Goals.{After-is_empty, then-strays, else-strays+then-not-is_call, else-strays+else-not-is_call}

counted : (t : Bool) → bool_byte t ≡ to_bit t
counted true = refl
counted false = refl

pub loop-field-init : goal.loop-field-init
loop-field-init c =
    record {
      few = omega (arith, ap length c.of-fields.ensures, length-drop 8 c.args.trace.now);
      same = ap₂ (λ (t : Bool) (rest : List ℕ). walked 0 false t (fields_of rest)) refl c.of-fields.ensures;
    }

pub loop-field-preserved : goal.loop-field-preserved
loop-field-preserved c =
    let l = c.loop-field in
    let bytes = l.fields.rest.now in
    let tag = byte_of c.in-Some.field.tag in
    let after = c.next.new.self.rest.now in
    let s = c.in-Some.ensures.steps in
    let is_call : c.is_call-is_call.result ≡ is_call_tag tag = c.is_call-is_call.ensures in
    let calls : c.from-calls.result ≡ to_bit (is_call_tag tag) = c.from-calls.ensures ∙ counted c.is_call-is_call.result ∙ ap to_bit is_call in
    let strays : c.if-strays.strays ≡ (l.strays || is_answer_tag tag && not l.after_call) =
    rw (answer_or_call c.in-Some.field.tag, sym is_call)
    (elim c.if-strays.branch [
      | then-strays w ↦ rw w.if-strays.true (w.strays-is ∙ w.if-strays.true)
      | else-strays+then-not-is_call w ↦ rw (w.if-strays.false, w.if-not-is_call.true) w.strays-is
      | else-strays+else-not-is_call w ↦ rw (w.if-strays.false, w.if-not-is_call.false) (w.strays-is ∙ ap not w.if-not-is_call.false)
    ]) in
    record {
      few = omega (arith, l.invariant.few, calls, bit_small (is_call_tag tag), ap length s.after_same, later_some bytes s.later, length-drop (3 + size_of bytes) bytes);
      same =
          walk_turn l.calls l.strays l.after_call bytes tag _ after s _ _ _ calls strays (grind (arith, is_call))
          ∙ l.invariant.same;
    }

pub returns-then-not-is_empty : goal.returns-then-not-is_empty
returns-then-not-is_empty c =
    let l = c.loop-field in
    let left = c.in_default.ensures.steps in
    let some = some_left c.next.new.self.rest.now c.is_empty.ensures c.if-not-is_empty.true in
    sym (ap (walked l.calls l.strays l.after_call) (no_field l.fields.rest.now (omega (arith, some, ap length left.1)) left.0)) ∙ l.invariant.same

module _ (c : After-is_empty) (none : c.is_empty.result ≡ true) where
  over : cond c.loop-field.strays (Err StrayAnswer) (Ok c.loop-field.calls) ≡ walked 0 false false (later_fields c.args.trace.now)
  over =
      let l = c.loop-field in
      let end = sym (ap length c.in_default.ensures.steps.1) ∙ none_left c.next.new.self.rest.now c.is_empty.ensures none in
      sym (walk_end l.fields.rest.now l.calls l.strays l.after_call end) ∙ l.invariant.same

pub returns-then-strays-2 : goal.returns-then-strays-2
returns-then-strays-2 c =
    ap (λ (t : Bool). cond t (Err StrayAnswer) (Ok c.loop-field.calls)) (sym c.if-strays-2.true)
    ∙ over (goal.at.returns-then-strays-2 c).After-is_empty c.if-not-is_empty.false

pub returns : goal.returns
returns c =
    ap (λ (t : Bool). cond t (Err StrayAnswer) (Ok c.loop-field.calls)) (sym c.if-strays-2.false)
    ∙ over (goal.at.returns c).After-is_empty c.if-not-is_empty.false
