-- Each turn goes by the laws of replaying, at the field that comes next.
use mathlib.Core.Bool.{true}
use mathlib.Core.List.{List, ◌∷◌}
use mathlib.Core.Path.{◌≡◌, sym, ap, ap₂, subst, ◌∙◌}
use native.Mathlib.Omega.{arith}
use Prim.Native.Nat.{ℕ, ◌+◌, ◌≤◌}
use lib.ListN.{length, drop, length-drop}
use Rattle.pmc330.specs.Raw.{board_of}
use Rattle.pmc330_model.specs.Board.{board_call, new_board}
use Rattle.std.specs.Prelude.{Ok}
use Rattle.trace.specs.Fields.{Field, range_of, fields_of, fields_after, is_undamaged, listed}
use Rattle.trace.specs.Stated.{byte_of}
use Rattle.trace.specs.declared.Replayed.TheVariants.{Differs}
use Rattle.trace.specs.declared.fields.LaterFields.{LaterFields}
use Rattle.trace.proofs.CheckLaws.{walkable}
use Rattle.trace.proofs.FieldBytes.{parsed}
use Rattle.trace.proofs.FieldLaws.{answer_length, tag_later, next_field, no_next}
use Rattle.trace.proofs.ReplayLaws.{Replaying, replay_opens, makes, agrees, differs, all_agree}
use Rattle.trace.proofs.replay_calls.Goals as goal
use Rattle.trace.proofs.replay_calls.Goals.{In-Some}

module _ (c : In-Some) where
  abbrev field : Field
  field = record { tag = byte_of c.in-Some.field.tag; body = c.in-Some.field.body.now }

  next : (listed (fields_of c.loop-field.field-iterator.rest.now) ≡ field ∷ listed (fields_of c.next.new.self.rest.now)) × (is_undamaged (fields_of c.next.new.self.rest.now) ≡ true)
  next = next_field c.loop-field.field-iterator.rest.now _ _ c.next.new.self.rest.now c.in-Some.ensures.steps c.loop-field.invariant.undamaged

  replays : Replaying c.args.trace.trace.now (new_board (range_of c.args.trace.trace.now)) (board_of c.loop-field.board) (field ∷ listed (fields_of c.next.new.self.rest.now)) c.loop-field.index c.loop-field.count c.loop-field.answer
  replays = subst (λ (rest : List Field). Replaying c.args.trace.trace.now (new_board (range_of c.args.trace.trace.now)) (board_of c.loop-field.board) rest c.loop-field.index c.loop-field.count c.loop-field.answer) next.0 c.loop-field.invariant.replays

pub loop-field-init : goal.loop-field-init
loop-field-init c =
    let trace = c.args.trace.trace.now in
    let walk = walkable trace c.args.trace.passed in
    let at : drop 8 trace ≡ c.into_iter-field-iterator.result.rest.now = sym (ap (λ (f : LaterFields). f.rest.now) c.into_iter-field-iterator.ensures.into_iter_gives ∙ c.fields-field-items.ensures) in
    let few : 0 + length (listed (fields_of c.into_iter-field-iterator.result.rest.now)) ≤ 16_777_216 =
    subst (λ (l : List ℕ). 0 + length (listed (fields_of l)) ≤ 16_777_216) at (omega (arith, (parsed (drop 8 trace) (fields_after trace) walk.undamaged).few, length-drop 8 trace, walk.short)) in
    record {
      undamaged = subst (λ (l : List ℕ). is_undamaged (fields_of l) ≡ true) at (ap is_undamaged walk.undamaged);
      indexed = few;
      counted = few;
      replays =
          subst (λ (l : List ℕ). Replaying trace (new_board (range_of trace)) (board_of c.open.new.board) (listed (fields_of l)) 0 0 (Ok 0)) at
          (rw c.open.ensures (replay_opens trace (new_board (range_of trace))));
    }

pub loop-field-preserved-in-Some-call : goal.loop-field-preserved-in-Some-call
loop-field-preserved-in-Some-call c =
    let k = (goal.at.loop-field-preserved-in-Some-call c).In-Some in
    let call = c.made_on-answer.ensures in
    record {
      undamaged = (next k).1;
      indexed = omega (arith, c.loop-field.invariant.indexed, ap length (next k).0);
      counted = omega (arith, c.loop-field.invariant.counted, ap length (next k).0);
      replays =
          makes _ _ _ _ _ _ _ _ (replays k) c.in-Some-call.ensures.made _
          ((λ i. record { board = call.board i; answer = call.answer i }) ∙ ap (board_call (board_of c.loop-field.board)) c.in-Some-call.ensures.same);
    }

pub is_equal-requires : goal.is_equal-requires
is_equal-requires c = c.in-Some.field.whole ∙ answer_length _ (tag_later c.in-Some.field.tag) c.in_default.ensures

pub returns-then-not-is_equal : goal.returns-then-not-is_equal
returns-then-not-is_equal c =
    ap₂ Differs (omega arith) (omega arith)
    ∙ differs _ _ _ _ _ _ _ _ (replays (goal.at.returns-then-not-is_equal c).In-Some) c.in_default.ensures (sym c.is_equal.ensures ∙ c.if-not-is_equal.true)

pub loop-field-preserved : goal.loop-field-preserved
loop-field-preserved c =
    let k = (goal.at.loop-field-preserved c).In-Some in
    record {
      undamaged = (next k).1;
      indexed = omega (arith, c.loop-field.invariant.indexed, ap length (next k).0);
      counted = omega (arith, c.loop-field.invariant.counted, ap length (next k).0);
      replays = agrees _ _ _ _ _ _ _ _ (replays k) c.in_default.ensures (sym c.is_equal.ensures ∙ c.if-not-is_equal.false);
    }

pub returns : goal.returns
returns c =
    let l = c.loop-field in
    let none = no_next l.field-iterator.rest.now c.in-None.ensures.steps.0 l.invariant.undamaged in
    all_agree _ _ _ _ _ _ (subst (λ (rest : List Field). Replaying c.args.trace.trace.now (new_board (range_of c.args.trace.trace.now)) (board_of l.board) rest l.index l.count l.answer) none l.invariant.replays)
