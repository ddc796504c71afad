-- Each turn goes by the laws of playing, at the field that comes next.
use mathlib.Core.Bool.{true}
use mathlib.Core.List.{List, ◌∷◌}
use mathlib.Core.Path.{◌≡◌, sym, ap, subst, ◌∙◌}
use native.Mathlib.Omega.{arith}
use Prim.Native.Nat.{ℕ}
use lib.ListN.{drop}
use Rattle.pmc330.specs.Raw.{board_of}
use Rattle.pmc330_model.specs.Board.{board_call, new_board}
use Rattle.trace.specs.Fields.{Field, range_of, fields_of, is_undamaged, listed}
use Rattle.trace.specs.Stated.{byte_of}
use Rattle.trace.specs.declared.fields.LaterFields.{LaterFields}
use Rattle.trace.proofs.CheckLaws.{walkable}
use Rattle.trace.proofs.FieldLaws.{next_field, no_next}
use Rattle.trace.proofs.PlayLaws.{Playing, opening, turn, passes, over}
use Rattle.trace.proofs.play_calls.Goals as goal
use Rattle.trace.proofs.play_calls.Goals.{In-Some}

module _ (c : In-Some) where
  abbrev field : Field
  field = record { tag = byte_of c.in-Some.field.tag; body = c.in-Some.field.body.now }

  next : (listed (fields_of c.loop-field.field-iterator.rest.now) ≡ field ∷ listed (fields_of c.next.new.self.rest.now)) × (is_undamaged (fields_of c.next.new.self.rest.now) ≡ true)
  next = next_field c.loop-field.field-iterator.rest.now _ _ c.next.new.self.rest.now c.in-Some.ensures.steps c.loop-field.invariant.undamaged

  plays : Playing c.args.trace.trace.now c.args.answers.now (new_board (range_of c.args.trace.trace.now)) c.loop-field.answers (board_of c.loop-field.board) (field ∷ listed (fields_of c.next.new.self.rest.now)) c.loop-field.done
  plays = subst (λ (rest : List Field). Playing c.args.trace.trace.now c.args.answers.now (new_board (range_of c.args.trace.trace.now)) c.loop-field.answers (board_of c.loop-field.board) rest c.loop-field.done) next.0 c.loop-field.invariant.plays

pub loop-field-init : goal.loop-field-init
loop-field-init c =
    let trace = c.args.trace.trace.now in
    let at : drop 8 trace ≡ c.into_iter-field-iterator.result.rest.now = sym (ap (λ (f : LaterFields). f.rest.now) c.into_iter-field-iterator.ensures.into_iter_gives ∙ c.fields-field-items.ensures) in
    record {
      undamaged = subst (λ (l : List ℕ). is_undamaged (fields_of l) ≡ true) at (ap is_undamaged (walkable trace c.args.trace.passed).undamaged);
      plays =
          subst (λ (l : List ℕ). Playing trace c.args.answers.now (new_board (range_of trace)) c.args.answers.now (board_of c.open.new.board) (listed (fields_of l)) 0) at
          (rw c.open.ensures (opening trace c.args.answers.now (new_board (range_of trace)) (omega (arith, c.requires, c.args.trace.counted))));
    }

pub put-requires : goal.put-requires
put-requires c = (turn _ _ _ _ _ _ _ _ (plays (goal.at.put-requires c).In-Some) c.in-Some-call.ensures.made).left

pub loop-field-preserved-in-Some-call : goal.loop-field-preserved-in-Some-call
loop-field-preserved-in-Some-call c =
    let k = (goal.at.loop-field-preserved-in-Some-call c).In-Some in
    let call = c.made_on-answer.ensures in
    record {
      undamaged = (next k).1;
      plays =
          (turn _ _ _ _ _ _ _ _ (plays k) c.in-Some-call.ensures.made).next _ _
          ((λ i. record { board = call.board i; answer = call.answer i }) ∙ ap (board_call (board_of c.loop-field.board)) c.in-Some-call.ensures.same)
          c.put.ensures;
    }

pub loop-field-preserved : goal.loop-field-preserved
loop-field-preserved c =
    let k = (goal.at.loop-field-preserved c).In-Some in
    record { undamaged = (next k).1; plays = passes _ _ _ _ _ _ _ _ (plays k) c.in_default.ensures }

pub returns : goal.returns
returns c =
    let l = c.loop-field in
    let none = no_next l.field-iterator.rest.now c.in-None.ensures.steps.0 l.invariant.undamaged in
    over _ _ _ _ _ _ (subst (λ (rest : List Field). Playing c.args.trace.trace.now c.args.answers.now (new_board (range_of c.args.trace.trace.now)) l.answers (board_of l.board) rest l.done) none l.invariant.plays)
