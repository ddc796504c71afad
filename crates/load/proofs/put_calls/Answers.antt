-- The loop's invariant is `Putting`.
use Rattle.std.proofs.Common.{◌+◌, ◌≤◌, length, arith, rules}
use Rattle.load.specs.Machine.{call_of_kind}
use Rattle.load.proofs.WrittenLaws.{putting_fits, putting_turn, putting_end}
use Rattle.load.proofs.put_calls.Goals as goal
use Rattle.load.proofs.put_calls.Goals.{After-size}

fits : (c : After-size) → c.loop-kind.at + c.size.result ≤ length c.loop-kind.rest
fits c =
    let turn = c.loop-kind in
    omega (
      arith,
      putting_fits _ _ turn.rest _ _ c.next.new.self.x c.next.new.self.left turn.at (call_of_kind c.in-Some.kind c.in-Some.q) c.in-Some.ensures.steps (omega arith) turn.invariant,
      c.size.ensures c.in-Some.q,
    )

pub overflow_add-end : goal.overflow_add-end
overflow_add-end c = let room = fits c in search rules

pub slice_bounds-put-end : goal.slice_bounds-put-end
slice_bounds-put-end c = let room = fits c in search rules

pub loop-kind-preserved : goal.loop-kind-preserved
loop-kind-preserved c =
    let turn = c.loop-kind in
    putting_turn _ _ turn.rest _ _ c.next.new.self.x c.next.new.self.left turn.at (call_of_kind c.in-Some.kind c.in-Some.q) c.in-Some.ensures.steps (omega arith) turn.invariant
    c.size.result _ (c.size.ensures c.in-Some.q) c.put.ensures

pub returns : goal.returns
returns c = putting_end _ _ c.loop-kind.rest c.loop-kind.kind-iterator.x c.loop-kind.kind-iterator.left c.loop-kind.at c.loop-kind.invariant c.in-None.ensures.steps.0
