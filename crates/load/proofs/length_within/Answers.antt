-- What is counted and what is left come to the whole.
use Rattle.std.proofs.Common.{length, ap, arith}
use Rattle.load.specs.Machine.{call_of_kind}
use Rattle.load.proofs.WrittenLaws.{next_length, calls_end}
use Rattle.load.proofs.length_within.Goals as goal

pub returns-in_err-room-2 : goal.returns-in_err-room-2
returns-in_err-room-2 c =
    let q = c.in-Some.field-0-1 in
    let next = next_length _ _ c.next.new.self.x c.next.new.self.left (call_of_kind c.in-Some.kind q) c.in-Some.ensures.steps in
    rw c.from_residual-in_err-room-2.ensures
    (λ h. c.in_err-room-2.ensures (omega (arith, next, c.size.ensures q, c.loop-kind.invariant.whole, h)))

pub loop-kind-preserved : goal.loop-kind-preserved
loop-kind-preserved c =
    let q = c.in-Some.field-0-1 in
    let next = next_length _ _ c.next.new.self.x c.next.new.self.left (call_of_kind c.in-Some.kind q) c.in-Some.ensures.steps in
    record {
      within = omega (arith, c.in_ok-room-2.ensures);
      whole = omega (arith, next, c.size.ensures q, c.in_ok-room-2.ensures);
    }

pub returns : goal.returns
returns c =
    let none = ap length (calls_end c.loop-kind.kind-iterator.x c.loop-kind.kind-iterator.left c.in-None.ensures.steps.0) in
    (omega (arith, none), omega (arith, none))
