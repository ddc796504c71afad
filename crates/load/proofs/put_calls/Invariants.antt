-- What is put and what is left come to the whole.
use Rattle.load.specs.Machine.{calls_bytes}
use Rattle.load.proofs.WrittenLaws.{Putting}
use Rattle.load.proofs.put_calls.Given as goal

abbrev pub invariant-loop-kind : goal.invariant-loop-kind
invariant-loop-kind l = Putting l.initial.rest (calls_bytes l.fn.calls.x l.fn.calls.left) l.rest l.kind-iterator.x l.kind-iterator.left l.at
