-- What is counted and what is left come to the whole.
use Rattle.std.proofs.Common.{◌≡◌, ◌+◌, ◌≤◌, length}
use Rattle.load.specs.Machine.{calls_bytes}
use Rattle.load.proofs.length_within.Given as goal

abbrev pub invariant-loop-kind : goal.invariant-loop-kind
invariant-loop-kind l = record {
  within : l.room ≤ l.limit;
  whole : l.limit + length (calls_bytes l.kind-iterator.x l.kind-iterator.left) ≡ l.room + (8 + length (calls_bytes l.fn.calls.x l.fn.calls.left));
}
