-- The loop's invariant: what is counted, with the fields that are left, is what the check finds.
use mathlib.Core.Bool.{false}
use mathlib.Core.Path.{◌≡◌}
use Prim.Native.Nat.{◌+◌, ◌≤◌}
use lib.ListN.{length}
use Rattle.trace.specs.Fields.{fields_of, later_fields}
use Rattle.trace.specs.Machine.{walked}
use Rattle.trace.proofs.fields.check_later.Given as goal

abbrev pub invariant-loop-field : goal.invariant-loop-field
invariant-loop-field l =
    record {
      few : l.calls + length l.fields.rest.now ≤ length l.trace;
      same : walked l.calls l.strays l.after_call (fields_of l.fields.rest.now) ≡ walked 0 false false (later_fields l.trace);
    }

abbrev pub decreases-loop-field : goal.decreases-loop-field
decreases-loop-field l = length l.fields.rest.now
