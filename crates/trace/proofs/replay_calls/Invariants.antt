-- The loop's invariant: what the fields that are left find is what all of them find, and there are not many.
use mathlib.Core.Bool.{true}
use mathlib.Core.Path.{◌≡◌}
use Prim.Native.Nat.{◌+◌, ◌≤◌}
use lib.ListN.{length}
use Rattle.pmc330.specs.Raw.{board_of}
use Rattle.pmc330_model.specs.Board.{new_board}
use Rattle.trace.specs.Fields.{range_of, fields_of, is_undamaged, listed}
use Rattle.trace.proofs.ReplayLaws.{Replaying}
use Rattle.trace.proofs.replay_calls.Given as goal

abbrev pub invariant-loop-field : goal.invariant-loop-field
invariant-loop-field l =
    record {
      undamaged : is_undamaged (fields_of l.field-iterator.rest.now) ≡ true;
      indexed : l.index + length (listed (fields_of l.field-iterator.rest.now)) ≤ 16_777_216;
      counted : l.count + length (listed (fields_of l.field-iterator.rest.now)) ≤ 16_777_216;
      replays : Replaying l.trace.trace.now (new_board (range_of l.trace.trace.now)) (board_of l.board) (listed (fields_of l.field-iterator.rest.now)) l.index l.count l.answer;
    }
