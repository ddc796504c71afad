-- The loop's invariant: what is written, and what the fields that are left will write.
use mathlib.Core.Bool.{true}
use mathlib.Core.Path.{◌≡◌}
use Rattle.pmc330.specs.Raw.{board_of}
use Rattle.pmc330_model.specs.Board.{new_board}
use Rattle.trace.specs.Fields.{range_of, fields_of, is_undamaged, listed}
use Rattle.trace.proofs.PlayLaws.{Playing}
use Rattle.trace.proofs.play_calls.Given as goal

abbrev pub invariant-loop-field : goal.invariant-loop-field
invariant-loop-field l =
    record {
      undamaged : is_undamaged (fields_of l.field-iterator.rest.now) ≡ true;
      plays : Playing l.trace.trace.now l.initial.answers (new_board (range_of l.trace.trace.now)) l.answers (board_of l.board) (listed (fields_of l.field-iterator.rest.now)) l.done;
    }
