-- A part fits where all of them do.
use Rattle.std.proofs.Common.{[], arith}
use Rattle.lines.proofs.PartLaws.{part_fits}
use Rattle.lines.proofs.put_parts.Goals as goal

pub slice_bounds-copy_from_slice-end : goal.slice_bounds-copy_from_slice-end
slice_bounds-copy_from_slice-end c =
    omega (arith, c.loop-part.invariant.counted, part_fits (λ p. p.now) c.args.parts.now c.loop-part.part-index (record { ref_ptr = (0, 0); now = [] }) c.loop-part-test.true)
