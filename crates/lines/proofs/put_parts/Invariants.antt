-- So many parts are put.
use Rattle.std.proofs.Common.{take, flat_map}
use Rattle.lines.specs.Text.{Begins}
use Rattle.lines.proofs.put_parts.Given as goal

abbrev pub invariant-loop-part : goal.invariant-loop-part
invariant-loop-part l = Begins (flat_map (λ p. p.now) (take l.part-index l.parts)) l.initial.out l.out l.at
