-- The line is that of the bytes that were read, which are the input's first.
use Rattle.std.proofs.Common.{rules, ℕ, List, ◌≡◌, length, take, ap, ◌∙◌}
use Rattle.reads.proofs.Known.{appends_of_known}
use Rattle.trace.specs.Replay.{replayed}
use Rattle.pmc330_replay.specs.Printed.{printed_of}
use Rattle.pmc330_replay.proofs.run.Goals as goal

pub returns : goal.returns
returns g c =
    let bytes : List ℕ = c.read_full.new.buf in
    let size : length bytes ≡ 32768 = search rules in
    appends_of_known _ _ _ _ 32768 (take c.in_ok-n.n bytes) _ (λ read. printed_of (replayed read))
    (rw size at c.in_ok-n.ensures.front) (c.line_of.ensures ∙ ap printed_of c.replay.ensures) c.write_to.ensures
