-- The text is made from the bytes that were read, which are the input's first.
use Rattle.std.proofs.Common.{rules, ℕ, List, ◌≡◌, length, take, ap₂}
use Rattle.reads.proofs.Known.{appends_of_known}
use Rattle.pmc330_run.specs.Printed.{outcome_text, printed_of}
use Rattle.pmc330_run.proofs.run.Goals as goal

pub returns : goal.returns
returns g c =
    let bytes : List ℕ = c.read_full.new.buf in
    let size : length bytes ≡ 32768 = search rules in
    appends_of_known _ _ _ _ 32768 (take c.in_ok-n.n bytes) _ printed_of
    (rw size at c.in_ok-n.ensures.front)
    (ap₂ outcome_text c.play-played.ensures.result c.play-played.ensures.buffer) c.print.ensures
