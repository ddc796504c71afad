-- Each turn puts one more sum: the one before, with the code that joins.
use Rattle.std.proofs.Common.{◌≡◌, ◌<◌, add-one, arith, slice_index}
use lib.Seq.{length-take-le}
use Rattle.std.proofs.lemmas.List.{get_or-take}
use Rattle.window.proofs.WindowLaws.{summing_start, summing_turn, window_most, fills}
use Rattle.window.proofs.fill.Goals as goal
use Rattle.window.proofs.fill.Goals.{After-from-sum}

pub loop-at-init : goal.loop-at-init
loop-at-init c = summing_start _ _ _

-- the window is not full yet
earlier : (c : After-from-sum) → c.loop-at.at < c.args.full
earlier c = omega (arith, length-take-le c.args.full c.args.codes.now c.requires.within)

joins : (c : After-from-sum) → c.from-sum.result ≡ slice_index c.args.codes.now c.loop-at.at
joins c = let room = earlier c in cc (get_or-take c.args.full c.args.codes.now c.loop-at.at 0 room)

pub overflow_add-sum : goal.overflow_add-sum
overflow_add-sum c =
    let codes = c.args.codes.now in
    let turn = c.loop-at in
    let code = c.type_inv.codes in
    omega (
      arith,
      turn.invariant.total,
      window_most codes (λ i. omega (arith, code i)) c.args.full turn.at turn.invariant.within,
      joins c,
      code turn.at,
    )

pub loop-at-preserved : goal.loop-at-preserved
loop-at-preserved c =
    let full = c.args.full in
    let codes = c.args.codes.now in
    let turn = c.loop-at in
    let room = earlier c in
    let filled = fills full codes turn.at room (omega arith) in
    rw (add-one turn.at)
    (summing_turn full codes c.args.sums.now turn.sums turn.sum turn.at _ (omega arith) (omega arith)
    (omega (arith, filled, turn.invariant.total, joins c)) turn.invariant)
