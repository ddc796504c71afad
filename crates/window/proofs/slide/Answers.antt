-- Each turn puts one more sum: the one before, with the code that joins and without the oldest.
use Rattle.std.proofs.Common.{◌≡◌, ◌+◌, ◌-◌, ◌<◌, suc, add-one, add-zero, add-suc, arith, length, drop, slice_index}
use lib.Seq.{length-take-le}
use lib.ListN.{length-drop}
use Rattle.std.proofs.lemmas.List.{get_or-take, get_or-drop}
use Rattle.analog.specs.Sums.{sum_of}
use Rattle.window.specs.Window.{window_after}
use Rattle.window.proofs.WindowLaws.{summing_from, summing_turn, window_most, slides}
use Rattle.window.proofs.slide.Goals as goal
use Rattle.window.proofs.slide.Goals.{After-from}

pub loop-oldest-init : goal.loop-oldest-init
loop-oldest-init c = rw (add-zero c.args.full) (summing_from c.args.full c.args.codes.now c.args.sums.now c.args.filled c.requires)

-- the code that joins stands N places after the oldest
earlier : (c : After-from) → c.args.full + c.loop-oldest.oldest < length c.args.codes.now
earlier c =
    let codes = c.args.codes.now in
    let size = length-drop c.args.full codes in
    omega (arith, size, length-take-le (length codes - c.args.full) (drop c.args.full codes) (omega (arith, size)))

joins : (c : After-from) → c.from.result ≡ slice_index c.args.codes.now (c.args.full + c.loop-oldest.oldest)
joins c =
    let codes = c.args.codes.now in
    let room = earlier c in
    cc (
      get_or-take (length codes - c.args.full) (drop c.args.full codes) c.loop-oldest.oldest 0 (omega (arith, room)),
      get_or-drop c.args.full codes c.loop-oldest.oldest 0,
    )

-- the sum afterwards
slid :
    (c : After-from)
    → sum_of (window_after c.args.full c.args.codes.now (suc (c.args.full + c.loop-oldest.oldest))) + slice_index c.args.codes.now c.loop-oldest.oldest
    ≡ c.loop-oldest.sum + c.from.result
slid c =
    let full = c.args.full in
    let oldest = c.loop-oldest.oldest in
    let same : full + oldest - full ≡ oldest = omega arith in
    let next = slides full c.args.codes.now (full + oldest) (omega arith) (earlier c) in
    omega (arith, c.loop-oldest.invariant.total, joins c, rw same at next)

pub overflow_add-sum : goal.overflow_add-sum
overflow_add-sum c =
    let codes = c.args.codes.now in
    let turn = c.loop-oldest in
    let code = c.type_inv.codes in
    omega (
      arith,
      c.requires.most,
      turn.invariant.total,
      window_most codes (λ i. omega (arith, code i)) c.args.full (c.args.full + turn.oldest) turn.invariant.within,
      joins c,
      code (c.args.full + turn.oldest),
    )

pub overflow_sub-sum : goal.overflow_sub-sum
overflow_sub-sum c = omega (arith, slid (goal.at.overflow_sub-sum c).After-from)

pub loop-oldest-preserved : goal.loop-oldest-preserved
loop-oldest-preserved c =
    let here = (goal.at.loop-oldest-preserved c).After-from in
    let full = c.args.full in
    let turn = c.loop-oldest in
    rw (add-one turn.oldest, add-suc full turn.oldest)
    (summing_turn full c.args.codes.now c.args.sums.now turn.sums turn.sum (full + turn.oldest) _ c.requires.room (earlier here)
    (omega (arith, slid here)) turn.invariant)
