-- Each turn joins one more digit, and the word stays small.
use Prim.Native.Nat.{◌+◌, ◌*◌, ◌≤◌}
use native.Mathlib.Nat.{le_trans}
use mathlib.Core.Path.{◌≡◌, refl, ap, ◌∙◌}
use native.Mathlib.Omega.{arith}
use lib.ListN.{get_or, length}
use Rattle.pmc330_model.specs.Words.{joined}
use Rattle.pmc330.proofs.WordLaws.{weighed_start, weighed_turn, weight_within, weighed_fits, joined_turn}
use Rattle.pmc330.proofs.words.joined.Given.{Over}
use Rattle.pmc330.proofs.words.joined.Goals as goal
use Rattle.pmc330.proofs.words.joined.Goals.{After-from}

pub loop-byte-init : goal.loop-byte-init
unfolding joined
loop-byte-init g c = record { weighed = weighed_start _; joins = λ f reads. refl }

-- the word after the turn, and what the digit after it counts
small : (g : Over) (c : After-from g) → c.loop-byte.word + c.from.result * c.loop-byte.weight ≤ 255 * 65_536
small g c =
    weighed_fits c.args.base c.from.result _ _ _ c.requires.fits.0 (omega arith) c.loop-byte.invariant.weighed _ c.loop-byte-test.true c.requires.fits.1

next : (g : Over) (c : After-from g) → c.loop-byte.weight * c.args.base ≤ 65_536
next g c =
    le_trans
    (weight_within c.args.base c.from.result _ _ _ c.requires.fits.0 (omega arith) c.loop-byte.invariant.weighed _ c.loop-byte-test.true)
    c.requires.fits.1

pub overflow_mul-word : goal.overflow_mul-word
overflow_mul-word g c = omega (arith, small g ((goal.at.overflow_mul-word g c).After-from))

pub overflow_add-word : goal.overflow_add-word
overflow_add-word g c = omega (arith, small g ((goal.at.overflow_add-word g c).After-from))

pub overflow_mul-weight : goal.overflow_mul-weight
overflow_mul-weight g c = omega (arith, next g ((goal.at.overflow_mul-weight g c).After-from))

pub loop-byte-preserved : goal.loop-byte-preserved
loop-byte-preserved g c = record {
  weighed = weighed_turn c.args.base c.from.result _ _ _ c.requires.fits.0 (omega arith) c.loop-byte.invariant.weighed;
  joins = λ f reads. rw (c.from.ensures, reads _ _ (c.type_inv.bytes _).fits c.digit.ensures)
      (joined_turn c.args.base (λ i. f (get_or c.args.bytes.now i 0)) _ _ _ c.loop-byte.invariant.weighed.counts (c.loop-byte.invariant.joins f reads));
}

pub returns : goal.returns
returns g c = λ f reads.
    let all : c.loop-byte.byte-index ≡ length c.args.bytes.now = omega arith in
    c.loop-byte.invariant.joins f reads ∙ ap (joined c.args.base (λ i. f (get_or c.args.bytes.now i 0))) all
