-- What the countdowns say is what the definition finds.
use mathlib.Core.Path.{sym, ap, ◌∙◌}
use Rattle.pmc330_model.specs.Board.{if_any}
use Rattle.pmc330_model.proofs.NextStores.{next_is}
use Rattle.pmc330.specs.Raw.{board_of}
use Rattle.pmc330.proofs.raw.RawBoard.next_store.Goals as goal

pub returns : goal.returns
returns c = c.ticks_to_next_store.ensures ∙ ap if_any (sym (next_is (board_of c.args.self.now)))
