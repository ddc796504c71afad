use Rattle.lines.proofs.Room.{text_fits}
use Rattle.lines.proofs.theorems.text_fits.Goals as goal

pub returns : goal.returns
returns c = text_fits
