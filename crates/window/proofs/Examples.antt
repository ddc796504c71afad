-- The data sheet's example, computed.
use mathlib.Core.Path.{refl}
use Rattle.analog.specs.Answers.{all_met, asked, answered}
use Rattle.analog.specs.Sums.{sum_of}
use Rattle.window.specs.Sentences.{WindowExample}
use Rattle.window.specs.Window.{sums_after, window_answer, window_output}

pub window_example : WindowExample
unfolding window_output window_answer all_met asked answered sums_after sum_of
window_example = record { sums = refl; count = refl }
