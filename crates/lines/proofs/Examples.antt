-- Lines, computed.
use mathlib.Core.Path.{refl}
use Rattle.lines.specs.Text.{digits_of, decimal_in, refused_of, agree_of, differs_of, LineExamples}

pub line_examples : LineExamples
unfolding digits_of decimal_in refused_of agree_of differs_of
line_examples = record { first = refl; sixth = refl; last = refl; refused = refl; agree = refl; differs = refl }
