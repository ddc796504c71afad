-- The data sheet's example and some more, computed.
use mathlib.Core.Path.{refl}
use Rattle.analog.specs.Answers.{asked, answered}
use Rattle.trace.specs.Fields.{bytes_of_fields}
use Rattle.load.specs.Bits.{xor_in, xor_of, stepped}
use Rattle.load.specs.Load.{call_picked, load_calls, low_bytes, load_trace, load_answer}
use Rattle.load.specs.Sentences.{LoadExamples}

pub load_examples : LoadExamples
unfolding load_answer answered asked load_trace load_calls call_picked low_bytes bytes_of_fields stepped xor_of xor_in
load_examples =
    record {
      steps = refl;
      calls = refl;
      others = refl;
      bytes = refl;
      fits = refl;
      short = refl;
      empty = refl;
      seed_first = refl;
      range_next = refl;
    }
