-- The register at a word, by the word's class and its place, as the code has it. Nothing that a caller may cite stands here.
use Rattle.std.specs.Prelude.{ℕ, ◌-◌, ◌%◌}
use Rattle.pmc330_model.specs.declared.Register.{Register}
use Rattle.pmc330.specs.declared.map.Class.{Class}

abbrev pub register_in : Class → (word : ℕ) → Register
register_in Class.Unmapped word = Register.Unmapped
register_in Class.Interrupt word = Register.Interrupt
register_in Class.Control word = Register.Control
register_in Class.Prescaler word = Register.Prescaler
register_in Class.Timer word = Register.Timer
register_in Class.Channels word = Register.Channels
register_in Class.StartConvert word = Register.StartConvert
register_in Class.NewData word = Register.NewData (1 - word % 2)
register_in Class.MissedData word = Register.MissedData (1 - word % 2)
register_in Class.Gain word = Register.Gain (word % 4)
register_in Class.Mailbox word = Register.Mailbox (word % 32)
