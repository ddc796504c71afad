-- What the types of the code state: a tag its byte, and a call of theirs a call of the model.
use Rattle.std.specs.Prelude.{ℕ}
use Rattle.pmc330_model.specs.Calls.{Call, read, write, input, advance, trigger, reset, look, clear}
use Rattle.trace.specs.declared.fields.Tag.{Tag}
use Rattle.trace.specs.declared.fields.Tag.TheVariants as tag
use Rattle.trace.specs.declared.calls.Call as stated
use Rattle.trace.specs.declared.calls.Call.TheVariants.{Read, Write, Input, Advance, Trigger, Reset, Look, Clear}

-- the byte of a tag
abbrev pub byte_of : Tag → ℕ
byte_of tag.Read = 0x01
byte_of tag.Write = 0x02
byte_of tag.Input = 0x03
byte_of tag.Advance = 0x04
byte_of tag.Trigger = 0x05
byte_of tag.Reset = 0x06
byte_of tag.Look = 0x07
byte_of tag.Clear = 0x08
byte_of tag.Answer = 0x09

abbrev pub call_stated : stated.Call → Call
call_stated (Read width offset) = read width offset
call_stated (Write width offset value) = write width offset value
call_stated (Input channel microvolts) = input channel microvolts
call_stated (Advance ticks) = advance ticks
call_stated Trigger = trigger
call_stated Reset = reset
call_stated (Look slot) = look slot
call_stated (Clear slot) = clear slot
