-- What the private functions promise: how the code computes. No caller cites it.
use Rattle.std.specs.Prelude.{ℕ, ◌%◌, List, map}
use Rattle.pmc330_model.specs.Calls.{Call, read, write, input, advance, trigger, reset}
use Rattle.trace.specs.Fields.{field_bytes, bytes_of_fields}
use Rattle.load.specs.Load.{voltage_of, offset_of, load_calls, field_for}
use Rattle.load.specs.declared.Kind.{Kind}
use Rattle.load.specs.declared.Kind.TheVariants.{Read, Write, Input, Advance, Trigger, Reset}

-- the call of a kind, with its numbers from q
abbrev pub call_of_kind : Kind → (q : ℕ) → Call
call_of_kind Read q = read 16 (offset_of q)
call_of_kind Write q = write 16 (offset_of q) (q % 65_536)
call_of_kind Input q = input (q % 32) (voltage_of q)
call_of_kind Advance q = advance (q % 4_096)
call_of_kind Trigger q = trigger
call_of_kind Reset q = reset

-- the bytes of its field
abbrev pub kind_bytes : Kind → (q : ℕ) → List ℕ
kind_bytes kind q = field_bytes (field_for (call_of_kind kind q))

-- the bytes of the fields of so many calls, from an x on
abbrev pub calls_bytes : (x calls : ℕ) → List ℕ
calls_bytes x calls = bytes_of_fields (map field_for (load_calls x calls))
