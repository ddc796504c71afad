-- A walk over the fields after the heading.
use Rattle.std.specs.Prelude.{◌≡◌, false, Option, None, Some}
use Rattle.trace.specs.Fields.{is_later_field}
use Rattle.trace.specs.Machine.{SplitsField}
use Rattle.trace.specs.Stated.{byte_of}
use Rattle.trace.specs.declared.fields.Field.{Field}
use Rattle.trace.specs.declared.fields.LaterFields.{LaterFields}

-- the first field of the bytes that are left, or none where no later field stands first
abbrev pub GivesField : LaterFields → Option Field → LaterFields → Type 0
GivesField old None new = (is_later_field old.rest.now ≡ false) × (new.rest.now ≡ old.rest.now)
GivesField old (Some field) new = SplitsField old.rest.now (byte_of field.tag) field.body.now new.rest.now
