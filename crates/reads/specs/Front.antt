-- What a reader lost of its known bytes, and where these are now.
use Rattle.std.specs.Prelude.{ℕ, ◌≤◌, List, Option, length, take}
use Rattle.std.specs.Io.KnownBytes.{Consumes}

-- some of the buffer's first bytes are those that the reader lost, and it lost no others
abbrev pub FrontConsumed : (before after : Option (List ℕ)) (buf : List ℕ) → Type 0
FrontConsumed before after buf = (n : ℕ) × (n ≤ length buf) × Consumes before after (take n buf)
