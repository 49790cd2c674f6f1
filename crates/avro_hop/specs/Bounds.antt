-- How long answers are.
use Rattle.std.specs.Prelude.{ℕ, ◌*◌, ◌≤◌, List, length}
use Rattle.avro_hop.specs.declared.hop.Asked.{Asked}
use Rattle.avro_hop.specs.declared.hop.Asked.TheVariants.{Reply, Events}

-- the longest answer to a handshake, and with the error of an unknown message after it
abbrev pub max_greeting : ℕ
max_greeting = 531

abbrev pub max_reply : ℕ
max_reply = 550

-- Each event of a message takes two of its bytes at least.
abbrev pub IsBounded : List ℕ → Asked → Type 0
IsBounded message (Reply bytes) = length bytes.items ≤ max_reply
IsBounded message (Events front batch) = (length front.items ≤ max_greeting) × (2 * length batch ≤ length message)
