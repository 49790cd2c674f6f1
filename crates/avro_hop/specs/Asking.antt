-- What a client asks on a connection (Avro specification, "Handshake", "Call Format").
use Rattle.std.specs.Prelude.{◌≡◌, ◌⊎◌, ◌<◌, ◌≤◌, ℕ, ◌^◌, Bool, true, false, not, List, [], ◌++◌, length, Result, Ok, Err}
use Rattle.std.specs.declared.vec.Vec.{Vec}
use Rattle.std.specs.declared.alloc.Global.{Global}
use Rattle.std.specs.List.{AllByRecursion, sum_by}
use Rattle.event_core.specs.Content.{Content, size}
use Rattle.avro_binary.specs.Written.{written_bytes, written_map, written_batch}
use Rattle.avro_binary.specs.Laws.{FitsMemory, AreSmall}
use Rattle.avro_hop.specs.declared.handshake.Match.TheVariants.{Both}
use Rattle.avro_hop.specs.declared.hop.Asked.{Asked}
use Rattle.avro_hop.specs.declared.hop.Asked.TheVariants.{Events}
use Rattle.avro_hop.specs.declared.hop.HopRefused.{HopRefused}
use Rattle.avro_hop.specs.declared.hop.HopRefused.TheVariants.{NoMemory}
use Rattle.avro_hop.specs.Handshake.{own_text, own_hash, written_null, written_some, greeting}
use Rattle.avro_hop.specs.Calls.{append_batch}
use Rattle.avro_hop.specs.Dialogue.{Answers}

-- this agent's hash and text, its own hash for the server's too, and no metadata
abbrev pub own_request : List ℕ
own_request = own_hash ++ (written_some (written_bytes own_text) ++ (own_hash ++ written_null))

-- no metadata, the name of the message, and the events
abbrev pub batch_call : List Content → List ℕ
batch_call events = written_map [] ++ (written_bytes append_batch ++ written_batch events)

-- the payload of a request; a connection's first has the handshake in front
abbrev pub asking : Bool → List Content → List ℕ
asking true events = own_request ++ batch_call events
asking false events = batch_call events

-- the front of the answer
abbrev pub opening : Bool → List ℕ
opening true = greeting Both
opening false = []

-- these events wait for their verdict after the handshake, and it was made
abbrev pub Takes : Bool → List Content → Result Asked HopRefused → Bool → Type 0
Takes first events result after =
    (front : Vec ℕ Global) × (batch : List Content) × (result ≡ Ok (Events front batch))
    × (front.items ≡ opening first) × (batch ≡ events) × (after ≡ true)

-- A server of this agent is asked for just these events, except when out of memory.
abbrev pub IsAskedFor : Type 0
IsAskedFor =
    (first : Bool) (events : List Content) (result : Result Asked HopRefused) (after : Bool)
    → length events < 2 ^ 63 → AllByRecursion FitsMemory events → AreSmall events
    → Answers (not first) (asking first events) result after
    → Takes first events result after ⊎ (result ≡ Err NoMemory)

-- A request fits into a pack of 67,108,864 bytes where its events have less than 50,331,648 bytes of size. So a sink's
-- batch does: another event is taken while those before have less than 16,777,216.
abbrev pub FitsPack : Type 0
FitsPack =
    (first : Bool) (events : List Content)
    → AreSmall events → sum_by size events < 50_331_648 → length (asking first events) ≤ 67_108_864
