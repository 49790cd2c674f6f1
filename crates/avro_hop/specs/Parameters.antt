-- What the readers of a call's parameter answer.
use Rattle.std.specs.Prelude.{◌≡◌, ◌+◌, ◌++◌, ℕ, List, IsSome, None, Result, Ok, Err, drop, if◌then◌else◌, nat_lt}
use Rattle.event_core.specs.Content.{Content}
use Rattle.avro_binary.specs.declared.refused.ValueRefused.{ValueRefused}
use Rattle.avro_binary.specs.declared.refused.ValueRefused.TheVariants.{Short, Bad, TooLarge}
use Rattle.avro_binary.specs.declared.refused.ValueRefused.TheVariants as values
use Rattle.avro_binary.specs.Fault.{Fault}
use Rattle.avro_binary.specs.Event.{first_large}
use Rattle.avro_hop.specs.declared.call.Unread.{Unread}
use Rattle.avro_hop.specs.declared.call.Unread.TheVariants.{At, Large, NoMemory}
use Rattle.avro_hop.specs.declared.hop.Asked.{Asked}
use Rattle.avro_hop.specs.declared.hop.Asked.TheVariants.{Reply, Events}
use Rattle.avro_hop.specs.declared.hop.HopRefused.{HopRefused}
use Rattle.avro_hop.specs.declared.hop.HopRefused.TheVariants as hops
use Rattle.avro_hop.specs.declared.respond.Status.TheVariants.{Failed}
use Rattle.avro_hop.specs.Parts.{place}
use Rattle.avro_hop.specs.Calls.{Call, IsCall, CallFault, IsAsked, response}

-- the events that all of the bytes from the offset on are, none too large
abbrev pub ReadsAll : (List ℕ → List Content → Type 0) → (List ℕ → Fault → Type 0) → List ℕ → ℕ → Result (List Content) Unread → Type 0
ReadsAll Spells Faults bytes at (Ok events) = Spells (drop at bytes) events × (first_large events ≡ None)
ReadsAll Spells Faults bytes at (Err (At field)) = (f : Fault) × Faults (drop at bytes) f × (field ≡ at + place f)
ReadsAll Spells Faults bytes at (Err Large) = (events : List Content) × Spells (drop at bytes) events × IsSome (first_large events)
ReadsAll Spells Faults bytes at (Err NoMemory) = Unit {0}

-- a byte after a value with too large an event is at fault
abbrev pub unread_of : ℕ → ValueRefused → Unread
unread_of len (Short field need) = At field
unread_of len (Bad field) = At field
unread_of len (TooLarge size end) = if nat_lt end len then At end else Large
unread_of len values.NoMemory = NoMemory

-- what a call of these events asks, after the front of its payload
abbrev pub AsksFor : List ℕ → Result (List Content) Unread → Result Asked HopRefused → Type 0
AsksFor front (Ok events) (Ok (Events front' batch)) = (front'.items ≡ front) × (batch ≡ events)
AsksFor front (Ok events) (Ok (Reply bytes)) = ⊥
AsksFor front (Ok events) (Err e) = ⊥
AsksFor front (Err Large) (Ok (Reply bytes)) = bytes.items ≡ front ++ response Failed
AsksFor front (Err Large) (Ok (Events front' batch)) = ⊥
AsksFor front (Err Large) (Err e) = e ≡ hops.NoMemory
AsksFor front (Err (At at)) result = result ≡ Err (hops.BadHandshake at)
AsksFor front (Err NoMemory) result = result ≡ Err hops.NoMemory

-- what the call at an offset asks
abbrev pub CallsAt : List ℕ → List ℕ → ℕ → Result Asked HopRefused → Type 0
CallsAt front bytes at (Ok asked) = (call : Call) × IsCall (drop at bytes) call × IsAsked front call asked
CallsAt front bytes at (Err (hops.BadHandshake place_of)) = (f : Fault) × CallFault (drop at bytes) f × (place_of ≡ at + place f)
CallsAt front bytes at (Err hops.OtherProtocol) = ⊥
CallsAt front bytes at (Err hops.NoMemory) = Unit {0}
