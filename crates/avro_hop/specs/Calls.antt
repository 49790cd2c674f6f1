-- Calls and their responses (Avro specification, "Call Format").
use Rattle.std.specs.Prelude.{◌≡◌, ℕ, List, [], ◌∷◌, ◌++◌, length, true, false, IsSome, None, codes, pos}
use Rattle.event_core.specs.Content.{Content}
use Rattle.avro_binary.specs.Fault.{Fault, shift}
use Rattle.avro_binary.specs.Value.{IsText, TextFault}
use Rattle.avro_binary.specs.Items.{IsMeta, MetaFault}
use Rattle.avro_binary.specs.Event.{IsEvent, EventFault, IsBatch, BatchFault, first_large}
use Rattle.avro_binary.specs.Written.{written_number, written_boolean, written_bytes, written_map}
use Rattle.avro_hop.specs.declared.hop.Asked.{Asked}
use Rattle.avro_hop.specs.declared.hop.Asked.TheVariants.{Reply, Events}
use Rattle.avro_hop.specs.declared.respond.Status.{Status}
use Rattle.avro_hop.specs.declared.respond.Status.TheVariants.{Ok, Failed, Unknown}
use Rattle.avro_hop.specs.Parts.{IsPair, PairFault, WholeFault}

abbrev pub append : List ℕ
append = codes "append"

abbrev pub append_batch : List ℕ
append_batch = codes "appendBatch"

pub data Call : Type 0 where
  -- an empty name, which only ends a handshake
  Nothing : Call
  -- a name that is no message of the protocol
  Other : Call
  -- events to take
  Takes : List Content → Call

-- metadata, which is left aside, and the message's name
abbrev pub IsHead : List ℕ → List ℕ → Type 0
IsHead bytes name = (meta : List (List ℕ × List ℕ)) × IsPair IsMeta IsText bytes meta name

abbrev pub HeadFault : List ℕ → Fault → Type 0
HeadFault bytes f = PairFault IsMeta MetaFault TextFault bytes f

-- one event
abbrev pub IsOne : List ℕ → List Content → Type 0
IsOne bytes events = (event : Content) × IsEvent bytes event × (events ≡ event ∷ [])

-- What a message of this name asks with these bytes. After an empty or an unknown name all is left aside.
pub data Asks (name bytes : List ℕ) : Call → Type 0 where
  Empty : name ≡ [] → Asks name bytes Nothing
  Strange : (name ≡ [] → ⊥) → (name ≡ append → ⊥) → (name ≡ append_batch → ⊥) → Asks name bytes Other
  One : (events : List Content) → name ≡ append → IsOne bytes events → Asks name bytes (Takes events)
  Many : (events : List Content) → name ≡ append_batch → IsBatch bytes events → Asks name bytes (Takes events)

pub data ParameterFault (name bytes : List ℕ) (f : Fault) : Type 0 where
  OfOne : name ≡ append → WholeFault IsEvent EventFault bytes f → ParameterFault name bytes f
  OfMany : name ≡ append_batch → WholeFault IsBatch BatchFault bytes f → ParameterFault name bytes f

pub record IsCall (bytes : List ℕ) (call : Call) : Type 0 where
  pub head : List ℕ
  pub rest : List ℕ
  pub name : List ℕ
  pub whole : bytes ≡ head ++ rest
  pub named : IsHead head name
  pub asks : Asks name rest call

-- the head's fault, or one after it
pub data CallFault (bytes : List ℕ) (f : Fault) : Type 0 where
  InHead : HeadFault bytes f → CallFault bytes f
  InParameter : (head rest name : List ℕ) (inner : Fault) → bytes ≡ head ++ rest → IsHead head name → ParameterFault name rest inner → f ≡ shift (length head) inner → CallFault bytes f

-- ---- responses: no metadata, the error flag, and the Status or the error

abbrev pub status_index : Status → ℕ
status_index Ok = 0
status_index Failed = 1
status_index Unknown = 2

abbrev pub response : Status → List ℕ
response status = written_map [] ++ (written_boolean false ++ written_number (pos (status_index status)))

abbrev pub unknown_message : List ℕ
unknown_message = written_map [] ++ (written_boolean true ++ (written_number (pos 0) ++ written_bytes (codes "unknown message")))

-- What is answered after these bytes of a handshake. The events of a call wait for their verdict, unless one is too large.
abbrev pub IsAsked : List ℕ → Call → Asked → Type 0
IsAsked front Nothing (Reply bytes) = bytes.items ≡ front
IsAsked front Nothing (Events front' batch) = ⊥
IsAsked front Other (Reply bytes) = bytes.items ≡ front ++ unknown_message
IsAsked front Other (Events front' batch) = ⊥
IsAsked front (Takes events) (Reply bytes) = IsSome (first_large events) × (bytes.items ≡ front ++ response Failed)
IsAsked front (Takes events) (Events front' batch) = (front'.items ≡ front) × (batch ≡ events) × (first_large events ≡ None)
