-- A whole connection: its messages, the verdicts on their events, and its replies.
use Rattle.std.specs.Prelude.{◌≡◌, ℕ, List, [], ◌∷◌, ◌++◌, map, Bool, Ok, Err}
use Rattle.avro_hop.specs.declared.hop.Asked.{Asked}
use Rattle.avro_hop.specs.declared.hop.Asked.TheVariants.{Reply, Events}
use Rattle.avro_hop.specs.declared.hop.HopRefused.{HopRefused}
use Rattle.avro_hop.specs.declared.hop.HopRefused.TheVariants.{NoMemory}
use Rattle.avro_hop.specs.declared.respond.Status.{Status}
use Rattle.avro_hop.specs.Calls.{response}
use Rattle.avro_hop.specs.Dialogue.{Answers}

-- how a connection stands after its messages: it waits for one, before or after its handshake, or a message ended it
pub data Standing : Type 0 where
  Waits : Bool → Standing
  Ended : HopRefused → Standing

-- What is sent for an answer, and the verdicts that it takes: none, or one where events wait for it.
abbrev pub Sends : Asked → List Status → List ℕ → Type 0
Sends (Reply bytes) verdicts reply = (verdicts ≡ []) × (reply ≡ bytes.items)
Sends (Events front batch) verdicts reply = (status : Status) × (verdicts ≡ status ∷ []) × (reply ≡ front.items ++ response status)

-- Whether the handshake was made before; the messages, each a serial and a payload; the verdicts on their events, in order; the replies; and how the connection stands after them. One that ends when out of memory has the dialogue of the messages before.
pub data IsDialogue : Bool → List (ℕ × List ℕ) → List Status → List (ℕ × List ℕ) → Standing → Type 0 where
  Silent : (greeted : Bool) → IsDialogue greeted [] [] [] (Waits greeted)
  -- a reply has the serial of its message
  Answered : (greeted after : Bool) (serial : ℕ) (payload reply : List ℕ) (asked : Asked) (told verdicts : List Status) (messages replies : List (ℕ × List ℕ)) (end : Standing) → Answers greeted payload (Ok asked) after → Sends asked told reply → IsDialogue after messages verdicts replies end → IsDialogue greeted ((serial, payload) ∷ messages) (told ++ verdicts) ((serial, reply) ∷ replies) end
  -- the first message that is refused is not answered, nor is any after it
  Refused : (greeted after : Bool) (serial : ℕ) (payload : List ℕ) (messages : List (ℕ × List ℕ)) (e : HopRefused) → (e ≡ NoMemory → ⊥) → Answers greeted payload (Err e) after → IsDialogue greeted ((serial, payload) ∷ messages) [] [] (Ended e)

-- Messages and verdicts have one dialogue.
abbrev pub OneDialogue : Type 0
OneDialogue = (greeted : Bool) (messages : List (ℕ × List ℕ)) (verdicts : List Status) (replies others : List (ℕ × List ℕ)) (end other : Standing) → IsDialogue greeted messages verdicts replies end → IsDialogue greeted messages verdicts others other → (replies ≡ others) × (end ≡ other)

-- A dialogue goes on where it stands.
abbrev pub DialoguesJoin : Type 0
DialoguesJoin = (greeted after : Bool) (messages more : List (ℕ × List ℕ)) (verdicts further : List Status) (replies later : List (ℕ × List ℕ)) (end : Standing) → IsDialogue greeted messages verdicts replies (Waits after) → IsDialogue after more further later end → IsDialogue greeted (messages ++ more) (verdicts ++ further) (replies ++ later) end

abbrev pub serials : List (ℕ × List ℕ) → List ℕ
serials messages = map (λ m. m.0) messages

-- A connection that waits has answered each message once, in order and under its serial.
abbrev pub SerialsAreKept : Type 0
SerialsAreKept = (greeted after : Bool) (messages : List (ℕ × List ℕ)) (verdicts : List Status) (replies : List (ℕ × List ℕ)) → IsDialogue greeted messages verdicts replies (Waits after) → serials replies ≡ serials messages

-- the message that ended a connection, and those before it, which were answered
pub record EndsAt (greeted : Bool) (messages : List (ℕ × List ℕ)) (verdicts : List Status) (replies : List (ℕ × List ℕ)) (e : HopRefused) : Type 0 where
  pub answered : List (ℕ × List ℕ)
  pub serial : ℕ
  pub payload : List ℕ
  pub behind : List (ℕ × List ℕ)
  pub before : Bool
  pub after : Bool
  pub whole : messages ≡ answered ++ (serial, payload) ∷ behind
  pub dialogue : IsDialogue greeted answered verdicts replies (Waits before)
  pub refused : Answers before payload (Err e) after

-- A connection that ended did so at a message that is refused, and nothing after it counts.
abbrev pub EndsAreFinal : Type 0
EndsAreFinal = (greeted : Bool) (messages more : List (ℕ × List ℕ)) (verdicts : List Status) (replies : List (ℕ × List ℕ)) (e : HopRefused) → IsDialogue greeted messages verdicts replies (Ended e) → EndsAt greeted messages verdicts replies e × IsDialogue greeted (messages ++ more) verdicts replies (Ended e)
