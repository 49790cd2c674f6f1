-- Agents and what passes between them: their channels, what they have at hand, and each packet that was ever sent.
use Rattle.std.specs.Prelude.{ℕ, zero, suc, List, [], ◌∷◌, ◌++◌, filter, Option, Some, None, Bool, ◌&&◌, if◌then◌else◌}
use Rattle.std.specs.Cmp.Lexicographic.{pointwise}
use Rattle.std.specs.Str.{bytes_eq}
use Rattle.event_core.specs.Content.{Header, Content}
use Rattle.event_core.specs.Journal.{is_among}
use Rattle.event_core.specs.declared.journal.Entry.{Entry}
use Rattle.channel_face.specs.Token.{Token}
use Rattle.channel_face.specs.Machine.{State}

-- A connection, and the serial of a request on it.
pub record Tag : Type 0 where
  pub connection : ℕ
  pub serial : ℕ

-- What makes a take final: an output place of the node, or an acknowledgement of a later node (the node, and the place there).
pub data Delivery : Type 0 where
  Output : ℕ → Delivery
  Acked : ℕ → ℕ → Delivery

-- A file channel, and what its sinks are.
pub record Channel : Type 0 where
  pub state : State
  -- the entries that were settled
  pub journal : List Entry
  -- beside each commit the delivery that it names, or none beside puts
  pub named : List (Option Delivery)
  -- the nodes to which its sinks point, and whether a last sink takes from it
  pub later : List ℕ
  pub last : Bool

-- what is settled, and what is staged
abbrev pub commits : Channel → List Entry
commits c = c.journal ++ c.state.staged

-- A batch that was asked for, the events that the chain made of it, and the entries that store them so far: of each its channel and its
-- place among that channel's commits. An acknowledgement is a work that is done.
pub record Work : Type 0 where
  pub batch : List Content
  pub tag : Tag
  pub made : List Content
  pub entries : List (ℕ × ℕ)

-- An open take of a channel and the events that it gave, the tag of its request once this was sent, and its delivery once it has one.
pub record Attempt : Type 0 where
  pub channel : ℕ
  pub token : Token
  pub events : List Content
  pub tag : Option Tag
  pub delivery : Option Delivery

-- An agent.
pub record Node : Type 0 where
  -- the selector: the channels that an event has to reach
  pub required : List (Content × List ℕ)
  pub channels : List Channel
  pub acks : List Work
  -- what the last sinks took
  pub outputs : List (List Content)
  -- by number; one that ended is none
  pub works : List (Option Work)
  pub attempts : List (Option Attempt)

-- What is sent: a request for a node, with its batch; or an OK, which names the acknowledgement of a node at a place.
pub data Packet : Type 0 where
  Request : ℕ → Tag → List Content → Packet
  Reply : Tag → ℕ → ℕ → Packet

-- The agents, and what they sent.
pub record World : Type 0 where
  pub nodes : List Node
  -- all packets that were ever sent
  pub sent : List Packet

-- two headers are equal, byte by byte
abbrev pub is_same_header : Header → Header → Bool
is_same_header a b = bytes_eq a.0 b.0 && bytes_eq a.1 b.1

-- two events are equal: their headers in order, and their bodies
abbrev pub is_same_event : Content → Content → Bool
is_same_event a b = pointwise is_same_header a.headers b.headers && bytes_eq a.body b.body

-- the channels that an event has to reach: those of the first pair with an equal event, or none
abbrev pub required_of : List (Content × List ℕ) → Content → List ℕ
required_of [] e = []
required_of (pair ∷ required) e = if is_same_event pair.0 e then pair.1 else required_of required e

-- the share of a channel: those of the events that have to reach it
abbrev pub share : Node → List Content → ℕ → List Content
share node made channel = filter (λ e. is_among (required_of node.required e) channel) made

-- the function of what is there, or none
abbrev pub and_then : {A B : Type 0} → Option A → (A → Option B) → Option B
and_then None f = None
and_then (Some x) f = f x

-- the work or attempt of this number, unless it ended
abbrev pub live : {A : Type 0} → List (Option A) → ℕ → Option A
live [] number = None
live (x ∷ xs) zero = x
live (x ∷ xs) (suc number) = live xs number
