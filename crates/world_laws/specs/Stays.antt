-- What no step takes back: what was acknowledged, settled, taken by a last sink or sent; and the settings.
use Rattle.std.specs.Prelude.{◌≡◌, ◌++◌, ℕ, List, slice_get, Some}
use Rattle.event_core.specs.Content.{Content}
use Rattle.event_core.specs.declared.journal.Entry.{Entry}
use Rattle.world_laws.specs.World.{Channel, Work, Node, Packet, World}
use Rattle.world_laws.specs.Held.{AtNode}

-- what was settled in a channel begins what is settled later, and its sinks stay
pub record ChannelGoesOn (c d : Channel) : Type 0 where
  pub journal : (settled : List Entry) × (d.journal ≡ c.journal ++ settled)
  pub later : d.later ≡ c.later
  pub last : d.last ≡ c.last

-- a node keeps its selector, each acknowledgement and output place, and each of its channels goes on
pub record NodeGoesOn (old new : Node) : Type 0 where
  pub required : new.required ≡ old.required
  pub acks : (place : ℕ) (ack : Work) → slice_get old.acks place ≡ Some ack → slice_get new.acks place ≡ Some ack
  pub outputs : (place : ℕ) (events : List Content) → slice_get old.outputs place ≡ Some events → slice_get new.outputs place ≡ Some events
  pub channels :
      (place : ℕ) (c : Channel) → slice_get old.channels place ≡ Some c
      → (d : Channel) × (slice_get new.channels place ≡ Some d) × ChannelGoesOn c d

-- each node goes on, and each packet stays sent
pub record GoesOn (w v : World) : Type 0 where
  pub sent : (more : List Packet) × (v.sent ≡ w.sent ++ more)
  pub nodes : (n : ℕ) (node : Node) → AtNode w n node → (new : Node) × AtNode v n new × NodeGoesOn node new
