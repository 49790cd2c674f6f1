-- What the accounting says of an acknowledged event, of a delivery and of a number, in their own words.
use Rattle.std.specs.Prelude.{◌≡◌, ◌<◌, ◌⊎◌, ℕ, zero, suc, List, slice_get, Some, true}
use Rattle.event_core.specs.Content.{Content}
use Rattle.event_core.specs.Journal.{is_among, put_events}
use Rattle.event_core.specs.declared.journal.Entry.{Entry}
use Rattle.event_core.specs.declared.journal.Entry.TheVariants.{Takes}
use Rattle.world_laws.specs.World.{World, Node, Work, Channel, Delivery, Output, Acked, commits, required_of}
use Rattle.world_laws.specs.Held.{IsAck, IsOutput, AtNode, AtChannel}

-- the event is among these
abbrev pub IsIn : List Content → Content → Type 0
IsIn events e = (i : ℕ) × (slice_get events i ≡ Some e)

-- it is left in the channel, under some number
abbrev pub IsLeft : Channel → Content → Type 0
IsLeft c e = (i number : ℕ) × (slice_get c.state.items i ≡ Some (number, e))

-- the entry at this place takes the number, at this place in it
abbrev pub IsTakenAt : List Entry → ℕ → ℕ → ℕ → Type 0
IsTakenAt entries number place i = (numbers : List ℕ) × (slice_get entries place ≡ Some (Takes numbers)) × (slice_get numbers i ≡ Some number)

-- a take of it was committed and settled, and names this delivery
pub record WasTakenFor (c : Channel) (e : Content) (delivery : Delivery) : Type 0 where
  pub number : ℕ
  pub put : slice_get (put_events c.journal) number ≡ Some e
  pub place : ℕ
  pub at : ℕ
  pub taken : IsTakenAt c.journal number place at
  pub names : slice_get c.named place ≡ Some (Some delivery)

-- It is left; or its committed take names an output place of the node with it, which a last sink took; or an acknowledgement of a node to
-- which the channel's sinks point, of a batch with it and of which Rest is true.
abbrev pub StandsOr : (World → ℕ → Work → Type 0) → World → ℕ → Channel → Content → Type 0
StandsOr Rest w n c e =
    IsLeft c e
    ⊎ ((place : ℕ) × (events : List Content) × WasTakenFor c e (Output place) × (c.last ≡ true)
    × IsOutput w n place events × IsIn events e)
    ⊎ ((m place : ℕ) × (ack : Work) × WasTakenFor c e (Acked m place) × (is_among c.later m ≡ true)
    × IsAck w m place ack × IsIn ack.batch e × Rest w m ack)

-- so it is with each event that the chain made of an acknowledged batch, in each channel that it has to reach: there is such a channel
abbrev pub EachStands : (World → ℕ → Work → Type 0) → World → ℕ → Work → Type 0
EachStands Rest w n ack =
    (node : Node) (channel : ℕ) (e : Content) → AtNode w n node → IsIn ack.made e → is_among (required_of node.required e) channel ≡ true
    → (c : Channel) × (slice_get node.channels channel ≡ Some c) × StandsOr Rest w n c e

-- whatever the other node does with the batch
abbrev pub Anything : World → ℕ → Work → Type 0
Anything w n ack = Unit {0}

-- each is left or ended at a last sink within so many hops: where it went on, the other node's acknowledged batch is kept within one less
abbrev pub KeptWithin : ℕ → World → ℕ → Work → Type 0
KeptWithin zero w n ack = ⊥
KeptWithin (suc hops) w n ack = EachStands (KeptWithin hops) w n ack

-- each channel that the selector of a node names is one of its channels
abbrev pub ChannelsAreThere : World → Type 0
ChannelsAreThere w =
    (n channel : ℕ) (node : Node) (e : Content) → AtNode w n node → is_among (required_of node.required e) channel ≡ true
    → (c : Channel) × (slice_get node.channels channel ≡ Some c)

-- the nodes to which the sinks of a node's channels point come after it, so links have no cycle
abbrev pub LinksRise : World → Type 0
LinksRise w = (n channel m : ℕ) (c : Channel) → AtChannel w n channel c → is_among c.later m ≡ true → n < m

-- No two commits name one acknowledgement, and no two of a node one output place.
pub record NoneIsNamedTwice (w : World) : Type 0 where
  pub acks :
      (n m channel other i j to place : ℕ) (c d : Channel) → AtChannel w n channel c → AtChannel w m other d
      → slice_get c.named i ≡ Some (Some (Acked to place)) → slice_get d.named j ≡ Some (Some (Acked to place))
      → (n ≡ m) × (channel ≡ other) × (i ≡ j)
  pub outputs :
      (n channel other i j place : ℕ) (c d : Channel) → AtChannel w n channel c → AtChannel w n other d
      → slice_get c.named i ≡ Some (Some (Output place)) → slice_get d.named j ≡ Some (Some (Output place))
      → (channel ≡ other) × (i ≡ j)

-- the number is left with its event, and no settled take has it
pub record IsStillLeft (c : Channel) (number : ℕ) (e : Content) : Type 0 where
  pub at : ℕ
  pub left : slice_get c.state.items at ≡ Some (number, e)
  pub untaken : (place i : ℕ) → IsTakenAt c.journal number place i → ⊥

-- it was taken by one settled take, and by no other commit, staged or settled; and it is not left
pub record WasTakenOnce (c : Channel) (number : ℕ) : Type 0 where
  pub place : ℕ
  pub at : ℕ
  pub taken : IsTakenAt c.journal number place at
  pub once : (other i : ℕ) → IsTakenAt (commits c) number other i → (other ≡ place) × (i ≡ at)
  pub gone : (i : ℕ) (e : Content) → slice_get c.state.items i ≡ Some (number, e) → ⊥
