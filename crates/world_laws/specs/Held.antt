-- The delivery accounting: what is true of every world to which steps lead. Its first three parts are what a reader wants of it, and
-- the others make each step keep the whole.
use Rattle.std.specs.Prelude.{◌≡◌, ℕ, List, [], ◌∷◌, length, map, slice_get, Option, Some, None, true, false}
use Rattle.event_core.specs.Content.{Content}
use Rattle.event_core.specs.Journal.{is_among, Base, IsJournal, IsWellFormed, after_journal, put_events}
use Rattle.event_core.specs.declared.journal.Entry.{Entry}
use Rattle.event_core.specs.declared.journal.Entry.TheVariants.{Puts, Takes}
use Rattle.channel_face.specs.Machine.{State, base_of, entry_of}
use Rattle.channel_face.specs.History.{Opening, Step as Made, opening, IsRun, state_after, journal}
use Rattle.channel_face.specs.Laws.{ReadsNone}
use Rattle.channel_face.specs.declared.replies.Kind.TheVariants.{File as OnFile}
use Rattle.world_laws.specs.World.{Tag, Delivery, Output, Acked, Channel, commits, Work, Attempt, Node, Request, Reply, World, share, live}
use Rattle.world_laws.specs.Channels.{is_empty}

-- What there is, by place or number.

-- the node at this place
abbrev pub AtNode : World → ℕ → Node → Type 0
AtNode w n node = slice_get w.nodes n ≡ Some node

-- the channel at this place of the node
abbrev pub AtChannel : World → ℕ → ℕ → Channel → Type 0
AtChannel w n channel c = (node : Node) × AtNode w n node × (slice_get node.channels channel ≡ Some c)

-- the attempt of this number, which has not ended
abbrev pub IsAttempt : World → ℕ → ℕ → Attempt → Type 0
IsAttempt w n number a = (node : Node) × AtNode w n node × (live node.attempts number ≡ Some a)

-- the work of this number, which has not ended
abbrev pub IsWork : World → ℕ → ℕ → Work → Type 0
IsWork w n number work = (node : Node) × AtNode w n node × (live node.works number ≡ Some work)

-- the acknowledgement at this place of the node
abbrev pub IsAck : World → ℕ → ℕ → Work → Type 0
IsAck w n place ack = (node : Node) × AtNode w n node × (slice_get node.acks place ≡ Some ack)

-- the output place holds these events
abbrev pub IsOutput : World → ℕ → ℕ → List Content → Type 0
IsOutput w n place events = (node : Node) × AtNode w n node × (slice_get node.outputs place ≡ Some events)

-- a request for the node was sent, with this tag and batch
abbrev pub IsRequest : World → ℕ → Tag → List Content → Type 0
IsRequest w n tag batch = (k : ℕ) × (slice_get w.sent k ≡ Some (Request n tag batch))

-- the entry is one of these
abbrev pub Has : List (ℕ × ℕ) → ℕ × ℕ → Type 0
Has entries e = (i : ℕ) × (slice_get entries i ≡ Some e)

-- the events that were put under these numbers
abbrev pub events_of : List Content → List ℕ → List (Option Content)
events_of put [] = []
events_of put (n ∷ numbers) = slice_get put n ∷ events_of put numbers

-- so it is with these of the channel
abbrev pub Are : Channel → List ℕ → List Content → Type 0
Are c numbers events = events_of (put_events c.journal) numbers ≡ map (λ e. Some e) events

-- Acknowledged is stored.

-- The entries of a work are of different channels, each in the channel's `log` with just the channel's share.
pub record Stores (node : Node) (log : Channel → List Entry) (work : Work) : Type 0 where
  pub apart :
      (i j : ℕ) (a b : ℕ × ℕ) → slice_get work.entries i ≡ Some a → slice_get work.entries j ≡ Some b → a.0 ≡ b.0 → i ≡ j
  pub there :
      (e : ℕ × ℕ) → Has work.entries e
      → (c : Channel) × (slice_get node.channels e.0 ≡ Some c) × (slice_get (log c) e.1 ≡ Some (Puts (share node work.made e.0)))

-- the log of what is settled; that of what is staged too is `commits`
abbrev pub journal_of : Channel → List Entry
journal_of c = c.journal

-- the work has an entry of each channel that has to take some of its events
abbrev pub PassedAll : Node → Work → Type 0
PassedAll node work =
    (channel : ℕ) (c : Channel) → slice_get node.channels channel ≡ Some c → is_empty (share node work.made channel) ≡ false
    → (place : ℕ) × Has work.entries (channel, place)

-- Each acknowledgement of the node has, for each channel that has to take some of its events, an entry in that channel's journal with just
-- the channel's share. No two name one entry.
pub record AcksAreStored (node : Node) : Type 0 where
  pub stored : (place : ℕ) (ack : Work) → slice_get node.acks place ≡ Some ack → Stores node journal_of ack
  pub passed : (place : ℕ) (ack : Work) → slice_get node.acks place ≡ Some ack → PassedAll node ack
  pub once :
      (i j : ℕ) (a b : Work) (e : ℕ × ℕ) → slice_get node.acks i ≡ Some a → slice_get node.acks j ≡ Some b
      → Has a.entries e → Has b.entries e → i ≡ j

-- The first part.
abbrev pub AcknowledgedIsStored : World → Type 0
AcknowledgedIsStored w = (n : ℕ) (node : Node) → AtNode w n node → AcksAreStored node

-- Takes are delivered.

-- the delivery is of these events, taken from this channel of the node: an output place is that of a channel with a last sink
abbrev pub IsDelivered : World → ℕ → Channel → List Content → Delivery → Type 0
IsDelivered w n c events (Output place) = (c.last ≡ true) × IsOutput w n place events
IsDelivered w n c events (Acked m place) = (ack : Work) × IsAck w m place ack × (is_among c.later m ≡ true) × (ack.batch ≡ events)

-- an entry of puts names nothing, and one of takes names a delivery of its events
abbrev pub Names : World → ℕ → Channel → Entry → Option Delivery → Type 0
Names w n c (Puts events) name = name ≡ None
Names w n c (Takes numbers) None = ⊥
Names w n c (Takes numbers) (Some delivery) = (events : List Content) × Are c numbers events × IsDelivered w n c events delivery

-- beside each commit of the channel, staged or settled, is what it names
pub record CommitsAreNamed (w : World) (n : ℕ) (c : Channel) : Type 0 where
  pub beside : length c.named ≡ length (commits c)
  pub names :
      (place : ℕ) (entry : Entry) (name : Option Delivery) → slice_get (commits c) place ≡ Some entry
      → slice_get c.named place ≡ Some name → Names w n c entry name

-- Who holds a delivery: an attempt (node, number), or a commit that names it (node, channel, place).
pub data Holder : Type 0 where
  AnAttempt : ℕ → ℕ → Holder
  ACommit : ℕ → ℕ → ℕ → Holder

-- the holder is a commit
abbrev pub IsCommit : Holder → Type 0
IsCommit (AnAttempt n number) = ⊥
IsCommit (ACommit n channel place) = Unit {0}

-- an attempt holds its tag, and a commit the tag of the acknowledgement that it names
abbrev pub HoldsTag : World → Holder → Tag → Type 0
HoldsTag w (AnAttempt n number) tag = (a : Attempt) × IsAttempt w n number a × (a.tag ≡ Some tag)
HoldsTag w (ACommit n channel place) tag =
    (c : Channel) × (m i : ℕ) × (ack : Work) × AtChannel w n channel c × (slice_get c.named place ≡ Some (Some (Acked m i)))
    × IsAck w m i ack × (ack.tag ≡ tag)

-- an attempt and a commit hold the output place of their node that is their delivery
abbrev pub HoldsOutput : World → Holder → ℕ → ℕ → Type 0
HoldsOutput w (AnAttempt n number) m place = (n ≡ m) × ((a : Attempt) × IsAttempt w n number a × (a.delivery ≡ Some (Output place)))
HoldsOutput w (ACommit n channel at) m place =
    (n ≡ m) × ((c : Channel) × AtChannel w n channel c × (slice_get c.named at ≡ Some (Some (Output place))))

-- The second part: each take entry, staged or settled, names an output place with just its events, which a last sink took, or an acknowledgement, of
-- a node to which the channel's sinks point, with just its events as batch. No two of them hold one output place or one tag, so none names
-- what another one names.
pub record TakesAreDelivered (w : World) : Type 0 where
  pub named :
      (n : ℕ) (node : Node) → AtNode w n node → (channel : ℕ) (c : Channel) → slice_get node.channels channel ≡ Some c
      → CommitsAreNamed w n c
  pub tags : (a b : Holder) (tag : Tag) → IsCommit a → IsCommit b → HoldsTag w a tag → HoldsTag w b tag → a ≡ b
  pub outputs : (a b : Holder) (n place : ℕ) → IsCommit a → IsCommit b → HoldsOutput w a n place → HoldsOutput w b n place → a ≡ b

-- Each number is left or was taken.

-- no events, and the first put gets the number 0
abbrev pub nothing : Base
nothing = record { items = []; first = 0 }

-- What is left is what the journal leaves of nothing. Each commit of takes, staged or settled, is of numbers that were left, and none is
-- taken twice; none is empty.
pub record Balances (c : Channel) : Type 0 where
  pub left : base_of c.state ≡ after_journal nothing c.journal
  pub formed : IsWellFormed nothing (commits c)
  pub full : IsJournal (commits c)

-- The third part.
abbrev pub NumbersAreLeftOrTaken : World → Type 0
NumbersAreLeftOrTaken w = (n channel : ℕ) (c : Channel) → AtChannel w n channel c → Balances c

-- Packets.

-- The fourth part: no two requests have one tag, each acknowledgement answers a request for its node, and each OK names an acknowledgement of
-- its own tag.
pub record PacketsAgree (w : World) : Type 0 where
  pub differ :
      (j k n m : ℕ) (tag : Tag) (a b : List Content) → slice_get w.sent j ≡ Some (Request n tag a)
      → slice_get w.sent k ≡ Some (Request m tag b) → j ≡ k
  pub asked : (n place : ℕ) (ack : Work) → IsAck w n place ack → IsRequest w n ack.tag ack.batch
  pub replied :
      (k n place : ℕ) (tag : Tag) → slice_get w.sent k ≡ Some (Reply tag n place) → (ack : Work) × IsAck w n place ack × (ack.tag ≡ tag)

-- Attempts.

-- the delivery of an attempt of this channel, if any, is an output place with its events, where the channel has a last sink, or an acknowledgement of
-- its own tag
abbrev pub IsDue : World → ℕ → Channel → Attempt → Option Delivery → Type 0
IsDue w n c a None = Unit {0}
IsDue w n c a (Some (Output place)) = (c.last ≡ true) × IsOutput w n place a.events
IsDue w n c a (Some (Acked m place)) = (ack : Work) × IsAck w m place ack × (a.tag ≡ Some ack.tag)

-- its open take is of just its events, and its tag, if any, is that of a request with them for a node to which the channel's sinks point
pub record AttemptAgrees (w : World) (n : ℕ) (c : Channel) (a : Attempt) : Type 0 where
  pub numbers : List ℕ
  pub alive : a.token.life ≡ c.state.life
  pub open_take : entry_of a.token.number c.state.opened ≡ Some (Takes numbers)
  pub events : Are c numbers a.events
  pub asked : (tag : Tag) → a.tag ≡ Some tag → (to : ℕ) × (is_among c.later to ≡ true) × IsRequest w to tag a.events
  pub delivery : IsDue w n c a a.delivery

-- The fifth part: each attempt agrees with its channel and the world, no two of a channel have one open take, and nobody else holds the tag
-- or the output place of an attempt.
pub record AttemptsAgree (w : World) : Type 0 where
  pub agree :
      (n : ℕ) (node : Node) → AtNode w n node → (number : ℕ) (a : Attempt) → live node.attempts number ≡ Some a
      → (c : Channel) × (slice_get node.channels a.channel ≡ Some c) × AttemptAgrees w n c a
  pub apart :
      (n : ℕ) (node : Node) → AtNode w n node → (i j : ℕ) (a b : Attempt)
      → live node.attempts i ≡ Some a → live node.attempts j ≡ Some b
      → a.channel ≡ b.channel → a.token.number ≡ b.token.number → i ≡ j
  pub tags : (n number : ℕ) (b : Holder) (tag : Tag) → HoldsTag w (AnAttempt n number) tag → HoldsTag w b tag → AnAttempt n number ≡ b
  pub outputs :
      (n number : ℕ) (b : Holder) (m place : ℕ) → HoldsOutput w (AnAttempt n number) m place
      → HoldsOutput w b m place → AnAttempt n number ≡ b

-- Works.

-- Who names an entry: an acknowledgement (by place) or a work (by number) of a node.
pub data Namer : Type 0 where
  AnAck : ℕ → Namer
  AWork : ℕ → Namer

-- this one of the node names the entry
abbrev pub NamesEntry : Node → Namer → ℕ × ℕ → Type 0
NamesEntry node (AnAck place) e = (ack : Work) × (slice_get node.acks place ≡ Some ack) × Has ack.entries e
NamesEntry node (AWork number) e = (work : Work) × (live node.works number ≡ Some work) × Has work.entries e

-- what a work has passed is among the commits, and nobody else names its entries
pub record WorksAreStored (node : Node) : Type 0 where
  pub stored : (number : ℕ) (work : Work) → live node.works number ≡ Some work → Stores node commits work
  pub once : (number : ℕ) (b : Namer) (e : ℕ × ℕ) → NamesEntry node (AWork number) e → NamesEntry node b e → AWork number ≡ b

-- The sixth part: each work has the tag and the batch of a request for its node, and its entries are stored.
pub record WorksAgree (w : World) : Type 0 where
  pub asked : (n number : ℕ) (work : Work) → IsWork w n number work → IsRequest w n work.tag work.batch
  pub stored : (n : ℕ) (node : Node) → AtNode w n node → WorksAreStored node

-- Histories.

-- A file channel is where calls of the channel machine from an empty base lead, and its journal is what they settled.
pub record IsHistory (s : State) (settled : List Entry) : Type 0 where
  pub start : Opening
  pub calls : List Made
  pub empty : start.base ≡ nothing
  pub kind : s.rules.kind ≡ OnFile
  pub run : IsRun true (opening start) calls
  pub fronts : ReadsNone calls
  pub state : state_after (opening start) calls ≡ s
  pub journal_is : journal (opening start) calls ≡ settled

-- so it is with each channel of the world
abbrev pub ChannelsAreHistories : World → Type 0
ChannelsAreHistories w = (n channel : ℕ) (c : Channel) → AtChannel w n channel c → IsHistory c.state c.journal

-- The whole accounting.
pub record Held (w : World) : Type 0 where
  pub acknowledged : AcknowledgedIsStored w
  pub delivered : TakesAreDelivered w
  pub numbers : NumbersAreLeftOrTaken w
  pub packets : PacketsAgree w
  pub attempts : AttemptsAgree w
  pub works : WorksAgree w
  -- the third part follows from it, and each step keeps it
  pub histories : ChannelsAreHistories w
