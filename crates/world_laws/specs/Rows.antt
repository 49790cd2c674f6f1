-- A worked world: a reply is lost and the first agent crashes.
use Rattle.std.specs.Prelude.{◌≡◌, ℕ, List, [], ◌∷◌, ◌++◌, Option, Some, None, Ok, Bool, true, false}
use Rattle.event_core.specs.Content.{Content}
use Rattle.event_core.specs.declared.journal.Entry.TheVariants.{Puts, Takes}
use Rattle.channel_face.specs.Token.{Token}
use Rattle.channel_face.specs.Machine.{Call, BeginPut, BeginTake, Put, StagePut, StageTake}
use Rattle.channel_face.specs.Machine as Calls
use Rattle.channel_face.specs.History.{Opening, opening}
use Rattle.channel_face.specs.Faces.{Own}
use Rattle.channel_face.specs.declared.replies.Ticket.{Ticket}
use Rattle.channel_face.specs.declared.replies.Kind.TheVariants.{File as OnFile}
use Rattle.world_laws.specs.World.{Tag, Acked, Channel, Node, World, live}
use Rattle.world_laws.specs.Steps.{Step, Offer, Deliver, Accept, Flush, Acknowledge, Take, Send, Reply, Commit, Restart, happens}
use Rattle.world_laws.specs.Held.{nothing}
use Rattle.world_laws.specs.New.{IsNew}
use Rattle.world_laws.specs.Labels.{Tried, Taken, IsBatch, Answered, Ran, IsSinkRun}

-- an event without headers
abbrev pub hi : Content
hi = record { headers = []; body = 104 ∷ 105 ∷ [] }

-- another one
abbrev pub ho : Content
ho = record { headers = []; body = 104 ∷ 111 ∷ [] }

-- a file channel for ten events, with nothing in it
abbrev pub small : Opening
small = record {
  rules = record { kind = OnFile; limits = record { capacity = 10; txn_capacity = 10; max_file = 0 } };
  base = nothing;
  txn = 1;
  faults = 0;
  from = 0;
  tells = true;
}

-- an agent with one new channel, which the event has to reach, and whose sinks are these
abbrev pub agent : List ℕ → Bool → Node
agent later last = record {
  required = (hi, 0 ∷ []) ∷ [];
  channels = record { state = opening small; journal = []; named = []; later = later; last = last } ∷ [];
  acks = [];
  outputs = [];
  works = [];
  attempts = [];
}

-- two agents: the sink of the first points to the second, which has a last sink
abbrev pub start : World
start = record { nodes = agent (1 ∷ []) false ∷ agent [] true ∷ []; sent = [] }

-- the tag of a connection and a serial
abbrev pub tag : ℕ → ℕ → Tag
tag connection serial = record { connection = connection; serial = serial }

-- An event is offered, of which the first agent's chain makes another. This is accepted and acknowledged there, taken, sent, accepted and
-- acknowledged by the second agent, and the reply isn't delivered. The first crashes, takes and sends again, and the second accepts and acknowledges
-- again.
abbrev pub twice : List Step
twice =
    Offer 0 (tag 0 1) (ho ∷ []) ∷ Deliver 0 (hi ∷ []) ∷ Accept 0 0 0 ∷ Flush 0 0 true ∷ Acknowledge 0 0
    ∷ Take 0 0 None ∷ Take 0 0 (Some 0) ∷ Send 0 0 1 (tag 1 1) ∷ Deliver 2 (hi ∷ []) ∷ Accept 1 0 0 ∷ Flush 1 0 true ∷ Acknowledge 1 0
    ∷ Restart 0 (0 ∷ [])
    ∷ Take 0 0 None ∷ Take 0 0 (Some 1) ∷ Send 0 1 1 (tag 2 1)
    ∷ Deliver 4 (hi ∷ []) ∷ Accept 1 1 0 ∷ Flush 1 0 true ∷ Acknowledge 1 1 ∷ []

-- the reply of the second connection comes, and the take is committed
abbrev pub committed : List Step
committed = Reply 0 1 5 ∷ Commit 0 1 ∷ Flush 0 0 true ∷ []

-- each step can be taken, and they lead to a world of which P is true
abbrev pub LeadsTo : Option World → List Step → (World → Type 0) → Type 0
LeadsTo None steps P = ⊥
LeadsTo (Some w) [] P = P w
LeadsTo (Some w) (step ∷ steps) P = LeadsTo (happens w step) steps P

-- The second agent has two entries, and the first none left: its take names the second acknowledgement. Each acknowledgement has the batch that was
-- asked for, and names the entry that stores what was made of it.
pub record IsTwiceThere (first second : Node) : Type 0 where
  pub first_acks : first.acks ≡ record { batch = ho ∷ []; tag = tag 0 1; made = hi ∷ []; entries = (0, 0) ∷ [] } ∷ []
  pub second_acks :
      second.acks
      ≡ record { batch = hi ∷ []; tag = tag 1 1; made = hi ∷ []; entries = (0, 0) ∷ [] }
      ∷ record { batch = hi ∷ []; tag = tag 2 1; made = hi ∷ []; entries = (0, 1) ∷ [] } ∷ []
  pub first_has :
      (c : Channel) × (first.channels ≡ c ∷ []) × (c.journal ≡ Puts (hi ∷ []) ∷ Takes (0 ∷ []) ∷ [])
      × (c.named ≡ None ∷ Some (Acked 1 1) ∷ []) × (c.state.items ≡ [])
  pub second_has :
      (c : Channel) × (second.channels ≡ c ∷ []) × (c.journal ≡ Puts (hi ∷ []) ∷ Puts (hi ∷ []) ∷ [])
      × (c.state.items ≡ (0, hi) ∷ (1, hi) ∷ [])

-- the world has two nodes, of which P is true
abbrev pub AreTwo : (Node → Node → Type 0) → World → Type 0
AreTwo P w = (first second : Node) × (w.nodes ≡ first ∷ second ∷ []) × P first second

-- From that new world, so it ends; and the first reply in place of the second rolls the attempt back.
pub record ReplyIsLost : Type 0 where
  pub begins : IsNew start
  pub delivered : LeadsTo (Some start) (twice ++ committed) (AreTwo IsTwiceThere)
  pub other_reply : LeadsTo (Some start) (twice ++ Reply 0 1 3 ∷ []) (AreTwo (λ first second. live first.attempts 1 ≡ None))

-- the calls of a batch and of a sink run of the first agent, each answered Ok

abbrev pub token : Token
token = record { life = 1; number = 1 }

abbrev pub ticket : Ticket
ticket = record { life = 1; frame = 1; first = 0; count = 1 }

-- a call; its state and moment are of no account here
abbrev pub own : Call → Own
own call = record { call = call; before = opening small; moment = 0 }

-- a begin, a put, a stage and a flush on the one channel
abbrev pub given : Tried
given = record {
  channel = 0;
  share = hi ∷ [];
  required =
      own (BeginPut (Ok token)) ∷ own (Put token hi (Ok (record { spilled = false }))) ∷ own (StagePut token (Ok ticket))
      ∷ own (Calls.Flush (Ok tt)) ∷ [];
  optional = [];
}

-- a begin and a take; the request of the second connection is answered; a stage and a flush
abbrev pub sent_on : Ran
sent_on = record {
  taking = own (BeginTake (Ok token)) ∷ own (Calls.Take token (Ok (record { event = Some hi; spilled = false }))) ∷ [];
  events = hi ∷ [];
  tries = Answered 1 (tag 2 1) 5 ∷ [];
  ending = own (StageTake token (Ok ticket)) ∷ own (Calls.Flush (Ok tt)) ∷ [];
}

-- They are the steps by which the first agent accepts and acknowledges the event, and by which it takes, sends and commits it.
pub record CallsAreItsSteps : Type 0 where
  pub batch :
      IsBatch 0 0 0 (hi ∷ []) (given ∷ []) Taken (Deliver 0 (hi ∷ []) ∷ Accept 0 0 0 ∷ Flush 0 0 true ∷ Acknowledge 0 0 ∷ [])
  pub sink_run :
      IsSinkRun 0 0 1 sent_on
      (Take 0 0 None ∷ Take 0 0 (Some 1) ∷ Send 0 1 1 (tag 2 1) ∷ Reply 0 1 5 ∷ Commit 0 1 ∷ Flush 0 0 true ∷ [])
