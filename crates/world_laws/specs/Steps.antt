-- The steps of the world: what each does, or none where it can't be taken.
use Rattle.std.specs.Prelude.{◌+◌, ℕ, List, [], ◌∷◌, ◌++◌, length, map, slice_get, slice_set, Option, Some, None, Bool, true, false, not, ◌==◌, ◌&&◌, ◌||◌, nat_lt, nat_le, if◌then◌else◌}
use Rattle.event_core.specs.Content.{Content}
use Rattle.event_core.specs.Journal.{is_among}
use Rattle.world_laws.specs.World.{Tag, Delivery, Channel, commits, Work, Attempt, Node, Packet, World, share, and_then, live}
use Rattle.world_laws.specs.Channels.{only_if, is_none, is_empty, next_token, stored, aside, flushed, failed, take_begun, taken, committed, given_up, reopened, all_reopened}

-- Nodes, channels, works, attempts and packets are named by their places, from 0.
pub data Step : Type 0 where
  -- a request from outside for this node, with its tag and batch
  Offer : ℕ → Tag → List Content → Step
  -- this packet comes, and the chain makes these events of its batch
  Deliver : ℕ → List Content → Step
  -- node, work, channel
  Accept : ℕ → ℕ → ℕ → Step
  -- node, channel, and whether the device did it
  Flush : ℕ → ℕ → Bool → Step
  -- node, work
  Acknowledge : ℕ → ℕ → Step
  -- node, channel, and the attempt that takes one more event; without one an attempt begins
  Take : ℕ → ℕ → Option ℕ → Step
  -- node, attempt, the node to which its request goes, and its tag
  Send : ℕ → ℕ → ℕ → Tag → Step
  -- node, attempt: a last sink takes its events
  Output : ℕ → ℕ → Step
  -- node, attempt, the packet that comes
  Reply : ℕ → ℕ → ℕ → Step
  -- node, attempt
  Commit : ℕ → ℕ → Step
  -- node, channel, events that no work names
  Aside : ℕ → ℕ → List Content → Step
  -- node, channel, how many of its staged entries stay
  Mend : ℕ → ℕ → ℕ → Step
  -- node, attempt: it is rolled back
  EndAttempt : ℕ → ℕ → Step
  -- node, work
  EndWork : ℕ → ℕ → Step
  -- node, channel
  Fail : ℕ → ℕ → Step
  -- node, and of each channel how many of its staged entries stay
  Restart : ℕ → List ℕ → Step

-- what a node does in a step: it goes on to another node

-- this channel of it does so
abbrev pub on_channel : ℕ → (Channel → Option Channel) → Node → Option Node
on_channel channel f node =
    and_then (slice_get node.channels channel)
    (λ c. and_then (f c) (λ new. Some (record node { channels = slice_set node.channels channel new })))

-- a work begins, with the events that the chain made of its batch
abbrev pub begin_work : Tag → List Content → List Content → Node → Option Node
begin_work tag batch made node = Some (record node {
  works = node.works ++ Some (record { batch = batch; tag = tag; made = made; entries = [] }) ∷ [];
})

-- a work ends
abbrev pub end_work : ℕ → Node → Option Node
end_work number node = and_then (live node.works number) (λ work. Some (record node { works = slice_set node.works number None }))

-- the work has an entry of this channel
abbrev pub is_passed : Work → ℕ → Bool
is_passed work channel = is_among (map (λ e. e.0) work.entries) channel

-- the work has one more entry, the next of this channel; or it ends refused, and the channel stays as it was
abbrev pub accepted : Node → ℕ → Work → ℕ → Channel → Option Channel → Node
accepted node number work channel c None = record node { works = slice_set node.works number None }
accepted node number work channel c (Some new) = record node {
  channels = slice_set node.channels channel new;
  works = slice_set node.works number (Some (record work { entries = work.entries ++ (channel, length (commits c)) ∷ [] }));
}

-- a channel that the work hasn't passed and that has to take some of its events takes them
abbrev pub accept : ℕ → ℕ → Node → Option Node
accept number channel node =
    and_then (live node.works number) (λ work. and_then (slice_get node.channels channel) (λ c.
    only_if (not (is_empty (share node work.made channel)) && not (is_passed work channel))
    (accepted node number work channel c (stored (share node work.made channel) c))))

-- the work passed each channel, from this place on, that has to take some of its events
abbrev pub is_passed_by : Node → Work → ℕ → List Channel → Bool
is_passed_by node work channel [] = true
is_passed_by node work channel (c ∷ cs) =
    (is_empty (share node work.made channel) || is_passed work channel) && is_passed_by node work (channel + 1) cs

-- the place is one of the journal of this channel, if there is one
abbrev pub is_below : ℕ → Option Channel → Bool
is_below place None = false
is_below place (Some c) = nat_lt place (length c.journal)

-- each of the entries is in its channel's journal
abbrev pub are_settled : Node → List (ℕ × ℕ) → Bool
are_settled node [] = true
are_settled node (e ∷ entries) = is_below e.1 (slice_get node.channels e.0) && are_settled node entries

-- a work whose entries are all there and settled becomes an acknowledgement of the node with this number, and an OK that names it is sent
abbrev pub acknowledge : ℕ → ℕ → Node → Option (Node × List Packet)
acknowledge number at node =
    and_then (live node.works at) (λ work. only_if (is_passed_by node work 0 node.channels && are_settled node work.entries) (
      record node { acks = node.acks ++ work ∷ []; works = slice_set node.works at None },
      Packet.Reply work.tag number (length node.acks) ∷ [],
    ))

-- an attempt begins, with an empty open take
abbrev pub begin_take : ℕ → Node → Option Node
begin_take channel node = and_then (slice_get node.channels channel) (λ c. and_then (take_begun c) (λ new. Some (record node {
  channels = slice_set node.channels channel new;
  attempts = node.attempts ++ Some (record { channel = channel; token = next_token c.state; events = []; tag = None; delivery = None }) ∷ [];
})))

-- an attempt of this channel that was not sent and has no delivery takes one more event
abbrev pub take_one : ℕ → ℕ → Node → Option Node
take_one channel number node =
    and_then (live node.attempts number) (λ attempt.
    and_then (slice_get node.channels attempt.channel) (λ c. and_then (taken attempt.token c) (λ got.
    only_if ((attempt.channel == channel) && (is_none attempt.tag && is_none attempt.delivery)) (record node {
      channels = slice_set node.channels attempt.channel got.0;
      attempts = slice_set node.attempts number (Some (record attempt { events = attempt.events ++ got.1 ∷ [] }));
    }))))

-- an attempt begins, or this one takes one more event
abbrev pub take_from : ℕ → Option ℕ → Node → Option Node
take_from channel None node = begin_take channel node
take_from channel (Some number) node = take_one channel number node

-- an attempt without a delivery is sent under this tag to a node to which its channel's sinks point
abbrev pub send : ℕ → ℕ → Tag → Node → Option (Node × List Packet)
send number to tag node =
    and_then (live node.attempts number) (λ attempt. and_then (slice_get node.channels attempt.channel) (λ c.
    only_if (is_none attempt.delivery && is_among c.later to) (
      record node { attempts = slice_set node.attempts number (Some (record attempt { tag = Some tag })) },
      Packet.Request to tag attempt.events ∷ [],
    )))

-- an attempt without a delivery, of a channel with a last sink, gets a new output place that holds its events
abbrev pub output : ℕ → Node → Option Node
output number node =
    and_then (live node.attempts number) (λ attempt. and_then (slice_get node.channels attempt.channel) (λ c.
    only_if (is_none attempt.delivery && c.last) (record node {
      outputs = node.outputs ++ attempt.events ∷ [];
      attempts = slice_set node.attempts number (Some (record attempt { delivery = Some (Delivery.Output (length node.outputs)) }));
    })))

-- an attempt ends, and its open take is rolled back
abbrev pub end_attempt : ℕ → Node → Option Node
end_attempt number node =
    and_then (live node.attempts number)
    (λ attempt. on_channel attempt.channel (given_up attempt.token) (record node { attempts = slice_set node.attempts number None }))

-- the tag is one's own
abbrev pub is_tag : Tag → Option Tag → Bool
is_tag tag None = false
is_tag tag (Some own) = (tag.connection == own.connection) && (tag.serial == own.serial)

-- a reply comes to an attempt: of its own tag, it is the attempt's delivery, and any other ends the attempt
abbrev pub replied : ℕ → Tag → ℕ → ℕ → Node → Option Node
replied number tag from place node =
    and_then (live node.attempts number) (λ attempt.
    if is_tag tag attempt.tag
    then Some (record node { attempts = slice_set node.attempts number (Some (record attempt { delivery = Some (Delivery.Acked from place) })) })
    else end_attempt number node)

-- an attempt with a delivery ends, and its open take is staged as an entry that names this
abbrev pub commit : ℕ → Node → Option Node
commit number node =
    and_then (live node.attempts number) (λ attempt. and_then attempt.delivery (λ delivery.
    on_channel attempt.channel (committed attempt.token delivery attempt.events) (record node { attempts = slice_set node.attempts number None })))

-- those without the attempts of this channel
abbrev pub without_attempts : ℕ → List (Option Attempt) → List (Option Attempt)
without_attempts channel [] = []
without_attempts channel (None ∷ attempts) = None ∷ without_attempts channel attempts
without_attempts channel (Some a ∷ attempts) = (if a.channel == channel then None else Some a) ∷ without_attempts channel attempts

-- one of these entries is of the channel, at this place or after it
abbrev pub has_from : ℕ → ℕ → List (ℕ × ℕ) → Bool
has_from channel place [] = false
has_from channel place (e ∷ entries) = ((e.0 == channel) && nat_le place e.1) || has_from channel place entries

-- those without the works that have an entry of this channel beyond a journal of this length
abbrev pub without_works : ℕ → ℕ → List (Option Work) → List (Option Work)
without_works channel journal [] = []
without_works channel journal (None ∷ works) = None ∷ without_works channel journal works
without_works channel journal (Some w ∷ works) =
    (if has_from channel journal w.entries then None else Some w) ∷ without_works channel journal works

-- one channel is opened again: attempts that took from it end, and works with an entry of it that wasn't in its journal
abbrev pub mend : ℕ → ℕ → Node → Option Node
mend channel kept node = and_then (slice_get node.channels channel) (λ c. and_then (reopened kept c) (λ new. Some (record node {
  channels = slice_set node.channels channel new;
  works = without_works channel (length c.journal) node.works;
  attempts = without_attempts channel node.attempts;
})))

-- all of these end
abbrev pub ended : {A : Type 0} → List (Option A) → List (Option A)
ended [] = []
ended (x ∷ xs) = None ∷ ended xs

-- the agent crashed: all channels are opened again, and all works and attempts end
abbrev pub restart : List ℕ → Node → Option Node
restart kept node =
    and_then (all_reopened kept node.channels)
    (λ new. Some (record node { channels = new; works = ended node.works; attempts = ended node.attempts }))

-- a request is sent to the node
abbrev pub offered : ℕ → Tag → List Content → Node → Option (Node × List Packet)
offered number tag batch node = Some (node, Packet.Request number tag batch ∷ [])

-- and nothing is sent
abbrev pub quietly : Option Node → Option (Node × List Packet)
quietly stepped = and_then stepped (λ node. Some (node, []))

-- what the world does

-- no request has this tag
abbrev pub is_fresh : Tag → List Packet → Bool
is_fresh tag [] = true
is_fresh tag (Packet.Request node other batch ∷ sent) = not (is_tag tag (Some other)) && is_fresh tag sent
is_fresh tag (Packet.Reply other node place ∷ sent) = is_fresh tag sent

-- this node goes on, and what it sends is sent
abbrev pub at : World → ℕ → (Node → Option (Node × List Packet)) → Option World
at w number f =
    and_then (slice_get w.nodes number) (λ node. and_then (f node)
    (λ stepped. Some (record { nodes = slice_set w.nodes number stepped.0; sent = w.sent ++ stepped.1 })))

-- so, where no request has this tag
abbrev pub if_fresh : World → Tag → Option World → Option World
if_fresh w tag stepped = if is_fresh tag w.sent then stepped else None

-- this packet comes to the node that it is for
abbrev pub delivered : World → List Content → Packet → Option World
delivered w made (Packet.Request node tag batch) = at w node (λ n. quietly (begin_work tag batch made n))
delivered w made (Packet.Reply tag node place) = None

-- this packet comes to an attempt of a node
abbrev pub answered : World → ℕ → ℕ → Packet → Option World
answered w node attempt (Packet.Request to tag batch) = None
answered w node attempt (Packet.Reply tag from place) = at w node (λ n. quietly (replied attempt tag from place n))

-- the world after a step, or none where it can't be taken
abbrev pub happens : World → Step → Option World
happens w (Offer node tag batch) = if_fresh w tag (at w node (offered node tag batch))
happens w (Deliver packet made) = and_then (slice_get w.sent packet) (delivered w made)
happens w (Accept node work channel) = at w node (λ n. quietly (accept work channel n))
happens w (Flush node channel done) = at w node (λ n. quietly (on_channel channel (flushed done) n))
happens w (Acknowledge node work) = at w node (acknowledge node work)
happens w (Take node channel attempt) = at w node (λ n. quietly (take_from channel attempt n))
happens w (Send node attempt to tag) = if_fresh w tag (at w node (send attempt to tag))
happens w (Output node attempt) = at w node (λ n. quietly (output attempt n))
happens w (Reply node attempt packet) = and_then (slice_get w.sent packet) (answered w node attempt)
happens w (Commit node attempt) = at w node (λ n. quietly (commit attempt n))
happens w (Aside node channel events) = at w node (λ n. quietly (on_channel channel (aside events) n))
happens w (Mend node channel kept) = at w node (λ n. quietly (mend channel kept n))
happens w (EndAttempt node attempt) = at w node (λ n. quietly (end_attempt attempt n))
happens w (EndWork node work) = at w node (λ n. quietly (end_work work n))
happens w (Fail node channel) = at w node (λ n. quietly (on_channel channel failed n))
happens w (Restart node kept) = at w node (λ n. quietly (restart kept n))

-- a step that can't be taken changes nothing
abbrev pub next : World → Option World → World
next w None = w
next w (Some new) = new

-- the world after these steps, one after another
abbrev pub run : World → List Step → World
run w [] = w
run w (step ∷ steps) = run (next w (happens w step)) steps
