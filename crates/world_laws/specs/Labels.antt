-- Which steps of the world a source's batch and a sink run are: a relation between the calls that they made on channels, with the requests
-- and replies of their links, and a list of steps.
use Rattle.std.specs.Prelude.{◌≡◌, ◌⊎◌, ℕ, List, [], ◌∷◌, ◌++◌, Some, None, Ok, Err, true, false}
use Rattle.event_core.specs.Content.{Content}
use Rattle.channel_face.specs.Machine.{Call, Checkpoint, Reopen, Kept, Front, Read}
use Rattle.channel_face.specs.Faces.{Own}
use Rattle.channel_face.specs.declared.replies.CheckRefused.TheVariants as CheckNo
use Rattle.world_laws.specs.World.{Tag}
use Rattle.world_laws.specs.Steps.{Step, Deliver, Accept, Flush, Acknowledge, Take, Send, Output, Reply, Commit, Aside, Mend, EndAttempt, EndWork, Fail}
use Rattle.world_laws.specs.Marks.{Mark, Settles, Breaks, Stores, Begins, Takes, Commits, GivesUp, OnlySettles, StoresOnce, puts_marks, takes_marks}

-- A batch. One that comes from outside is offered first, under a tag that no request has.

-- a channel that has to take its share for a work (node, work, channel)
abbrev pub accept_steps : ℕ → ℕ → ℕ → List Mark → List Step
accept_steps n work channel [] = []
accept_steps n work channel (Settles ∷ marks) = Flush n channel true ∷ accept_steps n work channel marks
accept_steps n work channel (Breaks ∷ marks) = Flush n channel false ∷ accept_steps n work channel marks
accept_steps n work channel (Stores events ∷ marks) = Accept n work channel ∷ accept_steps n work channel marks
accept_steps n work channel (other ∷ marks) = accept_steps n work channel marks

-- a channel that may miss its share (node, channel)
abbrev pub aside_steps : ℕ → ℕ → List Mark → List Step
aside_steps n channel [] = []
aside_steps n channel (Settles ∷ marks) = Flush n channel true ∷ aside_steps n channel marks
aside_steps n channel (Breaks ∷ marks) = Flush n channel false ∷ aside_steps n channel marks
aside_steps n channel (Stores events ∷ marks) = Aside n channel events ∷ aside_steps n channel marks
aside_steps n channel (other ∷ marks) = aside_steps n channel marks

-- What was called on one of a source's channels: its place in the node; the events that it has to take, by the selector, and the calls of their
-- batch; and the calls of the batch of those that it may miss. A batch that wasn't tried has no calls.
pub record Tried : Type 0 where
  pub channel : ℕ
  pub share : List Content
  pub required : List Own
  pub optional : List Own

-- the shares that channels have to take, in order (node, work)
abbrev pub required_steps : ℕ → ℕ → List Tried → List Step
required_steps n work [] = []
required_steps n work (tried ∷ ports) = accept_steps n work tried.channel (puts_marks [] tried.required) ++ required_steps n work ports

-- what channels may miss, in order (node)
abbrev pub optional_steps : ℕ → List Tried → List Step
optional_steps n [] = []
optional_steps n (tried ∷ ports) = aside_steps n tried.channel (puts_marks [] tried.optional) ++ optional_steps n ports

-- a share is stored as one entry, or there is none
abbrev pub IsGiven : List Content → List Mark → Type 0
IsGiven [] marks = marks ≡ []
IsGiven (e ∷ events) marks = StoresOnce (e ∷ events) marks

-- each channel was given its share
abbrev pub AllGiven : List Tried → Type 0
AllGiven [] = Unit {0}
AllGiven (tried ∷ ports) = IsGiven tried.share (puts_marks [] tried.required) × AllGiven ports

-- no channel was tried
abbrev pub NoneTried : List Tried → Type 0
NoneTried [] = Unit {0}
NoneTried (tried ∷ ports) = (tried.required ≡ []) × (tried.optional ≡ []) × NoneTried ports

-- up to a channel that refused its share, or left in doubt whether it has it; then no other was tried
abbrev pub GivenUpTo : List Tried → Type 0
GivenUpTo [] = ⊥
GivenUpTo (tried ∷ ports) =
    (IsGiven tried.share (puts_marks [] tried.required) × (tried.optional ≡ []) × GivenUpTo ports)
    ⊎ ((OnlySettles (puts_marks [] tried.required) ⊎ StoresOnce tried.share (puts_marks [] tried.required))
    × (tried.optional ≡ []) × NoneTried ports)

-- How a batch of a source ended: the chain made nothing of it, as an event became too large or there was no memory; a channel refused its share, or
-- left in doubt whether it has it; or each channel took its share.
pub data Ended : Type 0 where
  NothingMade : Ended
  Refused : Ended
  Taken : Ended

-- The steps of a batch at a node: the packet comes, and the chain makes these events of its batch; channels take their shares in order; and the
-- work ends, or the channels take what they may miss, and the work is acknowledged. Entries that were staged before a refusal stay. Out of memory
-- may come before any channel is tried.
abbrev pub IsBatch : ℕ → ℕ → ℕ → List Content → List Tried → Ended → List Step → Type 0
IsBatch n packet work made ports NothingMade steps = NoneTried ports × (steps ≡ [])
IsBatch n packet work made ports Refused steps =
    (NoneTried ports ⊎ GivenUpTo ports) × (steps ≡ Deliver packet made ∷ required_steps n work ports ++ EndWork n work ∷ [])
IsBatch n packet work made ports Taken steps =
    AllGiven ports × (steps ≡ Deliver packet made ∷ required_steps n work ports ++ optional_steps n ports ++ Acknowledge n work ∷ [])

-- A sink run.

-- what is called on the channel before the delivery, or after it (node, channel, attempt)
abbrev pub sink_steps : ℕ → ℕ → ℕ → List Mark → List Step
sink_steps n channel attempt [] = []
sink_steps n channel attempt (Settles ∷ marks) = Flush n channel true ∷ sink_steps n channel attempt marks
sink_steps n channel attempt (Breaks ∷ marks) = Flush n channel false ∷ sink_steps n channel attempt marks
sink_steps n channel attempt (Stores events ∷ marks) = sink_steps n channel attempt marks
sink_steps n channel attempt (Begins ∷ marks) = Take n channel None ∷ sink_steps n channel attempt marks
sink_steps n channel attempt (Takes e ∷ marks) = Take n channel (Some attempt) ∷ sink_steps n channel attempt marks
sink_steps n channel attempt (Commits ∷ marks) = Commit n attempt ∷ sink_steps n channel attempt marks
sink_steps n channel attempt (GivesUp ∷ marks) = EndAttempt n attempt ∷ sink_steps n channel attempt marks

-- takes, any number of them; before and after each what is staged settles, or the channel breaks
abbrev pub OnlyTakes : List Mark → Type 0
OnlyTakes [] = Unit {0}
OnlyTakes (Settles ∷ marks) = OnlyTakes marks
OnlyTakes (Breaks ∷ marks) = OnlyTakes marks
OnlyTakes (Takes e ∷ marks) = OnlyTakes marks
OnlyTakes (other ∷ marks) = ⊥

-- one begin, and then takes alone; a begin that was refused is no run, and no step
abbrev pub BeginsAndTakes : List Mark → Type 0
BeginsAndTakes (Begins ∷ marks) = OnlyTakes marks
BeginsAndTakes other = ⊥

-- What one try to deliver came to: a last sink took the events; a request with them was sent to another node under this tag, and the packet that
-- is its own OK came; the request was sent, and nothing that counts came of it; or nothing was sent.
pub data Try : Type 0 where
  Put : Try
  Answered : ℕ → Tag → ℕ → Try
  Unanswered : ℕ → Tag → Try
  Unsent : Try

-- the steps of a try (node, attempt)
abbrev pub try_steps : ℕ → ℕ → Try → List Step
try_steps n attempt Put = Output n attempt ∷ []
try_steps n attempt (Answered to tag packet) = Send n attempt to tag ∷ Reply n attempt packet ∷ []
try_steps n attempt (Unanswered to tag) = Send n attempt to tag ∷ []
try_steps n attempt Unsent = []

-- the tries of a sink, or of a group's members one after another; only the last one delivers
abbrev pub tries_steps : ℕ → ℕ → List Try → List Step
tries_steps n attempt [] = []
tries_steps n attempt (try ∷ tries) = try_steps n attempt try ++ tries_steps n attempt tries

-- it delivered
abbrev pub IsDone : Try → Type 0
IsDone Put = Unit {0}
IsDone (Answered to tag packet) = Unit {0}
IsDone other = ⊥

-- none of them delivered
abbrev pub NoneDone : List Try → Type 0
NoneDone [] = Unit {0}
NoneDone (Put ∷ tries) = ⊥
NoneDone (Answered to tag packet ∷ tries) = ⊥
NoneDone (other ∷ tries) = NoneDone tries

-- the last one delivered, and none before it
abbrev pub EndsDone : List Try → Type 0
EndsDone tries = (front : List Try) × (last : Try) × (tries ≡ front ++ last ∷ []) × NoneDone front × IsDone last

-- Only a delivery is committed. Where the transaction was rolled back, or its open take was ended by a mend, there may be one too.
abbrev pub EndsTries : List Try → List Mark → Type 0
EndsTries tries (Commits ∷ marks) = EndsDone tries × OnlySettles marks
EndsTries tries (GivesUp ∷ marks) = (NoneDone tries ⊎ EndsDone tries) × OnlySettles marks
EndsTries tries marks = (NoneDone tries ⊎ EndsDone tries) × OnlySettles marks

-- the events that takes gave, in order
abbrev pub taken_events : List Mark → List Content
taken_events [] = []
taken_events (Takes e ∷ marks) = e ∷ taken_events marks
taken_events (other ∷ marks) = taken_events marks

-- What a sink run did: the calls up to the last take, the events that were taken, the tries to deliver them, and the calls after these.
pub record Ran : Type 0 where
  pub taking : List Own
  pub events : List Content
  pub tries : List Try
  pub ending : List Own

-- The steps of a sink run: a begin and takes, tries to deliver just what they gave, and the end. An attempt whose open take a mend has ended
-- meanwhile has no end of its own.
abbrev pub IsSinkRun : ℕ → ℕ → ℕ → Ran → List Step → Type 0
IsSinkRun n channel attempt ran steps =
    BeginsAndTakes (takes_marks ran.taking) × (taken_events (takes_marks ran.taking) ≡ ran.events)
    × EndsTries ran.tries (takes_marks ran.ending)
    × (steps
    ≡ sink_steps n channel attempt (takes_marks ran.taking) ++ tries_steps n attempt ran.tries
    ++ sink_steps n channel attempt (takes_marks ran.ending))

-- Upkeep.

-- what a reopening kept; the world has no disk that does not show its contents
abbrev pub mend_steps : ℕ → ℕ → Kept → List Step
mend_steps n channel (Front kept) = Mend n channel kept ∷ []
mend_steps n channel (Read base) = []

-- A checkpoint settles what is staged, or the channel breaks; a reopening keeps so many of the staged entries, or the channel breaks; and no other
-- call of upkeep is a step (node, channel).
abbrev pub upkeep_steps : ℕ → ℕ → Call → List Step
upkeep_steps n channel (Checkpoint (Ok done)) = Flush n channel true ∷ []
upkeep_steps n channel (Checkpoint (Err CheckNo.CheckFault)) = Flush n channel true ∷ []
upkeep_steps n channel (Checkpoint (Err CheckNo.DiskFault)) = Flush n channel false ∷ []
upkeep_steps n channel (Reopen (Ok r)) = mend_steps n channel r.kept
upkeep_steps n channel (Reopen (Err cause)) = Fail n channel ∷ []
upkeep_steps n channel call = []
