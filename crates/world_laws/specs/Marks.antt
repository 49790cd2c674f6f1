-- What the calls that a source or a sink made on a channel are for the world: each call's marks. They leave out the numbers by which the world
-- names nodes, works and attempts.
use Rattle.std.specs.Prelude.{◌≡◌, List, [], ◌∷◌, ◌++◌, Option, Some, None, Ok, Err, Bool, true, false}
use Rattle.event_core.specs.Content.{Content}
use Rattle.channel_face.specs.Machine.{Call, BeginTake, Put, Take, StagePut, StageTake, Flush, RollbackTake}
use Rattle.channel_face.specs.Faces.{Own}
use Rattle.channel_face.specs.declared.replies.PutRefused.TheVariants as PutNo
use Rattle.channel_face.specs.declared.replies.TakeRefused.TheVariants as TakeNo
use Rattle.channel_face.specs.declared.replies.FlushRefused.TheVariants as FlushNo

-- What is done to one channel.
pub data Mark : Type 0 where
  -- what is staged settles, or the channel breaks and keeps it staged
  Settles : Mark
  Breaks : Mark
  -- these events are staged as one entry
  Stores : List Content → Mark
  -- a transaction of takes begins, takes this event, and is staged or rolled back
  Begins : Mark
  Takes : Content → Mark
  Commits : Mark
  GivesUp : Mark

-- a put or a take that came to a flush settled first what was staged
abbrev pub if_spilled : Bool → List Mark → List Mark
if_spilled true marks = Settles ∷ marks
if_spilled false marks = marks

-- a call of a transaction of puts, whose events so far are `put`; an empty one stages no entry
abbrev pub put_marks : List Content → Call → List Mark
put_marks put (Put token e (Ok done)) = if_spilled done.spilled []
put_marks put (Put token e (Err PutNo.DiskFault)) = Breaks ∷ []
put_marks [] (StagePut token (Ok ticket)) = []
put_marks (e ∷ put) (StagePut token (Ok ticket)) = Stores (e ∷ put) ∷ []
put_marks put (Flush (Ok done)) = Settles ∷ []
put_marks put (Flush (Err FlushNo.DiskFault)) = Breaks ∷ []
put_marks put call = []

-- the events that the transaction has put after the call
abbrev pub put_by : List Content → Call → List Content
put_by put (Put token e (Ok done)) = put ++ e ∷ []
put_by put call = put

-- the calls of a transaction of puts, one after another
abbrev pub puts_marks : List Content → List Own → List Mark
puts_marks put [] = []
puts_marks put (o ∷ own) = put_marks put o.call ++ puts_marks (put_by put o.call) own

-- the event that a take gave, if any
abbrev pub event_marks : Option Content → List Mark
event_marks None = []
event_marks (Some e) = Takes e ∷ []

-- a call of a transaction of takes
abbrev pub take_marks : Call → List Mark
take_marks (BeginTake (Ok token)) = Begins ∷ []
take_marks (Take token (Ok taken)) = if_spilled taken.spilled (event_marks taken.event)
take_marks (Take token (Err TakeNo.DiskFault)) = Breaks ∷ []
take_marks (StageTake token (Ok ticket)) = Commits ∷ []
take_marks (RollbackTake token true) = GivesUp ∷ []
take_marks (Flush (Ok done)) = Settles ∷ []
take_marks (Flush (Err FlushNo.DiskFault)) = Breaks ∷ []
take_marks call = []

-- the calls of a transaction of takes, one after another
abbrev pub takes_marks : List Own → List Mark
takes_marks [] = []
takes_marks (o ∷ own) = take_marks o.call ++ takes_marks own

-- what is staged settles, or the channel breaks, any number of times, and nothing else is done
abbrev pub OnlySettles : List Mark → Type 0
OnlySettles [] = Unit {0}
OnlySettles (Settles ∷ marks) = OnlySettles marks
OnlySettles (Breaks ∷ marks) = OnlySettles marks
OnlySettles (other ∷ marks) = ⊥

-- these events are staged as one entry; before and after that what is staged settles, or the channel breaks
abbrev pub StoresOnce : List Content → List Mark → Type 0
StoresOnce events marks = (front back : List Mark) × (marks ≡ front ++ Stores events ∷ back) × OnlySettles front × OnlySettles back
