-- A state with what was counted.
use Rattle.std.specs.Prelude.{◌≡◌, List, true}
use Rattle.channel_face.specs.Machine.{State, Call}
use Rattle.channel_face.specs.History.{Opening, Step, Moves}
use Rattle.channel_face.specs.Counters.{Tally, counted, StandsCounted}
use Rattle.channel_face.specs.declared.replies.Counts.{Counts}

pub record Counted : Type 0 where
  pub state : State
  pub tally : Tally

abbrev pub tally_of : Counts → Tally
tally_of c = record { put_attempts = c.put_attempts; put_successes = c.put_successes; take_attempts = c.take_attempts; take_successes = c.take_successes }

-- The machine may give this call this reply, and what is counted goes on with it.
pub record Makes (old : Counted) (call : Call) (new : Counted) : Type 0 where
  pub moves : Moves true old.state call new.state
  pub tally : new.tally ≡ counted old.state call old.tally

abbrev pub StandsAs : Counted → Opening → List Step → Type 0
StandsAs c start h = StandsCounted c.state c.tally start h
