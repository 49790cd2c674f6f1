-- What is counted of a history.
use Rattle.std.specs.Prelude.{◌≡◌, ◌+◌, ◌-◌, ◌^◌, ℕ, List, [], ◌∷◌, length, min}
use Rattle.event_core.specs.Journal.{put_events, taken_numbers}
use Rattle.channel_face.specs.Machine.{State, Call, Put, Take, after}
use Rattle.channel_face.specs.History.{Step, Opening, opening, state_after, settled_by, StandsFor}
use Rattle.channel_face.specs.declared.replies.Counts.{Counts}

abbrev pub put_calls : Call → ℕ
put_calls (Put token event reply) = 1
put_calls call = 0

abbrev pub take_calls : Call → ℕ
take_calls (Take token reply) = 1
take_calls call = 0

-- the calls of put, whatever they answered
abbrev pub put_attempts : List Step → ℕ
put_attempts [] = 0
put_attempts (step ∷ steps) = put_calls step.call + put_attempts steps

-- the calls of take, whatever they answered
abbrev pub take_attempts : List Step → ℕ
take_attempts [] = 0
take_attempts (step ∷ steps) = take_calls step.call + take_attempts steps

-- the events of puts that calls settled. What a reopen kept is not counted
abbrev pub put_successes : State → List Step → ℕ
put_successes s [] = 0
put_successes s (step ∷ steps) = length (put_events (settled_by s step.call)) + put_successes (after s step.call) steps

-- the events of takes that calls settled
abbrev pub take_successes : State → List Step → ℕ
take_successes s [] = 0
take_successes s (step ∷ steps) = length (taken_numbers (settled_by s step.call)) + take_successes (after s step.call) steps

-- a count stops at its last value
abbrev pub capped : ℕ → ℕ
capped n = min n (2 ^ 64 - 1)

-- The attempts and successes of puts and takes.
pub record Tally : Type 0 where
  pub put_attempts : ℕ
  pub put_successes : ℕ
  pub take_attempts : ℕ
  pub take_successes : ℕ

-- those of a history
abbrev pub tally : State → List Step → Tally
tally s h = record {
  put_attempts = capped (put_attempts h);
  put_successes = capped (put_successes s h);
  take_attempts = capped (take_attempts h);
  take_successes = capped (take_successes s h);
}

-- with these, and a state's size and capacity
abbrev pub counts_with : Tally → State → Counts
counts_with t s = record {
  put_attempts = t.put_attempts;
  put_successes = t.put_successes;
  take_attempts = t.take_attempts;
  take_successes = t.take_successes;
  size = length s.items;
  capacity = s.rules.limits.capacity;
}

-- all counts of a history
abbrev pub counts_of : Opening → List Step → Counts
counts_of start h = counts_with (tally (opening start) h) (state_after (opening start) h)

-- what was counted, and one more call that was made in this state
abbrev pub counted : State → Call → Tally → Tally
counted s call t = record {
  put_attempts = capped (t.put_attempts + put_calls call);
  put_successes = capped (t.put_successes + length (put_events (settled_by s call)));
  take_attempts = capped (t.take_attempts + take_calls call);
  take_successes = capped (t.take_successes + length (taken_numbers (settled_by s call)));
}

-- these calls are a run from the opening to this state, with these counts
abbrev pub StandsCounted : State → Tally → Opening → List Step → Type 0
StandsCounted s t start h = StandsFor s start h × (tally (opening start) h ≡ t)
