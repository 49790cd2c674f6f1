-- What a sink of rolled files keeps.
use Rattle.std.specs.Prelude.{◌≡◌, Result, Ok, Err}
use Rattle.plug_in.specs.declared.sink.SinkRefused.{SinkRefused}
use Rattle.plug_in.specs.declared.sink.SinkRefused.TheVariants as refused
use Rattle.roll_sink.specs.declared.sink.RollSink.{RollSink}
use Rattle.roll_sink.specs.declared.sink.RollRefused.{RollRefused}
use Rattle.roll_sink.specs.declared.sink.RollRefused.TheVariants.{RollFault, NoMemory}
use Rattle.roll_sink.specs.Rolls.{RollState}

abbrev pub state_of : {R : Type 0} → RollSink R → RollState
state_of s = record { interval = s.interval; start = s.start; next = s.next; begun = s.begun }

-- the folder failed
abbrev pub IsFault : Result (Unit {0}) RollRefused → Type 0
IsFault result = result ≡ Err RollFault

-- the sink's own answer, by the answer that any sink gives
abbrev pub roll_answer : Result (Unit {0}) SinkRefused → Result (Unit {0}) RollRefused
roll_answer (Ok done) = Ok done
roll_answer (Err refused.Refused) = Err RollFault
roll_answer (Err refused.NoMemory) = Err NoMemory
