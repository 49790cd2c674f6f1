-- Standard input and output of a run.
use Rattle.std.specs.Prelude.{◌≡◌, ℕ, Bool, true, false, List, [], ◌∷◌, length, map, Option, Some, None, Result, Ok, Err}
use Rattle.std.specs.Io.KnownBytes.{Appends}
use Rattle.flume_host.specs.Causes.{Counts, Rose}
use Rattle.flume_host.specs.HostState.{HostState}
use Rattle.crew.specs.declared.draining.DrainWorker.{DrainWorker}
use Rattle.crew.specs.declared.draining.DrainEnd.{DrainEnd}
use Rattle.line_session.specs.declared.session.SessionEnd.{SessionEnd}
use Rattle.line_session.specs.declared.session.SessionEnd.TheVariants as session
use Rattle.agent_end.specs.Statuses.{input_of}
use Rattle.flume_host.specs.Writes.{Fronts}
use Rattle.agent_end.specs.declared.ends.InputEnd.{InputEnd}
use Rattle.agent_end.specs.declared.ends.InputEnd.TheVariants as input
use Rattle.agent_end.specs.declared.ends.ReportRefused.{ReportRefused}
use Rattle.agent_end.specs.declared.ends.ReportRefused.TheVariants.{Fault, NoMemory}
use Rattle.run_staff.specs.declared.workers.LineEnded.{LineEnded}
use Rattle.run_opening.specs.declared.streams.StreamsEnded.{StreamsEnded}

-- ---- what ended the reading

-- by the end of a session; without one, and where a line found no room, there was no memory
abbrev pub end_of_session : Option SessionEnd → InputEnd
end_of_session (Some session.End) = input.End
end_of_session (Some session.TooLongLine) = input.LongLine
end_of_session (Some session.Full) = input.Full
end_of_session (Some session.ReadFault) = input.Fault
end_of_session (Some session.WriteFault) = input.Fault
end_of_session (Some session.NoMemory) = input.NoMemory
end_of_session (Some (session.Line verdict)) = input.NoMemory
end_of_session None = input.NoMemory

-- the output of a session failed
abbrev pub output_failed : Option SessionEnd → Bool
output_failed (Some session.WriteFault) = true
output_failed end = false

-- by the end of a draining; one that didn't run had no memory
abbrev pub end_of_draining : Option DrainEnd → InputEnd
end_of_draining (Some end) = input_of end
end_of_draining None = input.NoMemory

-- by what comes back of a worker of lines
abbrev pub talk_ended : {I O : Type 0} → LineEnded I O → StreamsEnded
talk_ended talk = record { input = end_of_session talk.end; output_failed = output_failed talk.end }

-- by what comes back of the draining
abbrev pub drain_ended : {I : Type 0} → DrainWorker I → StreamsEnded
drain_ended worker = record { input = end_of_draining worker.end; output_failed = false }

-- where nobody reads
abbrev pub unread : StreamsEnded
unread = record { input = input.NoMemory; output_failed = false }

-- the last of these, or else that which was there before
abbrev pub last_or : {A : Type 0} → A → List A → A
last_or before [] = before
last_or before (a ∷ more) = last_or a more

-- by the last of the workers of lines, or else by the last draining
abbrev pub ended_of : {I O : Type 0} → List (DrainWorker I) → List (LineEnded I O) → StreamsEnded
ended_of drains lines = last_or (last_or unread (map drain_ended drains)) (map talk_ended lines)

-- ---- what the host shows

-- one step of the host for each of these, in order
abbrev pub InTurn : {A : Type 0} → (A → HostState → HostState → Type 0) → List A → HostState → HostState → Type 0
InTurn Step [] old new = new ≡ old
InTurn Step (a ∷ more) old new = (between : HostState) × Step a old between × InTurn Step more between new

module _ {I : Type 0} (left : I → Option (List ℕ)) (read_faults : I → ℕ) where
  -- the host handed out standard input to be drained
  pub record DrainTaken (worker : DrainWorker I) (old new : HostState) : Type 0 where
    pub left_there : left worker.input ≡ old.input
    pub read_well : read_faults worker.input ≡ 0
    pub none : worker.end ≡ None
    pub state : new ≡ record old { input = None }

  -- the host took back what was drained
  pub record DrainKept (worker : DrainWorker I) (old new : HostState) : Type 0 where
    pub state : new ≡ record old { input = left worker.input; faults = new.faults }
    pub count : Counts old.faults new.faults (read_faults worker.input)

  module _ {O : Type 0} (took handed : O → Option (List ℕ)) (write_faults : O → ℕ) where
    -- the host handed out standard input and output, which show what it showed of them
    pub record TalkTaken (talk : LineEnded I O) (old new : HostState) : Type 0 where
      pub left_there : left talk.input ≡ old.input
      pub took_there : took talk.output ≡ old.output
      pub read_well : read_faults talk.input ≡ 0
      pub wrote_well : write_faults talk.output ≡ 0
      pub none : talk.end ≡ None
      pub state : new ≡ record old { input = None; output = None; handed = None }

    -- It handed them out to the workers of lines, in order; where there is none, it handed standard input to one that drains it.
    pub record AreTaken (talks : List (LineEnded I O)) (workers : List (DrainWorker I)) (old new : HostState) : Type 0 where
      pub between : HostState
      pub lines : InTurn TalkTaken talks old between
      pub drains : InTurn DrainTaken workers between new
      pub undrained : (talks ≡ [] → ⊥) → workers ≡ []
      pub drained : talks ≡ [] → length workers ≡ 1

    -- the host took them back, and with them their faults
    pub record TalkKept (talk : LineEnded I O) (old new : HostState) : Type 0 where
      pub state : new ≡ record old { input = left talk.input; output = took talk.output; handed = handed talk.output; faults = new.faults }
      pub between : ℕ
      pub input_count : Counts old.faults between (read_faults talk.input)
      pub output_count : Counts between new.faults (write_faults talk.output)

-- nothing but the streams has changed
abbrev pub IsButTaken : HostState → HostState → Type 0
IsButTaken old new = new ≡ record old { input = new.input; output = new.output; handed = new.handed }

-- nothing but the streams and the count of faults has
abbrev pub IsButKept : HostState → HostState → Type 0
IsButKept old new = new ≡ record old { input = new.input; output = new.output; handed = new.handed; faults = new.faults }

-- ---- the report

-- nothing but what standard output took and handed on has changed, and the count of faults
abbrev pub IsButOutput : HostState → HostState → Type 0
IsButOutput old new = new ≡ record old { output = new.output; handed = new.handed; faults = new.faults }

-- The whole report was written and handed on; or the output failed, and a front of it was written; or there was no memory for it,
-- and nothing was written. Where the output had failed before, nothing is touched.
abbrev pub IsReported : Bool → List ℕ → Result (Unit {0}) ReportRefused → HostState → HostState → Type 0
IsReported true text (Err Fault) old new = new ≡ old
IsReported true text result old new = ⊥
IsReported false text (Ok done) old new = Appends old.output new.output text × (new.handed ≡ new.output) × (new.faults ≡ old.faults)
IsReported false text (Err Fault) old new = Fronts old.output new.output old.faults new.faults text × Rose old.faults new.faults
IsReported false text (Err NoMemory) old new = (new.output ≡ old.output) × (new.faults ≡ old.faults)
