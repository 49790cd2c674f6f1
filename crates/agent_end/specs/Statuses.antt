-- The exit status of a run of the agent by what its parts came to.
use Rattle.std.specs.Prelude.{ℕ, ◌==◌, List, [], ◌∷◌, ◌++◌, map, Bool, Result, Ok, Err, if◌then◌else◌}
use Rattle.std.specs.List.{list_any}
use Rattle.channel_face.specs.declared.replies.OpenCause.{OpenCause}
use Rattle.channel_face.specs.declared.replies.OpenCause.TheVariants as cause
use Rattle.crew.specs.declared.draining.DrainEnd.{DrainEnd}
use Rattle.crew.specs.declared.draining.DrainEnd.TheVariants as drain
use Rattle.sink_runner.specs.declared.turn.Turn.TheVariants as turn
use Rattle.agent_end.specs.declared.draining.ChannelDrain.{ChannelDrain}
use Rattle.agent_end.specs.declared.draining.ChannelDrain.TheVariants.{Stopped}
use Rattle.agent_end.specs.declared.ends.InputEnd.{InputEnd}
use Rattle.agent_end.specs.declared.ends.InputEnd.TheVariants as input
use Rattle.agent_end.specs.declared.ends.ReportRefused.{ReportRefused}
use Rattle.agent_end.specs.declared.ends.ReportRefused.TheVariants as report
use Rattle.agent_end.specs.declared.ends.RunEnds.{RunEnds}

-- the end of an input that was drained
abbrev pub input_of : DrainEnd → InputEnd
input_of drain.End = input.End
input_of drain.Full = input.Full
input_of drain.ReadFault = input.Fault

abbrev pub input_status : InputEnd → ℕ
input_status input.End = 0
input_status input.Fault = 3
input_status input.NoMemory = 5
input_status input.LongLine = 7
input_status input.Full = 6

abbrev pub report_status : Result (Unit {0}) ReportRefused → ℕ
report_status (Ok done) = 0
report_status (Err report.Fault) = 3
report_status (Err report.NoMemory) = 5

-- a sink that found no memory; no other failure of a draining changes the status
abbrev pub drain_status : ChannelDrain → ℕ
drain_status (Stopped turn.NoMemory) = 5
drain_status end = 0

-- a channel that is still broken, by the cause of its refused reopening
abbrev pub mend_status : Result Bool OpenCause → ℕ
mend_status (Ok mended) = 0
mend_status (Err cause.DiskFault) = 3
mend_status (Err cause.NoMemory) = 5
mend_status (Err refused) = 4

-- the statuses of the parts of a run, 0 where all went well
abbrev pub statuses : RunEnds → List ℕ
statuses run = input_status run.input ∷ report_status run.report ∷ map drain_status run.drains.items ++ map mend_status run.mends.items

-- the first of an order that is there, or 0
abbrev pub first_in : List ℕ → List ℕ → ℕ
first_in [] there = 0
first_in (status ∷ order) there = if list_any (λ n. n == status) there then status else first_in order there

abbrev pub run_status : RunEnds → ℕ
run_status run = first_in (4 ∷ 3 ∷ 5 ∷ 7 ∷ 6 ∷ []) (statuses run)
