-- Exit statuses.
use Rattle.std.specs.Prelude.{ℕ}
use Rattle.channel_face.specs.declared.replies.OpenCause.{OpenCause}
use Rattle.channel_face.specs.declared.replies.OpenCause.TheVariants as causes
use Rattle.prop_text.specs.declared.fault.PropRefused.{PropRefused}
use Rattle.prop_text.specs.declared.fault.PropRefused.TheVariants as text
use Rattle.plan_refused.specs.declared.refused.PlanRefused.{PlanRefused}
use Rattle.plan_refused.specs.declared.refused.PlanRefused.TheVariants as plan
use Rattle.agent_words.specs.declared.error.RunError.{RunError}
use Rattle.agent_words.specs.declared.error.RunError.TheVariants.{Usage, FileTooLarge, Text, NoAgent, Plan, Fault, BadCheckpoint, BadLog, OverCapacity, Spent, Damaged, NoMemory, InputTooLong, LineTooLong}

-- a text that is at fault has status 2, and out of memory 5
abbrev pub text_status : PropRefused → ℕ
text_status (text.NotUtf8 at) = 2
text_status (text.BadEscape line) = 2
text_status text.NoMemory = 5

abbrev pub plan_status : PlanRefused → ℕ
plan_status plan.NoAgent = 2
plan_status (plan.UnknownType line) = 2
plan_status (plan.UnknownName line) = 2
plan_status (plan.BadNumber line) = 2
plan_status (plan.BadPattern line) = 2
plan_status (plan.Unsupported line) = 2
plan_status (plan.Clash line) = 2
plan_status (plan.Missing key) = 2
plan_status plan.NoMemory = 5

abbrev pub status_of : RunError → ℕ
status_of Usage = 1
status_of FileTooLarge = 2
status_of (Text refused) = text_status refused
status_of (NoAgent name) = 2
status_of (Plan refused) = plan_status refused
status_of Fault = 3
status_of (BadCheckpoint dir file at) = 4
status_of (BadLog dir file at) = 4
status_of (OverCapacity dir count capacity) = 4
status_of (Spent dir) = 4
status_of (Damaged dir) = 4
status_of NoMemory = 5
status_of InputTooLong = 6
status_of LineTooLong = 7

-- the status of a run whose channel was not opened for this cause
abbrev pub cause_status : OpenCause → ℕ
cause_status causes.DiskFault = 3
cause_status (causes.BadCheck file at) = 4
cause_status (causes.BadLog file at) = 4
cause_status (causes.OverCapacity count) = 4
cause_status (causes.Spent counter) = 4
cause_status causes.NoMemory = 5
