-- The numbers of a plan are within the limits of what is made of it.
use Rattle.std.specs.Prelude.{◌≤◌, ℕ, List, All, Ok}
use Rattle.prop_text.specs.Pairs.{Pair}
use Rattle.agent_plan.specs.declared.plan.Plan.{Plan}
use Rattle.agent_plan.specs.declared.plan.SourcePlan.{SourcePlan}
use Rattle.agent_plan.specs.declared.plan.SourceKind.{SourceKind}
use Rattle.agent_plan.specs.declared.plan.SourceKind.TheVariants.{Netcat, Avro, Stdin}
use Rattle.agent_plan.specs.declared.plan.ChannelPlan.{ChannelPlan}
use Rattle.agent_plan.specs.declared.plan.ChannelKind.{ChannelKind}
use Rattle.agent_plan.specs.declared.plan.ChannelKind.TheVariants.{Memory, File}
use Rattle.agent_plan.specs.declared.plan.SinkPlan.{SinkPlan}
use Rattle.agent_plan.specs.Plans.{Plans}

-- from the first number to the second
abbrev pub IsFromTo : ℕ → ℕ → ℕ → Type 0
IsFromTo low high n = (low ≤ n) × (n ≤ high)

-- the port of a source, its longest line and its threads
abbrev pub IsSourceLimited : SourceKind → Type 0
IsSourceLimited (Netcat bind port max_line ack threads) = IsFromTo 1 65535 port × IsFromTo 1 1048568 max_line × IsFromTo 1 64 threads
IsSourceLimited (Avro bind port threads) = IsFromTo 1 65535 port × IsFromTo 1 64 threads
IsSourceLimited (Stdin max_line ack) = IsFromTo 1 1048568 max_line

-- the bytes of a log file, and the milliseconds between checkpoints
abbrev pub IsKindLimited : ChannelKind → Type 0
IsKindLimited Memory = Unit {0}
IsKindLimited (File folder max_file interval on_close) = IsFromTo 4096 2146435071 max_file × IsFromTo 1000 86400000 interval

-- how many events a channel holds, and a transaction
abbrev pub IsChannelLimited : ChannelPlan → Type 0
IsChannelLimited c = IsFromTo 1 10000000 c.capacity × IsFromTo 1 100000 c.txn_capacity × IsKindLimited c.kind

-- So it is with each part of a plan that is answered, and each sink asks for 1 to 10,000 events at once.
pub record IsLimited (plan : Plan) : Type 0 where
  pub sources : All (λ (s : SourcePlan). IsSourceLimited s.kind) plan.sources.items
  pub channels : All IsChannelLimited plan.channels.items
  pub sinks : All (λ (s : SinkPlan). IsFromTo 1 10000 s.batch) plan.sinks.items

abbrev pub NumbersAreLimited : Type 0
NumbersAreLimited = (pairs : List Pair) (agent : List ℕ) (plan : Plan) → Plans pairs agent (Ok plan) → IsLimited plan
