-- What the report of a run says.
use Rattle.std.specs.Prelude.{◌≡◌, ℕ, List, map, Option, String}
use Rattle.std.specs.Io.KnownBytes.{Appends}
use Rattle.std.specs.declared.alloc.Global.{Global}
use Rattle.agent_plan.specs.declared.plan.ChannelPlan.{ChannelPlan}
use Rattle.flume_host.specs.HostState.{HostState}
use Rattle.channel_face.specs.Counters.{counts_of}
use Rattle.channel_face.specs.declared.replies.Counts.{Counts}
use Rattle.agent_words.specs.Report.{report_text}
use Rattle.shared_channel.specs.Passes.{Known}
use Rattle.run_opening.specs.Lists.{NamesOf}

-- what is counted of all calls that this pass has seen
abbrev pub counts_seen : Known → Counts
counts_seen p = counts_of p.view.base p.view.seen

-- The report has an entry for each channel of the plan, in order: its name, and what is counted of all its calls. It was written
-- whole after what standard output had taken, which handed all of it on.
pub record ReportTold (plans : List ChannelPlan) (finals : List Known) (before : Option (List ℕ)) (new : HostState) : Type 0 where
  pub entries : List (String Global × Counts)
  pub names : NamesOf plans entries
  pub counts : map (λ (entry : String Global × Counts). entry.1) entries ≡ map counts_seen finals
  pub written : Appends before new.output (report_text entries)
  pub handed : new.handed ≡ new.output
