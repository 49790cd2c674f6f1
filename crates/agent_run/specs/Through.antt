-- A run of what was opened, to its end.
use Rattle.std.specs.Prelude.{◌≡◌, ◌⊎◌, ℕ, Bool, List, All, map, Option, Result, String, length}
use Rattle.std.specs.declared.alloc.Global.{Global}
use Rattle.channel_wishes.specs.Openings.{HostTold}
use Rattle.channel_wishes.specs.Opened.{AreOpened}
use Rattle.channel_wishes.specs.declared.opened.OpenedChannel.{OpenedChannel}
use Rattle.channel_wishes.specs.declared.wish.ChannelWish.{ChannelWish}
use Rattle.agent_end.specs.declared.ends.ReportRefused.{ReportRefused}
use Rattle.agent_end.specs.Statuses.{run_status}
use Rattle.agent_end.specs.declared.ends.RunEnds.{RunEnds}
use Rattle.channel_face.specs.declared.replies.Counts.{Counts}
use Rattle.agent_commands.specs.Checked.{IsPlanOf, Lacking}
use Rattle.agent_plan.specs.declared.plan.ChannelPlan.{ChannelPlan}
use Rattle.agent_plan.specs.declared.plan.Plan.{Plan}
use Rattle.grouped_sinks.specs.Rows.{AreRows}
use Rattle.grouped_sinks.specs.declared.row.SinkRow.{SinkRow}
use Rattle.flume_host.specs.HostState.{HostState}
use Rattle.plan_objects.specs.Asks.{AreClaimed, AreTaken}
use Rattle.plan_objects.specs.declared.handed.HandedIn.{HandedIn}
use Rattle.run_tracks.specs.Homes.{EachTook}
use Rattle.shared_channel.specs.Passes.{Known}
use Rattle.sink_worker.specs.declared.worker.SinkWorker.{SinkWorker}
use Rattle.channel_lock.specs.Turns.{HasAll}
use Rattle.two_channels.specs.Shares.{pass_of}
use Rattle.two_channels.specs.declared.shared.EitherClosed.{EitherClosed}
use Rattle.two_channels.specs.declared.shared.EitherShared.{EitherShared}
use Rattle.run_settling.specs.Draining.{IsSinkHome}
use Rattle.agent_run.specs.Joined.{IsButStreams}
use Rattle.run_opening.specs.Labels.{label_of}
use Rattle.run_opening.specs.Lists.{NamesOf}
use Rattle.agent_run.specs.NotBegun.{DidNotBegin, NotBegun}
use Rattle.run_opening.specs.Opening.{IsManned}
use Rattle.run_opening.specs.Prepared.{IsPrepared}
use Rattle.run_opening.specs.Streams.{IsButTaken}
use Rattle.run_settling.specs.declared.at_home.AtHome.{AtHome}
use Rattle.agent_run.specs.declared.joined.Joined.{Joined}
use Rattle.run_opening.specs.declared.opening.Manned.{Manned}
use Rattle.run_opening.specs.declared.opening.Opening.{Opening}
use Rattle.run_opening.specs.declared.channel_end.ChannelEnd.{ChannelEnd}
use Rattle.run_opening.specs.declared.outside.Outside.{Outside}
use Rattle.run_opening.specs.declared.preparing.Prepared.{Prepared}
use Rattle.run_settling.specs.declared.settling.Settled.{Settled}

-- The workers were made of what was opened and of the streams that they took, ran and came back; then each sink emptied its channel,
-- those channels that are kept at the end were kept, and each was mended, counted and closed; then all was given back, and what the run
-- came to was handed on.
pub record RanThrough {A B S N I O C K : Type 0} (plans : List SinkRow) (o : Opening A B S N I O C K)
    (Takes : Manned A B S N I O C K → HostState → HostState → Type 0)
    (Joins : Manned A B S N I O C K → List Known → Joined S C → HostState → HostState → Type 0)
    (Settles : List (EitherShared A B) → List Known → List (SinkWorker AtHome S C) → List Bool → List (String Global × Counts) → Settled S A B → Type 0)
    (Back : List ChannelWish → Settled S A B → Bool → Result (Unit {0}) ReportRefused → HostTold → HostTold → Type 0)
    (ends : RunEnds) (channels : List ChannelEnd) (a b : HostTold) : Type 0 where
  pub manned : Manned A B S N I O C K
  pub is_manned : IsManned plans o manned
  pub begun : HostState
  pub taken : IsButTaken a.state begun
  pub takes : Takes manned a.state begun
  pub homes : List Known
  pub took : EachTook manned.crew.homes.items homes
  pub all : All (λ (p : Known). HasAll p.view) homes
  pub joined : Joined S C
  pub behind : HostState
  pub joins : Joins manned homes joined begun behind
  pub rest : IsButStreams begun behind
  pub home : All (IsSinkHome homes) joined.sinks.items
  pub named : length manned.settled.report.items ≡ length homes
  pub settled : Settled S A B
  pub settles : Settles manned.crew.shares.items homes joined.sinks.items manned.closes.items manned.settled.report.items settled
  pub back : Back manned.wishes.items settled joined.streams.output_failed ends.report (record { state = behind; folders = a.folders }) b
  pub input : ends.input ≡ joined.streams.input
  pub drains : ends.drains ≡ settled.ends
  pub mends : ends.mends ≡ settled.mends
  pub passes : map (λ (end : ChannelEnd). end.pass) channels ≡ map (λ (c : EitherClosed A B). pass_of c) settled.closed.items
  pub labels : map label_of channels ≡ o.prepared.labels.items

-- What a run needs outside its channels was opened, and the run went through. Its report is of the plan's channels, by their names.
pub record OpenedAndRan {A B S N I O C K : Type 0} (plans : List ChannelPlan) (channels : List (OpenedChannel A B)) (made : Prepared K C)
    (Opens : HostTold → HostTold → Outside S N → Type 0)
    (Goes : Opening A B S N I O C K → RunEnds → List ChannelEnd → HostTold → HostTold → Type 0)
    (ends : RunEnds) (channel_ends : List ChannelEnd) (a b : HostTold) : Type 0 where
  pub opening : Opening A B S N I O C K
  pub same_channels : opening.opened.items ≡ channels
  pub same_made : opening.prepared ≡ made
  pub names : NamesOf plans opening.settled.report.items
  pub between : HostTold
  pub opens : Opens a between opening.outside
  pub goes : Goes opening ends channel_ends between b

-- A run of a plan: its sinks were put into rows, it was prepared, its channels were opened in order, then what it needs outside them, and it
-- went through.
pub record PlanRan {A B S N I O C K : Type 0} (plan : Plan) (Drafted : Prepared K C → Type 0)
    (Opens : List SinkRow → Prepared K C → HostTold → HostTold → Outside S N → Type 0)
    (Goes : List SinkRow → Opening A B S N I O C K → RunEnds → List ChannelEnd → HostTold → HostTold → Type 0)
    (ends : RunEnds) (channel_ends : List ChannelEnd) (a b : HostTold) : Type 0 where
  pub rows : List SinkRow
  pub are_rows : AreRows plan.sinks.items plan.groups.items rows
  pub made : Prepared K C
  pub is_prepared : IsPrepared plan rows made
  pub drafted : Drafted made
  pub channels : List (OpenedChannel A B)
  pub behind : HostTold
  pub opened : AreOpened made.wishes.items channels a behind
  pub ran : OpenedAndRan plan.channels.items channels made (Opens rows made) (Goes rows) ends channel_ends behind b

-- A run of the plan came to ends with this status, and to these channels.
pub record CameTo (Ran : Plan → RunEnds → List ChannelEnd → HostTold → HostTold → Type 0) (plan : Plan) (status : ℕ) (channels : List ChannelEnd)
    (a b : HostTold) : Type 0 where
  pub ends : RunEnds
  pub by_ends : run_status ends ≡ status
  pub ran : Ran plan ends channels a b

-- The run of a plan, with the objects that its interceptors and its sinks took, each in turn, out of what was handed in.
abbrev pub WithObjects : {K B : Type 0} → (List K → List (Option B) → Plan → RunEnds → List ChannelEnd → HostTold → HostTold → Type 0) → HandedIn K B
    → Plan → RunEnds → List ChannelEnd → HostTold → HostTold → Type 0
WithObjects {K} {B} Ran handed plan ends channels a b =
    (given : List K) × (objects : List (Option B)) × (left : HandedIn K B) × AreClaimed plan.sources.items handed.steps.items given left.steps.items
    × AreTaken plan.sinks.items handed.sinks.items objects left.sinks.items × Ran given objects plan ends channels a b

-- A run of the plan came to this status and these channels, or did not begin.
abbrev pub EndsAs : (Plan → RunEnds → List ChannelEnd → HostTold → HostTold → Type 0) → Plan → ℕ → List ChannelEnd → HostTold → HostTold → Type 0
EndsAs Ran plan status channels a b = CameTo Ran plan status channels a b ⊎ NotBegun plan status channels a b

-- A run of the agent's plan in this file came to this status and these channels.
pub record AgentRan (lacks : Lacking) (Ran : Plan → RunEnds → List ChannelEnd → HostTold → HostTold → Type 0) (file : Option (List ℕ)) (agent : List ℕ) (status : ℕ)
    (channels : List ChannelEnd) (a b : HostTold) : Type 0 where
  pub plan : Plan
  pub of : IsPlanOf lacks file agent plan
  pub ran : CameTo Ran plan status channels a b

-- It did, or the run did not begin.
abbrev pub AgentEndsAs : Lacking → (Plan → RunEnds → List ChannelEnd → HostTold → HostTold → Type 0) → Option (List ℕ) → List ℕ → ℕ → List ChannelEnd → HostTold → HostTold → Type 0
AgentEndsAs lacks Ran file agent status channels a b = AgentRan lacks Ran file agent status channels a b ⊎ DidNotBegin lacks file agent status channels a b
