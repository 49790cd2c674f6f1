-- The workers of a run, as they are made over its channels.
use Rattle.std.specs.Prelude.{◌≡◌, ◌≤◌, ◌<◌, ℕ, List, [], All, length, map, slice_index_or}
use Rattle.shared_channel.specs.Passes.{Known}
use Rattle.grouped_sinks.specs.declared.row.SinkRow.{SinkRow}
use Rattle.two_channels.specs.Shares.{table_of}
use Rattle.channel_wishes.specs.declared.opened.OpenedChannel.{OpenedChannel}
use Rattle.channel_wishes.specs.declared.wish.ChannelWish.{ChannelWish}
use Rattle.agent_drafts.specs.Drafts.{TakesLines}
use Rattle.agent_drafts.specs.Fits.{IsFit}
use Rattle.run_tracks.specs.Dealt.{AreDealt}
use Rattle.run_tracks.specs.Homes.{AreHomes}
use Rattle.run_tracks.specs.Deals.{DealsEach, count_of, hand_at}
use Rattle.run_tracks.specs.Places.{Zips}
use Rattle.run_staff.specs.Alone.{AreAlone}
use Rattle.run_settling.specs.Draining.{HasOwn}
use Rattle.run_opening.specs.Labels.{numbered}
use Rattle.run_opening.specs.Lists.{IsEmptyFor}
use Rattle.run_opening.specs.Prepared.{uses_of}
use Rattle.run_staff.specs.Jobs.{AreNew, AreOnDisks, AreWorkers, CanRun, owners_of}
use Rattle.run_opening.specs.Staff.{IsKeepOf, IsLineOf, IsListenOf, IsRoomy, IsSinkOf, keep_channels, keep_ports, line_channels, line_ports, listen_channels, listen_ports, own_talk, sink_channels, sink_ports}
use Rattle.run_opening.specs.declared.assemble.Crew.{Crew}
use Rattle.run_opening.specs.declared.assemble.Parts.{Parts}
use Rattle.run_staff.specs.declared.workers.Workers.{Workers}

-- There is one of each part for each worker, and room for it.
pub record ArePartsOf {S N I O C K : Type 0} (plans : List SinkRow) (parts : Parts S N I O C K) : Type 0 where
  pub sinks : length parts.outside.sinks.items ≡ length plans
  pub clocks : length parts.clocks.items ≡ length plans
  pub some : All (λ (plan : SinkRow). 1 ≤ plan.batch) plans
  pub listeners : length parts.outside.listeners.items ≡ length parts.listeners.items
  pub talks : length parts.talks.items ≡ length parts.lines.items
  pub listen_rooms : All IsRoomy parts.listeners.items
  pub line_rooms : All IsRoomy parts.lines.items
  pub lined : All (λ seat. TakesLines seat.draft.rules) parts.lines.items
  pub keep_jobs : IsEmptyFor (length parts.keepers.items) parts.room.keepers
  pub sink_jobs : IsEmptyFor (length plans) parts.room.sinks
  pub listen_jobs : IsEmptyFor (length parts.listeners.items) parts.room.listeners
  pub line_jobs : IsEmptyFor (length parts.lines.items) parts.room.lines

-- Each channel has as many passes left as workers use it.
abbrev pub AreUndealt : {S N I O C K : Type 0} → List SinkRow → Parts S N I O C K → List (List Known) → Type 0
AreUndealt plans parts hands =
    (place : ℕ) → length (hand_at hands place) ≡ count_of place (uses_of parts.keepers.items plans parts.listeners.items parts.lines.items)

-- Each worker has what it is made of and a pass of each of its channels, dealt one worker after the other, and no pass is left.
pub record IsStaff {S N I O C K : Type 0} (plans : List SinkRow) (parts : Parts S N I O C K) (hands : List (List Known))
    (jobs : Workers Known S N I O C K) : Type 0 where
  pub keepers : Zips IsKeepOf parts.keepers.items jobs.keepers.items
  pub sinks : Zips IsSinkOf plans jobs.sinks.items
  pub own_sinks : map (λ job. job.sink) jobs.sinks.items ≡ parts.outside.sinks.items
  pub listeners : Zips IsListenOf parts.listeners.items jobs.listeners.items
  pub own_listeners : map (λ job. job.listener) jobs.listeners.items ≡ parts.outside.listeners.items
  pub lines : Zips IsLineOf parts.lines.items jobs.lines.items
  pub own_talks : map (λ job. own_talk job) jobs.lines.items ≡ parts.talks.items
  pub drains : jobs.drains ≡ parts.room.drains
  pub behind_keepers : List (List Known)
  pub behind_sinks : List (List Known)
  pub behind_listeners : List (List Known)
  pub last : List (List Known)
  pub deals_keepers : DealsEach keep_channels keep_ports hands jobs.keepers.items behind_keepers
  pub deals_sinks : DealsEach sink_channels sink_ports behind_keepers jobs.sinks.items behind_sinks
  pub deals_listeners : DealsEach listen_channels listen_ports behind_sinks jobs.listeners.items behind_listeners
  pub deals_lines : DealsEach line_channels line_ports behind_listeners jobs.lines.items last
  pub none_left : (place : ℕ) → hand_at last place ≡ []

-- Each channel has as many users as workers use it, and no other channel is used.
pub record AreUsed (wishes : List ChannelWish) (uses : List ℕ) : Type 0 where
  pub users : (place : ℕ) (wish : ChannelWish) → place < length wishes → (slice_index_or wishes place wish).users ≡ count_of place uses
  pub there : All (λ place. place < length wishes) uses

-- each worker of a source has all that it asks for, over so many channels
pub record AreFit {S N I O C K : Type 0} (count : ℕ) (parts : Parts S N I O C K) : Type 0 where
  pub listeners : All (λ seat. IsFit count seat.draft) parts.listeners.items
  pub lines : All (λ seat. IsFit count seat.draft) parts.lines.items

-- The channels that were opened are shared among workers that can run. Each number of a channel is with its pass at home or with one
-- worker, and none has made a call. No worker has the number of another or of the pass at home.
pub record IsCrew {A B S N I O C K : Type 0} (plans : List SinkRow) (opened : List (OpenedChannel A B)) (parts : Parts S N I O C K)
    (crew : Crew A B S N I O C K) : Type 0 where
  pub shares : crew.shares.items ≡ map (λ (c : OpenedChannel A B). c.share) opened
  pub homes : AreHomes table_of crew.shares.items crew.homes.items
  pub at_home : crew.homes.items ≡ map (λ (c : OpenedChannel A B). c.home) opened
  pub own : All HasOwn crew.homes.items
  pub dealt : AreDealt crew.homes.items (owners_of crew.jobs)
  pub alone : AreAlone crew.homes.items (owners_of crew.jobs)
  pub numbers : owners_of crew.jobs ≡ numbered (uses_of parts.keepers.items plans parts.listeners.items parts.lines.items)
  pub workers : AreWorkers table_of crew.shares.items (λ (pass : Known). pass) crew.jobs
  pub new_ones : AreNew crew.jobs
  pub fit : CanRun crew.jobs
  pub on_disks : AreOnDisks crew.shares.items crew.jobs
  pub keepers : Zips IsKeepOf parts.keepers.items crew.jobs.keepers.items
  pub sinks : Zips IsSinkOf plans crew.jobs.sinks.items
  pub own_sinks : map (λ job. job.sink) crew.jobs.sinks.items ≡ parts.outside.sinks.items
  pub listeners : Zips IsListenOf parts.listeners.items crew.jobs.listeners.items
  pub own_listeners : map (λ job. job.listener) crew.jobs.listeners.items ≡ parts.outside.listeners.items
  pub lines : Zips IsLineOf parts.lines.items crew.jobs.lines.items
  pub own_talks : map (λ job. own_talk job) crew.jobs.lines.items ≡ parts.talks.items
  pub drains : crew.jobs.drains ≡ parts.room.drains
