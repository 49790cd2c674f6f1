-- What a run of an agent has from its opening to the join of its workers.
use Rattle.std.specs.Prelude.{◌≡◌, ◌≤◌, List, All, length, map}
use Rattle.grouped_sinks.specs.declared.row.SinkRow.{SinkRow}
use Rattle.shared_channel.specs.Passes.{Known}
use Rattle.two_channels.specs.Shares.{table_of}
use Rattle.channel_wishes.specs.Opened.{WereOpened}
use Rattle.channel_wishes.specs.declared.opened.OpenedChannel.{OpenedChannel}
use Rattle.agent_drafts.specs.Drafts.{TakesLines}
use Rattle.run_tracks.specs.Dealt.{AreDealt}
use Rattle.run_tracks.specs.Homes.{AreHomes}
use Rattle.run_tracks.specs.Places.{Zips}
use Rattle.run_staff.specs.Alone.{AreAlone}
use Rattle.run_opening.specs.Assembled.{AreUsed}
use Rattle.run_settling.specs.Draining.{HasOwn}
use Rattle.run_opening.specs.Keepers.{AreWantedInFolders}
use Rattle.run_opening.specs.Labels.{numbered}
use Rattle.run_opening.specs.Lists.{HaveChannelLists, HaveWorkerLists}
use Rattle.run_opening.specs.Prepared.{IsSeat, uses_of}
use Rattle.run_staff.specs.Jobs.{AreNew, AreOnDisks, AreWorkers, CanRun, HaveRoom, owners_of}
use Rattle.run_opening.specs.Staff.{IsKeepOf, IsLineOf, IsListenOf, IsSinkOf}
use Rattle.run_opening.specs.declared.opening.Manned.{Manned}
use Rattle.run_opening.specs.declared.opening.Opening.{Opening}

-- All that workers are made of is there, and room for them: the channels were opened for what was wanted, each with as many passes as
-- it has users.
pub record CanBeManned {A B S N I O C K : Type 0} (plans : List SinkRow) (o : Opening A B S N I O C K) : Type 0 where
  pub opened : WereOpened o.prepared.wishes.items o.opened.items
  pub used : AreUsed o.prepared.wishes.items (uses_of o.prepared.keepers.items plans o.prepared.listeners.items o.prepared.lines.items)
  pub folders : AreWantedInFolders o.prepared.wishes.items o.prepared.keepers.items
  pub some : All (λ (plan : SinkRow). 1 ≤ plan.batch) plans
  pub sinks : length o.outside.sinks.items ≡ length plans
  pub clocks : length o.prepared.clocks.items ≡ length plans
  pub closes : length o.prepared.closes.items ≡ length o.prepared.wishes.items
  pub hearers : length o.outside.listeners.items ≡ length o.prepared.listeners.items
  pub listeners : All (IsSeat (length o.prepared.wishes.items)) o.prepared.listeners.items
  pub lines : All (IsSeat (length o.prepared.wishes.items)) o.prepared.lines.items
  pub lined : All (λ seat. TakesLines seat.draft.rules) o.prepared.lines.items
  pub labels : length o.prepared.labels.items ≡ length o.prepared.wishes.items
  pub channels : HaveChannelLists (length o.prepared.wishes.items) o.channels
  pub workers : HaveWorkerLists (length o.prepared.keepers.items) (length plans) (length o.prepared.listeners.items) (length o.prepared.lines.items) o.workers

-- The workers are those of the plan's sinks and sources and can run over the channels, and there is room for what comes back of them.
pub record IsManned {A B S N I O C K : Type 0} (plans : List SinkRow) (o : Opening A B S N I O C K) (m : Manned A B S N I O C K) : Type 0 where
  pub shares : m.crew.shares.items ≡ map (λ (c : OpenedChannel A B). c.share) o.opened.items
  pub homes : AreHomes table_of m.crew.shares.items m.crew.homes.items
  pub at_home : m.crew.homes.items ≡ map (λ (c : OpenedChannel A B). c.home) o.opened.items
  pub own : All HasOwn m.crew.homes.items
  pub dealt : AreDealt m.crew.homes.items (owners_of m.crew.jobs)
  pub alone : AreAlone m.crew.homes.items (owners_of m.crew.jobs)
  pub numbers : owners_of m.crew.jobs ≡ numbered (uses_of o.prepared.keepers.items plans o.prepared.listeners.items o.prepared.lines.items)
  pub workers : AreWorkers table_of m.crew.shares.items (λ (pass : Known). pass) m.crew.jobs
  pub new_ones : AreNew m.crew.jobs
  pub fit : CanRun m.crew.jobs
  pub on_disks : AreOnDisks m.crew.shares.items m.crew.jobs
  pub room : HaveRoom m.crew.jobs m.returned
  pub keepers : Zips IsKeepOf o.prepared.keepers.items m.crew.jobs.keepers.items
  pub sinks : Zips IsSinkOf plans m.crew.jobs.sinks.items
  pub own_sinks : map (λ job. job.sink) m.crew.jobs.sinks.items ≡ o.outside.sinks.items
  pub listeners : Zips IsListenOf o.prepared.listeners.items m.crew.jobs.listeners.items
  pub own_listeners : map (λ job. job.listener) m.crew.jobs.listeners.items ≡ o.outside.listeners.items
  pub lines : Zips IsLineOf o.prepared.lines.items m.crew.jobs.lines.items
  pub wishes : m.wishes ≡ o.prepared.wishes
  pub closes : m.closes ≡ o.prepared.closes
  pub places : m.places ≡ o.prepared.places
  pub labels : m.labels ≡ o.prepared.labels
  pub passes : m.passes ≡ o.channels.passes
  pub ends : m.ends ≡ o.channels.ends
  pub named : m.named ≡ o.workers.named
  pub settled : m.settled ≡ o.settled
