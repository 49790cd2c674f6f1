-- Why a run of `agent` did not begin, and what became of the host.
use Rattle.std.specs.Prelude.{◌≡◌, ◌⊎◌, ◌<◌, ◌≤◌, ℕ, List, [], All, Option, Some, true, length, slice_index_or}
use Rattle.flume_host.specs.Causes.{Rose}
use Rattle.flume_host.specs.HostState.{Folders, HostState}
use Rattle.flume_host.specs.Rolled.{opened}
use Rattle.flume_host.specs.Told.{Tells, WhereTold}
use Rattle.flume_host.specs.declared.names.NameRefused.{NameRefused}
use Rattle.channel_face.specs.declared.replies.OpenCause.{OpenCause}
use Rattle.channel_writing.specs.Folders.{AreSame, OpensFrom, Refuses}
use Rattle.agent_plan.specs.declared.plan.ChannelPlan.{ChannelPlan}
use Rattle.agent_plan.specs.declared.plan.Plan.{Plan}
use Rattle.agent_words.specs.Statuses.{cause_status, status_of}
use Rattle.agent_words.specs.declared.error.RunError.{RunError}
use Rattle.channel_wishes.specs.Openings.{HostTold}
use Rattle.agent_channels.specs.Several.{AreUnused, ComeBack, RefusesAt}
use Rattle.channel_wishes.specs.declared.opened.OpenedChannel.{OpenedChannel}
use Rattle.channel_wishes.specs.declared.wish.ChannelWish.{ChannelWish}
use Rattle.agent_outside.specs.Backs.{is_among}
use Rattle.agent_outside.specs.Ends.{places}
use Rattle.agent_outside.specs.Sinks.{folders_of}
use Rattle.agent_commands.specs.Checked.{IsPlanOf, Lacking, Unplanned}
use Rattle.agent_commands.specs.Stored.{IsOfFolder}
use Rattle.agent_run.specs.FoldersTold.{folder_of}
use Rattle.run_opening.specs.Outside.{OutsideRefused}
use Rattle.run_opening.specs.Prepared.{error_of}
use Rattle.run_opening.specs.Wishes.{AreWishes}
use Rattle.run_opening.specs.declared.channel_end.ChannelEnd.{ChannelEnd}

-- ---- which step refused, and why

-- The file could not be read, or the agent has no plan in it. No folder was touched.
pub record NoPlan (lacks : Lacking) (file : Option (List ℕ)) (agent : List ℕ) (status : ℕ) (a b : HostTold) : Type 0 where
  pub why : Unplanned lacks file agent a.state b.state status
  pub folders : b.folders ≡ a.folders

-- The host failed to tell a name that interceptors ask for, or memory ran out, before anything was opened. No folder was touched.
pub record NotPrepared (status : ℕ) (a b : HostTold) : Type 0 where
  pub why : ((status ≡ 3) × Rose a.state.faults b.state.faults) ⊎ ((status ≡ 5) × (b.state.faults ≡ a.state.faults))
  pub state : b.state ≡ record a.state { faults = b.state.faults }
  pub folders : b.folders ≡ a.folders

-- these are wanted for the channels of the plan, in order
abbrev pub AreWanted : Plan → List ChannelWish → Type 0
AreWanted plan wishes = (uses : List ℕ) × AreWishes uses plan.channels.items wishes

-- the status by the cause for which a channel was not opened; memory may run out for its error
abbrev pub IsCauseStatus : OpenCause → ℕ → Type 0
IsCauseStatus cause status = (status ≡ cause_status cause) ⊎ (status ≡ 5)

-- The channel at this place of the plan was not opened, for this cause. Those before it came back, with no call made.
pub record ChannelNotOpened (plan : Plan) (status : ℕ) (a b : HostTold) : Type 0 where
  pub wishes : List ChannelWish
  pub wanted : AreWanted plan wishes
  pub place : ℕ
  pub cause : OpenCause
  pub refused : RefusesAt wishes a b place cause
  pub is : IsCauseStatus cause status

-- The channels were opened, and then the folder of a sink or a listener was not. The channels came back, with no call made.
pub record OutsideNotOpened (plan : Plan) (status : ℕ) (a b : HostTold) : Type 0 where
  pub wishes : List ChannelWish
  pub wanted : AreWanted plan wishes
  pub open_then : HostTold
  pub left : HostTold
  pub why : NameRefused
  pub refused : OutsideRefused plan (places 0 plan.sources.items) why open_then left
  pub channels : ComeBack wishes a open_then left b
  pub is : status ≡ status_of (error_of why)

-- why a run of this plan did not begin
abbrev pub IsRunRefused : Plan → ℕ → HostTold → HostTold → Type 0
IsRunRefused plan status a b = NotPrepared status a b ⊎ ChannelNotOpened plan status a b ⊎ OutsideNotOpened plan status a b

-- While these channels were open, the folder of a sink or a listener was refused with this error, and the channels came back.
pub record IsRefusedOutside {A B : Type 0} (plan : Plan) (at : List ℕ) (wishes : List ChannelWish) (cs : List (OpenedChannel A B)) (error : RunError) (a b : HostTold) : Type 0 where
  pub why : NameRefused
  pub said : error ≡ error_of why
  pub left : HostTold
  pub refused : OutsideRefused plan at why a left
  pub back : AreUnused wishes cs left b

-- ---- what became of the host

-- Standard input and output are as they were. Nothing but listeners and dialers that came back and the counts of faults may have changed: at 3 a
-- count of the host or of its disks rose, and at 2 and 4 nothing has changed.
pub record LeavesHost (status : ℕ) (old new : HostState) : Type 0 where
  pub from : 2 ≤ status
  pub below : status < 6
  pub rest : new ≡ record old { listeners = new.listeners; dialers = new.dialers; faults = new.faults; disk_faults = new.disk_faults }
  pub fault : status ≡ 3 → Rose old.faults new.faults ⊎ Rose old.disk_faults new.disk_faults
  pub well : (status ≡ 2) ⊎ (status ≡ 4) → new ≡ old

-- the disk of this path is as it was
pub record IsSameDisk (path : List ℕ) (old new : Folders) : Type 0 where
  pub told : new.disks path ≡ old.disks path
  pub mark : new.disk_opened path ≡ old.disk_opened path

-- no channel of these is in the folder of this path
abbrev pub IsNoFolder : List ChannelPlan → List ℕ → Type 0
IsNoFolder plans path = All (λ (plan : ChannelPlan). folder_of plan.kind ≡ Some path → ⊥) plans

-- The folder of a channel is the cause: a checkpoint, a fault of its log, too many events, or the last log file. It reads as before, and
-- since it was settled a crash leaves it so.
pub record FolderIsCause (plans : List ChannelPlan) (old new : Folders) : Type 0 where
  pub place : ℕ
  pub below : place < length plans
  pub path : List ℕ
  pub in_folder : (d : ChannelPlan) → folder_of (slice_index_or plans place d).kind ≡ Some path
  pub cause : OpenCause
  pub of_folder : IsOfFolder cause
  pub holds : (d : ChannelPlan) → WhereTold (old.disks path) (λ t. Refuses t.reads (slice_index_or plans place d).capacity cause)
  pub reads : Tells (old.disks path) (new.disks path) (λ t u. AreSame t.reads u.reads)
  pub settled : Tells (old.disks path) (new.disks path) OpensFrom

-- a folder of rolled files shows what it showed, or, as one of these, what it showed when it was opened
abbrev pub IsRollSpared : List (List ℕ) → Folders → Folders → List ℕ → Type 0
IsRollSpared sinks old new path = (new.rolls path ≡ old.rolls path) ⊎ ((is_among sinks path ≡ true) × (new.rolls path ≡ opened (old.rolls path)))

-- No folder but those of the plan's channels was opened or changed, and no folder of rolled files got a byte. At 4 the folder of a channel is
-- the cause.
pub record LeavesFolders (plan : Plan) (status : ℕ) (old new : Folders) : Type 0 where
  pub others : (path : List ℕ) → IsNoFolder plan.channels.items path → IsSameDisk path old new
  pub rolls : (path : List ℕ) → IsRollSpared (folders_of plan.sinks.items) old new path
  pub held : status ≡ 4 → FolderIsCause plan.channels.items old new

-- ---- a run that did not begin

-- A run of this plan did not begin. No channel comes back.
pub record NotBegun (plan : Plan) (status : ℕ) (channels : List ChannelEnd) (a b : HostTold) : Type 0 where
  pub none : channels ≡ []
  pub why : IsRunRefused plan status a b
  pub host : LeavesHost status a.state b.state
  pub folders : LeavesFolders plan status a.folders b.folders

-- A run of the agent's plan in this file did not begin, or there is no such plan. No channel comes back.
pub record DidNotBegin (lacks : Lacking) (file : Option (List ℕ)) (agent : List ℕ) (status : ℕ) (channels : List ChannelEnd) (a b : HostTold) : Type 0 where
  pub none : channels ≡ []
  pub host : LeavesHost status a.state b.state
  pub why : NoPlan lacks file agent status a b ⊎ ((plan : Plan) × IsPlanOf lacks file agent plan × NotBegun plan status channels a b)
