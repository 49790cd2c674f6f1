-- Room for what a run of an agent has, made before its channels are opened.
use Rattle.std.specs.Prelude.{◌≡◌, ◌≤◌, ℕ, List, [], length, map, String, string_bytes}
use Rattle.std.specs.Vec.{vec_capacity}
use Rattle.std.specs.declared.alloc.Global.{Global}
use Rattle.std.specs.declared.vec.Vec.{Vec}
use Rattle.channel_face.specs.declared.replies.Counts.{Counts}
use Rattle.agent_plan.specs.declared.plan.ChannelPlan.{ChannelPlan}
use Rattle.run_opening.specs.declared.lists.ChannelLists.{ChannelLists}
use Rattle.run_opening.specs.declared.lists.WorkerLists.{WorkerLists}
use Rattle.run_opening.specs.declared.opening.Room.{Room}
use Rattle.agent_plan.specs.declared.plan.Plan.{Plan}
use Rattle.run_settling.specs.declared.settling.Settled.{Settled}

-- a list is empty, and has room for so many
abbrev pub IsEmptyFor : {P : Type 0} → ℕ → Vec P Global → Type 0
IsEmptyFor many list = (list.items ≡ []) × (many ≤ vec_capacity list)

-- an entry for each channel, with its name
abbrev pub NamesOf : List ChannelPlan → List (String Global × Counts) → Type 0
NamesOf plans report = map (λ (entry : String Global × Counts). string_bytes entry.0) report ≡ map (λ (plan : ChannelPlan). string_bytes plan.name) plans

-- room for so many channels
pub record HaveChannelLists {A B : Type 0} (many : ℕ) (lists : ChannelLists A B) : Type 0 where
  pub shares : IsEmptyFor many lists.shares
  pub homes : IsEmptyFor many lists.homes
  pub hands : IsEmptyFor many lists.hands
  pub passes : IsEmptyFor many lists.passes
  pub ends : IsEmptyFor many lists.ends

-- room for what the settling of these channels leaves, and of so many sinks
pub record HasSettleRoom {S A B : Type 0} (plans : List ChannelPlan) (many : ℕ) (room : Settled S A B) : Type 0 where
  pub ends : IsEmptyFor many room.ends
  pub sinks : IsEmptyFor many room.sinks
  pub mends : length room.mends.items ≡ length plans
  pub report : NamesOf plans room.report.items
  pub closed : IsEmptyFor (length plans) room.closed

-- room for so many kept channels, sinks, listeners and workers of lines
pub record HaveWorkerLists {S N I O C K : Type 0} (of_keepers of_sinks of_listeners of_lines : ℕ) (lists : WorkerLists S N I O C K) : Type 0 where
  pub keep_jobs : IsEmptyFor of_keepers lists.jobs.keepers
  pub sink_jobs : IsEmptyFor of_sinks lists.jobs.sinks
  pub listen_jobs : IsEmptyFor of_listeners lists.jobs.listeners
  pub line_jobs : IsEmptyFor of_lines lists.jobs.lines
  pub drains : IsEmptyFor 1 lists.jobs.drains
  pub sinks_back : IsEmptyFor of_sinks lists.returned.sinks
  pub listeners_back : IsEmptyFor of_listeners lists.returned.listeners
  pub lines_back : IsEmptyFor of_lines lists.returned.lines
  pub talks : IsEmptyFor of_lines lists.talks
  pub named : IsEmptyFor of_listeners lists.named

-- room for all that a run of this plan has, with so many kept channels, rows of sinks, listeners and workers of lines
pub record HasRoomFor {S A B N I O C K : Type 0} (plan : Plan) (of_keepers of_rows of_listeners of_lines : ℕ) (room : Room S A B N I O C K) : Type 0 where
  pub listeners : IsEmptyFor of_listeners room.listeners
  pub runners : IsEmptyFor of_rows room.runners
  pub channels : HaveChannelLists (length plan.channels.items) room.channels
  pub workers : HaveWorkerLists of_keepers of_rows of_listeners of_lines room.workers
  pub settled : HasSettleRoom plan.channels.items of_rows room.settled
