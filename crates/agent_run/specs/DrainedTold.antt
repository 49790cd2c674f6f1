-- Which sinks of a run emptied their channels after it.
use Rattle.std.specs.Prelude.{◌≡◌, ◌<◌, ◌++◌, ℕ, List, [], true, false, length, slice_index_or}
use Rattle.std.specs.List.{AllByRecursion}
use mathlib.Core.List.{IsPrefix}
use Rattle.agent_end.specs.Drains.{is_delivery}
use Rattle.agent_end.specs.declared.draining.ChannelDrain.{ChannelDrain}
use Rattle.agent_end.specs.declared.draining.ChannelDrain.TheVariants.{Emptied, Stopped}
use Rattle.channel_face.specs.History.{Step, opening, state_after}
use Rattle.channel_face.specs.Machine.{BeginPut, Call, Put, StagePut}
use Rattle.event_core.specs.Journal.{put_events}
use Rattle.grouped_sinks.specs.declared.row.SinkRow.{SinkRow}
use Rattle.shared_channel.specs.Calls.{state_seen}
use Rattle.shared_channel.specs.Passes.{Known}

-- the call is none of those that put an event
abbrev pub IsNoPut : Call → Type 0
IsNoPut (BeginPut reply) = ⊥
IsNoPut (Put token event reply) = ⊥
IsNoPut (StagePut token reply) = ⊥
IsNoPut call = Unit {0}

-- What the one pass had seen begins what the other has, and no call after it puts.
pub record PutsEnd (home final : Known) : Type 0 where
  pub base : final.view.base ≡ home.view.base
  pub rest : List Step
  pub whole : home.view.seen ++ rest ≡ final.view.seen
  pub none : AllByRecursion (λ (step : Step). IsNoPut step.call) rest

-- After what the one pass had seen there was a moment at which no event was left. Where none was staged then either, none is left in
-- the end, as long as the disk shows.
pub record WasEmptied (home final : Known) : Type 0 where
  pub front : List Step
  pub behind : IsPrefix home.view.seen front
  pub within : IsPrefix front final.view.seen
  pub none : (state_after (opening final.view.base) front).items ≡ []
  pub stays : put_events (state_after (opening final.view.base) front).staged ≡ [] → final.view.base.tells ≡ true → (state_seen final.view).items ≡ []

-- the draining ended so: the channel was emptied, or a run of the sink did not deliver
abbrev pub DrainTold : ChannelDrain → Known → Known → Type 0
DrainTold Emptied home final = WasEmptied home final
DrainTold (Stopped turn) home final = is_delivery turn ≡ false

-- Once the workers were joined nobody put into a channel any more, and each row of sinks tried to empty its own.
pub record DrainedTold (rows : List SinkRow) (ends : List ChannelDrain) (homes finals : List Known) : Type 0 where
  pub joined : (place : ℕ) (home final : Known) → place < length finals → PutsEnd (slice_index_or homes place home) (slice_index_or finals place final)
  pub as_many : length ends ≡ length rows
  pub each : (place : ℕ) (row : SinkRow) (end : ChannelDrain) (home final : Known) → place < length rows
      → let channel = (slice_index_or rows place row).channel in
      DrainTold (slice_index_or ends place end) (slice_index_or homes channel home) (slice_index_or finals channel final)
