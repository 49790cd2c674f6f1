-- The workers of a plan's channels on disks.
use Rattle.std.specs.Prelude.{◌++◌, ◌<◌, ℕ, suc, List, [], ◌∷◌, All, Bool, false, length, slice_index_or, Option, Some, None}
use Rattle.channel_wishes.specs.declared.wish.ChannelPlace.{ChannelPlace}
use Rattle.channel_wishes.specs.declared.wish.ChannelPlace.TheVariants as place
use Rattle.channel_wishes.specs.declared.wish.ChannelWish.{ChannelWish}
use Rattle.agent_plan.specs.declared.plan.ChannelKind.{ChannelKind}
use Rattle.agent_plan.specs.declared.plan.ChannelKind.TheVariants.{File, Memory}
use Rattle.agent_plan.specs.declared.plan.ChannelPlan.{ChannelPlan}
use Rattle.run_opening.specs.declared.seats.KeepSeat.{KeepSeat}

-- the interval of a channel's checkpoints, if it is on a disk
abbrev pub interval_of : ChannelKind → Option ℕ
interval_of Memory = None
interval_of (File folder max_file interval on_close) = Some interval

-- it is kept once more at the end of a run
abbrev pub closes : ChannelKind → Bool
closes Memory = false
closes (File folder max_file interval on_close) = on_close

-- the place of a channel that is kept, and its interval
pub record Keep : Type 0 where
  pub channel : ℕ
  pub interval : ℕ

abbrev pub keep_of : {C : Type 0} → KeepSeat C → Keep
keep_of seat = record { channel = seat.channel; interval = seat.interval }

abbrev pub keep_if : ℕ → Option ℕ → List Keep
keep_if place None = []
keep_if place (Some interval) = record { channel = place; interval = interval } ∷ []

-- those of the channels on disks, from this place on
abbrev pub keeps_from : ℕ → List ChannelPlan → List Keep
keeps_from place [] = []
keeps_from place (plan ∷ plans) = keep_if place (interval_of plan.kind) ++ keeps_from (suc place) plans

-- and from the first on
abbrev pub keeps_of : List ChannelPlan → List Keep
keeps_of = keeps_from 0

-- a channel is wanted in a folder
abbrev pub InFolder : ChannelPlace → Type 0
InFolder place.Memory = ⊥
InFolder (place.Folder path) = Unit {0}

-- the channel of the worker is wanted, and in a folder
pub record IsWantedInFolder {C : Type 0} (wishes : List ChannelWish) (seat : KeepSeat C) : Type 0 where
  pub there : seat.channel < length wishes
  pub in_folder : (wish : ChannelWish) → InFolder (slice_index_or wishes seat.channel wish).place

-- it is so of each of them
abbrev pub AreWantedInFolders : {C : Type 0} → List ChannelWish → List (KeepSeat C) → Type 0
AreWantedInFolders wishes seats = All (IsWantedInFolder wishes) seats
