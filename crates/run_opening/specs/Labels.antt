-- The channels of a run by name, with the workers that use each.
use Rattle.std.specs.Prelude.{◌≡◌, ◌==◌, ◌+◌, ◌++◌, ℕ, suc, List, [], ◌∷◌, Option, Some, None, codes, flat_map, map, slice_get, String, string_bytes, if◌then◌else◌}
use Rattle.std.specs.declared.alloc.Global.{Global}
use Rattle.agent_plan.specs.declared.plan.ChannelPlan.{ChannelPlan}
use Rattle.agent_plan.specs.declared.plan.Plan.{Plan}
use Rattle.grouped_sinks.specs.declared.row.SinkRow.{SinkRow}
use Rattle.agent_plan.specs.declared.plan.SourcePlan.{SourcePlan}
use Rattle.agent_drafts.specs.declared.draft.SourceDraft.{SourceDraft}
use Rattle.run_tracks.specs.Deals.{count_of}
use Rattle.run_tracks.specs.Dealt.{Owner}
use Rattle.run_opening.specs.Staff.{seat_channels}
use Rattle.run_opening.specs.declared.labels.ChannelLabel.{ChannelLabel}
use Rattle.run_opening.specs.declared.labels.User.{User}
use Rattle.run_opening.specs.declared.channel_end.ChannelEnd.{ChannelEnd}
use Rattle.run_opening.specs.declared.channel_end.Worker.{Worker}
use Rattle.run_opening.specs.declared.seats.KeepSeat.{KeepSeat}
use Rattle.run_opening.specs.declared.seats.Seat.{Seat}

-- A worker that uses the channel at this place: its component, and its place among the workers of that.
pub record Use : Type 0 where
  pub channel : ℕ
  pub component : List ℕ
  pub place : ℕ

abbrev pub user_of : User → Use
user_of user = record { channel = user.channel; component = string_bytes user.component; place = user.place }

-- the component of a channel, if there is one
abbrev pub channel_name_of : Option ChannelPlan → List ℕ
channel_name_of None = []
channel_name_of (Some plan) = codes "channels." ++ string_bytes plan.name

-- this text is the component of the channel at this place
abbrev pub IsChannelNamed : List ChannelPlan → ℕ → String Global → Type 0
IsChannelNamed plans at text = string_bytes text ≡ channel_name_of (slice_get plans at)

-- the worker of a channel on a disk
abbrev pub keep_user : {C : Type 0} → List ChannelPlan → KeepSeat C → Use
keep_user plans seat = record { channel = seat.channel; component = channel_name_of (slice_get plans seat.channel); place = 0 }

abbrev pub sink_user : SinkRow → Use
sink_user row = record { channel = row.channel; component = string_bytes row.component; place = 0 }

-- the component of a source, if there is one
abbrev pub name_of : Option SourcePlan → List ℕ
name_of None = []
name_of (Some source) = codes "sources." ++ string_bytes source.name

-- this text is the component of the source at this place
abbrev pub IsNamed : List SourcePlan → ℕ → String Global → Type 0
IsNamed sources at text = string_bytes text ≡ name_of (slice_get sources at)

-- a worker of a source, with one of its channels
abbrev pub channel_user : {K : Type 0} → List SourcePlan → SourceDraft K → ℕ → Use
channel_user sources draft channel = record { channel = channel; component = name_of (slice_get sources draft.source); place = draft.place }

-- and with each of them
abbrev pub seat_users : {K C : Type 0} → List SourcePlan → Seat K C → List Use
seat_users sources seat = map (channel_user sources seat.draft) (seat_channels seat)

-- the workers that use channels: those of the channels on disks, of the rows of sinks, of the listeners and of the lines
abbrev pub users_of : {K C : Type 0} → Plan → List (KeepSeat C) → List SinkRow → List (Seat K C) → List (Seat K C) → List Use
users_of plan keepers rows listeners lines =
    map (keep_user plan.channels.items) keepers
    ++ (map sink_user rows ++ (flat_map (seat_users plan.sources.items) listeners ++ flat_map (seat_users plan.sources.items) lines))

-- the channels that they use, each as often as it is used
abbrev pub places_of : List Use → List ℕ
places_of users = map (λ (u : Use). u.channel) users

-- a worker of a channel, and the number of its pass
pub record Entry : Type 0 where
  pub component : List ℕ
  pub place : ℕ
  pub number : ℕ

abbrev pub entry_of : Worker → Entry
entry_of worker = record { component = string_bytes worker.component; place = worker.place; number = worker.number }

-- The workers that use the channel at this place, by their numbers from 1 on. The last of them has the first number.
abbrev pub entries_at : ℕ → List Use → List Entry
entries_at place [] = []
entries_at place (u ∷ us) =
    if u.channel == place then entries_at place us ++ record { component = u.component; place = u.place; number = count_of place (places_of us) + 1 } ∷ []
    else entries_at place us

-- the channel and the number of each pass that is dealt for one of these places, by these numbers
abbrev pub numbered : List ℕ → List Owner
numbered [] = []
numbered (place ∷ places) = record { place = place; number = count_of place places + 1 } ∷ numbered places

-- the name of the channel at this place of the plan, and the workers that use it
pub record IsLabel (users : List Use) (place : ℕ) (plan : ChannelPlan) (label : ChannelLabel) : Type 0 where
  pub name : string_bytes label.name ≡ string_bytes plan.name
  pub workers : map entry_of label.workers.items ≡ entries_at place users

-- those of all channels, from this place on
abbrev pub AreLabels : List Use → ℕ → List ChannelPlan → List ChannelLabel → Type 0
AreLabels users place [] [] = Unit {0}
AreLabels users place (plan ∷ plans) (label ∷ labels) = IsLabel users place plan label × AreLabels users (suc place) plans labels
AreLabels users place plans labels = ⊥

abbrev pub label_of : ChannelEnd → ChannelLabel
label_of end = record { name = end.name; workers = end.workers }
