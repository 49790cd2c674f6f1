-- How the channels of a run are opened, one after the other.
use Rattle.std.specs.Prelude.{◌≡◌, ◌<◌, ◌+◌, ℕ, List, [], ◌∷◌, ◌++◌, Option, length, true, string_bytes}
use Rattle.atomic_table.specs.Seated.{TableId}
use Rattle.flume_host.specs.Told.{Told}
use Rattle.channel_face.specs.History.{Opening}
use Rattle.channel_face.specs.declared.replies.OpenCause.{OpenCause}
use Rattle.file_channel.specs.Stands.{FileState, StandsOver}
use Rattle.shared_channel.specs.Counting.{StandsAgreeing}
use Rattle.shared_channel.specs.Passes.{Known, new_passes}
use Rattle.channel_lock.specs.Calls.{has}
use Rattle.channel_wishes.specs.Openings.{Begins, HostTold, Refuses, TakesDisk}
use Rattle.agent_channels.specs.Closings.{DisksBack}
use Rattle.channel_wishes.specs.declared.opened.OpenedChannel.{OpenedChannel}
use Rattle.channel_wishes.specs.declared.wish.ChannelPlace.{ChannelPlace}
use Rattle.channel_wishes.specs.declared.wish.ChannelPlace.TheVariants.{Memory, Folder}
use Rattle.channel_wishes.specs.declared.wish.ChannelWish.{ChannelWish}

-- these are all passes of a channel, of which none has made a call
abbrev pub AreNew : TableId → Known → List Known → Type 0
AreNew table home others = home ∷ others ≡ new_passes table home.view.base (length others + 1) (length others + 1)

-- A pass of a channel that has made no call took others in, and has each number below this one.
pub record TookOthers (table : TableId) (home : Known) (n : ℕ) (joined : Known) : Type 0 where
  pub table_id : joined.table_id ≡ table
  pub base : joined.view.base ≡ home.view.base
  pub passes : joined.view.passes ≡ home.view.passes
  pub seen : joined.view.seen ≡ []
  pub numbers : (k : ℕ) → k < n → has joined.view.numbers k ≡ true

-- A channel that began so has a disk that shows this and counted no fault since, and made no call but rollbacks of stale tokens, which
-- change nothing.
abbrev pub IsSpared : Option Told → Opening → Type 0
IsSpared told start = (c : FileState) × StandsAgreeing (StandsOver told start.faults) c start []

-- The disk of a channel that began so came back, where it made no call. What else the host shows is as before.
abbrev pub IsUnused : ChannelPlace → Opening → HostTold → HostTold → Type 0
IsUnused Memory start a b = DisksBack [] a b
IsUnused (Folder path) start a b =
    (told : Option Told) × DisksBack (record { path = string_bytes path; told = told; faults = start.faults } ∷ []) a b × IsSpared told start

-- channels that were opened and made no call came back, the last first
abbrev pub AreUnused : {A B : Type 0} → List ChannelWish → List (OpenedChannel A B) → HostTold → HostTold → Type 0
AreUnused [] [] a b = b ≡ a
AreUnused (wish ∷ wishes) (c ∷ cs) a b = (m : HostTold) × AreUnused wishes cs a m × IsUnused wish.place c.home.view.base m b
AreUnused wishes cs a b = ⊥

-- Channels that were wanted were opened in order, from a to b, and without a call came back, the last first, from c to d.
abbrev pub ComeBack : List ChannelWish → HostTold → HostTold → HostTold → HostTold → Type 0
ComeBack [] a b c d = (b ≡ a) × (d ≡ c)
ComeBack (wish ∷ wishes) a b c d =
    (m n : HostTold) × (start : Opening) × Begins a.folders wish.place wish.limits start × TakesDisk wish.place a m
    × ComeBack wishes m b c n × IsUnused wish.place start n d

-- The channel that is wanted at this place was refused for this cause, where the host had come to this and was left so: those before it
-- had been opened, and came back.
pub record RefusesAt (wishes : List ChannelWish) (a b : HostTold) (place : ℕ) (cause : OpenCause) : Type 0 where
  pub front : List ChannelWish
  pub wish : ChannelWish
  pub rest : List ChannelWish
  pub split : wishes ≡ front ++ wish ∷ rest
  pub at : length front ≡ place
  pub come : HostTold
  pub left : HostTold
  pub why : Refuses wish.place wish.limits.capacity come left cause
  pub others : ComeBack front a come left b

-- The channel that is wanted after these was refused for this cause, and these came back.
pub record RefusesLast {A B : Type 0} (front : List ChannelWish) (cs : List (OpenedChannel A B)) (wish : ChannelWish) (a b : HostTold) (place : ℕ) (cause : OpenCause) : Type 0 where
  pub at : length front ≡ place
  pub left : HostTold
  pub why : Refuses wish.place wish.limits.capacity a left cause
  pub others : AreUnused front cs left b
