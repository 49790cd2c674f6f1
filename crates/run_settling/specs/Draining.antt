-- Sinks that empty their channels through the passes at home.
use Rattle.std.specs.Prelude.{◌≡◌, ◌<◌, ◌≤◌, ℕ, List, [], ◌∷◌, All, Option, true, length, slice_index_or}
use Rattle.std.specs.Vec.{vec_capacity}
use Rattle.std.specs.declared.alloc.Global.{Global}
use Rattle.std.specs.declared.vec.Vec.{Vec}
use mathlib.Core.List.{IsPrefix}
use Rattle.agent_end.specs.declared.draining.ChannelDrain.{ChannelDrain}
use Rattle.agent_end.specs.declared.draining.ChannelDrain.TheVariants.{Emptied}
use Rattle.atomic_table.specs.Seated.{TableId}
use Rattle.channel_face.specs.History.{Opening}
use Rattle.shared_channel.specs.Calls.{state_seen}
use Rattle.shared_channel.specs.Passes.{Known, new_passes}
use Rattle.shared_channel.specs.Ports.{Later}
use Rattle.sink_worker.specs.Rounds.{Told}
use Rattle.sink_worker.specs.declared.worker.SinkWorker.{SinkWorker}
use Rattle.channel_lock.specs.Calls.{has}
use Rattle.run_tracks.specs.Dealt.{HasNumber}
use Rattle.run_tracks.specs.Drained.{IsDrainedInTrack}
use Rattle.run_tracks.specs.Homes.{EachTook, StayElsewhere}
use Rattle.run_settling.specs.declared.at_home.AtHome.{AtHome}

-- the number that its next call carries is one of its own
abbrev pub HasOwn : Known → Type 0
HasOwn p = has p.view.numbers p.number ≡ true

-- the sink's channel has a pass at home, and the number of the sink's worker is one of that
abbrev pub IsSinkHome : {S C : Type 0} → List Known → SinkWorker AtHome S C → Type 0
IsSinkHome homes w = (w.channel < length homes) × HasNumber homes w.channel w.port.number

-- Of a channel's new passes the first carries a number of its own.
abbrev pub FirstHasOwn : Type 0
FirstHasOwn =
    (table : TableId) (start : Opening) (passes : ℕ) (home : Known) (hand : List Known)
    → new_passes table start passes passes ≡ home ∷ hand → HasOwn home

-- So does a pass at home that took others in.
abbrev pub OwnIsKept : Type 0
OwnIsKept = (old new : List Known) → EachTook old new → All HasOwn old → All HasOwn new

-- the same pass, whose next call carries this number
abbrev pub under : ℕ → Known → Known
under number p = record p { number = number }

-- The same pass with the same number after some calls. What it has seen begins with what it had seen.
pub record GoesOn (p q : Known) : Type 0 where
  pub table : q.table_id ≡ p.table_id
  pub number : q.number ≡ p.number
  pub base : q.view.base ≡ p.view.base
  pub passes : q.view.passes ≡ p.view.passes
  pub numbers : q.view.numbers ≡ p.view.numbers
  pub begins : IsPrefix p.view.seen q.view.seen

-- each of them, in order
pub record EachGoesOn (old new : List Known) : Type 0 where
  pub as_many : length new ≡ length old
  pub each : (place : ℕ) (d : Known) → place < length old → GoesOn (slice_index_or old place d) (slice_index_or new place d)

-- The sink repeated its run through this pass until it ended so. Its runs are all calls that the pass made, under the number of the
-- sink's worker, and in each track at which the pass then is all calls with that number since the track before. Where the channel
-- was emptied, no event is left in the state that the pass has seen. The pass carries its own number again.
pub record IsDrainedHome {S C : Type 0} (sink : Told S) (moments : C → Option (ℕ → ℕ)) (w : SinkWorker AtHome S C) (old : Known)
    (end : ChannelDrain) (back : S) (new : Known) : Type 0 where
  pub number : new.number ≡ old.number
  pub later : Later (under w.port.number old) (under w.port.number new)
  pub after : Option (ℕ → ℕ)
  pub track : IsDrainedInTrack sink w.batch end
      (record { from = under w.port.number old; sink = w.sink; moments = moments w.clock })
      (record { from = under w.port.number new; sink = back; moments = after })
  pub none : end ≡ Emptied → (state_seen new.view).items ≡ []

-- It did so through the pass at home of its channel, and the pass at each other place is as it was.
pub record IsDrainedAt {S C : Type 0} (sink : Told S) (moments : C → Option (ℕ → ℕ)) (w : SinkWorker AtHome S C) (old : List Known)
    (end : ChannelDrain) (back : S) (new : List Known) : Type 0 where
  pub as_many : length new ≡ length old
  pub others : StayElsewhere (w.channel ∷ []) old new
  pub home : (d : Known) → IsDrainedHome sink moments w (slice_index_or old w.channel d) end back (slice_index_or new w.channel d)

-- one after the other, each where the one before it had left the passes at home
abbrev pub AreDrained : {W S : Type 0} → (W → List Known → ChannelDrain → S → List Known → Type 0)
    → List W → List Known → List ChannelDrain → List S → List Known → Type 0
AreDrained Drained [] old [] [] new = new ≡ old
AreDrained Drained (w ∷ ws) old (end ∷ ends) (back ∷ backs) new =
    (between : List Known) × Drained w old end back between × AreDrained Drained ws between ends backs new
AreDrained Drained ws old ends backs new = ⊥

-- a list is empty and has room for as many
abbrev pub HasRoom : {A P : Type 0} → List A → Vec P Global → Type 0
HasRoom jobs room = (room.items ≡ []) × (length jobs ≤ vec_capacity room)
