-- The draining of a channel by a sink through a pass that has further numbers besides that of the sink's worker.
use Rattle.std.specs.Prelude.{◌≡◌, ℕ, List, [], ◌∷◌, true, length}
use mathlib.Core.List.{IsPrefix}
use Rattle.agent_end.specs.Drains.{Drains, LooksOnce}
use Rattle.agent_end.specs.declared.draining.ChannelDrain.{ChannelDrain}
use Rattle.agent_end.specs.declared.draining.ChannelDrain.TheVariants.{Emptied}
use Rattle.channel_face.specs.Faces.{Own}
use Rattle.channel_face.specs.History.{opening}
use Rattle.channel_face.specs.Machine.{State}
use Rattle.shared_channel.specs.Calls.{state_seen}
use Rattle.shared_channel.specs.Passes.{Known}
use Rattle.shared_channel.specs.Ports.{own_calls}
use Rattle.sink_worker.specs.Rounds.{Taking, Told, TurnsOnce}
use Rattle.channel_lock.specs.Calls.{has}
use Rattle.run_tracks.specs.Told.{as_face}
use Rattle.run_tracks.specs.Tracks.{Stood, Track, Turned}

-- the calls with the track's number that this pass has seen
abbrev pub called_in : Track → Known → List Own
called_in t q = own_calls (t.number ∷ []) (opening q.view.base) q.view.seen

-- a pass is where a track is: it has the track's number, which its next call carries, and perhaps others
pub record MatchesUnder (q : Known) (t : Track) : Type 0 where
  pub has_it : has q.view.numbers t.number ≡ true
  pub now : q.number ≡ t.number
  pub start : q.view.base ≡ t.start
  pub own : called_in t q ≡ t.own
  pub within : IsPrefix q.view.seen t.whole

-- nothing was called, and at some moment after its calls so far so many events were left
abbrev pub Looked : {S : Type 0} → Taking Track S → ℕ → Taking Track S → Type 0
Looked old size new = (new ≡ old) × ((s : State) × Stood old.from old.from.own s × (size ≡ length s.items))

-- A draining between two states of a pass is in each track at which the pass then is: its runs are there all calls with the
-- track's number since the track before, in order and no others.
abbrev pub IsDrainedInTrack : {S : Type 0} → Told S → ℕ → ChannelDrain → Taking Known S → Taking Known S → Type 0
IsDrainedInTrack sink batch end old new =
    (t : Track) → MatchesUnder new.from t
    → let before = record t { own = called_in t old.from } in
    MatchesUnder old.from before
    × Drains (Turned sink batch) Looked end
    (record { from = before; sink = old.sink; moments = old.moments })
    (record { from = t; sink = new.sink; moments = new.moments })

module _ {F : Type 0} (pass : F → Known) (saw : F → List Own → State → Type 0) (kept : F → F → Type 0) where
  -- with its pass for its port
  abbrev pub with_pass : {S : Type 0} → Taking F S → Taking Known S
  with_pass a = record { from = pass a.from; sink = a.sink; moments = a.moments }

  -- a draining by what its port says of itself
  abbrev pub FaceDrains : {S : Type 0} → Told S → ℕ → ChannelDrain → Taking F S → Taking F S → Type 0
  FaceDrains sink batch = Drains (TurnsOnce (as_face pass saw kept) sink batch) (LooksOnce (as_face pass saw kept))

  -- A draining through a port is in each track at which its pass is.
  abbrev pub DrainIsInTrack : {S : Type 0} → Told S → Type 0
  DrainIsInTrack {S} sink =
      (batch : ℕ) (end : ChannelDrain) (old new : Taking F S) → FaceDrains sink batch end old new
      → IsDrainedInTrack sink batch end (with_pass old) (with_pass new)

  -- Where it ended with an empty channel, no event is left in the state that its pass has seen.
  abbrev pub EmptiedLeavesNone : {S : Type 0} → Told S → Type 0
  EmptiedLeavesNone {S} sink =
      (batch : ℕ) (old new : Taking F S) → FaceDrains sink batch Emptied old new → (state_seen (pass new.from).view).items ≡ []
