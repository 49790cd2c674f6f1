-- What a sink run that found no event says of its channel.
use Rattle.std.specs.Prelude.{◌≡◌, ◌≤◌, ℕ, List, [], ◌++◌, Bool}
use mathlib.Core.List.{IsPrefix}
use Rattle.channel_face.specs.Faces.{Own}
use Rattle.channel_face.specs.History.{Step, IsRun, opening}
use Rattle.channel_face.specs.Machine.{State, entries, free}
use Rattle.event_core.specs.Journal.{taken_numbers}
use Rattle.shared_channel.specs.Calls.{state_seen}
use Rattle.shared_channel.specs.Passes.{Known}
use Rattle.sink_runner.specs.declared.turn.Turn.TheVariants.{Empty}
use Rattle.sink_worker.specs.Rounds.{Taking, Told, TurnsOnce}
use Rattle.channel_lock.specs.Calls.{Below}
use Rattle.channel_lock.specs.Turns.{HasAll}
use Rattle.channel_lock.specs.Views.{View}
use Rattle.run_tracks.specs.Told.{as_face}

-- What a view has seen begins this history, of which each call is of a pass that there is, and was answered as the machine answers it.
pub record Begins (tells : Bool) (v : View) (whole : List Step) : Type 0 where
  pub begins : IsPrefix v.seen whole
  pub below : Below v.passes whole
  pub run : IsRun tells (opening v.base) whole

-- no event is held by a transaction that is open, or staged and not settled
abbrev pub IsNoneHeld : State → Type 0
IsNoneHeld s = taken_numbers (entries s.opened) ++ taken_numbers s.staged ≡ []

module _ {F : Type 0} (pass : F → Known) (saw : F → List Own → State → Type 0) (kept : F → F → Type 0) where
  -- Where a run through a pass with each number found no event, each that was left before it was held; where none was held, none
  -- was left.
  abbrev pub EmptyFoundNone : {S : Type 0} → Told S → Type 0
  EmptyFoundNone {S} sink =
      (batch : ℕ) (old new : Taking F S) (tells : Bool) (whole : List Step)
      → 1 ≤ batch → HasAll (pass old.from).view → Begins tells (pass new.from).view whole
      → TurnsOnce (as_face pass saw kept) sink batch old Empty new
      → (free (state_seen (pass old.from).view) ≡ [])
      × (IsNoneHeld (state_seen (pass old.from).view) → (state_seen (pass old.from).view).items ≡ [])
