-- What is counted of a run of the generator.
use Rattle.std.specs.Prelude.{◌≡◌, ◌+◌, ◌<◌, ℕ, List, [], ◌∷◌, ◌++◌, length, flat_map, Result, Ok, Err, Bool, if◌then◌else◌}
use Rattle.std.specs.List.{sum_by}
use Rattle.event_core.specs.Content.{Content}
use Rattle.channel_face.specs.Faces.{is_spent_take}
use Rattle.channel_face.specs.Token.{Token}
use Rattle.channel_face.specs.Machine.{State, Call, Take}
use Rattle.channel_face.specs.declared.replies.TakeRefused.{TakeRefused}
use Rattle.md5.specs.Md5.{Holds}
use Rattle.load_gen.specs.Calls.{IsCalled}
use Rattle.load_gen.specs.Parts.{Does, HaveGiven, IsSomeTaken}
use Rattle.load_gen.specs.Runs.{AreTaken, IsTaken, kept_from, lines}
use Rattle.load_gen.specs.declared.refused.LoadRefused.{LoadRefused}
use Rattle.load_gen.specs.declared.tally.Tally.{Tally}

-- nothing was counted
pub record CountsSame (old new : Tally) : Type 0 where
  pub batches : new.batches ≡ old.batches
  pub committed : new.committed ≡ old.committed
  pub taken : new.taken ≡ old.taken

-- these events went into the digest, if they are kept
abbrev pub Feeds : Bool → List Content → Tally → Tally → Type 0
Feeds kept events old new = CountsSame old new × ((m : List ℕ) → Holds old.digest m → Holds new.digest (m ++ (if kept then lines events else [])))

-- up to 50 events were taken, up to the first take that was refused
abbrev pub AreTakenUpTo : ℕ → Token → Bool → Tally → Tally → Result ℕ TakeRefused → List Call → Type 0
AreTakenUpTo seen token kept old new (Ok count) calls = (events : List Content) × (count ≡ length events) × AreTaken token 50 events calls × Feeds kept events old new
AreTakenUpTo seen token kept old new (Err cause) calls =
    (events : List Content) × (takes last : List Call) × (calls ≡ takes ++ last) × (length events < 50) × HaveGiven token events takes
    × IsCalled seen (is_spent_take (Err cause)) (Take token (Err cause)) last

-- a batch was counted, after which so many events were taken
pub record IsCounted (kept : Bool) (count : ℕ) (old new : Tally) : Type 0 where
  pub batches : new.batches ≡ old.batches + 1
  pub committed : new.committed ≡ (if kept then old.committed + 1 else old.committed)
  pub taken : new.taken ≡ (if kept then old.taken + count else old.taken)
  pub digest : new.digest ≡ old.digest

-- what is counted of a run that took these events after its batches so far
pub record Tells (takes : List (List Content)) (t : Tally) : Type 0 where
  pub batches : t.batches ≡ length takes
  pub committed : t.committed ≡ length (kept_from 0 takes)
  pub taken : t.taken ≡ sum_by length (kept_from 0 takes)
  pub digest : Holds t.digest (flat_map lines (kept_from 0 takes))

-- events were taken after the next batch, and counted; or the transaction was cut off
abbrev pub TakesSome : ℕ → State → Tally → Tally → Result (Unit {0}) LoadRefused → List Call → Type 0
TakesSome seen s old new (Ok done) calls =
    (events : List Content) × IsTaken old.batches events calls × ((takes : List (List Content)) → Tells takes old → Tells (takes ++ events ∷ []) new)
TakesSome seen s old new (Err why) calls = Does (IsSomeTaken old.batches) seen s (Err why) calls
