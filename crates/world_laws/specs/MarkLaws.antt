-- What each answer of a face says of its marks.
use Rattle.std.specs.Prelude.{◌≡◌, ◌⊎◌, ℕ, List, [], ◌∷◌, ◌++◌, Option, Some, Result, Ok, Err}
use Rattle.event_core.specs.Content.{Content}
use Rattle.channel_face.specs.Token.{Token}
use Rattle.channel_face.specs.Machine.{State}
use Rattle.channel_face.specs.Faces.{Own, IsPutBatch, IsTakeBegun, IsTake, IsTakeCommit, IsTakeRolledBack}
use Rattle.channel_face.specs.declared.replies.FaceRefused.{FaceRefused}
use Rattle.channel_face.specs.declared.replies.FaceRefused.TheVariants.{InDoubt}
use Rattle.world_laws.specs.Marks.{Mark, Begins, Takes, Commits, GivesUp, OnlySettles, StoresOnce, puts_marks, takes_marks}

-- a batch that was answered Ok, or that is in doubt, is staged, and one that was refused is not
abbrev pub StoresBy : Result ℕ FaceRefused → List Content → List Mark → Type 0
StoresBy (Ok number) events marks = StoresOnce events marks
StoresBy (Err InDoubt) events marks = StoresOnce events marks
StoresBy (Err refused) events marks = OnlySettles marks

-- so it is with each batch of some events that a face was given
abbrev pub BatchStores : (List Own → State → Type 0) → ℕ → Type 0
BatchStores saw seen =
    (e : Content) (events : List Content) (result : Result ℕ FaceRefused) (earlier own : List Own)
    → IsPutBatch saw seen (e ∷ events) result earlier own → StoresBy result (e ∷ events) (puts_marks [] own)

-- a begin of takes
abbrev pub BeginsBy : Result Token FaceRefused → List Mark → Type 0
BeginsBy (Ok token) marks = marks ≡ Begins ∷ []
BeginsBy (Err refused) marks = marks ≡ []

-- a take that gave an event, which may have settled what was staged first; and any other take
abbrev pub TakesBy : Result (Option Content) FaceRefused → List Mark → Type 0
TakesBy (Ok (Some e)) marks = (front : List Mark) × (marks ≡ front ++ Takes e ∷ []) × OnlySettles front
TakesBy other marks = OnlySettles marks

-- the transaction is rolled back, or a reopening had ended it
abbrev pub IsGivenUp : List Mark → Type 0
IsGivenUp marks = (marks ≡ GivesUp ∷ []) ⊎ (marks ≡ [])

-- a commit that was answered Ok, or that is in doubt, is staged, and one that was refused is rolled back
abbrev pub CommitsBy : Result (Unit {0}) FaceRefused → List Mark → Type 0
CommitsBy (Ok done) marks = (back : List Mark) × (marks ≡ Commits ∷ back) × OnlySettles back
CommitsBy (Err InDoubt) marks = (back : List Mark) × (marks ≡ Commits ∷ back) × OnlySettles back
CommitsBy (Err refused) marks = IsGivenUp marks

-- What the calls of a transaction of takes are as marks.
pub record TakesAreMarked (saw : List Own → State → Type 0) (seen : ℕ) : Type 0 where
  pub begun : (result : Result Token FaceRefused) (own : List Own) → IsTakeBegun seen result own → BeginsBy result (takes_marks own)
  pub taken :
      (token : Token) (result : Result (Option Content) FaceRefused) (own : List Own) → IsTake seen token result own → TakesBy result (takes_marks own)
  pub committed :
      (token : Token) (result : Result (Unit {0}) FaceRefused) (earlier own : List Own) → IsTakeCommit saw seen token result earlier own
      → CommitsBy result (takes_marks own)
  pub rolled_back : (token : Token) (earlier own : List Own) → IsTakeRolledBack saw token earlier own → IsGivenUp (takes_marks own)
