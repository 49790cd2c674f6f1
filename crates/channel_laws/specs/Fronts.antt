-- What a port's transactions are in each history that begins with what its pass had seen.
use Rattle.std.specs.Prelude.{ℕ, List, ◌++◌, length, Result}
use mathlib.Core.List.{IsPrefix}
use Rattle.event_core.specs.Content.{Content}
use Rattle.channel_face.specs.Token.{Token}
use Rattle.channel_face.specs.History.{Opening, Step}
use Rattle.channel_face.specs.Faces.{Own, IsPutBatch, IsTakeCommit, IsTakeRolledBack}
use Rattle.channel_face.specs.declared.replies.FaceRefused.{FaceRefused}
use Rattle.channel_lock.specs.Views.{View}
use Rattle.shared_channel.specs.Ports.{Saw, Stood}
use Rattle.channel_laws.specs.Transactions.{ArePutInJournal, AreTakenInJournal}

-- A batch of a port is the same batch in each history that begins with what its pass had seen then.
abbrev pub BatchIsOfTheEnd : {C : Type 0} → (C → Opening → List Step → Type 0) → Type 0
BatchIsOfTheEnd stands =
    (v : View) (h : List Step) (events : List Content) (result : Result ℕ FaceRefused) (earlier own : List Own) → IsPrefix v.seen h
    → IsPutBatch (Saw stands v) (length v.seen) events result earlier own → IsPutBatch (Stood v.base h v.numbers) (length h) events result earlier own

-- So is a commit of takes.
abbrev pub CommitIsOfTheEnd : {C : Type 0} → (C → Opening → List Step → Type 0) → Type 0
CommitIsOfTheEnd stands =
    (v : View) (h : List Step) (token : Token) (result : Result (Unit {0}) FaceRefused) (earlier own : List Own) → IsPrefix v.seen h
    → IsTakeCommit (Saw stands v) (length v.seen) token result earlier own → IsTakeCommit (Stood v.base h v.numbers) (length h) token result earlier own

-- And so is a rollback of takes.
abbrev pub RollbackIsOfTheEnd : {C : Type 0} → (C → Opening → List Step → Type 0) → Type 0
RollbackIsOfTheEnd stands =
    (v : View) (h : List Step) (token : Token) (earlier own : List Own) → IsPrefix v.seen h
    → IsTakeRolledBack (Saw stands v) token earlier own → IsTakeRolledBack (Stood v.base h v.numbers) token earlier own

-- What a history has in its journal stays there, whatever is called later.
abbrev pub PutStaysInJournal : Type 0
PutStaysInJournal = (o : Opening) (h later : List Step) (own : List Own) (events : List Content) (number : ℕ) → ArePutInJournal o h own events number → ArePutInJournal o (h ++ later) own events number

abbrev pub TakenStaysInJournal : Type 0
TakenStaysInJournal = (o : Opening) (h later : List Step) (token : Token) → AreTakenInJournal o h token → AreTakenInJournal o (h ++ later) token
