-- What a port's answers to whole transactions say of the journal.
use Rattle.std.specs.Prelude.{◌≡◌, ℕ, List, [], ◌∷◌, ◌++◌, Ok, Bool, false}
use mathlib.Core.List.{IsPrefix}
use Rattle.event_core.specs.Content.{Content}
use Rattle.channel_face.specs.Token.{Token}
use Rattle.channel_face.specs.Machine.{State, after, puts_of}
use Rattle.channel_face.specs.History.{Step, Opening, opening}
use Rattle.channel_face.specs.Faces.{Own, IsPutBatch, IsTakeCommit}
use Rattle.channel_lock.specs.Calls.{has}
use Rattle.channel_lock.specs.Views.{View}
use Rattle.shared_channel.specs.Ports.{owned, Saw, SawAll}
use Rattle.channel_laws.specs.Transactions.{BeginsWith, ArePutInJournal, AreTakenInJournal}

-- From this state on each call with none of these numbers leaves what is looked at as it is.
abbrev pub OthersKeep : {V : Type 0} → List ℕ → (State → V) → State → List Step → Type 0
OthersKeep numbers look s [] = Unit {0}
OthersKeep numbers look s (step ∷ h) = (has numbers step.pass ≡ false → look (after s step.call) ≡ look s) × OthersKeep numbers look (after s step.call) h

-- A batch that a port answered Ok is in the journal of each history that begins with what its pass has seen, where no call that the pass has seen, with a number that is not its own, changed its puts.
abbrev pub PortAnsweredIsInJournal : {C : Type 0} → (C → Opening → List Step → Type 0) → (C → Bool) → Type 0
PortAnsweredIsInJournal stands tells =
    (v : View) (count number : ℕ) (events : List Content) (earlier more : List Own)
    → SawAll stands tells v → owned v ≡ earlier ++ more → IsPutBatch (Saw stands v) count events (Ok number) earlier more
    → ((token : Token) → BeginsWith more token → OthersKeep v.numbers (λ s. puts_of s token) (opening v.base) v.seen)
    → (h : List Step) → IsPrefix v.seen h → ArePutInJournal v.base h more events number

-- and what a transaction had taken that a port committed with Ok
abbrev pub PortCommittedIsInJournal : {C : Type 0} → (C → Opening → List Step → Type 0) → (C → Bool) → Type 0
PortCommittedIsInJournal stands tells =
    (v : View) (count : ℕ) (token : Token) (earlier more : List Own)
    → SawAll stands tells v → owned v ≡ earlier ++ more → IsTakeCommit (Saw stands v) count token (Ok tt) earlier more
    → (h : List Step) → IsPrefix v.seen h → AreTakenInJournal v.base h token
