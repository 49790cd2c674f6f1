-- What the answers to whole transactions say of the journal.
use Rattle.std.specs.Prelude.{◌≡◌, ◌⊎◌, ℕ, List, [], ◌∷◌, ◌++◌, Some, Ok, Bool}
use Rattle.event_core.specs.Content.{Content}
use Rattle.event_core.specs.Journal.{IsNotEmpty, next}
use Rattle.event_core.specs.declared.journal.Entry.TheVariants.{Puts, Takes}
use Rattle.channel_face.specs.Token.{Token}
use Rattle.channel_face.specs.Machine.{State, BeginPut, StagePut, StageTake, after, next_number, puts_of, takes_of, settled}
use Rattle.channel_face.specs.History.{Step, Opening, opening, IsRun, state_after, journal, commits}
use Rattle.channel_face.specs.Faces.{Own, one, IsPutBatch, IsTakeCommit}
use Rattle.channel_face.specs.OwnCalls.{steps_of, HasMade, Was}
use Rattle.channel_face.specs.Laws.{ReadsNone}
use Rattle.channel_face.specs.declared.replies.Ticket.{Ticket}
use Rattle.channel_face.specs.declared.replies.Settled.TheVariants.{Yes}
use Rattle.channel_laws.specs.Tickets.{HasBehind}

-- From this state on the history has these calls, in order, each in its state and at its moment; each call that is passed over leaves what is looked at
-- as it is.
abbrev pub AreAmong : {V : Type 0} → (State → V) → State → List Step → List Own → Type 0
AreAmong look s [] own = own ≡ []
AreAmong look s (step ∷ h) own =
    ((look (after s step.call) ≡ look s) × AreAmong look (after s step.call) h own)
    ⊎ ((rest : List Own) × (own ≡ one step.call s step.moment ++ rest) × AreAmong look (after s step.call) h rest)

-- where the others may do anything
abbrev pub looks_at_nothing : State → Unit {0}
looks_at_nothing s = tt

-- the first of these calls began this transaction
abbrev pub BeginsWith : List Own → Token → Type 0
BeginsWith own token = (s : State) × (moment : ℕ) × (rest : List Own) × (own ≡ one (BeginPut (Ok token)) s moment ++ rest)

-- each state in which the face left the channel, whatever its own calls, is that at the end of the history
abbrev pub LeftAtEnd : (List Own → State → Type 0) → Opening → List Step → Type 0
LeftAtEnd saw o h = (all : List Own) (s : State) → saw all s → s ≡ state_after (opening o) h

-- The transaction that these calls began with was staged with a ticket of this first number, that of the next event there, when its puts were just these
-- events. Where there are some, the ticket is settled at the end, and the journal has them as one entry, right after what was committed before that
-- stage. Without a reopen before that read its list from a disk that doesn't show its contents, the number is that of the next event after the commits too.
pub record ArePutInJournal (o : Opening) (h : List Step) (own : List Own) (events : List Content) (number : ℕ) : Type 0 where
  pub token : Token
  pub begun : BeginsWith own token
  pub front : List Step
  pub stage : Step
  pub back : List Step
  pub whole : h ≡ front ++ stage ∷ back
  pub ticket : Ticket
  pub staged : stage.call ≡ StagePut token (Ok ticket)
  pub first : ticket.first ≡ number
  pub put : puts_of (state_after (opening o) front) token ≡ Some events
  pub sure : IsNotEmpty (Puts events) → settled (state_after (opening o) h) ticket ≡ Yes
  pub entry : IsNotEmpty (Puts events) → HasBehind (commits (opening o) front) (Puts events) (journal (opening o) h)
  pub numbered : number ≡ next_number (state_after (opening o) front)
  pub as_journal : ReadsNone front → number ≡ next o.base (commits (opening o) front)

-- A batch that a face answered Ok is in the journal, under the number of the answer, where no other call changed its puts.
abbrev pub AnsweredIsInJournal : (List Own → State → Type 0) → ℕ → Type 0
AnsweredIsInJournal saw seen =
    (tells : Bool) (o : Opening) (h : List Step) (number : ℕ) (events : List Content) (earlier own : List Own)
    → IsRun tells (opening o) h → LeftAtEnd saw o h → IsPutBatch saw seen events (Ok number) earlier own
    → ((token : Token) → BeginsWith own token → AreAmong (λ s. puts_of s token) (opening o) h (earlier ++ own))
    → ArePutInJournal o h own events number

-- A stage of this transaction was answered Ok, with a ticket. Where it had taken something by then, the ticket is settled at the end, and the journal has
-- that as one entry, right after what was committed before.
pub record AreTakenInJournal (o : Opening) (h : List Step) (token : Token) : Type 0 where
  pub front : List Step
  pub stage : Step
  pub back : List Step
  pub whole : h ≡ front ++ stage ∷ back
  pub ticket : Ticket
  pub staged : stage.call ≡ StageTake token (Ok ticket)
  pub numbers : List ℕ
  pub taken : takes_of (state_after (opening o) front) token ≡ Some numbers
  pub sure : IsNotEmpty (Takes numbers) → settled (state_after (opening o) h) ticket ≡ Yes
  pub entry : IsNotEmpty (Takes numbers) → HasBehind (commits (opening o) front) (Takes numbers) (journal (opening o) h)

-- What a transaction took that a face committed with Ok is in the journal as taken.
abbrev pub CommittedIsInJournal : (List Own → State → Type 0) → ℕ → Type 0
CommittedIsInJournal saw seen =
    (tells : Bool) (o : Opening) (h : List Step) (token : Token) (earlier own : List Own)
    → IsRun tells (opening o) h → LeftAtEnd saw o h → IsTakeCommit saw seen token (Ok tt) earlier own → AreAmong looks_at_nothing (opening o) h (earlier ++ own)
    → AreTakenInJournal o h token

-- each history that the channel stands for is a run, and leads to this state
abbrev pub LeadsTo : (Opening → List Step → Type 0) → Bool → State → Type 0
LeadsTo stands tells s = (start : Opening) (h : List Step) → stands start h → IsRun tells (opening start) h × (state_after (opening start) h ≡ s)

-- Through a channel of one's own, which nobody else calls, a batch that was answered Ok is in the journal.
abbrev pub OwnAnsweredIsInJournal : (Opening → List Step → Type 0) → Type 0
OwnAnsweredIsInJournal stands =
    (tells : Bool) (s : State) (start : Opening) (earlier : List Step) (own more : List Own) (seen number : ℕ) (events : List Content)
    → LeadsTo stands tells s → HasMade stands start earlier (own ++ more) → IsPutBatch (Was stands) seen events (Ok number) own more
    → ArePutInJournal start (earlier ++ steps_of (own ++ more)) more events number

-- and what a transaction took that was committed with Ok
abbrev pub OwnCommittedIsInJournal : (Opening → List Step → Type 0) → Type 0
OwnCommittedIsInJournal stands =
    (tells : Bool) (s : State) (start : Opening) (earlier : List Step) (own more : List Own) (seen : ℕ) (token : Token)
    → LeadsTo stands tells s → HasMade stands start earlier (own ++ more) → IsTakeCommit (Was stands) seen token (Ok tt) own more
    → AreTakenInJournal start (earlier ++ steps_of (own ++ more)) token
