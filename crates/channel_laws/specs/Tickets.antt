-- What the answer to a ticket says of the entry that was staged.
use Rattle.std.specs.Prelude.{◌≡◌, List, [], ◌∷◌, ◌++◌, length, Some, Ok, Bool}
use Rattle.event_core.specs.Content.{Content}
use Rattle.event_core.specs.Journal.{IsNotEmpty, next}
use Rattle.event_core.specs.declared.journal.Entry.{Entry}
use Rattle.event_core.specs.declared.journal.Entry.TheVariants.{Puts, Takes}
use Rattle.channel_face.specs.Machine.{State, Call, StagePut, StageTake, puts_of, takes_of, settle, settled}
use Rattle.channel_face.specs.History.{Step, Opening, opening, IsRun, state_after, journal, commits}
use Rattle.channel_face.specs.Laws.{ReadsNone}
use Rattle.channel_face.specs.declared.replies.Ticket.{Ticket}
use Rattle.channel_face.specs.declared.replies.Settled.TheVariants.{Yes, No}

-- in this state the call stages this entry, and answers with this ticket
abbrev pub Stages : State → Call → Ticket → Entry → Type 0
Stages s (StagePut token reply) t (Puts events) = (reply ≡ Ok t) × (puts_of s token ≡ Some events)
Stages s (StageTake token reply) t (Takes numbers) = (reply ≡ Ok t) × (takes_of s token ≡ Some numbers)
Stages s call t entry = ⊥

-- the list has the entry right after this front
abbrev pub HasBehind : List Entry → Entry → List Entry → Type 0
HasBehind front entry all = (back : List Entry) × (all ≡ front ++ entry ∷ back)

-- What is settled is in the journal, after the commits of the calls before its stage.
abbrev pub SettledIsInJournal : Type 0
SettledIsInJournal =
    (tells : Bool) (o : Opening) (h : List Step) (stage : Step) (later : List Step) (t : Ticket) (entry : Entry)
    → IsRun tells (opening o) (h ++ stage ∷ later) → Stages (state_after (opening o) h) stage.call t entry → IsNotEmpty entry
    → settled (state_after (opening o) (h ++ stage ∷ later)) t ≡ Yes
    → HasBehind (commits (opening o) h) entry (journal (opening o) (h ++ stage ∷ later))

-- What is not settled, and in no doubt, is staged, after what was staged before it, and the journal is as it was.
abbrev pub UnsettledIsStaged : Type 0
UnsettledIsStaged =
    (tells : Bool) (o : Opening) (h : List Step) (stage : Step) (later : List Step) (t : Ticket) (entry : Entry)
    → IsRun tells (opening o) (h ++ stage ∷ later) → Stages (state_after (opening o) h) stage.call t entry → IsNotEmpty entry
    → settled (state_after (opening o) (h ++ stage ∷ later)) t ≡ No
    → (journal (opening o) (h ++ stage ∷ later) ≡ journal (opening o) h) × HasBehind (state_after (opening o) h).staged entry (state_after (opening o) (h ++ stage ∷ later)).staged

-- In the life of the stage, what settles what is staged leaves the ticket settled.
abbrev pub SettlingSettles : Type 0
SettlingSettles =
    (tells : Bool) (o : Opening) (h : List Step) (stage : Step) (later : List Step) (t : Ticket) (entry : Entry)
    → IsRun tells (opening o) (h ++ stage ∷ later) → Stages (state_after (opening o) h) stage.call t entry → IsNotEmpty entry
    → (state_after (opening o) (h ++ stage ∷ later)).life ≡ t.life
    → settled (settle (state_after (opening o) (h ++ stage ∷ later))) t ≡ Yes

-- What is settled stays so.
abbrev pub StaysSettled : Type 0
StaysSettled = (o : Opening) (h later : List Step) (t : Ticket) → settled (state_after (opening o) h) t ≡ Yes → settled (state_after (opening o) (h ++ later)) t ≡ Yes

-- A ticket of puts, which may be none, has the number of the first of them, and their count.
abbrev pub TicketsNumberPuts : Type 0
TicketsNumberPuts =
    (tells : Bool) (o : Opening) (h : List Step) (stage : Step) (t : Ticket) (events : List Content)
    → IsRun tells (opening o) (h ++ stage ∷ []) → Stages (state_after (opening o) h) stage.call t (Puts events) → ReadsNone h
    → (t.first ≡ next o.base (commits (opening o) h)) × (t.count ≡ length events)
