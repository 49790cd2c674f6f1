-- Whole transactions, and what the journal has of them, in later histories.
use Rattle.std.proofs.Common.{◌≡◌, ◌∷◌, ℕ, List, ◌++◌, length, None, sym, ◌∙◌, ap, subst, append_assoc}
use mathlib.Core.List.{IsPrefix}
use Rattle.event_core.specs.Content.{Content}
use Rattle.event_core.specs.declared.journal.Entry.{Entry}
use Rattle.event_core.specs.declared.journal.Entry.TheVariants.{Puts, Takes}
use Rattle.channel_face.specs.Token.{Token}
use Rattle.channel_face.specs.Machine.{RollbackTake, takes_of}
use Rattle.channel_face.specs.History.{Opening, Step, commits, journal, opening, state_after}
use Rattle.channel_face.specs.Faces.{Own}
use Rattle.channel_face.proofs.Fronts.{batch_on, commit_on, rolled_on}
use Rattle.shared_channel.specs.Ports.{Saw, Stood}
use Rattle.channel_laws.proofs.Prefixes.{front_few, stood}
use Rattle.channel_laws.specs.Tickets.{HasBehind}
use Rattle.channel_laws.specs.Transactions.{ArePutInJournal, AreTakenInJournal}
use Rattle.channel_laws.specs.Fronts.{BatchIsOfTheEnd, CommitIsOfTheEnd, RollbackIsOfTheEnd, PutStaysInJournal, TakenStaysInJournal}
use Rattle.channel_laws.proofs.Moving.{journal-append}
use Rattle.channel_laws.proofs.Settling.{behind-append}
use Rattle.channel_laws.proofs.Telling.{stays_settled}

-- a port's batch is the same batch in each longer history
pub batch_is_of_the_end : {C : Type 0} (stands : C → Opening → List Step → Type 0) → BatchIsOfTheEnd stands
batch_is_of_the_end stands v h events result earlier own begins batch =
    batch_on (Saw stands v) (Stood v.base h v.numbers) (length v.seen) (length h) (stood stands v h begins) (front_few v.seen h begins) events result earlier own batch

-- a port's commit of takes is the same in each longer history
pub commit_is_of_the_end : {C : Type 0} (stands : C → Opening → List Step → Type 0) → CommitIsOfTheEnd stands
commit_is_of_the_end stands v h token result earlier own begins commit =
    commit_on (Saw stands v) (Stood v.base h v.numbers) (length v.seen) (length h) (stood stands v h begins) (front_few v.seen h begins) token result earlier own commit

-- a port's rollback of takes is the same in each longer history
pub rollback_is_of_the_end : {C : Type 0} (stands : C → Opening → List Step → Type 0) → RollbackIsOfTheEnd stands
rollback_is_of_the_end stands v h token earlier own begins rolled =
    rolled_on (Saw stands v) (Stood v.base h v.numbers) (length v.seen) (length h) (stood stands v h begins) (front_few v.seen h begins) (λ b. RollbackTake token b) (λ s. takes_of s token ≡ None) earlier own rolled

-- an entry of a journal is one of each later journal
entry_stays : (o : Opening) (h later : List Step) (front : List Entry) (entry : Entry) → HasBehind front entry (journal (opening o) h) → HasBehind front entry (journal (opening o) (h ++ later))
entry_stays o h later front entry has = subst (HasBehind front entry) (sym (journal-append (opening o) h later)) (behind-append front entry (journal (opening o) h) (journal (state_after (opening o) h) later) has)

longer : (h front : List Step) (stage : Step) (back later : List Step) → h ≡ front ++ stage ∷ back → h ++ later ≡ front ++ stage ∷ (back ++ later)
longer h front stage back later is = ap (λ (l : List Step). l ++ later) is ∙ append_assoc front (stage ∷ back) later

-- a batch that is in the journal stays there, whatever is called later
pub put_stays : PutStaysInJournal
put_stays o h later own events number p = record {
  token = p.token;
  begun = p.begun;
  front = p.front;
  stage = p.stage;
  back = p.back ++ later;
  whole = longer h p.front p.stage p.back later p.whole;
  ticket = p.ticket;
  staged = p.staged;
  first = p.first;
  put = p.put;
  sure = λ some. stays_settled o h later p.ticket (p.sure some);
  entry = λ some. entry_stays o h later (commits (opening o) p.front) (Puts events) (p.entry some);
  numbered = p.numbered;
  as_journal = p.as_journal;
}

-- takes that are in the journal stay there, whatever is called later
pub taken_stays : TakenStaysInJournal
taken_stays o h later token t = record {
  front = t.front;
  stage = t.stage;
  back = t.back ++ later;
  whole = longer h t.front t.stage t.back later t.whole;
  ticket = t.ticket;
  staged = t.staged;
  numbers = t.numbers;
  taken = t.taken;
  sure = λ some. stays_settled o h later t.ticket (t.sure some);
  entry = λ some. entry_stays o h later (commits (opening o) t.front) (Takes t.numbers) (t.entry some);
}

-- so it is of each history that begins with this one
pub put_later : (o : Opening) (h all : List Step) (own : List Own) (events : List Content) (number : ℕ) → IsPrefix h all → ArePutInJournal o h own events number → ArePutInJournal o all own events number
put_later o h all own events number begins p = subst (λ (l : List Step). ArePutInJournal o l own events number) begins.1 (put_stays o h begins.0 own events number p)

-- takes in the journal are in that of each history that begins with this one
pub taken_later : (o : Opening) (h all : List Step) (token : Token) → IsPrefix h all → AreTakenInJournal o h token → AreTakenInJournal o all token
taken_later o h all token begins t = subst (λ (l : List Step). AreTakenInJournal o l token) begins.1 (taken_stays o h begins.0 token t)
