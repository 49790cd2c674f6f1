-- A pass's own calls among those that it has seen.
use Rattle.std.proofs.Common.{inl, inr, ◌≡◌, ◌++◌, ◌∷◌, [], ℕ, List, Ok, Bool, true, false, refl, sym, subst}
use Rattle.event_core.specs.Content.{Content}
use Rattle.channel_face.specs.Token.{Token}
use Rattle.channel_face.specs.Machine.{State, after, puts_of}
use Rattle.channel_face.specs.History.{Step, Opening, opening}
use Rattle.channel_face.specs.Faces.{Own, IsPutBatch, IsTakeCommit}
use Rattle.channel_lock.specs.Calls.{has}
use Rattle.channel_lock.specs.Views.{View}
use Rattle.shared_channel.specs.Ports.{own_if, own_calls, owned, Saw, SawAll}
use Rattle.channel_laws.specs.Transactions.{AreAmong, looks_at_nothing, BeginsWith, LeftAtEnd, ArePutInJournal, AreTakenInJournal}
use Rattle.channel_laws.proofs.Transactions.{answered_is_in_journal, committed_is_in_journal}
use Rattle.channel_laws.specs.Ports.{OthersKeep}

own_among : {V : Type 0} (numbers : List ℕ) (look : State → V) (s : State) (h : List Step) → OthersKeep numbers look s h → AreAmong look s h (own_calls numbers s h)
own_among numbers look s [] leave = refl
own_among numbers look s (step ∷ h) leave = by_pass (has numbers step.pass) refl (own_among numbers look (after s step.call) h leave.1)
  where
    own : Own
    own = record { call = step.call; before = s; moment = step.moment }

    rest : List Own
    rest = own_calls numbers (after s step.call) h

    by_pass : (b : Bool) → has numbers step.pass ≡ b → AreAmong look (after s step.call) h rest → AreAmong look s (step ∷ h) (own_if (has numbers step.pass) own rest)
    by_pass true is more = rw is (inr (rest, refl, more))
    by_pass false is more = rw is (inl (leave.0 is, more))

keep_nothing : (numbers : List ℕ) (s : State) (h : List Step) → OthersKeep numbers looks_at_nothing s h
keep_nothing numbers s [] = tt
keep_nothing numbers s (step ∷ h) = (λ other. refl, keep_nothing numbers (after s step.call) h)

module _ {C : Type 0} (stands : C → Opening → List Step → Type 0) (tells : C → Bool) (v : View) (count : ℕ) (earlier more : List Own) (all : SawAll stands tells v) (own : owned v ≡ earlier ++ more) where
  left : LeftAtEnd (Saw stands v) v.base v.seen
  left calls s saw = sym saw.state

  among : {V : Type 0} (look : State → V) → OthersKeep v.numbers look (opening v.base) v.seen → AreAmong look (opening v.base) v.seen (earlier ++ more)
  among look leave = subst (λ (l : List Own). AreAmong look (opening v.base) v.seen l) own (own_among v.numbers look (opening v.base) v.seen leave)

  -- a batch that a port answered Ok is in the journal of what its pass has seen
  pub put_is_in_journal : (number : ℕ) (events : List Content) → IsPutBatch (Saw stands v) count events (Ok number) earlier more
      → ((token : Token) → BeginsWith more token → OthersKeep v.numbers (λ s. puts_of s token) (opening v.base) v.seen) → ArePutInJournal v.base v.seen more events number
  put_is_in_journal number events batch keep =
      answered_is_in_journal (Saw stands v) count (tells all.0) v.base v.seen number events earlier more all.1.run left batch (λ token begins. among (λ (s : State). puts_of s token) (keep token begins))

  -- what a transaction took that a port committed with Ok is in that journal as taken
  pub taken_is_in_journal : (token : Token) → IsTakeCommit (Saw stands v) count token (Ok tt) earlier more → AreTakenInJournal v.base v.seen token
  taken_is_in_journal token commit = committed_is_in_journal (Saw stands v) count (tells all.0) v.base v.seen token earlier more all.1.run left (among looks_at_nothing (keep_nothing v.numbers (opening v.base) v.seen)) commit
