-- What a put or a take did, as the copies have it.
use Rattle.std.proofs.Common.{◌≡◌, ◌++◌, ◌∷◌, [], ℕ, List, Option, Some, None, Ok, Err, Bool, true, false, refl, sym, ◌∙◌, ap, subst}
use Rattle.event_core.specs.Content.{Content}
use Rattle.event_core.specs.declared.journal.Entry.{Entry}
use Rattle.event_core.specs.declared.journal.Entry.TheVariants.{Puts, Takes}
use Rattle.channel_face.specs.Token.{Token}
use Rattle.channel_face.specs.Counters.{Tally, counted}
use Rattle.channel_face.specs.History.{Moves}
use Rattle.channel_face.specs.Machine.{State, Put, Take, entry_of, with_entry, puts_of, takes_of, take_refusal, add_put, add_take, settle_if, free}
use Rattle.channel_face.specs.declared.replies.Put.{Put as PutDone}
use Rattle.channel_face.specs.declared.replies.Taken.{Taken}
use Rattle.channel_face.specs.declared.replies.TakeRefused.TheVariants as TakeNo
use Rattle.channel_face.proofs.Opened.{puts_of-some, takes_of-some}
use Rattle.txn_core.specs.Places.{IsAt}
use Rattle.txn_core.specs.Sound.{first_number}
use Rattle.txn_core.specs.Counted.{Counted, Makes}
use Rattle.txn_core.proofs.Shadowing.{Opened, put_allowed}

some_same : (a b : Entry) → Some a ≡ Some b → a ≡ b
some_same a b h = cc

-- The put of this transaction stands at this place among the copies, and this is the state after it.
pub record PutAt (s s' : State) (copies : Opened) (number place : ℕ) (event : Content) : Type 0 where
  pub events : List Content
  pub at : IsAt copies number place (Puts events)
  pub state : s' ≡ record s { opened = with_entry number (Puts (events ++ event ∷ [])) s.opened }

put_state : (s : State) (number : ℕ) (puts : Option (List Content)) (events : List Content) (event : Content) (spilled : Bool) → spilled ≡ false → puts ≡ Some events → add_put (settle_if spilled s) number puts event ≡ record s { opened = with_entry number (Puts (events ++ event ∷ [])) s.opened }
put_state s number puts events event spilled none is = rw (none, is) refl

-- a put that did not spill added its event to the transaction found among the copies
pub put_found : (s s' : State) (token : Token) (event : Content) (done : PutDone) (copies : Opened) (number place : ℕ) → copies ≡ s.opened → number ≡ token.number → Moves true s (Put token event (Ok done)) s' → done.spilled ≡ false → (entry : Entry) × IsAt copies number place entry → PutAt s s' copies number place event
put_found s s' token event done copies number place same is moves none found =
    let allowed = put_allowed s (puts_of s token) event moves.admitted.0 in
    let events = allowed.0 in
    let here : entry_of number copies ≡ Some (Puts events) = ap (λ (n : ℕ). entry_of n copies) is ∙ (ap (λ (l : Opened). entry_of token.number l) same ∙ (puts_of-some s token events allowed.1).1) in
    let entry : found.0 ≡ Puts events = some_same found.0 (Puts events) (sym found.1.entry_is ∙ here) in
    record {
      events = events;
      at = subst (λ (e : Entry). IsAt copies number place e) entry found.1;
      state = moves.state ∙ (put_state s token.number (puts_of s token) events event done.spilled none allowed.1 ∙ ap (λ (n : ℕ). record s { opened = with_entry n (Puts (events ++ event ∷ [])) s.opened }) (sym is));
    }

pub record TakeAt (s s' : State) (copies : Opened) (number place taken : ℕ) : Type 0 where
  pub numbers : List ℕ
  pub at : IsAt copies number place (Takes numbers)
  pub state : s' ≡ record s { opened = with_entry number (Takes (numbers ++ taken ∷ [])) s.opened }

take_allowed : (s : State) (takes : Option (List ℕ)) → take_refusal s takes ≡ None → (numbers : List ℕ) × (takes ≡ Some numbers)
take_allowed s None allowed = absurd (cc)
take_allowed s (Some numbers) allowed = (numbers, refl)

take_state : (s : State) (number taken : ℕ) (takes : Option (List ℕ)) (numbers : List ℕ) (items : List (ℕ × Content)) (spilled : Bool) → spilled ≡ false → takes ≡ Some numbers → first_number items ≡ Some taken → add_take (settle_if spilled s) number takes items ≡ record s { opened = with_entry number (Takes (numbers ++ taken ∷ [])) s.opened }
take_state s number taken takes numbers [] spilled none is first = absurd (cc)
take_state s number taken takes numbers (item ∷ items) spilled none is first =
    let same : item.0 ≡ taken = cc in
    rw (none, is, same) refl

-- a take that did not spill added the first free number to the transaction found among the copies
pub take_found : (s s' : State) (token : Token) (given : Taken) (copies : Opened) (number place taken : ℕ) → copies ≡ s.opened → number ≡ token.number → Moves true s (Take token (Ok given)) s' → given.spilled ≡ false → first_number (free s) ≡ Some taken → (entry : Entry) × IsAt copies number place entry → TakeAt s s' copies number place taken
take_found s s' token given copies number place taken same is moves none first found =
    let allowed = take_allowed s (takes_of s token) moves.admitted.0 in
    let numbers = allowed.0 in
    let here : entry_of number copies ≡ Some (Takes numbers) = ap (λ (n : ℕ). entry_of n copies) is ∙ (ap (λ (l : Opened). entry_of token.number l) same ∙ (takes_of-some s token numbers allowed.1).1) in
    let entry : found.0 ≡ Takes numbers = some_same found.0 (Takes numbers) (sym found.1.entry_is ∙ here) in
    record {
      numbers = numbers;
      at = subst (λ (e : Entry). IsAt copies number place e) entry found.1;
      state = moves.state ∙ (take_state s token.number taken (takes_of s token) numbers (free s) given.spilled none allowed.1 first ∙ ap (λ (n : ℕ). record s { opened = with_entry n (Takes (numbers ++ taken ∷ [])) s.opened }) (sym is));
    }

none_taken : (s : State) (number : ℕ) (takes : Option (List ℕ)) (items : List (ℕ × Content)) (spilled : Bool) → spilled ≡ false → first_number items ≡ None → add_take (settle_if spilled s) number takes items ≡ s
none_taken s number None [] spilled none first = rw none refl
none_taken s number (Some numbers) [] spilled none first = rw none refl
none_taken s number takes (item ∷ items) spilled none first = absurd (cc)

-- a take that was taken back for want of memory is counted as an attempt and leaves the state
pub take_back : (old : Counted) (new : Counted) (token : Token) (given : Taken) (mid : Counted) → Makes old (Take token (Ok given)) mid → given.spilled ≡ false → new.state ≡ old.state → new.tally ≡ mid.tally → Makes old (Take token (Err TakeNo.NoMemory)) new
take_back old new token given mid makes none state tally =
    record {
      moves = record { admitted = tt; state = state };
      tally = tally ∙ (makes.tally ∙ same_count old.state old.tally token given none);
    }
  where
    same_count : (s : State) (t : Tally) (token : Token) (given : Taken) → given.spilled ≡ false → counted s (Take token (Ok given)) t ≡ counted s (Take token (Err TakeNo.NoMemory)) t
    same_count s t token given none = rw none refl
