-- Where an open transaction is found.
use Rattle.std.proofs.Common.{◌⊎◌, inl, inr, ◌≡◌, ◌<◌, ◌+◌, ◌++◌, ◌∷◌, [], ℕ, zero, suc, List, length, take, drop, slice_get, Some, None, true, false, ◌==◌, refl, sym, ◌∙◌, ap, subst, arith}
use Rattle.std.proofs.lemmas.Bool.Decides.{nat_tests}
use Rattle.event_core.specs.declared.journal.Entry.{Entry}
use Rattle.event_core.specs.Content.{Content}
use Rattle.event_core.specs.declared.journal.Entry.TheVariants.{Puts, Takes}
use Rattle.channel_face.specs.Token.{Token}
use Rattle.channel_face.specs.Machine.{State, entry_of, puts_of, takes_of, as_puts, as_takes}
use Rattle.txn_core.specs.Places.{IsAt, NoneBefore}

rest_before : (o : ℕ × Entry) (opened : List (ℕ × Entry)) (number place : ℕ) → NoneBefore (o ∷ opened) number (suc place) → NoneBefore opened number place
rest_before o opened number place before k x below is = before (suc k) x (omega (arith, below)) is

itself : (n : ℕ) → (n == n) ≡ true
itself n = grind (arith, nat_tests)

-- the first place with a number is where its transaction stands
pub found : (opened : List (ℕ × Entry)) (number place : ℕ) (entry : Entry) → NoneBefore opened number place → slice_get opened place ≡ Some (number, entry) → IsAt opened number place entry
found [] number place entry before is = absurd (cc)
found (o ∷ opened) number zero entry before is =
    let same : o ≡ (number, entry) = cc in
    let here : (o.0 == number) ≡ true = ap (λ (p : ℕ × Entry). p.0 == number) same ∙ itself number in
    record {
      in_range = omega arith;
      item = is;
      entry_is = rw here (ap (λ (p : ℕ × Entry). Some p.1) same);
      rest = rw here refl;
      changed = λ e. rw here (ap (λ (p : ℕ × Entry). (p.0, e) ∷ opened) same);
    }
found (o ∷ opened) number (suc place) entry before is =
    let not_here : (o.0 == number) ≡ false = before zero o (omega arith) refl in
    let further : suc (place + 1) ≡ suc place + 1 = omega arith in
    let it : IsAt opened number place entry = found opened number place entry (rest_before o opened number place before) is in
    record {
      in_range = omega (arith, it.in_range);
      item = is;
      entry_is = rw not_here it.entry_is;
      rest = rw not_here (ap (λ (l : List (ℕ × Entry)). o ∷ l) it.rest ∙ ap (λ (i : ℕ). o ∷ (take place opened ++ drop i (o ∷ opened))) further);
      changed = λ e. rw not_here (ap (λ (l : List (ℕ × Entry)). o ∷ l) (it.changed e));
    }

-- a list that was searched to its end has no entry for the number
pub none : (opened : List (ℕ × Entry)) (number : ℕ) → NoneBefore opened number (length opened) → entry_of number opened ≡ None
none [] number before = refl
none (o ∷ opened) number before =
    let not_here : (o.0 == number) ≡ false = before zero o (omega arith) refl in
    rw not_here (none opened number (rest_before o opened number (length opened) before))

-- the search for a number goes on by one place
pub one_more : (opened : List (ℕ × Entry)) (number place : ℕ) (o : ℕ × Entry) → NoneBefore opened number place → slice_get opened place ≡ Some o → (o.0 == number) ≡ false → NoneBefore opened number (place + 1)
one_more opened number place o before is not_here k x below at = from (grind arith)
  where
    from : (k < place) ⊎ (k ≡ place) → (x.0 == number) ≡ false
    from (inl early) = before k x early at
    from (inr here) = let same : Some x ≡ Some o = sym at ∙ ap (λ (i : ℕ). slice_get opened i) here ∙ is in let e : x ≡ o = cc in ap (λ (p : ℕ × Entry). p.0 == number) e ∙ not_here

same_entry : (opened : List (ℕ × Entry)) (number place m : ℕ) (entry e : Entry) → IsAt opened number place entry → slice_get opened place ≡ Some (m, e) → IsAt opened number place e
same_entry opened number place m entry e at is =
    let same : (number, entry) ≡ (m, e) = some_same (number, entry) (m, e) (sym at.item ∙ is) in
    subst (λ (x : Entry). IsAt opened number place x) (ap (λ (p : ℕ × Entry). p.1) same) at
  where
    some_same : (a b : ℕ × Entry) → Some a ≡ Some b → a ≡ b
    some_same a b h = cc

-- the puts that stand at a place are those of the token
pub puts_at : (s : State) (token : Token) (place held : ℕ) → token.life ≡ s.life → (entry : Entry) × IsAt s.opened token.number place entry → (m : ℕ) × (events : List Content) × (slice_get s.opened place ≡ Some (m, Puts events)) × (held ≡ length events)
    → (events : List Content) × IsAt s.opened token.number place (Puts events) × (puts_of s token ≡ Some events) × (held ≡ length events)
puts_at s token place held life x y =
    let events = y.1 in
    let at : IsAt s.opened token.number place (Puts events) = same_entry s.opened token.number place y.0 x.0 (Puts events) x.1 y.2 in
    let alive : (token.life == s.life) ≡ true = ap (λ (n : ℕ). n == s.life) life ∙ itself s.life in
    (events, at, rw alive (ap as_puts at.entry_is), y.3)

-- the numbers taken that stand at a place are those of the token
pub takes_at : (s : State) (token : Token) (place held : ℕ) → token.life ≡ s.life → (entry : Entry) × IsAt s.opened token.number place entry → (m : ℕ) × (numbers : List ℕ) × (slice_get s.opened place ≡ Some (m, Takes numbers)) × (held ≡ length numbers)
    → (numbers : List ℕ) × IsAt s.opened token.number place (Takes numbers) × (takes_of s token ≡ Some numbers) × (held ≡ length numbers)
takes_at s token place held life x y =
    let numbers = y.1 in
    let at : IsAt s.opened token.number place (Takes numbers) = same_entry s.opened token.number place y.0 x.0 (Takes numbers) x.1 y.2 in
    let alive : (token.life == s.life) ≡ true = ap (λ (n : ℕ). n == s.life) life ∙ itself s.life in
    (numbers, at, rw alive (ap as_takes at.entry_is), y.3)
