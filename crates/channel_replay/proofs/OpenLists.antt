-- Where an open transaction is found in a list, and what a change there leaves.
use Rattle.std.proofs.Common.{◌⊎◌, inl, inr, ◌≡◌, ◌<◌, ◌+◌, ◌++◌, ◌∷◌, [], ℕ, zero, suc, List, length, take, drop, slice_get, slice_set, Some, Result, Ok, Err, IfOk, Bool, true, false, ◌==◌, refl, sym, ◌∙◌, ap, arith}
use Rattle.std.proofs.lemmas.Bool.Decides.{nat_tests}
use Rattle.event_core.specs.Content.{Content}
use Rattle.event_core.specs.declared.refused.NoMemory.{NoMemory}
use Rattle.event_core.specs.declared.journal.Entry.{Entry}
use Rattle.event_core.specs.declared.journal.Entry.TheVariants.{Puts, Takes}
use Rattle.channel_replay.specs.Marks.{events_of, numbers_of}
use Rattle.channel_replay.specs.Rules.{IsPut, IsTake}
use Rattle.channel_replay.specs.Open.{GoesOn, HasNone, IsAt, NoneBefore}

rest_before : (o : ℕ × Entry) (opened : List (ℕ × Entry)) (txn place : ℕ) → NoneBefore (o ∷ opened) txn (suc place) → NoneBefore opened txn place
rest_before o opened txn place before k x below is = before (suc k) x (omega (arith, below)) is

-- a number is equal to itself
pub itself : (n : ℕ) → (n == n) ≡ true
itself n = grind (arith, nat_tests)

-- the first place with the transaction's number is where it stands
pub found : (opened : List (ℕ × Entry)) (txn place : ℕ) (entry : Entry) → NoneBefore opened txn place → slice_get opened place ≡ Some (txn, entry) → IsAt opened txn place entry
found [] txn place entry before is = absurd (cc)
found (o ∷ opened) txn zero entry before is =
    let same : o ≡ (txn, entry) = cc in
    let here : (o.0 == txn) ≡ true = ap (λ (p : ℕ × Entry). p.0 == txn) same ∙ itself txn in
    record {
      in_range = omega arith;
      item = is;
      entry_is = rw here (ap (λ (p : ℕ × Entry). Some p.1) same);
      rest = rw here refl;
      changed = λ e. rw here (ap (λ (p : ℕ × Entry). (p.0, e) ∷ opened) same);
    }
found (o ∷ opened) txn (suc place) entry before is =
    let not_here : (o.0 == txn) ≡ false = before zero o (omega arith) refl in
    let further : suc (place + 1) ≡ suc place + 1 = omega arith in
    let it : IsAt opened txn place entry = found opened txn place entry (rest_before o opened txn place before) is in
    record {
      in_range = omega (arith, it.in_range);
      item = is;
      entry_is = rw not_here it.entry_is;
      rest = rw not_here (ap (λ (l : List (ℕ × Entry)). o ∷ l) it.rest ∙ ap (λ (i : ℕ). o ∷ (take place opened ++ drop i (o ∷ opened))) further);
      changed = λ e. rw not_here (ap (λ (l : List (ℕ × Entry)). o ∷ l) (it.changed e));
    }

-- a list that was searched to its end has no transaction of this number
pub none : (opened : List (ℕ × Entry)) (txn : ℕ) → NoneBefore opened txn (length opened) → HasNone opened txn
none [] txn before = record { entry_is = refl; rest = refl; added = λ e. refl }
none (o ∷ opened) txn before =
    let not_here : (o.0 == txn) ≡ false = before zero o (omega arith) refl in
    let it : HasNone opened txn = none opened txn (rest_before o opened txn (length opened) before) in
    record {
      entry_is = rw not_here it.entry_is;
      rest = rw not_here (ap (λ (l : List (ℕ × Entry)). o ∷ l) it.rest);
      added = λ e. rw not_here (ap (λ (l : List (ℕ × Entry)). o ∷ l) (it.added e));
    }

-- the search goes on by one place where another transaction stands
pub one_more : (opened : List (ℕ × Entry)) (txn place : ℕ) (o : ℕ × Entry) → NoneBefore opened txn place → slice_get opened place ≡ Some o → (o.0 == txn) ≡ false → NoneBefore opened txn (place + 1)
one_more opened txn place o before is not_here k x below at = from (grind arith)
  where
    from : (k < place) ⊎ (k ≡ place) → (x.0 == txn) ≡ false
    from (inl early) = before k x early at
    from (inr here) = let same : Some x ≡ Some o = sym at ∙ ap (λ (i : ℕ). slice_get opened i) here ∙ is in let e : x ≡ o = cc in ap (λ (p : ℕ × Entry). p.0 == txn) e ∙ not_here

-- a put or take goes on at this place
pub puts_go_on : (opened new : List (ℕ × Entry)) (txn place : ℕ) (event : Content) (r : Result Bool NoMemory) → (entry : Entry) × IsAt opened txn place entry
    → IfOk r (λ ok. (t : ℕ) (events : List Content) → slice_get opened place ≡ Some (t, Puts events) → (ok ≡ true) × (new ≡ slice_set opened place (t, Puts (events ++ event ∷ []))))
    → IfOk r (λ ok. (t : ℕ) (numbers : List ℕ) → slice_get opened place ≡ Some (t, Takes numbers) → ok ≡ false)
    → IfOk r (λ ok. GoesOn ok opened txn IsPut (λ entry. Puts (events_of entry ++ event ∷ [])) new)
puts_go_on opened new txn place event (Err e) at puts takes = tt
puts_go_on opened new txn place event (Ok ok) at puts takes = by_kind at.0 at.1
  where
    by_kind : (entry : Entry) → IsAt opened txn place entry → GoesOn ok opened txn IsPut (λ entry. Puts (events_of entry ++ event ∷ [])) new
    by_kind (Puts events) is =
        let done = puts txn events is.item in
        rw (done.0, is.entry_is) (tt, done.1 ∙ sym (is.changed (Puts (events ++ event ∷ []))))
    by_kind (Takes numbers) is = rw (takes txn numbers is.item, is.entry_is) (λ no. no)

-- a take goes on at its place where a take is open there, and not where a put is
pub takes_go_on : (opened new : List (ℕ × Entry)) (txn place number : ℕ) (r : Result Bool NoMemory) → (entry : Entry) × IsAt opened txn place entry
    → IfOk r (λ ok. (t : ℕ) (numbers : List ℕ) → slice_get opened place ≡ Some (t, Takes numbers) → (ok ≡ true) × (new ≡ slice_set opened place (t, Takes (numbers ++ number ∷ []))))
    → IfOk r (λ ok. (t : ℕ) (events : List Content) → slice_get opened place ≡ Some (t, Puts events) → ok ≡ false)
    → IfOk r (λ ok. GoesOn ok opened txn IsTake (λ entry. Takes (numbers_of entry ++ number ∷ [])) new)
takes_go_on opened new txn place number (Err e) at takes puts = tt
takes_go_on opened new txn place number (Ok ok) at takes puts = by_kind at.0 at.1
  where
    by_kind : (entry : Entry) → IsAt opened txn place entry → GoesOn ok opened txn IsTake (λ entry. Takes (numbers_of entry ++ number ∷ [])) new
    by_kind (Takes numbers) is =
        let done = takes txn numbers is.item in
        rw (done.0, is.entry_is) (tt, done.1 ∙ sym (is.changed (Takes (numbers ++ number ∷ []))))
    by_kind (Puts events) is = rw (puts txn events is.item, is.entry_is) (λ no. no)
