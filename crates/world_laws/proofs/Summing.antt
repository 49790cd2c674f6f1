-- Sums over open transactions, as they begin, change and end.
use Rattle.std.proofs.Common.{◌⊎◌, inl, inr, ◌≡◌, ◌≢◌, ◌≤◌, ◌+◌, ◌++◌, ◌∷◌, [], ℕ, List, length, length-append, Some, Bool, true, false, ◌==◌, cond, refl, ap, arith}
use Rattle.std.proofs.lemmas.Bool.Decides.{eqb_tells}
use Rattle.event_core.specs.Content.{Content}
use Rattle.event_core.specs.Journal.{put_events}
use Rattle.event_core.specs.declared.journal.Entry.{Entry}
use Rattle.event_core.specs.declared.journal.Entry.TheVariants.{Puts, Takes}
use Rattle.channel_face.specs.Machine.{entries, entry_of, with_entry, without_entry}
use Rattle.channel_face.specs.Sound.{Opened, AreNumbered}
use Rattle.world_laws.specs.Agrees.{sum_of, puts_one, takes_one}
use Rattle.world_laws.proofs.Lists.{same_some, no_some}

-- a transaction that begins adds its own amount to the sum
pub sum-push : (f : Entry → ℕ) (opened : Opened) (o : ℕ × Entry) → sum_of f (opened ++ o ∷ []) ≡ sum_of f opened + f o.1
sum-push f [] o = omega arith
sum-push f (x ∷ opened) o = omega (arith, sum-push f opened o)

-- one that changes trades its old amount for the new one
pub sum-with : (f : Entry → ℕ) (number : ℕ) (opened : Opened) (old new : Entry) → entry_of number opened ≡ Some old → sum_of f (with_entry number new opened) + f old ≡ sum_of f opened + f new
sum-with f number [] old new is = absurd (no_some old is)
sum-with f number (o ∷ opened) old new is = from (o.0 == number) is (sum-with f number opened old new)
  where
    from : (b : Bool) → cond b (Some o.1) (entry_of number opened) ≡ Some old → (entry_of number opened ≡ Some old → sum_of f (with_entry number new opened) + f old ≡ sum_of f opened + f new)
        → sum_of f (cond b ((o.0, new) ∷ opened) (o ∷ with_entry number new opened)) + f old ≡ sum_of f (o ∷ opened) + f new
    from true it rest = let same = ap f (same_some o.1 old it) in omega (arith, same)
    from false it rest = omega (arith, rest it)

-- one that ends takes its amount from the sum
pub sum-without : (f : Entry → ℕ) (number : ℕ) (opened : Opened) (old : Entry) → entry_of number opened ≡ Some old → sum_of f (without_entry number opened) + f old ≡ sum_of f opened
sum-without f number [] old is = absurd (no_some old is)
sum-without f number (o ∷ opened) old is = from (o.0 == number) is (sum-without f number opened old)
  where
    from : (b : Bool) → cond b (Some o.1) (entry_of number opened) ≡ Some old → (entry_of number opened ≡ Some old → sum_of f (without_entry number opened) + f old ≡ sum_of f opened)
        → sum_of f (cond b opened (o ∷ without_entry number opened)) + f old ≡ sum_of f (o ∷ opened)
    from true it rest = let same = ap f (same_some o.1 old it) in omega (arith, same)
    from false it rest = omega (arith, rest it)

-- each is of puts or of takes
pub sum_both : (opened : Opened) → sum_of puts_one opened + sum_of takes_one opened ≡ length opened
sum_both [] = omega arith
sum_both (o ∷ opened) = from o.1 (sum_both opened)
  where
    from : (e : Entry) → sum_of puts_one opened + sum_of takes_one opened ≡ length opened → (puts_one e + sum_of puts_one opened) + (takes_one e + sum_of takes_one opened) ≡ length (o ∷ opened)
    from (Puts events) rest = omega (arith, rest)
    from (Takes numbers) rest = omega (arith, rest)

-- the events of open puts
pub open_events : (number : ℕ) (opened : Opened) (events : List Content) → entry_of number opened ≡ Some (Puts events) → length events ≤ length (put_events (entries opened))
open_events number [] events is = absurd (no_some (Puts events) is)
open_events number (o ∷ opened) events is = from (o.0 == number) o.1 is (open_events number opened events)
  where
    from : (b : Bool) (e : Entry) → cond b (Some e) (entry_of number opened) ≡ Some (Puts events) → (entry_of number opened ≡ Some (Puts events) → length events ≤ length (put_events (entries opened))) → length events ≤ length (put_events (e ∷ entries opened))
    from true (Puts es) it rest =
        let same : es ≡ events = cc in
        let one = ap length same in
        let longer = length-append es (put_events (entries opened)) in
        omega (arith, one, longer)
    from true (Takes numbers) it rest = absurd (cc)
    from false (Puts es) it rest = let longer = length-append es (put_events (entries opened)) in omega (arith, rest it, longer)
    from false (Takes numbers) it rest = rest it

-- where no open transaction is of puts, none has events
pub no_events : (opened : Opened) → sum_of puts_one opened ≡ 0 → put_events (entries opened) ≡ []
no_events [] none = refl
no_events (o ∷ opened) none = from o.1 none (no_events opened)
  where
    from : (e : Entry) → puts_one e + sum_of puts_one opened ≡ 0 → (sum_of puts_one opened ≡ 0 → put_events (entries opened) ≡ []) → put_events (e ∷ entries opened) ≡ []
    from (Puts events) some rest = absurd (omega (arith, some))
    from (Takes numbers) some rest = rest (omega (arith, some))

-- the newest transaction

-- the newest transaction changes at the end of the list
pub with-push : (txn : ℕ) (old new : Entry) (opened : Opened) → AreNumbered txn opened → with_entry txn new (opened ++ (txn, old) ∷ []) ≡ opened ++ (txn, new) ∷ []
with-push txn old new [] all = from (eqb_tells txn txn)
  where
    from : ((txn == txn) ≡ true) × (txn ≡ txn) ⊎ ((txn == txn) ≡ false) × (txn ≢ txn) → cond {A = Opened} (txn == txn) ((txn, new) ∷ []) ((txn, old) ∷ []) ≡ (txn, new) ∷ []
    from (inl is) = rw is.0 refl
    from (inr isnt) = absurd (isnt.1 refl)
with-push txn old new (o ∷ opened) all = from (eqb_tells o.0 txn) (with-push txn old new opened all.1)
  where
    from : ((o.0 == txn) ≡ true) × (o.0 ≡ txn) ⊎ ((o.0 == txn) ≡ false) × (o.0 ≢ txn) → with_entry txn new (opened ++ (txn, old) ∷ []) ≡ opened ++ (txn, new) ∷ []
        → cond {A = Opened} (o.0 == txn) ((o.0, new) ∷ (opened ++ (txn, old) ∷ [])) (o ∷ with_entry txn new (opened ++ (txn, old) ∷ [])) ≡ o ∷ (opened ++ (txn, new) ∷ [])
    from (inl is) rest = absurd (omega (arith, all.0, is.1))
    from (inr isnt) rest = rw isnt.0 (ap (λ (l : Opened). o ∷ l) rest)

-- the newest transaction ends, and the others are left
pub without-push : (txn : ℕ) (entry : Entry) (opened : Opened) → AreNumbered txn opened → without_entry txn (opened ++ (txn, entry) ∷ []) ≡ opened
without-push txn entry [] all = from (eqb_tells txn txn)
  where
    from : ((txn == txn) ≡ true) × (txn ≡ txn) ⊎ ((txn == txn) ≡ false) × (txn ≢ txn) → cond {A = Opened} (txn == txn) [] ((txn, entry) ∷ []) ≡ []
    from (inl is) = rw is.0 refl
    from (inr isnt) = absurd (isnt.1 refl)
without-push txn entry (o ∷ opened) all = from (eqb_tells o.0 txn) (without-push txn entry opened all.1)
  where
    from : ((o.0 == txn) ≡ true) × (o.0 ≡ txn) ⊎ ((o.0 == txn) ≡ false) × (o.0 ≢ txn) → without_entry txn (opened ++ (txn, entry) ∷ []) ≡ opened
        → cond {A = Opened} (o.0 == txn) (opened ++ (txn, entry) ∷ []) (o ∷ without_entry txn (opened ++ (txn, entry) ∷ [])) ≡ o ∷ opened
    from (inl is) rest = absurd (omega (arith, all.0, is.1))
    from (inr isnt) rest = rw isnt.0 (ap (λ (l : Opened). o ∷ l) rest)
