-- Open transactions by their numbers, and what they hold.
use Rattle.std.proofs.Common.{◌⊎◌, inl, inr, ◌≡◌, ◌≢◌, ◌<◌, ◌≤◌, ◌+◌, ◌++◌, ◌∷◌, [], ℕ, List, Option, Some, None, Bool, true, false, ◌==◌, cond, refl, ◌∙◌, ap, arith}
use Rattle.std.proofs.lemmas.List.{append-nil}
use Rattle.std.proofs.lemmas.Bool.Decides.{eqb_tells}
use Rattle.std.specs.List.{AllByRecursion}
use Rattle.event_core.specs.Content.{Content}
use Rattle.event_core.specs.Journal.{taken_numbers}
use Rattle.event_core.specs.declared.journal.Entry.{Entry}
use Rattle.event_core.specs.declared.journal.Entry.TheVariants.{Puts, Takes}
use Rattle.channel_face.specs.Token.{Token}
use Rattle.channel_face.specs.Machine.{State, entries, entry_of, with_entry, without_entry, as_puts, as_takes, puts_of, takes_of}
use Rattle.channel_face.specs.Sound.{times, Opened, entry_times, opened_times, AreNumbered}
use Rattle.channel_face.proofs.Numbers.{times-append, taken_numbers-append}

-- how often an entry and those behind it take a number
pub times-cons : (n : ℕ) (entry : Entry) (rest : List Entry) → times n (taken_numbers (entry ∷ rest)) ≡ entry_times n entry + times n (taken_numbers rest)
times-cons n entry rest = ap (λ (l : List ℕ). times n l) (taken_numbers-append (entry ∷ []) rest) ∙ times-append n (taken_numbers (entry ∷ [])) (taken_numbers rest)

-- an entry of takes takes a number as often as it stands there
pub times-take : (n : ℕ) (numbers : List ℕ) → entry_times n (Takes numbers) ≡ times n numbers
times-take n numbers = ap (λ (l : List ℕ). times n l) (append-nil numbers)

-- how often two journals take a number
pub times-push : (n : ℕ) (a b : List Entry) → times n (taken_numbers (a ++ b)) ≡ times n (taken_numbers a) + times n (taken_numbers b)
times-push n a b = ap (λ (l : List ℕ). times n l) (taken_numbers-append a b) ∙ times-append n (taken_numbers a) (taken_numbers b)

-- the entries of transactions that were opened one after another
pub entries-append : (a b : Opened) → entries (a ++ b) ≡ entries a ++ entries b
entries-append [] b = refl
entries-append (o ∷ a) b = ap (λ (l : List Entry). o.1 ∷ l) (entries-append a b)

-- how often two lists of open transactions hold a number
pub opened-push : (n : ℕ) (a b : Opened) → opened_times n (a ++ b) ≡ opened_times n a + opened_times n b
opened-push n a b = ap (λ (l : List Entry). times n (taken_numbers l)) (entries-append a b) ∙ times-push n (entries a) (entries b)

some_same : (a b : Entry) → Some a ≡ Some b → a ≡ b
some_same a b is = cc

-- what is held where an open transaction has a new entry in place of its old one
pub opened-with : (n number : ℕ) (opened : Opened) (old new : Entry) → entry_of number opened ≡ Some old → opened_times n (with_entry number new opened) + entry_times n old ≡ opened_times n opened + entry_times n new
opened-with n number [] old new is = absurd (cc)
opened-with n number (o ∷ opened) old new is = by_test (o.0 == number) refl (opened-with n number opened old new)
  where
    by_test : (t : Bool) → (o.0 == number) ≡ t → (entry_of number opened ≡ Some old → opened_times n (with_entry number new opened) + entry_times n old ≡ opened_times n opened + entry_times n new)
        → opened_times n (cond (o.0 == number) ((o.0, new) ∷ opened) (o ∷ with_entry number new opened)) + entry_times n old ≡ opened_times n (o ∷ opened) + entry_times n new
    by_test true t_is more =
        let same : o.1 ≡ old = some_same o.1 old (rw t_is at is) in
        rw t_is (omega (arith, times-cons n new (entries opened), times-cons n o.1 (entries opened), ap (λ (e : Entry). entry_times n e) same))
    by_test false t_is more =
        rw t_is (omega (arith, times-cons n o.1 (entries opened), times-cons n o.1 (entries (with_entry number new opened)), more (rw t_is at is)))

-- what is held where an open transaction is closed
pub opened-without : (n number : ℕ) (opened : Opened) (old : Entry) → entry_of number opened ≡ Some old → opened_times n (without_entry number opened) + entry_times n old ≡ opened_times n opened
opened-without n number [] old is = absurd (cc)
opened-without n number (o ∷ opened) old is = by_test (o.0 == number) refl (opened-without n number opened old)
  where
    by_test : (t : Bool) → (o.0 == number) ≡ t → (entry_of number opened ≡ Some old → opened_times n (without_entry number opened) + entry_times n old ≡ opened_times n opened)
        → opened_times n (cond (o.0 == number) opened (o ∷ without_entry number opened)) + entry_times n old ≡ opened_times n (o ∷ opened)
    by_test true t_is more =
        let same : o.1 ≡ old = some_same o.1 old (rw t_is at is) in
        rw t_is (omega (arith, times-cons n o.1 (entries opened), ap (λ (e : Entry). entry_times n e) same))
    by_test false t_is more =
        rw t_is (omega (arith, times-cons n o.1 (entries opened), times-cons n o.1 (entries (without_entry number opened)), more (rw t_is at is)))

-- to close a transaction holds no number more often
pub opened-fewer : (n number : ℕ) (opened : Opened) → opened_times n (without_entry number opened) ≤ opened_times n opened
opened-fewer n number [] = omega arith
opened-fewer n number (o ∷ opened) = by_test (o.0 == number) (opened-fewer n number opened)
  where
    by_test : (t : Bool) → opened_times n (without_entry number opened) ≤ opened_times n opened → opened_times n (cond t opened (o ∷ without_entry number opened)) ≤ opened_times n (o ∷ opened)
    by_test true more = omega (arith, times-cons n o.1 (entries opened))
    by_test false more = omega (arith, times-cons n o.1 (entries opened), times-cons n o.1 (entries (without_entry number opened)), more)

-- each number is below the next transaction's
pub numbered-with : (txn number : ℕ) (entry : Entry) (opened : Opened) → AreNumbered txn opened → AreNumbered txn (with_entry number entry opened)
numbered-with txn number entry [] all = tt
numbered-with txn number entry (o ∷ opened) all = by_test (o.0 == number) (numbered-with txn number entry opened all.1)
  where
    by_test : (t : Bool) → AreNumbered txn (with_entry number entry opened) → AreNumbered txn (cond t ((o.0, entry) ∷ opened) (o ∷ with_entry number entry opened))
    by_test true more = (all.0, all.1)
    by_test false more = (all.0, more)

-- also where a transaction is closed
pub numbered-without : (txn number : ℕ) (opened : Opened) → AreNumbered txn opened → AreNumbered txn (without_entry number opened)
numbered-without txn number [] all = tt
numbered-without txn number (o ∷ opened) all = by_test (o.0 == number) (numbered-without txn number opened all.1)
  where
    by_test : (t : Bool) → AreNumbered txn (without_entry number opened) → AreNumbered txn (cond t opened (o ∷ without_entry number opened))
    by_test true more = all.1
    by_test false more = (all.0, more)

-- also where a new one is opened with the next number
pub numbered-push : (txn : ℕ) (entry : Entry) (opened : Opened) → AreNumbered txn opened → AreNumbered (txn + 1) (opened ++ (txn, entry) ∷ [])
numbered-push txn entry [] all = (omega arith, tt)
numbered-push txn entry (o ∷ opened) all = (omega (arith, all.0), numbered-push txn entry opened all.1)

-- the newest transaction is found by its number
pub entry_of-push : (txn : ℕ) (entry : Entry) (opened : Opened) → AreNumbered txn opened → entry_of txn (opened ++ (txn, entry) ∷ []) ≡ Some entry
entry_of-push txn entry [] all = from (eqb_tells txn txn)
  where
    from : ((txn == txn) ≡ true) × (txn ≡ txn) ⊎ ((txn == txn) ≡ false) × (txn ≢ txn) → cond (txn == txn) (Some entry) None ≡ Some entry
    from (inl is) = rw is.0 refl
    from (inr isnt) = absurd (isnt.1 refl)
entry_of-push txn entry (o ∷ opened) all = from (eqb_tells o.0 txn) (entry_of-push txn entry opened all.1)
  where
    from : ((o.0 == txn) ≡ true) × (o.0 ≡ txn) ⊎ ((o.0 == txn) ≡ false) × (o.0 ≢ txn) → entry_of txn (opened ++ (txn, entry) ∷ []) ≡ Some entry → cond (o.0 == txn) (Some o.1) (entry_of txn (opened ++ (txn, entry) ∷ [])) ≡ Some entry
    from (inl is) more = absurd (omega (arith, all.0, is.1))
    from (inr isnt) more = rw isnt.0 more

-- a transaction that was changed is found with its new entry
pub entry_of-with : (number : ℕ) (opened : Opened) (old new : Entry) → entry_of number opened ≡ Some old → entry_of number (with_entry number new opened) ≡ Some new
entry_of-with number [] old new is = absurd (cc)
entry_of-with number (o ∷ opened) old new is = by_test (o.0 == number) refl (entry_of-with number opened old new)
  where
    by_test : (t : Bool) → (o.0 == number) ≡ t → (entry_of number opened ≡ Some old → entry_of number (with_entry number new opened) ≡ Some new) → entry_of number (cond (o.0 == number) ((o.0, new) ∷ opened) (o ∷ with_entry number new opened)) ≡ Some new
    by_test true t_is more = rw (t_is, t_is) refl
    by_test false t_is more = rw (t_is, t_is) (more (rw t_is at is))

-- a token's list is that of its transaction

puts_entry : (e : Option Entry) (events : List Content) → as_puts e ≡ Some events → e ≡ Some (Puts events)
puts_entry None events is = absurd (cc)
puts_entry (Some (Puts es)) events is = let same : es ≡ events = cc in ap (λ (l : List Content). Some (Puts l)) same
puts_entry (Some (Takes numbers)) events is = absurd (cc)

takes_entry : (e : Option Entry) (numbers : List ℕ) → as_takes e ≡ Some numbers → e ≡ Some (Takes numbers)
takes_entry None numbers is = absurd (cc)
takes_entry (Some (Puts events)) numbers is = absurd (cc)
takes_entry (Some (Takes ns)) numbers is = let same : ns ≡ numbers = cc in ap (λ (l : List ℕ). Some (Takes l)) same

-- a token with puts is of this life, and its transaction is open with them
pub puts_of-some : (s : State) (token : Token) (events : List Content) → puts_of s token ≡ Some events → (token.life ≡ s.life) × (entry_of token.number s.opened ≡ Some (Puts events))
puts_of-some s token events is = from (eqb_tells token.life s.life)
  where
    none_some : (events : List Content) → None ≡ Some events → ⊥
    none_some events h = cc

    from : ((token.life == s.life) ≡ true) × (token.life ≡ s.life) ⊎ ((token.life == s.life) ≡ false) × (token.life ≢ s.life) → (token.life ≡ s.life) × (entry_of token.number s.opened ≡ Some (Puts events))
    from (inl alive) = (alive.1, puts_entry (entry_of token.number s.opened) events (rw alive.0 at is))
    from (inr stale) = absurd (none_some events (rw stale.0 at is))

-- a token with takes is of this life, and its transaction is open with them
pub takes_of-some : (s : State) (token : Token) (numbers : List ℕ) → takes_of s token ≡ Some numbers → (token.life ≡ s.life) × (entry_of token.number s.opened ≡ Some (Takes numbers))
takes_of-some s token numbers is = from (eqb_tells token.life s.life)
  where
    none_some : (numbers : List ℕ) → None ≡ Some numbers → ⊥
    none_some numbers h = cc

    from : ((token.life == s.life) ≡ true) × (token.life ≡ s.life) ⊎ ((token.life == s.life) ≡ false) × (token.life ≢ s.life) → (token.life ≡ s.life) × (entry_of token.number s.opened ≡ Some (Takes numbers))
    from (inl alive) = (alive.1, takes_entry (entry_of token.number s.opened) numbers (rw alive.0 at is))
    from (inr stale) = absurd (none_some numbers (rw stale.0 at is))

-- the token of this life of an open transaction gives its puts
pub puts_of-from : (s : State) (token : Token) (events : List Content) → token.life ≡ s.life → entry_of token.number s.opened ≡ Some (Puts events) → puts_of s token ≡ Some events
puts_of-from s token events life is = from (eqb_tells token.life s.life)
  where
    from : ((token.life == s.life) ≡ true) × (token.life ≡ s.life) ⊎ ((token.life == s.life) ≡ false) × (token.life ≢ s.life) → puts_of s token ≡ Some events
    from (inl alive) = rw (alive.0, is) refl
    from (inr stale) = absurd (stale.1 life)
