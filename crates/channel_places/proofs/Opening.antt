-- One open transaction that has something else.
use Rattle.std.proofs.Common.{◌⊎◌, inl, inr, ◌≡◌, ◌≢◌, ◌<◌, ◌≤◌, ◌+◌, ◌++◌, ◌∷◌, [], ℕ, List, length, Option, Some, None, Bool, true, false, ◌==◌, cond, refl, sym, ◌∙◌, ap, subst, arith, length-append}
use Rattle.std.proofs.lemmas.Bool.Decides.{eqb_tells}
use Rattle.event_core.specs.Content.{Content}
use Rattle.event_core.specs.Journal.{put_events, taken_numbers}
use Rattle.event_core.specs.declared.journal.Entry.{Entry}
use Rattle.event_core.specs.declared.journal.Entry.TheVariants as entry
use Rattle.record_form.specs.declared.record.Pointer.{Pointer}
use Rattle.open_table.specs.Tables.{HasAt, Listed, Open, Puts, Table, Takes, open_at}
use Rattle.channel_face.specs.Machine.{State, entries, entry_of, with_entry, without_entry}
use Rattle.channel_face.specs.Sound.{AreNumbered, Opened}
use Rattle.channel_face.proofs.Opened.{entry_of-with}
use Rattle.channel_places.specs.Looks.{Known, LookLeft, LookPuts, LookStaged, Looks, LooksListed, LooksOpen, OpenRise, Places, StandsIn, held_in}
use Rattle.event_ring.specs.Slots.{Left}

-- numbers of open transactions rise

-- where numbers rise, the next one is no less than the lowest
pub open_within : (low : ℕ) (opened : Opened) (txn : ℕ) → OpenRise low opened txn → low ≤ txn
open_within low [] txn rise = rise
open_within low (o ∷ opened) txn rise = omega (arith, rise.0, open_within (o.0 + 1) opened txn rise.1)

-- numbers that rise from a high one on also rise from a lower one on
pub open_from : (low high : ℕ) (opened : Opened) (txn : ℕ) → low ≤ high → OpenRise high opened txn → OpenRise low opened txn
open_from low high [] txn less rise = omega (arith, less, rise)
open_from low high (o ∷ opened) txn less rise = (omega (arith, less, rise.0), rise.1)

-- a transaction with the next number comes last, and numbers still rise
pub rise-push : (low txn : ℕ) (e : Entry) (opened : Opened) → OpenRise low opened txn → OpenRise low (opened ++ (txn, e) ∷ []) (txn + 1)
rise-push low txn e [] rise = (rise, omega arith)
rise-push low txn e (o ∷ opened) rise = (rise.0, rise-push (o.0 + 1) txn e opened rise.1)

-- numbers still rise where one transaction has something else
pub rise-with : (low txn number : ℕ) (e : Entry) (opened : Opened) → OpenRise low opened txn → OpenRise low (with_entry number e opened) txn
rise-with low txn number e [] rise = rise
rise-with low txn number e (o ∷ opened) rise = by_test (o.0 == number) (rise-with (o.0 + 1) txn number e opened rise.1)
  where
    by_test : (t : Bool) → OpenRise (o.0 + 1) (with_entry number e opened) txn → OpenRise low (cond t ((o.0, e) ∷ opened) (o ∷ with_entry number e opened)) txn
    by_test true more = (rise.0, rise.1)
    by_test false more = (rise.0, more)

-- numbers still rise where one transaction is open no more
pub rise-without : (low txn number : ℕ) (opened : Opened) → OpenRise low opened txn → OpenRise low (without_entry number opened) txn
rise-without low txn number [] rise = rise
rise-without low txn number (o ∷ opened) rise = by_test (o.0 == number) (rise-without (o.0 + 1) txn number opened rise.1)
  where
    by_test : (t : Bool) → OpenRise (o.0 + 1) (without_entry number opened) txn → OpenRise low (cond t opened (o ∷ without_entry number opened)) txn
    by_test true more = open_from low (o.0 + 1) opened txn (omega (arith, rise.0)) rise.1
    by_test false more = (rise.0, more)

-- open transactions whose numbers rise are all numbered below the next one
pub rise-all : (low txn : ℕ) (opened : Opened) → OpenRise low opened txn → AreNumbered txn opened
rise-all low txn [] rise = tt
rise-all low txn (o ∷ opened) rise = (omega (arith, open_within (o.0 + 1) opened txn rise.1), rise-all (o.0 + 1) txn opened rise.1)

-- no open transaction has a number below all of them
pub none_below : (low txn number : ℕ) (opened : Opened) → OpenRise low opened txn → number < low → entry_of number opened ≡ None
none_below low txn number [] rise less = refl
none_below low txn number (o ∷ opened) rise less = from (eqb_tells o.0 number) (none_below (o.0 + 1) txn number opened rise.1 (omega (arith, less, rise.0)))
  where
    from : ((o.0 == number) ≡ true) × (o.0 ≡ number) ⊎ ((o.0 == number) ≡ false) × (o.0 ≢ number) → entry_of number opened ≡ None → cond (o.0 == number) (Some o.1) (entry_of number opened) ≡ None
    from (inl is) more = absurd (omega (arith, less, rise.0, is.1))
    from (inr isnt) more = rw isnt.0 more

-- a transaction is open once
pub entry_of_without : (low txn number : ℕ) (opened : Opened) → OpenRise low opened txn → entry_of number (without_entry number opened) ≡ None
entry_of_without low txn number [] rise = refl
entry_of_without low txn number (o ∷ opened) rise = from (eqb_tells o.0 number) (entry_of_without (o.0 + 1) txn number opened rise.1)
  where
    from : ((o.0 == number) ≡ true) × (o.0 ≡ number) ⊎ ((o.0 == number) ≡ false) × (o.0 ≢ number) → entry_of number (without_entry number opened) ≡ None
        → entry_of number (cond (o.0 == number) opened (o ∷ without_entry number opened)) ≡ None
    from (inl is) more = rw is.0 (none_below (o.0 + 1) txn number opened rise.1 (omega (arith, is.1)))
    from (inr isnt) more = rw (isnt.0, isnt.0) more

-- where one transaction is open no more, each other has what it had
pub entry_of_without-other : (other number : ℕ) (opened : Opened) → other ≢ number → entry_of other (without_entry number opened) ≡ entry_of other opened
entry_of_without-other other number [] differs = refl
entry_of_without-other other number (o ∷ opened) differs = from (eqb_tells o.0 number) (eqb_tells o.0 other) (entry_of_without-other other number opened differs)
  where
    from : ((o.0 == number) ≡ true) × (o.0 ≡ number) ⊎ ((o.0 == number) ≡ false) × (o.0 ≢ number) → ((o.0 == other) ≡ true) × (o.0 ≡ other) ⊎ ((o.0 == other) ≡ false) × (o.0 ≢ other)
        → entry_of other (without_entry number opened) ≡ entry_of other opened
        → entry_of other (cond (o.0 == number) opened (o ∷ without_entry number opened)) ≡ cond (o.0 == other) (Some o.1) (entry_of other opened)
    from (inl is) (inl at) more = absurd (differs (sym at.1 ∙ is.1))
    from (inl is) (inr isnt) more = rw (is.0, isnt.0) refl
    from (inr another) (inl at) more = rw (another.0, at.0) refl
    from (inr another) (inr isnt) more = rw (another.0, isnt.0) more

-- there is one fewer where a transaction is open no more
pub length-without : (number : ℕ) (opened : Opened) (e : Entry) → entry_of number opened ≡ Some e → length (without_entry number opened) + 1 ≡ length opened
length-without number [] e is = absurd (cc)
length-without number (o ∷ opened) e is = by_test (o.0 == number) is (length-without number opened e)
  where
    by_test : (t : Bool) → cond t (Some o.1) (entry_of number opened) ≡ Some e → (entry_of number opened ≡ Some e → length (without_entry number opened) + 1 ≡ length opened) → length (cond t opened (o ∷ without_entry number opened)) + 1 ≡ length (o ∷ opened)
    by_test true is more = omega arith
    by_test false is more = omega (arith, more is)

-- a list in which one transaction has something else

-- where one transaction has something else, each other has what it had
pub entry_of_with-other : (other number : ℕ) (e : Entry) (opened : Opened) → other ≢ number → entry_of other (with_entry number e opened) ≡ entry_of other opened
entry_of_with-other other number e [] differs = refl
entry_of_with-other other number e (o ∷ opened) differs = from (eqb_tells o.0 number) (eqb_tells o.0 other) (entry_of_with-other other number e opened differs)
  where
    from : ((o.0 == number) ≡ true) × (o.0 ≡ number) ⊎ ((o.0 == number) ≡ false) × (o.0 ≢ number) → ((o.0 == other) ≡ true) × (o.0 ≡ other) ⊎ ((o.0 == other) ≡ false) × (o.0 ≢ other)
        → entry_of other (with_entry number e opened) ≡ entry_of other opened
        → entry_of other (cond (o.0 == number) ((o.0, e) ∷ opened) (o ∷ with_entry number e opened)) ≡ cond (o.0 == other) (Some o.1) (entry_of other opened)
    from (inl is) (inl at) more = absurd (differs (sym at.1 ∙ is.1))
    from (inl is) (inr isnt) more = rw (is.0, isnt.0) refl
    from (inr another) (inl at) more = rw (another.0, at.0) refl
    from (inr another) (inr isnt) more = rw (another.0, isnt.0) more

-- as many are open where one has something else
pub length-with : (number : ℕ) (e : Entry) (opened : Opened) → length (with_entry number e opened) ≡ length opened
length-with number e [] = refl
length-with number e (o ∷ opened) = by_test (o.0 == number) (length-with number e opened)
  where
    by_test : (t : Bool) → length (with_entry number e opened) ≡ length opened → length (cond t ((o.0, e) ∷ opened) (o ∷ with_entry number e opened)) ≡ length (o ∷ opened)
    by_test true more = refl
    by_test false more = omega (arith, more)

abbrev pub size_put : Entry → ℕ
size_put e = length (put_events (e ∷ []))

abbrev pub puts_size : Opened → ℕ
puts_size opened = length (put_events (entries opened))

-- the puts of the first entry and those of the rest add up
pub size-cons : (e : Entry) (rest : List Entry) → length (put_events (e ∷ rest)) ≡ size_put e + length (put_events rest)
size-cons (entry.Puts events) rest = omega (arith, length-append events (put_events rest), length-append events [])
size-cons (entry.Takes numbers) rest = omega arith

some_same : (a b : Entry) → Some a ≡ Some b → a ≡ b
some_same a b is = cc

-- how many puts are open
pub size-with : (number : ℕ) (opened : Opened) (old new : Entry) → entry_of number opened ≡ Some old → puts_size (with_entry number new opened) + size_put old ≡ puts_size opened + size_put new
size-with number [] old new is = absurd (cc)
size-with number (o ∷ opened) old new is = by_test (o.0 == number) refl (size-with number opened old new)
  where
    by_test : (t : Bool) → (o.0 == number) ≡ t → (entry_of number opened ≡ Some old → puts_size (with_entry number new opened) + size_put old ≡ puts_size opened + size_put new)
        → puts_size (cond (o.0 == number) ((o.0, new) ∷ opened) (o ∷ with_entry number new opened)) + size_put old ≡ puts_size (o ∷ opened) + size_put new
    by_test true t_is more =
        let same : o.1 ≡ old = some_same o.1 old (rw t_is at is) in
        rw t_is (omega (arith, size-cons new (entries opened), size-cons o.1 (entries opened), ap (λ (e : Entry). size_put e) same))
    by_test false t_is more =
        rw t_is (omega (arith, size-cons o.1 (entries opened), size-cons o.1 (entries (with_entry number new opened)), more (rw t_is at is)))

-- where a transaction is open no more, its puts are counted no more
pub size-without : (number : ℕ) (opened : Opened) (old : Entry) → entry_of number opened ≡ Some old → puts_size (without_entry number opened) + size_put old ≡ puts_size opened
size-without number [] old is = absurd (cc)
size-without number (o ∷ opened) old is = by_test (o.0 == number) refl (size-without number opened old)
  where
    by_test : (t : Bool) → (o.0 == number) ≡ t → (entry_of number opened ≡ Some old → puts_size (without_entry number opened) + size_put old ≡ puts_size opened)
        → puts_size (cond (o.0 == number) opened (o ∷ without_entry number opened)) + size_put old ≡ puts_size (o ∷ opened)
    by_test true t_is more =
        let same : o.1 ≡ old = some_same o.1 old (rw t_is at is) in
        rw t_is (omega (arith, size-cons o.1 (entries opened), ap (λ (e : Entry). size_put e) same))
    by_test false t_is more =
        rw t_is (omega (arith, size-cons o.1 (entries opened), size-cons o.1 (entries (without_entry number opened)), more (rw t_is at is)))

-- puts take nothing, whatever they are
pub taken-with_puts : (number : ℕ) (opened : Opened) (old new : List Content) → entry_of number opened ≡ Some (entry.Puts old) → taken_numbers (entries (with_entry number (entry.Puts new) opened)) ≡ taken_numbers (entries opened)
taken-with_puts number [] old new is = absurd (cc)
taken-with_puts number (o ∷ opened) old new is = by_test (o.0 == number) refl (taken-with_puts number opened old new)
  where
    by_test : (t : Bool) → (o.0 == number) ≡ t → (entry_of number opened ≡ Some (entry.Puts old) → taken_numbers (entries (with_entry number (entry.Puts new) opened)) ≡ taken_numbers (entries opened))
        → taken_numbers (entries (cond (o.0 == number) ((o.0, entry.Puts new) ∷ opened) (o ∷ with_entry number (entry.Puts new) opened))) ≡ taken_numbers (entries (o ∷ opened))
    by_test true t_is more =
        let same : o.1 ≡ entry.Puts old = some_same o.1 (entry.Puts old) (rw t_is at is) in
        rw t_is (sym (ap (λ (e : Entry). taken_numbers (e ∷ entries opened)) same))
    by_test false t_is more = rw t_is (one_more o.1 (more (rw t_is at is)))
      where
        one_more : (e : Entry) → taken_numbers (entries (with_entry number (entry.Puts new) opened)) ≡ taken_numbers (entries opened) → taken_numbers (e ∷ entries (with_entry number (entry.Puts new) opened)) ≡ taken_numbers (e ∷ entries opened)
        one_more (entry.Puts events) same = same
        one_more (entry.Takes numbers) same = ap (λ (l : List ℕ). numbers ++ l) same

-- more that is known

abbrev pub Grows : Known → Known → Type 0
Grows known more = (p : Pointer) (event : Content) → StandsIn known p event → StandsIn more p event

-- puts that stand at known pointers still do where more is known
pub puts_grow : (known more : Known) (pointers : List Pointer) (events : List Content) → Grows known more → LookPuts known pointers events → LookPuts more pointers events
puts_grow known more [] [] grows look = tt
puts_grow known more [] (e ∷ events) grows look = absurd look
puts_grow known more (p ∷ pointers) [] grows look = absurd look
puts_grow known more (p ∷ pointers) (e ∷ events) grows look = (grows p e look.0, puts_grow known more pointers events grows look.1)

-- what a transaction has looks the same where more is known
pub listed_grows : (known more : Known) (listed : Listed) (e : Entry) → Grows known more → LooksListed known listed e → LooksListed more listed e
listed_grows known more (Puts pointers) (entry.Puts events) grows look = puts_grow known more pointers events grows look
listed_grows known more (Puts pointers) (entry.Takes numbers) grows look = absurd look
listed_grows known more (Takes numbers) (entry.Puts events) grows look = absurd look
listed_grows known more (Takes numbers) (entry.Takes taken) grows look = look

-- what may be open looks the same where more is known
pub open_grows : (known more : Known) (room : ℕ) (o : Option Open) (e : Option Entry) → Grows known more → LooksOpen known room o e → LooksOpen more room o e
open_grows known more room None None grows look = tt
open_grows known more room None (Some e) grows look = absurd look
open_grows known more room (Some o) None grows look = absurd look
open_grows known more room (Some o) (Some e) grows look = (listed_grows known more o.listed e grows look.0, look.1)

-- what is staged looks the same where more is known
pub staged_grows : (known more : Known) (listed : List Listed) (staged : List Entry) → Grows known more → LookStaged known listed staged → LookStaged more listed staged
staged_grows known more [] [] grows look = tt
staged_grows known more [] (e ∷ staged) grows look = absurd look
staged_grows known more (l ∷ listed) [] grows look = absurd look
staged_grows known more (l ∷ listed) (e ∷ staged) grows look = (listed_grows known more l e grows look.0, staged_grows known more listed staged grows look.1)

-- what is left looks the same where more is known
pub left_grows : (known more : Known) (held : List ℕ) (live : List Left) (items : List (ℕ × Content)) → Grows known more → LookLeft known held live items → LookLeft more held live items
left_grows known more held [] [] grows look = tt
left_grows known more held [] (x ∷ items) grows look = absurd look
left_grows known more held (l ∷ live) [] grows look = absurd look
left_grows known more held (l ∷ live) (x ∷ items) grows look = ((look.0.0, look.0.1, grows l.pointer x.1 look.0.2), left_grows known more held live items grows look.1)

-- what is known in front is still known where more comes behind
pub grows_front : (a b : Known) → Grows a (a ++ b)
grows_front [] b p event stands = absurd stands
grows_front (k ∷ a) b p event (inl here) = inl here
grows_front (k ∷ a) b p event (inr there) = inr (grows_front a b p event there)

-- what is known behind is still known where more comes in front
pub grows_behind : (a b : Known) → Grows b (a ++ b)
grows_behind [] b p event stands = stands
grows_behind (k ∷ a) b p event stands = inr (grows_behind a b p event stands)

-- what is settled and what is known may both be more
pub looks_grow : (settled known all : Known) (p : Places) (s : State) → Grows settled all → Grows known all → Looks settled known p s → Looks all all p s
looks_grow settled known all p s first second looks = record {
  sound = looks.sound;
  left = left_grows settled all (held_in s) p.live s.items first looks.left;
  opened = λ n. open_grows known all s.rules.limits.txn_capacity (open_at p.opened n) (entry_of n s.opened) second (looks.opened n);
  as_many = looks.as_many;
  open_puts = looks.open_puts;
  staged = staged_grows known all p.staged s.staged second looks.staged;
  numbers = looks.numbers;
}

-- the open transactions, of which one has something else
pub opened_with : (settled known more : Known) (p : Places) (s : State) (t : Table) (n : ℕ) (o : Open) (old new : Entry) → Looks settled known p s → Grows known more → entry_of n s.opened ≡ Some old → HasAt n (Some o) p.opened t
    → LooksListed more o.listed new → o.room ≡ s.rules.limits.txn_capacity → (m : ℕ) → LooksOpen more s.rules.limits.txn_capacity (open_at t m) (entry_of m (with_entry n new s.opened))
opened_with settled known more p s t n o old new looks grows is has listed room m = from (eqb_tells m n)
  where
    cap : ℕ
    cap = s.rules.limits.txn_capacity

    here : LooksOpen more cap (open_at t n) (entry_of n (with_entry n new s.opened))
    here = rw (has.here_is, entry_of-with n s.opened old new is) (listed, room)

    from : ((m == n) ≡ true) × (m ≡ n) ⊎ ((m == n) ≡ false) × (m ≢ n) → LooksOpen more cap (open_at t m) (entry_of m (with_entry n new s.opened))
    from (inl same) = subst (λ (k : ℕ). LooksOpen more cap (open_at t k) (entry_of k (with_entry n new s.opened))) (sym same.1) here
    from (inr other) = rw (has.others m other.1, entry_of_with-other m n new s.opened other.1) (open_grows known more cap (open_at p.opened m) (entry_of m s.opened) grows (looks.opened m))
