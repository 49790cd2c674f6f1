-- Lists of open transactions, as one of them changes.
use Rattle.std.proofs.Common.{inl, inr, ◌≡◌, ◌<◌, ◌≤◌, ◌+◌, ◌++◌, ◌∷◌, [], ℕ, List, length, Option, Some, None, Bool, true, false, ◌==◌, ◌||◌, cond, refl, sym, ◌∙◌, ap, subst, arith}
use Rattle.std.specs.List.{AllByRecursion}
use Rattle.event_core.specs.Journal.{is_among}
use Rattle.event_core.specs.declared.journal.Entry.{Entry}
use Rattle.event_core.specs.declared.journal.Entry.TheVariants.{Takes}
use Rattle.channel_face.specs.Machine.{entry_of, with_entry, without_entry}
use Rattle.channel_replay.specs.Open.{keys, put_entry}
use Rattle.channel_replay.proofs.Keys.{Tells, entry_of-put}
use Rattle.channel_replay.proofs.Numbers.{or_among}
use Rattle.std.proofs.lemmas.Bool.Decides.{eqb_tells}
use Rattle.channel_writing.specs.Mirrors.{one_if_done, busy}
use Rattle.channel_replay.specs.StartLaws.{done_of}
use Rattle.channel_replay.specs.Start.{AreApart}

abbrev pub Opened : Type 0
Opened = List (ℕ × Entry)

abbrev pub one_done : Entry → ℕ
one_done entry = one_if_done (done_of (Some entry))

with_is_put : (opened : Opened) (t : ℕ) (old new : Entry) → entry_of t opened ≡ Some old → with_entry t new opened ≡ put_entry t new opened
with_is_put [] t old new is = absurd (cc)
with_is_put (o ∷ opened) t old new is = by_test (o.0 == t) is (with_is_put opened t old new)
  where
    by_test : (b : Bool) → cond b (Some o.1) (entry_of t opened) ≡ Some old → (entry_of t opened ≡ Some old → with_entry t new opened ≡ put_entry t new opened)
        → cond b ((o.0, new) ∷ opened) (o ∷ with_entry t new opened) ≡ cond b ((o.0, new) ∷ opened) (o ∷ put_entry t new opened)
    by_test true is rest = refl
    by_test false is rest = ap (λ (l : Opened). o ∷ l) (rest is)

-- the entries after one of them changed
pub entry_with : (opened : Opened) (t n : ℕ) (old new : Entry) → entry_of t opened ≡ Some old → entry_of n (with_entry t new opened) ≡ cond (t == n) (Some new) (entry_of n opened)
entry_with opened t n old new is = ap (λ (l : Opened). entry_of n l) (with_is_put opened t old new is) ∙ entry_of-put opened t n new

-- a transaction that changes keeps its number and its place
pub keys_with : (opened : Opened) (t : ℕ) (new : Entry) → keys (with_entry t new opened) ≡ keys opened
keys_with [] t new = refl
keys_with (o ∷ opened) t new = by_test (o.0 == t) (keys_with opened t new)
  where
    by_test : (b : Bool) → keys (with_entry t new opened) ≡ keys opened → keys (cond b ((o.0, new) ∷ opened) (o ∷ with_entry t new opened)) ≡ o.0 ∷ keys opened
    by_test true rest = refl
    by_test false rest = ap (λ (l : List ℕ). o.0 ∷ l) rest

-- a property of the numbers alone
pub all_with : (P : ℕ → Type 0) (opened : Opened) (t : ℕ) (new : Entry) → AllByRecursion (λ (o : ℕ × Entry). P o.0) opened → AllByRecursion (λ (o : ℕ × Entry). P o.0) (with_entry t new opened)
all_with P [] t new all = tt
all_with P (o ∷ opened) t new all = by_test (o.0 == t) (all_with P opened t new all.1)
  where
    by_test : (b : Bool) → AllByRecursion (λ (o : ℕ × Entry). P o.0) (with_entry t new opened) → AllByRecursion (λ (o : ℕ × Entry). P o.0) (cond b ((o.0, new) ∷ opened) (o ∷ with_entry t new opened))
    by_test true rest = (all.0, all.1)
    by_test false rest = (all.0, rest)

-- as many are open after one of them changed
pub length_with : (opened : Opened) (t : ℕ) (new : Entry) → length (with_entry t new opened) ≡ length opened
length_with [] t new = refl
length_with (o ∷ opened) t new = by_test (o.0 == t) (length_with opened t new)
  where
    by_test : (b : Bool) → length (with_entry t new opened) ≡ length opened → length (cond b ((o.0, new) ∷ opened) (o ∷ with_entry t new opened)) ≡ length (o ∷ opened)
    by_test true rest = refl
    by_test false rest = omega (arith, rest)

-- how many did something, after one of them changed
pub busy_with : (opened : Opened) (t : ℕ) (old new : Entry) → entry_of t opened ≡ Some old → busy (with_entry t new opened) + one_done old ≡ busy opened + one_done new
busy_with [] t old new is = absurd (cc)
busy_with (o ∷ opened) t old new is = by_test (o.0 == t) is (busy_with opened t old new)
  where
    by_test : (b : Bool) → cond b (Some o.1) (entry_of t opened) ≡ Some old → (entry_of t opened ≡ Some old → busy (with_entry t new opened) + one_done old ≡ busy opened + one_done new)
        → busy (cond b ((o.0, new) ∷ opened) (o ∷ with_entry t new opened)) + one_done old ≡ busy (o ∷ opened) + one_done new
    by_test true is rest = let same : o.1 ≡ old = cc in let s : one_done o.1 ≡ one_done old = ap one_done same in omega (arith, s)
    by_test false is rest = omega (arith, rest is)

-- the entry of an open transaction has P of its number
pub at_number : (P : ℕ → Type 0) (opened : Opened) (t : ℕ) (entry : Entry) → entry_of t opened ≡ Some entry → AllByRecursion (λ (o : ℕ × Entry). P o.0) opened → (n : ℕ) × (n ≡ t) × P n
at_number P [] t entry is all = absurd (cc)
at_number P (o ∷ opened) t entry is all = from (eqb_tells o.0 t) (λ is'. at_number P opened t entry is' all.1)
  where
    from : Tells o.0 t → (entry_of t opened ≡ Some entry → (n : ℕ) × (n ≡ t) × P n) → (n : ℕ) × (n ≡ t) × P n
    from (inl same) rest = (o.0, same.1, all.0)
    from (inr other) rest = rest (sym (pick (o.0 == t) other.0) ∙ is)
      where
        pick : (b : Bool) → b ≡ false → cond b (Some o.1) (entry_of t opened) ≡ entry_of t opened
        pick b not_here = rw not_here refl

-- at most all open transactions did something
pub busy_most : (opened : Opened) → busy opened ≤ length opened
busy_most [] = omega arith
busy_most (o ∷ opened) = omega (arith, busy_most opened, one_most (done_of (Some o.1)))
  where
    one_most : (e : Option Entry) → one_if_done e ≤ 1
    one_most None = omega arith
    one_most (Some e) = omega arith

-- where an open transaction did nothing, fewer did something than are open
pub busy_room : (opened : Opened) (t : ℕ) (entry : Entry) → entry_of t opened ≡ Some entry → one_done entry ≡ 0 → busy opened + 1 ≤ length opened
busy_room opened t entry is idle =
    let busier : busy (with_entry t (Takes (0 ∷ [])) opened) + one_done entry ≡ busy opened + 1 = busy_with opened t entry (Takes (0 ∷ [])) is in
    omega (arith, busier, idle, busy_most (with_entry t (Takes (0 ∷ [])) opened), length_with opened t (Takes (0 ∷ [])))

none_or : (b c d : Bool) → (b || c) ≡ false → (c ≡ false → d ≡ false) → (b || d) ≡ false
none_or true c d none rest = absurd (cc)
none_or false c d none rest = rest none

none_later : (b c : Bool) → (b || c) ≡ false → c ≡ false
none_later true c none = absurd (cc)
none_later false c none = none

gone_with : (opened : Opened) (t n : ℕ) → is_among (keys opened) n ≡ false → is_among (keys (without_entry t opened)) n ≡ false
gone_with [] t n none = none
gone_with (o ∷ opened) t n none = by_test (o.0 == t) (none_or (o.0 == n) (is_among (keys opened) n) (is_among (keys (without_entry t opened)) n) none (gone_with opened t n))
  where
    by_test : (b : Bool) → ((o.0 == n) || is_among (keys (without_entry t opened)) n) ≡ false → is_among (keys (cond b opened (o ∷ without_entry t opened))) n ≡ false
    by_test true rest = none_later (o.0 == n) (is_among (keys opened) n) none
    by_test false rest = rest

-- no number is used twice after one has ended
pub apart_without : (opened : Opened) (t : ℕ) → AreApart (keys opened) → AreApart (keys (without_entry t opened))
apart_without [] t apart = tt
apart_without (o ∷ opened) t apart = by_test (o.0 == t) (apart_without opened t apart.1) (gone_with opened t o.0 apart.0)
  where
    by_test : (b : Bool) → AreApart (keys (without_entry t opened)) → is_among (keys (without_entry t opened)) o.0 ≡ false → AreApart (keys (cond b opened (o ∷ without_entry t opened)))
    by_test true rest gone = apart.1
    by_test false rest gone = (gone, rest)

-- what holds of the numbers of all still holds after one has ended
pub all_without : (P : ℕ → Type 0) (opened : Opened) (t : ℕ) → AllByRecursion (λ (o : ℕ × Entry). P o.0) opened → AllByRecursion (λ (o : ℕ × Entry). P o.0) (without_entry t opened)
all_without P [] t all = tt
all_without P (o ∷ opened) t all = by_test (o.0 == t) (all_without P opened t all.1)
  where
    by_test : (b : Bool) → AllByRecursion (λ (o : ℕ × Entry). P o.0) (without_entry t opened) → AllByRecursion (λ (o : ℕ × Entry). P o.0) (cond b opened (o ∷ without_entry t opened))
    by_test true rest = all.1
    by_test false rest = (all.0, rest)

-- no more are open after one has ended
pub length_without : (opened : Opened) (t : ℕ) → length (without_entry t opened) ≤ length opened
length_without [] t = omega arith
length_without (o ∷ opened) t = by_test (o.0 == t) (length_without opened t)
  where
    by_test : (b : Bool) → length (without_entry t opened) ≤ length opened → length (cond b opened (o ∷ without_entry t opened)) ≤ length (o ∷ opened)
    by_test true rest = omega arith
    by_test false rest = omega (arith, rest)

-- how many did something, without one of them
pub busy_without : (opened : Opened) (t : ℕ) (old : Entry) → entry_of t opened ≡ Some old → busy (without_entry t opened) + one_done old ≡ busy opened
busy_without [] t old is = absurd (cc)
busy_without (o ∷ opened) t old is = by_test (o.0 == t) is (busy_without opened t old)
  where
    by_test : (b : Bool) → cond b (Some o.1) (entry_of t opened) ≡ Some old → (entry_of t opened ≡ Some old → busy (without_entry t opened) + one_done old ≡ busy opened)
        → busy (cond b opened (o ∷ without_entry t opened)) + one_done old ≡ busy (o ∷ opened)
    by_test true is rest = let same : o.1 ≡ old = cc in let s : one_done o.1 ≡ one_done old = ap one_done same in omega (arith, s)
    by_test false is rest = omega (arith, rest is)

-- a new one at the end

-- the numbers with a new one at the end
pub keys_push : (opened : Opened) (o : ℕ × Entry) → keys (opened ++ o ∷ []) ≡ keys opened ++ o.0 ∷ []
keys_push [] o = refl
keys_push (x ∷ opened) o = ap (λ (l : List ℕ). x.0 ∷ l) (keys_push opened o)

-- how many did something, with a new one
pub busy_push : (opened : Opened) (o : ℕ × Entry) → busy (opened ++ o ∷ []) ≡ busy opened + one_done o.1
busy_push [] o = omega arith
busy_push (x ∷ opened) o = omega (arith, busy_push opened o)

-- what holds of the numbers of all and of a new one holds of all with it
pub all_push : (P : ℕ → Type 0) (opened : Opened) (o : ℕ × Entry) → AllByRecursion (λ (x : ℕ × Entry). P x.0) opened → P o.0 → AllByRecursion (λ (x : ℕ × Entry). P x.0) (opened ++ o ∷ [])
all_push P [] o all last = (last, tt)
all_push P (x ∷ opened) o all last = (all.0, all_push P opened o all.1 last)

-- numbers below the next one are below the one after that
pub all_higher : (txn : ℕ) (opened : Opened) → AllByRecursion (λ (x : ℕ × Entry). x.0 < txn) opened → AllByRecursion (λ (x : ℕ × Entry). x.0 < txn + 1) opened
all_higher txn [] all = tt
all_higher txn (x ∷ opened) all = (omega (arith, all.0), all_higher txn opened all.1)

-- one that did nothing adds nothing to what was done
pub done_push : (opened : Opened) (t n : ℕ) (entry : Entry) → done_of (Some entry) ≡ None → done_of (entry_of n (opened ++ (t, entry) ∷ [])) ≡ done_of (entry_of n opened)
done_push [] t n entry idle = by_test (t == n)
  where
    by_test : (b : Bool) → done_of (cond b (Some entry) None) ≡ None
    by_test true = idle
    by_test false = refl
done_push (x ∷ opened) t n entry idle = by_test (x.0 == n) (done_push opened t n entry idle)
  where
    by_test : (b : Bool) → done_of (entry_of n (opened ++ (t, entry) ∷ [])) ≡ done_of (entry_of n opened) → done_of (cond b (Some x.1) (entry_of n (opened ++ (t, entry) ∷ []))) ≡ done_of (cond b (Some x.1) (entry_of n opened))
    by_test true rest = refl
    by_test false rest = rest

high_none : (txn : ℕ) (opened : Opened) → AllByRecursion (λ (x : ℕ × Entry). x.0 < txn) opened → is_among (keys opened) txn ≡ false
high_none txn [] all = refl
high_none txn (x ∷ opened) all = from (eqb_tells x.0 txn) (high_none txn opened all.1)
  where
    from : Tells x.0 txn → is_among (keys opened) txn ≡ false → is_among (keys (x ∷ opened)) txn ≡ false
    from (inl same) rest = absurd (omega (arith, all.0, same.1))
    from (inr other) rest = rw other.0 rest

apart_last : (txns : List ℕ) (t : ℕ) → AreApart txns → is_among txns t ≡ false → AreApart (txns ++ t ∷ [])
apart_last [] t apart none = (refl, tt)
apart_last (x ∷ txns) t apart none = (from (eqb_tells t x) none, apart_last txns t apart.1 (none_later (x == t) (is_among txns t) none))
  where
    differ : true ≡ false → ⊥
    differ is = absurd (cc)

    itself : (n : ℕ) → (n == n) ≡ true
    itself n = grind arith

    first_true : (b c : Bool) → b ≡ true → (b || c) ≡ true
    first_true b c is = rw is refl

    from : Tells t x → ((x == t) || is_among txns t) ≡ false → is_among (txns ++ t ∷ []) x ≡ false
    from (inl same) none' = absurd (differ (sym (first_true (x == t) (is_among txns t) (ap (λ (m : ℕ). x == m) same.1 ∙ itself x)) ∙ none'))
    from (inr other) none' = or_among txns (t ∷ []) x ∙ rw (apart.0, other.0) refl

-- a transaction with the next number has a number of its own
pub apart_push : (txn : ℕ) (entry : Entry) (opened : Opened) → AreApart (keys opened) → AllByRecursion (λ (x : ℕ × Entry). x.0 < txn) opened → AreApart (keys (opened ++ (txn, entry) ∷ []))
apart_push txn entry opened apart all = subst AreApart (sym (keys_push opened (txn, entry))) (apart_last (keys opened) txn apart (high_none txn opened all))
