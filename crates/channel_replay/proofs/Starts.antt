-- What is open at a start, and what its marks say of it.
use Rattle.std.proofs.Common.{inl, inr, ◌≡◌, ◌+◌, ◌++◌, ◌∷◌, [], ℕ, List, length, Option, Some, None, Bool, true, false, ◌==◌, ◌||◌, cond, refl, sym, ◌∙◌, ap, append_assoc, arith}
use Rattle.std.proofs.lemmas.Bool.Decides.{eqb_tells}
use Rattle.std.proofs.lemmas.List.{append-nil}
use Rattle.std.specs.List.{AllByRecursion}
use Rattle.event_core.specs.Content.{Content}
use Rattle.event_core.specs.Journal.{IsNotEmpty, is_among, taken_numbers}
use Rattle.event_core.specs.declared.journal.Entry.{Entry}
use Rattle.event_core.specs.declared.journal.Entry.TheVariants.{Puts, Takes}
use Rattle.record_form.specs.declared.record.Rec.TheVariants.{Put, Take}
use Rattle.channel_face.specs.Machine.{entry_of, is_some_of}
use Rattle.channel_face.proofs.Numbers.{rising_base}
use Rattle.channel_replay.specs.Marks.{Applied, Past, events_of, journal, numbers_of, open_txns, opened}
use Rattle.channel_replay.specs.Open.{keys}
use Rattle.channel_replay.proofs.Keys.{Tells}
use Rattle.channel_replay.proofs.OpenLists.{itself}
use Rattle.channel_replay.specs.Start.{AreApart, IsStart, Start, entry_marks, open_marks, put_marks, start_past, take_marks}
use Rattle.channel_replay.proofs.Among.{added_length, added_same, among_open, differ}
use Rattle.channel_replay.proofs.Ordered.{IsOrdered}

-- nothing is committed by them

puts_commit_none : (txn : ℕ) (events : List Content) (past : Past) → journal (put_marks txn events past) ≡ journal past
puts_commit_none txn [] past = refl
puts_commit_none txn (event ∷ events) past = puts_commit_none txn events (Applied (Put txn event) ∷ past) ∙ append-nil (journal past)

takes_commit_none : (txn : ℕ) (numbers : List ℕ) (past : Past) → journal (take_marks txn numbers past) ≡ journal past
takes_commit_none txn [] past = refl
takes_commit_none txn (number ∷ numbers) past = takes_commit_none txn numbers (Applied (Take txn number) ∷ past) ∙ append-nil (journal past)

entry_commits_none : (txn : ℕ) (entry : Entry) (past : Past) → journal (entry_marks txn entry past) ≡ journal past
entry_commits_none txn (Puts events) past = puts_commit_none txn events past
entry_commits_none txn (Takes numbers) past = takes_commit_none txn numbers past

-- the marks of what is open commit nothing
pub open_commits_none : (os : List (ℕ × Entry)) (past : Past) → journal (open_marks os past) ≡ journal past
open_commits_none [] past = refl
open_commits_none (o ∷ os) past = open_commits_none os (entry_marks o.0 o.1 past) ∙ entry_commits_none o.0 o.1 past

-- each transaction has its entry

abbrev with_puts : List Content → Option Entry → Option Entry
with_puts [] e = e
with_puts (event ∷ events) e = with_puts events (Some (Puts (events_of e ++ event ∷ [])))

abbrev with_takes : List ℕ → Option Entry → Option Entry
with_takes [] e = e
with_takes (number ∷ numbers) e = with_takes numbers (Some (Takes (numbers_of e ++ number ∷ [])))

puts_open : (txn t : ℕ) (events : List Content) (past : Past) → opened t (put_marks txn events past) ≡ cond (txn == t) (with_puts events (opened t past)) (opened t past)
puts_open txn t [] past = same (txn == t)
  where
    same : (b : Bool) → opened t past ≡ cond b (opened t past) (opened t past)
    same true = refl
    same false = refl
puts_open txn t (event ∷ events) past = puts_open txn t events (Applied (Put txn event) ∷ past) ∙ by_test (txn == t)
  where
    by_test : (b : Bool) → cond b (with_puts events (cond b (Some (Puts (events_of (opened t past) ++ event ∷ []))) (opened t past))) (cond b (Some (Puts (events_of (opened t past) ++ event ∷ []))) (opened t past))
        ≡ cond b (with_puts events (Some (Puts (events_of (opened t past) ++ event ∷ [])))) (opened t past)
    by_test true = refl
    by_test false = refl

takes_open : (txn t : ℕ) (numbers : List ℕ) (past : Past) → opened t (take_marks txn numbers past) ≡ cond (txn == t) (with_takes numbers (opened t past)) (opened t past)
takes_open txn t [] past = same (txn == t)
  where
    same : (b : Bool) → opened t past ≡ cond b (opened t past) (opened t past)
    same true = refl
    same false = refl
takes_open txn t (number ∷ numbers) past = takes_open txn t numbers (Applied (Take txn number) ∷ past) ∙ by_test (txn == t)
  where
    by_test : (b : Bool) → cond b (with_takes numbers (cond b (Some (Takes (numbers_of (opened t past) ++ number ∷ []))) (opened t past))) (cond b (Some (Takes (numbers_of (opened t past) ++ number ∷ []))) (opened t past))
        ≡ cond b (with_takes numbers (Some (Takes (numbers_of (opened t past) ++ number ∷ [])))) (opened t past)
    by_test true = refl
    by_test false = refl

all_puts : (events front : List Content) → with_puts events (Some (Puts front)) ≡ Some (Puts (front ++ events))
all_puts [] front = ap (λ (l : List Content). Some (Puts l)) (sym (append-nil front))
all_puts (event ∷ events) front = all_puts events (front ++ event ∷ []) ∙ ap (λ (l : List Content). Some (Puts l)) (append_assoc front (event ∷ []) events)

all_takes : (numbers front : List ℕ) → with_takes numbers (Some (Takes front)) ≡ Some (Takes (front ++ numbers))
all_takes [] front = ap (λ (l : List ℕ). Some (Takes l)) (sym (append-nil front))
all_takes (number ∷ numbers) front = all_takes numbers (front ++ number ∷ []) ∙ ap (λ (l : List ℕ). Some (Takes l)) (append_assoc front (number ∷ []) numbers)

-- a transaction that has nothing open gets just its entry
entry_open : (txn t : ℕ) (entry : Entry) (past : Past) → IsNotEmpty entry → opened txn past ≡ None → opened t (entry_marks txn entry past) ≡ cond (txn == t) (Some entry) (opened t past)
entry_open txn t (Puts []) past some none = absurd (omega (arith, some))
entry_open txn t (Puts (event ∷ events)) past some none = puts_open txn t (event ∷ events) past ∙ from (eqb_tells txn t)
  where
    from : Tells txn t → cond (txn == t) (with_puts events (Some (Puts (events_of (opened t past) ++ event ∷ [])))) (opened t past) ≡ cond (txn == t) (Some (Puts (event ∷ events))) (opened t past)
    from (inl same) =
        let nothing : opened t past ≡ None = ap (λ (n : ℕ). opened n past) (sym same.1) ∙ none in
        rw (same.0, nothing) (all_puts events (event ∷ []))
    from (inr other) = rw other.0 refl
entry_open txn t (Takes []) past some none = absurd (omega (arith, some))
entry_open txn t (Takes (number ∷ numbers)) past some none = takes_open txn t (number ∷ numbers) past ∙ from (eqb_tells txn t)
  where
    from : Tells txn t → cond (txn == t) (with_takes numbers (Some (Takes (numbers_of (opened t past) ++ number ∷ [])))) (opened t past) ≡ cond (txn == t) (Some (Takes (number ∷ numbers))) (opened t past)
    from (inl same) =
        let nothing : opened t past ≡ None = ap (λ (n : ℕ). opened n past) (sym same.1) ∙ none in
        rw (same.0, nothing) (all_takes numbers (number ∷ []))
    from (inr other) = rw other.0 refl

abbrev or_open : Option Entry → Option Entry → Option Entry
or_open None e = e
or_open (Some entry) e = Some entry

-- none of these has anything open
abbrev NoneOpen : List ℕ → Past → Type 0
NoneOpen [] past = Unit {0}
NoneOpen (t ∷ ts) past = (opened t past ≡ None) × NoneOpen ts past

not_there : (b c : Bool) → (b || c) ≡ false → (b ≡ false) × (c ≡ false)
not_there true c is = absurd (cc)
not_there false c is = (refl, is)

still_none : (txn : ℕ) (entry : Entry) (past : Past) (ts : List ℕ) → IsNotEmpty entry → opened txn past ≡ None → is_among ts txn ≡ false → NoneOpen ts past → NoneOpen ts (entry_marks txn entry past)
still_none txn entry past [] some none isnt all = tt
still_none txn entry past (t ∷ ts) some none isnt all =
    let apart = not_there (t == txn) (is_among ts txn) isnt in
    (entry_open txn t entry past some none ∙ from (eqb_tells txn t) apart.0, still_none txn entry past ts some none apart.1 all.1)
  where
    from : Tells txn t → (t == txn) ≡ false → cond (txn == t) (Some entry) (opened t past) ≡ None
    from (inl same) isnt = absurd (differ (sym (itself t) ∙ (ap (λ (n : ℕ). t == n) (sym same.1) ∙ isnt)))
    from (inr other) isnt = rw other.0 all.0

none_of : (os : List (ℕ × Entry)) (t : ℕ) → is_among (keys os) t ≡ false → entry_of t os ≡ None
none_of [] t isnt = refl
none_of (o ∷ os) t isnt =
    let apart = not_there (o.0 == t) (is_among (keys os) t) isnt in
    rw apart.0 (none_of os t apart.1)

each_open : (os : List (ℕ × Entry)) (past : Past) (t : ℕ) → AreApart (keys os) → AllByRecursion (λ o. IsNotEmpty o.1) os → NoneOpen (keys os) past → opened t (open_marks os past) ≡ or_open (entry_of t os) (opened t past)
each_open [] past t apart some none = refl
each_open (o ∷ os) past t apart some none =
    each_open os (entry_marks o.0 o.1 past) t apart.1 some.1 (still_none o.0 o.1 past (keys os) some.0 none.0 apart.0 none.1)
    ∙ (ap (or_open (entry_of t os)) (entry_open o.0 t o.1 past some.0 none.0) ∙ from (eqb_tells o.0 t))
  where
    from : Tells o.0 t → or_open (entry_of t os) (cond (o.0 == t) (Some o.1) (opened t past)) ≡ or_open (cond (o.0 == t) (Some o.1) (entry_of t os)) (opened t past)
    from (inl same) =
        let gone : entry_of t os ≡ None = none_of os t (ap (is_among (keys os)) (sym same.1) ∙ apart.0) in
        rw (same.0, gone) refl
    from (inr other) = rw other.0 refl

nothing_open : (ts : List ℕ) → NoneOpen ts []
nothing_open [] = tt
nothing_open (t ∷ ts) = (refl, nothing_open ts)

or_none : (e : Option Entry) → or_open e None ≡ e
or_none None = refl
or_none (Some entry) = refl

-- the marks of a start say of each transaction what it has open there
pub start_each : (s : Start) (t : ℕ) → IsStart s → opened t (start_past s) ≡ entry_of t s.opened
start_each s t is = each_open s.opened [] t is.apart is.some (nothing_open (keys s.opened)) ∙ or_none (entry_of t s.opened)

-- as many transactions are open

some_puts : (txn : ℕ) (event : Content) (past : Past) → is_some_of (opened txn (Applied (Put txn event) ∷ past)) ≡ true
some_puts txn event past = rw (itself txn) refl

some_takes : (txn number : ℕ) (past : Past) → is_some_of (opened txn (Applied (Take txn number) ∷ past)) ≡ true
some_takes txn number past = rw (itself txn) refl

puts_as_many : (txn : ℕ) (events : List Content) (past : Past) → is_some_of (opened txn past) ≡ true → length (open_txns (put_marks txn events past)) ≡ length (open_txns past)
puts_as_many txn [] past some = refl
puts_as_many txn (event ∷ events) past some =
    puts_as_many txn events (Applied (Put txn event) ∷ past) (some_puts txn event past) ∙ added_same txn (open_txns past) (among_open past txn ∙ some)

takes_as_many : (txn : ℕ) (numbers : List ℕ) (past : Past) → is_some_of (opened txn past) ≡ true → length (open_txns (take_marks txn numbers past)) ≡ length (open_txns past)
takes_as_many txn [] past some = refl
takes_as_many txn (number ∷ numbers) past some =
    takes_as_many txn numbers (Applied (Take txn number) ∷ past) (some_takes txn number past) ∙ added_same txn (open_txns past) (among_open past txn ∙ some)

entry_one_more : (txn : ℕ) (entry : Entry) (past : Past) → IsNotEmpty entry → opened txn past ≡ None → length (open_txns (entry_marks txn entry past)) ≡ length (open_txns past) + 1
entry_one_more txn (Puts []) past some none = absurd (omega (arith, some))
entry_one_more txn (Puts (event ∷ events)) past some none =
    puts_as_many txn events (Applied (Put txn event) ∷ past) (some_puts txn event past) ∙ added_length txn (open_txns past) (among_open past txn ∙ ap is_some_of none)
entry_one_more txn (Takes []) past some none = absurd (omega (arith, some))
entry_one_more txn (Takes (number ∷ numbers)) past some none =
    takes_as_many txn numbers (Applied (Take txn number) ∷ past) (some_takes txn number past) ∙ added_length txn (open_txns past) (among_open past txn ∙ ap is_some_of none)

opens_as_many : (os : List (ℕ × Entry)) (past : Past) → AreApart (keys os) → AllByRecursion (λ o. IsNotEmpty o.1) os → NoneOpen (keys os) past → length (open_txns (open_marks os past)) ≡ length (open_txns past) + length os
opens_as_many [] past apart some none = omega arith
opens_as_many (o ∷ os) past apart some none =
    let rest = opens_as_many os (entry_marks o.0 o.1 past) apart.1 some.1 (still_none o.0 o.1 past (keys os) some.0 none.0 apart.0 none.1) in
    let one = entry_one_more o.0 o.1 past some.0 none.0 in
    omega (arith, rest, one)

-- the marks of a start have as many open transactions as it has
pub start_as_many : (s : Start) → IsStart s → length (open_txns (start_past s)) ≡ length s.opened
start_as_many s is = let all = opens_as_many s.opened [] is.apart is.some (nothing_open (keys s.opened)) in omega (arith, all)

-- numbers of a start are in order
pub start_ordered : (s : Start) → IsStart s → IsOrdered s.base (start_past s)
start_ordered s is =
    let none : journal (start_past s) ≡ [] = open_commits_none s.opened [] in
    record {
      rising = rising_base s.base is.base;
      held = λ t n more. ap (λ (e : Option Entry). is_among (numbers_of e) n) (start_each s t is) ∙ is.earlier t n (omega (arith, more));
      taken = λ n more. ap (λ (j : List Entry). is_among (taken_numbers j) n) none;
    }
