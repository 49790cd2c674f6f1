-- What is kept goes on to agree when a record is applied.
use Rattle.std.proofs.Common.{◌⊎◌, inl, inr, ◌≡◌, ◌<◌, ◌≤◌, ◌+◌, ◌++◌, ◌∷◌, [], ℕ, List, length, map, max, Option, Some, None, is_some, IsSomeAnd, Result, Ok, Err, IfOk, Bool, true, false, ◌==◌, ◌||◌, cond, refl, sym, ◌∙◌, ap, subst, arith}
use Rattle.std.proofs.lemmas.Bool.Decides.{eqb_tells}
use Rattle.std.proofs.lemmas.List.{append-nil}
use Rattle.std.specs.List.{AllByRecursion}
use Rattle.event_core.specs.Content.{Content}
use Rattle.event_core.specs.Journal.{Base, after_journal, is_among, left, next, numbered, put_events, taken_numbers, without}
use Rattle.event_core.specs.declared.refused.NoMemory.{NoMemory}
use Rattle.event_core.specs.declared.journal.Entry.{Entry}
use Rattle.event_core.specs.declared.journal.Entry.TheVariants.{Puts, Takes}
use Rattle.record_form.specs.declared.record.Rec.{Rec}
use Rattle.record_form.specs.declared.record.Rec.TheVariants.{Put, Take, Rollback, CommitPut, CommitTake}
use Rattle.channel_face.specs.Machine.{entries, entry_of, without_entry}
use Rattle.channel_face.proofs.LawLemmas.{TakesEarlier, after-append}
use Rattle.channel_face.specs.Sound.{Items, times}
use Rattle.channel_face.proofs.Numbers.{among_times, taken_numbers-append, without_none}
use Rattle.channel_replay.proofs.Keys.{Tells, EachOnce, among_held, entry_of-put, entry_of-without, held_among, keys-put, keys-without, length-keys, open_once}
use Rattle.channel_replay.proofs.Numbers.{or_among}
use Rattle.channel_replay.specs.declared.recovery.Recovery.{Recovery}
use Rattle.channel_replay.specs.Marks.{Past, Applied, IsHeld, IsLeft, added, removed, committed, entries_of, events_of, journal, numbers_of, open_by, open_txns, opened, opened_by, txn_of}
use Rattle.channel_replay.specs.Rules.{IsPut, IsPutOf, IsTake, IsTakeOf, IsTxn, MayGoOn}
use Rattle.channel_replay.specs.Open.{GoesOn, keys, put_entry}
use Rattle.channel_replay.specs.Recovery.{Agrees, AppliesTo, SettlesPuts, SettlesTakes}

-- each open transaction of what agrees is kept once
pub once : (base : Base) (past : Past) (r : Recovery) → Agrees base past r → EachOnce (keys r.opened.items)
once base past r a n = subst (λ (l : List ℕ). times n l ≤ 1) (sym a.keys_are) (open_once past n)

-- the journal stays, and what is open changes at one transaction
pub kept : (base : Base) (past : Past) (old new : Recovery) (rec : Rec) → Agrees base past old → committed rec past ≡ []
    → new.items.items ≡ old.items.items → new.number ≡ old.number → new.txn ≡ max (txn_of rec + 1) old.txn
    → keys new.opened.items ≡ open_by rec (open_txns past) → ((t : ℕ) → entry_of t new.opened.items ≡ opened t (Applied rec ∷ past))
    → ((t n : ℕ) → old.number ≤ n → is_among (numbers_of (opened t (Applied rec ∷ past))) n ≡ false)
    → Agrees base (Applied rec ∷ past) new
kept base past old new rec a none items number txn keys_are each below =
    let same : journal past ≡ journal (Applied rec ∷ past) = sym (ap (λ (l : List Entry). journal past ++ l) none ∙ append-nil (journal past)) in
    record {
      items = items ∙ a.items ∙ ap (left base) same;
      number = number ∙ a.number ∙ ap (next base) same;
      txn = txn ∙ ap (max (txn_of rec + 1)) a.txn;
      keys_are = keys_are;
      each = each;
      left_below = rw (items, number) a.left_below;
      held_below = λ t n more. below t n (omega (arith, number, more));
      taken_below = λ n more. ap (λ (j : List Entry). is_among (taken_numbers j) n) (sym same) ∙ a.taken_below n (omega (arith, number, more));
    }

-- the entry of one transaction is another one
changed_entry : (base : Base) (past : Past) (old : Recovery) (rec : Rec) (entry : Entry) (new : List (ℕ × Entry)) → Agrees base past old → new ≡ put_entry (txn_of rec) entry old.opened.items
    → Some entry ≡ opened_by rec (entry_of (txn_of rec) old.opened.items) → (t : ℕ) → entry_of t new ≡ opened t (Applied rec ∷ past)
changed_entry base past old rec entry new a is same t = ap (entry_of t) is ∙ entry_of-put old.opened.items (txn_of rec) t entry ∙ by_test (eqb_tells (txn_of rec) t)
  where
    by_test : Tells (txn_of rec) t → cond (txn_of rec == t) (Some entry) (entry_of t old.opened.items) ≡ cond (txn_of rec == t) (opened_by rec (opened t past)) (opened t past)
    by_test (inl here) = rw here.0 (same ∙ ap (opened_by rec) (ap (λ (m : ℕ). entry_of m old.opened.items) here.1 ∙ a.each t))
    by_test (inr there) = rw there.0 (a.each t)

changed_keys : (base : Base) (past : Past) (old : Recovery) (txn : ℕ) (entry : Entry) (new : List (ℕ × Entry)) → Agrees base past old → new ≡ put_entry txn entry old.opened.items → keys new ≡ added txn (open_txns past)
changed_keys base past old txn entry new a is = ap keys is ∙ keys-put old.opened.items txn entry ∙ ap (added txn) a.keys_are

same_count : (base : Base) (past : Past) (old : Recovery) → Agrees base past old → length old.opened.items ≡ length (open_txns past)
same_count base past old a = sym (length-keys old.opened.items) ∙ ap (λ (l : List ℕ). length l) a.keys_are

may_go_on : (base : Base) (past : Past) (old : Recovery) (txn : ℕ) (P : Entry → Type 0) → Agrees base past old → MayGoOn (length old.opened.items) (entry_of txn old.opened.items) P → MayGoOn (length (open_txns past)) (opened txn past) P
may_go_on base past old txn P a may = rw (← same_count base past old a, ← a.each txn) may

might_go_on : (base : Base) (past : Past) (old : Recovery) (txn : ℕ) (P : Entry → Type 0) → Agrees base past old → MayGoOn (length (open_txns past)) (opened txn past) P → MayGoOn (length old.opened.items) (entry_of txn old.opened.items) P
might_go_on base past old txn P a may = rw (same_count base past old a, a.each txn) may

-- an opened transaction of puts

put_below : (base : Base) (past : Past) (old : Recovery) (txn : ℕ) (event : Content) → Agrees base past old → (t n : ℕ) → old.number ≤ n → is_among (numbers_of (opened t (Applied (Put txn event) ∷ past))) n ≡ false
put_below base past old txn event a t n more = by_test (txn == t)
  where
    by_test : (b : Bool) → is_among (numbers_of (cond b (Some (Puts (events_of (opened t past) ++ event ∷ []))) (opened t past))) n ≡ false
    by_test true = refl
    by_test false = a.held_below t n more

-- a put is applied where it is legal, and refused only where it is not
pub put_applies : (ok : Bool) (txn : ℕ) (event : Content) (old new : Recovery) → IsTxn txn → new.items.items ≡ old.items.items → new.number ≡ old.number → new.txn ≡ max (txn + 1) old.txn
    → GoesOn ok old.opened.items txn IsPut (λ entry. Puts (events_of entry ++ event ∷ [])) new.opened.items → AppliesTo ok old (Put txn event) new
put_applies true txn event old new is items number above goes base past a =
    let entry : Entry = Puts (events_of (entry_of txn old.opened.items) ++ event ∷ []) in (
      (is, may_go_on base past old txn IsPut a goes.0),
      kept base past old new (Put txn event) a refl items number above (changed_keys base past old txn entry new.opened.items a goes.1) (changed_entry base past old (Put txn event) entry new.opened.items a goes.1 refl) (put_below base past old txn event a),
    )
put_applies false txn event old new is items number above goes base past a = λ legal. goes (might_go_on base past old txn IsPut a legal.1)

-- an opened transaction of takes

-- an item's number is below what all the items' numbers are below
pub among_below : (number low : ℕ) (items : Items) → AllByRecursion (λ item. item.0 < low) items → is_among (map (λ item. item.0) items) number ≡ true → number < low
among_below number low [] below is = absurd (let e : false ≡ true = is in cc)
among_below number low (item ∷ items) below is = from (eqb_tells item.0 number) is (among_below number low items below.1)
  where
    from : Tells item.0 number → ((item.0 == number) || is_among (map (λ item. item.0) items) number) ≡ true → (is_among (map (λ item. item.0) items) number ≡ true → number < low) → number < low
    from (inl here) is rest = omega (arith, below.0, here.1)
    from (inr there) is rest = rest (rw there.0 at is)

-- a number below a bound is not one from the bound on
pub not_that : (number n low : ℕ) → number < low → low ≤ n → (number == n) ≡ false
not_that number n low less more = from (eqb_tells number n)
  where
    from : Tells number n → (number == n) ≡ false
    from (inl same) = absurd (omega (arith, less, more, same.1))
    from (inr other) = other.0

take_below : (base : Base) (past : Past) (old : Recovery) (txn number : ℕ) → Agrees base past old → number < old.number → (t n : ℕ) → old.number ≤ n → is_among (numbers_of (opened t (Applied (Take txn number) ∷ past))) n ≡ false
take_below base past old txn number a less t n more = by_test (txn == t)
  where
    by_test : (b : Bool) → is_among (numbers_of (cond b (Some (Takes (numbers_of (opened t past) ++ number ∷ []))) (opened t past))) n ≡ false
    by_test true = or_among (numbers_of (opened t past)) (number ∷ []) n ∙ rw (a.held_below t n more, not_that number n old.number less more) refl
    by_test false = a.held_below t n more

is_left : (base : Base) (past : Past) (old : Recovery) (number : ℕ) → Agrees base past old → is_among (map (λ item. item.0) old.items.items) number ≡ true → IsLeft base past number
is_left base past old number a is = ap (λ (l : Items). is_among (map (λ (item : ℕ × Content). item.0) l) number) (sym a.items) ∙ is

is_held : (base : Base) (past : Past) (old : Recovery) (number : ℕ) → Agrees base past old → is_among (taken_numbers (entries old.opened.items)) number ≡ true → IsHeld past number
is_held base past old number a is =
    let h = among_held old.opened.items number (once base past old a) is in
    (h.0, ap (λ (e : Option Entry). is_among (numbers_of e) number) (sym (a.each h.0)) ∙ h.1)

not_held : (base : Base) (past : Past) (old : Recovery) (number : ℕ) → Agrees base past old → is_among (taken_numbers (entries old.opened.items)) number ≡ false → IsHeld past number → ⊥
not_held base past old number a none held =
    let h : is_among (taken_numbers (entries old.opened.items)) number ≡ true = held_among old.opened.items number held.0 (ap (λ (e : Option Entry). is_among (numbers_of e) number) (a.each held.0) ∙ held.1) in
    let e : false ≡ true = sym none ∙ h in cc

-- a take of an event that is not left is not legal
pub not_left_applies : (txn number : ℕ) (old new : Recovery) → is_among (map (λ item. item.0) old.items.items) number ≡ false → AppliesTo false old (Take txn number) new
not_left_applies txn number old new none base past a legal =
    let e : false ≡ true = sym none ∙ (ap (λ (l : Items). is_among (map (λ (item : ℕ × Content). item.0) l) number) a.items ∙ legal.2) in cc

-- a take of an event that an open take holds is not legal
pub held_applies : (txn number : ℕ) (old new : Recovery) → is_among (taken_numbers (entries old.opened.items)) number ≡ true → AppliesTo false old (Take txn number) new
held_applies txn number old new held base past a legal = legal.3 (is_held base past old number a held)

-- a take of an event that is left and free is applied where it is legal, and refused only where it is not
pub take_applies : (ok : Bool) (txn number : ℕ) (old new : Recovery) → IsTxn txn → is_among (map (λ item. item.0) old.items.items) number ≡ true → is_among (taken_numbers (entries old.opened.items)) number ≡ false
    → new.items.items ≡ old.items.items → new.number ≡ old.number → new.txn ≡ max (txn + 1) old.txn
    → GoesOn ok old.opened.items txn IsTake (λ entry. Takes (numbers_of entry ++ number ∷ [])) new.opened.items → AppliesTo ok old (Take txn number) new
take_applies true txn number old new is there free items same above goes base past a =
    let entry : Entry = Takes (numbers_of (entry_of txn old.opened.items) ++ number ∷ []) in
    let low : number < old.number = among_below number old.number old.items.items a.left_below there in (
      (is, may_go_on base past old txn IsTake a goes.0, is_left base past old number a there, not_held base past old number a free),
      kept base past old new (Take txn number) a refl items same above (changed_keys base past old txn entry new.opened.items a goes.1) (changed_entry base past old (Take txn number) entry new.opened.items a goes.1 refl) (take_below base past old txn number a low),
    )
take_applies false txn number old new is there free items same above goes base past a = λ legal. goes (might_go_on base past old txn IsTake a legal.1)

-- a transaction ends

-- the open transactions when one has ended
pub ended_keys : (base : Base) (past : Past) (old : Recovery) (txn : ℕ) (new : List (ℕ × Entry)) → Agrees base past old → new ≡ without_entry txn old.opened.items → keys new ≡ removed txn (open_txns past)
ended_keys base past old txn new a is = ap keys is ∙ keys-without old.opened.items txn (once base past old a) ∙ ap (removed txn) a.keys_are

ended_entry : (base : Base) (past : Past) (old : Recovery) (txn : ℕ) (new : List (ℕ × Entry)) → Agrees base past old → new ≡ without_entry txn old.opened.items → (t : ℕ) → entry_of t new ≡ cond (txn == t) None (opened t past)
ended_entry base past old txn new a is t =
    ap (entry_of t) is ∙ entry_of-without old.opened.items txn t (once base past old a) ∙ ap (λ (e : Option Entry). cond (txn == t) None e) (a.each t)

ended_below : (base : Base) (past : Past) (old : Recovery) (txn : ℕ) → Agrees base past old → (t n : ℕ) → old.number ≤ n → is_among (numbers_of (cond (txn == t) None (opened t past))) n ≡ false
ended_below base past old txn a t n more = by_test (txn == t)
  where
    by_test : (b : Bool) → is_among (numbers_of (cond b None (opened t past))) n ≡ false
    by_test true = refl
    by_test false = a.held_below t n more

-- a rollback is legal just where the transaction is open, and then ends it
pub rolled_back : (entry : Option Entry) (txn : ℕ) (old new : Recovery) → IsTxn txn → entry ≡ entry_of txn old.opened.items → new.items.items ≡ old.items.items → new.number ≡ old.number → new.txn ≡ max (txn + 1) old.txn
    → new.opened.items ≡ without_entry txn old.opened.items → AppliesTo (is_some entry) old (Rollback txn) new
rolled_back None txn old new is entry_is items number above ended base past a = λ legal.
    let none : opened txn past ≡ None = sym (a.each txn) ∙ sym entry_is in
    let no : false ≡ true = rw none at legal.1 in cc
rolled_back (Some entry) txn old new is entry_is items number above ended base past a =
    let some : opened txn past ≡ Some entry = sym (a.each txn) ∙ sym entry_is in (
      (is, rw some refl),
      kept base past old new (Rollback txn) a refl items number above (ended_keys base past old txn new.opened.items a ended) (ended_entry base past old txn new.opened.items a ended) (ended_below base past old txn a),
    )

-- commits

earlier : (base : Base) (past : Past) (old : Recovery) → Agrees base past old → TakesEarlier base (journal past)
earlier base past old a n more = from (among_times n (taken_numbers (journal past)))
  where
    from : ((is_among (taken_numbers (journal past)) n ≡ true) × (1 ≤ times n (taken_numbers (journal past)))) ⊎ ((is_among (taken_numbers (journal past)) n ≡ false) × (times n (taken_numbers (journal past)) ≡ 0)) → times n (taken_numbers (journal past)) ≡ 0
    from (inl is) = absurd (let e : true ≡ false = sym is.0 ∙ a.taken_below n (omega (arith, more, a.number)) in cc)
    from (inr isnt) = isnt.1

all_append : (low : ℕ) (a b : Items) → AllByRecursion (λ item. item.0 < low) a → AllByRecursion (λ item. item.0 < low) b → AllByRecursion (λ item. item.0 < low) (a ++ b)
all_append low [] b x y = y
all_append low (item ∷ a) b x y = (x.0, all_append low a b x.1 y)

all_lower : (low high : ℕ) (items : Items) → low ≤ high → AllByRecursion (λ item. item.0 < low) items → AllByRecursion (λ item. item.0 < high) items
all_lower low high [] less x = tt
all_lower low high (item ∷ items) less x = (omega (arith, x.0, less), all_lower low high items less x.1)

numbered_below : (first high : ℕ) (events : List Content) → first + length events ≤ high → AllByRecursion (λ item. item.0 < high) (numbered first events)
numbered_below first high [] less = tt
numbered_below first high (event ∷ events) less = (omega (arith, less), numbered_below (first + 1) high events (omega (arith, less)))

-- what is left after the commit of an entry
left_behind : (base : Base) (past : Past) (old : Recovery) (entry : Entry) → Agrees base past old → after_journal base (journal past ++ entry ∷ []) ≡ after_journal (after_journal base (journal past)) (entry ∷ [])
left_behind base past old entry a = after-append base (journal past) (entry ∷ []) (earlier base past old a)

committed_puts : (base : Base) (past : Past) (old : Recovery) (events : List Content) → Agrees base past old
    → (left base (journal past ++ Puts events ∷ []) ≡ old.items.items ++ numbered old.number events) × (next base (journal past ++ Puts events ∷ []) ≡ old.number + length events)
committed_puts base past old events a =
    let whole = left_behind base past old (Puts events) a in
    let plain : events ++ [] ≡ events = append-nil events in (
      ap (λ (b : Base). b.items) whole ∙ without_none (left base (journal past) ++ numbered (next base (journal past)) (events ++ []))
          ∙ rw (plain, a.items, a.number) refl,
      ap (λ (b : Base). b.first) whole ∙ rw (plain, a.number) refl,
    )

committed_takes : (base : Base) (past : Past) (old : Recovery) (numbers : List ℕ) → Agrees base past old
    → (left base (journal past ++ Takes numbers ∷ []) ≡ without numbers old.items.items) × (next base (journal past ++ Takes numbers ∷ []) ≡ old.number)
committed_takes base past old numbers a =
    let whole = left_behind base past old (Takes numbers) a in
    let plain : numbers ++ [] ≡ numbers = append-nil numbers in (
      ap (λ (b : Base). b.items) whole ∙ rw (plain, append-nil (left base (journal past)), a.items) refl,
      ap (λ (b : Base). b.first) whole ∙ omega (arith, a.number),
    )

-- after the commit of a put, what is kept agrees with one record more
pub put_committed : (base : Base) (past : Past) (old new : Recovery) (txn first count : ℕ) (events : List Content) → Agrees base past old → entry_of txn old.opened.items ≡ Some (Puts events)
    → new.items.items ≡ old.items.items ++ numbered old.number events → new.number ≡ old.number + length events → new.txn ≡ max (txn + 1) old.txn → new.opened.items ≡ without_entry txn old.opened.items
    → Agrees base (Applied (CommitPut txn first count) ∷ past) new
put_committed base past old new txn first count events a entry items number above ended =
    let some : opened txn past ≡ Some (Puts events) = sym (a.each txn) ∙ entry in
    let whole : journal past ++ entries_of (opened txn past) ≡ journal past ++ Puts events ∷ [] = ap (λ (e : Option Entry). journal past ++ entries_of e) some in
    let so = committed_puts base past old events a in
    let taken : taken_numbers (journal past ++ Puts events ∷ []) ≡ taken_numbers (journal past) = taken_numbers-append (journal past) (Puts events ∷ []) ∙ append-nil (taken_numbers (journal past)) in
    record {
      items = items ∙ sym so.0 ∙ ap (left base) (sym whole);
      number = number ∙ sym so.1 ∙ ap (λ (j : List Entry). base.first + length (put_events j)) (sym whole);
      txn = above ∙ ap (max (txn + 1)) a.txn;
      keys_are = ended_keys base past old txn new.opened.items a ended;
      each = ended_entry base past old txn new.opened.items a ended;
      left_below = rw (items, number) (all_append (old.number + length events) old.items.items (numbered old.number events) (all_lower old.number (old.number + length events) old.items.items (omega arith) a.left_below) (numbered_below old.number (old.number + length events) events (omega arith)));
      held_below = λ t n more. ended_below base past old txn a t n (omega (arith, more, number));
      taken_below = λ n more. ap (λ (j : List Entry). is_among (taken_numbers j) n) whole ∙ ap (λ (l : List ℕ). is_among l n) taken ∙ a.taken_below n (omega (arith, more, number));
    }

all_without : (low : ℕ) (numbers : List ℕ) (items : Items) → AllByRecursion (λ item. item.0 < low) items → AllByRecursion (λ item. item.0 < low) (without numbers items)
all_without low numbers [] x = tt
all_without low numbers (item ∷ items) x = by_test (is_among numbers item.0) (all_without low numbers items x.1)
  where
    by_test : (b : Bool) → AllByRecursion (λ item. item.0 < low) (without numbers items) → AllByRecursion (λ item. item.0 < low) (cond b (without numbers items) (item ∷ without numbers items))
    by_test true rest = rest
    by_test false rest = (x.0, rest)

-- after the commit of a take, what is kept agrees with one record more
pub take_committed : (base : Base) (past : Past) (old new : Recovery) (txn count : ℕ) (numbers : List ℕ) → Agrees base past old → entry_of txn old.opened.items ≡ Some (Takes numbers)
    → new.items.items ≡ without numbers old.items.items → new.number ≡ old.number → new.txn ≡ max (txn + 1) old.txn → new.opened.items ≡ without_entry txn old.opened.items
    → Agrees base (Applied (CommitTake txn count) ∷ past) new
take_committed base past old new txn count numbers a entry items number above ended =
    let some : opened txn past ≡ Some (Takes numbers) = sym (a.each txn) ∙ entry in
    let whole : journal past ++ entries_of (opened txn past) ≡ journal past ++ Takes numbers ∷ [] = ap (λ (e : Option Entry). journal past ++ entries_of e) some in
    let so = committed_takes base past old numbers a in
    let taken : taken_numbers (journal past ++ Takes numbers ∷ []) ≡ taken_numbers (journal past) ++ numbers = taken_numbers-append (journal past) (Takes numbers ∷ []) ∙ ap (λ (l : List ℕ). taken_numbers (journal past) ++ l) (append-nil numbers) in
    record {
      items = items ∙ sym so.0 ∙ ap (left base) (sym whole);
      number = number ∙ sym so.1 ∙ ap (λ (j : List Entry). base.first + length (put_events j)) (sym whole);
      txn = above ∙ ap (max (txn + 1)) a.txn;
      keys_are = ended_keys base past old txn new.opened.items a ended;
      each = ended_entry base past old txn new.opened.items a ended;
      left_below = rw (items, number) (all_without old.number numbers old.items.items a.left_below);
      held_below = λ t n more. ended_below base past old txn a t n (omega (arith, more, number));
      taken_below = λ n more.
          let held : is_among numbers n ≡ false = ap (λ (e : Option Entry). is_among (numbers_of e) n) (sym some) ∙ a.held_below txn n (omega (arith, more, number)) in
          ap (λ (j : List Entry). is_among (taken_numbers j) n) whole ∙ ap (λ (l : List ℕ). is_among l n) taken ∙ or_among (taken_numbers (journal past)) numbers n
          ∙ rw (a.taken_below n (omega (arith, more, number)), held) refl;
    }

-- an open put is committed where its count and its first number are right
pub puts_settle : (ok : Bool) (txn first count : ℕ) (events : List Content) (old seen new : Recovery) → IsTxn txn → Some (Puts events) ≡ entry_of txn old.opened.items
    → seen.items.items ≡ old.items.items → seen.number ≡ old.number → seen.txn ≡ max (txn + 1) old.txn → seen.opened.items ≡ without_entry txn old.opened.items
    → SettlesPuts ok events first count seen new → AppliesTo ok old (CommitPut txn first count) new
puts_settle true txn first count events old seen new is entry items number above ended settles base past a =
    let some : opened txn past ≡ Some (Puts events) = sym (a.each txn) ∙ sym entry in (
      (is, rw some settles.counted, settles.first_is ∙ number ∙ a.number, settles.fits),
      put_committed base past old new txn first count events a (sym entry) (settles.items ∙ rw (items, number) refl) (settles.number ∙ rw number refl) (settles.txn ∙ above) (settles.opened ∙ ended),
    )
puts_settle false txn first count events old seen new is entry items number above ended settles base past a = λ legal.
    let some : opened txn past ≡ Some (Puts events) = sym (a.each txn) ∙ sym entry in
    settles (rw some at legal.1) (legal.2 ∙ sym a.number ∙ sym number) legal.3

-- an open take is committed where its count is right
pub takes_settle : (ok : Bool) (txn count : ℕ) (numbers : List ℕ) (old seen new : Recovery) → IsTxn txn → Some (Takes numbers) ≡ entry_of txn old.opened.items
    → seen.items.items ≡ old.items.items → seen.number ≡ old.number → seen.txn ≡ max (txn + 1) old.txn → seen.opened.items ≡ without_entry txn old.opened.items
    → SettlesTakes ok numbers count seen new → AppliesTo ok old (CommitTake txn count) new
takes_settle true txn count numbers old seen new is entry items number above ended settles base past a =
    let some : opened txn past ≡ Some (Takes numbers) = sym (a.each txn) ∙ sym entry in (
      (is, rw some settles.counted),
      take_committed base past old new txn count numbers a (sym entry) (settles.items ∙ rw items refl) (settles.number ∙ number) (settles.txn ∙ above) (settles.opened ∙ ended),
    )
takes_settle false txn count numbers old seen new is entry items number above ended settles base past a = λ legal.
    let some : opened txn past ≡ Some (Takes numbers) = sym (a.each txn) ∙ sym entry in
    settles (rw some at legal.1)

-- nothing of the kind is open
pub no_puts : (entry : Option Entry) (txn first count : ℕ) (old new : Recovery) → entry ≡ entry_of txn old.opened.items → (IsSomeAnd entry (IsPutOf count) → ⊥) → AppliesTo false old (CommitPut txn first count) new
no_puts entry txn first count old new is none base past a legal = none (rw (sym (a.each txn) ∙ sym is) at legal.1)

-- the commit of a take is not legal where no take of that count is open
pub no_takes : (entry : Option Entry) (txn count : ℕ) (old new : Recovery) → entry ≡ entry_of txn old.opened.items → (IsSomeAnd entry (IsTakeOf count) → ⊥) → AppliesTo false old (CommitTake txn count) new
no_takes entry txn count old new is none base past a legal = none (rw (sym (a.each txn) ∙ sym is) at legal.1)

-- of a call that may want memory
pub where_ok : (r : Result Bool NoMemory) (P Q : Bool → Type 0) → ((ok : Bool) → P ok → Q ok) → IfOk r P → IfOk r Q
where_ok (Ok ok) P Q maps is = maps ok is
where_ok (Err e) P Q maps is = tt
