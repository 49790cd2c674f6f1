-- The numbers of open transactions, each once, and their entries.
use Rattle.std.proofs.Common.{◌⊎◌, inl, inr, ◌≡◌, ◌≢◌, ◌≤◌, ◌+◌, ◌++◌, ◌∷◌, [], ℕ, suc, List, length, Option, Some, None, Bool, true, false, ◌==◌, ◌||◌, cond, refl, sym, ◌∙◌, ap, arith}
use Rattle.std.proofs.lemmas.Bool.Decides.{eqb_tells}
use Rattle.std.proofs.lemmas.List.{append-nil}
use Rattle.event_core.specs.Journal.{is_among, taken_numbers}
use Rattle.event_core.specs.declared.journal.Entry.{Entry}
use Rattle.event_core.specs.declared.journal.Entry.TheVariants.{Puts, Takes}
use Rattle.record_form.specs.declared.record.Rec.{Rec}
use Rattle.record_form.specs.declared.record.Rec.TheVariants.{Put, Take, Rollback, CommitPut, CommitTake, End}
use Rattle.channel_face.specs.Machine.{entries, entry_of, without_entry}
use Rattle.channel_face.specs.Sound.{one_if, times}
use Rattle.channel_face.proofs.Numbers.{among_times, same_number, other_number, times-append}
use Rattle.channel_replay.proofs.Numbers.{among_entry, among_here}
use Rattle.channel_replay.proofs.OpenLists.{itself}
use Rattle.channel_replay.specs.Marks.{Past, Dropped, Applied, added, removed, numbers_of, open_by, open_txns}
use Rattle.channel_replay.specs.Open.{keys, put_entry}

abbrev pub Tells : ℕ → ℕ → Type 0
Tells a b = ((a == b) ≡ true) × (a ≡ b) ⊎ ((a == b) ≡ false) × (a ≢ b)

abbrev pub EachOnce : List ℕ → Type 0
EachOnce txns = (n : ℕ) → times n txns ≤ 1

both_ways : {A : Type 0} (b c : Bool) (x y z : A) → (b ≡ true → c ≡ true → ⊥) → cond b x (cond c y z) ≡ cond c y (cond b x z)
both_ways true true x y z apart = absurd (apart refl refl)
both_ways true false x y z apart = refl
both_ways false true x y z apart = refl
both_ways false false x y z apart = refl

same_twice : {A : Type 0} (b : Bool) (x y z : A) → cond b x z ≡ cond b x (cond b y z)
same_twice true x y z = refl
same_twice false x y z = refl

apart_by : (o t t' : ℕ) → o ≢ t → (o == t') ≡ true → (t == t') ≡ true → ⊥
apart_by o t t' other here there = from (eqb_tells o t') (eqb_tells t t')
  where
    from : Tells o t' → Tells t t' → ⊥
    from (inl a) (inl b) = other (a.1 ∙ sym b.1)
    from (inl a) (inr b) = absurd (cc)
    from (inr a) b = absurd (cc)

-- what each transaction has open after an entry was put in its place
pub entry_of-put : (opened : List (ℕ × Entry)) (t t' : ℕ) (e : Entry) → entry_of t' (put_entry t e opened) ≡ cond (t == t') (Some e) (entry_of t' opened)
entry_of-put [] t t' e = refl
entry_of-put (o ∷ opened) t t' e = from (eqb_tells o.0 t) (entry_of-put opened t t' e)
  where
    from : Tells o.0 t → entry_of t' (put_entry t e opened) ≡ cond (t == t') (Some e) (entry_of t' opened)
        → entry_of t' (put_entry t e (o ∷ opened)) ≡ cond (t == t') (Some e) (entry_of t' (o ∷ opened))
    from (inl here) rest =
        let same : (o.0 == t') ≡ (t == t') = ap (λ (n : ℕ). n == t') here.1 in
        rw (here.0, same) (same_twice (t == t') (Some e) (Some o.1) (entry_of t' opened))
    from (inr there) rest = rw (there.0, rest) (both_ways (o.0 == t') (t == t') (Some o.1) (Some e) (entry_of t' opened) (apart_by o.0 t t' there.1))

none_of : (t : ℕ) (opened : List (ℕ × Entry)) → times t (keys opened) ≡ 0 → entry_of t opened ≡ None
none_of t [] none = refl
none_of t (o ∷ opened) none = from (eqb_tells o.0 t) (none_of t opened)
  where
    from : Tells o.0 t → (times t (keys opened) ≡ 0 → entry_of t opened ≡ None) → entry_of t (o ∷ opened) ≡ None
    from (inl here) rest = absurd (omega (arith, none, same_number o.0 t here.1))
    from (inr there) rest = rw there.0 (rest (omega (arith, none, other_number o.0 t there.1)))

rest_once : (o : ℕ) (txns : List ℕ) → EachOnce (o ∷ txns) → EachOnce txns
rest_once o txns once n = omega (arith, once n)

first_gone : (o t : ℕ) (txns : List ℕ) → EachOnce (o ∷ txns) → o ≡ t → times t txns ≡ 0
first_gone o t txns once same = omega (arith, once t, same_number o t same)

-- what each transaction has open when one was removed
pub entry_of-without : (opened : List (ℕ × Entry)) (t t' : ℕ) → EachOnce (keys opened) → entry_of t' (without_entry t opened) ≡ cond (t == t') None (entry_of t' opened)
entry_of-without [] t t' once = none (t == t') None refl
  where
    none : (b : Bool) (e : Option Entry) → e ≡ None → e ≡ cond b None e
    none true e is = is
    none false e is = refl
entry_of-without (o ∷ opened) t t' once = from (eqb_tells o.0 t) (eqb_tells t t') (entry_of-without opened t t' (rest_once o.0 (keys opened) once))
  where
    from : Tells o.0 t → Tells t t' → entry_of t' (without_entry t opened) ≡ cond (t == t') None (entry_of t' opened)
        → entry_of t' (without_entry t (o ∷ opened)) ≡ cond (t == t') None (entry_of t' (o ∷ opened))
    from (inl here) (inl same) rest = rw (here.0, same.0) (none_of t' opened (first_gone o.0 t' (keys opened) once (here.1 ∙ same.1)))
    from (inl here) (inr other) rest =
        let not_here : (o.0 == t') ≡ false = ap (λ (n : ℕ). n == t') here.1 ∙ other.0 in
        rw (here.0, other.0, not_here) refl
    from (inr there) tells rest = rw (there.0, rest) (both_ways (o.0 == t') (t == t') (Some o.1) None (entry_of t' opened) (apart_by o.0 t t' there.1))

-- the numbers of the transactions after an entry was put in its place
pub keys-put : (opened : List (ℕ × Entry)) (t : ℕ) (e : Entry) → keys (put_entry t e opened) ≡ added t (keys opened)
keys-put [] t e = refl
keys-put (o ∷ opened) t e = from (eqb_tells o.0 t) (keys-put opened t e)
  where
    by_test : (b : Bool) → keys (put_entry t e opened) ≡ cond b (keys opened) (keys opened ++ t ∷ []) → o.0 ∷ keys (put_entry t e opened) ≡ cond b (o.0 ∷ keys opened) (o.0 ∷ (keys opened ++ t ∷ []))
    by_test true is = ap (λ (l : List ℕ). o.0 ∷ l) is
    by_test false is = ap (λ (l : List ℕ). o.0 ∷ l) is

    from : Tells o.0 t → keys (put_entry t e opened) ≡ added t (keys opened) → keys (put_entry t e (o ∷ opened)) ≡ added t (keys (o ∷ opened))
    from (inl here) rest = rw here.0 refl
    from (inr there) rest = rw there.0 (by_test (is_among (keys opened) t) rest)

removed_none : (t : ℕ) (txns : List ℕ) → times t txns ≡ 0 → removed t txns ≡ txns
removed_none t [] none = refl
removed_none t (x ∷ txns) none = from (eqb_tells x t) (removed_none t txns)
  where
    from : Tells x t → (times t txns ≡ 0 → removed t txns ≡ txns) → removed t (x ∷ txns) ≡ x ∷ txns
    from (inl here) rest = absurd (omega (arith, none, same_number x t here.1))
    from (inr there) rest = rw there.0 (ap (λ (l : List ℕ). x ∷ l) (rest (omega (arith, none, other_number x t there.1))))

-- the numbers of the transactions when one was removed
pub keys-without : (opened : List (ℕ × Entry)) (t : ℕ) → EachOnce (keys opened) → keys (without_entry t opened) ≡ removed t (keys opened)
keys-without [] t once = refl
keys-without (o ∷ opened) t once = from (eqb_tells o.0 t) (keys-without opened t (rest_once o.0 (keys opened) once))
  where
    from : Tells o.0 t → keys (without_entry t opened) ≡ removed t (keys opened) → keys (without_entry t (o ∷ opened)) ≡ removed t (keys (o ∷ opened))
    from (inl here) rest = rw here.0 (sym (removed_none t (keys opened) (first_gone o.0 t (keys opened) once here.1)))
    from (inr there) rest = rw there.0 (ap (λ (l : List ℕ). o.0 ∷ l) rest)

-- there are as many numbers as open transactions
pub length-keys : (opened : List (ℕ × Entry)) → length (keys opened) ≡ length opened
length-keys [] = refl
length-keys (o ∷ opened) = ap suc (length-keys opened)

-- each open transaction has one number

added_once : (t : ℕ) (txns : List ℕ) → EachOnce txns → EachOnce (added t txns)
added_once t txns once n = from (among_times t txns) (eqb_tells t n)
  where
    from : ((is_among txns t ≡ true) × (1 ≤ times t txns)) ⊎ ((is_among txns t ≡ false) × (times t txns ≡ 0)) → Tells t n → times n (added t txns) ≤ 1
    from (inl there) tells = rw there.0 (once n)
    from (inr none) (inl same) =
        let gone : times n txns ≡ 0 = ap (λ (m : ℕ). times m txns) (sym same.1) ∙ none.1 in
        rw none.0 (omega (arith, times-append n txns (t ∷ []), gone, same_number t n same.1))
    from (inr none) (inr other) = rw none.0 (omega (arith, times-append n txns (t ∷ []), once n, other_number t n other.1))

removed_fewer : (n t : ℕ) (txns : List ℕ) → times n (removed t txns) ≤ times n txns
removed_fewer n t [] = omega arith
removed_fewer n t (x ∷ txns) = from (x == t) (removed_fewer n t txns)
  where
    from : (b : Bool) → times n (removed t txns) ≤ times n txns → times n (cond b (removed t txns) (x ∷ removed t txns)) ≤ one_if (x == n) + times n txns
    from true rest = omega (arith, rest)
    from false rest = omega (arith, rest)

removed_once : (t : ℕ) (txns : List ℕ) → EachOnce txns → EachOnce (removed t txns)
removed_once t txns once n = omega (arith, once n, removed_fewer n t txns)

by_rec : (rec : Rec) (txns : List ℕ) → EachOnce txns → EachOnce (open_by rec txns)
by_rec (Put txn event) txns once = added_once txn txns once
by_rec (Take txn number) txns once = added_once txn txns once
by_rec (Rollback txn) txns once = removed_once txn txns once
by_rec (CommitPut txn first count) txns once = removed_once txn txns once
by_rec (CommitTake txn count) txns once = removed_once txn txns once
by_rec (End count) txns once = once

-- no transaction is open twice
pub open_once : (past : Past) → EachOnce (open_txns past)
open_once [] n = omega arith
open_once (Dropped ∷ past) n = omega arith
open_once (Applied rec ∷ past) n = by_rec rec (open_txns past) (open_once past) n

-- numbers that open takes have

among_one : (e : Entry) (n : ℕ) → is_among (taken_numbers (e ∷ [])) n ≡ is_among (numbers_of (Some e)) n
among_one (Puts events) n = refl
among_one (Takes numbers) n = ap (λ (l : List ℕ). is_among l n) (append-nil numbers)

or_true : (a b : Bool) → b ≡ true → (a || b) ≡ true
or_true true b is = refl
or_true false b is = is

-- a number that some transaction took is among those that open takes hold
pub held_among : (opened : List (ℕ × Entry)) (n t : ℕ) → is_among (numbers_of (entry_of t opened)) n ≡ true → is_among (taken_numbers (entries opened)) n ≡ true
held_among [] n t is = is
held_among (o ∷ opened) n t is = from (o.0 == t) is (held_among opened n t)
  where
    from : (b : Bool) → is_among (numbers_of (cond b (Some o.1) (entry_of t opened))) n ≡ true → (is_among (numbers_of (entry_of t opened)) n ≡ true → is_among (taken_numbers (entries opened)) n ≡ true) → is_among (taken_numbers (entries (o ∷ opened))) n ≡ true
    from true is rest = among_here o.1 (entries opened) n (among_one o.1 n ∙ is)
    from false is rest = among_entry o.1 (entries opened) n ∙ or_true (is_among (taken_numbers (o.1 ∷ [])) n) (is_among (taken_numbers (entries opened)) n) (rest is)

-- a number that open takes hold was taken by some transaction
pub among_held : (opened : List (ℕ × Entry)) (n : ℕ) → EachOnce (keys opened) → is_among (taken_numbers (entries opened)) n ≡ true → (t : ℕ) × (is_among (numbers_of (entry_of t opened)) n ≡ true)
among_held [] n once is = (0, is)
among_held (o ∷ opened) n once is = from (is_among (taken_numbers (o.1 ∷ [])) n) refl (sym (among_entry o.1 (entries opened) n) ∙ is) (among_held opened n (rest_once o.0 (keys opened) once))
  where
    later : (t : ℕ) → is_among (numbers_of (entry_of t opened)) n ≡ true → Tells o.0 t → is_among (numbers_of (entry_of t (o ∷ opened))) n ≡ true
    later t held (inl here) =
        let none : entry_of t opened ≡ None = none_of t opened (first_gone o.0 t (keys opened) once here.1) in
        absurd (let e : false ≡ true = sym (ap (λ (x : Option Entry). is_among (numbers_of x) n) none) ∙ held in cc)
    later t held (inr there) = rw there.0 held

    from : (b : Bool) → is_among (taken_numbers (o.1 ∷ [])) n ≡ b → (b || is_among (taken_numbers (entries opened)) n) ≡ true
        → (is_among (taken_numbers (entries opened)) n ≡ true → (t : ℕ) × (is_among (numbers_of (entry_of t opened)) n ≡ true)) → (t : ℕ) × (is_among (numbers_of (entry_of t (o ∷ opened))) n ≡ true)
    from true first is rest = (o.0, rw (itself o.0) (sym (among_one o.1 n) ∙ first))
    from false first is rest = let held = rest is in (held.0, later held.0 held.1 (eqb_tells o.0 held.0))
