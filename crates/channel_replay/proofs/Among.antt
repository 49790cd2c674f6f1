-- The numbers of a log's open transactions.
use Rattle.std.proofs.Common.{◌⊎◌, inl, inr, ◌≡◌, ◌≤◌, ◌+◌, ◌++◌, ◌∷◌, [], ℕ, List, length, length-append, Option, Some, None, Bool, true, false, ◌==◌, ◌||◌, cond, refl, sym, ◌∙◌, ap, arith}
use Rattle.std.proofs.lemmas.Bool.Decides.{eqb_tells}
use Rattle.event_core.specs.Journal.{is_among}
use Rattle.event_core.specs.declared.journal.Entry.{Entry}
use Rattle.event_core.specs.declared.journal.Entry.TheVariants.{Puts, Takes}
use Rattle.record_form.specs.declared.record.Rec.{Rec}
use Rattle.record_form.specs.declared.record.Rec.TheVariants.{Put, Take, Rollback, CommitPut, CommitTake, End}
use Rattle.channel_face.specs.Machine.{is_some_of}
use Rattle.channel_face.specs.Sound.{one_if, times}
use Rattle.channel_face.proofs.Numbers.{among_times, same_number, other_number}
use Rattle.channel_replay.specs.Marks.{Past, Dropped, Applied, added, removed, opened, open_by, open_txns, txn_of, opened_by, events_of, numbers_of}
use Rattle.channel_replay.proofs.Numbers.{or_among}
use Rattle.channel_replay.proofs.Keys.{Tells, open_once}
use Rattle.channel_replay.specs.Start.{AreApart}

-- yes is not no
pub differ : true ≡ false → ⊥
differ is = absurd (cc)

or_right : (b : Bool) → (b || false) ≡ b
or_right true = refl
or_right false = refl

by_both : (b c : Bool) → cond b true c ≡ (c || (b || false))
by_both true true = refl
by_both true false = refl
by_both false true = refl
by_both false false = refl

-- whether a number is among those with one more
pub among_added : (t n : ℕ) (txns : List ℕ) → is_among (added t txns) n ≡ cond (t == n) true (is_among txns n)
among_added t n txns = from (among_times t txns) (eqb_tells t n)
  where
    from : ((is_among txns t ≡ true) × (1 ≤ times t txns)) ⊎ ((is_among txns t ≡ false) × (times t txns ≡ 0)) → Tells t n → is_among (added t txns) n ≡ cond (t == n) true (is_among txns n)
    from (inl there) (inl same) = rw (there.0, same.0) (sym (ap (λ (m : ℕ). is_among txns m) same.1) ∙ there.0)
    from (inl there) (inr other) = rw (there.0, other.0) refl
    from (inr none) tells = rw none.0 (or_among txns (t ∷ []) n ∙ sym (by_both (t == n) (is_among txns n)))

-- whether a number is among those without one
pub among_removed : (t n : ℕ) (txns : List ℕ) → is_among (removed t txns) n ≡ cond (t == n) false (is_among txns n)
among_removed t n [] = none (t == n)
  where
    none : (b : Bool) → false ≡ cond b false false
    none true = refl
    none false = refl
among_removed t n (x ∷ txns) = from (eqb_tells x t) (eqb_tells t n) (among_removed t n txns)
  where
    from : Tells x t → Tells t n → is_among (removed t txns) n ≡ cond (t == n) false (is_among txns n) → is_among (removed t (x ∷ txns)) n ≡ cond (t == n) false ((x == n) || is_among txns n)
    from (inl here) (inl same) rest = rw (here.0, same.0) (rest ∙ rw same.0 refl)
    from (inl here) (inr other) rest =
        let not_x : (x == n) ≡ false = ap (λ (m : ℕ). m == n) here.1 ∙ other.0 in
        rw (here.0, other.0, not_x) (rest ∙ rw other.0 refl)
    from (inr there) (inl same) rest =
        let not_x : (x == n) ≡ false = sym (ap (λ (m : ℕ). x == m) same.1) ∙ there.0 in
        rw (there.0, same.0, not_x) (rest ∙ rw same.0 refl)
    from (inr there) (inr other) rest = rw (there.0, other.0) (ap (λ (b : Bool). (x == n) || b) (rest ∙ rw other.0 refl))

-- a transaction is open where it has done something
pub among_open : (past : Past) (n : ℕ) → is_among (open_txns past) n ≡ is_some_of (opened n past)
among_open [] n = refl
among_open (Dropped ∷ past) n = refl
among_open (Applied rec ∷ past) n = by_rec rec (among_open past n)
  where
    some_if : (b : Bool) (e : Entry) (rest : Option Entry) → cond b true (is_some_of rest) ≡ is_some_of (cond b (Some e) rest)
    some_if true e rest = refl
    some_if false e rest = refl

    none_if : (b : Bool) (rest : Option Entry) → cond b false (is_some_of rest) ≡ is_some_of (cond b None rest)
    none_if true rest = refl
    none_if false rest = refl

    same_if : (b : Bool) (rest : Option Entry) → is_some_of rest ≡ is_some_of (cond b rest rest)
    same_if true rest = refl
    same_if false rest = refl

    more : (t : ℕ) (e : Entry) → is_among (open_txns past) n ≡ is_some_of (opened n past) → is_among (added t (open_txns past)) n ≡ is_some_of (cond (t == n) (Some e) (opened n past))
    more t e here = among_added t n (open_txns past) ∙ (ap (λ (b : Bool). cond (t == n) true b) here ∙ some_if (t == n) e (opened n past))

    fewer : (t : ℕ) → is_among (open_txns past) n ≡ is_some_of (opened n past) → is_among (removed t (open_txns past)) n ≡ is_some_of (cond (t == n) None (opened n past))
    fewer t here = among_removed t n (open_txns past) ∙ (ap (λ (b : Bool). cond (t == n) false b) here ∙ none_if (t == n) (opened n past))

    by_rec : (rec : Rec) → is_among (open_txns past) n ≡ is_some_of (opened n past) → is_among (open_by rec (open_txns past)) n ≡ is_some_of (cond (txn_of rec == n) (opened_by rec (opened n past)) (opened n past))
    by_rec (Put txn event) here = more txn (Puts (events_of (opened n past) ++ event ∷ [])) here
    by_rec (Take txn number) here = more txn (Takes (numbers_of (opened n past) ++ number ∷ [])) here
    by_rec (Rollback txn) here = fewer txn here
    by_rec (CommitPut txn first count) here = fewer txn here
    by_rec (CommitTake txn count) here = fewer txn here
    by_rec (End count) here = here ∙ same_if (0 == n) (opened n past)

-- a number that was not among them makes the list longer by one
pub added_length : (t : ℕ) (txns : List ℕ) → is_among txns t ≡ false → length (added t txns) ≡ length txns + 1
added_length t txns none = rw none (length-append txns (t ∷ []))

-- a number that is among them already leaves the list as long as it was
pub added_same : (t : ℕ) (txns : List ℕ) → is_among txns t ≡ true → length (added t txns) ≡ length txns
added_same t txns there = rw there refl

-- the list gets shorter by as many as the number stood in it
pub removed_length : (t : ℕ) (txns : List ℕ) → length (removed t txns) + times t txns ≡ length txns
removed_length t [] = refl
removed_length t (x ∷ txns) = by_test (x == t) (removed_length t txns)
  where
    by_test : (b : Bool) → length (removed t txns) + times t txns ≡ length txns → length (cond b (removed t txns) (x ∷ removed t txns)) + (one_if b + times t txns) ≡ length (x ∷ txns)
    by_test true rest = omega (arith, rest)
    by_test false rest = omega (arith, rest)

-- one that is open is once among the open ones
pub one_removed : (past : Past) (t : ℕ) → is_some_of (opened t past) ≡ true → length (removed t (open_txns past)) + 1 ≡ length (open_txns past)
one_removed past t some = from (among_times t (open_txns past))
  where
    from : ((is_among (open_txns past) t ≡ true) × (1 ≤ times t (open_txns past))) ⊎ ((is_among (open_txns past) t ≡ false) × (times t (open_txns past) ≡ 0)) → length (removed t (open_txns past)) + 1 ≡ length (open_txns past)
    from (inl there) = omega (arith, there.1, open_once past t, removed_length t (open_txns past))
    from (inr none) = absurd (differ (sym some ∙ (sym (among_open past t) ∙ none.0)))

-- where no number stands twice, each stands at most once
pub apart_once : (txns : List ℕ) (n : ℕ) → AreApart txns → times n txns ≤ 1
apart_once [] n apart = omega arith
apart_once (x ∷ txns) n apart = from (eqb_tells x n) (among_times x txns) (apart_once txns n apart.1)
  where
    from : Tells x n → ((is_among txns x ≡ true) × (1 ≤ times x txns)) ⊎ ((is_among txns x ≡ false) × (times x txns ≡ 0)) → times n txns ≤ 1 → times n (x ∷ txns) ≤ 1
    from (inl same) (inl there) rest = absurd (differ (sym there.0 ∙ apart.0))
    from (inl same) (inr none) rest =
        let gone : times n txns ≡ 0 = ap (λ (m : ℕ). times m txns) (sym same.1) ∙ none.1 in
        omega (arith, gone, same_number x n same.1)
    from (inr other) tells rest = omega (arith, rest, other_number x n other.1)
