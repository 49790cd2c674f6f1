-- What is open takes events that are left, each once, after each legal record.
use Rattle.std.proofs.Common.{◌⊎◌, inl, inr, ◌≡◌, ◌≤◌, ◌++◌, ◌∷◌, [], ℕ, List, Option, Some, None, Bool, true, false, ◌==◌, ◌||◌, cond, refl, sym, ◌∙◌, ap, subst}
use Rattle.std.specs.Prelude.{map}
use Rattle.std.proofs.lemmas.Bool.Decides.{eqb_tells}
use Rattle.std.proofs.lemmas.List.{append-nil}
use Rattle.event_core.specs.Content.{Content}
use Rattle.event_core.specs.Journal.{is_among, left, next, taken_numbers}
use Rattle.event_core.specs.declared.journal.Entry.{Entry}
use Rattle.event_core.specs.declared.journal.Entry.TheVariants.{Puts, Takes}
use Rattle.record_form.specs.declared.record.Rec.{Rec}
use Rattle.record_form.specs.declared.record.Rec.TheVariants.{Put, Take, Rollback}
use Rattle.channel_face.proofs.Numbers.{rising_base}
use Rattle.ring_replay.specs.Indexing.{AreTaken}
use Rattle.channel_replay.specs.Marks.{Applied, IsLeft, Past, committed, events_of, journal, numbers_of, opened}
use Rattle.channel_replay.specs.Rules.{IsLegal}
use Rattle.channel_replay.specs.Start.{AreApart, Start}
use Rattle.channel_replay.proofs.Keys.{Tells}
use Rattle.channel_replay.proofs.Numbers.{or_among}
use Rattle.channel_replay.proofs.Ordered.{IsOrdered, ordered_rec}

-- numbers are in order where what is open takes events that are left
pub ordered_of : (s : Start) (past : Past) → AreTaken s past → IsOrdered s.base past
ordered_of s past are = record { rising = rising_base s.base are.base; held = are.held_below; taken = are.taken_below }

-- what was left is left, where nothing is committed
pub left_still : (s : Start) (past : Past) (rec : Rec) (n : ℕ) → committed rec past ≡ [] → IsLeft s.base past n → IsLeft s.base (Applied rec ∷ past) n
left_still s past rec n none is = subst (λ (j : List Entry). is_among (map (λ (item : ℕ × Content). item.0) (left s.base j)) n ≡ true) (sym (ap (λ (l : List Entry). journal past ++ l) none ∙ append-nil (journal past))) is

-- no transaction takes anything more
pub fewer : (s : Start) (past : Past) (rec : Rec) → AreTaken s past → IsLegal s.base past rec
    → ((t n : ℕ) → is_among (numbers_of (opened t (Applied rec ∷ past))) n ≡ true → is_among (numbers_of (opened t past)) n ≡ true)
    → ((t : ℕ) → AreApart (numbers_of (opened t (Applied rec ∷ past))))
    → ((t n : ℕ) → is_among (numbers_of (opened t (Applied rec ∷ past))) n ≡ true → IsLeft s.base past n → IsLeft s.base (Applied rec ∷ past) n)
    → AreTaken s (Applied rec ∷ past)
fewer s past rec are legal less apart stays =
    let ordered : IsOrdered s.base (Applied rec ∷ past) = ordered_rec s.base past rec legal (ordered_of s past are) in
    record {
      base = are.base;
      held_below = ordered.held;
      taken_below = ordered.taken;
      there = λ t n is. stays t n is (are.there t n (less t n is));
      once = λ t other n one two. are.once t other n (less t n one) (less other n two);
      apart = apart;
    }

-- the numbers of an entry that may be another one
pub number_kept : (b : Bool) (entry old : Option Entry) (n : ℕ) → numbers_of entry ≡ [] → is_among (numbers_of (cond b entry old)) n ≡ true → is_among (numbers_of old) n ≡ true
number_kept true entry old n none is = absurd (let e : false ≡ true = ap (λ (l : List ℕ). is_among l n) (sym none) ∙ is in cc)
number_kept false entry old n none is = is

-- the numbers of one entry stay apart where it may be replaced by one without takes
pub apart_kept : (b : Bool) (entry old : Option Entry) → numbers_of entry ≡ [] → AreApart (numbers_of old) → AreApart (numbers_of (cond b entry old))
apart_kept true entry old none are = subst AreApart (sym none) tt
apart_kept false entry old none are = are

-- after a legal put what is open still takes events that are left, each once
pub put_taken : (s : Start) (past : Past) (txn : ℕ) (event : Content) → AreTaken s past → IsLegal s.base past (Put txn event) → AreTaken s (Applied (Put txn event) ∷ past)
put_taken s past txn event are legal =
    fewer s past (Put txn event) are legal
    (λ t n is. number_kept (txn == t) (Some (Puts (events_of (opened t past) ++ event ∷ []))) (opened t past) n refl is)
    (λ t. apart_kept (txn == t) (Some (Puts (events_of (opened t past) ++ event ∷ []))) (opened t past) refl (are.apart t))
    (λ t n is was. left_still s past (Put txn event) n refl was)

-- whether it is legal or not
pub rollback_taken : (s : Start) (past : Past) (txn : ℕ) → AreTaken s past → AreTaken s (Applied (Rollback txn) ∷ past)
rollback_taken s past txn are = record {
  base = are.base;
  held_below = λ t n more. none_more (txn == t) (opened t past) n (are.held_below t n (subst (λ (j : List Entry). next s.base j ≤ n) (append-nil (journal past)) more));
  taken_below = λ n more. subst (λ (j : List Entry). is_among (taken_numbers j) n ≡ false) (sym (append-nil (journal past))) (are.taken_below n (subst (λ (j : List Entry). next s.base j ≤ n) (append-nil (journal past)) more));
  there = λ t n is. left_still s past (Rollback txn) n refl (are.there t n (number_kept (txn == t) None (opened t past) n refl is));
  once = λ t other n one two. are.once t other n (number_kept (txn == t) None (opened t past) n refl one) (number_kept (txn == other) None (opened other past) n refl two);
  apart = λ t. apart_kept (txn == t) None (opened t past) refl (are.apart t);
}
  where
    none_more : (b : Bool) (old : Option Entry) (n : ℕ) → is_among (numbers_of old) n ≡ false → is_among (numbers_of (cond b None old)) n ≡ false
    none_more true old n none = refl
    none_more false old n none = none

-- a number more at the end
apart_push : (numbers : List ℕ) (n : ℕ) → AreApart numbers → is_among numbers n ≡ false → AreApart (numbers ++ n ∷ [])
apart_push [] n apart isnt = (refl, tt)
apart_push (x ∷ numbers) n apart isnt = from (eqb_tells x n) (eqb_tells n x) isnt (apart_push numbers n apart.1)
  where
    from : Tells x n → Tells n x → ((x == n) || is_among numbers n) ≡ false → (is_among numbers n ≡ false → AreApart (numbers ++ n ∷ [])) → (is_among (numbers ++ n ∷ []) x ≡ false) × AreApart (numbers ++ n ∷ [])
    from (inl same) back is rest = absurd (let e : true ≡ false = rw same.0 at is in cc)
    from (inr other) (inl back) is rest = absurd (other.1 (sym back.1))
    from (inr other) (inr back) is rest = (or_among numbers (n ∷ []) x ∙ rw (apart.0, back.0) refl, rest (rw other.0 at is))

-- who takes a number after a take
pub took : (past : Past) (txn number t n : ℕ) → is_among (numbers_of (opened t (Applied (Take txn number) ∷ past))) n ≡ true → (is_among (numbers_of (opened t past)) n ≡ true) ⊎ ((txn ≡ t) × (number ≡ n))
took past txn number t n is = from (eqb_tells txn t) is
  where
    split : (b : Bool) → Tells number n → (b || ((number == n) || false)) ≡ true → (b ≡ true) ⊎ (number ≡ n)
    split true tells is' = inl refl
    split false (inl same) is' = inr same.1
    split false (inr other) is' = absurd (let e : false ≡ true = rw other.0 at is' in cc)

    with_same : (b : (is_among (numbers_of (opened t past)) n ≡ true) ⊎ (number ≡ n)) → txn ≡ t → (is_among (numbers_of (opened t past)) n ≡ true) ⊎ ((txn ≡ t) × (number ≡ n))
    with_same (inl there) same = inl there
    with_same (inr is') same = inr (same, is')

    from : Tells txn t → is_among (numbers_of (cond (txn == t) (Some (Takes (numbers_of (opened t past) ++ number ∷ []))) (opened t past))) n ≡ true → (is_among (numbers_of (opened t past)) n ≡ true) ⊎ ((txn ≡ t) × (number ≡ n))
    from (inl same) is' = with_same (split (is_among (numbers_of (opened t past)) n) (eqb_tells number n) (sym (or_among (numbers_of (opened t past)) (number ∷ []) n) ∙ rw same.0 at is')) same.1
    from (inr other) is' = inl (rw other.0 at is')

-- and so it does after a legal take
pub take_taken : (s : Start) (past : Past) (txn number : ℕ) → AreTaken s past → IsLegal s.base past (Take txn number) → AreTaken s (Applied (Take txn number) ∷ past)
take_taken s past txn number are legal =
    let rec : Rec = Take txn number in
    let ordered : IsOrdered s.base (Applied rec ∷ past) = ordered_rec s.base past rec legal (ordered_of s past are) in
    record {
      base = are.base;
      held_below = ordered.held;
      taken_below = ordered.taken;
      there = λ t n is. left_still s past rec n refl (where_left t n (took past txn number t n is));
      once = λ t other n one two. both t other n (took past txn number t n one) (took past txn number other n two);
      apart = λ t. at_one t (eqb_tells txn t);
    }
  where
    where_left : (t n : ℕ) → (is_among (numbers_of (opened t past)) n ≡ true) ⊎ ((txn ≡ t) × (number ≡ n)) → IsLeft s.base past n
    where_left t n (inl there) = are.there t n there
    where_left t n (inr new) = subst (IsLeft s.base past) new.1 legal.2

    both : (t other n : ℕ) → (is_among (numbers_of (opened t past)) n ≡ true) ⊎ ((txn ≡ t) × (number ≡ n)) → (is_among (numbers_of (opened other past)) n ≡ true) ⊎ ((txn ≡ other) × (number ≡ n)) → t ≡ other
    both t other n (inl one) (inl two) = are.once t other n one two
    both t other n (inr one) (inr two) = sym one.0 ∙ two.0
    both t other n (inl one) (inr two) = absurd (legal.3 (t, subst (λ (m : ℕ). is_among (numbers_of (opened t past)) m ≡ true) (sym two.1) one))
    both t other n (inr one) (inl two) = absurd (legal.3 (other, subst (λ (m : ℕ). is_among (numbers_of (opened other past)) m ≡ true) (sym one.1) two))

    not_here : (t : ℕ) → (b : Bool) → is_among (numbers_of (opened t past)) number ≡ b → is_among (numbers_of (opened t past)) number ≡ false
    not_here t true is = absurd (legal.3 (t, is))
    not_here t false is = is

    at_one : (t : ℕ) → Tells txn t → AreApart (numbers_of (cond (txn == t) (Some (Takes (numbers_of (opened t past) ++ number ∷ []))) (opened t past)))
    at_one t (inl same) = rw same.0 (apart_push (numbers_of (opened t past)) number (are.apart t) (not_here t (is_among (numbers_of (opened t past)) number) refl))
    at_one t (inr other) = rw other.0 (are.apart t)
