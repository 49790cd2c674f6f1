-- What is open in a checkpoint.
use Rattle.std.proofs.Common.{◌⊎◌, inl, inr, ◌≡◌, ◌<◌, ◌≤◌, ◌+◌, ◌++◌, ◌∷◌, [], ℕ, List, length, map, Option, Some, None, Bool, true, false, ◌==◌, ◌||◌, cond, refl, sym, ◌∙◌, ap, arith}
use Rattle.std.proofs.lemmas.Bool.Decides.{eqb_tells, nat_tests}
use Rattle.std.specs.List.{AllByRecursion}
use Rattle.event_core.specs.Content.{Content}
use Rattle.event_core.specs.Journal.{IsNotEmpty, is_among}
use Rattle.event_core.specs.declared.journal.Entry.{Entry}
use Rattle.event_core.specs.declared.journal.Entry.TheVariants.{Puts, Takes}
use Rattle.record_form.specs.declared.record.Pointer.{Pointer}
use Rattle.channel_face.specs.Machine.{entry_of}
use Rattle.channel_replay.specs.Marks.{numbers_of}
use Rattle.channel_replay.specs.Open.{keys}
use Rattle.channel_replay.specs.Start.{AreApart}
use Rattle.channel_replay.proofs.Among.{differ}
use Rattle.channel_replay.proofs.Keys.{Tells}
use Rattle.channel_replay.proofs.Numbers.{or_among}
use Rattle.checkpoint.specs.Right.{AreApartFrom, AreOnceAmong, HasSome, all_of, number_of}
use Rattle.checkpoint.specs.Says.{listed_at}
use Rattle.checkpoint.specs.Text.{Rise}
use Rattle.ring_replay.specs.Indexing.{ArePlaced, Places}
use Rattle.checkpoint_replay.specs.Checked.{OpenPlaced}

-- numbers that rise

-- a number below those that rise is none of them
pub not_below : {A : Type 0} (low high k : ℕ) (xs : List (ℕ × A)) → Rise low high xs → k < low → is_among (map number_of xs) k ≡ false
not_below low high k [] rise under = refl
not_below low high k (x ∷ xs) rise under = from (eqb_tells x.0 k) (not_below (x.0 + 1) high k xs rise.2 (omega (arith, rise.0, under)))
  where
    from : Tells x.0 k → is_among (map number_of xs) k ≡ false → ((x.0 == k) || is_among (map number_of xs) k) ≡ false
    from (inl same) rest = absurd (omega (arith, same.1, rise.0, under))
    from (inr other) rest = rw other.0 rest

-- a number above those that rise is none of them
pub not_above : {A : Type 0} (low high k : ℕ) (xs : List (ℕ × A)) → Rise low high xs → high ≤ k → is_among (map number_of xs) k ≡ false
not_above low high k [] rise over = refl
not_above low high k (x ∷ xs) rise over = from (eqb_tells x.0 k) (not_above (x.0 + 1) high k xs rise.2 over)
  where
    from : Tells x.0 k → is_among (map number_of xs) k ≡ false → ((x.0 == k) || is_among (map number_of xs) k) ≡ false
    from (inl same) rest = absurd (omega (arith, same.1, rise.1, over))
    from (inr other) rest = rw other.0 rest

-- among others

-- of two tests of which one holds, the first or the second does
pub either_or : (b c : Bool) → (b || c) ≡ true → (b ≡ true) ⊎ (c ≡ true)
either_or true c is = inl refl
either_or false c is = inr is

neither : (b c : Bool) → (b || c) ≡ false → (b ≡ false) × (c ≡ false)
neither true c is = absurd (cc)
neither false c is = (refl, is)

first_so : (b c : Bool) → b ≡ true → (b || c) ≡ true
first_so true c is = refl
first_so false c is = absurd (cc)

second_so : (b c : Bool) → c ≡ true → (b || c) ≡ true
second_so true c is = refl
second_so false c is = is

both_not : (b c : Bool) → b ≡ false → c ≡ false → (b || c) ≡ false
both_not true c is other = absurd (cc)
both_not false c is other = other

-- what is among the first numbers is among both
pub in_front : (a b : List ℕ) (n : ℕ) → is_among a n ≡ true → is_among (a ++ b) n ≡ true
in_front a b n is = or_among a b n ∙ first_so (is_among a n) (is_among b n) is

-- what is among the second numbers is among both
pub in_back : (a b : List ℕ) (n : ℕ) → is_among b n ≡ true → is_among (a ++ b) n ≡ true
in_back a b n is = or_among a b n ∙ second_so (is_among a n) (is_among b n) is

apart_there : (others numbers : List ℕ) (n : ℕ) → AreApartFrom others numbers → is_among numbers n ≡ true → is_among others n ≡ false
apart_there others [] n apart is = absurd (cc)
apart_there others (x ∷ numbers) n apart is = from (eqb_tells x n) (either_or (x == n) (is_among numbers n) is) (apart_there others numbers n apart.1)
  where
    from : Tells x n → ((x == n) ≡ true) ⊎ (is_among numbers n ≡ true) → (is_among numbers n ≡ true → is_among others n ≡ false) → is_among others n ≡ false
    from (inl same) which rest = ap (is_among others) (sym same.1) ∙ apart.0
    from (inr other) (inl here) rest = absurd (differ (sym here ∙ other.0))
    from (inr other) (inr there) rest = rest there

-- a number that stands among the one list doesn't stand among the other
not_there : (others numbers : List ℕ) (n : ℕ) → AreApartFrom others numbers → is_among others n ≡ true → is_among numbers n ≡ false
not_there others numbers n apart is = from (is_among numbers n) refl
  where
    from : (b : Bool) → is_among numbers n ≡ b → b ≡ false
    from true there = absurd (differ (sym is ∙ apart_there others numbers n apart there))
    from false there = refl

apart_rest : (x : ℕ) (others numbers : List ℕ) → AreApartFrom (x ∷ others) numbers → AreApartFrom others numbers
apart_rest x others [] apart = tt
apart_rest x others (n ∷ numbers) apart = ((neither (x == n) (is_among others n) apart.0).1, apart_rest x others numbers apart.1)

-- the keys of what is open

-- the transactions that are open are those that the checkpoint lists, in its order
pub open_keys : (places : Places) (puts : List (ℕ × List Pointer)) (takes : List (ℕ × List ℕ)) (opened : List (ℕ × Entry)) → OpenPlaced places puts takes opened → keys opened ≡ map number_of puts ++ map number_of takes
open_keys places (o ∷ puts) takes [] are = absurd are
open_keys places (o ∷ puts) takes ((txn, Puts events) ∷ opened) are = ap (λ (n : ℕ). n ∷ keys opened) are.0 ∙ ap (λ (l : List ℕ). o.0 ∷ l) (open_keys places puts takes opened are.2)
open_keys places (o ∷ puts) takes ((txn, Takes numbers) ∷ opened) are = absurd are
open_keys places [] (o ∷ takes) [] are = absurd are
open_keys places [] (o ∷ takes) ((txn, Puts events) ∷ opened) are = absurd are
open_keys places [] (o ∷ takes) ((txn, Takes numbers) ∷ opened) are = ap (λ (n : ℕ). n ∷ keys opened) are.0 ∙ ap (λ (l : List ℕ). o.0 ∷ l) (open_keys places [] takes opened are.2)
open_keys places [] [] [] are = refl
open_keys places [] [] ((txn, Puts events) ∷ opened) are = absurd are
open_keys places [] [] ((txn, Takes numbers) ∷ opened) are = absurd are

-- numbers that rise are apart
pub rise_apart : {A : Type 0} (low high : ℕ) (xs : List (ℕ × A)) → Rise low high xs → AreApart (map number_of xs)
rise_apart low high [] rise = tt
rise_apart low high (x ∷ xs) rise = (not_below (x.0 + 1) high x.0 xs rise.2 (omega arith), rise_apart (x.0 + 1) high xs rise.2)

-- numbers of puts and of takes are apart, if neither has one of the other's
pub keys_apart : (low high : ℕ) (puts : List (ℕ × List Pointer)) (takes : List (ℕ × List ℕ)) → Rise low high puts → Rise low high takes → AreApartFrom (map number_of puts) (map number_of takes) → AreApart (map number_of puts ++ map number_of takes)
keys_apart low high puts takes puts_rise takes_rise apart = from low puts puts_rise apart
  where
    from : (low' : ℕ) (puts : List (ℕ × List Pointer)) → Rise low' high puts → AreApartFrom (map number_of puts) (map number_of takes) → AreApart (map number_of puts ++ map number_of takes)
    from low' [] rise apart = rise_apart low high takes takes_rise
    from low' (o ∷ puts) rise apart = (
      or_among (map number_of puts) (map number_of takes) o.0
          ∙ both_not (is_among (map number_of puts) o.0) (is_among (map number_of takes) o.0) (not_below (o.0 + 1) high o.0 puts rise.2 (omega arith))
          (not_there (o.0 ∷ map number_of puts) (map number_of takes) o.0 apart (first_so (o.0 == o.0) (is_among (map number_of puts) o.0) (same_test o.0))),
      from (o.0 + 1) puts rise.2 (apart_rest o.0 (map number_of puts) (map number_of takes) apart),
    )
      where
        same_test : (n : ℕ) → (n == n) ≡ true
        same_test n = grind (arith, nat_tests)

-- each lists something

placed_length : (places : Places) (pointers : List Pointer) (events : List Content) → ArePlaced places pointers events → length events ≡ length pointers
placed_length places [] [] are = refl
placed_length places [] (event ∷ events) are = absurd are
placed_length places (p ∷ pointers) [] are = absurd are
placed_length places (p ∷ pointers) (event ∷ events) are = omega (arith, placed_length places pointers events are.1)

-- no open transaction is empty, where each that is listed lists something
pub open_some : (places : Places) (puts : List (ℕ × List Pointer)) (takes : List (ℕ × List ℕ)) (opened : List (ℕ × Entry)) → OpenPlaced places puts takes opened → AllByRecursion HasSome puts → AllByRecursion HasSome takes → AllByRecursion (λ o. IsNotEmpty o.1) opened
open_some places (o ∷ puts) takes [] are some other = absurd are
open_some places (o ∷ puts) takes ((txn, Puts events) ∷ opened) are some other = (omega (arith, some.0, placed_length places o.1 events are.1), open_some places puts takes opened are.2 some.1 other)
open_some places (o ∷ puts) takes ((txn, Takes numbers) ∷ opened) are some other = absurd are
open_some places [] (o ∷ takes) [] are some other = absurd are
open_some places [] (o ∷ takes) ((txn, Puts events) ∷ opened) are some other = absurd are
open_some places [] (o ∷ takes) ((txn, Takes numbers) ∷ opened) are some other = (omega (arith, other.0, ap (λ (l : List ℕ). length l) are.1), open_some places [] takes opened are.2 tt other.1)
open_some places [] [] [] are some other = tt
open_some places [] [] ((txn, Puts events) ∷ opened) are some other = absurd are
open_some places [] [] ((txn, Takes numbers) ∷ opened) are some other = absurd are

-- what a transaction has, by what the checkpoint lists of it

-- puts at these pointers, or these takes, or nothing
abbrev pub Has : Places → Option Entry → List Pointer → List ℕ → Type 0
Has places None pointers numbers = (pointers ≡ []) × (numbers ≡ [])
Has places (Some (Puts events)) pointers numbers = ArePlaced places pointers events × (1 ≤ length pointers) × (numbers ≡ [])
Has places (Some (Takes taken)) pointers numbers = (taken ≡ numbers) × (1 ≤ length numbers) × (pointers ≡ [])

none_listed : {A : Type 0} (t : ℕ) (xs : List (ℕ × List A)) → is_among (map number_of xs) t ≡ false → listed_at t xs ≡ []
none_listed t [] isnt = refl
none_listed t (x ∷ xs) isnt = let n = neither (x.0 == t) (is_among (map number_of xs) t) isnt in rw n.0 (none_listed t xs n.1)

-- each transaction has what the checkpoint lists of it
pub each_has : (places : Places) (puts : List (ℕ × List Pointer)) (takes : List (ℕ × List ℕ)) (opened : List (ℕ × Entry)) (t : ℕ) → OpenPlaced places puts takes opened → AllByRecursion HasSome puts → AllByRecursion HasSome takes
    → AreApart (map number_of puts ++ map number_of takes) → Has places (entry_of t opened) (listed_at t puts) (listed_at t takes)
each_has places (o ∷ puts) takes [] t are some other apart = absurd are
each_has places (o ∷ puts) takes ((txn, Puts events) ∷ opened) t are some other apart = from (eqb_tells o.0 t) (each_has places puts takes opened t are.2 some.1 other apart.1)
  where
    from : Tells o.0 t → Has places (entry_of t opened) (listed_at t puts) (listed_at t takes) → Has places (entry_of t ((txn, Puts events) ∷ opened)) (listed_at t (o ∷ puts)) (listed_at t takes)
    from (inl same) rest =
        let none : listed_at t takes ≡ [] = none_listed t takes (ap (is_among (map number_of takes)) (sym same.1) ∙ (neither (is_among (map number_of puts) o.0) (is_among (map number_of takes) o.0) (sym (or_among (map number_of puts) (map number_of takes) o.0) ∙ apart.0)).1) in
        rw (are.0, same.0) (are.1, some.0, none)
    from (inr differs) rest = rw (are.0, differs.0) rest
each_has places (o ∷ puts) takes ((txn, Takes numbers) ∷ opened) t are some other apart = absurd are
each_has places [] (o ∷ takes) [] t are some other apart = absurd are
each_has places [] (o ∷ takes) ((txn, Puts events) ∷ opened) t are some other apart = absurd are
each_has places [] (o ∷ takes) ((txn, Takes numbers) ∷ opened) t are some other apart = from (eqb_tells o.0 t) (each_has places [] takes opened t are.2 tt other.1 apart.1)
  where
    from : Tells o.0 t → Has places (entry_of t opened) [] (listed_at t takes) → Has places (entry_of t ((txn, Takes numbers) ∷ opened)) [] (listed_at t (o ∷ takes))
    from (inl same) rest = rw (are.0, same.0) (are.1, other.0, refl)
    from (inr differs) rest = rw (are.0, differs.0) rest
each_has places [] [] [] t are some other apart = (refl, refl)
each_has places [] [] ((txn, Puts events) ∷ opened) t are some other apart = absurd are
each_has places [] [] ((txn, Takes numbers) ∷ opened) t are some other apart = absurd are

-- a transaction that takes has these takes listed
pub takes_listed : (places : Places) (e : Option Entry) (pointers : List Pointer) (numbers : List ℕ) → Has places e pointers numbers → numbers_of e ≡ numbers
takes_listed places None pointers numbers has = sym has.1
takes_listed places (Some (Puts events)) pointers numbers has = sym has.2
takes_listed places (Some (Takes taken)) pointers numbers has = has.0

-- taken numbers

-- a number taken by one transaction is among all that are taken
pub listed_among : (t n : ℕ) (takes : List (ℕ × List ℕ)) → is_among (listed_at t takes) n ≡ true → is_among (all_of takes) n ≡ true
listed_among t n [] is = absurd (cc)
listed_among t n (o ∷ takes) is = from (o.0 == t) is (listed_among t n takes)
  where
    from : (b : Bool) → is_among (cond b o.1 (listed_at t takes)) n ≡ true → (is_among (listed_at t takes) n ≡ true → is_among (all_of takes) n ≡ true) → is_among (o.1 ++ all_of takes) n ≡ true
    from true is' rest = in_front o.1 (all_of takes) n is'
    from false is' rest = in_back o.1 (all_of takes) n (rest is')

same_test : (n : ℕ) → (n == n) ≡ true
same_test n = grind (arith, nat_tests)

-- one of them takes it
pub some_takes : (n : ℕ) (takes : List (ℕ × List ℕ)) → AreApart (map number_of takes) → is_among (all_of takes) n ≡ true → (t : ℕ) × (is_among (map number_of takes) t ≡ true) × (is_among (listed_at t takes) n ≡ true)
some_takes n [] apart is = absurd (cc)
some_takes n (o ∷ takes) apart is = from (either_or (is_among o.1 n) (is_among (all_of takes) n) (sym (or_among o.1 (all_of takes) n) ∙ is)) (some_takes n takes apart.1)
  where
    further : (t : ℕ) × (is_among (map number_of takes) t ≡ true) × (is_among (listed_at t takes) n ≡ true) → (t : ℕ) × (is_among (map number_of (o ∷ takes)) t ≡ true) × (is_among (listed_at t (o ∷ takes)) n ≡ true)
    further f = by_test (eqb_tells o.0 f.0)
      where
        by_test : Tells o.0 f.0 → (t : ℕ) × (is_among (map number_of (o ∷ takes)) t ≡ true) × (is_among (listed_at t (o ∷ takes)) n ≡ true)
        by_test (inl same) = absurd (differ (sym f.1 ∙ (ap (is_among (map number_of takes)) (sym same.1) ∙ apart.0)))
        by_test (inr other) = (f.0, second_so (o.0 == f.0) (is_among (map number_of takes) f.0) f.1, rw other.0 f.2)

    from : (is_among o.1 n ≡ true) ⊎ (is_among (all_of takes) n ≡ true) → (is_among (all_of takes) n ≡ true → (t : ℕ) × (is_among (map number_of takes) t ≡ true) × (is_among (listed_at t takes) n ≡ true))
        → (t : ℕ) × (is_among (map number_of (o ∷ takes)) t ≡ true) × (is_among (listed_at t (o ∷ takes)) n ≡ true)
    from (inl here) rest = (o.0, first_so (o.0 == o.0) (is_among (map number_of takes) o.0) (same_test o.0), rw (same_test o.0) here)
    from (inr there) rest = further (rest there)

-- a number that stands once among others is one of them
pub once_there : (others numbers : List ℕ) (n : ℕ) → AreOnceAmong others numbers → is_among numbers n ≡ true → is_among others n ≡ true
once_there others [] n once is = absurd (cc)
once_there others (x ∷ numbers) n once is = from (eqb_tells x n) (either_or (x == n) (is_among numbers n) is) (once_there others numbers n once.2)
  where
    from : Tells x n → ((x == n) ≡ true) ⊎ (is_among numbers n ≡ true) → (is_among numbers n ≡ true → is_among others n ≡ true) → is_among others n ≡ true
    from (inl same) which rest = ap (is_among others) (sym same.1) ∙ once.0
    from (inr other) (inl here) rest = absurd (differ (sym here ∙ other.0))
    from (inr other) (inr there) rest = rest there

once_apart : (others numbers : List ℕ) → AreOnceAmong others numbers → AreApart numbers
once_apart others [] once = tt
once_apart others (n ∷ numbers) once = (once.1, once_apart others numbers once.2)

-- numbers that each stand once among others are apart
pub all_apart : (others : List ℕ) (takes : List (ℕ × List ℕ)) → AreOnceAmong others (all_of takes) → AreApart (all_of takes)
all_apart others takes once = once_apart others (all_of takes) once

apart_front : (a b : List ℕ) → AreApart (a ++ b) → AreApart a
apart_front [] b apart = tt
apart_front (x ∷ a) b apart = ((neither (is_among a x) (is_among b x) (sym (or_among a b x) ∙ apart.0)).0, apart_front a b apart.1)

apart_back : (a b : List ℕ) → AreApart (a ++ b) → AreApart b
apart_back [] b apart = apart
apart_back (x ∷ a) b apart = apart_back a b apart.1

apart_both : (a b : List ℕ) (n : ℕ) → AreApart (a ++ b) → is_among a n ≡ true → is_among b n ≡ true → ⊥
apart_both [] b n apart first second = absurd (cc)
apart_both (x ∷ a) b n apart first second = from (eqb_tells x n) (either_or (x == n) (is_among a n) first) (λ there. apart_both a b n apart.1 there second)
  where
    from : Tells x n → ((x == n) ≡ true) ⊎ (is_among a n ≡ true) → (is_among a n ≡ true → ⊥) → ⊥
    from (inl same) which rest = differ (sym second ∙ (ap (is_among b) (sym same.1) ∙ (neither (is_among a x) (is_among b x) (sym (or_among a b x) ∙ apart.0)).1))
    from (inr other) (inl here) rest = differ (sym here ∙ other.0)
    from (inr other) (inr there) rest = rest there

-- those that one transaction takes are apart, where all are
pub listed_apart : (t : ℕ) (takes : List (ℕ × List ℕ)) → AreApart (all_of takes) → AreApart (listed_at t takes)
listed_apart t [] apart = tt
listed_apart t (o ∷ takes) apart = from (o.0 == t) (listed_apart t takes (apart_back o.1 (all_of takes) apart))
  where
    from : (b : Bool) → AreApart (listed_at t takes) → AreApart (cond b o.1 (listed_at t takes))
    from true rest = apart_front o.1 (all_of takes) apart
    from false rest = rest

-- a number is taken by one of them
pub one_takes : (n t u : ℕ) (takes : List (ℕ × List ℕ)) → AreApart (all_of takes) → is_among (listed_at t takes) n ≡ true → is_among (listed_at u takes) n ≡ true → t ≡ u
one_takes n t u [] apart first second = absurd (cc)
one_takes n t u (o ∷ takes) apart first second = from (eqb_tells o.0 t) (eqb_tells o.0 u) (one_takes n t u takes (apart_back o.1 (all_of takes) apart))
  where
    from : Tells o.0 t → Tells o.0 u → (is_among (listed_at t takes) n ≡ true → is_among (listed_at u takes) n ≡ true → t ≡ u) → t ≡ u
    from (inl a) (inl b) rest = sym a.1 ∙ b.1
    from (inl a) (inr b) rest = absurd (apart_both o.1 (all_of takes) n apart (rw a.0 at first) (listed_among u n takes (rw b.0 at second)))
    from (inr a) (inl b) rest = absurd (apart_both o.1 (all_of takes) n apart (rw b.0 at second) (listed_among t n takes (rw a.0 at first)))
    from (inr a) (inr b) rest = rest (rw a.0 at first) (rw b.0 at second)
