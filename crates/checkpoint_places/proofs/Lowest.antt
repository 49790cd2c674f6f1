-- The least file of pointers, as they are gone through.
use Rattle.std.proofs.Common.{◌⊎◌, inl, inr, ◌≡◌, ◌≢◌, ◌<◌, ◌≤◌, ◌+◌, ◌++◌, ◌∷◌, [], ◌==◌, ℕ, List, get_or, length, map, min, take, Option, Some, None, Bool, true, false, leb, refl, sym, ◌∙◌, ap, subst, arith}
use Rattle.std.specs.Prelude.{if◌then◌else◌, option_map}
use Rattle.std.specs.List.{AllByRecursion}
use Rattle.std.proofs.lemmas.Bool.Decides.{eqb_tells, leb_tells}
use Rattle.std.proofs.lemmas.List.{take_all, take_more}
use Rattle.record_form.specs.declared.record.Pointer.{Pointer}
use Rattle.event_ring.specs.Slots.{Left, least_above, next_from}
use Rattle.open_table.specs.Tables.{IsNext, Open, Table, open_at, puts_of}
use Rattle.checkpoint.specs.Says.{listed_at, live_at, puts_at, puts_in}
use Rattle.checkpoint.specs.Text.{Rise}
use Rattle.checkpoint.proofs.Listing.{from, from_all, live_end, live_next, none_opened, unopened}

-- what follows of each thing of a list follows of all
pub all_maps : {A : Type 0} (P Q : A → Type 0) (xs : List A) → ((x : A) → P x → Q x) → AllByRecursion P xs → AllByRecursion Q xs
all_maps P Q [] maps all = tt
all_maps P Q (x ∷ xs) maps all = (maps x all.0, all_maps P Q xs maps all.1)

abbrev pub FileFrom : ℕ → Pointer → Type 0
FileFrom least p = least ≤ p.file

abbrev pub LiveFrom : ℕ → ℕ × Pointer → Type 0
LiveFrom least l = least ≤ l.1.file

-- files from a number on are from any lesser one on
pub file_less : (a b : ℕ) (ps : List Pointer) → a ≤ b → AllByRecursion (λ p. FileFrom b p) ps → AllByRecursion (λ p. FileFrom a p) ps
file_less a b ps less all = all_maps (λ p. FileFrom b p) (λ p. FileFrom a p) ps (λ p more. omega (arith, less, more)) all

-- the ring

-- what is at least this and stands in what is left to be gone through is true of all
pub record LeftSoFar (least most : ℕ) (live : List Left) (after : Option ℕ) : Type 0 where
  pub below : least ≤ most
  pub each : (high : ℕ) → Rise 0 high (map live_at live) → (x : ℕ) → x ≤ least → AllByRecursion (λ l. LiveFrom x l) (from (least_above after) (map live_at live)) → AllByRecursion (λ l. LiveFrom x l) (map live_at live)
  pub greatest : (other : ℕ) → other ≤ most → AllByRecursion (λ l. LiveFrom other l) (map live_at live) → other ≤ least

-- before the first event of the ring the least file is the greatest that it may be
pub left_begun : (most : ℕ) (live : List Left) → LeftSoFar most most live None
left_begun most live = record {
  below = omega arith;
  each = λ high rise x less all. subst (λ (l : List (ℕ × Pointer)). AllByRecursion (λ k. LiveFrom x k) l) (from_all 0 high 0 (map live_at live) rise (omega arith)) all;
  greatest = λ other less all. less;
}

-- the next one is one of all
next_one : (P : ℕ × Pointer → Type 0) (low n : ℕ) (p : Pointer) (live : List Left) → next_from low live ≡ Some (n, p) → AllByRecursion P (map live_at live) → P (n, p)
next_one P low n p [] is all = absurd (cc)
next_one P low n p (l ∷ live) is all = by (leb_tells low l.number) (λ later. next_one P low n p live later all.1)
  where
    by : ((leb low l.number ≡ true) × (low ≤ l.number)) ⊎ ((leb low l.number ≡ false) × (l.number < low)) → (next_from low live ≡ Some (n, p) → P (n, p)) → P (n, p)
    by (inl above) later =
        let found : Some (live_at l) ≡ Some (n, p) = rw (above.0) (refl) ∙ is in
        let same : live_at l ≡ (n, p) = cc in
        subst P same all.0
    by (inr below) later = later (let passes : next_from low live ≡ next_from low (l ∷ live) = rw (below.0) refl in passes ∙ is)

-- one event more of the ring, whose file may be less
pub left_step : (least most n : ℕ) (p : Pointer) (live : List Left) (after : Option ℕ) → LeftSoFar least most live after → next_from (least_above after) live ≡ Some (n, p) → LeftSoFar (min least p.file) most live (Some n)
left_step least most n p live after so is = record {
  below = less most so.below;
  each = λ high rise x low all.
      let next = live_next (least_above after) 0 high n p live rise is in
      so.each high rise x (first x low) (subst (λ (l : List (ℕ × Pointer)). AllByRecursion (λ k. LiveFrom x k) l) (sym next.1) (second x low, all));
  greatest = λ other low all. both other (so.greatest other low all) (next_one (λ l. LiveFrom other l) (least_above after) n p live is all);
}
  where
    less : (m : ℕ) → least ≤ m → min least p.file ≤ m
    less m low = grind (arith, low)

    first : (x : ℕ) → x ≤ min least p.file → x ≤ least
    first x low = grind (arith, low)

    second : (x : ℕ) → x ≤ min least p.file → x ≤ p.file
    second x low = grind (arith, low)

    both : (x : ℕ) → x ≤ least → x ≤ p.file → x ≤ min least p.file
    both x a b = grind (arith, a, b)

-- after the last event no file of the ring is less
pub left_done : (least most : ℕ) (live : List Left) (after : Option ℕ) → LeftSoFar least most live after → next_from (least_above after) live ≡ None → (high : ℕ) → Rise 0 high (map live_at live) → AllByRecursion (λ l. LiveFrom least l) (map live_at live)
left_done least most live after so none high rise = so.each high rise least (omega arith) (subst (λ (l : List (ℕ × Pointer)). AllByRecursion (λ k. LiveFrom least k) l) (sym (live_end (least_above after) live none)) tt)

-- the table

pub record OpenSoFar (least most : ℕ) (table : Table) (after : Option ℕ) : Type 0 where
  pub below : least ≤ most
  pub each : (txn : ℕ) → txn < least_above after → AllByRecursion (λ p. FileFrom least p) (puts_at table txn)
  pub greatest : (other : ℕ) → other ≤ most → ((txn : ℕ) → AllByRecursion (λ p. FileFrom other p) (puts_at table txn)) → other ≤ least

-- before the first open transaction the least file is the greatest that it may be
pub open_begun : (most : ℕ) (table : Table) → OpenSoFar most most table None
open_begun most table = record { below = omega arith; each = λ txn less. absurd (omega (arith, less)); greatest = λ other less all. less }

not_open : (table : Table) (txn least : ℕ) → open_at table txn ≡ None → AllByRecursion (λ p. FileFrom least p) (puts_at table txn)
not_open table txn least none = subst (λ (o : Option Open). AllByRecursion (λ p. FileFrom least p) (puts_in o)) (sym none) tt

-- one open transaction more, whose puts may be in a lesser file
pub open_step : (least more most txn : ℕ) (table : Table) (after : Option ℕ) → OpenSoFar least most table after → IsNext table after (Some txn) → more ≤ least → AllByRecursion (λ p. FileFrom more p) (puts_at table txn)
    → ((other : ℕ) → other ≤ least → AllByRecursion (λ p. FileFrom other p) (puts_at table txn) → other ≤ more) → OpenSoFar more most table (Some txn)
open_step least more most txn table after so next less here further = record {
  below = omega (arith, less, so.below);
  each = λ t low. by t low (side t (least_above after)) (side t txn);
  greatest = λ other low all. further other (so.greatest other low all) (all txn);
}
  where
    side : (a b : ℕ) → (a < b) ⊎ (b ≤ a)
    side a b = grind arith

    by : (t : ℕ) → t < txn + 1 → (t < least_above after) ⊎ (least_above after ≤ t) → (t < txn) ⊎ (txn ≤ t) → AllByRecursion (λ p. FileFrom more p) (puts_at table t)
    by t low (inl before) other = file_less more least (puts_at table t) less (so.each t before)
    by t low (inr since) (inl earlier) = not_open table t more (unopened table after txn t next since earlier)
    by t low (inr since) (inr later) = let same : txn ≡ t = omega (arith, low, later) in subst (λ (n : ℕ). AllByRecursion (λ p. FileFrom more p) (puts_at table n)) same here

-- after the last open transaction none has puts in a lesser file
pub open_done : (least most : ℕ) (table : Table) (after : Option ℕ) → OpenSoFar least most table after → IsNext table after None → (txn : ℕ) → AllByRecursion (λ p. FileFrom least p) (puts_at table txn)
open_done least most table after so next txn = by (side txn (least_above after))
  where
    side : (a b : ℕ) → (a < b) ⊎ (b ≤ a)
    side a b = grind arith

    by : (txn < least_above after) ⊎ (least_above after ≤ txn) → AllByRecursion (λ p. FileFrom least p) (puts_at table txn)
    by (inl before) = so.each txn before
    by (inr since) = not_open table txn least (none_opened table after txn next since)

-- lists of a checkpoint

-- what each transaction lists is true of each entry
pub all_entries : (P : Pointer → Type 0) (low high : ℕ) (xs : List (ℕ × List Pointer)) → Rise low high xs → ((txn : ℕ) → low ≤ txn → AllByRecursion P (listed_at txn xs)) → AllByRecursion (λ o. AllByRecursion P o.1) xs
all_entries P low high [] rise each = tt
all_entries P low high (x ∷ xs) rise each = (subst (λ (ps : List Pointer). AllByRecursion P ps) here (each x.0 rise.0), all_entries P (x.0 + 1) high xs rise.2 (λ txn more. subst (λ (ps : List Pointer). AllByRecursion P ps) (later txn more) (each txn (omega (arith, rise.0, more)))))
  where
    here : listed_at x.0 (x ∷ xs) ≡ x.1
    here = by (eqb_tells x.0 x.0)
      where
        by : ((x.0 == x.0) ≡ true) × (x.0 ≡ x.0) ⊎ ((x.0 == x.0) ≡ false) × (x.0 ≢ x.0) → listed_at x.0 (x ∷ xs) ≡ x.1
        by (inl same) = ap (λ (b : Bool). if b then x.1 else listed_at x.0 xs) same.0
        by (inr other) = absurd (other.1 refl)

    later : (txn : ℕ) → x.0 + 1 ≤ txn → listed_at txn (x ∷ xs) ≡ listed_at txn xs
    later txn more = by (eqb_tells x.0 txn)
      where
        by : ((x.0 == txn) ≡ true) × (x.0 ≡ txn) ⊎ ((x.0 == txn) ≡ false) × (x.0 ≢ txn) → listed_at txn (x ∷ xs) ≡ listed_at txn xs
        by (inl same) = absurd (omega (arith, same.1, more))
        by (inr other) = ap (λ (b : Bool). if b then x.1 else listed_at txn xs) other.0

-- and the other way round
pub all_listed : (P : Pointer → Type 0) (txn : ℕ) (xs : List (ℕ × List Pointer)) → AllByRecursion (λ o. AllByRecursion P o.1) xs → AllByRecursion P (listed_at txn xs)
all_listed P txn [] all = tt
all_listed P txn (x ∷ xs) all = by (x.0 == txn) (all_listed P txn xs all.1)
  where
    by : (b : Bool) → AllByRecursion P (listed_at txn xs) → AllByRecursion P (if b then x.1 else listed_at txn xs)
    by true rest = all.0
    by false rest = rest

-- pointers one by one

pub record PutsSoFar (least most : ℕ) (ps : List Pointer) : Type 0 where
  pub below : least ≤ most
  pub each : AllByRecursion (λ p. FileFrom least p) ps
  pub greatest : (other : ℕ) → other ≤ most → AllByRecursion (λ p. FileFrom other p) ps → other ≤ least

all_push : (P : Pointer → Type 0) (ps : List Pointer) (p : Pointer) → AllByRecursion P ps → P p → AllByRecursion P (ps ++ p ∷ [])
all_push P [] p all last = (last, tt)
all_push P (q ∷ ps) p all last = (all.0, all_push P ps p all.1 last)

all_front : (P : Pointer → Type 0) (ps : List Pointer) (p : Pointer) → AllByRecursion P (ps ++ p ∷ []) → AllByRecursion P ps × P p
all_front P [] p all = (tt, all.0)
all_front P (q ∷ ps) p all = let rest = all_front P ps p all.1 in ((all.0, rest.0), rest.1)

-- one pointer more, whose file may be less
pub puts_step : (least most : ℕ) (ps : List Pointer) (p : Pointer) → PutsSoFar least most ps → PutsSoFar (min least p.file) most (ps ++ p ∷ [])
puts_step least most ps p so = record {
  below = less so.below;
  each = all_push (λ q. FileFrom (min least p.file) q) ps p (file_less (min least p.file) least ps first so.each) second;
  greatest = λ other low all. let split = all_front (λ q. FileFrom other q) ps p all in both other (so.greatest other low split.0) split.1;
}
  where
    less : least ≤ most → min least p.file ≤ most
    less low = grind (arith, low)

    first : min least p.file ≤ least
    first = grind arith

    second : min least p.file ≤ p.file
    second = grind arith

    both : (x : ℕ) → x ≤ least → x ≤ p.file → x ≤ min least p.file
    both x a b = grind (arith, a, b)

-- before the first pointer the least file is the greatest that it may be
pub puts_begun : (most : ℕ) (ps : List Pointer) → PutsSoFar most most (take 0 ps)
puts_begun most ps = subst (λ (l : List Pointer). PutsSoFar most most l) (none ps) (record { below = omega arith; each = tt; greatest = λ other less all. less })
  where
    none : (l : List Pointer) → [] ≡ take 0 l
    none [] = refl
    none (p ∷ l) = refl

-- after the last pointer the least file is that of all
pub puts_done : (least most i : ℕ) (ps : List Pointer) → length ps ≤ i → PutsSoFar least most (take i ps) → PutsSoFar least most ps
puts_done least most i ps past so = subst (λ (l : List Pointer). PutsSoFar least most l) (take_all i ps past) so

-- the pointer at the next place is one more
pub puts_index : (least most i : ℕ) (ps : List Pointer) (d : Pointer) → i < length ps → PutsSoFar least most (take i ps) → PutsSoFar (min least (get_or ps i d).file) most (take (i + 1) ps)
puts_index least most i ps d less so = subst (λ (l : List Pointer). PutsSoFar (min least (get_or ps i d).file) most l) (sym (take_more ps i d less)) (puts_step least most (take i ps) (get_or ps i d) so)

-- the puts that a table gives of a transaction
pub puts_here : (o : Option Open) (ps : List Pointer) → option_map (λ (x : Open). puts_of x.listed) o ≡ Some ps → puts_in o ≡ ps
puts_here None ps is = absurd (cc)
puts_here (Some o) ps is = cc
