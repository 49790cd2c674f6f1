-- Lists whose numbers rise: what is left of one from a number on, as it is gone through.
use Rattle.std.proofs.Common.{◌⊎◌, inl, inr, ◌≡◌, ◌≢◌, ◌<◌, ◌≤◌, ◌+◌, ◌^◌, ◌++◌, ◌∷◌, [], ℕ, suc, List, length, map, nat_eq, Option, Some, None, Bool, true, false, ◌==◌, leb, cond, refl, sym, ◌∙◌, ap, subst, arith}
use Rattle.std.specs.List.{AllByRecursion}
use Rattle.std.proofs.lemmas.Bool.Decides.{eqb_tells, leb_tells}
use Rattle.record_form.specs.declared.record.Pointer.{Pointer}
use Rattle.event_ring.specs.Slots.{Left, least_above, next_from}
use Rattle.std.specs.Option.{IsSome}
use Rattle.open_table.specs.Tables.{IsAbove, IsNext, Open, Table, open_at}
use Rattle.checkpoint.specs.Right.{HasSome}
use Rattle.checkpoint.specs.Says.{AreListed, entry_of, listed_at, live_at}
use Rattle.checkpoint.specs.Text.{Rise}

-- what is left of a list from a number on
abbrev pub from : {A : Type 0} → ℕ → List (ℕ × A) → List (ℕ × A)
from low [] = []
from low (x ∷ xs) = cond (leb low x.0) (x ∷ xs) (from low xs)

le_test : (a b : ℕ) → a ≤ b → leb a b ≡ true
le_test a b le = at (leb_tells a b)
  where
    at : ((leb a b ≡ true) × (a ≤ b)) ⊎ ((leb a b ≡ false) × (b < a)) → leb a b ≡ true
    at (inl above) = above.0
    at (inr below) = absurd (omega (arith, below.1, le))

less_test : (a b : ℕ) → b < a → leb a b ≡ false
less_test a b less = at (leb_tells a b)
  where
    at : ((leb a b ≡ true) × (a ≤ b)) ⊎ ((leb a b ≡ false) × (b < a)) → leb a b ≡ false
    at (inl above) = absurd (omega (arith, above.1, less))
    at (inr below) = below.0

-- a list that begins above the number is left whole
pub from_all : {A : Type 0} (a b low : ℕ) (xs : List (ℕ × A)) → Rise a b xs → low ≤ a → from low xs ≡ xs
from_all a b low [] rise le = refl
from_all a b low (x ∷ xs) rise le = rw (le_test low x.0 (omega (arith, le, rise.0))) refl

passes : (low : ℕ) (l : Left) (live : List Left) → leb low l.number ≡ false → next_from low live ≡ next_from low (l ∷ live)
passes low l live below = rw below refl

-- nothing is left above all numbers
past : {A : Type 0} (low a b : ℕ) (xs : List (ℕ × A)) → Rise a b xs → b ≤ low → from low xs ≡ []
past low a b [] rise le = refl
past low a b (x ∷ xs) rise le = rw (less_test low x.0 (omega (arith, le, rise.1))) (past low (x.0 + 1) b xs rise.2 le)

pair : {A : Type 0} (x : ℕ × A) (n : ℕ) (items : A) → x.0 ≡ n → x.1 ≡ items → x ≡ (n, items)
pair {A = A} x n items number item = ap (λ (m : ℕ). (m, x.1)) number ∙ ap (λ (i : A). (n, i)) item

-- the event that a ring gives next is not below
pub next_above : (low n : ℕ) (p : Pointer) (live : List Left) → next_from low live ≡ Some (n, p) → low ≤ n
next_above low n p [] is = absurd (cc)
next_above low n p (l ∷ live) is = by (leb_tells low l.number) (next_above low n p live)
  where
    by : ((leb low l.number ≡ true) × (low ≤ l.number)) ⊎ ((leb low l.number ≡ false) × (l.number < low)) → (next_from low live ≡ Some (n, p) → low ≤ n) → low ≤ n
    by (inl above) behind =
        let found : Some (live_at l) ≡ Some (n, p) = rw (above.0) (refl) ∙ is in
        let same : live_at l ≡ (n, p) = cc in
        omega (arith, above.1, ap (λ (x : ℕ × Pointer). x.0) same)
    by (inr below) behind = behind (passes low l live below.0 ∙ is)

-- the event that a ring gives next is the first that is left
pub live_next : (low a b n : ℕ) (p : Pointer) (live : List Left) → Rise a b (map live_at live) → next_from low live ≡ Some (n, p)
    → (low ≤ n) × (from low (map live_at live) ≡ (n, p) ∷ from (n + 1) (map live_at live))
live_next low a b n p [] rise is = absurd (cc)
live_next low a b n p (l ∷ live) rise is = by (leb_tells low l.number) (live_next low (l.number + 1) b n p live rise.2)
  where
    by : ((leb low l.number ≡ true) × (low ≤ l.number)) ⊎ ((leb low l.number ≡ false) × (l.number < low))
        → (next_from low live ≡ Some (n, p) → (low ≤ n) × (from low (map live_at live) ≡ (n, p) ∷ from (n + 1) (map live_at live)))
        → (low ≤ n) × (from low (map live_at (l ∷ live)) ≡ (n, p) ∷ from (n + 1) (map live_at (l ∷ live)))
    by (inl above) behind =
        let found : Some (live_at l) ≡ Some (n, p) = rw (above.0) (refl) ∙ is in
        let same : live_at l ≡ (n, p) = cc in
        let number : l.number ≡ n = ap (λ (x : ℕ × Pointer). x.0) same in (
          omega (arith, above.1, number),
          rw (above.0, less_test (n + 1) l.number (omega (arith, number))) (ap (λ (x : ℕ × Pointer). x ∷ map live_at live) same
              ∙ ap (λ (xs : List (ℕ × Pointer)). (n, p) ∷ xs) (sym (from_all (l.number + 1) b (n + 1) (map live_at live) rise.2 (omega (arith, number))))),
        )
    by (inr below) behind =
        let later = behind (passes low l live below.0 ∙ is) in
        (later.0, rw (below.0, less_test (n + 1) l.number (omega (arith, later.0, below.1))) later.1)

-- and where it gives none, none is left
pub live_end : (low : ℕ) (live : List Left) → next_from low live ≡ None → from low (map live_at live) ≡ []
live_end low [] is = refl
live_end low (l ∷ live) is = by (leb_tells low l.number) (live_end low live)
  where
    by : ((leb low l.number ≡ true) × (low ≤ l.number)) ⊎ ((leb low l.number ≡ false) × (l.number < low))
        → (next_from low live ≡ None → from low (map live_at live) ≡ []) → from low (map live_at (l ∷ live)) ≡ []
    by (inl above) behind = absurd (cc)
    by (inr below) behind = rw below.0 (behind (passes low l live below.0 ∙ is))

-- what another transaction lists
other_at : {A : Type 0} (t : ℕ) (x : ℕ × List A) (xs : List (ℕ × List A)) → (x.0 == t) ≡ false → listed_at t xs ≡ listed_at t (x ∷ xs)
other_at t x xs other = rw other refl

own_at : {A : Type 0} (t : ℕ) (x : ℕ × List A) (xs : List (ℕ × List A)) → (x.0 == t) ≡ true → x.1 ≡ listed_at t (x ∷ xs)
own_at t x xs own = rw own refl

here_at : {A : Type 0} (x : ℕ × List A) (xs : List (ℕ × List A)) → x.1 ≡ listed_at x.0 (x ∷ xs)
here_at x xs = at (eqb_tells x.0 x.0)
  where
    at : (((x.0 == x.0) ≡ true) × (x.0 ≡ x.0)) ⊎ (((x.0 == x.0) ≡ false) × (x.0 ≢ x.0)) → x.1 ≡ listed_at x.0 (x ∷ xs)
    at (inl same) = own_at x.0 x xs same.0
    at (inr other) = absurd (other.1 refl)

-- a number below all of them lists nothing
below_at : {A : Type 0} (t a b : ℕ) (xs : List (ℕ × List A)) → Rise a b xs → t < a → listed_at t xs ≡ []
below_at t a b [] rise less = refl
below_at t a b (x ∷ xs) rise less = at (eqb_tells x.0 t) (below_at t (x.0 + 1) b xs rise.2 (omega (arith, less, rise.0)))
  where
    at : (((x.0 == t) ≡ true) × (x.0 ≡ t)) ⊎ (((x.0 == t) ≡ false) × (x.0 ≢ t)) → listed_at t xs ≡ [] → listed_at t (x ∷ xs) ≡ []
    at (inl same) behind = absurd (omega (arith, same.1, less, rise.0))
    at (inr other) behind = sym (other_at t x xs other.0) ∙ behind

-- what lists nothing has no number among them
not_empty : {A : Type 0} (x : ℕ × List A) (xs : List (ℕ × List A)) → HasSome x → listed_at x.0 (x ∷ xs) ≡ [] → ⊥
not_empty x xs some none = omega (arith, some, ap length (here_at x xs ∙ none))

-- the next number that lists something is not below this one
pub listed_next : {A : Type 0} (low a b txn : ℕ) (xs : List (ℕ × List A)) → Rise a b xs → AllByRecursion HasSome xs → low ≤ txn → ((t : ℕ) → low ≤ t → t < txn → listed_at t xs ≡ []) → from low xs ≡ from txn xs
listed_next low a b txn [] rise some le none = refl
listed_next low a b txn (x ∷ xs) rise some le none = by (leb_tells low x.0) (leb_tells txn x.0) (listed_next low (x.0 + 1) b txn xs rise.2 some.1 le (λ t above below. behind t above below (eqb_tells x.0 t)))
  where
    behind : (t : ℕ) → low ≤ t → t < txn → (((x.0 == t) ≡ true) × (x.0 ≡ t)) ⊎ (((x.0 == t) ≡ false) × (x.0 ≢ t)) → listed_at t xs ≡ []
    behind t above below (inl same) = below_at t (x.0 + 1) b xs rise.2 (omega (arith, same.1))
    behind t above below (inr other) = other_at t x xs other.0 ∙ none t above below

    by : ((leb low x.0 ≡ true) × (low ≤ x.0)) ⊎ ((leb low x.0 ≡ false) × (x.0 < low)) → ((leb txn x.0 ≡ true) × (txn ≤ x.0)) ⊎ ((leb txn x.0 ≡ false) × (x.0 < txn)) → from low xs ≡ from txn xs → from low (x ∷ xs) ≡ from txn (x ∷ xs)
    by (inl above) (inl beyond) same = rw (above.0, beyond.0) refl
    by (inl above) (inr before) same = absurd (not_empty x xs some.0 (none x.0 above.1 before.1))
    by (inr below) (inl beyond) same = absurd (omega (arith, below.1, beyond.1, le))
    by (inr below) (inr before) same = rw (below.0, before.0) same

-- a number that lists something is the first from itself on
pub listed_here : {A : Type 0} (a b txn : ℕ) (items : List A) (xs : List (ℕ × List A)) → Rise a b xs → listed_at txn xs ≡ items → 1 ≤ length items → from txn xs ≡ (txn, items) ∷ from (txn + 1) xs
listed_here {A = A} a b txn items [] rise is some = absurd (omega (arith, some, ap length is))
listed_here {A = A} a b txn items (x ∷ xs) rise is some = by (leb_tells txn x.0) (eqb_tells x.0 txn) (listed_here (x.0 + 1) b txn items xs rise.2)
  where
    by : ((leb txn x.0 ≡ true) × (txn ≤ x.0)) ⊎ ((leb txn x.0 ≡ false) × (x.0 < txn)) → (((x.0 == txn) ≡ true) × (x.0 ≡ txn)) ⊎ (((x.0 == txn) ≡ false) × (x.0 ≢ txn))
        → (listed_at txn xs ≡ items → 1 ≤ length items → from txn xs ≡ (txn, items) ∷ from (txn + 1) xs) → from txn (x ∷ xs) ≡ (txn, items) ∷ from (txn + 1) (x ∷ xs)
    by (inl above) (inl same) behind =
        let item : x ≡ (txn, items) = pair x txn items same.1 (own_at txn x xs same.0 ∙ is) in
        rw (above.0, less_test (txn + 1) x.0 (omega (arith, same.1)))
        (ap (λ (y : ℕ × List A). y ∷ xs) item ∙ ap (λ (ys : List (ℕ × List A)). (txn, items) ∷ ys) (sym (from_all (x.0 + 1) b (txn + 1) xs rise.2 (omega (arith, same.1)))))
    by (inl above) (inr other) behind =
        absurd (omega (arith, some, ap length (sym is ∙ (sym (other_at txn x xs other.0) ∙ below_at txn (x.0 + 1) b xs rise.2 (omega (arith, above.1))))))
    by (inr below) (inl same) behind = absurd (omega (arith, below.1, same.1))
    by (inr below) (inr other) behind = rw (below.0, less_test (txn + 1) x.0 (omega (arith, below.1))) (behind (other_at txn x xs other.0 ∙ is) some)

-- one that lists nothing is passed over
pub listed_gone : {A : Type 0} (a b txn : ℕ) (xs : List (ℕ × List A)) → Rise a b xs → AllByRecursion HasSome xs → listed_at txn xs ≡ [] → from txn xs ≡ from (txn + 1) xs
listed_gone a b txn xs rise some is = listed_next txn a b (txn + 1) xs rise some (omega arith) only
  where
    only : (t : ℕ) → txn ≤ t → t < txn + 1 → listed_at t xs ≡ []
    only t above below = let same : t ≡ txn = omega (arith, above, below) in ap (λ (n : ℕ). listed_at n xs) same ∙ is

-- where no number from this one on lists anything, nothing is left
pub listed_end : {A : Type 0} (low a b : ℕ) (xs : List (ℕ × List A)) → Rise a b xs → AllByRecursion HasSome xs → ((t : ℕ) → low ≤ t → listed_at t xs ≡ []) → from low xs ≡ []
listed_end low a b xs rise some none = listed_next low a b (low + b) xs rise some (omega arith) (λ t above below. none t above) ∙ past (low + b) a b xs rise (omega arith)

-- what is true of all is true of those that are left
pub all_from : {A : Type 0} (P : ℕ × A → Type 0) (low : ℕ) (xs : List (ℕ × A)) → AllByRecursion P xs → AllByRecursion P (from low xs)
all_from P low [] all = tt
all_from {A = A} P low (x ∷ xs) all = by (leb low x.0) (all_from P low xs all.1)
  where
    by : (test : Bool) → AllByRecursion P (from low xs) → AllByRecursion P (cond test (x ∷ xs) (from low xs))
    by true rest = all
    by false rest = rest

-- no transaction between a number and the next open one is open
pub unopened : (table : Table) (after : Option ℕ) (txn t : ℕ) → IsNext table after (Some txn) → least_above after ≤ t → t < txn → open_at table t ≡ None
unopened table after txn t next above below = by (open_at table t) refl
  where
    beyond : (a : Option ℕ) → least_above a ≤ t → IsAbove a t
    beyond None le = tt
    beyond (Some a) le = omega (arith, le)

    by : (o : Option Open) → open_at table t ≡ o → open_at table t ≡ None
    by None is = is
    by (Some o) is = absurd (omega (arith, below, next.2 t (beyond after above) (subst (λ (x : Option Open). IsSome x) (sym is) refl)))

-- nor is any where there is no next one
pub none_opened : (table : Table) (after : Option ℕ) (t : ℕ) → IsNext table after None → least_above after ≤ t → open_at table t ≡ None
none_opened table after t next above = next t (beyond after above)
  where
    beyond : (a : Option ℕ) → least_above a ≤ t → IsAbove a t
    beyond None le = tt
    beyond (Some a) le = omega (arith, le)

-- the next open one is not below
pub next_beyond : (table : Table) (after : Option ℕ) (txn : ℕ) → IsNext table after (Some txn) → least_above after ≤ txn
next_beyond table None txn next = omega arith
next_beyond table (Some a) txn next = omega (arith, next.0)

-- where none lists anything between a number and a later one, the entry of the later one comes first
pub entry_next : {A : Type 0} (of : ℕ → List A) (listed : List (ℕ × List A)) (low txn : ℕ) → AreListed of listed → low ≤ txn → ((t : ℕ) → low ≤ t → t < txn → of t ≡ [])
    → from low listed ≡ entry_of txn (of txn) ++ from (txn + 1) listed
entry_next {A = A} of listed low txn are le none =
    listed_next low 0 (2 ^ 64) txn listed are.rise are.some le (λ t above below. are.each t ∙ none t above below) ∙ by (of txn) (are.each txn)
  where
    by : (items : List A) → listed_at txn listed ≡ items → from txn listed ≡ entry_of txn items ++ from (txn + 1) listed
    by [] is = listed_gone 0 (2 ^ 64) txn listed are.rise are.some is
    by (item ∷ items) is = listed_here 0 (2 ^ 64) txn (item ∷ items) listed are.rise is (omega arith)

-- where none lists anything from a number on, nothing is left
pub entries_end : {A : Type 0} (of : ℕ → List A) (listed : List (ℕ × List A)) (low : ℕ) → AreListed of listed → ((t : ℕ) → low ≤ t → of t ≡ []) → from low listed ≡ []
entries_end of listed low are none = listed_end low 0 (2 ^ 64) listed are.rise are.some (λ t above. are.each t ∙ none t above)

positive : (n : ℕ) → nat_eq (suc n) 0 ≡ false
positive n = at (eqb_tells (suc n) 0)
  where
    at : ((nat_eq (suc n) 0 ≡ true) × (suc n ≡ 0)) ⊎ ((nat_eq (suc n) 0 ≡ false) × (suc n ≢ 0)) → nat_eq (suc n) 0 ≡ false
    at (inl same) = absurd (omega (arith, same.1))
    at (inr other) = other.0

-- Of the transactions that list something those below a number are counted.
pub record CountsSoFar {A : Type 0} (of : ℕ → List A) (count : ℕ) (after : Option ℕ) : Type 0 where
  pub counts : (listed : List (ℕ × List A)) → AreListed of listed → length listed < 2 ^ 32 → count + length (from (least_above after) listed) ≡ length listed

-- at first none
pub counts_begun : {A : Type 0} (of : ℕ → List A) → CountsSoFar of 0 None
counts_begun {A = A} of = record { counts = λ listed are few. omega (arith, ap (λ (l : List (ℕ × List A)). length l) (from_all 0 (2 ^ 64) 0 listed are.rise (omega arith))) }

-- then each that lists something
pub counts_step : {A : Type 0} (of : ℕ → List A) (count more txn : ℕ) (after : Option ℕ) → CountsSoFar of count after → least_above after ≤ txn → ((t : ℕ) → least_above after ≤ t → t < txn → of t ≡ [])
    → (nat_eq (length (of txn)) 0 ≡ true → more ≡ count) → (nat_eq (length (of txn)) 0 ≡ false → count + 1 < 2 ^ 32 → more ≡ count + 1) → CountsSoFar of more (Some txn)
counts_step {A = A} of count more txn after sits le none same next = record {
  counts = λ listed are few. by listed (of txn) same next (sits.counts listed are few) (entry_next of listed (least_above after) txn are le none) few;
}
  where
    by : (listed : List (ℕ × List A)) (items : List A) → (nat_eq (length items) 0 ≡ true → more ≡ count) → (nat_eq (length items) 0 ≡ false → count + 1 < 2 ^ 32 → more ≡ count + 1)
        → count + length (from (least_above after) listed) ≡ length listed → from (least_above after) listed ≡ entry_of txn items ++ from (txn + 1) listed → length listed < 2 ^ 32
        → more + length (from (txn + 1) listed) ≡ length listed
    by listed [] same next was is few = omega (arith, same refl, was, ap length is)
    by listed (item ∷ items) same next was is few =
        let more_is = next (positive (length items)) (omega (arith, was, ap length is, few)) in
        omega (arith, more_is, was, ap length is)

-- and in the end all
pub counts_done : {A : Type 0} (of : ℕ → List A) (count : ℕ) (after : Option ℕ) → CountsSoFar of count after → ((t : ℕ) → least_above after ≤ t → of t ≡ [])
    → (listed : List (ℕ × List A)) → AreListed of listed → length listed < 2 ^ 32 → count ≡ length listed
counts_done of count after sits none listed are few = omega (arith, sits.counts listed are few, ap length (entries_end of listed (least_above after) are none))
