-- A table with one more transaction, and the text that lists it.
use Rattle.std.specs.Prelude.{◌||◌, Bool, Option, None, Some, false, map, true, not}
use Rattle.std.proofs.Common.{inl, inr, ◌≡◌, ◌≢◌, ◌≤◌, ◌+◌, ◌^◌, ◌++◌, ◌∷◌, [], ℕ, List, length, ◌==◌, cond, refl, sym, ap, subst, ◌∙◌, arith}
use Rattle.std.proofs.lemmas.Bool.Decides.{eqb_tells, nat_tests}
use Rattle.event_core.specs.Journal.{is_among}
use Rattle.open_table.specs.Tables.{Listed, Open, Table, is_open, is_puts, open_at}
use Rattle.checkpoint.specs.Right.{HasSome, number_of}
use Rattle.checkpoint.specs.Says.{AreListed, listed_at}
use Rattle.checkpoint.specs.Text.{Rise}
use Rattle.checkpoint_reading.specs.Opens.{Lists}
use Rattle.checkpoint_reading.proofs.Holding.{Tells, both_not, neither}
use Rattle.checkpoint_reading.proofs.Sound.{all_more}

-- numbers that rise below one are not that one
pub above_all : {A : Type 0} (low high k : ℕ) (xs : List (ℕ × A)) → Rise low high xs → high ≤ k → is_among (map number_of xs) k ≡ false
above_all low high k [] rise over = refl
above_all low high k (x ∷ xs) rise over = from (eqb_tells x.0 k) (above_all (x.0 + 1) high k xs rise.2 over)
  where
    from : Tells x.0 k → is_among (map number_of xs) k ≡ false → ((x.0 == k) || is_among (map number_of xs) k) ≡ false
    from (inl same) rest = absurd (omega (arith, same.1, rise.1, over))
    from (inr other) rest = both_not (x.0 == k) (is_among (map number_of xs) k) other.0 rest

-- numbers that rise from one on rise from a lesser one on
pub rise_from : {A : Type 0} (low from high : ℕ) (xs : List (ℕ × A)) → low ≤ from → Rise from high xs → Rise low high xs
rise_from low from high [] less rise = tt
rise_from low from high (x ∷ xs) less rise = (omega (arith, less, rise.0), rise.1, rise.2)

-- what is not listed has nothing
listed_none : {A : Type 0} (listed : List (ℕ × List A)) (t : ℕ) → is_among (map number_of listed) t ≡ false → listed_at t listed ≡ []
listed_none [] t none = refl
listed_none {A} (o ∷ listed) t none =
    let both = neither (o.0 == t) (is_among (map number_of listed) t) none in
    ap (λ (b : Bool). cond b o.1 (listed_at t listed)) both.0 ∙ listed_none listed t both.1

-- one more that is listed last
listed_last : {A : Type 0} (listed : List (ℕ × List A)) (t : ℕ) (items : List A) → is_among (map number_of listed) t ≡ false → listed_at t (listed ++ (t, items) ∷ []) ≡ items
listed_last {A} [] t items none = ap (λ (b : Bool). cond b items []) (same_test t)
  where
    same_test : (n : ℕ) → (n == n) ≡ true
    same_test n = grind (arith, nat_tests)
listed_last {A} (o ∷ listed) t items none =
    let both = neither (o.0 == t) (is_among (map number_of listed) t) none in
    ap (λ (b : Bool). cond b o.1 (listed_at t (listed ++ (t, items) ∷ []))) both.0 ∙ listed_last listed t items both.1

listed_other : {A : Type 0} (listed : List (ℕ × List A)) (t : ℕ) (o : ℕ × List A) → (o.0 == t) ≡ false → listed_at t (listed ++ o ∷ []) ≡ listed_at t listed
listed_other {A} [] t o other = ap (λ (b : Bool). cond b o.1 []) other
listed_other {A} (x ∷ listed) t o other = ap (λ (l : List A). cond (x.0 == t) x.1 l) (listed_other listed t o other)

-- a list of a text with one more transaction is that of a table with it
pub listed_more : {A : Type 0} (of now : ℕ → List A) (listed : List (ℕ × List A)) (txn : ℕ) (items : List A) → AreListed of listed → is_among (map number_of listed) txn ≡ false → Rise 0 (2 ^ 64) (listed ++ (txn, items) ∷ []) → 1 ≤ length items
    → now txn ≡ items → ((t : ℕ) → t ≢ txn → now t ≡ of t) → AreListed now (listed ++ (txn, items) ∷ [])
listed_more {A} of now listed txn items are none rise some here others = record {
  rise = rise;
  some = all_more HasSome listed (txn, items) are.some some;
  each = λ t. from t (eqb_tells txn t);
}
  where
    from : (t : ℕ) → Tells txn t → listed_at t (listed ++ (txn, items) ∷ []) ≡ now t
    from t (inl same) = subst (λ (n : ℕ). listed_at n (listed ++ (txn, items) ∷ []) ≡ now n) same.1 (listed_last listed txn items none ∙ sym here)
    from t (inr other) = listed_other listed t (txn, items) other.0 ∙ (are.each t ∙ sym (others t (λ is. other.1 (sym is))))

-- a list of a text in which it is not is still that of the table, which has nothing there
pub listed_same : {A : Type 0} (of now : ℕ → List A) (listed : List (ℕ × List A)) (txn : ℕ) → AreListed of listed → is_among (map number_of listed) txn ≡ false → now txn ≡ [] → ((t : ℕ) → t ≢ txn → now t ≡ of t) → AreListed now listed
listed_same {A} of now listed txn are none here others = record { rise = are.rise; some = are.some; each = λ t. from t (eqb_tells txn t) }
  where
    from : (t : ℕ) → Tells txn t → listed_at t listed ≡ now t
    from t (inl same) = subst (λ (n : ℕ). listed_at n listed ≡ now n) same.1 (listed_none listed txn none ∙ sym here)
    from t (inr other) = are.each t ∙ sym (others t (λ is. other.1 (sym is)))

among_last : {A : Type 0} (xs : List (ℕ × A)) (o : ℕ × A) → is_among (map number_of (xs ++ o ∷ [])) o.0 ≡ true
among_last [] o = ap (λ (b : Bool). b || false) (same_test o.0)
  where
    same_test : (n : ℕ) → (n == n) ≡ true
    same_test n = grind (arith, nat_tests)
among_last (x ∷ xs) o = from (x.0 == o.0) (among_last xs o)
  where
    from : (b : Bool) → is_among (map number_of (xs ++ o ∷ [])) o.0 ≡ true → (b || is_among (map number_of (xs ++ o ∷ [])) o.0) ≡ true
    from true rest = refl
    from false rest = rest

among_other : {A : Type 0} (xs : List (ℕ × A)) (o : ℕ × A) (t : ℕ) → (o.0 == t) ≡ false → is_among (map number_of (xs ++ o ∷ [])) t ≡ is_among (map number_of xs) t
among_other [] o t other = both_not (o.0 == t) false other refl
among_other (x ∷ xs) o t other = ap (λ (b : Bool). (x.0 == t) || b) (among_other xs o t other)

-- of this kind just those of a list are open
abbrev pub AreOpen : {A : Type 0} → Bool → Table → List (ℕ × A) → Type 0
AreOpen kind table xs = (t : ℕ) → is_open kind (open_at table t) ≡ is_among (map number_of xs) t

-- one more of the kind
pub open_more : {A : Type 0} (kind : Bool) (txn : ℕ) (listed : Listed) (old new : Table) (xs : List (ℕ × A)) (items : A) → Lists txn listed old new → ((room : ℕ) → is_open kind (Some (record { listed = listed; room = room })) ≡ true) → AreOpen kind old xs
    → AreOpen kind new (xs ++ (txn, items) ∷ [])
open_more {A} kind txn listed old new xs items lists kind_is are = λ t. from t (eqb_tells txn t)
  where
    from : (t : ℕ) → Tells txn t → is_open kind (open_at new t) ≡ is_among (map number_of (xs ++ (txn, items) ∷ [])) t
    from t (inl same) =
        subst (λ (n : ℕ). is_open kind (open_at new n) ≡ is_among (map number_of (xs ++ (txn, items) ∷ [])) n) same.1 (ap (is_open kind) lists.here.1 ∙ (kind_is lists.here.0 ∙ sym (among_last xs (txn, items))))
    from t (inr other) = ap (is_open kind) (lists.others t (λ is. other.1 (sym is))) ∙ (are t ∙ sym (among_other xs (txn, items) t other.0))

-- one more of the other kind
pub open_same : {A : Type 0} (kind : Bool) (txn : ℕ) (listed : Listed) (old new : Table) (xs : List (ℕ × A)) → Lists txn listed old new → ((room : ℕ) → is_open kind (Some (record { listed = listed; room = room })) ≡ false) → is_among (map number_of xs) txn ≡ false
    → AreOpen kind old xs → AreOpen kind new xs
open_same {A} kind txn listed old new xs lists kind_is none are = λ t. from t (eqb_tells txn t)
  where
    from : (t : ℕ) → Tells txn t → is_open kind (open_at new t) ≡ is_among (map number_of xs) t
    from t (inl same) = subst (λ (n : ℕ). is_open kind (open_at new n) ≡ is_among (map number_of xs) n) same.1 (ap (is_open kind) lists.here.1 ∙ (kind_is lists.here.0 ∙ sym none))
    from t (inr other) = ap (is_open kind) (lists.others t (λ is. other.1 (sym is))) ∙ are t

-- what is open of neither kind is not open
pub closed_none : (o : Option Open) → is_open true o ≡ false → is_open false o ≡ false → o ≡ None
closed_none None puts takes = refl
closed_none (Some o) puts takes = absurd (by (is_puts o.listed) puts takes)
  where
    by : (b : Bool) → b ≡ false → not b ≡ false → ⊥
    by true one two = absurd (cc)
    by false one two = absurd (cc)
