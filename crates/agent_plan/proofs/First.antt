-- The first of some things, by a test that says which of two comes before the other.
use Rattle.std.proofs.Common.{Ordering, Less, Equal, Greater, ◌≡◌, ℕ, zero, suc, ◌≤◌, Bool, true, false, ◌||◌, ◌&&◌, ◌==◌, nat_lt, if◌then◌else◌, List, [], ◌∷◌, fold, Option, Some, None, Contains, refl, sym, ap, ◌∙◌, subst, arith, ⊎_elim}
use Rattle.std.proofs.lemmas.Bool.{cond-true, cond-false, cases_Bool, or_parts, or_from, or_cases, and_parts, and_cases, and_left, and_right, cases_eq, ltb-true, ltb-false, le-ltb, eqb-true, eqb-false, ne_eqb}
use Rattle.std.specs.List.{AllByRecursion}
use Rattle.std.specs.Cmp.{IsTotalOrder}
use Rattle.std.specs.Cmp.Lexicographic.{slice_cmp, nat_list_cmp_total}
use Rattle.std.specs.Ordering.{is_lt, nat_cmp, ordering_reverse}
use Rattle.plan_judging.specs.declared.findings.Fault.{Fault}
use Rattle.plan_judging.specs.Candidates.{rank, precedes, first_of, key_precedes, least_of}
use Rattle.agent_plan.specs.Laws.{IsFirst, IsLeast}

-- o is one of y and xs, and none of them is before it
pub record Found {A : Type 0} (before : A → A → Bool) (y : A) (xs : List A) (o : Option A) : Type 0 where
  pub first : A
  pub is : o ≡ Some first
  pub among : Contains (y ∷ xs) first
  pub none : AllByRecursion (λ g. before g first ≡ false) (y ∷ xs)

behind_second : {A : Type 0} (y x : A) (xs : List A) (r : A) → Contains (y ∷ xs) r → Contains (y ∷ x ∷ xs) r
behind_second y x xs r (zero, lt, is) = (zero, omega arith, is)
behind_second y x xs r (suc k, lt, is) = (suc (suc k), omega (arith, lt), is)

behind_first : {A : Type 0} (y : A) (xs : List A) (r : A) → Contains xs r → Contains (y ∷ xs) r
behind_first y xs r (k, lt, is) = (suc k, omega (arith, lt), is)

module _ {A : Type 0} (before : A → A → Bool) (one_way : (x y : A) → before x y ≡ true → before y x ≡ false) (onward : (x y z : A) → before x y ≡ false → before y z ≡ false → before x z ≡ false) where
  -- the first so far, and one more
  abbrev pub earlier : Option A → A → Option A
  earlier None x = Some x
  earlier (Some y) x = if before x y then Some x else Some y

  -- one of them is found that none of the others comes before
  pub found : (y : A) (xs : List A) → Found before y xs (fold earlier (Some y) xs)
  found y [] = record { first = y; is = refl; among = (zero, omega arith, refl); none = (⊎_elim (λ t. one_way y y t) (λ f. f) (cases_Bool (before y y)), tt) }
  found y (x ∷ xs) = ⊎_elim
      (λ t.
      let rest = found x xs in
      let same = ap (λ (o : Option A). fold earlier o xs) (cond-true (before x y) (Some x) (Some y) t) in
      record {
        first = rest.first;
        is = same ∙ rest.is;
        among = behind_first y (x ∷ xs) rest.first rest.among;
        none = (onward y x rest.first (one_way x y t) rest.none.0, rest.none);
      })
      (λ f.
      let rest = found y xs in
      let same = ap (λ (o : Option A). fold earlier o xs) (cond-false (before x y) (Some x) (Some y) f) in
      record {
        first = rest.first;
        is = same ∙ rest.is;
        among = behind_second y x xs rest.first rest.among;
        none = (rest.none.0, (onward x y rest.first f rest.none.0, rest.none.1));
      })
      (cases_Bool (before x y))

-- Faults: a and b are their lines, r and s their ranks.
abbrev lower : ℕ → ℕ → ℕ → ℕ → Bool
lower a r b s = nat_lt a b || (a == b && nat_lt r s)

abbrev AtLeast : ℕ → ℕ → ℕ → ℕ → Type 0
AtLeast a r b s = (b ≤ a) × (a ≡ b → s ≤ r)

at_least : (a r b s : ℕ) → lower a r b s ≡ false → AtLeast a r b s
at_least a r b s h =
    let parts = or_parts (nat_lt a b) (a == b && nat_lt r s) h in
    (ltb-false a b parts.0, λ e. ⊎_elim (λ x. absurd (eqb-false a b x e)) (λ y. ltb-false r s y) (and_cases (a == b) (nat_lt r s) parts.1))

not_lower : (a r b s : ℕ) → AtLeast a r b s → lower a r b s ≡ false
not_lower a r b s h =
    or_from (nat_lt a b) (a == b && nat_lt r s) (le-ltb a b h.0)
    (⊎_elim (λ e. and_right (a == b) (nat_lt r s) (le-ltb r s (h.1 e))) (λ other. and_left (a == b) (nat_lt r s) (ne_eqb a b other)) (cases_eq a b))

lower_one_way : (a r b s : ℕ) → lower a r b s ≡ true → lower b s a r ≡ false
lower_one_way a r b s h =
    not_lower b s a r
    (⊎_elim
    (λ x. let less = ltb-true a b x in (omega (arith, less), λ e. absurd (omega (arith, less, e))))
    (λ y. let parts = and_parts (a == b) (nat_lt r s) y in let same = eqb-true a b parts.0 in let less = ltb-true r s parts.1 in (omega (arith, same), λ _. omega (arith, less)))
    (or_cases (nat_lt a b) (a == b && nat_lt r s) h))

lower_onward : (a r b s c t : ℕ) → lower a r b s ≡ false → lower b s c t ≡ false → lower a r c t ≡ false
lower_onward a r b s c t h g =
    let p = at_least a r b s h in
    let q = at_least b s c t g in
    not_lower a r c t (
      omega (arith, p.0, q.0),
      λ e.
          let first = p.1 (omega (arith, p.0, q.0, e)) in
          let second = q.1 (omega (arith, p.0, q.0, e)) in
          omega (arith, first, second),
    )

precedes_one_way : (f g : Fault) → precedes f g ≡ true → precedes g f ≡ false
precedes_one_way f g h = lower_one_way f.line (rank f.kind) g.line (rank g.kind) h

precedes_onward : (f g h : Fault) → precedes f g ≡ false → precedes g h ≡ false → precedes f h ≡ false
precedes_onward f g h p q = lower_onward f.line (rank f.kind) g.line (rank g.kind) h.line (rank h.kind) p q

first_steps : (o : Option Fault) (fs : List Fault) → fold first_of o fs ≡ fold (earlier precedes precedes_one_way precedes_onward) o fs
first_steps o [] = refl
first_steps None (f ∷ fs) = first_steps (Some f) fs
first_steps (Some g) (f ∷ fs) = first_steps (first_of (Some g) f) fs

-- the fault that a walk over all faults keeps is the first
pub first_is_first : (fs : List Fault) → IsFirst fs (fold first_of None fs)
first_is_first [] = refl
first_is_first (f ∷ fs) =
    let here = found precedes precedes_one_way precedes_onward f fs in
    subst (IsFirst (f ∷ fs)) (sym (first_steps (Some f) fs ∙ here.is)) (here.among, here.none)

-- Keys.
module _ (order : IsTotalOrder (slice_cmp nat_cmp)) where
  key_one_way_by : (k l : List ℕ) (o : Ordering) → slice_cmp nat_cmp k l ≡ o → is_lt o ≡ true → is_lt (slice_cmp nat_cmp l k) ≡ false
  key_one_way_by k l Less is h = ap is_lt (order.antisymm l k ∙ ap ordering_reverse is)
  key_one_way_by k l Equal is h = cc
  key_one_way_by k l Greater is h = cc

  key_onward_by : (k l m : List ℕ) (o p : Ordering) → slice_cmp nat_cmp k l ≡ o → slice_cmp nat_cmp k m ≡ p → is_lt o ≡ false → is_lt (slice_cmp nat_cmp l m) ≡ false → is_lt p ≡ false
  key_onward_by k l m o Equal is there h g = refl
  key_onward_by k l m o Greater is there h g = refl
  key_onward_by k l m Less Less is there h g = cc
  key_onward_by k l m Equal Less is there h g = let less = sym (order.congr k l m is) ∙ there in sym (ap is_lt less) ∙ g
  key_onward_by k l m Greater Less is there h g = let less = order.trans l k m (order.antisymm l k ∙ ap ordering_reverse is) there in sym (ap is_lt less) ∙ g

key_one_way : (k l : List ℕ) → key_precedes k l ≡ true → key_precedes l k ≡ false
key_one_way k l h = key_one_way_by nat_list_cmp_total k l (slice_cmp nat_cmp k l) refl h

key_onward : (k l m : List ℕ) → key_precedes k l ≡ false → key_precedes l m ≡ false → key_precedes k m ≡ false
key_onward k l m h g = key_onward_by nat_list_cmp_total k l m (slice_cmp nat_cmp k l) (slice_cmp nat_cmp k m) refl refl h g

least_steps : (o : Option (List ℕ)) (ks : List (List ℕ)) → fold least_of o ks ≡ fold (earlier key_precedes key_one_way key_onward) o ks
least_steps o [] = refl
least_steps None (k ∷ ks) = least_steps (Some k) ks
least_steps (Some l) (k ∷ ks) = least_steps (least_of (Some l) k) ks

-- the key that a walk over all keys keeps is the least
pub least_is_least : (ks : List (List ℕ)) → IsLeast ks (fold least_of None ks)
least_is_least [] = refl
least_is_least (k ∷ ks) =
    let here = found key_precedes key_one_way key_onward k ks in
    subst (IsLeast (k ∷ ks)) (sym (least_steps (Some k) ks ∙ here.is)) (here.among, here.none)
