-- Each sink of a plan is in one row.
use Rattle.std.proofs.Common.{◌≡◌, ◌∙◌, ◌≢◌, ◌⊎◌, inl, inr, ◌<◌, ◌≤◌, ◌==◌, ◌++◌, ◌||◌, append-nil, append_assoc, ℕ, zero, suc, Bool, true, false, cond, not, List, [], ◌∷◌, All, Some, length, take, slice_get, refl, sym, ap, subst, arith, eq-eqb}
use Rattle.std.proofs.lemmas.Bool.Decides.{eqb_tells}
use Rattle.std.proofs.lemmas.List.{take_all}
use Rattle.std.proofs.lemmas.List.Elements.{All-head, All-tail}
use Rattle.std.specs.List.{AllByRecursion, list_any}
use Rattle.agent_plan.specs.declared.plan.GroupPlan.{GroupPlan}
use Rattle.agent_plan.specs.declared.plan.SinkPlan.{SinkPlan}
use Rattle.grouped_sinks.specs.Rows.{AddsIf, AreBelow, AreRows, AreThere, IsAmong, IsLone, IsOfGroup, IsOrder, JoinedBy, Zips, has_sinks, is_empty, is_grouped, is_lone, places_of, places_where}
use Rattle.plan_laws.specs.Once.{AreDistinct, AreOthers, group_places}
use Rattle.grouped_sinks.specs.declared.row.SinkRow.{SinkRow}
use Rattle.grouped_sinks.proofs.Picking.{all_join, zips_push}

-- ---- lists

distinct_join : (xs ys : List ℕ) → AreDistinct xs → AreDistinct ys → AllByRecursion (λ x. AreOthers x ys) xs → AreDistinct (xs ++ ys)
distinct_join [] ys a b apart = b
distinct_join (x ∷ xs) ys a b apart = (all_join (λ other. other ≢ x) xs ys a.0 apart.0, distinct_join xs ys a.1 b apart.1)

among_left : (p : ℕ) (xs ys : List ℕ) → IsAmong p xs → IsAmong p (xs ++ ys)
among_left p [] ys is = absurd is
among_left p (x ∷ xs) ys (inl same) = inl same
among_left p (x ∷ xs) ys (inr is) = inr (among_left p xs ys is)

among_right : (p : ℕ) (xs ys : List ℕ) → IsAmong p ys → IsAmong p (xs ++ ys)
among_right p [] ys is = is
among_right p (x ∷ xs) ys is = inr (among_right p xs ys is)

others_join : (p : ℕ) (xs ys : List ℕ) → AreOthers p xs → AreOthers p ys → AreOthers p (xs ++ ys)
others_join p xs ys a b = all_join (λ other. other ≢ p) xs ys a b

flat_join : (xs ys : List SinkRow) → places_of (xs ++ ys) ≡ places_of xs ++ places_of ys
flat_join [] ys = refl
flat_join (x ∷ xs) ys = ap (λ (l : List ℕ). x.places.items ++ l) (flat_join xs ys) ∙ sym (append_assoc x.places.items (places_of xs) (places_of ys))

groups_join : (xs ys : List GroupPlan) → group_places (xs ++ ys) ≡ group_places xs ++ group_places ys
groups_join [] ys = refl
groups_join (x ∷ xs) ys = ap (λ (l : List ℕ). x.sinks.items ++ l) (groups_join xs ys) ∙ sym (append_assoc x.sinks.items (group_places xs) (group_places ys))

-- ---- whether a group has a place

either : (b c : Bool) → (b || c) ≡ false → (b ≡ false) × (c ≡ false)
either true c is = absurd (cc)
either false c is = (refl, is)

one_other : (q p : ℕ) → (q == p) ≡ false → q ≢ p
one_other q p differ same = let equal = eq-eqb q p same in absurd (cc)

not_among : (p : ℕ) (places : List ℕ) → list_any (λ q. q == p) places ≡ false → AreOthers p places
not_among p [] is = tt
not_among p (q ∷ places) is = let parts = either (q == p) (list_any (λ q. q == p) places) is in (one_other q p parts.0, not_among p places parts.1)

not_grouped : (p : ℕ) (groups : List GroupPlan) → is_grouped groups p ≡ false → AreOthers p (group_places groups)
not_grouped p [] is = tt
not_grouped p (g ∷ groups) is =
    let parts = either (list_any (λ q. q == p) g.sinks.items) (is_grouped groups p) is in
    others_join p g.sinks.items (group_places groups) (not_among p g.sinks.items parts.0) (not_grouped p groups parts.1)

any_or : (b c : Bool) → (b || c) ≡ true → (b ≡ true) ⊎ (c ≡ true)
any_or true c is = inl refl
any_or false c is = inr is

same_one : (q p : ℕ) → (q == p) ≡ true → q ≡ p
same_one q p equal = by (eqb_tells q p)
  where
    by : (((q == p) ≡ true) × (q ≡ p)) ⊎ (((q == p) ≡ false) × (q ≢ p)) → q ≡ p
    by (inl is) = is.1
    by (inr is) = absurd (let differ = is.0 in cc)

among_these : (p : ℕ) (places : List ℕ) → list_any (λ q. q == p) places ≡ true → IsAmong p places
among_these p [] is = absurd (cc)
among_these p (q ∷ places) is = by (among_these p places) (any_or (q == p) (list_any (λ q. q == p) places) is)
  where
    by : (list_any (λ q. q == p) places ≡ true → IsAmong p places) → ((q == p) ≡ true) ⊎ (list_any (λ q. q == p) places ≡ true) → IsAmong p (q ∷ places)
    by rest (inl same) = inl (same_one q p same)
    by rest (inr others) = inr (rest others)

grouped_among : (p : ℕ) (groups : List GroupPlan) → is_grouped groups p ≡ true → IsAmong p (group_places groups)
grouped_among p [] is = absurd (cc)
grouped_among p (g ∷ groups) is = by (grouped_among p groups) (any_or (list_any (λ q. q == p) g.sinks.items) (is_grouped groups p) is)
  where
    by : (is_grouped groups p ≡ true → IsAmong p (group_places groups)) → (list_any (λ q. q == p) g.sinks.items ≡ true) ⊎ (is_grouped groups p ≡ true)
        → IsAmong p (g.sinks.items ++ group_places groups)
    by rest (inl here) = among_left p g.sinks.items (group_places groups) (among_these p g.sinks.items here)
    by rest (inr others) = among_right p g.sinks.items (group_places groups) (rest others)

-- ---- the places that pass

if_one : (b : Bool) (n : ℕ) (P : ℕ → Type 0) → (b ≡ true → P n) → AllByRecursion P (cond b (n ∷ []) [])
if_one true n P is = (is refl, tt)
if_one false n P is = tt

where_all : (passes : ℕ → Bool) (P : ℕ → Type 0) → ((k : ℕ) → passes k ≡ true → P k) → (n : ℕ) → AllByRecursion P (places_where passes n)
where_all passes P is zero = tt
where_all passes P is (suc n) = all_join P (places_where passes n) (cond (passes n) (n ∷ []) []) (where_all passes P is n) (if_one (passes n) n P (is n))

weaker : (P Q : ℕ → Type 0) → ((k : ℕ) → P k → Q k) → (xs : List ℕ) → AllByRecursion P xs → AllByRecursion Q xs
weaker P Q f [] all = tt
weaker P Q f (x ∷ xs) all = (f x all.0, weaker P Q f xs all.1)

where_below : (passes : ℕ → Bool) (n : ℕ) → AreBelow n (places_where passes n)
where_below passes zero = tt
where_below passes (suc n) =
    all_join (λ place. place < suc n) (places_where passes n) (cond (passes n) (n ∷ []) [])
    (weaker (λ place. place < n) (λ place. place < suc n) (λ k low. omega (arith, low)) (places_where passes n) (where_below passes n))
    (if_one (passes n) n (λ place. place < suc n) (λ is. omega arith))

below_other : (n : ℕ) (b : Bool) (x : ℕ) → x < n → AreOthers x (cond b (n ∷ []) [])
below_other n true x low = ((λ same. omega (arith, low, same)), tt)
below_other n false x low = tt

one_distinct : (b : Bool) (n : ℕ) → AreDistinct (cond b (n ∷ []) [])
one_distinct true n = (tt, tt)
one_distinct false n = tt

where_distinct : (passes : ℕ → Bool) (n : ℕ) → AreDistinct (places_where passes n)
where_distinct passes zero = tt
where_distinct passes (suc n) =
    distinct_join (places_where passes n) (cond (passes n) (n ∷ []) []) (where_distinct passes n) (one_distinct (passes n) n)
    (weaker (λ place. place < n) (λ x. AreOthers x (cond (passes n) (n ∷ []) [])) (below_other n (passes n)) (places_where passes n) (where_below passes n))

where_among : (passes : ℕ → Bool) (n p : ℕ) → p < n → passes p ≡ true → IsAmong p (places_where passes n)
where_among passes zero p low is = absurd (omega (arith, low))
where_among passes (suc n) p low is = by (λ lower. where_among passes n p lower is) (eqb_tells p n)
  where
    by : (p < n → IsAmong p (places_where passes n)) → (((p == n) ≡ true) × (p ≡ n)) ⊎ (((p == n) ≡ false) × (p ≢ n)) → IsAmong p (places_where passes n ++ cond (passes n) (n ∷ []) [])
    by rest (inl same) =
        among_right p (places_where passes n) (cond (passes n) (n ∷ []) [])
        (subst (λ (b : Bool). IsAmong p (cond b (n ∷ []) [])) (sym (subst (λ (k : ℕ). passes k ≡ true) same.1 is)) (inl (sym same.1)))
    by rest (inr other) = among_left p (places_where passes n) (cond (passes n) (n ∷ []) []) (rest (let o = other.1 in omega (arith, low, o)))

-- ---- rows

lone_places : (sinks : List SinkPlan) (ps : List ℕ) (rows : List SinkRow) → Zips (IsLone sinks) ps rows → places_of rows ≡ ps
lone_places sinks [] [] z = refl
lone_places sinks [] (row ∷ rows) z = absurd z
lone_places sinks (p ∷ ps) [] z = absurd z
lone_places sinks (p ∷ ps) (row ∷ rows) z = ap (λ (l : List ℕ). l ++ places_of rows) z.0.places ∙ ap (λ (l : List ℕ). p ∷ l) (lone_places sinks ps rows z.1)

record Cut (R : ℕ → SinkRow → Type 0) (xs ys : List ℕ) (rows : List SinkRow) : Type 0 where
  pub front : List SinkRow
  pub back : List SinkRow
  pub whole : rows ≡ front ++ back
  pub first : Zips R xs front
  pub second : Zips R ys back

cut : (R : ℕ → SinkRow → Type 0) (xs ys : List ℕ) (rows : List SinkRow) → Zips R (xs ++ ys) rows → Cut R xs ys rows
cut R [] ys rows z = record { front = []; back = rows; whole = refl; first = tt; second = z }
cut R (x ∷ xs) ys [] z = absurd z
cut R (x ∷ xs) ys (row ∷ rows) z =
    let rest = cut R xs ys rows z.1 in
    record { front = row ∷ rest.front; back = rest.back; whole = ap (λ (l : List SinkRow). row ∷ l) rest.whole; first = (z.0, rest.first); second = rest.second }

-- the group at a place is the last of as many groups and one
last_group : (groups : List GroupPlan) (n : ℕ) → n < length groups → (g : GroupPlan) × (slice_get groups n ≡ Some g) × (take (suc n) groups ≡ take n groups ++ g ∷ [])
last_group [] n low = absurd (omega (arith, low))
last_group (g ∷ groups) zero low = (g, refl, refl)
last_group (g ∷ groups) (suc n) low =
    let rest = last_group groups n (omega (arith, low)) in (rest.0, rest.1, ap (λ (l : List GroupPlan). g ∷ l) rest.2)

-- whether a group has sinks, by its plan
pub no_sinks : (groups : List GroupPlan) (n : ℕ) (g : GroupPlan) → slice_get groups n ≡ Some g → has_sinks groups n ≡ not (is_empty g.sinks.items)
no_sinks [] n g is = absurd (cc)
no_sinks (h ∷ groups) zero g is = let same : h ≡ g = cc in ap (λ (x : GroupPlan). not (is_empty x.sinks.items)) same
no_sinks (h ∷ groups) (suc n) g is = no_sinks groups n g is

empty_is : (places : List ℕ) → not (is_empty places) ≡ false → places ≡ []
empty_is [] is = refl
empty_is (p ∷ places) is = absurd (cc)

some_equal : {A : Type 0} (x y : A) → Some x ≡ Some y → x ≡ y
some_equal x y is = cc

one_group : (sinks : List SinkPlan) (groups : List GroupPlan) (n : ℕ) (g : GroupPlan) (b : Bool) (rows : List SinkRow) → slice_get groups n ≡ Some g → has_sinks groups n ≡ b
    → Zips (IsOfGroup sinks groups) (cond b (n ∷ []) []) rows → places_of rows ≡ g.sinks.items
one_group sinks groups n g true [] here has z = absurd z
one_group sinks groups n g true (row ∷ []) here has z =
    append-nil row.places.items ∙ z.0.places ∙ ap (λ (x : GroupPlan). x.sinks.items) (some_equal z.0.group g (sym z.0.here ∙ here))
one_group sinks groups n g true (row ∷ (other ∷ rows)) here has z = absurd z.1
one_group sinks groups n g false [] here has z = sym (empty_is g.sinks.items (sym (no_sinks groups n g here) ∙ has))
one_group sinks groups n g false (row ∷ rows) here has z = absurd z

group_rows : (sinks : List SinkPlan) (groups : List GroupPlan) (n : ℕ) (rows : List SinkRow) → n ≤ length groups → Zips (IsOfGroup sinks groups) (places_where (has_sinks groups) n) rows
    → places_of rows ≡ group_places (take n groups)
group_rows sinks groups zero [] low z = refl
group_rows sinks groups zero (row ∷ rows) low z = absurd z
group_rows sinks groups (suc n) rows low z =
    let parts = cut (IsOfGroup sinks groups) (places_where (has_sinks groups) n) (cond (has_sinks groups n) (n ∷ []) []) rows z in
    let last = last_group groups n (omega (arith, low)) in
    ap places_of parts.whole ∙ flat_join parts.front parts.back
    ∙ (λ i. group_rows sinks groups n parts.front (omega (arith, low)) parts.first i ++ one_group sinks groups n last.0 (has_sinks groups n) parts.back last.1 refl parts.second i)
    ∙ ap (λ (l : List ℕ). group_places (take n groups) ++ l) (sym (append-nil last.0.sinks.items))
    ∙ sym (groups_join (take n groups) (last.0 ∷ [])) ∙ ap group_places (sym last.2)

below_all : (count : ℕ) (places : List ℕ) → All (λ place. place < count) places → AreBelow count places
below_all count [] all = tt
below_all count (p ∷ places) all = (All-head (λ place. place < count) p places all, below_all count places (All-tail (λ place. place < count) p places all))

groups_below : (count : ℕ) (groups : List GroupPlan) → AreThere count groups → AreBelow count (group_places groups)
groups_below count [] all = tt
groups_below count (g ∷ groups) all =
    all_join (λ place. place < count) g.sinks.items (group_places groups)
    (below_all count g.sinks.items (All-head (λ (g : GroupPlan). All (λ place. place < count) g.sinks.items) g groups all))
    (groups_below count groups (All-tail (λ (g : GroupPlan). All (λ place. place < count) g.sinks.items) g groups all))

no_lone : (b : Bool) → not b ≡ true → b ≡ false
no_lone true is = absurd (cc)
no_lone false is = refl

-- The places of the rows are those of all sinks, each once.
pub rows_apart : (sinks : List SinkPlan) (groups : List GroupPlan) (rows : List SinkRow) → AreThere (length sinks) groups → AreDistinct (group_places groups) → AreRows sinks groups rows
    → IsOrder (length sinks) (places_of rows)
rows_apart sinks groups rows there distinct are = subst (IsOrder (length sinks)) (sym all) (record {
  once = distinct_join lone (group_places groups) (where_distinct (is_lone groups) (length sinks)) distinct
      (where_all (is_lone groups) (λ p. AreOthers p (group_places groups)) (λ k is. not_grouped k groups (no_lone (is_grouped groups k) is)) (length sinks));
  within = all_join (λ place. place < length sinks) lone (group_places groups) (where_below (is_lone groups) (length sinks)) (groups_below (length sinks) groups there);
  all = λ p low. by p low (is_grouped groups p) refl;
})
  where
    lone : List ℕ
    lone = places_where (is_lone groups) (length sinks)

    all : places_of rows ≡ lone ++ group_places groups
    all = ap places_of are.whole ∙ flat_join are.lone are.grouped
        ∙ (λ i. lone_places sinks lone are.lone are.alone i ++ (group_rows sinks groups (length groups) are.grouped (omega arith) are.together ∙ ap group_places (take_all (length groups) groups (omega arith))) i)

    by : (p : ℕ) → p < length sinks → (b : Bool) → is_grouped groups p ≡ b → IsAmong p (lone ++ group_places groups)
    by p low true is = among_right p lone (group_places groups) (grouped_among p groups is)
    by p low false is = among_left p lone (group_places groups) (where_among (is_lone groups) (length sinks) p low (ap not is))

-- one more row, where the next place passes
pub place_more : (R : ℕ → SinkRow → Type 0) (passes : ℕ → Bool) (n : ℕ) (old new : List SinkRow) → Zips R (places_where passes n) old → AddsIf (R n) (passes n) old new
    → Zips R (places_where passes (suc n)) new
place_more R passes n old new z adds = by (passes n) adds
  where
    by : (b : Bool) → AddsIf (R n) b old new → Zips R (places_where passes n ++ cond b (n ∷ []) []) new
    by true (row, is, same) = subst (Zips R (places_where passes n ++ n ∷ [])) (sym same) (zips_push R (places_where passes n) old n row z is)
    by false same = subst (λ (l : List ℕ). Zips R l new) (sym (append-nil (places_where passes n))) (subst (Zips R (places_where passes n)) (sym same) z)

-- the same after rows that were there
pub joined_more : (R : ℕ → SinkRow → Type 0) (passes : ℕ → Bool) (n : ℕ) (old mid new : List SinkRow) → JoinedBy R (places_where passes n) old mid → AddsIf (R n) (passes n) mid new
    → JoinedBy R (places_where passes (suc n)) old new
joined_more R passes n old mid new (more, is, z) adds = by (passes n) adds
  where
    by : (b : Bool) → AddsIf (R n) b mid new → JoinedBy R (places_where passes n ++ cond b (n ∷ []) []) old new
    by true (row, ok, same) = (
      more ++ row ∷ [],
      same ∙ ap (λ (l : List SinkRow). l ++ row ∷ []) is ∙ append_assoc old more (row ∷ []),
      zips_push R (places_where passes n) more n row z ok,
    )
    by false same = (more, same ∙ is, subst (λ (l : List ℕ). Zips R l more) (sym (append-nil (places_where passes n))) z)
