-- Members in the order of their ranks.
use Rattle.std.proofs.Common.{◌≡◌, ◌∙◌, ap, sym, refl, ℕ, zero, suc, ◌+◌, ◌<◌, ◌≤◌, ◌⊎◌, inl, inr, List, [], ◌∷◌, ◌++◌, map, length, get_or, Bool, true, false, arith}
use Rattle.std.specs.List.{All, AllPairs, range_with_len}
use Rattle.std.specs.List.Sorted.{IsSortedBy, IsPermutation}
use Rattle.std.specs.Cmp.{IsStrictWeakOrder}
use Rattle.std.specs.Ordering.{nat_cmp, ordering_then, is_lt}
use Rattle.std.specs.declared.cmp.Reverse.{Reverse}
use Rattle.std.proofs.lemmas.List.{get_or-map, length-map}
use Rattle.std.proofs.lemmas.List.Sorted.{sorted_far, IsPermutation-map, All-permutation, length_permutation}
use Rattle.std.proofs.lemmas.List.Elements.{All-nil, All-cons}
use Rattle.sink_groups.specs.declared.rules.GroupKind.{GroupKind}
use Rattle.sink_groups.specs.Ranking.{GoesBefore, IsRanking, priority_of}

-- a priority and the member that has it
abbrev pub Rank : Type 0
Rank = Reverse ℕ × ℕ

abbrev before : (p m q n : ℕ) → Bool
before p m q n = is_lt (ordering_then (nat_cmp q p) (nat_cmp m n))

abbrev below : Rank → Rank → Bool
below x y = before x.0.0 x.1 y.0.0 y.1

one_way : (p m q n : ℕ) → before p m q n ≡ true → before q n p m ≡ false
one_way p m q n e = grind (arith)

apart : (p m q n : ℕ) → before p m q n ≡ false → (p < q) ⊎ ((p ≡ q) × (n ≤ m))
apart p m q n e = grind (arith)

kept : (p m q n : ℕ) → (p < q) ⊎ ((p ≡ q) × (n ≤ m)) → before p m q n ≡ false
kept p m q n (inl less) = grind (arith)
kept p m q n (inr same) = grind (arith)

further : (p m q n r o : ℕ) → (p < q) ⊎ ((p ≡ q) × (n ≤ m)) → (q < r) ⊎ ((q ≡ r) × (o ≤ n)) → (p < r) ⊎ ((p ≡ r) × (o ≤ m))
further p m q n r o (inl a) (inl b) = inl (omega arith)
further p m q n r o (inl a) (inr b) = inl (omega arith)
further p m q n r o (inr a) (inl b) = inl (omega arith)
further p m q n r o (inr a) (inr b) = inr (omega arith, omega arith)

chain : (p m q n r o : ℕ) → before p m q n ≡ false → before q n r o ≡ false → before p m r o ≡ false
chain p m q n r o e f = kept p m r o (further p m q n r o (apart p m q n e) (apart q n r o f))

is_order : IsStrictWeakOrder below
is_order = record { one_way = λ x y e. one_way x.0.0 x.1 y.0.0 y.1 e; chain = λ x y z e f. chain x.0.0 x.1 y.0.0 y.1 z.0.0 z.1 e f }

first_of_two : (p q m n : ℕ) → (q < p) ⊎ ((q ≡ p) × (m ≤ n)) → (q < p) ⊎ ((p ≡ q) × (m ≤ n))
first_of_two p q m n (inl higher) = inl higher
first_of_two p q m n (inr same) = inr (sym same.0, same.1)

range-push : (a n : ℕ) → range_with_len a (suc n) ≡ range_with_len a n ++ (a + n) ∷ []
range-push a zero = ap (λ (x : ℕ). x ∷ []) (omega arith)
range-push a (suc n) = ap (λ (l : List ℕ). a ∷ l) (range-push (a + 1) n ∙ ap (λ (x : ℕ). range_with_len (a + 1) n ++ x ∷ []) (omega arith))

-- one member more is the next number at the end
pub range-all : (n : ℕ) → range_with_len 0 (suc n) ≡ range_with_len 0 n ++ n ∷ []
range-all n = range-push 0 n ∙ ap (λ (x : ℕ). range_with_len 0 n ++ x ∷ []) (omega arith)

module _ (priority : ℕ → ℕ) (ranks : List Rank) (true_to : All (λ r. (r.0).0 ≡ priority r.1) ranks) (sorted : IsSortedBy below ranks) where
  pair_sorted : (i j : ℕ) (d : Rank) → i < j → j < length ranks → GoesBefore priority (get_or ranks i d).1 (get_or ranks j d).1
  pair_sorted i j d rises within =
      let a = get_or ranks i d in
      let b = get_or ranks j d in
      let far : below b a ≡ false = sorted_far below is_order ranks sorted i j d (omega arith) within in
      rw (sym (true_to i d (omega arith)), sym (true_to j d within)) (first_of_two (a.0).0 (b.0).0 a.1 b.1 (apart (b.0).0 b.1 (a.0).0 a.1 far))

  -- members of sorted ranks go before each other by priority
  pub members_sorted : AllPairs (GoesBefore priority) (map (λ (r : Rank). r.1) ranks)
  members_sorted i j d rises within =
      let e : Rank = (record { 0 = 0 }, d) in
      let inside : j < length ranks = omega (arith, length-map ranks (λ (r : Rank). r.1)) in
      rw (get_or-map (λ (r : Rank). r.1) ranks i e d (omega arith), get_or-map (λ (r : Rank). r.1) ranks j e d inside) (pair_sorted i j e rises inside)

-- the members of sorted ranks are in order
pub ranked : (kind : GroupKind) (priorities : List ℕ) (ranks sorted : List Rank) → map (λ (r : Rank). r.1) ranks ≡ range_with_len 0 (length priorities) → All (λ r. (r.0).0 ≡ priority_of kind priorities r.1) ranks → IsPermutation ranks sorted → IsSortedBy below sorted → IsRanking kind priorities (map (λ (r : Rank). r.1) sorted)
ranked kind priorities ranks sorted members true_to permutation order = record {
  all = rw members at (IsPermutation-map (λ (r : Rank). r.1) ranks sorted permutation);
  sorted = members_sorted (priority_of kind priorities) sorted (All-permutation (λ r. (r.0).0 ≡ priority_of kind priorities r.1) ranks sorted permutation true_to) order;
}

length-range : (a n : ℕ) → length (range_with_len a n) ≡ n
length-range a zero = refl
length-range a (suc n) = ap (λ (x : ℕ). suc x) (length-range (a + 1) n)

range_below : (a n most : ℕ) → a + n ≤ most → All (λ m. m < most) (range_with_len a n)
range_below a zero most fits = All-nil (λ m. m < most)
range_below a (suc n) most fits = All-cons (λ m. m < most) a (range_with_len (a + 1) n) (omega arith) (range_below (a + 1) n most (omega arith))

module _ (kind : GroupKind) (priorities ranking : List ℕ) (is : IsRanking kind priorities ranking) where
  -- as many members are ranked as have priorities
  pub length-ranking : length ranking ≡ length priorities
  length-ranking = length_permutation (range_with_len 0 (length priorities)) ranking is.all ∙ length-range 0 (length priorities)

  -- only members of the group are ranked
  pub ranking_below : All (λ m. m < length priorities) ranking
  ranking_below = All-permutation (λ m. m < length priorities) (range_with_len 0 (length priorities)) ranking is.all (range_below 0 (length priorities) (length priorities) (omega arith))
