-- The numbers of rows are within limits, and each row is of one sink or of a group.
use Rattle.std.proofs.Common.{◌≡◌, ◌∙◌, ◌<◌, ◌≤◌, ℕ, zero, suc, List, [], ◌∷◌, All, Option, Some, None, fold, length, map, min, slice_get, slice_index, sym, ap, subst, arith}
use Rattle.std.proofs.lemmas.List.Elements.{All-append, All-cons, All-head, All-nil, All-tail}
use Rattle.std.proofs.lemmas.Option.{slice_get_within}
use Rattle.agent_plan.specs.declared.plan.GroupPlan.{GroupPlan}
use Rattle.agent_plan.specs.declared.plan.SinkPlan.{SinkPlan}
use Rattle.grouped_sinks.specs.Frames.{HasGroup, IsFit}
use Rattle.grouped_sinks.specs.Rows.{AreRows, AreThere, IsLone, IsOfGroup, Zips, batch_at, has_sinks, is_lone, places_where}
use Rattle.grouped_sinks.specs.declared.row.SinkRow.{SinkRow}

all_zipped : (R : ℕ → SinkRow → Type 0) (P : SinkRow → Type 0) → ((n : ℕ) (row : SinkRow) → R n row → P row) → (ns : List ℕ) (rows : List SinkRow) → Zips R ns rows → All P rows
all_zipped R P f [] [] z = All-nil P
all_zipped R P f [] (row ∷ rows) z = absurd z
all_zipped R P f (n ∷ ns) [] z = absurd z
all_zipped R P f (n ∷ ns) (row ∷ rows) z = All-cons P row rows (f n row z.0) (all_zipped R P f ns rows z.1)

-- what is so of each row of a sink and of each row of a group is so of all
each_row : (sinks : List SinkPlan) (groups : List GroupPlan) (rows : List SinkRow) (P : SinkRow → Type 0) → AreRows sinks groups rows
    → ((place : ℕ) (row : SinkRow) → IsLone sinks place row → P row) → ((at : ℕ) (row : SinkRow) → IsOfGroup sinks groups at row → P row) → All P rows
each_row sinks groups rows P are lone grouped =
    subst (All P) (sym are.whole)
    (All-append P are.lone are.grouped
    (all_zipped (IsLone sinks) P lone (places_where (is_lone groups) (length sinks)) are.lone are.alone)
    (all_zipped (IsOfGroup sinks groups) P grouped (places_where (has_sinks groups) (length groups)) are.grouped are.together))

-- what is so of all is so of the one at a place
pub all_there : {A : Type 0} (P : A → Type 0) (xs : List A) (i : ℕ) (x : A) → All P xs → slice_get xs i ≡ Some x → P x
all_there P [] i x all here = absurd (cc)
all_there {A} P (y ∷ xs) zero x all here = let same : y ≡ x = cc in subst P same (All-head P y xs all)
all_there P (y ∷ xs) (suc i) x all here = all_there P xs i x (All-tail P y xs all) here

-- what is so of a number of each sink is so of that of the sink at a place
number_at : (number : SinkPlan → ℕ) (P : ℕ → Type 0) (sinks : List SinkPlan) → All (λ (s : SinkPlan). P (number s)) sinks → (place : ℕ) → place < length sinks → P (slice_index (map number sinks) place)
number_at number P [] all place low = absurd (omega (arith, low))
number_at number P (s ∷ sinks) all zero low = All-head (λ (s : SinkPlan). P (number s)) s sinks all
number_at number P (s ∷ sinks) all (suc place) low = number_at number P sinks (All-tail (λ (s : SinkPlan). P (number s)) s sinks all) place (omega (arith, low))

module _ (sinks : List SinkPlan) (groups : List GroupPlan) (rows : List SinkRow) (there : AreThere (length sinks) groups) (are : AreRows sinks groups rows) where
  members_there : (at : ℕ) (row : SinkRow) (is : IsOfGroup sinks groups at row) → All (λ place. place < length sinks) (is.first ∷ is.others)
  members_there at row is =
      subst (All (λ place. place < length sinks)) is.split (all_there (λ (g : GroupPlan). All (λ place. place < length sinks) g.sinks.items) groups at is.group there is.here)

  -- The channel of each row is one of so many, where that of each sink is.
  pub rows_named : (count : ℕ) → All (λ (s : SinkPlan). s.channel < count) sinks → All (λ (row : SinkRow). row.channel < count) rows
  rows_named count named =
      each_row sinks groups rows (λ (row : SinkRow). row.channel < count) are
      (λ place row is. subst (λ (n : ℕ). n < count) (sym is.channel) (number_at (λ (s : SinkPlan). s.channel) (λ n. n < count) sinks named place (slice_get_within sinks place is.sink is.here)))
      (λ at row is. subst (λ (n : ℕ). n < count) (sym is.channel)
      (number_at (λ (s : SinkPlan). s.channel) (λ n. n < count) sinks named is.first (All-head (λ place. place < length sinks) is.first is.others (members_there at row is))))

  fold_some : (some : All (λ (s : SinkPlan). 1 ≤ s.batch) sinks) (least : ℕ) (places : List ℕ) → 1 ≤ least → All (λ place. place < length sinks) places
      → 1 ≤ fold (λ least place. min least (batch_at sinks place)) least places
  fold_some some least [] low below = low
  fold_some some least (place ∷ places) low below =
      let here : 1 ≤ batch_at sinks place = number_at (λ (s : SinkPlan). s.batch) (λ n. 1 ≤ n) sinks some place (All-head (λ place. place < length sinks) place places below) in
      fold_some some (min least (batch_at sinks place)) places (omega (arith, low, here)) (All-tail (λ place. place < length sinks) place places below)

  -- Each row takes an event at least at a time, where each sink does.
  pub rows_some : All (λ (s : SinkPlan). 1 ≤ s.batch) sinks → All (λ (row : SinkRow). 1 ≤ row.batch) rows
  rows_some some =
      each_row sinks groups rows (λ (row : SinkRow). 1 ≤ row.batch) are
      (λ place row is. subst (λ (n : ℕ). 1 ≤ n) (sym is.batch) (number_at (λ (s : SinkPlan). s.batch) (λ n. 1 ≤ n) sinks some place (slice_get_within sinks place is.sink is.here)))
      (λ at row is. let below = members_there at row is in
      subst (λ (n : ℕ). 1 ≤ n) (sym is.batch)
      (fold_some some (batch_at sinks is.first) is.others
      (number_at (λ (s : SinkPlan). s.batch) (λ n. 1 ≤ n) sinks some is.first (All-head (λ place. place < length sinks) is.first is.others below))
      (All-tail (λ place. place < length sinks) is.first is.others below)))

one_place : (group : Option ℕ) (places : List ℕ) (place : ℕ) → group ≡ None → places ≡ place ∷ [] → (groups : List GroupPlan) → HasGroup groups group places
one_place None places place none is groups = ap length is
one_place (Some at) places place none is groups = absurd (cc)

of_group : (groups : List GroupPlan) (group : Option ℕ) (places : List ℕ) (at : ℕ) (g : GroupPlan) → group ≡ Some at → slice_get groups at ≡ Some g → places ≡ g.sinks.items → 0 < length places
    → length g.priorities.items ≡ length places → HasGroup groups group places
of_group groups None places at g is here same some many = absurd (cc)
of_group groups (Some k) places at g is here same some many = let k_is : k ≡ at = cc in (g, subst (λ (n : ℕ). slice_get groups n ≡ Some g) (sym k_is) here, same, some, many)

-- Each row is of one sink, or of those of a group that has as many priorities, where each group has.
pub rows_fit : (sinks : List SinkPlan) (groups : List GroupPlan) (rows : List SinkRow) → All (λ (g : GroupPlan). length g.priorities.items ≡ length g.sinks.items) groups → AreRows sinks groups rows
    → All (IsFit groups) rows
rows_fit sinks groups rows weighed are =
    each_row sinks groups rows (IsFit groups) are
    (λ place row is. one_place row.group row.places.items place is.alone is.places groups)
    (λ at row is. of_group groups row.group row.places.items at is.group is.grouped is.here is.places
    (subst (λ (n : ℕ). 0 < n) (sym (ap length is.places ∙ ap length is.split)) (omega arith))
    (all_there (λ (g : GroupPlan). length g.priorities.items ≡ length g.sinks.items) groups at is.group weighed is.here ∙ sym (ap length is.places)))
