-- No sink of a plan stands in groups twice.
use Rattle.std.proofs.Common.{◌≡◌, ◌∙◌, ◌≢◌, ◌+◌, ℕ, Bool, true, false, not, cond, ◌||◌, ◌&&◌, List, [], ◌∷◌, ◌++◌, map, flat_map, All, Option, Some, None, Ok, codes, refl, sym, ap, subst, arith}
use Rattle.std.specs.List.{AllByRecursion}
use Rattle.std.specs.Str.{bytes_eq}
use Rattle.std.proofs.lemmas.Bool.{false≢true}
use Rattle.std.proofs.lemmas.List.{map-append}
use Rattle.std.proofs.lemmas.List.Elements.{All-append, All-head, All-nil, All-tail}
use Rattle.std.proofs.lemmas.Slice.Eq.{bytes_eq-Decides}
use Rattle.prop_text.specs.Pairs.{Pair}
use Rattle.prop_text.specs.Winners.{lookup}
use Rattle.agent_plan.specs.declared.plan.Plan.{Plan}
use Rattle.agent_plan.specs.declared.plan.GroupPlan.{GroupPlan}
use Rattle.plan_judging.specs.declared.findings.FaultKind.TheVariants.{Clash}
use Rattle.plan_judging.specs.Words.{words, is_among}
use Rattle.plan_judging.specs.Candidates.{Seen, nothing, each, ◌⊕◌}
use Rattle.plan_judging.specs.Claims.{Wish, clash, clashes, group_wish, member_wish}
use Rattle.plan_judging.specs.Components.{front_of, names_in, words_of, group, group_by_kind, one_channel}
use Rattle.plan_judging.specs.Rows.{judged_names_of, names_row, one_fault, row, twice, unknown}
use Rattle.plan_judging.specs.declared.rules.Rule.TheVariants.{ProcessorKind}
use Rattle.plan_judging.specs.Agents as agents
use Rattle.plan_judging.specs.Agents.{candidates_of, channel_claims, claims_of, group_claims, group_named, lists, sink_claims, source_claims, source_named, channel_named, sink_named}
use Rattle.agent_plan.specs.Faults.{candidates, first_fault}
use Rattle.agent_plan.specs.Patterns.{asked_of, bad_ones}
use Rattle.agent_plan.specs.Values.{GroupNamed, Match, place_of}
use Rattle.agent_plan.specs.Plans.{IsJudged, Plans}
use Rattle.agent_plan.specs.Laws.{IsFirst}
use Rattle.agent_plan.proofs.First.{first_is_first}
use Rattle.plan_laws.specs.Once.{AreDistinct, AreOthers, group_places}
use Rattle.plan_laws.proofs.Names.{Clean, IsNamed, both_clean, components, components_clean, kept, known_names}

-- ---- names that differ

-- none of these is the name
abbrev OtherNames : List ℕ → List (List ℕ) → Type 0
OtherNames name names = AllByRecursion (λ (other : List ℕ). other ≡ name → ⊥) names

abbrev Differ : List (List ℕ) → Type 0
Differ [] = Unit {0}
Differ (name ∷ names) = OtherNames name names × Differ names

-- names that are there and stand at one place are the same
same_place : (others : List (List ℕ)) (m n : List ℕ) → is_among m others ≡ true → is_among n others ≡ true → place_of others m ≡ place_of others n → m ≡ n
same_place [] m n a b e = absurd (false≢true a)
same_place (o ∷ others) m n a b e = by (same_place others m n) (bytes_eq m o) (bytes_eq n o) refl refl a b e
  where
    by : (is_among m others ≡ true → is_among n others ≡ true → place_of others m ≡ place_of others n → m ≡ n) → (x y : Bool) → bytes_eq m o ≡ x → bytes_eq n o ≡ y
        → (x || is_among m others) ≡ true → (y || is_among n others) ≡ true → cond (not x) (1 + place_of others m) 0 ≡ cond (not y) (1 + place_of others n) 0 → m ≡ n
    by rest true true p q a b e = (bytes_eq-Decides m o).0 p ∙ sym ((bytes_eq-Decides n o).0 q)
    by rest true false p q a b e = absurd (omega (arith, e))
    by rest false true p q a b e = absurd (omega (arith, e))
    by rest false false p q a b e = rest a b (omega (arith, e))

other_places : (among : List (List ℕ)) (name : List ℕ) (names : List (List ℕ)) → is_among name among ≡ true → All (IsNamed among) names → OtherNames name names
    → AreOthers (place_of among name) (map (place_of among) names)
other_places among name [] here all others = tt
other_places among name (n ∷ names) here all others = (
  λ same. others.0 (same_place among n name (All-head (IsNamed among) n names all) here same),
  other_places among name names here (All-tail (IsNamed among) n names all) others.1,
)

distinct_places : (among names : List (List ℕ)) → All (IsNamed among) names → Differ names → AreDistinct (map (place_of among) names)
distinct_places among [] all differ = tt
distinct_places among (name ∷ names) all differ = (
  other_places among name names (All-head (IsNamed among) name names all) (All-tail (IsNamed among) name names all) differ.0,
  distinct_places among names (All-tail (IsNamed among) name names all) differ.1,
)

-- ---- members of groups, each with the line of its list

abbrev wish_of : ℕ × List ℕ → Wish
wish_of t = member_wish t.0 t.1

by_equal : (b : Bool) (line : ℕ) → Clean (cond (true && b && true) (one_fault line Clash) nothing) → b ≡ false
by_equal true line h = absurd (cc)
by_equal false line h = refl

not_same : (a b : ℕ × List ℕ) → Clean (clash (wish_of a) (wish_of b)) → b.1 ≡ a.1 → ⊥
not_same a b h same =
    let differ : bytes_eq a.1 b.1 ≡ false = by_equal (bytes_eq a.1 b.1) _ h in
    let equal : bytes_eq a.1 b.1 ≡ true = (bytes_eq-Decides a.1 b.1).1 (sym same) in
    false≢true (sym differ ∙ equal)

each_other : (a : ℕ × List ℕ) (ts : List (ℕ × List ℕ)) → Clean (each (clash (wish_of a)) (map wish_of ts)) → OtherNames a.1 (map (λ (t : ℕ × List ℕ). t.1) ts)
each_other a [] h = tt
each_other a (t ∷ ts) h =
    let parts = both_clean (clash (wish_of a) (wish_of t)) (each (clash (wish_of a)) (map wish_of ts)) h in (not_same a t parts.0, each_other a ts parts.1)

all_differ : (ts : List (ℕ × List ℕ)) → Clean (clashes (map wish_of ts)) → Differ (map (λ (t : ℕ × List ℕ). t.1) ts)
all_differ [] h = tt
all_differ (t ∷ ts) h =
    let parts = both_clean (each (clash (wish_of t)) (map wish_of ts)) (clashes (map wish_of ts)) h in (each_other t ts parts.0, all_differ ts parts.1)

clashes_back : (xs ys : List Wish) → Clean (clashes (xs ++ ys)) → Clean (clashes ys)
clashes_back [] ys h = h
clashes_back (x ∷ xs) ys h = clashes_back xs ys (both_clean (each (clash x) (xs ++ ys)) (clashes (xs ++ ys)) h).1

module _ (pairs : List Pair) (agent : List ℕ) where
  key_of : List ℕ → List ℕ
  key_of name = front_of agent (codes ".sinkgroups.") name ++ codes "sinks"

  tagged : Option Pair → List (ℕ × List ℕ)
  tagged None = []
  tagged (Some p) = map (λ (m : List ℕ). (p.line, m)) (words_of (Some p))

  map_map : {A B C : Type 0} (f : B → C) (g : A → B) (xs : List A) → map f (map g xs) ≡ map (λ x. f (g x)) xs
  map_map f g [] = refl
  map_map f g (x ∷ xs) = ap (λ l. f (g x) ∷ l) (map_map f g xs)

  map_same : (xs : List (List ℕ)) → map (λ (m : List ℕ). m) xs ≡ xs
  map_same [] = refl
  map_same (x ∷ xs) = ap (λ (l : List (List ℕ)). x ∷ l) (map_same xs)

  tagged_wish : (o : Option Pair) → group_wish o (words_of o) ≡ map wish_of (tagged o)
  unfolding tagged
  tagged_wish None = refl
  tagged_wish (Some p) = sym (map_map wish_of (λ (m : List ℕ). (p.line, m)) (words_of (Some p)))

  tagged_names : (o : Option Pair) → map (λ (t : ℕ × List ℕ). t.1) (tagged o) ≡ words_of o
  unfolding tagged
  tagged_names None = refl
  tagged_names (Some p) = map_map (λ (t : ℕ × List ℕ). t.1) (λ (m : List ℕ). (p.line, m)) (words_of (Some p)) ∙ map_same (words_of (Some p))

  all_tagged : List (List ℕ) → List (ℕ × List ℕ)
  all_tagged [] = []
  all_tagged (name ∷ names) = tagged (lookup (key_of name) pairs) ++ all_tagged names

  claims_tagged : (names : List (List ℕ)) → flat_map (group_claims pairs agent) names ≡ map wish_of (all_tagged names)
  unfolding key_of all_tagged
  claims_tagged [] = refl
  claims_tagged (name ∷ names) =
      (λ i. tagged_wish (lookup (key_of name) pairs) i ++ claims_tagged names i) ∙ sym (map-append wish_of (tagged (lookup (key_of name) pairs)) (all_tagged names))

  all_members : List (List ℕ) → List (List ℕ)
  all_members [] = []
  all_members (name ∷ names) = names_in pairs (key_of name) ++ all_members names

  members_tagged : (names : List (List ℕ)) → map (λ (t : ℕ × List ℕ). t.1) (all_tagged names) ≡ all_members names
  unfolding all_tagged all_members
  members_tagged [] = refl
  members_tagged (name ∷ names) =
      map-append (λ (t : ℕ × List ℕ). t.1) (tagged (lookup (key_of name) pairs)) (all_tagged names) ∙ (λ i. tagged_names (lookup (key_of name) pairs) i ++ members_tagged names i)

  module _ (sinks : List (List ℕ)) where
    places_of_members : (names : List (List ℕ)) (gs : List GroupPlan) → Match (GroupNamed pairs agent sinks) names gs → group_places gs ≡ map (place_of sinks) (all_members names)
    unfolding key_of all_members
    places_of_members [] [] are = refl
    places_of_members [] (g ∷ gs) are = absurd are
    places_of_members (name ∷ names) [] are = absurd are
    places_of_members (name ∷ names) (g ∷ gs) are =
        (λ i. are.0.sinks i ++ places_of_members names gs are.1 i) ∙ sym (map-append (place_of sinks) (names_in pairs (key_of name)) (all_members names))

    listed_named : (key : List ℕ) (o : Option Pair) → Clean (judged_names_of key sinks o) → All (IsNamed sinks) (words_of o)
    listed_named key None h = All-nil (IsNamed sinks)
    listed_named key (Some p) h =
        kept (IsNamed sinks) [] (words p.value) (known_names p.line (words p.value) sinks (both_clean (twice p.line (words p.value)) (unknown p.line (words p.value) sinks) h).1)

    group_members : (at : List ℕ) → Clean (group pairs agent sinks at) → All (IsNamed sinks) (names_in pairs (at ++ codes "sinks"))
    group_members at h =
        let members = names_in pairs (at ++ codes "sinks") in
        let kind = lookup (at ++ codes "processor.type") pairs in
        let of_names = names_row pairs at (codes "sinks") sinks in
        let of_type = row pairs at false (codes "processor.type") ProcessorKind in
        let of_keys = group_by_kind pairs at members kind in
        let three = both_clean (of_names ⊕ of_type ⊕ of_keys) (one_channel pairs agent sinks members) h in
        let two = both_clean (of_names ⊕ of_type) of_keys three.0 in
        listed_named (at ++ codes "sinks") (lookup (at ++ codes "sinks") pairs) (both_clean of_names of_type two.0).0

    members_named : (names : List (List ℕ)) → Clean (each (group_named pairs agent sinks) names) → All (IsNamed sinks) (all_members names)
    unfolding key_of all_members
    members_named [] h = All-nil (IsNamed sinks)
    members_named (name ∷ names) h =
        let parts = both_clean (group_named pairs agent sinks name) (each (group_named pairs agent sinks) names) h in
        All-append (IsNamed sinks) (names_in pairs (key_of name)) (all_members names) (group_members (front_of agent (codes ".sinkgroups.") name) parts.0) (members_named names parts.1)

  claims_clean : (s : Seen) → IsJudged pairs agent s → s.fault ≡ None
      → Clean (clashes (claims_of pairs agent (agents.sources pairs agent) (agents.channels pairs agent) (agents.sinks pairs agent) (agents.groups pairs agent)))
  claims_clean s found right =
      let sources = agents.sources pairs agent in
      let channels = agents.channels pairs agent in
      let sinks = agents.sinks pairs agent in
      let groups = agents.groups pairs agent in
      let of_claims = clashes (claims_of pairs agent sources channels sinks groups) in
      let none : first_fault pairs agent found.verdicts ≡ None = sym (ap (λ (x : Seen). x.fault) found.is) ∙ right in
      let all = (candidates pairs agent found.verdicts).faults in
      let clean : Clean (candidates pairs agent found.verdicts) = subst (IsFirst all) none (first_is_first all) in
      let six = both_clean (candidates_of pairs agent sources channels sinks groups) (bad_ones (asked_of pairs agent sources) found.verdicts) clean in
      (both_clean (lists pairs (agent ++ codes ".") ⊕ components pairs agent) of_claims six.0).1

  -- no sink of a plan stands in groups twice
  pub sinks_once : (plan : Plan) → Plans pairs agent (Ok plan) → AreDistinct (group_places plan.groups.items)
  sinks_once plan (is, (s, found, right), made) =
      let sources = agents.sources pairs agent in
      let channels = agents.channels pairs agent in
      let sinks = agents.sinks pairs agent in
      let groups = agents.groups pairs agent in
      let of_sources = each (source_named pairs agent channels) sources in
      let of_channels = each (channel_named pairs agent) channels in
      let of_sinks = each (sink_named pairs agent channels) sinks in
      let of_groups = each (group_named pairs agent sinks) groups in
      let named = members_named sinks groups (both_clean (of_sources ⊕ of_channels ⊕ of_sinks) of_groups (components_clean pairs agent s found right.0)).1 in
      let before = (flat_map (source_claims pairs agent) sources ++ flat_map (channel_claims pairs agent) channels) ++ flat_map (sink_claims pairs agent) sinks in
      let back = clashes_back before (flat_map (group_claims pairs agent) groups) (claims_clean s found right.0) in
      let differ = subst Differ (members_tagged groups) (all_differ (all_tagged groups) (subst (λ (ws : List Wish). Clean (clashes ws)) (claims_tagged groups) back)) in
      subst AreDistinct (sym (places_of_members sinks groups plan.groups.items made.groups)) (distinct_places sinks (all_members groups) named differ)
