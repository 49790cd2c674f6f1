-- Where nothing is at fault, each name stands for what is there.
use Rattle.std.proofs.Common.{◌≡◌, ◌<◌, ◌+◌, ℕ, suc, Bool, true, false, not, cond, ◌||◌, List, [], ◌∷◌, ◌++◌, length, map, drop, All, Option, Some, None, Ok, codes, nat_eq, refl, sym, ap, ◌∙◌, subst, arith}
use Rattle.std.specs.List.{starts_with}
use Rattle.std.specs.Str.{bytes_eq}
use Rattle.std.specs.declared.string.String.{String}
use Rattle.std.specs.declared.vec.Vec.{Vec}
use Rattle.std.specs.declared.alloc.Global.{Global}
use Rattle.std.proofs.lemmas.Bool.{and_parts, false≢true}
use Rattle.std.proofs.lemmas.List.{length-map}
use Rattle.std.proofs.lemmas.List.Elements.{All-nil, All-cons, All-tail, All-append, All-map, All-weaker, All-head}
use Rattle.prop_text.specs.Pairs.{Pair}
use Rattle.prop_text.specs.Winners.{lookup}
use Rattle.selectors.specs.declared.selector.Selector.{Selector}
use Rattle.selectors.specs.declared.selector.Selector.TheVariants.{Replicating, Multiplexing}
use Rattle.agent_plan.specs.declared.plan.Plan.{Plan}
use Rattle.agent_plan.specs.declared.plan.SourcePlan.{SourcePlan}
use Rattle.plan_judging.specs.declared.findings.FaultKind.TheVariants.{UnknownType, UnknownName}
use Rattle.plan_judging.specs.Words.{words, is_among, all_among}
use Rattle.plan_judging.specs.Candidates.{Candidates, Seen, nothing, each, ◌⊕◌}
use Rattle.plan_judging.specs.Rows.{is_type, when, one_fault, of_kind, judged_pair, row, twice, unknown, names_row, judged_names_of}
use Rattle.plan_judging.specs.declared.rules.Rule.TheVariants.{SelectorKind, SourceKind}
use Rattle.plan_judging.specs.Components.{first_times, once, words_of, names_in, steps, source, source_by_kind, selector, selector_by_kind, multiplexing, channels_row, channels_rows, channels_key, judged_channels, front_of}
use Rattle.plan_judging.specs.Claims.{clashes}
use Rattle.agent_plan.specs.Patterns.{asked_of, bad_ones}
use Rattle.plan_judging.specs.Agents as agents
use Rattle.plan_judging.specs.Agents.{candidates_of, components_of, claims_of, lists, source_named, channel_named, sink_named, group_named}
use Rattle.agent_plan.specs.Faults.{candidates, first_fault}
use Rattle.agent_plan.specs.Values.{Match, IsSource, IsSelector, SourceNamed, ChannelNamed, place_of, places_at, mapped_at, mapped, seen_pair, text_of}
use Rattle.agent_plan.specs.Plans.{Plans, IsJudged}
use Rattle.agent_plan.proofs.First.{first_is_first}
use Rattle.agent_plan.specs.Laws.{IsFirst}
use Rattle.source_put.specs.Accepts.{NamesBelow}
use Rattle.plan_laws.specs.Names.{IsWithin}

-- Nothing is at fault.
abbrev pub Clean : Candidates → Type 0
Clean c = c.faults ≡ []

-- where two lists together have nothing, neither has anything
pub none_of : {A : Type 0} (xs ys : List A) → xs ++ ys ≡ [] → (xs ≡ []) × (ys ≡ [])
none_of [] ys h = (refl, h)
none_of (x ∷ xs) ys h = (cc, cc)

-- where nothing is at fault in two parts, nothing is in each
pub both_clean : (a b : Candidates) → Clean (a ⊕ b) → Clean a × Clean b
unfolding ◌⊕◌
both_clean a b h = none_of a.faults b.faults h

-- Lists of names.
abbrev pub IsNamed : List (List ℕ) → List ℕ → Type 0
IsNamed others name = is_among name others ≡ true

all_named : (names others : List (List ℕ)) → all_among names others ≡ true → All (IsNamed others) names
all_named [] others h = All-nil (IsNamed others)
all_named (name ∷ names) others h =
    let parts = and_parts (is_among name others) (all_among names others) h in All-cons (IsNamed others) name names parts.0 (all_named names others parts.1)

by_verdict : (known : Bool) (line : ℕ) → Clean (cond known nothing (one_fault line UnknownName)) → known ≡ true
by_verdict true line h = refl
by_verdict false line h = absurd cc

-- a list of names with no fault names only what is there
pub known_names : (line : ℕ) (names others : List (List ℕ)) → Clean (unknown line names others) → All (IsNamed others) names
known_names line names others h = all_named names others (by_verdict (all_among names others) line h)

either : (P : List ℕ → Type 0) (seen : Bool) (name : List ℕ) (rest : List (List ℕ)) → P name → All P rest → All P (cond seen rest (name ∷ rest))
either P true name rest p h = h
either P false name rest p h = All-cons P name rest p h

-- what holds of all names holds of those that stand for the first time
pub kept : (P : List ℕ → Type 0) (before names : List (List ℕ)) → All P names → All P (first_times before names)
kept P before [] h = h
kept P before (name ∷ names) h =
    either P (is_among name before) name (first_times (before ++ name ∷ []) names) (All-head P name names h) (kept P (before ++ name ∷ []) names (All-tail P name names h))

-- The place of a name.
one_place : (same : Bool) (more : Bool) (rest n : ℕ) → (more ≡ true → rest < n) → (same || more) ≡ true → cond (not same) (1 + rest) 0 < suc n
one_place true more rest n below h = omega arith
one_place false more rest n below h = let less = below h in omega (arith, less)

-- the place of a name that is there is one of the list's places
pub place_below : (others : List (List ℕ)) (name : List ℕ) → is_among name others ≡ true → place_of others name < length others
place_below [] name h = absurd (false≢true h)
place_below (other ∷ others) name h = one_place (bytes_eq name other) (is_among name others) (place_of others name) (length others) (place_below others name) h

places_below : (others names : List (List ℕ)) → All (IsNamed others) names → All (λ place. place < length others) (map (place_of others) names)
places_below others names h =
    All-map (λ place. place < length others) (place_of others) names (All-weaker (IsNamed others) (λ name. place_of others name < length others) (place_below others) names h)

once_below : (others : List (List ℕ)) (line : ℕ) (text : List ℕ) → Clean (unknown line (words text) others) → All (λ place. place < length others) (map (place_of others) (once (words text)))
once_below others line text h = places_below others (once (words text)) (kept (IsNamed others) [] (words text) (known_names line (words text) others h))

-- A list of channels.
judged_below : (others : List (List ℕ)) (p : Pair) → Clean (judged_channels others (Some p)) → All (λ place. place < length others) (map (place_of others) (once (words p.value)))
judged_below others p h = once_below others p.line p.value (both_clean (twice p.line (words p.value)) (unknown p.line (words p.value) others) h).1

row_below : (others : List (List ℕ)) (o : Option Pair) → Clean (judged_channels others o) → All (λ place. place < length others) (map (place_of others) (words_of o))
row_below others None h = All-nil (λ place. place < length others)
row_below others (Some p) h = judged_below others p h

at_key_below : (pairs : List Pair) (at key : List ℕ) (others : List (List ℕ)) → Clean (channels_row pairs at key others) → All (λ place. place < length others) (places_at pairs others (at ++ key))
at_key_below pairs at key others h = row_below others (lookup (at ++ key) pairs) h

-- The channels that the values of a header are mapped to.
module _ (others : List (List ℕ)) (front : List ℕ) where
  abbrev AreBelow : List ℕ × List ℕ → Type 0
  AreBelow pair = All (λ place. place < length others) pair.1

  one_mapped : (begins : Bool) (p : Pair) → Clean (cond begins (judged_channels others (Some p)) nothing) → All AreBelow (cond begins ((drop (length front) p.key, map (place_of others) (once (words p.value))) ∷ []) [])
  one_mapped true p h = All-cons AreBelow (drop (length front) p.key, map (place_of others) (once (words p.value))) [] (judged_below others p h) (All-nil AreBelow)
  one_mapped false p h = All-nil AreBelow

  mapped_below : (pairs : List Pair) → Clean (channels_rows pairs front others) → All AreBelow (mapped pairs others front)
  mapped_below [] h = All-nil AreBelow
  mapped_below (p ∷ pairs) h =
      let parts = both_clean (channels_key front others p) (channels_rows pairs front others) h in
      All-append AreBelow (mapped_at others front p) (mapped pairs others front) (one_mapped (starts_with nat_eq p.key front) p parts.0) (mapped_below pairs parts.1)

all_unmapped : {X Y : Type 0} (f : X → Y) (P : Y → Type 0) (xs : List X) → All P (map f xs) → All (λ x. P (f x)) xs
all_unmapped f P [] h = All-nil (λ x. P (f x))
all_unmapped f P (x ∷ xs) h = All-cons (λ x. P (f x)) x xs (All-head P (f x) (map f xs) h) (all_unmapped f P xs (All-tail P (f x) (map f xs) h))

pairs_below : (pairs : List Pair) (others : List (List ℕ)) (front : List ℕ) (made : List (String Global × Vec ℕ Global)) → Clean (channels_rows pairs front others)
    → map seen_pair made ≡ mapped pairs others front → All (λ pair. All (λ place. place < length others) pair.1.items) made
pairs_below pairs others front made h is =
    all_unmapped seen_pair (AreBelow others front) made (subst (All (AreBelow others front)) (sym is) (mapped_below others front pairs h))

-- Selectors.
one_kind : (replicating multi : Bool) (line : ℕ) → Clean (of_kind line (when (not (replicating || multi)) UnknownType)) → multi ≡ false → replicating ≡ true
one_kind true multi line h e = refl
one_kind false true line h e = absurd (false≢true (sym e))
one_kind false false line h e = absurd cc

second_clean : (multi replicating : Bool) (a b : Candidates) → multi ≡ false → replicating ≡ true → Clean (cond multi a (cond replicating b nothing)) → Clean b
second_clean true replicating a b e f h = absurd (false≢true (sym e))
second_clean false true a b e f h = h
second_clean false false a b e f h = absurd (false≢true f)

first_clean : (multi : Bool) (a b : Candidates) → multi ≡ true → Clean (cond multi a b) → Clean a
first_clean true a b e h = h
first_clean false a b e h = absurd (false≢true e)

module _ (pairs : List Pair) (at : List ℕ) (others : List (List ℕ)) where
  optional_clean : (o : Option Pair) → Clean (judged_pair false (at ++ codes "type") SelectorKind o) → Clean (selector_by_kind pairs at others o) → is_type (codes "multiplexing") (text_of o) ≡ false → Clean (channels_row pairs at (codes "optional") others)
  optional_clean None k h e = h
  optional_clean (Some p) k h e =
      let multi = is_type (codes "multiplexing") p.value in
      let replicating = is_type (codes "replicating") p.value in
      second_clean multi replicating (multiplexing pairs at others) (channels_row pairs at (codes "optional") others) e (one_kind replicating multi p.line k e) h

  multiplexing_clean : (o : Option Pair) → Clean (selector_by_kind pairs at others o) → is_type (codes "multiplexing") (text_of o) ≡ true → Clean (multiplexing pairs at others)
  multiplexing_clean None h e = absurd (false≢true e)
  multiplexing_clean (Some p) h e =
      let other = cond (is_type (codes "replicating") p.value) (channels_row pairs at (codes "optional") others) nothing in
      first_clean (is_type (codes "multiplexing") p.value) (multiplexing pairs at others) other e h

  selector_within : (s : Selector) → Clean (selector pairs at others) → IsSelector pairs at others s → NamesBelow s (length others)
  selector_within (Replicating channels optional) h is =
      let kind = lookup (at ++ codes "type") pairs in
      let parts = both_clean (row pairs at false (codes "type") SelectorKind) (selector_by_kind pairs at others kind) h in
      let below = at_key_below pairs at (codes "optional") others (optional_clean kind parts.0 parts.1 is.0) in
      (omega (arith, is.1), subst (All (λ place. place < length others)) (sym is.2) below)
  selector_within (Multiplexing header mapping default optional) h is =
      let kind = lookup (at ++ codes "type") pairs in
      let of_default = channels_row pairs at (codes "default") others in
      let of_mapping = channels_rows pairs (at ++ codes "mapping.") others in
      let of_optional = channels_rows pairs (at ++ codes "optional.") others in
      let parts = both_clean (row pairs at false (codes "type") SelectorKind) (selector_by_kind pairs at others kind) h in
      let two = both_clean (of_default ⊕ of_mapping) of_optional (multiplexing_clean kind parts.1 is.0) in
      let one = both_clean of_default of_mapping two.0 in (
        pairs_below pairs others (at ++ codes "mapping.") mapping.items one.1 is.2,
        subst (All (λ place. place < length others)) (sym is.3) (at_key_below pairs at (codes "default") others one.0),
        pairs_below pairs others (at ++ codes "optional.") optional.items two.1 is.4,
      )

-- Sources.
pub listed_below : (key : List ℕ) (others : List (List ℕ)) (o : Option Pair) → Clean (judged_names_of key others o) → All (λ place. place < length others) (map (place_of others) (words_of o))
listed_below key others None h = All-nil (λ place. place < length others)
listed_below key others (Some p) h = once_below others p.line p.value (both_clean (twice p.line (words p.value)) (unknown p.line (words p.value) others) h).1

module _ (pairs : List Pair) (among : List (List ℕ)) where
  source_within : (at name : List ℕ) (s : SourcePlan) → Clean (source pairs among at) → IsSource pairs at among name s → IsWithin (length among) s
  source_within at name s h is =
      let names = names_in pairs (at ++ codes "channels") in
      let of_type = row pairs at true (codes "type") SourceKind in
      let of_names = names_row pairs at (codes "channels") among in
      let of_steps = steps pairs at in
      let of_selector = selector pairs (at ++ codes "selector.") names in
      let four = both_clean (of_type ⊕ of_names ⊕ of_steps ⊕ of_selector) (source_by_kind pairs at (lookup (at ++ codes "type") pairs)) h in
      let three = both_clean (of_type ⊕ of_names ⊕ of_steps) of_selector four.0 in
      let two = both_clean (of_type ⊕ of_names) of_steps three.0 in
      let one = both_clean of_type of_names two.0 in
      let channels = listed_below (at ++ codes "channels") among (lookup (at ++ codes "channels") pairs) one.1 in
      let within = selector_within pairs (at ++ codes "selector.") names s.selector three.1 is.selector in
      let many : length s.channels.items ≡ length names = ap length is.channels ∙ length-map names (place_of among) in
      (subst (All (λ place. place < length among)) (sym is.channels) channels, subst (NamesBelow s.selector) (sym many) within)

  each_within : (agent : List ℕ) (names : List (List ℕ)) (ss : List SourcePlan) → Clean (each (source_named pairs agent among) names) → Match (SourceNamed pairs agent among) names ss → All (IsWithin (length among)) ss
  each_within agent names [] h are = All-nil (IsWithin (length among))
  each_within agent [] (s ∷ ss) h are = absurd are
  each_within agent (name ∷ names) (s ∷ ss) h are =
      let parts = both_clean (source_named pairs agent among name) (each (source_named pairs agent among) names) h in
      All-cons (IsWithin (length among)) s ss (source_within (front_of agent (codes ".sources.") name) name s parts.0 are.0) (each_within agent names ss parts.1 are.1)

-- as many things were made as there are names
pub as_many : {A : Type 0} (R : List ℕ → A → Type 0) (names : List (List ℕ)) (xs : List A) → Match R names xs → length xs ≡ length names
as_many R [] [] are = refl
as_many R [] (x ∷ xs) are = absurd are
as_many R (name ∷ names) [] are = absurd are
as_many R (name ∷ names) (x ∷ xs) are = ap suc (as_many R names xs are.1)

-- The whole.
module _ (pairs : List Pair) (agent : List ℕ) where
  abbrev pub components : Candidates
  components = components_of pairs agent (agents.sources pairs agent) (agents.channels pairs agent) (agents.sinks pairs agent) (agents.groups pairs agent)

  -- where a plan has no fault, none of its components has one
  pub components_clean : (s : Seen) → IsJudged pairs agent s → s.fault ≡ None → Clean components
  components_clean s found right =
      let sources = agents.sources pairs agent in
      let channels = agents.channels pairs agent in
      let sinks = agents.sinks pairs agent in
      let groups = agents.groups pairs agent in
      let of_lists = lists pairs (agent ++ codes ".") in
      let of_claims = clashes (claims_of pairs agent sources channels sinks groups) in
      let none : first_fault pairs agent found.verdicts ≡ None = sym (ap (λ (x : Seen). x.fault) found.is) ∙ right in
      let all = (candidates pairs agent found.verdicts).faults in
      let clean : Clean (candidates pairs agent found.verdicts) = subst (IsFirst all) none (first_is_first all) in
      let six = both_clean (candidates_of pairs agent sources channels sinks groups) (bad_ones (asked_of pairs agent sources) found.verdicts) clean in
      let five = both_clean (of_lists ⊕ components) of_claims six.0 in
      (both_clean of_lists components five.0).1

  -- the channels that a source and its selector name are there
  pub sources_within : (plan : Plan) → Plans pairs agent (Ok plan) → All (IsWithin (length plan.channels.items)) plan.sources.items
  sources_within plan (is, (s, found, right), made) =
      let channels = agents.channels pairs agent in
      let of_sources = each (source_named pairs agent channels) (agents.sources pairs agent) in
      let of_channels = each (channel_named pairs agent) channels in
      let of_sinks = each (sink_named pairs agent channels) (agents.sinks pairs agent) in
      let of_groups = each (group_named pairs agent (agents.sinks pairs agent)) (agents.groups pairs agent) in
      let three = both_clean (of_sources ⊕ of_channels ⊕ of_sinks) of_groups (components_clean s found right.0) in
      let two = both_clean (of_sources ⊕ of_channels) of_sinks three.0 in
      let within = each_within pairs channels agent (agents.sources pairs agent) plan.sources.items (both_clean of_sources of_channels two.0).0 made.sources in
      let many = as_many (ChannelNamed pairs agent) channels plan.channels.items made.channels in
      subst (λ (n : ℕ). All (IsWithin n) plan.sources.items) (sym many) within
