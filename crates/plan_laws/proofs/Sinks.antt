-- Where nothing is at fault and nothing is missing, the channel of a sink and the sinks of a group are there.
use Rattle.std.proofs.Common.{◌≡◌, ◌<◌, ◌≤◌, ℕ, Bool, true, false, not, cond, ◌||◌, List, [], ◌∷◌, ◌++◌, length, nat_lt, All, Option, Some, None, Ok, codes, refl, sym, ap, ◌∙◌, subst, arith}
use Rattle.std.proofs.lemmas.Bool.{ltb-false}
use Rattle.std.proofs.lemmas.List.{length-map}
use Rattle.std.proofs.lemmas.List.Elements.{All-nil, All-cons, All-head}
use Rattle.std.specs.Str.{bytes_eq}
use Rattle.prop_text.specs.Pairs.{Pair}
use Rattle.prop_text.specs.Winners.{lookup}
use Rattle.agent_plan.specs.declared.plan.Plan.{Plan}
use Rattle.agent_plan.specs.declared.plan.SinkPlan.{SinkPlan}
use Rattle.agent_plan.specs.declared.plan.GroupPlan.{GroupPlan}
use Rattle.agent_plan.specs.declared.plan.Processor.TheVariants.{Single, Failover, RoundRobin, Random}
use Rattle.plan_judging.specs.declared.findings.FaultKind.TheVariants.{UnknownType, Unsupported}
use Rattle.plan_judging.specs.declared.rules.Rule.TheVariants.{ProcessorKind, SinkKind}
use Rattle.plan_judging.specs.Words.{is_among}
use Rattle.plan_judging.specs.Candidates.{Candidates, Seen, nothing, each, ◌⊕◌}
use Rattle.plan_judging.specs.Rows.{is_type, when, one_fault, of_kind, judged_pair, row, name_row, names_row, judged_name_of}
use Rattle.plan_judging.specs.Components.{words_of, names_in, sink, sink_by_kind, group, group_by_kind, one_channel, several, failover, load_balance, front_of}
use Rattle.plan_judging.specs.Claims.{clashes}
use Rattle.agent_plan.specs.Patterns.{asked_of, bad_ones}
use Rattle.plan_judging.specs.Agents as agents
use Rattle.plan_judging.specs.Agents.{candidates_of, claims_of, lists, source_named, channel_named, sink_named, group_named}
use Rattle.agent_plan.specs.Faults.{candidates, least_missing}
use Rattle.agent_plan.specs.Values.{Match, SinkWith, GroupWith, SinkNamed, GroupNamed, ChannelNamed, place_of, text_of, text_at, processor_of, priority_of}
use Rattle.agent_plan.specs.Plans.{Plans, IsJudged}
use Rattle.agent_plan.specs.Laws.{IsLeast}
use Rattle.agent_plan.proofs.First.{least_is_least}
use Rattle.plan_laws.specs.Names.{IsGroupWithin}
use Rattle.plan_laws.proofs.Names.{Clean, none_of, both_clean, IsNamed, known_names, place_below, listed_below, as_many, components, components_clean}

-- Nothing is missing.
abbrev Whole : Candidates → Type 0
Whole c = c.missing ≡ []

both_whole : (a b : Candidates) → Whole (a ⊕ b) → Whole a × Whole b
unfolding ◌⊕◌
both_whole a b h = none_of a.missing b.missing h

-- Sinks.
name_known : (key : List ℕ) (others : List (List ℕ)) (o : Option Pair) → Clean (judged_name_of key others o) → Whole (judged_name_of key others o) → is_among (text_of o) others ≡ true
name_known key others None h w = absurd cc
name_known key others (Some p) h w = All-head (IsNamed others) p.value [] (known_names p.line (p.value ∷ []) others h)

module _ (pairs : List Pair) (among : List (List ℕ)) where
  sink_within : (at name : List ℕ) (s : SinkPlan) → Clean (sink pairs among at) → Whole (sink pairs among at) → SinkWith pairs at (place_of among (text_at pairs (at ++ codes "channel"))) name s → s.channel < length among
  sink_within at name s h w is =
      let of_type = row pairs at true (codes "type") SinkKind in
      let of_name = name_row pairs at (codes "channel") among in
      let of_keys = sink_by_kind pairs at (lookup (at ++ codes "type") pairs) in
      let clean = both_clean of_type of_name (both_clean (of_type ⊕ of_name) of_keys h).0 in
      let whole = both_whole of_type of_name (both_whole (of_type ⊕ of_name) of_keys w).0 in
      let o = lookup (at ++ codes "channel") pairs in
      subst (λ (n : ℕ). n < length among) (sym is.channel) (place_below among (text_of o) (name_known (at ++ codes "channel") among o clean.1 whole.1))

  each_sink : (agent : List ℕ) (names : List (List ℕ)) (ss : List SinkPlan) → Clean (each (sink_named pairs agent among) names) → Whole (each (sink_named pairs agent among) names)
      → Match (SinkNamed pairs agent among) names ss → All (λ s. s.channel < length among) ss
  each_sink agent names [] h w are = All-nil (λ s. s.channel < length among)
  each_sink agent [] (s ∷ ss) h w are = absurd are
  each_sink agent (name ∷ names) (s ∷ ss) h w are =
      let clean = both_clean (sink_named pairs agent among name) (each (sink_named pairs agent among) names) h in
      let whole = both_whole (sink_named pairs agent among name) (each (sink_named pairs agent among) names) w in
      All-cons (λ s. s.channel < length among) s ss (sink_within (front_of agent (codes ".sinks.") name) name s clean.0 whole.0 are.0) (each_sink agent names ss clean.1 whole.1 are.1)

-- Groups.
not_several : (more : Bool) (n line : ℕ) → nat_lt 1 n ≡ more → Clean (cond more (one_fault line Unsupported) nothing) → n ≤ 1
not_several true n line is h = absurd cc
not_several false n line is h = ltb-false 1 n is

few : (o : Option Pair) → Clean (several (words_of o) o) → length (words_of o) ≤ 1
few None h = omega arith
few (Some p) h = not_several (nat_lt 1 (length (words_of (Some p)))) (length (words_of (Some p))) p.line refl h

chooses : (random : Bool) → cond random Random RoundRobin ≡ Single → ⊥
chooses true e = absurd cc
chooses false e = absurd cc

default_clean : (fails balances plain random : Bool) (line : ℕ) (a b c : Candidates) → Clean (of_kind line (when (not (plain || fails || balances)) UnknownType))
    → Clean (cond fails a (cond balances b (cond plain c nothing))) → cond fails Failover (cond balances (cond random Random RoundRobin) Single) ≡ Single → Clean c
default_clean true balances plain random line a b c k h e = absurd cc
default_clean false true plain random line a b c k h e = absurd (chooses random e)
default_clean false false true random line a b c k h e = h
default_clean false false false random line a b c k h e = absurd cc

module _ (pairs : List Pair) (at : List ℕ) (members : List (List ℕ)) where
  several_clean : (o : Option Pair) → Clean (judged_pair false (at ++ codes "processor.type") ProcessorKind o) → Clean (group_by_kind pairs at members o)
      → processor_of pairs at (text_of o) ≡ Single → Clean (several members (lookup (at ++ codes "sinks") pairs))
  several_clean None k h e = h
  several_clean (Some p) k h e =
      let fails = is_type (codes "failover") p.value in
      let balances = is_type (codes "load_balance") p.value in
      let plain = is_type (codes "default") p.value in
      let random = bytes_eq (text_at pairs (at ++ codes "processor.selector")) (codes "random") in
      default_clean fails balances plain random p.line (failover pairs at members) (load_balance pairs at) (several members (lookup (at ++ codes "sinks") pairs)) k h e

module _ (pairs : List Pair) (agent : List ℕ) (sinks : List (List ℕ)) where
  group_within : (at name : List ℕ) (g : GroupPlan) → Clean (group pairs agent sinks at) → GroupWith pairs at sinks (names_in pairs (at ++ codes "sinks")) name g → IsGroupWithin (length sinks) g
  group_within at name g h is =
      let members = names_in pairs (at ++ codes "sinks") in
      let kind = lookup (at ++ codes "processor.type") pairs in
      let o = lookup (at ++ codes "sinks") pairs in
      let of_names = names_row pairs at (codes "sinks") sinks in
      let of_type = row pairs at false (codes "processor.type") ProcessorKind in
      let of_keys = group_by_kind pairs at members kind in
      let three = both_clean (of_names ⊕ of_type ⊕ of_keys) (one_channel pairs agent sinks members) h in
      let two = both_clean (of_names ⊕ of_type) of_keys three.0 in
      let one = both_clean of_names of_type two.0 in
      let many : length g.sinks.items ≡ length members = ap length is.sinks ∙ length-map members (place_of sinks) in
      let weighed : length g.priorities.items ≡ length members = ap length is.priorities ∙ length-map members (priority_of pairs at (text_of kind)) in record {
        sinks = subst (All (λ place. place < length sinks)) (sym is.sinks) (listed_below (at ++ codes "sinks") sinks o one.0);
        priorities = weighed ∙ sym many;
        single = λ alone. subst (λ (n : ℕ). n ≤ 1) (sym many) (few o (several_clean pairs at members kind one.1 two.1 (sym is.processor ∙ alone)));
      }

  each_group : (names : List (List ℕ)) (gs : List GroupPlan) → Clean (each (group_named pairs agent sinks) names) → Match (GroupNamed pairs agent sinks) names gs → All (IsGroupWithin (length sinks)) gs
  each_group names [] h are = All-nil (IsGroupWithin (length sinks))
  each_group [] (g ∷ gs) h are = absurd are
  each_group (name ∷ names) (g ∷ gs) h are =
      let clean = both_clean (group_named pairs agent sinks name) (each (group_named pairs agent sinks) names) h in
      All-cons (IsGroupWithin (length sinks)) g gs (group_within (front_of agent (codes ".sinkgroups.") name) name g clean.0 are.0) (each_group names gs clean.1 are.1)

-- The whole.
module _ (pairs : List Pair) (agent : List ℕ) where
  components_whole : (s : Seen) → IsJudged pairs agent s → s.missing ≡ None → Whole (components pairs agent)
  components_whole s found right =
      let sources = agents.sources pairs agent in
      let channels = agents.channels pairs agent in
      let sinks = agents.sinks pairs agent in
      let groups = agents.groups pairs agent in
      let of_lists = lists pairs (agent ++ codes ".") in
      let of_claims = clashes (claims_of pairs agent sources channels sinks groups) in
      let none : least_missing pairs agent found.verdicts ≡ None = sym (ap (λ (x : Seen). x.missing) found.is) ∙ right in
      let all = (candidates pairs agent found.verdicts).missing in
      let whole : Whole (candidates pairs agent found.verdicts) = subst (IsLeast all) none (least_is_least all) in
      let six = both_whole (candidates_of pairs agent sources channels sinks groups) (bad_ones (asked_of pairs agent sources) found.verdicts) whole in
      let five = both_whole (of_lists ⊕ components pairs agent) of_claims six.0 in
      (both_whole of_lists (components pairs agent) five.0).1

  -- the channel that a sink names is there
  pub sinks_within : (plan : Plan) → Plans pairs agent (Ok plan) → All (λ sink. sink.channel < length plan.channels.items) plan.sinks.items
  sinks_within plan (is, (s, found, right), made) =
      let channels = agents.channels pairs agent in
      let sinks = agents.sinks pairs agent in
      let sources = each (source_named pairs agent channels) (agents.sources pairs agent) in
      let of_channels = each (channel_named pairs agent) channels in
      let of_sinks = each (sink_named pairs agent channels) sinks in
      let of_groups = each (group_named pairs agent sinks) (agents.groups pairs agent) in
      let clean = both_clean (sources ⊕ of_channels ⊕ of_sinks) of_groups (components_clean pairs agent s found right.0) in
      let whole = both_whole (sources ⊕ of_channels ⊕ of_sinks) of_groups (components_whole s found right.1) in
      let within =
      each_sink pairs channels agent sinks plan.sinks.items (both_clean (sources ⊕ of_channels) of_sinks clean.0).1 (both_whole (sources ⊕ of_channels) of_sinks whole.0).1 made.sinks
      in
      let many = as_many (ChannelNamed pairs agent) channels plan.channels.items made.channels in
      subst (λ (n : ℕ). All (λ sink. sink.channel < n) plan.sinks.items) (sym many) within

  -- the sinks that a group names are there, each with a priority
  pub groups_within : (plan : Plan) → Plans pairs agent (Ok plan) → All (IsGroupWithin (length plan.sinks.items)) plan.groups.items
  groups_within plan (is, (s, found, right), made) =
      let channels = agents.channels pairs agent in
      let sinks = agents.sinks pairs agent in
      let sources = each (source_named pairs agent channels) (agents.sources pairs agent) in
      let of_channels = each (channel_named pairs agent) channels in
      let of_sinks = each (sink_named pairs agent channels) sinks in
      let of_groups = each (group_named pairs agent sinks) (agents.groups pairs agent) in
      let clean = both_clean (sources ⊕ of_channels ⊕ of_sinks) of_groups (components_clean pairs agent s found right.0) in
      let within = each_group pairs agent sinks (agents.groups pairs agent) plan.groups.items clean.1 made.groups in
      let many = as_many (SinkNamed pairs agent channels) sinks plan.sinks.items made.sinks in
      subst (λ (n : ℕ). All (IsGroupWithin n) plan.groups.items) (sym many) within
