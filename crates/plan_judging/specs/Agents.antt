-- An agent: what may be at fault in its configuration, its patterns apart.
use Rattle.std.specs.Prelude.{ℕ, Bool, true, false, List, ◌++◌, nat_eq, codes}
use Rattle.std.specs.List.{flat_map, starts_with, list_any}
use Rattle.prop_text.specs.Pairs.{Pair}
use Rattle.prop_text.specs.Winners.{lookup}
use Rattle.plan_judging.specs.Candidates.{Candidates, ◌⊕◌, each}
use Rattle.plan_judging.specs.Rows.{list_row}
use Rattle.plan_judging.specs.Components.{front_of, names_in, source, channel, sink, group}
use Rattle.plan_judging.specs.Claims.{Wish, step_wish, source_wish, channel_wish, sink_wish, group_wish, clashes}

-- some key begins with the agent's name and a dot
abbrev pub is_agent : List Pair → List ℕ → Bool
is_agent pairs agent = list_any (λ p. starts_with nat_eq p.key (agent ++ codes ".")) pairs

abbrev pub sources : List Pair → List ℕ → List (List ℕ)
sources pairs agent = names_in pairs (agent ++ codes ".sources")

abbrev pub channels : List Pair → List ℕ → List (List ℕ)
channels pairs agent = names_in pairs (agent ++ codes ".channels")

abbrev pub sinks : List Pair → List ℕ → List (List ℕ)
sinks pairs agent = names_in pairs (agent ++ codes ".sinks")

abbrev pub groups : List Pair → List ℕ → List (List ℕ)
groups pairs agent = names_in pairs (agent ++ codes ".sinkgroups")

abbrev pub lists : List Pair → List ℕ → Candidates
lists pairs at =
    list_row pairs at true (codes "sources")
    ⊕ list_row pairs at true (codes "channels")
    ⊕ list_row pairs at true (codes "sinks")
    ⊕ list_row pairs at false (codes "sinkgroups")

-- a component by its name
abbrev pub source_named : List Pair → List ℕ → List (List ℕ) → List ℕ → Candidates
source_named pairs agent channels name = source pairs channels (front_of agent (codes ".sources.") name)

abbrev pub channel_named : List Pair → List ℕ → List ℕ → Candidates
channel_named pairs agent name = channel pairs (front_of agent (codes ".channels.") name)

abbrev pub sink_named : List Pair → List ℕ → List (List ℕ) → List ℕ → Candidates
sink_named pairs agent channels name = sink pairs channels (front_of agent (codes ".sinks.") name)

abbrev pub group_named : List Pair → List ℕ → List (List ℕ) → List ℕ → Candidates
group_named pairs agent sinks name = group pairs agent sinks (front_of agent (codes ".sinkgroups.") name)

-- and what it claims
abbrev pub step_claims : List Pair → List ℕ → List ℕ → List Wish
step_claims pairs at name = step_wish (lookup (front_of at (codes "interceptors.") name ++ codes "type") pairs)

abbrev pub source_claims : List Pair → List ℕ → List ℕ → List Wish
source_claims pairs agent name =
    let at = front_of agent (codes ".sources.") name in
    source_wish pairs at (lookup (at ++ codes "type") pairs) ++ flat_map (step_claims pairs at) (names_in pairs (at ++ codes "interceptors"))

abbrev pub channel_claims : List Pair → List ℕ → List ℕ → List Wish
channel_claims pairs agent name = let at = front_of agent (codes ".channels.") name in channel_wish pairs at (lookup (at ++ codes "type") pairs)

abbrev pub sink_claims : List Pair → List ℕ → List ℕ → List Wish
sink_claims pairs agent name = let at = front_of agent (codes ".sinks.") name in sink_wish (lookup (at ++ codes "type") pairs)

abbrev pub group_claims : List Pair → List ℕ → List ℕ → List Wish
group_claims pairs agent name = let key = front_of agent (codes ".sinkgroups.") name ++ codes "sinks" in group_wish (lookup key pairs) (names_in pairs key)

abbrev pub claims_of : List Pair → List ℕ → List (List ℕ) → List (List ℕ) → List (List ℕ) → List (List ℕ) → List Wish
claims_of pairs agent sources channels sinks groups =
    flat_map (source_claims pairs agent) sources
    ++ flat_map (channel_claims pairs agent) channels
    ++ flat_map (sink_claims pairs agent) sinks
    ++ flat_map (group_claims pairs agent) groups

abbrev pub components_of : List Pair → List ℕ → List (List ℕ) → List (List ℕ) → List (List ℕ) → List (List ℕ) → Candidates
components_of pairs agent sources channels sinks groups =
    each (source_named pairs agent channels) sources
    ⊕ each (channel_named pairs agent) channels
    ⊕ each (sink_named pairs agent channels) sinks
    ⊕ each (group_named pairs agent sinks) groups

-- all that may be at fault, patterns apart, with these components
abbrev pub candidates_of : List Pair → List ℕ → List (List ℕ) → List (List ℕ) → List (List ℕ) → List (List ℕ) → Candidates
candidates_of pairs agent sources channels sinks groups =
    lists pairs (agent ++ codes ".") ⊕ components_of pairs agent sources channels sinks groups ⊕ clashes (claims_of pairs agent sources channels sinks groups)
