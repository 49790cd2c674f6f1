-- One more pair in the search for an agent.
use Rattle.std.proofs.Common.{◌≡◌, ℕ, ◌+◌, ◌++◌, Bool, true, false, ◌||◌, List, nat_eq, codes, Some, drop, ap, ◌∙◌}
use Rattle.std.specs.List.{starts_with, slice_get}
use Rattle.prop_text.specs.Pairs.{Pair}
use Rattle.plan_judging.specs.Agents.{is_agent}
use Rattle.plan_judging.proofs.Joins.{drop_from_get}

-- a pair whose key begins with the agent's name and a dot shows that the agent is there
pub agent_found : (pairs : List Pair) (agent : List ℕ) (n : ℕ) (p : Pair) → slice_get pairs n ≡ Some p → starts_with nat_eq p.key (agent ++ codes ".") ≡ true → is_agent (drop n pairs) agent ≡ true
agent_found pairs agent n p there test = ap (λ (l : List Pair). is_agent l agent) (drop_from_get pairs n p there) ∙ ap (λ (b : Bool). b || is_agent (drop (n + 1) pairs) agent) test

-- a pair whose key begins otherwise decides nothing, and the search goes on
pub agent_passed : (pairs : List Pair) (agent : List ℕ) (n : ℕ) (p : Pair) → slice_get pairs n ≡ Some p → starts_with nat_eq p.key (agent ++ codes ".") ≡ false → is_agent (drop n pairs) agent ≡ is_agent (drop (n + 1) pairs) agent
agent_passed pairs agent n p there test = ap (λ (l : List Pair). is_agent l agent) (drop_from_get pairs n p there) ∙ ap (λ (b : Bool). b || is_agent (drop (n + 1) pairs) agent) test
