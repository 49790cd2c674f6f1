-- The names of an agent's components.
use Rattle.std.specs.Prelude.{◌≡◌, ℕ, List}
use Rattle.prop_text.specs.Pairs.{Pair}
use Rattle.prop_text.specs.Views.{texts}
use Rattle.plan_judging.specs.Agents as agents
use Rattle.flume_config.specs.declared.planning.AgentNames.{AgentNames}

-- the names of the agent's components, as they were read
pub record Names (pairs : List Pair) (agent : List ℕ) (names : AgentNames) : Type 0 where
  pub sources : texts names.sources.keys ≡ agents.sources pairs agent
  pub channels : texts names.channels.keys ≡ agents.channels pairs agent
  pub sinks : texts names.sinks.keys ≡ agents.sinks pairs agent
  pub groups : texts names.groups.keys ≡ agents.groups pairs agent
