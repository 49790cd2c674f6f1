-- How a run of `agent` ended, by what its configuration file holds.
use Rattle.std.specs.Prelude.{◌≡◌, ◌⊎◌, ℕ, List, Option, Some}
use Rattle.agent_commands.specs.Checked.{IsAtFault, Lacking}
use Rattle.agent_run.specs.Errors.{IsRunStatus}

-- the statuses of `agent`
abbrev pub IsAgentStatus : ℕ → Type 0
IsAgentStatus status = (status ≡ 2) ⊎ IsRunStatus status

-- Where the status is 2 and the host shows the file, that is at fault.
pub record AgentEnds (lacks : Lacking) (file : Option (List ℕ)) (agent : List ℕ) (status : ℕ) : Type 0 where
  pub which : IsAgentStatus status
  pub fault : status ≡ 2 → (bytes : List ℕ) → file ≡ Some bytes → IsAtFault lacks bytes agent
