-- All that may be at fault in the configuration of an agent, and the first fault.
use Rattle.std.specs.Prelude.{ℕ, Bool, List, Option, None, fold}
use Rattle.prop_text.specs.Pairs.{Pair}
use Rattle.plan_judging.specs.declared.findings.Fault.{Fault}
use Rattle.plan_judging.specs.Candidates.{Candidates, ◌⊕◌, first_of, least_of}
use Rattle.plan_judging.specs.Agents.{sources, channels, sinks, groups, candidates_of}
use Rattle.agent_plan.specs.Patterns.{Asked, asked_of, bad_ones}

-- all that may be at fault, with these components: what rests on no pattern, and the bad ones of the texts that have to be patterns, by these
-- verdicts on them
abbrev pub all_of : List Pair → List ℕ → List (List ℕ) → List (List ℕ) → List (List ℕ) → List (List ℕ) → List Bool → Candidates
all_of pairs agent sources channels sinks groups verdicts = candidates_of pairs agent sources channels sinks groups ⊕ bad_ones (asked_of pairs agent sources) verdicts

abbrev pub asked : List Pair → List ℕ → List Asked
asked pairs agent = asked_of pairs agent (sources pairs agent)

abbrev pub candidates : List Pair → List ℕ → List Bool → Candidates
candidates pairs agent verdicts = all_of pairs agent (sources pairs agent) (channels pairs agent) (sinks pairs agent) (groups pairs agent) verdicts

-- the first fault, by line and then by rank
abbrev pub first_fault : List Pair → List ℕ → List Bool → Option Fault
first_fault pairs agent verdicts = fold first_of None (candidates pairs agent verdicts).faults

-- the least key that is not there, by bytes
abbrev pub least_missing : List Pair → List ℕ → List Bool → Option (List ℕ)
least_missing pairs agent verdicts = fold least_of None (candidates pairs agent verdicts).missing
