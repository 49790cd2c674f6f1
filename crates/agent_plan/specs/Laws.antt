-- Laws of the first fault and of the least missing key: there is one exactly where there is a candidate, it is one of the candidates,
-- and none of them comes before it.
use Rattle.std.specs.Prelude.{◌≡◌, ℕ, Bool, false, List, [], Option, Some, None, Contains}
use Rattle.std.specs.List.{AllByRecursion}
use Rattle.prop_text.specs.Pairs.{Pair}
use Rattle.plan_judging.specs.declared.findings.Fault.{Fault}
use Rattle.plan_judging.specs.Candidates.{precedes, key_precedes}
use Rattle.agent_plan.specs.Faults.{candidates, first_fault, least_missing}

abbrev pub IsFirst : List Fault → Option Fault → Type 0
IsFirst faults None = faults ≡ []
IsFirst faults (Some f) = Contains faults f × AllByRecursion (λ g. precedes g f ≡ false) faults

abbrev pub IsLeast : List (List ℕ) → Option (List ℕ) → Type 0
IsLeast keys None = keys ≡ []
IsLeast keys (Some k) = Contains keys k × AllByRecursion (λ l. key_precedes l k ≡ false) keys

-- Whatever the verdicts on the patterns are: no candidate is on a lesser line than the first fault, or of lesser rank on its line.
abbrev pub FirstFaultIsFirst : Type 0
FirstFaultIsFirst = (pairs : List Pair) (agent : List ℕ) (verdicts : List Bool) → IsFirst (candidates pairs agent verdicts).faults (first_fault pairs agent verdicts)

-- Whatever the verdicts on the patterns are: no key that is not there is less by bytes than the least.
abbrev pub LeastMissingIsLeast : Type 0
LeastMissingIsLeast = (pairs : List Pair) (agent : List ℕ) (verdicts : List Bool) → IsLeast (candidates pairs agent verdicts).missing (least_missing pairs agent verdicts)
