-- What may be at fault in a configuration: lines with their faults, and keys that are not there. The least counts.
use Rattle.std.specs.Prelude.{◌≡◌, ℕ, Bool, ◌||◌, ◌&&◌, List, [], ◌∷◌, ◌++◌, fold, ◌==◌, nat_lt, if◌then◌else◌, Option, Some, None, option_map, string_bytes}
use Rattle.std.specs.Ordering.{is_lt}
use Rattle.std.specs.Cmp.Lexicographic.{slice_cmp}
use Rattle.std.specs.Ordering.{nat_cmp}
use Rattle.plan_judging.specs.declared.findings.Fault.{Fault}
use Rattle.plan_judging.specs.declared.findings.FaultKind.{FaultKind}
use Rattle.plan_judging.specs.declared.findings.FaultKind.TheVariants.{UnknownType, UnknownName, BadNumber, BadPattern, Unsupported, Clash}
use Rattle.plan_judging.specs.declared.findings.Findings.{Findings}

-- the order of two faults on one line
abbrev pub rank : FaultKind → ℕ
rank UnknownType = 0
rank UnknownName = 1
rank BadNumber = 2
rank BadPattern = 3
rank Unsupported = 4
rank Clash = 5

-- f is on a lesser line than g, or is of lesser rank on the same line
abbrev pub precedes : Fault → Fault → Bool
precedes f g = nat_lt f.line g.line || (f.line == g.line && nat_lt (rank f.kind) (rank g.kind))

abbrev pub first_of : Option Fault → Fault → Option Fault
first_of None f = Some f
first_of (Some g) f = if precedes f g then Some f else Some g

-- the key is less than the other by bytes
abbrev pub key_precedes : List ℕ → List ℕ → Bool
key_precedes k l = is_lt (slice_cmp nat_cmp k l)

abbrev pub least_of : Option (List ℕ) → List ℕ → Option (List ℕ)
least_of None k = Some k
least_of (Some l) k = if key_precedes k l then Some k else Some l

pub record Candidates : Type 0 where
  pub faults : List Fault
  pub missing : List (List ℕ)

abbrev pub nothing : Candidates
nothing = record { faults = []; missing = [] }

infixl 10 ◌⊕◌
unfoldable pub ◌⊕◌ : Candidates → Candidates → Candidates
a ⊕ b = record { faults = a.faults ++ b.faults; missing = a.missing ++ b.missing }

-- the candidates of each of some things, together
abbrev pub each : {A : Type 0} → (A → Candidates) → List A → Candidates
each f [] = nothing
each f (x ∷ xs) = f x ⊕ each f xs

-- the first fault and the least missing key
pub record Seen : Type 0 where
  pub fault : Option Fault
  pub missing : Option (List ℕ)

-- what was seen before, and the candidates
unfoldable pub adds : Seen → Candidates → Seen
adds s c = record { fault = fold first_of s.fault c.faults; missing = fold least_of s.missing c.missing }

-- a step from old to new adds the candidates
pub record Adds (old new : Seen) (c : Candidates) : Type 0 where
  pub is : new ≡ adds old c

abbrev pub seen : Findings → Seen
seen f = record { fault = f.fault; missing = option_map string_bytes f.missing }
