use Rattle.std.proofs.Common.{◌≡◌, drop}
use Rattle.interceptors.specs.Steps.{without_all}
use Rattle.interceptors.proofs.step.remove.Given as goal

abbrev pub invariant-loop-name : goal.invariant-loop-name
invariant-loop-name l = without_all (drop l.name-index l.names) l.headers ≡ without_all l.names l.initial.headers
