use Rattle.std.proofs.Common.{◌≡◌, drop, fold}
use Rattle.prop_text.specs.Views.{texts}
use Rattle.plan_judging.specs.Components.{once}
use Rattle.plan_judging.proofs.Onces.{kept_with}
use Rattle.plan_judging.proofs.values.once.Given as goal

-- keeping the names that are left too gives those of all
abbrev pub invariant-loop-name : goal.invariant-loop-name
invariant-loop-name l = fold kept_with (texts l.kept.keys) (texts (drop l.name-index l.names)) ≡ once (texts l.names)
