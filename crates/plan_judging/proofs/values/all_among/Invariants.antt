use Rattle.std.proofs.Common.{◌≡◌, drop}
use Rattle.prop_text.specs.Views.{texts}
use Rattle.plan_judging.specs.Words.{all_among}
use Rattle.plan_judging.proofs.values.all_among.Given as goal

abbrev pub invariant-loop-name : goal.invariant-loop-name
invariant-loop-name l = all_among (texts (drop l.name-index l.names)) (texts l.others.keys) ≡ all_among (texts l.names) (texts l.others.keys)
