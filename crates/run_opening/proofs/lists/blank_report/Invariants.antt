use Rattle.std.proofs.Common.{take}
use Rattle.run_opening.specs.Lists.{NamesOf}
use Rattle.run_opening.proofs.lists.blank_report.Given as goal

abbrev pub invariant-loop-plan : goal.invariant-loop-plan
invariant-loop-plan l = NamesOf (take l.plan-index l.plans) l.report.items
