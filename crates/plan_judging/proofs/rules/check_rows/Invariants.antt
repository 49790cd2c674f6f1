use Rattle.plan_judging.specs.Candidates.{seen}
use Rattle.plan_judging.specs.Rows.{row_of}
use Rattle.plan_judging.proofs.Joins.{Goes}
use Rattle.plan_judging.proofs.rules.check_rows.Given as goal

abbrev pub invariant-loop-row : goal.invariant-loop-row
invariant-loop-row l = Goes (row_of l.place.properties.now l.place.front.now) l.row-index l.rows (seen l.fn.found) (seen l.found)
