use Rattle.std.proofs.Common.{[], false}
use Rattle.std.proofs.lemmas.List.{drop_more}
use Rattle.plan_judging.specs.declared.rules.Rule.TheVariants.{Text}
use Rattle.plan_judging.proofs.Joins.{goes_on, ends, rows_each}
use Rattle.plan_judging.proofs.rules.check_rows.Goals as goal

pub loop-row-preserved : goal.loop-row-preserved
loop-row-preserved c =
    goes_on _ (drop_more c.args.rows.now c.loop-row.row-index (record { required = false; key = record { ref_ptr = (0, 0); now = [] }; rule = Text }) c.loop-row-test.true) c.loop-row.invariant c.in_ok-check.ensures

pub returns : goal.returns
returns c =
    rw (← rows_each c.args.place.now.properties.now c.args.place.now.front.now c.args.rows.now) (ends c.loop-row-test.false c.loop-row.invariant)
