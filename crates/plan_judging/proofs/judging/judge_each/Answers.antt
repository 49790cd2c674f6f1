use Rattle.std.proofs.Common.{[]}
use Rattle.plan_judging.proofs.Joins.{goes_on_texts, ends_texts, gathers_on, gathered}
use Rattle.plan_judging.proofs.judging.judge_each.Goals as goal

pub loop-name-preserved : goal.loop-name-preserved
loop-name-preserved g c =
    record {
      judged = goes_on_texts c.args.names.now (record { ref_ptr = (0, 0); now = [] }) c.loop-name-test.true c.loop-name.invariant.judged c.in_ok-judge_one.ensures.judged;
      claimed = gathers_on (record { ref_ptr = (0, 0); now = [] }) c.loop-name-test.true c.loop-name.invariant.claimed c.in_ok-judge_one.ensures.claimed;
    }

pub returns : goal.returns
returns g c = record {
  judged = ends_texts c.args.names.now c.loop-name-test.false c.loop-name.invariant.judged;
  claimed = gathered c.loop-name-test.false c.loop-name.invariant.claimed;
}
