use Rattle.std.proofs.Common.{[]}
use Rattle.flume_config.proofs.Asking.{asks_begin, asks_on, asks_end}
use Rattle.flume_config.proofs.patterns.ask_each.Goals as goal

pub loop-name-init : goal.loop-name-init
loop-name-init g c = asks_begin _ _ _

pub loop-name-preserved : goal.loop-name-preserved
loop-name-preserved g c = asks_on (record { ref_ptr = (0, 0); now = [] }) c.loop-name-test.true c.loop-name.invariant c.in_ok-ask_one.ensures

pub returns : goal.returns
returns g c = asks_end c.loop-name-test.false c.loop-name.invariant
