use Rattle.std.proofs.Common.{arith}
use Rattle.event_core.specs.Content.{content}
use Rattle.event_core.proofs.Sizes.{size-sum}
use Rattle.event_core.proofs.event.Event.new.Goals as goal

pub returns-then-size-gt-MAX_EVENT_SIZE-clause-err : goal.returns-then-size-gt-MAX_EVENT_SIZE-clause-err
returns-then-size-gt-MAX_EVENT_SIZE-clause-err c = (omega (arith, size-sum (content c.args.headers c.args.body.items)), omega arith)

pub invariant_of-result : goal.invariant_of-result
invariant_of-result c = omega (arith, size-sum (content c.args.headers c.args.body.items))

pub returns-clause-fits : goal.returns-clause-fits
returns-clause-fits c = omega (arith, size-sum (content c.args.headers c.args.body.items))
