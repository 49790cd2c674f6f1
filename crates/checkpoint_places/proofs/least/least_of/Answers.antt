use Rattle.std.proofs.Common.{◌+◌, ℕ, arith, subst, sym, take}
use Rattle.checkpoint_places.proofs.Lowest.{PutsSoFar, puts_begun, puts_done, puts_index}
use Rattle.checkpoint_places.proofs.least.least_of.Goals as goal

pub loop-pointer-init : goal.loop-pointer-init
loop-pointer-init c = record { so_far = puts_begun c.args.most c.args.puts.now }

pub returns-clause-below : goal.returns-clause-below
returns-clause-below c = c.loop-pointer.invariant.so_far.below

pub returns-clause-each : goal.returns-clause-each
returns-clause-each c = (puts_done c.loop-pointer.least c.args.most c.loop-pointer.pointer-index c.args.puts.now (omega (arith, c.loop-pointer-test.false)) c.loop-pointer.invariant.so_far).each

pub returns-clause-least : goal.returns-clause-least
returns-clause-least c = (puts_done c.loop-pointer.least c.args.most c.loop-pointer.pointer-index c.args.puts.now (omega (arith, c.loop-pointer-test.false)) c.loop-pointer.invariant.so_far).greatest

pub loop-pointer-preserved : goal.loop-pointer-preserved
loop-pointer-preserved c = record {
  so_far = subst (λ (n : ℕ). PutsSoFar n c.args.most (take (c.loop-pointer.pointer-index + 1) c.args.puts.now)) (sym c.min-least.ensures) (puts_index c.loop-pointer.least c.args.most c.loop-pointer.pointer-index c.args.puts.now _ c.loop-pointer-test.true c.loop-pointer.invariant.so_far);
}
