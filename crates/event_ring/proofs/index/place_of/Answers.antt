use Rattle.std.proofs.Common.{◌+◌, ◌-◌, ◌/◌, arith}
use Rattle.event_ring.proofs.Ringing.{before_mid, behind_mid}
use Rattle.event_ring.proofs.index.place_of.Goals as goal

pub loop-low-preserved-then-read-number : goal.loop-low-preserved-then-read-number
loop-low-preserved-then-read-number c = record {
  ordered = omega arith;
  within = c.loop-low.invariant.within;
  below = λ k s less is. before_mid c.args.slots.now.items c.requires.0 c.requires.1 (c.loop-low.low + (c.loop-low.high - c.loop-low.low) / 2) k c.args.number s c.read.result c.requires.2 c.read.ensures c.if-read-number.true less is;
  above = c.loop-low.invariant.above;
}

pub loop-low-preserved : goal.loop-low-preserved
loop-low-preserved c = record {
  ordered = omega arith;
  within = omega arith;
  below = c.loop-low.invariant.below;
  above = λ k s more is. behind_mid c.args.slots.now.items c.requires.0 c.requires.1 (c.loop-low.low + (c.loop-low.high - c.loop-low.low) / 2) k c.args.number s c.read.result c.requires.2 c.read.ensures c.if-read-number.false more is;
}
