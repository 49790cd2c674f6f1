use Rattle.std.proofs.Common.{◌++◌, arith}
use Rattle.avro_binary.specs.Written.{written_groups}
use Rattle.avro_binary.proofs.Writing.{last_group, next_group, no_groups}
use Rattle.avro_binary.proofs.write.put_groups.Goals as goal

pub returns-then-rest-lt128-clause-items : goal.returns-then-rest-lt128-clause-items
returns-then-rest-lt128-clause-items c =
    last_group c.groups.into.items c.put.new.into.items c.groups._i c.groups.rest (c.args.into.now.items ++ written_groups 10 c.args.n) c.groups-test.true c.if-rest-lt128.true c.put.ensures.items c.groups.invariant.items

pub groups-preserved : goal.groups-preserved
groups-preserved c = record {
  items = next_group c.groups.into.items c.put-in-groups.new.into.items c.groups._i c.groups.rest (c.args.into.now.items ++ written_groups 10 c.args.n) c.groups-test.true c.if-rest-lt128.false c.put-in-groups.ensures.items c.groups.invariant.items;
  len = omega arith;
  room = omega arith;
  kept = omega arith;
}

pub returns-clause-items : goal.returns-clause-items
returns-clause-items c = no_groups c.groups.into.items c.groups._i c.groups.rest (c.args.into.now.items ++ written_groups 10 c.args.n) c.groups-test.false c.groups.invariant.items
