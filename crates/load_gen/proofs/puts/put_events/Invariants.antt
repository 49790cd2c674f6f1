use Rattle.std.proofs.Common.{◌≡◌, ◌+◌}
use Rattle.load_gen.specs.Calls.{Makes}
use Rattle.load_gen.specs.Events.{events_from}
use Rattle.load_gen.specs.Runs.{ArePut}
use Rattle.load_gen.proofs.puts.put_events.Given as goal

abbrev pub invariant-loop : goal.invariant-loop
invariant-loop g l = record {
  puts : Makes l.fn.pass.number l.fn.pass.view l.pass.view (ArePut l.fn.txn (events_from l.fn.events.n l.fn.events.next l.counter));
  token : l.txn ≡ l.fn.txn;
  table : l.pass.table_id ≡ l.fn.pass.table_id;
  number : l.pass.number ≡ l.fn.pass.number;
  n : l.events.n ≡ l.fn.events.n;
  next : l.events.next ≡ l.fn.events.next + l.counter;
}
