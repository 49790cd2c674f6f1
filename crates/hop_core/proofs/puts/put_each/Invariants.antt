use Rattle.std.proofs.Common.{◌≡◌, drop}
use Rattle.world_laws.specs.Channels.{put_all}
use Rattle.hop_core.proofs.puts.put_each.Given as goal

abbrev pub invariant-loop-at : goal.invariant-loop-at
invariant-loop-at l = record {
  puts : put_all l.fn.machine.counted.state l.fn.txn l.events ≡ put_all l.machine.counted.state l.fn.txn (drop l.at l.events);
  journal : l.machine.journal ≡ l.fn.machine.journal;
  rules : l.machine.counted.state.rules ≡ l.fn.machine.counted.state.rules;
  same : l.txn ≡ l.fn.txn;
}
