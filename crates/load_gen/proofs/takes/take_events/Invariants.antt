use Rattle.std.proofs.Common.{◌≡◌, ◌-◌, ◌≤◌, List, length}
use Rattle.event_core.specs.Content.{Content}
use Rattle.load_gen.specs.Calls.{Makes}
use Rattle.load_gen.specs.Counted.{Feeds}
use Rattle.load_gen.specs.Parts.{HaveGiven}
use Rattle.load_gen.proofs.takes.take_events.Given as goal

abbrev pub invariant-loop-count : goal.invariant-loop-count
invariant-loop-count g l = record {
  takes : Makes l.fn.pass.number l.fn.pass.view l.pass.view (λ calls. (events : List Content) × HaveGiven l.fn.txn events calls × (l.count ≡ length events) × Feeds l.kept events l.fn.tally l.tally);
  most : l.count ≤ 50;
  token : l.txn ≡ l.fn.txn;
  table : l.pass.table_id ≡ l.fn.pass.table_id;
  number : l.pass.number ≡ l.fn.pass.number;
}

abbrev pub decreases-loop-count : goal.decreases-loop-count
decreases-loop-count g l = 50 - l.count
