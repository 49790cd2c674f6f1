use Rattle.std.proofs.Common.{◌≡◌, ◌+◌, ◌-◌, ◌*◌, ◌<◌, List, min}
use Rattle.event_core.specs.Content.{Content}
use Rattle.load_gen.specs.Calls.{Makes}
use Rattle.load_gen.specs.Counted.{Tells}
use Rattle.load_gen.specs.Runs.{AreRounds}
use Rattle.load_gen.proofs.running.generate.Given as goal

abbrev pub invariant-loop-events : goal.invariant-loop-events
invariant-loop-events g l = record {
  rounds : Makes l.fn.pass.number l.fn.pass.view l.pass.view (λ calls. (takes : List (List Content)) × AreRounds l.n 0 takes calls × Tells takes l.tally);
  n : l.events.n ≡ l.n;
  next : l.events.next ≡ min (100 * l.tally.batches) l.n;
  most : 100 * l.tally.batches < l.n + 100;
  table : l.pass.table_id ≡ l.fn.pass.table_id;
  number : l.pass.number ≡ l.fn.pass.number;
}

abbrev pub decreases-loop-events : goal.decreases-loop-events
decreases-loop-events g l = l.events.n - l.events.next
