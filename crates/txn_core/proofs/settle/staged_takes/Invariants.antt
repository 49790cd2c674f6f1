use Rattle.std.proofs.Common.{◌≡◌, ◌<◌, ◌+◌, ◌^◌, length, drop}
use Rattle.event_core.specs.Journal.{taken_numbers}
use Rattle.channel_face.specs.Counters.{capped}
use Rattle.channel_face.specs.Machine.{entries}
use Rattle.txn_core.proofs.settle.staged_takes.Given as goal

abbrev pub invariant-loop-open : goal.invariant-loop-open
invariant-loop-open l = record {
  sum : capped (l.count + length (taken_numbers (entries (drop l.open-index l.staged)))) ≡ capped (length (taken_numbers (entries l.staged)));
  within : l.count < 2 ^ 64;
}
