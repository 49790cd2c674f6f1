use Rattle.std.proofs.Common.{◌≡◌, drop}
use Rattle.event_core.specs.Journal.{is_among, taken_numbers}
use Rattle.channel_face.specs.Machine.{entries}
use Rattle.txn_core.proofs.opened.takes.Given as goal

abbrev pub invariant-loop-open : goal.invariant-loop-open
invariant-loop-open l = is_among (taken_numbers (entries l.opened)) l.number ≡ is_among (taken_numbers (entries (drop l.open-index l.opened))) l.number
