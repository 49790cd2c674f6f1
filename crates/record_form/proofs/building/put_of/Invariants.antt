use Rattle.std.specs.Option.{option_copied}
use Rattle.record_form.proofs.Loops.{BuildsOn}
use Rattle.record_form.proofs.building.put_of.Given as goal

abbrev pub invariant-loop : goal.invariant-loop
invariant-loop l = BuildsOn l.bytes l.txn l.end l.number l.counter l.at (option_copied l.last) l.headers
