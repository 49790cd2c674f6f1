use Rattle.std.specs.Option.{option_copied}
use Rattle.record_form.proofs.Loops.{ReadsOn}
use Rattle.record_form.proofs.reading.headers_end.Given as goal

abbrev pub invariant-loop : goal.invariant-loop
invariant-loop l = ReadsOn l.bytes l.end l.start l.number l.counter l.at (option_copied l.last)
