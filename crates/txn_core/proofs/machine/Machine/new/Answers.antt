use Rattle.std.proofs.Common.{rules, ◌≡◌, [], refl, arith}
use Rattle.txn_core.proofs.machine.Machine.new.Goals as goal

pub invariant_of-result : goal.invariant_of-result
invariant_of-result c =
    let none : c.new.result.items ≡ [] = search rules in
    let no_entries : c.new-2.result.items ≡ [] = search rules in
    let start = c.begin.ensures.state 0 0 in
    rw (start, none, no_entries) (record { opened = refl; staged = refl; within = omega arith; fits = omega arith; few = omega arith })

pub returns-clause-state : goal.returns-clause-state
returns-clause-state c = λ faults from.
    let none : c.reserve.new.self.items ≡ [] = search rules in
    rw (← none) (c.begin.ensures.state faults from)
