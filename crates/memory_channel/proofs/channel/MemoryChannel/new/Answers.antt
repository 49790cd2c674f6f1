use Rattle.std.proofs.Common.{rules, ◌≡◌, [], true, refl}
use Rattle.channel_face.specs.declared.replies.Kind.TheVariants.{Memory as InMemory}
use Rattle.memory_channel.proofs.Whole.{begins_whole}
use Rattle.memory_channel.proofs.channel.MemoryChannel.new.Goals as goal

pub invariant_of-result : goal.invariant_of-result
invariant_of-result c = begins_whole (record { rules = record { kind = InMemory; limits = c.args.limits }; base = record { items = c.reserve.new.self.items; first = 0 }; txn = 1; faults = 0; from = 0; tells = true }) c.begin.result.state (c.begin.ensures.state 0 0) refl

pub returns-clause-state : goal.returns-clause-state
returns-clause-state c = λ faults from.
    let none : c.reserve.new.self.items ≡ [] = search rules in
    rw (← none) (c.begin.ensures.state faults from)
