use Rattle.std.proofs.Common.{rules, ◌≡◌, None, sym}
use Rattle.channel_face.specs.Machine.{entry_of}
use Rattle.txn_core.proofs.Shadowing.{none_without}
use Rattle.txn_core.proofs.copies.end_copy.Goals as goal

pub returns-in-None-clause-rest : goal.returns-in-None-clause-rest
returns-in-None-clause-rest c =
    let none : entry_of c.args.number c.args.copies.now.items ≡ None = search rules in
    sym (none_without c.args.number c.args.copies.now.items none)
