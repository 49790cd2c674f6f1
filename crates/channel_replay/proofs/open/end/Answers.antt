use Rattle.std.proofs.Common.{◌∙◌, Some, sym, ap}
use Rattle.event_core.specs.declared.journal.Entry.{Entry}
use Rattle.channel_replay.proofs.open.end.Goals as goal

pub returns-in-Some-clause-entry : goal.returns-in-Some-clause-entry
returns-in-Some-clause-entry c =
    let at = rw c.deref.ensures.value at c.in-Some.ensures.found in
    ap (λ (e : Entry). Some e) (c.remove_at.ensures.entry c.args.txn at.0 at.1) ∙ sym at.1.entry_is

pub returns-in-Some-clause-rest : goal.returns-in-Some-clause-rest
returns-in-Some-clause-rest c =
    let at = rw c.deref.ensures.value at c.in-Some.ensures.found in
    c.remove_at.ensures.rest c.args.txn at.0 at.1
