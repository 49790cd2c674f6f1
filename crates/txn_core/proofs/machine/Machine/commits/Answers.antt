use Rattle.std.proofs.Common.{◌≡◌, ◌∙◌, ◌++◌, take, sym, ap, List}
use Rattle.std.proofs.lemmas.List.{take-append-drop}
use Rattle.event_core.specs.declared.journal.Entry.{Entry}
use Rattle.txn_core.proofs.machine.Machine.commits.Goals as goal

pub returns : goal.returns
returns c =
    let m = c.self.inside in
    rw (← c.self.view_is)
    (c.deref.ensures.value ∙ (sym (take-append-drop m.settled m.entries.items) ∙ ap (λ (l : List Entry). take m.settled m.entries.items ++ l) c.self.invariant.staged))
