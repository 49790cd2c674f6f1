use Rattle.std.proofs.Common.{◌∙◌, IsSome, false, true, ap, sym}
use Rattle.open_table.specs.Tables.{open_at}
use Rattle.ring_replay.specs.declared.indexing.Indexing.{Indexing}
use Rattle.ring_replay.proofs.RollingBack.{rolls_back, some_open}
use Rattle.ring_replay.proofs.indexing.Indexing.roll_back.Goals as goal
use Rattle.ring_replay.proofs.indexing.Indexing.roll_back.Goals.{else-not-has-via-then-not-has+else-not-has-2, else-not-has-via-else-not-has}

pub returns : goal.returns
returns c =
    let there : IsSome (open_at c.args.self.now.table c.args.txn) = elim c.else-not-has.branch [
      | else-not-has-via-then-not-has+else-not-has-2 w ↦ some_open false (open_at c.args.self.now.table c.args.txn) (sym w.has-then-not-has.ensures ∙ w.if-not-has-2.false)
      | else-not-has-via-else-not-has w ↦ some_open true (open_at c.args.self.now.table c.args.txn) (sym c.has.ensures ∙ w.if-not-has.false)
    ] in
    rolls_back c.args.txn c.args.place c.args.self.now c.give_up.new.self c.see.new.self c.requires.txn there c.give_up.ensures
    (ap (λ (r : Indexing). r.ring) c.see.ensures) (ap (λ (r : Indexing). r.slots) c.see.ensures) (ap (λ (r : Indexing). r.table) c.see.ensures) (ap (λ (r : Indexing). r.next.number) c.see.ensures) (ap (λ (r : Indexing). r.next.txn) c.see.ensures)
