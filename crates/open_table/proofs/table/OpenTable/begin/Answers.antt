use Rattle.std.proofs.Common.{◌≡◌, ◌+◌, None, Some, is_some, ap, ◌∙◌, subst, length, Option, if◌then◌else◌}
use Rattle.open_table.specs.Tables.{Open, Table, HasAt, open_at}
use Rattle.open_table.proofs.Maps.{begun_in, updated}
use Rattle.open_table.proofs.table.OpenTable.begin.Goals as goal

pub returns-in-Ok-insert-clause-begun : goal.returns-in-Ok-insert-clause-begun
returns-in-Ok-insert-clause-begun c =
    let has = updated c.args.txn (Some c.new-opened.result) c.self.inside.opened c.insert.new.self _ c.self.view_is c.in-Ok-insert.ensures.updates in
    let absent : c.in-Ok-insert.field-0 ≡ None = c.in-Ok-insert.ensures.old ∙ ap (λ (t : Table). open_at t c.args.txn) c.self.view_is ∙ c.requires in
    let longer = c.in-Ok-insert.ensures.len in (
      subst (λ (o : Open). HasAt c.args.txn (Some o) c.args.self.now c.insert.new.self.entries) (begun_in c.args.puts c.args.room _ c.new-opened.result c.new-opened.ensures c.in-Ok.ensures.begun) has,
      subst (λ (t : Table). length c.insert.new.self.entries ≡ length t + 1) c.self.view_is (subst (λ (o : Option Open). length c.insert.new.self.entries ≡ length c.self.inside.opened.entries + (if is_some o then 0 else 1)) absent longer),
    )
