use Rattle.std.proofs.Common.{◌≡◌, List, subst, sym}
use Rattle.std.specs.List.{AllByRecursion}
use Rattle.record_form.specs.declared.record.Pointer.{Pointer}
use Rattle.open_table.specs.Tables.{open_at}
use Rattle.checkpoint.specs.Says.{puts_at}
use Rattle.checkpoint_places.proofs.Lowest.{FileFrom, puts_here}
use Rattle.checkpoint_places.proofs.least.least_put.Goals as goal

pub returns-clause-each : goal.returns-clause-each
returns-clause-each c =
    let same : puts_at c.args.table.now c.args.txn ≡ c.puts.result.now = puts_here (open_at c.args.table.now c.args.txn) c.puts.result.now c.puts.ensures in
    subst (λ (ps : List Pointer). AllByRecursion (λ p. FileFrom c.least_of.result p) ps) (sym same) c.least_of.ensures.each

pub returns-clause-least : goal.returns-clause-least
returns-clause-least c = λ other low all.
    let same : puts_at c.args.table.now c.args.txn ≡ c.puts.result.now = puts_here (open_at c.args.table.now c.args.txn) c.puts.result.now c.puts.ensures in
    c.least_of.ensures.least other low (subst (λ (ps : List Pointer). AllByRecursion (λ p. FileFrom other p) ps) same all)
