use Rattle.std.proofs.Common.{None}
use Rattle.open_table.proofs.Maps.{updated}
use Rattle.open_table.proofs.table.OpenTable.end.Goals as goal

pub returns-clause-rest : goal.returns-clause-rest
returns-clause-rest c = updated c.args.txn None c.self.inside.opened c.remove.new.self _ c.self.view_is c.remove.ensures.updates
