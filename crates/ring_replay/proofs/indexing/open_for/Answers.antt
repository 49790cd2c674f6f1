use Rattle.std.proofs.Common.{sym, ◌∙◌}
use Rattle.ring_replay.proofs.TableLists.{opens_wider}
use Rattle.ring_replay.proofs.indexing.open_for.Goals as goal

pub returns-then-has : goal.returns-then-has
returns-then-has c = opens_wider c.args.puts c.args.txn c.args.table.now c.widen.new.self (sym c.has.ensures ∙ c.if-has.true) c.in_ok-widen.ensures.wider c.widen.ensures.count
