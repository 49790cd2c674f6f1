use Rattle.std.proofs.Common.{rules, ◌<◌, length, sym}
use Rattle.txn_core.proofs.Taken.{some_staged}
use Rattle.txn_core.proofs.opened.one_if_staged.Goals as goal

pub returns-else-is_empty : goal.returns-else-is_empty
returns-else-is_empty c =
    let some : 0 < length c.args.staged.now = search rules in
    sym (some_staged c.args.staged.now some)
