use Rattle.std.proofs.Common.{rules, ◌≡◌, length, sym, ◌∙◌}
use Rattle.txn_core.proofs.Taken.{takes_ended}
use Rattle.txn_core.proofs.settle.staged_takes.Goals as goal

pub returns : goal.returns
returns c =
    let over : c.loop-open.open-index ≡ length c.args.staged.now = search rules in
    sym (takes_ended c.args.staged.now c.loop-open.open-index c.loop-open.count over c.loop-open.invariant.within) ∙ c.loop-open.invariant.sum
