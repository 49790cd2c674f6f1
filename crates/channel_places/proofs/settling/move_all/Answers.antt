use Rattle.std.proofs.Common.{◌<◌, ℕ, subst, sym}
use Rattle.open_table.specs.Tables.{Listed, MayMove, listed_of, moved}
use Rattle.open_table.specs.declared.table.Ended.{Ended}
use Rattle.channel_places.proofs.Moved.{all_here, front_more, rest_more, same_here}
use Rattle.channel_places.proofs.settling.move_all.Goals as goal

pub move_puts-requires : goal.move_puts-requires
move_puts-requires c =
    let loop = c.loop-ended in
    subst (λ (e : Ended). MayMove c.args.file c.args.at c.args.to_at (listed_of e)) (sym (same_here loop.staged c.args.staged.now loop.ended-index c.ended-item.result loop.invariant.1))
    (all_here (λ (l : Listed). MayMove c.args.file c.args.at c.args.to_at l) c.args.staged.now loop.ended-index c.ended-item.result c.requires c.loop-ended-test.true)

pub loop-ended-preserved : goal.loop-ended-preserved
loop-ended-preserved c =
    let loop = c.loop-ended in (
      front_more (moved c.args.file c.args.at c.args.to_file c.args.to_at) loop.staged c.args.staged.now loop.ended-index c.ended-item.result c.move_puts.new.self (subst (λ (n : ℕ). loop.ended-index < n) (sym loop.auto.staged) c.loop-ended-test.true) c.loop-ended-test.true loop.invariant.0 loop.invariant.1 c.move_puts.ensures.moved,
      rest_more loop.staged c.args.staged.now loop.ended-index c.move_puts.new.self loop.invariant.1,
    )
