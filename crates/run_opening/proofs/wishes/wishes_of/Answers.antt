use Rattle.std.proofs.Common.{List, sym, subst, take, ◌+◌}
use Rattle.channel_wishes.specs.declared.wish.ChannelWish.{ChannelWish}
use Rattle.run_opening.specs.Wishes.{AreWishes}
use Rattle.run_opening.proofs.Wishing.{wishes_along}
use Rattle.run_opening.proofs.wishes.wishes_of.Goals as goal

pub loop-place-preserved : goal.loop-place-preserved
loop-place-preserved c =
    let uses = c.args.uses.now in
    let plans = c.args.plans.now in
    let place = c.loop-place.place in
    let plan = c.index-plans-place in
    let users = c.in_ok-users.ensures in
    subst (λ (l : List ChannelWish). AreWishes uses (take (place + 1) plans) l) (sym c.in_ok-push.ensures.items)
    (wishes_along uses plans place plan.result c.loop-place.wishes.items c.in_ok-wish_of.field-0 c.in_ok-users.users c.loop-place-test.true plan.is c.loop-place.invariant users.0 users.1 c.in_ok-wish_of.ensures)
