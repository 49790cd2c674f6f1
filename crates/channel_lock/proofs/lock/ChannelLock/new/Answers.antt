use Rattle.std.proofs.Common.{rules, ◌≡◌, [], sym, ap, subst}
use Rattle.channel_face.specs.History.{Opening}
use Rattle.channel_lock.specs.Views.{first_opening}
use Rattle.channel_lock.proofs.Shares.{begins_as}
use Rattle.channel_lock.proofs.lock.ChannelLock.new.Goals as goal

pub new-requires : goal.new-requires
new-requires g c =
    let is : first_opening c.in-Ok.opened.views ≡ g.opening = ap first_opening c.in-Ok.ensures in
    begins_as g.C.Guarded.stands _ c.args.passes c.args.value _ (search rules) (subst (λ (o : Opening). g.C.Guarded.stands c.args.value o []) (sym is) c.requires.1)
