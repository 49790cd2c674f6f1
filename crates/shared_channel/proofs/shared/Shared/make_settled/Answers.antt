use Rattle.std.proofs.Common.{refl, subst, not, true, false, [], ◌≡◌, List}
use Rattle.channel_face.specs.Faces.{is_spent_flush}
use Rattle.channel_face.specs.History.{Step}
use Rattle.channel_face.specs.Machine.{Flush, settled}
use Rattle.channel_face.specs.declared.replies.Settled.{Settled}
use Rattle.channel_face.specs.declared.replies.Settled.TheVariants.{Yes, No, InDoubt}
use Rattle.shared_channel.specs.Calls.{step, made_if}
use Rattle.shared_channel.specs.Ports.{SettledBy}
use Rattle.shared_channel.proofs.Turning.{makes_none, shows_seen}
use Rattle.shared_channel.proofs.shared.Shared.make_settled.Goals as goal

pub returns-in-Yes : goal.returns-in-Yes
returns-in-Yes g c =
    let h = c.args.holder.now in
    let is = shows_seen g.C.Channel.stands g.C.Channel.tells _ h (λ s. Yes ≡ settled s c.args.ticket.now) c.requires c.in-Yes.ensures in
    ([], makes_none g.C.Channel.stands g.C.Channel.tells _ h c.requires, subst (λ (a : Settled). SettledBy a h.by (g.C.Channel.moment h.home.channel) h.seat.me.0 [] true) is (refl, refl))

pub returns-in-No : goal.returns-in-No
returns-in-No g c =
    let h = c.args.holder.now in
    let reply = c.make_flush.result in
    let m = g.C.Channel.moment c.make_flush.new.holder.home.channel in
    let is = shows_seen g.C.Channel.stands g.C.Channel.tells _ h (λ s. No ≡ settled s c.args.ticket.now) c.requires c.in-No.ensures in
    let made : List Step = made_if (not (is_spent_flush reply)) (step h.by (Flush reply) m) in
    (made, c.make_flush.ensures.0, subst (λ (a : Settled). SettledBy a h.by m h.seat.me.0 made c.is_ok.result) is (reply, refl, c.make_flush.ensures.1, c.is_ok.ensures.value))

pub returns-in-InDoubt : goal.returns-in-InDoubt
returns-in-InDoubt g c =
    let h = c.args.holder.now in
    let is = shows_seen g.C.Channel.stands g.C.Channel.tells _ h (λ s. InDoubt ≡ settled s c.args.ticket.now) c.requires c.in-InDoubt.ensures in
    ([], makes_none g.C.Channel.stands g.C.Channel.tells _ h c.requires, subst (λ (a : Settled). SettledBy a h.by (g.C.Channel.moment h.home.channel) h.seat.me.0 [] false) is (refl, refl))
