use Rattle.std.proofs.Common.{rules, refl, subst, ◌∷◌, ◌++◌, ◌∙◌, [], ap}
use Rattle.channel_face.specs.History.{Step, reopen_reply}
use Rattle.channel_face.specs.Machine.{Reopen, Front}
use Rattle.channel_lock.specs.Calls.{has}
use Rattle.shared_channel.specs.Calls.{step, state_seen}
use Rattle.shared_channel.specs.Counting.{Keeps}
use Rattle.shared_channel.proofs.Durables.{open_spares}
use Rattle.shared_channel.proofs.Keeping.{answered_by, keeps_more}
use Rattle.shared_channel.proofs.Turning.{makes_kept, tries_made}
use Rattle.shared_channel.proofs.shared.Shared.make_reopen.Goals as goal

pub returns-then-is_spent : goal.returns-then-is_spent
returns-then-is_spent g c = (record { kept = Front 0; txn = 0 }, (c.is_spent.ensures.none c.if-is_spent.true, c.is_spent.ensures.many c.if-is_spent.true))

pub count_one-requires-clause-some : goal.count_one-requires-clause-some
count_one-requires-clause-some g c =
    let h = c.args.holder.now in
    let kept = c.reopen-reply.ensures.step.0 in
    let d = c.reopen-reply.new.self in
    let call = Reopen (reopen_reply c.reopen-reply.result kept) in
    (step h.by call (g.C.Channel.moment d), (kept, refl, keeps_more g.C.Channel.stands g.C.Channel.tells g.met.C.Channel.is_run h.home.channel d h.seat.me.0.base h.seat.me.0.seen h.by call (g.C.Channel.moment d) c.reopen-reply.ensures.step.1 refl (search rules) c.requires.1.3), c.requires.2)

pub returns : goal.returns
returns g c =
    let h = c.args.holder.now in
    let d = c.reopen-reply.new.self in
    let one = c.count_one.ensures.call in
    let same = one.1.1 in
    let made = c.reopen-reply.ensures.step in
    let call = Reopen (reopen_reply c.reopen-reply.result one.1.0) in
    let keeps = subst (λ (e : Step). Keeps g.C.Channel.stands d h.seat.me.0.base (h.seat.me.0.seen ++ e ∷ [])) same one.1.2 in (
      one.1.0,
      tries_made g.C.Channel.stands g.C.Channel.tells _ g.C.Channel.moment call _ h _ c.requires (makes_kept g.C.Channel.stands g.C.Channel.tells _ (step h.by call (g.C.Channel.moment d)) one.0 h _ c.requires keeps c.count_one.ensures.same.0 refl refl same (one.2, λ v es making own. one.3 v es making (ap (λ (e : Step). has v.numbers e.pass) same ∙ own)))
          (open_spares (g.C.Channel.tells d) (state_seen h.seat.me.0) made.0 c.reopen-reply.result (answered_by g.C.Channel.stands g.C.Channel.tells g.met.C.Channel.is_run h.home.channel d h.seat.me.0.base h.seat.me.0.seen _ _ made.1 c.requires.1.3).0) (search rules),
    )
