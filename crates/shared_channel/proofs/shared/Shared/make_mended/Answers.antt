use Rattle.std.proofs.Common.{◌≡◌, Ok, Err, refl, sym, ◌∙◌}
use Rattle.shared_channel.proofs.Turning.{makes_none, shows_seen}
use Rattle.shared_channel.proofs.shared.Shared.make_mended.Goals as goal

pub returns-then-not-broken : goal.returns-then-not-broken
returns-then-not-broken g c =
    (makes_none g.C.Channel.stands g.C.Channel.tells _ c.args.holder.now c.requires, sym (shows_seen g.C.Channel.stands g.C.Channel.tells _ c.args.holder.now (λ s. c.is_broken-broken.result ≡ s.broken) c.requires c.is_broken-broken.ensures) ∙ c.if-not-broken.true)

pub returns-in-Ok : goal.returns-in-Ok
returns-in-Ok g c =
    (Ok tt, c.in-Ok.ensures, sym (shows_seen g.C.Channel.stands g.C.Channel.tells _ c.args.holder.now (λ s. c.is_broken-broken.result ≡ s.broken) c.requires c.is_broken-broken.ensures) ∙ c.if-not-broken.false, refl)

pub returns-in-Err : goal.returns-in-Err
returns-in-Err g c =
    (Err c.in-Err.cause, c.in-Err.ensures, sym (shows_seen g.C.Channel.stands g.C.Channel.tells _ c.args.holder.now (λ s. c.is_broken-broken.result ≡ s.broken) c.requires c.is_broken-broken.ensures) ∙ c.if-not-broken.false, refl)
