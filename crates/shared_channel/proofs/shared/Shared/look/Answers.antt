use Rattle.std.proofs.Common.{◌≡◌}
use Rattle.channel_face.specs.Counters.{counts_of}
use Rattle.channel_face.specs.History.{opening, state_after}
use Rattle.shared_channel.specs.Passes.{view_of}
use Rattle.shared_channel.proofs.Keeping.{kept_counts, kept_shows}
use Rattle.shared_channel.proofs.Turning.{looks, makes_none, nothing_new, pass_kept, shown}
use Rattle.shared_channel.proofs.shared.Shared.look.Goals as goal

pub invariant_of-pass : goal.invariant_of-pass
invariant_of-pass g c = pass_kept g.C.Channel.stands g.C.Channel.tells _ _ _ c.pass.inside.badge.views _ _ c.pass.view_is c.pass.invariant.0.3 _ _ c.hold-holder.ensures.by c.hold-holder.ensures.making _ c.release-pass-inside.ensures.released _ _ _ c.pass.invariant (makes_none g.C.Channel.stands g.C.Channel.tells _ _ c.hold-holder.ensures.holds)

pub returns-clause-look : goal.returns-clause-look
returns-clause-look g c = looks g.C.Channel.stands g.C.Channel.tells _ _ _ c.pass.inside.badge.views _ _ c.pass.view_is c.pass.invariant.0.3 _ _ c.hold-holder.ensures.by c.hold-holder.ensures.making _ c.release-pass-inside.ensures.released (makes_none g.C.Channel.stands g.C.Channel.tells _ _ c.hold-holder.ensures.holds)

pub returns-clause-whole : goal.returns-clause-whole
returns-clause-whole g c = λ every. nothing_new c.args.pass.now.view (view_of c.release-pass-inside.new.badge.views) every (returns-clause-look g c).1.made

pub returns-clause-counts : goal.returns-clause-counts
returns-clause-counts g c =
    let k = c.hold-holder.result.seat.me.0 in
    shown g.C.Channel.stands g.C.Channel.tells _ _ _ c.pass.inside.badge.views _ _ c.pass.view_is c.pass.invariant.0.3 _ _ c.hold-holder.ensures.by c.hold-holder.ensures.making _ c.release-pass-inside.ensures.released (λ o h. c.counts-counts.result ≡ counts_of o h) (makes_none g.C.Channel.stands g.C.Channel.tells _ _ c.hold-holder.ensures.holds)
    (kept_counts g.C.Channel.stands g.C.Channel.tells c.hold-holder.result.home.channel k.base k.seen c.counts-counts.result c.counts-counts.ensures c.hold-holder.ensures.holds.1.3.calls)

pub returns-clause-broken : goal.returns-clause-broken
returns-clause-broken g c =
    let k = c.hold-holder.result.seat.me.0 in
    shown g.C.Channel.stands g.C.Channel.tells _ _ _ c.pass.inside.badge.views _ _ c.pass.view_is c.pass.invariant.0.3 _ _ c.hold-holder.ensures.by c.hold-holder.ensures.making _ c.release-pass-inside.ensures.released (λ o h. c.is_broken-broken.result ≡ (state_after (opening o) h).broken) (makes_none g.C.Channel.stands g.C.Channel.tells _ _ c.hold-holder.ensures.holds)
    (kept_shows g.C.Channel.stands g.C.Channel.tells c.hold-holder.result.home.channel k.base k.seen (λ s. c.is_broken-broken.result ≡ s.broken) c.is_broken-broken.ensures c.hold-holder.ensures.holds.1.3.calls)
