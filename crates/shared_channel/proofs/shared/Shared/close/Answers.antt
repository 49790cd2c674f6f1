use Rattle.std.proofs.Common.{◌≡◌, [], ap, subst, sym}
use Rattle.channel_face.specs.History.{Opening}
use Rattle.channel_lock.specs.Views.{View, idle}
use Rattle.channel_lock.proofs.Histories.{all_own}
use Rattle.shared_channel.specs.Calls.{Left}
use Rattle.shared_channel.specs.Counting.{StandsAgreeing}
use Rattle.shared_channel.specs.Passes.{Known, view_of}
use Rattle.shared_channel.proofs.Keeping.{stands_agreeing}
use Rattle.shared_channel.proofs.Turning.{left, nothing_new}
use Rattle.shared_channel.proofs.shared.Shared.close.Goals as goal

pub returns-clause-left : goal.returns-clause-left
returns-clause-left g c =
    let S = g.C.Channel.stands in
    let T = g.C.Channel.tells in
    let h = c.hold-seat.result in
    let v = view_of c.pass.inside.badge.views in
    let w = c.shut.new.seat.me.0 in
    let is : w ≡ idle h.seat.me.0 = ap (λ m. m.0) c.shut.ensures.turn in
    let here : Left S T v [] w h.home.channel = left S T g.met.C.Channel.is_run g.met.C.Channel.tells_as_opened h.home.channel v h.seat.me.0 w [] c.hold-seat.ensures.holds.1.3 (c.shut.ensures.made v [] c.hold-seat.ensures.making) is in
    subst (λ (p : Known). Left S T p.view [] (view_of c.into_badge.result.views) h.home.channel) c.pass.view_is (subst (λ (x : View). Left S T v [] x h.home.channel) (sym (ap view_of c.into_badge.ensures.2)) here)

pub returns-clause-all : goal.returns-clause-all
returns-clause-all g c = λ every.
    let l = returns-clause-left g c in
    all_own c.args.pass.view.numbers c.args.pass.view.passes (view_of c.into_badge.result.views).seen every l.made.4

pub returns-clause-channel : goal.returns-clause-channel
returns-clause-channel g c =
    let S = g.C.Channel.stands in
    let d = c.hold-seat.result.home.channel in
    let w = view_of c.into_badge.result.views in
    let l = returns-clause-left g c in
    subst (λ (o : Opening). StandsAgreeing S d o w.seen) (ap (λ (x : View). x.base) l.made.1) (stands_agreeing S d w.base w.seen l.seen.calls)

pub returns-clause-whole : goal.returns-clause-whole
returns-clause-whole g c = λ every. nothing_new c.args.pass.view (view_of c.into_badge.result.views) every (returns-clause-left g c).made
