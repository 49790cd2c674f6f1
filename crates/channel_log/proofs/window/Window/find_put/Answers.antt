use Rattle.std.proofs.Common.{◌∙◌}
use Rattle.channel_log.proofs.Pointed.{kept_greatest, kept_uncut, uncut, uncut_kept}
use Rattle.channel_log.proofs.window.Window.find_put.Goals as goal

pub returns-then-not-is_cut-clause-found : goal.returns-then-not-is_cut-clause-found
returns-then-not-is_cut-clause-found g c = λ t is part piece below.
    let p = c.args.p.now in
    let k = c.find.new.self in
    let place = c.in_ok-place.place in
    let kept = (c.in_ok-place.ensures.found t is part piece below).0 in
    let not_cut = uncut c.is_cut.result c.if-not-is_cut.true c.is_cut.ensures in
    (kept, kept_uncut k part place p kept c.in_ok-place.ensures.place.0 c.in_ok-place.ensures.place.1 c.in_ok-place.ensures.within (uncut_kept c.bytes_from.result.now _ c.bytes_from.ensures not_cut))

pub returns-clause-found : goal.returns-clause-found
returns-clause-found g c = λ t is part piece below.
    let first = c.in_ok-place.ensures.found t is part piece below in
    let second = c.in_ok-whole.ensures.found t (c.in_ok-place.ensures.same ∙ is) part first.0 below in
    (second.0, kept_greatest c.find-2.new.self part c.in_ok-whole.whole c.args.p.now second.1)
