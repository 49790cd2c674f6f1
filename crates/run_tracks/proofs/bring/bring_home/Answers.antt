use Rattle.std.proofs.Common.{◌≡◌, ◌∙◌, ◌<◌, length, set, get_or, sym, ap, subst, arith}
use Rattle.std.proofs.lemmas.List.{get_or_default}
use Rattle.shared_channel.specs.Passes.{Known}
use Rattle.run_tracks.specs.Homes.{Took, EachTook}
use Rattle.run_tracks.proofs.Homing.{joined_old, joined_from, set_elsewhere, set_took, set_took_at, homes_kept}
use Rattle.run_tracks.proofs.bring.bring_home.Goals as goal

pub join_pass-requires : goal.join_pass-requires
join_pass-requires g c =
    let share = c.index-shares-place in
    let below : c.args.place < length c.args.homes.now = let e = c.requires.homes.as_many in let l = c.requires.pass.below in omega arith in
    let at = c.requires.homes.each c.args.place c.index-homes-place.result below in
    (at.here share.result ∙ ap g.S.Joins.table (sym share.is), c.requires.pass.here share.result ∙ ap g.S.Joins.table (sym share.is))

pub returns : goal.returns
returns g c =
    let share = c.index-shares-place in
    let below : c.args.place < length c.args.homes.now = let e = c.requires.homes.as_many in let l = c.requires.pass.below in omega arith in
    let homes = c.args.homes.now in
    let place = c.args.place in
    let new = c.join_pass.new.into in
    let old : Known = get_or homes place c.index-homes-place.result in
    let at = c.requires.homes.each place c.index-homes-place.result below in
    let tables : old.table_id ≡ c.args.pass.table_id = at.here share.result ∙ sym (c.requires.pass.here share.result) in
    let j = c.join_pass.ensures in
    let before : Took new old = joined_old old c.args.pass new j.same.0 j.view j.seen.0 in
    let from : Took new c.args.pass = joined_from old c.args.pass new j.same.0 tables j.view j.seen.1 j.one.0 j.one.1 in
    let kept : EachTook homes (set homes place new) = set_took homes place new below (λ d. subst (λ (p : Known). Took new p) (get_or_default homes place c.index-homes-place.result d below) before)
    (λ d. j.same.1 ∙ ap (λ (p : Known). p.number) (get_or_default homes place c.index-homes-place.result d below)) in
    record { homes = homes_kept _ _ homes (set homes place new) c.requires.homes kept; kept = kept; others = set_elsewhere homes place new; took = set_took_at homes place new c.args.pass below from }
