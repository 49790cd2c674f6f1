use Rattle.std.proofs.Common.{◌≡◌, ◌∙◌, ◌<◌, String, Global, [], length, get_or, sym, ap, subst, arith}
use Rattle.std.proofs.lemmas.List.{get_or_default}
use Rattle.std.proofs.lemmas.List.Elements.{All-set}
use Rattle.channel_face.specs.Counters.{counts_of}
use Rattle.channel_face.specs.declared.replies.Counts.{Counts}
use Rattle.shared_channel.specs.Passes.{Known}
use Rattle.channel_lock.specs.Turns.{HasAll}
use Rattle.two_channels.specs.Shares.{table_of}
use Rattle.run_tracks.specs.Stops.{IsCounted}
use Rattle.run_tracks.proofs.Stopping.{homes_set, looked_at, up_to_more}
use Rattle.run_tracks.proofs.stop.count_all.Goals as goal

pub look-requires : goal.look-requires
look-requires g c =
    let share = c.index-shares-place in
    let below : c.loop-place.place < length c.loop-place.homes = let e = c.loop-place.invariant.0.as_many in let l = c.loop-place-test.true in omega arith in
    let at = c.loop-place.invariant.0.each c.loop-place.place c.index-homes-place.result below in
    at.here share.result ∙ ap table_of (sym share.is)

pub loop-place-preserved : goal.loop-place-preserved
loop-place-preserved g c =
    let share = c.index-shares-place in
    let n = c.loop-place.place in
    let homes = c.loop-place.homes in
    let report = c.loop-place.report in
    let up = c.loop-place.invariant.2 in
    let new = c.look.new.pass in
    let did = c.look.ensures in
    let below : n < length homes = let e = c.loop-place.invariant.0.as_many in let l = c.loop-place-test.true in omega arith in
    let low : n < length c.args.homes.now = let e = up.as_many in omega arith in
    let old : Known = get_or homes n c.index-homes-place.result in
    let was : (p : Known) → old ≡ get_or c.args.homes.now n p = λ p. get_or_default homes n c.index-homes-place.result p below ∙ up.same n p (omega arith) in
    let all : HasAll old.view = λ k less. c.loop-place.invariant.1 n c.index-homes-place.result below k less in
    let same = looked_at g.A.Channel.stands g.A.Channel.tells g.B.Channel.stands g.B.Channel.tells share.result old new did.same did.look (did.whole all) in
    let Became = λ (s : Unit {0}) (home : Known) (before after : String Global × Counts) (q : Known). IsCounted home before after q in
    let x : String Global × Counts = ((get_or report n c.index-report-place.result).0, c.look.result.counts) in
    let counts : c.look.result.counts ≡ counts_of old.view.base old.view.seen = did.counts ∙ ap (λ (p : Known). counts_of p.view.base p.view.seen) same in
    let in_report : n < length report = let a = up.noted in let b = c.requires.report in omega arith in
    let one : (s : Unit {0}) (p : Known) (b : String Global × Counts) → IsCounted (get_or c.args.homes.now n p) (get_or c.args.report.now n b) x new =
    λ s p b. subst (λ (o : Known). IsCounted o (get_or c.args.report.now n b) x new) (was p)
    (record { pass = same; name = ap (λ (y : String Global × Counts). y.0) (get_or_default report n c.index-report-place.result b in_report ∙ up.unnoted n b (omega arith)); counts = counts }) in
    (homes_set table_of c.args.shares.now homes n new c.loop-place.invariant.0 below (λ d. did.same.0 ∙ ap (λ (k : Known). k.table_id) (get_or_default homes n c.index-homes-place.result d below)), All-set (λ (p : Known). HasAll p.view) homes n new (subst (λ (p : Known). HasAll p.view) (sym same) all) c.loop-place.invariant.1, up_to_more Became n [] c.args.homes.now c.args.report.now report homes x new c.requires.report low up one)

pub returns-clause-counted : goal.returns-clause-counted
returns-clause-counted g c =
    let up = c.loop-place.invariant.2 in
    record {
      as_many = up.as_many;
      noted = up.noted;
      each = λ place p q b d low. up.each place tt p q b d (let e = c.requires.homes.as_many in let l = c.loop-place-test.false in omega arith);
    }
