use Rattle.std.proofs.Common.{◌∙◌, ◌<◌, length, get_or, Bool, Result, sym, ap, subst, arith}
use Rattle.std.proofs.lemmas.List.{get_or_default}
use Rattle.channel_face.specs.declared.replies.OpenCause.{OpenCause}
use Rattle.shared_channel.specs.Passes.{Known}
use Rattle.two_channels.specs.Shares.{table_of}
use Rattle.two_channels.specs.declared.shared.EitherShared.{EitherShared}
use Rattle.run_tracks.specs.Stops.{IsMended}
use Rattle.run_tracks.proofs.Stopping.{homes_set, up_to_more}
use Rattle.run_tracks.proofs.stop.mend_all.Goals as goal

pub mend-requires : goal.mend-requires
mend-requires g c =
    let share = c.index-shares-place in
    let below : c.loop-place.place < length c.loop-place.homes = let e = c.loop-place.invariant.0.as_many in let l = c.loop-place-test.true in omega arith in
    let at = c.loop-place.invariant.0.each c.loop-place.place c.index-homes-place.result below in
    at.here share.result ∙ ap table_of (sym share.is)

pub loop-place-preserved : goal.loop-place-preserved
loop-place-preserved g c =
    let share = c.index-shares-place in
    let n = c.loop-place.place in
    let homes = c.loop-place.homes in
    let up = c.loop-place.invariant.1 in
    let new = c.mend.new.pass in
    let did = c.mend.ensures in
    let below : n < length homes = let e = c.loop-place.invariant.0.as_many in let l = c.loop-place-test.true in omega arith in
    let low : n < length c.args.homes.now = let e = up.as_many in omega arith in
    let Became = λ (s : EitherShared g.row.A.Denot g.row.B.Denot) (home : Known) (before after : Result Bool OpenCause) (q : Known). IsMended g.A.Channel.stands g.A.Channel.tells g.A.Channel.moment s home after q in
    let one : (s : EitherShared g.row.A.Denot g.row.B.Denot) (p : Known) (b : Result Bool OpenCause) → IsMended g.A.Channel.stands g.A.Channel.tells g.A.Channel.moment (get_or c.args.shares.now n s) (get_or c.args.homes.now n p) c.mend.result new =
    λ s p b. subst (λ (x : EitherShared g.row.A.Denot g.row.B.Denot × Known). IsMended g.A.Channel.stands g.A.Channel.tells g.A.Channel.moment x.0 x.1 c.mend.result new)
    (λ i. ((share.is ∙ get_or_default c.args.shares.now n share.result s c.loop-place-test.true) i, (get_or_default homes n c.index-homes-place.result p below ∙ up.same n p (omega arith)) i))
    (record { mends = did.mends; later = did.kept }) in
    (homes_set table_of c.args.shares.now homes n new c.loop-place.invariant.0 below (λ d. did.same.0 ∙ ap (λ (k : Known). k.table_id) (get_or_default homes n c.index-homes-place.result d below)), up_to_more Became n c.args.shares.now c.args.homes.now c.args.answers.now c.loop-place.answers homes c.mend.result new c.requires.answers low up one)

pub returns-clause-mended : goal.returns-clause-mended
returns-clause-mended g c =
    let up = c.loop-place.invariant.1 in
    record {
      as_many = up.as_many;
      answered = up.noted ∙ c.requires.answers;
      each = λ place s p q a low. up.each place s p q a a (let e = c.requires.homes.as_many in let l = c.loop-place-test.false in omega arith);
    }
