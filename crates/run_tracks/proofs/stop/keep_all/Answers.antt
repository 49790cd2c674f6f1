use Rattle.std.proofs.Common.{◌∙◌, ◌+◌, ◌<◌, List, length, get_or, Bool, false, sym, ap, subst, arith}
use Rattle.std.proofs.lemmas.List.{get_or_default}
use Rattle.shared_channel.specs.Passes.{Known}
use Rattle.two_channels.specs.Shares.{table_of}
use Rattle.two_channels.specs.declared.shared.EitherShared.{EitherShared}
use Rattle.run_tracks.specs.Homes.{AreHomes}
use Rattle.run_tracks.specs.Stops.{IsKept, KeptIf}
use Rattle.run_tracks.proofs.Keeping.{KeptTo, kept_more, kept_past}
use Rattle.run_tracks.proofs.Stopping.{homes_set}
use Rattle.run_tracks.proofs.stop.keep_all.Goals.{then-closes-place, else-closes-place}
use Rattle.run_tracks.proofs.stop.keep_all.Goals as goal

pub keep-requires : goal.keep-requires
keep-requires g c =
    let share = c.index-shares-place in
    let below : c.loop-place.place < length c.loop-place.homes = let e = c.loop-place.invariant.0.as_many in let l = c.loop-place-test.true in omega arith in
    let at = c.loop-place.invariant.0.each c.loop-place.place c.index-homes-place.result below in
    at.here share.result ∙ ap table_of (sym share.is)

pub loop-place-preserved : goal.loop-place-preserved
loop-place-preserved g c =
    let share = c.index-shares-place in
    let n = c.loop-place.place in
    let homes = c.loop-place.homes in
    let closes = c.args.closes.now in
    let up = c.loop-place.invariant.1 in
    let below : n < length homes = let e = c.loop-place.invariant.0.as_many in let l = c.loop-place-test.true in omega arith in
    let low : n < length c.args.homes.now = let e = up.as_many in omega arith in
    let in_closes : n < length closes = let e = c.requires.closes in omega arith in
    let Kept = λ (s : EitherShared g.row.A.Denot g.row.B.Denot) (p q : Known). IsKept g.A.Channel.stands g.A.Channel.tells g.A.Channel.moment g.A.Durable.is_laid g.A.Durable.is_pruned s p q in
    let Went = λ (hs : List Known). AreHomes table_of c.args.shares.now hs × KeptTo Kept (n + 1) c.args.shares.now closes c.args.homes.now hs in
    elim c.if-closes-place.branch [
      | then-closes-place w ↦
          let new = w.keep.new.pass in
          let did = w.keep.ensures in
          let old : Known = w.index-homes-place.result in
          let one : (s : EitherShared g.row.A.Denot g.row.B.Denot) (b : Bool) (p : Known) → KeptIf (get_or closes n b) (Kept (get_or c.args.shares.now n s)) (get_or c.args.homes.now n p) new =
          λ s b p. subst (λ (x : Bool × EitherShared g.row.A.Denot g.row.B.Denot × Known). KeptIf x.0 (Kept x.1) x.2 new)
          (λ i. (sym (get_or_default closes n b false in_closes ∙ w.if-closes-place.true) i, (share.is ∙ get_or_default c.args.shares.now n share.result s c.loop-place-test.true) i, (get_or_default homes n old p below ∙ up.same n p (omega arith)) i))
          (record { keeps = did.keeps; later = did.kept }) in
          subst Went (sym w.homes-is) (
            homes_set table_of c.args.shares.now homes n new c.loop-place.invariant.0 below (λ d. did.same.0 ∙ ap (λ (k : Known). k.table_id) (get_or_default homes n old d below)),
            kept_more Kept n c.args.shares.now closes c.args.homes.now homes low up new one,
          )
      | else-closes-place w ↦
          subst Went (sym w.homes-is) (c.loop-place.invariant.0, kept_past Kept n c.args.shares.now closes c.args.homes.now homes low up (λ b. get_or_default closes n b false in_closes ∙ w.if-closes-place.false))
    ]
