use Rattle.std.proofs.Common.{◌≡◌, ◌∙◌, ◌++◌, List, length, map, sym, ap, subst}
use Rattle.std.specs.declared.alloc.Global.{Global}
use Rattle.std.specs.declared.vec.Vec.{Vec}
use Rattle.shared_channel.specs.Passes.{Known}
use Rattle.two_channels.specs.declared.shared.EitherShared.{EitherShared}
use Rattle.channel_wishes.specs.declared.opened.OpenedChannel.{OpenedChannel}
use Rattle.run_tracks.specs.Deals.{count_of, hand_at, hands_of}
use Rattle.run_opening.specs.Assembled.{IsStaff}
use Rattle.run_opening.specs.Prepared.{uses_of}
use Rattle.run_opening.proofs.Crewing.{freshly, is_crew, undealt}
use Rattle.run_opening.proofs.assemble.crew_of.Goals as goal

pub assemble-jobs-requires-clause-hands : goal.assemble-jobs-requires-clause-hands
assemble-jobs-requires-clause-hands g c = λ place.
    let same : c.as_mut_slice.result.now ≡ map (λ (o : OpenedChannel g.row.A.Denot g.row.B.Denot). o.others) c.args.opened.items =
    c.as_mut_slice.ensures.value ∙ c.take_apart.ensures.others ∙ ap (λ (l : List (Vec Known Global)). l ++ map (λ (o : OpenedChannel g.row.A.Denot g.row.B.Denot). o.others) c.args.opened.items) c.requires.hands.0 in
    let uses = uses_of c.args.parts.keepers.items c.args.plans.now c.args.parts.listeners.items c.args.parts.lines.items in
    let fresh = freshly c.args.wishes.now c.args.opened.items c.requires.opened in
    subst (λ (l : List (Vec Known Global)). length (hand_at (hands_of l) place) ≡ count_of place uses) (sym same)
    (undealt c.args.wishes.now c.args.opened.items fresh uses c.requires.used place)

pub returns : goal.returns
returns g c =
    let same : c.as_mut_slice.result.now ≡ map (λ (o : OpenedChannel g.row.A.Denot g.row.B.Denot). o.others) c.args.opened.items =
    c.as_mut_slice.ensures.value ∙ c.take_apart.ensures.others ∙ ap (λ (l : List (Vec Known Global)). l ++ map (λ (o : OpenedChannel g.row.A.Denot g.row.B.Denot). o.others) c.args.opened.items) c.requires.hands.0 in
    let shares = c.take_apart.ensures.shares ∙ ap (λ (l : List (EitherShared g.row.A.Denot g.row.B.Denot)). l ++ map (λ (o : OpenedChannel g.row.A.Denot g.row.B.Denot). o.share) c.args.opened.items) c.requires.shares.0 in
    let homes = c.take_apart.ensures.homes ∙ ap (λ (l : List Known). l ++ map (λ (o : OpenedChannel g.row.A.Denot g.row.B.Denot). o.home) c.args.opened.items) c.requires.homes.0 in
    record {
      crew = is_crew c.args.plans.now c.args.wishes.now c.args.opened.items c.args.parts c.requires.opened c.requires.used c.requires.folders c.requires.fit
          (record { shares = c.take_apart.new.shares; homes = c.take_apart.new.homes; jobs = c.assemble-jobs.result }) shares homes
          (subst (λ (l : List (Vec Known Global)). IsStaff c.args.plans.now c.args.parts (hands_of l) c.assemble-jobs.result) same c.assemble-jobs.ensures.staff);
    }
