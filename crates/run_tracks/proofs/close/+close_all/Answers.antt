use Rattle.std.proofs.Common.{rules, ◌≡◌, ◌∙◌, ◌≤◌, List, [], ◌∷◌, ◌+◌, length, Some, sym, ap, subst, arith}
use Rattle.std.proofs.lemmas.List.{length-append}
use Rattle.std.proofs.lemmas.List.Elements.{All-pop}
use Rattle.std.specs.Vec.{vec_capacity}
use Rattle.channel_lock.specs.Turns.{HasAll}
use Rattle.channel_lock.specs.Views.{saw}
use Rattle.channel_face.specs.History.{Step}
use Rattle.shared_channel.specs.Passes.{Known}
use Rattle.two_channels.specs.Shares.{StandsClosed, table_of}
use Rattle.two_channels.specs.declared.shared.EitherClosed.{EitherClosed}
use Rattle.two_channels.specs.declared.shared.EitherShared.{EitherShared}
use Rattle.run_tracks.specs.Homes.{AreHomes}
use Rattle.run_tracks.specs.Closes.{AreClosed, IsClosed}
use Rattle.run_tracks.proofs.Closing.{closed_length, closed_push, left_made}
use Rattle.run_tracks.proofs.Homing.{are_homes_pop}
use Rattle.run_tracks.proofs.close.+close_all.Goals as goal

pub close_all-requires : goal.close_all-requires
close_all-requires g t c κs within =
    let both = are_homes_pop (table_of {A = g.row.A.Denot} {B = g.row.B.Denot}) c.pop.new.self.items c.pop-2.new.self.items c.in-Some.share c.in-Some-pop.pass
    (subst (λ (x : List (EitherShared g.row.A.Denot g.row.B.Denot) × List Known). AreHomes table_of x.0 x.1) (λ i. (c.in-Some.ensures.items i, c.in-Some-pop.ensures.items i)) c.requires.homes) in
    let alls = All-pop (λ (p : Known). HasAll p.view) c.args.homes.items c.pop-2.new.self.items (Some c.in-Some-pop.pass) c.in-Some-pop.ensures.items c.requires.all in
    let e : length c.args.shares.items ≡ length c.pop.new.self.items + 1 = ap length c.in-Some.ensures.items ∙ length-append c.pop.new.self.items (c.in-Some.share ∷ []) in
    let h : length c.args.homes.items ≡ length c.pop-2.new.self.items + 1 = ap length c.in-Some-pop.ensures.items ∙ length-append c.pop-2.new.self.items (c.in-Some-pop.pass ∷ []) in
    let room : length c.pop-2.new.self.items ≤ vec_capacity c.args.ends.now = let r = c.requires.room in omega arith in
    let d = c.decreases in
    (omega arith, (within.0, (within.1.0, (within.1.1, (c.requires.none, (room, (both.0, alls.0)))))))

pub close-requires : goal.close-requires
close-requires g t c =
    (are_homes_pop (table_of {A = g.row.A.Denot} {B = g.row.B.Denot}) c.pop.new.self.items c.pop-2.new.self.items c.in-Some.share c.in-Some-pop.pass
    (subst (λ (x : List (EitherShared g.row.A.Denot g.row.B.Denot) × List Known). AreHomes table_of x.0 x.1) (λ i. (c.in-Some.ensures.items i, c.in-Some-pop.ensures.items i)) c.requires.homes)).1

pub push_reserved-requires : goal.push_reserved-requires
push_reserved-requires g t c =
    let C = IsClosed {A = g.row.A.Denot} {B = g.row.B.Denot} g.A.Channel.stands g.A.Channel.tells g.B.Channel.stands g.B.Channel.tells in
    let many : length c.pop-2.new.self.items ≡ length c.close_all.new.ends.items = closed_length C c.pop.new.self.items c.pop-2.new.self.items c.close_all.new.ends.items c.close_all.ensures.closed in
    let h : length c.args.homes.items ≡ length c.pop-2.new.self.items + 1 = ap length c.in-Some-pop.ensures.items ∙ length-append c.pop-2.new.self.items (c.in-Some-pop.pass ∷ []) in
    let room = c.requires.room in
    let kept = c.close_all.ensures.room in
    first_of (omega arith, search (rules, arith))

pub returns-clause-closed : goal.returns-clause-closed
returns-clause-closed g t c =
    let A = g.row.A.Denot in
    let B = g.row.B.Denot in
    let end = c.close.ensures in
    let made = c.close.result in
    let home = c.in-Some-pop.pass in
    let C = IsClosed {A = A} {B = B} g.A.Channel.stands g.A.Channel.tells g.B.Channel.stands g.B.Channel.tells in
    let alls = All-pop (λ (p : Known). HasAll p.view) c.args.homes.items c.pop-2.new.self.items (Some home) c.in-Some-pop.ensures.items c.requires.all in
    let seen = end.whole alls.1 in
    let turn = left_made g.A.Channel.stands g.A.Channel.tells g.B.Channel.stands g.B.Channel.tells c.in-Some.share home.view made end.left in
    let one : C c.in-Some.share home made = record {
      table = end.same.0;
      number = end.same.1;
      view = turn.1 ∙ ap (λ (l : List Step). saw home.view l) seen;
      left = end.left;
      channel = subst (λ (l : List Step). StandsClosed g.A.Channel.stands g.B.Channel.stands c.in-Some.share home.view.base l made) seen end.channel;
    } in
    subst (λ (x : List (EitherShared A B) × List Known × List (EitherClosed A B)). AreClosed C x.0 x.1 x.2) (λ i. (sym c.in-Some.ensures.items i, sym c.in-Some-pop.ensures.items i, sym c.push_reserved.ensures.items i))
    (closed_push C c.pop.new.self.items c.pop-2.new.self.items c.close_all.new.ends.items c.in-Some.share home made c.close_all.ensures.closed one)
