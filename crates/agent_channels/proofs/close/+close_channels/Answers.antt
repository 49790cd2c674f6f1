use Rattle.std.proofs.Common.{rules, ◌≡◌, ◌∙◌, ◌+◌, List, [], ◌∷◌, ◌++◌, length, map, refl, sym, ap, subst, arith}
use Rattle.std.proofs.lemmas.List.{length-append, length-map}
use Rattle.shared_channel.specs.Passes.{Known}
use Rattle.two_channels.specs.Shares.{pass_of}
use Rattle.two_channels.specs.declared.shared.EitherClosed.{EitherClosed}
use Rattle.channel_wishes.specs.Openings.{HostTold}
use Rattle.channel_wishes.specs.Places.{AreOfWishes}
use Rattle.agent_channels.specs.Closings.{DiskBack, DisksBack, back_of, backs_of}
use Rattle.agent_channels.proofs.Backing.{back_none, back_then, backs_none, backs_split, of_later, of_some, of_split}
use Rattle.channel_wishes.proofs.Gaining.{gained_last, gained_none}
use Rattle.agent_channels.proofs.close.+close_channels.Goals as goal

pub unreachable-requires : goal.unreachable-requires
unreachable-requires g t c =
    of_some (g.H.Host.folders c.args.host.now) c.args.wishes.now c.pop.new.self.items c.in-Some.last c.in_default-split_last.ensures.cases
    (subst (λ (l : List (EitherClosed _ _)). AreOfWishes (g.H.Host.folders c.args.host.now) c.args.wishes.now l) c.in-Some.ensures.items c.requires.of)

pub give_back-pass-requires-after_bounds : goal.give_back-pass-requires-after_bounds
give_back-pass-requires-after_bounds g t c κs within =
    (of_split (g.H.Host.folders c.args.host.now) c.args.wishes.now c.in-Some-split_last.front.now c.args.closed.items c.pop.new.self.items c.in-Some-split_last.wish.now c.in-Some.last c.in-Some-split_last.ensures.cases.0 c.in-Some.ensures.items c.requires.of).1

pub close_channels-requires-clause-of : goal.close_channels-requires-clause-of
close_channels-requires-clause-of g t c κs within =
    let old = g.H.Host.folders c.args.host.now in
    let mid = g.H.Host.folders c.give_back-pass.new.host in
    let of = (of_split old c.args.wishes.now c.in-Some-split_last.front.now c.args.closed.items c.pop.new.self.items c.in-Some-split_last.wish.now c.in-Some.last c.in-Some-split_last.ensures.cases.0 c.in-Some.ensures.items c.requires.of).0 in
    of_later old mid (λ p is. c.give_back-pass.ensures.back.opened p ∙ is) c.in-Some-split_last.front.now c.pop.new.self.items of

pub close_channels-requires-clause-room : goal.close_channels-requires-clause-room
close_channels-requires-clause-room g t c κs within =
    let e : length c.args.closed.items ≡ length c.pop.new.self.items + 1 = ap length c.in-Some.ensures.items ∙ length-append c.pop.new.self.items (c.in-Some.last ∷ []) in
    let r = c.requires.room in
    omega (arith, e, r)

pub push_reserved-requires : goal.push_reserved-requires
push_reserved-requires g t c =
    let e : length c.args.closed.items ≡ length c.pop.new.self.items + 1 = ap length c.in-Some.ensures.items ∙ length-append c.pop.new.self.items (c.in-Some.last ∷ []) in
    let many : length c.close_channels.new.passes.items ≡ length c.args.passes.now.items + length c.pop.new.self.items =
    ap length c.close_channels.ensures.passes ∙ length-append c.args.passes.now.items (map (λ x. pass_of x) c.pop.new.self.items) ∙ ap (λ n. length c.args.passes.now.items + n) (length-map c.pop.new.self.items (λ x. pass_of x)) in
    let room = c.requires.room in
    let kept = c.close_channels.ensures.room in
    first_of (omega arith, search (rules, arith))

pub returns-clause-passes : goal.returns-clause-passes
returns-clause-passes g t c =
    gained_last (λ x. pass_of x) c.args.closed.items c.pop.new.self.items c.in-Some.last c.args.passes.now.items c.close_channels.new.passes.items c.push_reserved.new.self.items c.in-Some.ensures.items c.close_channels.ensures.passes
    (c.push_reserved.ensures.items ∙ ap (λ (p : Known). c.close_channels.new.passes.items ++ p ∷ []) c.give_back-pass.ensures.pass)

pub returns-clause-back : goal.returns-clause-back
returns-clause-back g t c =
    let a : HostTold = record { state = g.H.Host.state c.args.host.now; folders = g.H.Host.folders c.args.host.now } in
    let m : HostTold = record { state = g.H.Host.state c.give_back-pass.new.host; folders = g.H.Host.folders c.give_back-pass.new.host } in
    let b : HostTold = record { state = g.H.Host.state c.close_channels.new.host; folders = g.H.Host.folders c.close_channels.new.host } in
    let told = g.H.Disk.Disk.told in
    let faults = g.H.Disk.Disk.faults in
    let s = c.in-Some-split_last in
    let left = c.pop.new.self.items in
    let of = (of_split a.folders c.args.wishes.now s.front.now c.args.closed.items left s.wish.now c.in-Some.last s.ensures.cases.0 c.in-Some.ensures.items c.requires.of).0 in
    let all = back_then (backs_of told faults s.front.now left) (back_of told faults s.wish.now.place c.in-Some.last) a m b c.give_back-pass.ensures.back c.close_channels.ensures.back in
    subst (λ (l : List DiskBack). DisksBack l a b) (sym (backs_split told faults a.folders c.args.wishes.now s.front.now c.args.closed.items left s.wish.now c.in-Some.last s.ensures.cases.0 c.in-Some.ensures.items of)) all

pub returns-in_default-clause-passes : goal.returns-in_default-clause-passes
returns-in_default-clause-passes g t c = gained_none (λ x. pass_of x) c.args.closed.items c.args.passes.now.items (search rules)

pub returns-in_default-clause-back : goal.returns-in_default-clause-back
returns-in_default-clause-back g t c =
    let a : HostTold = record { state = g.H.Host.state c.args.host.now; folders = g.H.Host.folders c.args.host.now } in
    let none : c.args.closed.items ≡ [] = search rules in
    subst (λ (l : List DiskBack). DisksBack l a a) (sym (backs_none g.H.Disk.Disk.told g.H.Disk.Disk.faults c.args.wishes.now c.args.closed.items none)) (back_none a a refl)
