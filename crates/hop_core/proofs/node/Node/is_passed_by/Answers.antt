use Rattle.std.proofs.Common.{rules, ◌≡◌, ◌∙◌, ◌<◌, length, sym, ap, subst, true, false}
use Rattle.world_laws.specs.World.{Node, share}
use Rattle.world_laws.specs.Channels.{is_empty}
use Rattle.world_laws.specs.Steps.{is_passed}
use Rattle.hop_core.specs.contracts.node.Node.{the_view}
use Rattle.hop_core.proofs.Passing.{passed_here, empty_here, stops_here}
use Rattle.hop_core.proofs.node.Node.is_passed_by.Goals as goal

pub loop-place-preserved-then-is_passed : goal.loop-place-preserved-then-is_passed
loop-place-preserved-then-is_passed c =
    let l = c.loop-place in
    let here : l.place < length (the_view c.self.inside).channels = search rules in
    let within : l.place < length c.args.self.now.channels = subst (λ (n : Node). l.place < length n.channels) c.self.view_is here in
    let is : is_passed c.args.work.now l.place ≡ true = search rules in
    l.invariant ∙ passed_here c.args.self.now c.args.work.now c.args.self.now.channels l.place within is

pub returns-then-not-is_empty : goal.returns-then-not-is_empty
returns-then-not-is_empty c =
    let l = c.loop-place in
    let here : l.place < length (the_view c.self.inside).channels = search rules in
    let within : l.place < length c.args.self.now.channels = subst (λ (n : Node). l.place < length n.channels) c.self.view_is here in
    let un_passed : is_passed c.args.work.now l.place ≡ false = search rules in
    let batch : c.in_ok-share.field-0 ≡ share (the_view c.self.inside) c.work.inside.made l.place = search rules in
    let given : is_empty c.in_ok-share.field-0 ≡ false = search rules in
    let some : is_empty (share c.args.self.now c.args.work.now.made l.place) ≡ false = rw (← c.self.view_is, ← c.work.view_is) (ap is_empty (sym batch) ∙ given) in
    sym (l.invariant ∙ stops_here c.args.self.now c.args.work.now c.args.self.now.channels l.place within some un_passed)

pub loop-place-preserved : goal.loop-place-preserved
loop-place-preserved c =
    let l = c.loop-place in
    let here : l.place < length (the_view c.self.inside).channels = search rules in
    let within : l.place < length c.args.self.now.channels = subst (λ (n : Node). l.place < length n.channels) c.self.view_is here in
    let batch : c.in_ok-share.field-0 ≡ share (the_view c.self.inside) c.work.inside.made l.place = search rules in
    let given : is_empty c.in_ok-share.field-0 ≡ true = search rules in
    let none : is_empty (share c.args.self.now c.args.work.now.made l.place) ≡ true = rw (← c.self.view_is, ← c.work.view_is) (ap is_empty (sym batch) ∙ given) in
    l.invariant ∙ empty_here c.args.self.now c.args.work.now c.args.self.now.channels l.place within none
