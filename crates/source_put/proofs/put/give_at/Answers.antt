use Rattle.std.proofs.Common.{◌≡◌, ◌∙◌, List, ℕ, get_or, subst, sym, ap}
use Rattle.event_core.specs.Content.{Content}
use Rattle.channel_face.specs.Faces.{picked_events}
use Rattle.source_put.specs.Tries.{Puts, Tries, events_at}
use Rattle.source_put.proofs.Picking.{events_here}
use Rattle.source_put.proofs.put.give_at.Goals as goal

pub returns : goal.returns
returns g c =
    let batch = c.args.batch.now in
    let value : c.as_slice.result.now ≡ (get_or c.args.picked.now c.args.place c.index-picked-place.result).items = c.as_slice.ensures.value ∙ ap (λ v. v.items) c.index-picked-place.is in
    let here : picked_events batch c.as_slice.result.now ≡ events_at batch c.args.picked.now c.args.place = ap (λ (l : List ℕ). picked_events batch l) value ∙ sym (events_here batch c.args.picked.now c.args.place c.index-picked-place.result c.requires.place) in
    subst (λ (l : List Content). Tries (Puts g.F.Face.own g.F.Face.saw g.F.Face.seen g.F.Face.kept) l c.args.port.now c.give.new.port c.give.result) here c.give.ensures
