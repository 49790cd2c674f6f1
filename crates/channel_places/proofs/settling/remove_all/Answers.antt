use Rattle.std.proofs.Common.{◌≡◌, ◌+◌, ℕ, List, drop, subst, sym}
use Rattle.std.proofs.lemmas.List.{drop_more}
use Rattle.event_ring.specs.Slots.{Index}
use Rattle.channel_places.specs.Ends.{AreApart, lacking}
use Rattle.channel_places.proofs.settling.remove_all.Goals as goal

pub loop-place-preserved : goal.loop-place-preserved
loop-place-preserved c =
    let k : ℕ = c.loop-place.place in
    let numbers : List ℕ = c.args.numbers.now in
    let old : Index = c.args.ring.now in
    let here = subst (λ (l : List ℕ). AreApart c.loop-place.ring.live l × (record c.loop-place.ring { live = lacking l c.loop-place.ring.live } ≡ record old { live = lacking numbers old.live })) (drop_more numbers k 0 c.loop-place-test.true) c.loop-place.invariant in
    subst (λ (r : Index). AreApart r.live (drop (k + 1) numbers) × (record r { live = lacking (drop (k + 1) numbers) r.live } ≡ record old { live = lacking numbers old.live })) (sym c.gone.ensures)
    (here.0.1, here.1)
