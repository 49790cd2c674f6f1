use Rattle.std.proofs.Common.{◌≡◌, ◌+◌, ℕ, List, drop, subst, sym, slice_index_or}
use Rattle.std.proofs.lemmas.List.{drop_more}
use Rattle.event_ring.specs.Slots.{Index}
use Rattle.channel_places.specs.Ends.{AreLive, freed}
use Rattle.channel_places.proofs.Batches.{all_marked}
use Rattle.channel_places.proofs.settling.free_all.Goals as goal

pub loop-place-preserved : goal.loop-place-preserved
loop-place-preserved c =
    let k : ℕ = c.loop-place.place in
    let numbers : List ℕ = c.args.numbers.now in
    let old : Index = c.args.ring.now in
    let n : ℕ = slice_index_or numbers k 0 in
    let here = subst (λ (l : List ℕ). AreLive c.loop-place.ring.live l × (record c.loop-place.ring { live = freed l c.loop-place.ring.live } ≡ record old { live = freed numbers old.live })) (drop_more numbers k 0 c.loop-place-test.true) c.loop-place.invariant in
    subst (λ (r : Index). AreLive r.live (drop (k + 1) numbers) × (record r { live = freed (drop (k + 1) numbers) r.live } ≡ record old { live = freed numbers old.live })) (sym c.free.ensures)
    (all_marked n c.loop-place.ring.live (drop (k + 1) numbers) here.0.1, here.1)
