use Rattle.std.proofs.Common.{◌∙◌, ℕ, List, sym, ap, subst, take, false, slice_index_or}
use Rattle.std.proofs.lemmas.List.{take_more}
use Rattle.std.proofs.lemmas.Option.{slice_get-get_or}
use Rattle.event_ring.specs.Slots.{Index, IsLive, Left, marked}
use Rattle.ring_replay.specs.Indexing.{freed}
use Rattle.ring_replay.proofs.RingLists.{all_at, freed_live, freed_more, freed_none}
use Rattle.ring_replay.proofs.settling.free_all.Goals as goal

pub loop-place-init : goal.loop-place-init
loop-place-init c = ap (λ (l : List Left). record c.args.ring.now { live = l }) (sym (freed_none c.args.ring.now.live))

pub free-requires : goal.free-requires
free-requires c =
    let numbers : List ℕ = c.args.numbers.now in
    let k : ℕ = c.loop-place.place in
    let n : ℕ = slice_index_or numbers k 0 in
    let was : IsLive c.args.ring.now.live n = all_at (λ (m : ℕ). IsLive c.args.ring.now.live m) numbers k n c.requires (slice_get-get_or numbers k 0 c.loop-place-test.true) in
    subst (λ (r : Index). IsLive r.live n) (sym c.loop-place.invariant) (freed_live (take k numbers) n c.args.ring.now.live was)

pub loop-place-preserved : goal.loop-place-preserved
loop-place-preserved c =
    let numbers : List ℕ = c.args.numbers.now in
    let k : ℕ = c.loop-place.place in
    let n : ℕ = slice_index_or numbers k 0 in
    c.free.ensures ∙ (ap (λ (r : Index). record r { live = marked n false r.live }) c.loop-place.invariant
    ∙ ap (λ (l : List Left). record c.args.ring.now { live = l }) (sym (freed_more (take k numbers) n c.args.ring.now.live) ∙ ap (λ (l : List ℕ). freed l c.args.ring.now.live) (sym (take_more numbers k 0 c.loop-place-test.true))))
