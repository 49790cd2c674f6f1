use Rattle.std.proofs.Common.{◌∙◌, ℕ, List, sym, ap, subst, take, slice_index_or}
use Rattle.std.proofs.lemmas.List.{take_more}
use Rattle.std.proofs.lemmas.Option.{slice_get-get_or}
use Rattle.event_ring.specs.Slots.{Index, IsLive, Left, lasting}
use Rattle.ring_replay.specs.Indexing.{lacking}
use Rattle.ring_replay.proofs.RingLists.{all_at, apart_before, lacking_live, lacking_more, lacking_none}
use Rattle.ring_replay.proofs.settling.remove_all.Goals as goal

pub loop-place-init : goal.loop-place-init
loop-place-init c = ap (λ (l : List Left). record c.args.ring.now { live = l }) (sym (lacking_none c.args.ring.now.live))

pub gone-requires : goal.gone-requires
gone-requires c =
    let numbers : List ℕ = c.args.numbers.now in
    let k : ℕ = c.loop-place.place in
    let n : ℕ = slice_index_or numbers k 0 in
    let there = slice_get-get_or numbers k 0 c.loop-place-test.true in
    let was : IsLive c.args.ring.now.live n = all_at (λ (m : ℕ). IsLive c.args.ring.now.live m) numbers k n c.requires.live there in
    subst (λ (r : Index). IsLive r.live n) (sym c.loop-place.invariant) (lacking_live (take k numbers) n c.args.ring.now.live (apart_before numbers k n c.requires.apart there) was)

pub loop-place-preserved : goal.loop-place-preserved
loop-place-preserved c =
    let numbers : List ℕ = c.args.numbers.now in
    let k : ℕ = c.loop-place.place in
    let n : ℕ = slice_index_or numbers k 0 in
    c.gone.ensures ∙ (ap (λ (r : Index). record r { live = lasting n r.live }) c.loop-place.invariant
    ∙ ap (λ (l : List Left). record c.args.ring.now { live = l }) (sym (lacking_more (take k numbers) n c.args.ring.now.live) ∙ ap (λ (l : List ℕ). lacking l c.args.ring.now.live) (sym (take_more numbers k 0 c.loop-place-test.true))))
