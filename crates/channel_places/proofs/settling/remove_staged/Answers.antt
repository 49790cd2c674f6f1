use Rattle.std.proofs.Common.{◌≡◌, ◌+◌, ℕ, List, drop, map, subst, sym}
use Rattle.open_table.specs.Tables.{Listed, listed_of, takes_of}
use Rattle.open_table.specs.declared.table.Ended.{Ended}
use Rattle.event_ring.specs.Slots.{Index, Left}
use Rattle.channel_places.specs.Ends.{AreApart, lacking, takes_in}
use Rattle.channel_places.proofs.Batches.{apart-append, lacking-append, staged_from}
use Rattle.channel_places.proofs.settling.remove_staged.Goals as goal

pub remove_takes-requires : goal.remove_takes-requires
remove_takes-requires c =
    let k : ℕ = c.loop-place.place in
    let staged : List Ended = c.args.staged.now in
    let ended : Ended = c.index-staged-place.result in
    let here = subst (λ (l : List Listed). AreApart c.loop-place.ring.live (takes_in l)) (staged_from staged k ended c.loop-place-test.true c.index-staged-place.is) c.loop-place.invariant.0 in
    (apart-append (takes_of (listed_of ended)) (takes_in (map listed_of (drop (k + 1) staged))) c.loop-place.ring.live here).0

pub loop-place-preserved : goal.loop-place-preserved
loop-place-preserved c =
    let k : ℕ = c.loop-place.place in
    let staged : List Ended = c.args.staged.now in
    let ended : Ended = c.index-staged-place.result in
    let old : Index = c.args.ring.now in
    let ring : Index = c.loop-place.ring in
    let its : List ℕ = takes_of (listed_of ended) in
    let more : List ℕ = takes_in (map listed_of (drop (k + 1) staged)) in
    let all : List ℕ = takes_in (map listed_of staged) in
    let here = subst (λ (l : List Listed). AreApart ring.live (takes_in l) × (record ring { live = lacking (takes_in l) ring.live } ≡ record old { live = lacking all old.live })) (staged_from staged k ended c.loop-place-test.true c.index-staged-place.is) c.loop-place.invariant in
    subst (λ (r : Index). AreApart r.live more × (record r { live = lacking more r.live } ≡ record old { live = lacking all old.live })) (sym c.remove_takes.ensures) (
      (apart-append its more ring.live here.0).1,
      subst (λ (l : List Left). record ring { live = l } ≡ record old { live = lacking all old.live }) (lacking-append its more ring.live) here.1,
    )
