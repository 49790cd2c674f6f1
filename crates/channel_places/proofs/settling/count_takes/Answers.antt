use Rattle.std.proofs.Common.{◌≡◌, ◌+◌, ◌++◌, ℕ, List, ap, arith, drop, length, length-append, map}
use Rattle.std.proofs.lemmas.List.{drop_all}
use Rattle.open_table.specs.Tables.{Listed, listed_of, takes_of}
use Rattle.open_table.specs.declared.table.Ended.{Ended}
use Rattle.channel_places.specs.Ends.{takes_in}
use Rattle.channel_places.proofs.Batches.{staged_from}
use Rattle.channel_places.proofs.settling.count_takes.Goals as goal

pub loop-place-preserved : goal.loop-place-preserved
loop-place-preserved c =
    let k : ℕ = c.loop-place.place in
    let staged : List Ended = c.args.staged.now in
    let ended : Ended = c.index-staged-place.result in
    let more : List ℕ = takes_in (map listed_of (drop (k + 1) staged)) in
    let split : length (takes_in (map listed_of (drop k staged))) ≡ length (takes_of (listed_of ended) ++ more) = ap (λ (l : List Listed). length (takes_in l)) (staged_from staged k ended c.loop-place-test.true c.index-staged-place.is) in
    (omega arith, omega (arith, c.loop-place.invariant.1, split, length-append (takes_of (listed_of ended)) more))

pub returns : goal.returns
returns c =
    let k : ℕ = c.loop-place.place in
    let staged : List Ended = c.args.staged.now in
    let nothing : length (takes_in (map listed_of (drop k staged))) ≡ 0 = ap (λ (l : List Ended). length (takes_in (map listed_of l))) (drop_all k staged c.loop-place-test.false) in
    omega (arith, c.loop-place.invariant.0, c.loop-place.invariant.1, nothing)
