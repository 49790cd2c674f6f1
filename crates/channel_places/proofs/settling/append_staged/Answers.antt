use Rattle.std.proofs.Common.{◌+◌, ℕ, List, ap, drop, map}
use Rattle.open_table.specs.Tables.{Listed, listed_of, puts_of}
use Rattle.open_table.specs.declared.table.Ended.{Ended}
use Rattle.channel_places.specs.Ends.{pointers_in}
use Rattle.channel_places.proofs.Batches.{part_more, staged_from}
use Rattle.channel_places.proofs.settling.append_staged.Goals as goal

pub loop-place-preserved : goal.loop-place-preserved
loop-place-preserved c =
    let k : ℕ = c.loop-place.place in
    let staged : List Ended = c.args.staged.now in
    let ended : Ended = c.index-staged-place.result in
    part_more c.args.first (pointers_in (map listed_of staged)) c.args.ring.now c.loop-place.next (pointers_in (map listed_of (drop k staged))) (puts_of (listed_of ended)) (pointers_in (map listed_of (drop (k + 1) staged))) c.loop-place.ring c.append_puts-next.new.ring c.append_puts-next.result
    c.loop-place.invariant (ap (λ (l : List Listed). pointers_in l) (staged_from staged k ended c.loop-place-test.true c.index-staged-place.is)) c.append_puts-next.ensures.appended c.append_puts-next.ensures.next
