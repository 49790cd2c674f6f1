-- What follows for the scheduler.
use Rattle.std.specs.Prelude.{◌≡◌, ◌<◌, ◌≤◌, ◌+◌, ◌*◌, ◌^◌, ℕ, length, min, true, false}
use Rattle.std.specs.List.{filter}
use Rattle.std.specs.List.Sorted.{IsPermutation}
use Rattle.sink_groups.specs.Scheduler.{Group, cools, is_due, order, reported, standing_of}

-- a delivery tries each member that is not left alone, and each once, in some order
abbrev pub TriesAllThatAreDue : Type 0
TriesAllThatAreDue = (g : Group) (now draw : ℕ) → IsPermutation (filter (is_due g.members now) g.ranking) (order g now draw)

-- A member that failed is left alone from then on for as long as its row of failures says, but no longer than the penalty; and it is tried from the end of that on.
abbrev pub LeavesAloneAfterAFailure : Type 0
LeavesAloneAfterAFailure =
    (g : Group) (member now then : ℕ) → member < length g.members → cools g.kind g.backoff ≡ true →
    let row = min ((standing_of g.members member).failures + 1) 32 in
    let pause = min g.penalty (1000 * 2 ^ row) in
    (then < now + pause → is_due (reported g member false now).members then member ≡ false) × (now + pause ≤ then → is_due (reported g member false now).members then member ≡ true)
