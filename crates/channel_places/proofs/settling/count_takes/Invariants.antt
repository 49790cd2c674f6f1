use Rattle.std.proofs.Common.{◌≡◌, ◌≤◌, ◌+◌, ◌-◌, ◌^◌, drop, length}
use Rattle.std.specs.Prelude.{map}
use Rattle.channel_face.specs.Counters.{capped}
use Rattle.open_table.specs.Tables.{listed_of}
use Rattle.channel_places.specs.Ends.{takes_in}
use Rattle.channel_places.proofs.settling.count_takes.Given as goal

abbrev pub invariant-loop-place : goal.invariant-loop-place
invariant-loop-place l = (l.count ≤ 2 ^ 64 - 1) × (capped (l.count + length (takes_in (map listed_of (drop l.place l.staged)))) ≡ capped (length (takes_in (map listed_of l.staged))))
