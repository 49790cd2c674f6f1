use Rattle.std.proofs.Common.{◌≡◌, take, drop, map}
use Rattle.open_table.specs.Tables.{listed_of, moved}
use Rattle.channel_places.proofs.settling.move_all.Given as goal

abbrev pub invariant-loop-ended : goal.invariant-loop-ended
invariant-loop-ended l =
    (map listed_of (take l.ended-index l.staged) ≡ map (moved l.file l.at l.to_file l.to_at) (map listed_of (take l.ended-index l.fn.staged)))
    × (drop l.ended-index l.staged ≡ drop l.ended-index l.fn.staged)
