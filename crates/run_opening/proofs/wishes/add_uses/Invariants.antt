use Rattle.std.proofs.Common.{◌≡◌, ◌++◌, flat_map, take}
use Rattle.run_opening.specs.Staff.{seat_channels}
use Rattle.run_opening.proofs.wishes.add_uses.Given as goal

abbrev pub invariant-loop-seat : goal.invariant-loop-seat
invariant-loop-seat g l = l.uses.items ≡ l.fn.uses.items ++ flat_map seat_channels (take l.seat-index l.seats)
