use Rattle.std.proofs.Common.{◌≡◌, ◌++◌, flat_map, map, take}
use Rattle.run_opening.specs.Labels.{seat_users, user_of}
use Rattle.run_opening.proofs.labels.add_seats.Given as goal

abbrev pub invariant-loop-seat : goal.invariant-loop-seat
invariant-loop-seat g l = map user_of l.users.items ≡ map user_of l.fn.users.items ++ flat_map (seat_users l.sources) (take l.seat-index l.seats)
