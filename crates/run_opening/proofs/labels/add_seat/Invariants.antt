use Rattle.std.proofs.Common.{◌≡◌, ◌++◌, map, take}
use Rattle.run_opening.specs.Labels.{channel_user, user_of}
use Rattle.run_opening.proofs.labels.add_seat.Given as goal

abbrev pub invariant-loop-channel : goal.invariant-loop-channel
invariant-loop-channel g l =
    map user_of l.users.items ≡ map user_of l.fn.users.items ++ map (channel_user l.sources l.seat.draft) (take l.channel-index l.seat.draft.channels.items)
