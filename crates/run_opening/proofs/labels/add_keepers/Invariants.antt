use Rattle.std.proofs.Common.{◌≡◌, ◌++◌, map, take}
use Rattle.run_opening.specs.Labels.{keep_user, user_of}
use Rattle.run_opening.proofs.labels.add_keepers.Given as goal

abbrev pub invariant-loop-keeper : goal.invariant-loop-keeper
invariant-loop-keeper g l = map user_of l.users.items ≡ map user_of l.fn.users.items ++ map (keep_user l.plans) (take l.keeper-index l.keepers)
