use Rattle.std.proofs.Common.{take}
use Rattle.run_opening.specs.Wishes.{AreWishes}
use Rattle.run_opening.proofs.wishes.wishes_of.Given as goal

abbrev pub invariant-loop-place : goal.invariant-loop-place
invariant-loop-place l = AreWishes l.uses (take l.place l.plans) l.wishes.items
