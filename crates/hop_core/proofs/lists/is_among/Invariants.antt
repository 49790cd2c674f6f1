use Rattle.std.proofs.Common.{◌≡◌, drop}
use Rattle.event_core.specs.Journal.{is_among}
use Rattle.hop_core.proofs.lists.is_among.Given as goal

abbrev pub invariant-loop-place : goal.invariant-loop-place
invariant-loop-place l = is_among l.numbers l.number ≡ is_among (drop l.place l.numbers) l.number
