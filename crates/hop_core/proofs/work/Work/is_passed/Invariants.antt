use Rattle.std.proofs.Common.{◌≡◌, drop, map}
use Rattle.event_core.specs.Journal.{is_among}
use Rattle.hop_core.proofs.work.Work.is_passed.Given as goal

abbrev pub invariant-loop-entry : goal.invariant-loop-entry
invariant-loop-entry l = is_among (map (λ e. e.0) l.entry-items) l.channel ≡ is_among (map (λ e. e.0) (drop l.entry-index l.entry-items)) l.channel
