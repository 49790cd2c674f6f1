use Rattle.std.proofs.Common.{◌≡◌, ◌+◌, ◌-◌, ◌≤◌, length, drop}
use Rattle.prop_text.specs.Pairs.{key_len}
use Rattle.prop_text.proofs.pairs.key_len.Given as goal

abbrev pub invariant-loop-at : goal.invariant-loop-at
invariant-loop-at l = (l.at ≤ length l.line) × (l.at + key_len (drop l.at l.line) ≡ key_len l.line)

abbrev pub decreases-loop-at : goal.decreases-loop-at
decreases-loop-at l = length l.initial.line - l.at
