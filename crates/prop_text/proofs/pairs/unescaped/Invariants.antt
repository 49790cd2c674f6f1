use Rattle.std.proofs.Common.{◌≡◌, ◌-◌, ◌≤◌, ◌++◌, length, drop, option_map}
use Rattle.prop_text.specs.Pairs.{unescaped}
use Rattle.prop_text.proofs.pairs.unescaped.Given as goal

abbrev pub invariant-loop-at : goal.invariant-loop-at
invariant-loop-at l = (l.at ≤ length l.raw) × (option_map (λ rest. l.out.items ++ rest) (unescaped 0 (drop l.at l.raw)) ≡ unescaped 0 l.raw)

abbrev pub decreases-loop-at : goal.decreases-loop-at
decreases-loop-at l = length l.initial.raw - l.at
