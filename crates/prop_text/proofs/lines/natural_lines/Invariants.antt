use Rattle.std.proofs.Common.{◌≡◌, ◌-◌, ◌≤◌, ◌++◌, length, drop, take, vec_len}
use Rattle.std.specs.Str.{IsCharBoundary}
use Rattle.prop_text.specs.Lines.{natural_lines, with_front}
use Rattle.prop_text.specs.Views.{texts}
use Rattle.prop_text.proofs.lines.natural_lines.Given as goal

-- the lines so far, and those of what is left with the bytes since the last line end at their front, are those of the text
abbrev pub invariant-loop-at : goal.invariant-loop-at
invariant-loop-at l = record {
  ordered : l.start ≤ l.at;
  within : l.at ≤ length l.bytes;
  count : vec_len l.lines ≤ l.at;
  boundary : IsCharBoundary l.bytes l.start;
  lines : texts l.lines.items ++ with_front (take (l.at - l.start) (drop l.start l.bytes)) (natural_lines (drop l.at l.bytes)) ≡ natural_lines l.bytes;
}

abbrev pub decreases-loop-at : goal.decreases-loop-at
decreases-loop-at l = length l.initial.bytes - l.at
