use Rattle.std.proofs.Common.{◌≡◌, ◌-◌, ◌≤◌, ◌++◌, length, drop, take, filter}
use Rattle.std.specs.Str.{IsCharBoundary}
use Rattle.prop_text.specs.Lines.{with_front}
use Rattle.prop_text.specs.Views.{texts}
use Rattle.plan_judging.specs.Words.{words, pieces, is_word}
use Rattle.plan_judging.proofs.values.words.Given as goal

-- the words so far, and those of what is left with the bytes since the last white space at their front, are those of the text
abbrev pub invariant-loop-at : goal.invariant-loop-at
invariant-loop-at l = record {
  ordered : l.start ≤ l.at;
  within : l.at ≤ length l.bytes;
  boundary : IsCharBoundary l.bytes l.start;
  words : texts l.found.items ++ filter is_word (with_front (take (l.at - l.start) (drop l.start l.bytes)) (pieces (drop l.at l.bytes))) ≡ words l.bytes;
}

abbrev pub decreases-loop-at : goal.decreases-loop-at
decreases-loop-at l = length l.initial.bytes - l.at
