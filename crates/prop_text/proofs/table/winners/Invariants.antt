use Rattle.std.proofs.Common.{◌≡◌, List, drop}
use Rattle.prop_text.specs.Pairs.{Pair, pairs}
use Rattle.prop_text.specs.Winners.{winners}
use Rattle.prop_text.specs.Table.{pairs_in}
use Rattle.prop_text.specs.Views.{views}
use Rattle.prop_text.proofs.TableSteps.{onto}
use Rattle.prop_text.proofs.table.winners.Given as goal

-- the pairs so far are in the table, and in front of those of the lines after them are those of all
abbrev pub invariant-loop-line : goal.invariant-loop-line
invariant-loop-line l = record {
  done : List Pair;
  read : onto done (pairs (views (drop l.line-index l.lines))) ≡ pairs (views l.lines);
  counted : pairs_in l.table.entries ≡ winners done;
}
