use Rattle.std.proofs.Common.{drop}
use Rattle.std.specs.Prelude.{map}
use Rattle.open_table.specs.Tables.{listed_of}
use Rattle.channel_places.specs.Ends.{pointers_in}
use Rattle.channel_places.proofs.Batches.{IsPart}
use Rattle.channel_places.proofs.settling.append_staged.Given as goal

abbrev pub invariant-loop-place : goal.invariant-loop-place
invariant-loop-place l = IsPart l.first (pointers_in (map listed_of l.staged)) l.fn.ring l.next (pointers_in (map listed_of (drop l.place l.staged))) l.ring
