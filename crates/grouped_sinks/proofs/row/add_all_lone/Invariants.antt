use Rattle.grouped_sinks.specs.Rows.{IsLone, Zips, is_lone, places_where}
use Rattle.grouped_sinks.proofs.row.add_all_lone.Given as goal

abbrev pub invariant-loop-place : goal.invariant-loop-place
invariant-loop-place l = Zips (IsLone l.sinks) (places_where (is_lone l.groups) l.place) l.rows.items
