use Rattle.std.proofs.Common.{◌≡◌, map, take}
use Rattle.std.specs.List.{All, range_with_len}
use Rattle.sink_groups.specs.Ranking.{priority_of}
use Rattle.sink_groups.proofs.ranking.ranking_of.Given as goal

abbrev pub invariant-loop-place : goal.invariant-loop-place
invariant-loop-place l = (map (λ r. r.1) l.ranks.items ≡ range_with_len 0 l.place) × All (λ r. (r.0).0 ≡ priority_of l.kind l.priorities r.1) l.ranks.items

abbrev pub invariant-loop-rank : goal.invariant-loop-rank
invariant-loop-rank l = l.ranking.items ≡ map (λ r. r.1) (take l.rank-index l.rank-items)
