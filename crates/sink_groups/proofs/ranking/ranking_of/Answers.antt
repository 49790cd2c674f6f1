use Rattle.std.proofs.Common.{◌≡◌, ◌∙◌, ap, add-one, arith, map, length, ℕ, List, ◌++◌, ◌∷◌, []}
use Rattle.std.specs.List.{range_with_len}
use Rattle.std.proofs.lemmas.List.{map-append, take_all}
use Rattle.std.proofs.lemmas.List.Elements.{All-push, All-same}
use Rattle.sink_groups.specs.Ranking.{priority_of}
use Rattle.sink_groups.proofs.Ranks.{Rank, range-all, ranked}
use Rattle.sink_groups.proofs.ranking.ranking_of.Goals as goal

pub loop-place-preserved : goal.loop-place-preserved
loop-place-preserved c =
    let pushed = c.in_ok-push.ensures.items in
    let rank : Rank = (record { 0 = c.priority_of.result }, c.loop-place.place) in
    let true_to : Rank → Type 0 = λ (r : Rank). (r.0).0 ≡ priority_of c.args.kind c.args.priorities.now r.1 in (
      rw (pushed, map-append, add-one, range-all) (ap (λ (l : List ℕ). l ++ c.loop-place.place ∷ []) c.loop-place.invariant.0),
      All-same true_to _ _ pushed (All-push true_to c.loop-place.ranks.items rank c.loop-place.invariant.1 c.priority_of.ensures),
    )

pub returns : goal.returns
returns c =
    let sorted = c.sort_unstable.new.self.items in
    let members : map (λ (r : Rank). r.1) c.loop-place.ranks.items ≡ range_with_len 0 (length c.args.priorities.now) = c.loop-place.invariant.0 ∙ ap (λ (n : ℕ). range_with_len 0 n) (omega arith) in
    let made : c.loop-rank.ranking.items ≡ map (λ (r : Rank). r.1) sorted = c.loop-rank.invariant ∙ ap (λ (l : List Rank). map (λ (r : Rank). r.1) l) (take_all _ _ (omega arith) ∙ c.deref-rank-items.ensures.value) in
    rw made (ranked c.args.kind c.args.priorities.now c.loop-place.ranks.items sorted members c.loop-place.invariant.1 c.sort_unstable.ensures.permutation c.sort_unstable.ensures.sorted)
