-- What follows for the scheduler.
use Rattle.std.proofs.Common.{◌≡◌, ◌∙◌, ap, sym, ℕ, List, ◌++◌, take, drop, Bool}
use Rattle.std.specs.List.{filter}
use Rattle.std.specs.List.Sorted.{IsPermutation}
use Rattle.std.proofs.lemmas.List.{take-append-drop}
use Rattle.std.proofs.lemmas.List.Elements.{filter-append}
use Rattle.std.proofs.lemmas.List.Sorted.{IsPermutation-append_comm}
use Rattle.sink_groups.specs.Scheduler.{Group, is_due, order, start_of}

-- a list that was turned round at a place
turned : (p : ℕ → Bool) (at : ℕ) (xs : List ℕ) → IsPermutation (filter p xs) (filter p (drop at xs ++ take at xs))
turned p at xs =
    let whole : filter p xs ≡ filter p (take at xs) ++ filter p (drop at xs) = ap (λ (l : List ℕ). filter p l) (sym (take-append-drop at xs)) ∙ filter-append p (take at xs) (drop at xs) in
    rw (whole, filter-append p (drop at xs) (take at xs)) (IsPermutation-append_comm (filter p (take at xs)) (filter p (drop at xs)))

-- a delivery tries each member that is not left alone, and each once
pub all_due : (g : Group) (now draw : ℕ) → IsPermutation (filter (is_due g.members now) g.ranking) (order g now draw)
all_due g now draw = turned (is_due g.members now) (start_of g draw) g.ranking
