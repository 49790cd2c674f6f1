-- Which statuses the parts of a run have.
use Rattle.std.proofs.Common.{◌≡◌, ◌∙◌, ◌==◌, ℕ, List, [], ◌∷◌, ◌++◌, map, Bool, if◌then◌else◌, refl, sym, ap}
use Rattle.std.specs.Prelude.{◌||◌}
use Rattle.std.specs.List.{list_any}
use Rattle.std.proofs.lemmas.List.Folds.{list_any-append}
use Rattle.agent_end.specs.Statuses.{drain_status, input_status, mend_status, report_status, run_status, statuses}
use Rattle.agent_end.specs.declared.ends.RunEnds.{RunEnds}

any_map : {A : Type 0} (f : A → ℕ) (test : ℕ → Bool) (xs : List A) → list_any test (map f xs) ≡ list_any (λ x. test (f x)) xs
any_map f test [] = refl
any_map f test (x ∷ xs) = ap (λ (b : Bool). test (f x) || b) (any_map f test xs)

-- one of the four has this status
abbrev pub has_part : RunEnds → ℕ → Bool
has_part run status = (input_status run.input == status) || ((report_status run.report == status) || (list_any (λ end. drain_status end == status) run.drains.items || list_any (λ mended. mend_status mended == status) run.mends.items))

statuses_have : (run : RunEnds) (status : ℕ) → list_any (λ n. n == status) (statuses run) ≡ has_part run status
statuses_have run status =
    let test = λ (n : ℕ). n == status in
    let drains = any_map drain_status test run.drains.items in
    let mends = any_map mend_status test run.mends.items in
    let both : list_any test (map drain_status run.drains.items ++ map mend_status run.mends.items) ≡ (list_any (λ end. drain_status end == status) run.drains.items || list_any (λ mended. mend_status mended == status) run.mends.items) =
    list_any-append test (map drain_status run.drains.items) (map mend_status run.mends.items) ∙ (λ i. drains i || mends i) in
    ap (λ (b : Bool). (input_status run.input == status) || ((report_status run.report == status) || b)) both

-- the first that is there, in the order of the statuses
abbrev pub pick : Bool → Bool → Bool → Bool → Bool → ℕ
pick four three five seven six = if four then 4 else if three then 3 else if five then 5 else if seven then 7 else if six then 6 else 0

-- the status by asking for one after the other
pub status_picked : (run : RunEnds) (a b c d e : Bool) → has_part run 4 ≡ a → has_part run 3 ≡ b → has_part run 5 ≡ c → has_part run 7 ≡ d → has_part run 6 ≡ e → pick a b c d e ≡ run_status run
status_picked run a b c d e four three five seven six =
    sym (λ i. pick ((statuses_have run 4 ∙ four) i) ((statuses_have run 3 ∙ three) i) ((statuses_have run 5 ∙ five) i) ((statuses_have run 7 ∙ seven) i) ((statuses_have run 6 ∙ six) i))
