-- What is known of each item of a list, one by one.
use Rattle.std.proofs.Common.{◌≡◌, ◌<◌, ◌+◌, ℕ, List, length, get_or, subst, below_more}
use Rattle.std.proofs.lemmas.List.{get_or_read}

-- what holds of each item below a place, and of the one at it
pub each_more : {X : Type 0} (P : X → Type 0) (xs : List X) (i : ℕ) (x : X) → ((k : ℕ) → k < i → (d : X) → P (get_or xs k d)) → i < length xs → x ≡ get_or xs i x → P x
    → (k : ℕ) → k < i + 1 → (d : X) → P (get_or xs k d)
each_more {X} P xs i x all below is here =
    below_more (λ k. (d : X) → P (get_or xs k d)) i all (λ d. subst P (get_or_read xs i x below is d) here)
