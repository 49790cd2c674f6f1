-- All channels of a node are reopened, one after another.
use Rattle.std.proofs.Common.{◌≡◌, ◌∙◌, ◌++◌, ◌∷◌, ◌+◌, [], ℕ, suc, List, length, drop, Option, Some, None, refl, ap, sym, append_assoc}
use Rattle.std.specs.List.{slice_get}
use Rattle.world_laws.specs.World.{Channel, and_then}
use Rattle.world_laws.specs.Channels.{reopened, all_reopened}
use Rattle.hop_core.proofs.Machines.{here}

none_always : (o : Option Channel) → and_then o (λ (c : Channel). let none : Option (List Channel) = None in none) ≡ None
none_always None = refl
none_always (Some c) = refl

-- one number for each channel, or they can't be reopened
pub lengths_differ : (kept : List ℕ) (channels : List Channel) → ¬ (length kept ≡ length channels) → all_reopened kept channels ≡ None
lengths_differ [] [] differ = absurd (differ refl)
lengths_differ [] (c ∷ cs) differ = refl
lengths_differ (k ∷ ks) [] differ = refl
lengths_differ (k ∷ ks) (c ∷ cs) differ =
    ap (λ (r : Option (List Channel)). and_then (reopened k c) (λ (new : Channel). and_then r (λ (news : List Channel). Some (new ∷ news)))) (lengths_differ ks cs (λ e. differ (ap suc e)))
    ∙ none_always (reopened k c)

-- those of the front, and the rest
abbrev pub with_front : List Channel → Option (List Channel) → Option (List Channel)
with_front front None = None
with_front front (Some rest) = Some (front ++ rest)

-- the first of the rest joins the front
joins : (front : List Channel) (new : Channel) (rest : Option (List Channel)) → with_front front (and_then rest (λ (news : List Channel). Some (new ∷ news))) ≡ with_front (front ++ new ∷ []) rest
joins front new None = refl
joins front new (Some rest) = ap (λ (l : List Channel). Some l) (sym (append_assoc front (new ∷ []) rest))

-- one more channel was opened again, and joins those before it
pub one_joins : (kept : List ℕ) (channels front : List Channel) (place k : ℕ) (c new : Channel) → slice_get kept place ≡ Some k → slice_get channels place ≡ Some c → reopened k c ≡ Some new
    → with_front front (all_reopened (drop place kept) (drop place channels)) ≡ with_front (front ++ new ∷ []) (all_reopened (drop (place + 1) kept) (drop (place + 1) channels))
one_joins kept channels front place k c new number channel done =
    ap (λ (l : List ℕ). with_front front (all_reopened l (drop place channels))) (here kept place k number)
    ∙ (ap (λ (l : List Channel). with_front front (all_reopened (k ∷ drop (place + 1) kept) l)) (here channels place c channel)
    ∙ (ap (λ (o : Option Channel). with_front front (and_then o (λ (d : Channel). and_then (all_reopened (drop (place + 1) kept) (drop (place + 1) channels)) (λ (news : List Channel). Some (d ∷ news))))) done
    ∙ joins front new (all_reopened (drop (place + 1) kept) (drop (place + 1) channels))))

-- one that can't be ends them all
pub one_ends : (kept : List ℕ) (channels front : List Channel) (place k : ℕ) (c : Channel) → slice_get kept place ≡ Some k → slice_get channels place ≡ Some c → reopened k c ≡ None
    → with_front front (all_reopened (drop place kept) (drop place channels)) ≡ None
one_ends kept channels front place k c number channel ends =
    ap (λ (l : List ℕ). with_front front (all_reopened l (drop place channels))) (here kept place k number)
    ∙ (ap (λ (l : List Channel). with_front front (all_reopened (k ∷ drop (place + 1) kept) l)) (here channels place c channel)
    ∙ ap (λ (o : Option Channel). with_front front (and_then o (λ (d : Channel). and_then (all_reopened (drop (place + 1) kept) (drop (place + 1) channels)) (λ (news : List Channel). Some (d ∷ news))))) ends)
