-- Channels that are kept one after the other.
use Rattle.std.proofs.Common.{◌≡◌, ◌∙◌, ◌<◌, ◌≤◌, ◌+◌, ℕ, List, length, set, get_or, Bool, false, sym, subst, arith, length-set}
use Rattle.std.proofs.lemmas.List.{get_or-set_same, get_or-set_other, get_or_default}
use mathlib.Core.Logic.{dite}
use native.Mathlib.Decide.{ℕ_discrete}
use Rattle.shared_channel.specs.Passes.{Known}
use Rattle.run_tracks.specs.Stops.{KeptIf}

-- The first so many of these channels were kept where it is said so, and the others of those at home are as they were.
pub record KeptTo {S : Type 0} (Kept : S → Known → Known → Type 0) (n : ℕ) (shares : List S) (closes : List Bool) (old new : List Known) : Type 0 where
  pub as_many : length new ≡ length old
  pub each : (place : ℕ) (s : S) (b : Bool) (p q : Known) → place < n → KeptIf (get_or closes place b) (Kept (get_or shares place s)) (get_or old place p) (get_or new place q)
  pub same : (place : ℕ) (p : Known) → n ≤ place → get_or new place p ≡ get_or old place p

module _ {S : Type 0} (Kept : S → Known → Known → Type 0) (n : ℕ) (shares : List S) (closes : List Bool) (old new : List Known) (below : n < length old) (up : KeptTo Kept n shares closes old new) where
  -- one more
  pub kept_more : (k : Known) → ((s : S) (b : Bool) (p : Known) → KeptIf (get_or closes n b) (Kept (get_or shares n s)) (get_or old n p) k) → KeptTo Kept (n + 1) shares closes old (set new n k)
  kept_more k one = record {
    as_many = length-set new n k ∙ up.as_many;
    each = λ place s b p q low. dite (ℕ_discrete n place)
        (λ is. subst (λ (i : ℕ). KeptIf (get_or closes i b) (Kept (get_or shares i s)) (get_or old i p) (get_or (set new n k) i q)) is
        (subst (λ (y : Known). KeptIf (get_or closes n b) (Kept (get_or shares n s)) (get_or old n p) y) (sym (get_or-set_same new n k q (omega (arith, below, up.as_many)))) (one s b p)))
        (λ other. subst (λ (y : Known). KeptIf (get_or closes place b) (Kept (get_or shares place s)) (get_or old place p) y) (sym (get_or-set_other new n place k q (λ e. other (sym e)))) (up.each place s b p q (omega (arith, low, other))));
    same = λ place p low. get_or-set_other new n place k p (λ e. omega (arith, low, e)) ∙ up.same place p (omega (arith, low));
  }

  -- one that was not to be kept
  pub kept_past : ((b : Bool) → get_or closes n b ≡ false) → KeptTo Kept (n + 1) shares closes old new
  kept_past not = record {
    as_many = up.as_many;
    each = λ place s b p q low. dite (ℕ_discrete n place)
        (λ is. subst (λ (i : ℕ). KeptIf (get_or closes i b) (Kept (get_or shares i s)) (get_or old i p) (get_or new i q)) is
        (subst (λ (c : Bool). KeptIf c (Kept (get_or shares n s)) (get_or old n p) (get_or new n q)) (sym (not b)) (get_or_default new n q p (omega (arith, below, up.as_many)) ∙ up.same n p (omega arith))))
        (λ other. up.each place s b p q (omega (arith, low, other)));
    same = λ place p low. up.same place p (omega (arith, low));
  }
