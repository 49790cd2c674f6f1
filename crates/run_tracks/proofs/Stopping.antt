-- Channels that are mended and counted one after the other.
use Rattle.std.proofs.Common.{◌≡◌, ◌∙◌, ◌<◌, ◌≤◌, ◌+◌, ℕ, List, length, set, get_or, Bool, refl, sym, ap, subst, arith, length-set}
use Rattle.std.proofs.lemmas.List.{get_or-set_same, get_or-set_other}
use mathlib.Core.Logic.{dite}
use native.Mathlib.Decide.{ℕ_discrete}
use Rattle.run_tracks.specs.Homes.{AreHomes}
use Rattle.atomic_table.specs.Seated.{TableId}
use Rattle.shared_channel.specs.Passes.{Known}
use Rattle.channel_face.specs.History.{Opening, Step}
use Rattle.channel_lock.specs.Views.{View, saw}
use Rattle.two_channels.specs.Shares.{LooksIn}
use Rattle.two_channels.specs.declared.shared.EitherShared.{EitherShared}
use Rattle.two_channels.specs.declared.shared.EitherShared.TheVariants as share

-- The first so many of four lists that go on beside each other: what became of each, and that the others of those at home are
-- as they were.
pub record UpTo {S X : Type 0} (Became : S → Known → X → X → Known → Type 0) (n : ℕ) (shares : List S) (old : List Known) (before after : List X) (new : List Known) : Type 0 where
  pub as_many : length new ≡ length old
  pub noted : length after ≡ length before
  pub each : (place : ℕ) (s : S) (p q : Known) (b c : X) → place < n → Became (get_or shares place s) (get_or old place p) (get_or before place b) (get_or after place c) (get_or new place q)
  pub same : (place : ℕ) (p : Known) → n ≤ place → get_or new place p ≡ get_or old place p
  pub unnoted : (place : ℕ) (b : X) → n ≤ place → get_or after place b ≡ get_or before place b

module _ {S X : Type 0} (Became : S → Known → X → X → Known → Type 0) where
  -- before the first channel nothing became of any
  pub up_to_none : (shares : List S) (old : List Known) (before : List X) → UpTo Became 0 shares old before before old
  up_to_none shares old before = record { as_many = refl; noted = refl; each = λ place s p q b c low. absurd (omega (arith, low)); same = λ place p low. refl; unnoted = λ place b low. refl }

  -- one more
  pub up_to_more : (n : ℕ) (shares : List S) (old : List Known) (before after : List X) (new : List Known) (x : X) (k : Known) → length before ≡ length old → n < length old → UpTo Became n shares old before after new
      → ((s : S) (p : Known) (b : X) → Became (get_or shares n s) (get_or old n p) (get_or before n b) x k) → UpTo Became (n + 1) shares old before (set after n x) (set new n k)
  up_to_more n shares old before after new x k many below up one = record {
    as_many = length-set new n k ∙ up.as_many;
    noted = length-set after n x ∙ up.noted;
    each = λ place s p q b c low. dite (ℕ_discrete n place)
        (λ is. subst (λ (i : ℕ). Became (get_or shares i s) (get_or old i p) (get_or before i b) (get_or (set after n x) i c) (get_or (set new n k) i q)) is
        (subst (λ (y : X × Known). Became (get_or shares n s) (get_or old n p) (get_or before n b) y.0 y.1) (λ i. (sym (get_or-set_same after n x c in_after) i, sym (get_or-set_same new n k q in_new) i)) (one s p b)))
        (λ other. subst (λ (y : X × Known). Became (get_or shares place s) (get_or old place p) (get_or before place b) y.0 y.1)
        (λ i. (sym (get_or-set_other after n place x c (λ e. other (sym e))) i, sym (get_or-set_other new n place k q (λ e. other (sym e))) i))
        (up.each place s p q b c (omega (arith, low, other))));
    same = λ place p low. get_or-set_other new n place k p (λ e. omega (arith, low, e)) ∙ up.same place p (omega (arith, low));
    unnoted = λ place b low. get_or-set_other after n place x b (λ e. omega (arith, low, e)) ∙ up.unnoted place b (omega (arith, low));
  }
    where
      in_after : n < length after
      in_after = omega (arith, many, below, up.noted)

      in_new : n < length new
      in_new = omega (arith, below, up.as_many)

-- one of the passes at home goes on, of the same channel
pub homes_set : {S : Type 0} (table : S → TableId) (shares : List S) (homes : List Known) (place : ℕ) (n : Known) → AreHomes table shares homes → place < length homes → ((d : Known) → n.table_id ≡ (get_or homes place d).table_id) → AreHomes table shares (set homes place n)
homes_set table shares homes place n are below same = record {
  as_many = length-set homes place n ∙ are.as_many;
  each = λ i d low.
      let here : i < length homes = omega (arith, low, length-set homes place n) in
      let at = are.each i d here in
      record {
        below = at.below;
        here = λ s. dite (ℕ_discrete place i)
            (λ is. subst (λ (k : ℕ). (get_or (set homes place n) k d).table_id ≡ table (get_or shares k s)) is
            (ap (λ (p : Known). p.table_id) (get_or-set_same homes place n d below) ∙ same d ∙ subst (λ (k : ℕ). (get_or homes k d).table_id ≡ table (get_or shares k s)) (sym is) (at.here s)))
            (λ other. ap (λ (p : Known). p.table_id) (get_or-set_other homes place i n d (λ e. other (sym e))) ∙ at.here s);
      };
}

looks_saw : {A B : Type 0} (disk : A → Opening → List Step → Type 0) (tells : A → Bool) (memory : B → Opening → List Step → Type 0) (tells' : B → Bool) (s : EitherShared A B) (v w : View) → LooksIn disk tells memory tells' s v w → w ≡ saw v w.seen
looks_saw disk tells memory tells' (share.Disk s) v w look = look.1.made.1
looks_saw disk tells memory tells' (share.Memory s) v w look = look.1.made.1

-- a pass with each number after a look
pub looked_at : {A B : Type 0} (disk : A → Opening → List Step → Type 0) (tells : A → Bool) (memory : B → Opening → List Step → Type 0) (tells' : B → Bool) (s : EitherShared A B) (p q : Known) → (q.table_id ≡ p.table_id) × (q.number ≡ p.number) → LooksIn disk tells memory tells' s p.view q.view → q.view.seen ≡ p.view.seen → q ≡ record p { view = saw p.view p.view.seen }
looked_at disk tells memory tells' s p q same look whole = λ i. record { table_id = same.0 i; number = same.1 i; view = (looks_saw disk tells memory tells' s p.view q.view look ∙ ap (λ (l : List Step). saw p.view l) whole) i }
