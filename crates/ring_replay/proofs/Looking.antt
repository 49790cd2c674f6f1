-- What a look at an event of the ring shows.
use Rattle.std.proofs.Common.{inl, inr, ◌≡◌, ◌≢◌, ◌∷◌, [], ℕ, List, Some, Bool, true, false, not, ◌==◌, ◌||◌, cond, refl, sym, ◌∙◌}
use Rattle.std.specs.List.{AllByRecursion}
use Rattle.std.specs.Prelude.{◌↔◌, map}
use Rattle.std.proofs.lemmas.Bool.Decides.{eqb_tells}
use Rattle.event_core.specs.Content.{Content}
use Rattle.event_core.specs.Journal.{is_among}
use Rattle.event_ring.specs.Slots.{IsLive, Left, look_at, marked}
use Rattle.ring_replay.specs.Indexing.{HasItems, Places, free_of}
use Rattle.channel_replay.proofs.Keys.{Tells}

-- An event that is free is left, and none holds it.
pub record IsFree (P : ℕ → Type 0) (live : List Left) (items : List (ℕ × Content)) (n : ℕ) : Type 0 where
  pub live_one : IsLive live n
  pub left_one : is_among (map (λ (item : ℕ × Content). item.0) items) n ≡ true
  pub not_held : P n → ⊥

free_here : (P : ℕ → Type 0) (l : Left) (n : ℕ) → l.number ≡ n → not l.held ≡ true → (P l.number → l.held ≡ true) → P n → ⊥
free_here P l n same free held p = by_test l.held free (held (rw same p))
  where
    by_test : (b : Bool) → not b ≡ true → b ≡ true → ⊥
    by_test true is there = let e : false ≡ true = is in cc
    by_test false is there = let e : false ≡ true = there in cc

-- an event that a look shows free is left and held by none
pub looked_free : (P : ℕ → Type 0) (places : Places) (live : List Left) (items : List (ℕ × Content)) (n : ℕ) → HasItems places live items → AllByRecursion (λ l. (l.held ≡ true) ↔ P l.number) live → free_of (look_at n live) ≡ true → IsFree P live items n
looked_free P places [] [] n has held is = absurd (let e : false ≡ true = is in cc)
looked_free P places [] (item ∷ items) n has held is = absurd has
looked_free P places (l ∷ live) [] n has held is = absurd has
looked_free P places (l ∷ live) (item ∷ items) n has held is = from (eqb_tells l.number n) (eqb_tells item.0 n) is (looked_free P places live items n has.2 held.1)
  where
    from : Tells l.number n → Tells item.0 n → free_of (cond (l.number == n) (Some (l.pointer, l.held)) (look_at n live)) ≡ true → (free_of (look_at n live) ≡ true → IsFree P live items n) → IsFree P (l ∷ live) (item ∷ items) n
    from (inl same) (inl here) is' rest = record { live_one = inl same.1; left_one = rw here.0 refl; not_held = free_here P l n same.1 (rw same.0 at is') held.0.1 }
    from (inl same) (inr other) is' rest = absurd (other.1 (sym has.0 ∙ same.1))
    from (inr other) (inl here) is' rest = absurd (other.1 (has.0 ∙ here.1))
    from (inr other) (inr there) is' rest =
        let r : IsFree P live items n = rest (rw other.0 at is') in
        record { live_one = inr r.live_one; left_one = rw there.0 r.left_one; not_held = r.not_held }

-- an event that is left and that a look does not show free is held
pub looked_taken : (P : ℕ → Type 0) (places : Places) (live : List Left) (items : List (ℕ × Content)) (n : ℕ) → HasItems places live items → AllByRecursion (λ l. (l.held ≡ true) ↔ P l.number) live → free_of (look_at n live) ≡ false
    → is_among (map (λ (item : ℕ × Content). item.0) items) n ≡ true → P n
looked_taken P places [] [] n has held is left_one = absurd (let e : false ≡ true = left_one in cc)
looked_taken P places [] (item ∷ items) n has held is left_one = absurd has
looked_taken P places (l ∷ live) [] n has held is left_one = absurd has
looked_taken P places (l ∷ live) (item ∷ items) n has held is left_one = from (eqb_tells l.number n) (eqb_tells item.0 n) is left_one (looked_taken P places live items n has.2 held.1)
  where
    from : Tells l.number n → Tells item.0 n → free_of (cond (l.number == n) (Some (l.pointer, l.held)) (look_at n live)) ≡ false → ((item.0 == n) || is_among (map (λ (x : ℕ × Content). x.0) items) n) ≡ true
        → (free_of (look_at n live) ≡ false → is_among (map (λ (x : ℕ × Content). x.0) items) n ≡ true → P n) → P n
    from (inl same) here is' one rest = rw (sym same.1) (held.0.0 (by_test l.held (rw same.0 at is')))
      where
        by_test : (b : Bool) → not b ≡ false → b ≡ true
        by_test true is'' = refl
        by_test false is'' = absurd (let e : true ≡ false = is'' in cc)
    from (inr other) (inl here) is' one rest = absurd (other.1 (has.0 ∙ here.1))
    from (inr other) (inr there) is' one rest = rest (rw other.0 at is') (rw there.0 at one)

-- which events the ring has doesn't change
pub marked_items : (places : Places) (number : ℕ) (live : List Left) (items : List (ℕ × Content)) → HasItems places live items → HasItems places (marked number true live) items
marked_items places number [] items has = has
marked_items places number (l ∷ live) [] has = absurd has
marked_items places number (l ∷ live) (item ∷ items) has = by_test (l.number == number) (marked_items places number live items has.2)
  where
    by_test : (b : Bool) → HasItems places (marked number true live) items → HasItems places (cond b (record l { held = true }) l ∷ marked number true live) (item ∷ items)
    by_test true rest = (has.0, has.1, rest)
    by_test false rest = (has.0, has.1, rest)

-- the event is held, and others are as before
pub marked_held : (P Q : ℕ → Type 0) (number : ℕ) (live : List Left) → Q number → ((n : ℕ) → n ≢ number → (P n → Q n) × (Q n → P n)) → AllByRecursion (λ l. (l.held ≡ true) ↔ P l.number) live → AllByRecursion (λ l. (l.held ≡ true) ↔ Q l.number) (marked number true live)
marked_held P Q number [] q same all = tt
marked_held P Q number (l ∷ live) q same all = from (eqb_tells l.number number) (marked_held P Q number live q same all.1)
  where
    from : Tells l.number number → AllByRecursion (λ l. (l.held ≡ true) ↔ Q l.number) (marked number true live) → AllByRecursion (λ l. (l.held ≡ true) ↔ Q l.number) (cond (l.number == number) (record l { held = true }) l ∷ marked number true live)
    from (inl is) rest = rw is.0 ((λ held. rw is.1 q, λ q'. refl), rest)
    from (inr other) rest = rw other.0 ((λ held. (same l.number other.1).0 (all.0.0 held), λ q'. all.0.1 ((same l.number other.1).1 q')), rest)
