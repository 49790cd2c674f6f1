-- What open transactions have, as a checkpoint lists it.
use Rattle.std.proofs.Common.{◌⊎◌, inl, inr, ◌≡◌, ◌≢◌, ◌<◌, ◌≤◌, ◌+◌, ◌++◌, ◌∷◌, [], ◌==◌, ◌||◌, ℕ, List, length, map, Some, None, Bool, true, false, refl, sym, ◌∙◌, ap, arith}
use Rattle.std.specs.Prelude.{if◌then◌else◌}
use Rattle.std.specs.List.{AllByRecursion}
use Rattle.std.proofs.lemmas.Bool.Decides.{eqb_tells}
use Rattle.event_core.specs.Journal.{is_among}
use Rattle.event_core.specs.declared.journal.Entry.{Entry}
use Rattle.channel_face.specs.Machine.{entry_of}
use Rattle.channel_places.specs.Looks.{OpenRise}
use Rattle.checkpoint.specs.Right.{HasSome, number_of}
use Rattle.checkpoint.specs.Says.{entry_of as listed, listed_at}
use Rattle.checkpoint.specs.Text.{Rise}
use Rattle.checkpoint_places.specs.Texts.{listed_by}

-- open transactions rise from a low number to one that is no less
pub open_within : (low top : ℕ) (os : List (ℕ × Entry)) → OpenRise low os top → low ≤ top
open_within low top [] rise = rise
open_within low top (o ∷ os) rise = omega (arith, rise.0, open_within (o.0 + 1) top os rise.1)

-- where each number is at least 1, they rise from there
pub open_from_one : (low top : ℕ) (os : List (ℕ × Entry)) → OpenRise low os top → AllByRecursion (λ o. 1 ≤ o.0) os → 1 ≤ top → OpenRise 1 os top
open_from_one low top [] rise some most = most
open_from_one low top (o ∷ os) rise some most = (some.0, rise.1)

module _ {A : Type 0} (of : ℕ → List A) where
  rise_low : (low below high : ℕ) (xs : List (ℕ × List A)) → below ≤ low → Rise low high xs → Rise below high xs
  rise_low low below high [] less rise = tt
  rise_low low below high (x ∷ xs) less rise = (omega (arith, less, rise.0), rise.1, rise.2)

  one_rise : (low high n : ℕ) (xs : List A) (rest : List (ℕ × List A)) → low ≤ n → n < high → Rise (n + 1) high rest → Rise low high (listed n xs ++ rest)
  one_rise low high n [] rest less below rise = rise_low (n + 1) low high rest (omega (arith, less)) rise
  one_rise low high n (x ∷ xs) rest less below rise = (less, below, rise)

  -- their numbers rise
  pub listed_rise : (low high top : ℕ) (os : List (ℕ × Entry)) → OpenRise low os top → top ≤ high → Rise low high (listed_by of os)
  listed_rise low high top [] rise most = tt
  listed_rise low high top (o ∷ os) rise most =
      one_rise low high o.0 (of o.0) (listed_by of os) rise.0 (omega (arith, open_within (o.0 + 1) top os rise.1, most)) (listed_rise (o.0 + 1) high top os rise.1 most)

  one_some : (n : ℕ) (xs : List A) (rest : List (ℕ × List A)) → AllByRecursion HasSome rest → AllByRecursion HasSome (listed n xs ++ rest)
  one_some n [] rest all = all
  one_some n (x ∷ xs) rest all = (omega arith, all)

  -- each has something
  pub listed_some : (os : List (ℕ × Entry)) → AllByRecursion HasSome (listed_by of os)
  listed_some [] = tt
  listed_some (o ∷ os) = one_some o.0 (of o.0) (listed_by of os) (listed_some os)

  one_other : (m n : ℕ) (xs : List A) (rest : List (ℕ × List A)) → m ≢ n → listed_at n (listed m xs ++ rest) ≡ listed_at n rest
  one_other m n [] rest other = refl
  one_other m n (x ∷ xs) rest other = from (eqb_tells m n)
    where
      from : ((m == n) ≡ true) × (m ≡ n) ⊎ ((m == n) ≡ false) × (m ≢ n) → listed_at n ((m, x ∷ xs) ∷ rest) ≡ listed_at n rest
      from (inl same) = absurd (other same.1)
      from (inr isnt) = ap (λ (b : Bool). if b then x ∷ xs else listed_at n rest) isnt.0

  one_here : (m n : ℕ) (xs : List A) (rest : List (ℕ × List A)) → m ≡ n → listed_at n rest ≡ [] → listed_at n (listed m xs ++ rest) ≡ xs
  one_here m n [] rest same none = none
  one_here m n (x ∷ xs) rest same none = from (eqb_tells m n)
    where
      from : ((m == n) ≡ true) × (m ≡ n) ⊎ ((m == n) ≡ false) × (m ≢ n) → listed_at n ((m, x ∷ xs) ∷ rest) ≡ x ∷ xs
      from (inl is) = ap (λ (b : Bool). if b then x ∷ xs else listed_at n rest) is.0
      from (inr other) = absurd (other.1 same)

  -- none below the first is listed
  not_listed : (low top n : ℕ) (os : List (ℕ × Entry)) → OpenRise low os top → n < low → listed_at n (listed_by of os) ≡ []
  not_listed low top n [] rise less = refl
  not_listed low top n (o ∷ os) rise less =
      let other : o.0 ≢ n = omega (arith, rise.0, less) in
      one_other o.0 n (of o.0) (listed_by of os) other ∙ not_listed (o.0 + 1) top n os rise.1 (omega (arith, rise.0, less))

  -- each is listed with what it has
  pub listed_each : (low top n : ℕ) (os : List (ℕ × Entry)) → OpenRise low os top → (entry_of n os ≡ None → of n ≡ []) → listed_at n (listed_by of os) ≡ of n
  listed_each low top n [] rise none = sym (none refl)
  listed_each low top n (o ∷ os) rise none = from (eqb_tells o.0 n) (listed_each (o.0 + 1) top n os rise.1)
    where
      from : ((o.0 == n) ≡ true) × (o.0 ≡ n) ⊎ ((o.0 == n) ≡ false) × (o.0 ≢ n) → ((entry_of n os ≡ None → of n ≡ []) → listed_at n (listed_by of os) ≡ of n) → listed_at n (listed_by of (o ∷ os)) ≡ of n
      from (inl same) later = one_here o.0 n (of o.0) (listed_by of os) same.1 (not_listed (o.0 + 1) top n os rise.1 (omega (arith, same.1))) ∙ ap of same.1
      from (inr other) later =
          one_other o.0 n (of o.0) (listed_by of os) other.1
          ∙ later (λ gone. none (ap (λ (b : Bool). if b then Some o.1 else entry_of n os) other.0 ∙ gone))

  -- one that is listed has something
  pub listed_among : (n : ℕ) (os : List (ℕ × Entry)) → is_among (map number_of (listed_by of os)) n ≡ true → 1 ≤ length (of n)
  listed_among n [] is = absurd (cc)
  listed_among n (o ∷ os) is = from (of o.0) refl is (listed_among n os)
    where
      here : (xs : List A) → of o.0 ≡ xs → 1 ≤ length xs → o.0 ≡ n → 1 ≤ length (of n)
      here xs same some is_n = omega (arith, some, ap (λ (l : List A). length l) (sym (ap of is_n) ∙ same))

      or_later : (b : Bool) → (b || is_among (map number_of (listed_by of os)) n) ≡ true → (b ≡ true) ⊎ (is_among (map number_of (listed_by of os)) n ≡ true)
      or_later true is = inl refl
      or_later false is = inr is

      or_here : (x : A) (xs : List A) → of o.0 ≡ x ∷ xs → (o.0 == n) ≡ true → 1 ≤ length (of n)
      or_here x xs same is_same = by (eqb_tells o.0 n)
        where
          by : ((o.0 == n) ≡ true) × (o.0 ≡ n) ⊎ ((o.0 == n) ≡ false) × (o.0 ≢ n) → 1 ≤ length (of n)
          by (inl both) = here (x ∷ xs) same (omega arith) both.1
          by (inr other) = absurd (let no : true ≡ false = sym is_same ∙ other.0 in cc)

      from : (xs : List A) → of o.0 ≡ xs → is_among (map number_of (listed o.0 xs ++ listed_by of os)) n ≡ true → (is_among (map number_of (listed_by of os)) n ≡ true → 1 ≤ length (of n)) → 1 ≤ length (of n)
      from [] same is later = later is
      from (x ∷ xs) same is later = by (or_later (o.0 == n) is)
        where
          by : ((o.0 == n) ≡ true) ⊎ (is_among (map number_of (listed_by of os)) n ≡ true) → 1 ≤ length (of n)
          by (inl first) = or_here x xs same first
          by (inr rest) = later rest

  -- what is true of each that has something is true of each that is listed
  pub all_listed : (P : ℕ → Type 0) (os : List (ℕ × Entry)) → ((n : ℕ) → 1 ≤ length (of n) → P n) → AllByRecursion P (map number_of (listed_by of os))
  all_listed P [] each = tt
  all_listed P (o ∷ os) each = from (of o.0) refl (all_listed P os each)
    where
      from : (xs : List A) → of o.0 ≡ xs → AllByRecursion P (map number_of (listed_by of os)) → AllByRecursion P (map number_of (listed o.0 xs ++ listed_by of os))
      from [] same rest = rest
      from (x ∷ xs) same rest = (each o.0 (omega (arith, ap (λ (l : List A). length l) same)), rest)

  -- each lists few, and there are few
  pub listed_fit : (most : ℕ) (os : List (ℕ × Entry)) → ((n : ℕ) → length (of n) < most) → AllByRecursion (λ o. length o.1 < most) (listed_by of os)
  listed_fit most [] few = tt
  listed_fit most (o ∷ os) few = from (of o.0) refl (listed_fit most os few)
    where
      from : (xs : List A) → of o.0 ≡ xs → AllByRecursion (λ o. length o.1 < most) (listed_by of os) → AllByRecursion (λ o. length o.1 < most) (listed o.0 xs ++ listed_by of os)
      from [] same rest = rest
      from (x ∷ xs) same rest = (omega (arith, few o.0, ap (λ (l : List A). length l) same), rest)

-- no more are listed of both kinds than are open, where none has both
pub listed_few : {A B : Type 0} (of : ℕ → List A) (by : ℕ → List B) (os : List (ℕ × Entry)) → ((n : ℕ) → 1 ≤ length (of n) → 1 ≤ length (by n) → ⊥) → length (listed_by of os) + length (listed_by by os) ≤ length os
listed_few of by [] not = omega arith
listed_few {A} {B} of by (o ∷ os) not = from (of o.0) (by o.0) refl refl (listed_few of by os not)
  where
    from : (xs : List A) (ys : List B) → of o.0 ≡ xs → by o.0 ≡ ys → length (listed_by of os) + length (listed_by by os) ≤ length os
        → length (listed o.0 xs ++ listed_by of os) + length (listed o.0 ys ++ listed_by by os) ≤ length (o ∷ os)
    from [] [] xs_are ys_are few = omega (arith, few)
    from (x ∷ xs) [] xs_are ys_are few = omega (arith, few)
    from [] (y ∷ ys) xs_are ys_are few = omega (arith, few)
    from (x ∷ xs) (y ∷ ys) xs_are ys_are few = absurd (not o.0 (omega (arith, ap (λ (l : List A). length l) xs_are)) (omega (arith, ap (λ (l : List B). length l) ys_are)))
