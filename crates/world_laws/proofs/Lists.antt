-- Lists by place, options and tests.
use Rattle.std.proofs.Common.{◌⊎◌, inl, inr, ◌≡◌, ◌≢◌, ◌<◌, ◌++◌, ◌∷◌, [], ◌+◌, ℕ, zero, suc, List, length, take, slice_get, slice_set, Option, Some, None, Bool, true, false, ◌&&◌, ◌||◌, not, refl, ap, arith}
use Rattle.world_laws.specs.World.{and_then, live}
use Rattle.world_laws.specs.Channels.{only_if, unless, is_none, is_empty}
use Rattle.world_laws.specs.Steps.{ended}

-- two options that are the same have the same in them
pub same_some : {A : Type 0} (a b : A) → Some a ≡ Some b → a ≡ b
same_some a b h = cc

-- nothing is not something
pub no_some : {A : Type 0} (a : A) → None ≡ Some a → ⊥
no_some a h = cc

-- lists that are the same begin and go on alike
pub cons_same : {A : Type 0} (x y : A) (xs ys : List A) → x ∷ xs ≡ y ∷ ys → (x ≡ y) × (xs ≡ ys)
cons_same x y xs ys h = (cc, cc)

-- tests

-- where both tests hold, each does
pub both_true : (a b : Bool) → (a && b) ≡ true → (a ≡ true) × (b ≡ true)
both_true true true is = (refl, refl)
both_true true false is = absurd (cc)
both_true false b is = absurd (cc)

-- where one of two tests holds and the first does not, the second does
pub or_true : (a b : Bool) → (a || b) ≡ true → a ≡ false → b ≡ true
or_true true b is no_a = absurd (cc)
or_true false b is no_a = is

-- two tests of which none holds both fail
pub or_false : (a b : Bool) → (a || b) ≡ false → (a ≡ false) × (b ≡ false)
or_false true b is = absurd (cc)
or_false false b is = (refl, is)

-- a test whose opposite holds does not hold
pub not_true : (b : Bool) → not b ≡ true → b ≡ false
not_true true is = absurd (cc)
not_true false is = refl

-- what is tested to be none is none
pub none_of : {A : Type 0} (x : Option A) → is_none x ≡ true → x ≡ None
none_of None empty = refl
none_of (Some y) empty = absurd (cc)

-- a list with something at a place is not empty
pub not_empty : {A : Type 0} (xs : List A) (i : ℕ) (x : A) → slice_get xs i ≡ Some x → is_empty xs ≡ false
not_empty [] i x has = absurd (no_some x has)
not_empty (y ∷ xs) i x has = refl

-- what is there

-- what came of two steps came of the first and then of the second
pub and_then-some : {A B : Type 0} (x : Option A) (f : A → Option B) (y : B) → and_then x f ≡ Some y → (a : A) × (x ≡ Some a) × (f a ≡ Some y)
and_then-some None f y h = absurd (no_some y h)
and_then-some (Some a) f y h = (a, refl, h)

-- what was given if a test holds shows that it held
pub only_if-some : {A : Type 0} (b : Bool) (x y : A) → only_if b x ≡ Some y → (b ≡ true) × (x ≡ y)
only_if-some true x y h = (refl, same_some x y h)
only_if-some false x y h = absurd (no_some y h)

-- what was given unless refused shows that nothing refused it
pub unless-some : {A B : Type 0} (r : Option A) (x y : B) → unless r x ≡ Some y → (r ≡ None) × (x ≡ y)
unless-some None x y h = (refl, same_some x y h)
unless-some (Some r) x y h = absurd (no_some y h)

-- places

-- what is in the front list is at the same place of both
pub get_front : {A : Type 0} (xs ys : List A) (i : ℕ) (x : A) → slice_get xs i ≡ Some x → slice_get (xs ++ ys) i ≡ Some x
get_front [] ys i x h = absurd (no_some x h)
get_front (a ∷ xs) ys zero x h = h
get_front (a ∷ xs) ys (suc i) x h = get_front xs ys i x h

-- below its length, both lists together have what the front list has
pub front_get : {A : Type 0} (xs ys : List A) (i : ℕ) → i < length xs → slice_get (xs ++ ys) i ≡ slice_get xs i
front_get [] ys i less = absurd (omega (arith, less))
front_get (x ∷ xs) ys zero less = refl
front_get (x ∷ xs) ys (suc i) less = front_get xs ys i (omega (arith, less))

-- below the length of a list there is something
pub get_some : {A : Type 0} (xs : List A) (i : ℕ) → i < length xs → (x : A) × (slice_get xs i ≡ Some x)
get_some [] i less = absurd (omega (arith, less))
get_some (x ∷ xs) zero less = (x, refl)
get_some (x ∷ xs) (suc i) less = get_some xs i (omega (arith, less))

-- behind the front list, places count in the second one
pub get_behind : {A : Type 0} (xs ys : List A) (i : ℕ) → slice_get (xs ++ ys) (length xs + i) ≡ slice_get ys i
get_behind [] ys i = ap (λ (k : ℕ). slice_get ys k) (omega arith)
get_behind (x ∷ xs) ys i =
    let one : length (x ∷ xs) + i ≡ suc (length xs + i) = omega arith in
    rw one (get_behind xs ys i)

-- the one that was added is last
pub get_last : {A : Type 0} (xs : List A) (y : A) → slice_get (xs ++ y ∷ []) (length xs) ≡ Some y
get_last [] y = refl
get_last (a ∷ xs) y = get_last xs y

-- after one more was added: one of before, or the last one
pub get_one : {A : Type 0} (xs : List A) (y : A) (i : ℕ) (x : A) → slice_get (xs ++ y ∷ []) i ≡ Some x → (slice_get xs i ≡ Some x) ⊎ ((i ≡ length xs) × (y ≡ x))
get_one [] y zero x h = inr (refl, same_some y x h)
get_one [] y (suc i) x h = absurd (no_some x h)
get_one (a ∷ xs) y zero x h = inl h
get_one (a ∷ xs) y (suc i) x h = from (get_one xs y i x h)
  where
    from : (slice_get xs i ≡ Some x) ⊎ ((i ≡ length xs) × (y ≡ x)) → (slice_get xs i ≡ Some x) ⊎ ((suc i ≡ length (a ∷ xs)) × (y ≡ x))
    from (inl was) = inl was
    from (inr new) = inr (omega (arith, new.0), new.1)

-- after a place was set: what was there, or what it was set to
pub get_set : {A : Type 0} (xs : List A) (i : ℕ) (y : A) (j : ℕ) (x : A) → slice_get (slice_set xs i y) j ≡ Some x → (slice_get xs j ≡ Some x) ⊎ ((j ≡ i) × (y ≡ x))
get_set [] i y j x h = absurd (no_some x h)
get_set (a ∷ xs) zero y zero x h = inr (refl, same_some y x h)
get_set (a ∷ xs) zero y (suc j) x h = inl h
get_set (a ∷ xs) (suc i) y zero x h = inl h
get_set (a ∷ xs) (suc i) y (suc j) x h = from (get_set xs i y j x h)
  where
    from : (slice_get xs j ≡ Some x) ⊎ ((j ≡ i) × (y ≡ x)) → (slice_get xs j ≡ Some x) ⊎ ((suc j ≡ suc i) × (y ≡ x))
    from (inl was) = inl was
    from (inr new) = inr (omega (arith, new.0), new.1)

-- the place that was set has what it was set to
pub set_here : {A : Type 0} (xs : List A) (i : ℕ) (x y : A) → slice_get xs i ≡ Some x → slice_get (slice_set xs i y) i ≡ Some y
set_here [] i x y h = absurd (no_some x h)
set_here (a ∷ xs) zero x y h = refl
set_here (a ∷ xs) (suc i) x y h = set_here xs i x y h

-- other places than the one that was set have what they had
pub set_there : {A : Type 0} (xs : List A) (i : ℕ) (y : A) (j : ℕ) → j ≢ i → slice_get (slice_set xs i y) j ≡ slice_get xs j
set_there [] i y j other = refl
set_there (a ∷ xs) zero y zero other = absurd (other refl)
set_there (a ∷ xs) zero y (suc j) other = refl
set_there (a ∷ xs) (suc i) y zero other = refl
set_there (a ∷ xs) (suc i) y (suc j) other = set_there xs i y j (λ same. other (omega (arith, same)))

-- what is in a front of a list is at the same place of the list
pub get_take : {A : Type 0} (n : ℕ) (xs : List A) (i : ℕ) (x : A) → slice_get (take n xs) i ≡ Some x → slice_get xs i ≡ Some x
get_take zero xs i x h = absurd (no_some x h)
get_take (suc n) [] i x h = absurd (no_some x h)
get_take (suc n) (a ∷ xs) zero x h = h
get_take (suc n) (a ∷ xs) (suc i) x h = get_take n xs i x h

-- a front longer than the first list has that list whole and a front of the second
pub take_front : {A : Type 0} (xs ys : List A) (k : ℕ) → take (length xs + k) (xs ++ ys) ≡ xs ++ take k ys
take_front [] ys k = ap (λ (m : ℕ). take m ys) (omega arith)
take_front (x ∷ xs) ys k =
    let one : length (x ∷ xs) + k ≡ suc (length xs + k) = omega arith in
    rw one (ap (λ (l : List _). x ∷ l) (take_front xs ys k))

-- fronts of one length of lists of one length have one length
pub take_lengths : {A B : Type 0} (k : ℕ) (xs : List A) (ys : List B) → length xs ≡ length ys → length (take k xs) ≡ length (take k ys)
take_lengths zero xs ys same = refl
take_lengths (suc k) [] [] same = refl
take_lengths (suc k) [] (y ∷ ys) same = absurd (omega (arith, same))
take_lengths (suc k) (x ∷ xs) [] same = absurd (omega (arith, same))
take_lengths (suc k) (x ∷ xs) (y ∷ ys) same = let rest = take_lengths k xs ys (omega (arith, same)) in omega (arith, rest)

-- live ones

-- live after one more began: one of before, or the new one
pub live_one : {A : Type 0} (xs : List (Option A)) (y : A) (i : ℕ) (x : A) → live (xs ++ Some y ∷ []) i ≡ Some x → (live xs i ≡ Some x) ⊎ ((i ≡ length xs) × (y ≡ x))
live_one [] y zero x h = inr (refl, same_some y x h)
live_one [] y (suc i) x h = absurd (no_some x h)
live_one (a ∷ xs) y zero x h = inl h
live_one (a ∷ xs) y (suc i) x h = from (live_one xs y i x h)
  where
    from : (live xs i ≡ Some x) ⊎ ((i ≡ length xs) × (y ≡ x)) → (live xs i ≡ Some x) ⊎ ((suc i ≡ length (a ∷ xs)) × (y ≡ x))
    from (inl was) = inl was
    from (inr new) = inr (omega (arith, new.0), new.1)

-- after one changed: another one, or what it is now
pub live_set : {A : Type 0} (xs : List (Option A)) (i : ℕ) (y : Option A) (j : ℕ) (x : A) → live (slice_set xs i y) j ≡ Some x → ((j ≢ i) × (live xs j ≡ Some x)) ⊎ ((j ≡ i) × (y ≡ Some x))
live_set [] i y j x is = absurd (no_some x is)
live_set (a ∷ xs) zero y zero x is = inr (refl, is)
live_set (a ∷ xs) zero y (suc j) x is = inl ((λ same. absurd (omega (arith, same))), is)
live_set (a ∷ xs) (suc i) y zero x is = inl ((λ same. absurd (omega (arith, same))), is)
live_set (a ∷ xs) (suc i) y (suc j) x is = from (live_set xs i y j x is)
  where
    from : ((j ≢ i) × (live xs j ≡ Some x)) ⊎ ((j ≡ i) × (y ≡ Some x)) → ((suc j ≢ suc i) × (live xs j ≡ Some x)) ⊎ ((suc j ≡ suc i) × (y ≡ Some x))
    from (inl was) = inl ((λ same. was.0 (omega (arith, same))), was.1)
    from (inr new) = inr (omega (arith, new.0), new.1)

-- live after one ended: it was live before
pub live_none : {A : Type 0} (xs : List (Option A)) (i j : ℕ) (x : A) → live (slice_set xs i None) j ≡ Some x → live xs j ≡ Some x
live_none xs i j x h = from (live_set xs i None j x h)
  where
    from : ((j ≢ i) × (live xs j ≡ Some x)) ⊎ ((j ≡ i) × (None ≡ Some x)) → live xs j ≡ Some x
    from (inl was) = was.1
    from (inr new) = absurd (no_some x new.1)

-- of those that all ended none is live
pub none_ended : {A : Type 0} (xs : List (Option A)) (k : ℕ) (x : A) → live (ended xs) k ≡ Some x → ⊥
none_ended [] k x is = no_some x is
none_ended (y ∷ xs) zero x is = no_some x is
none_ended (y ∷ xs) (suc k) x is = none_ended xs k x is
