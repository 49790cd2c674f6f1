-- Lists of which some have ended.
use Rattle.std.proofs.Common.{◌≡◌, ◌∙◌, ◌<◌, ◌≤◌, ℕ, zero, suc, List, [], ◌∷◌, ◌++◌, length, map, get_or, Option, Some, None, refl, ap, sym, take, drop, arith}
use Rattle.std.specs.List.{slice_get, slice_set}
use Rattle.std.proofs.lemmas.Option.{slice_get_read, slice_get_past}
use Rattle.std.proofs.lemmas.Grind.{common_steps}
use Rattle.world_laws.specs.World.{and_then, live, Work, Attempt}
use Rattle.world_laws.specs.Steps.{ended, without_works, without_attempts}
use Rattle.hop_core.specs.Ending.{unless_from, unless_of}

-- the one of this number is what stands at its place
pub live_is : {A : Type 0} (list : List (Option A)) (number : ℕ) → live list number ≡ and_then (slice_get list number) (λ x. x)
live_is [] number = refl
live_is (x ∷ xs) zero = refl
live_is (x ∷ xs) (suc number) = live_is xs number

-- what is read there
pub live_read : {A : Type 0} (list : List (Option A)) (number : ℕ) (x : Option A) → number < length list → x ≡ get_or list number x → live list number ≡ x
live_read {A = A} list number x h e = live_is list number ∙ ap (λ (o : Option (Option A)). and_then o (λ y. y)) (slice_get_read list (length list) number x refl h e)

-- past the end of a list none is alive
pub live_past : {A : Type 0} (list : List (Option A)) (number : ℕ) → length list ≤ number → live list number ≡ None
live_past {A = A} list number e = live_is list number ∙ ap (λ (o : Option (Option A)). and_then o (λ y. y)) (slice_get_past list number e)

-- one that was read at its place is changed there
pub changed_at : {A : Type 0} (list : List (Option A)) (number : ℕ) (own : Option A) (read a : A) (f : A → A) → number < length list → own ≡ get_or list number own → own ≡ Some read → live list number ≡ Some a
    → slice_set list number (Some (f read)) ≡ slice_set list number (Some (f a))
changed_at {A = A} list number own read a f h e is alive =
    let same : Some read ≡ Some a = sym is ∙ (sym (live_read list number own h e) ∙ alive) in
    let one : read ≡ a = cc in
    ap (λ (x : A). slice_set list number (Some (f x))) one

-- one that is alive was not read as ended
pub alive_there : {A B : Type 0} (list : List (Option A)) (number : ℕ) (own : Option A) (a : A) → number < length list → own ≡ get_or list number own → own ≡ None → live list number ≡ Some a → B
alive_there {A = A} list number own a h e is alive =
    let none : None ≡ Some a = sym is ∙ (sym (live_read list number own h e) ∙ alive) in
    absurd (cc)

-- where all end, none is alive at any place
pub ended_is : {A : Type 0} (list : List (Option A)) → ended list ≡ map (λ x. None) list
ended_is [] = refl
ended_is {A = A} (x ∷ xs) = ap (λ (l : List (Option A)). None ∷ l) (ended_is xs)

-- of the works that are left, each is looked at alone: one with such an entry ends
pub works_left : (channel place : ℕ) (works : List (Option Work)) → without_works channel place works ≡ map (unless_from channel place) works
works_left channel place [] = refl
works_left channel place (None ∷ works) = ap (λ (l : List (Option Work)). None ∷ l) (works_left channel place works)
works_left channel place (Some w ∷ works) = ap (λ (l : List (Option Work)). unless_from channel place (Some w) ∷ l) (works_left channel place works)

-- of the attempts that are left, each is looked at alone: one of the channel ends
pub attempts_left : (channel : ℕ) (attempts : List (Option Attempt)) → without_attempts channel attempts ≡ map (unless_of channel) attempts
attempts_left channel [] = refl
attempts_left channel (None ∷ attempts) = ap (λ (l : List (Option Attempt)). None ∷ l) (attempts_left channel attempts)
attempts_left channel (Some a ∷ attempts) = ap (λ (l : List (Option Attempt)). unless_of channel (Some a) ∷ l) (attempts_left channel attempts)

-- a loop that changed each of them so
pub map_all : {A : Type 0} (f : A → A) (xs ys : List A) (n : ℕ) → ys ≡ map f (take n xs) ++ drop n xs → length xs ≤ n → ys ≡ map f xs
map_all f xs ys n e h = grind (arith, common_steps)
