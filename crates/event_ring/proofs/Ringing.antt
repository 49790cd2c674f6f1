-- Slots, of which one changes, and what is left by them.
use Rattle.std.proofs.Common.{◌⊎◌, inl, inr, ◌≡◌, ◌≢◌, ◌<◌, ◌≤◌, ◌+◌, ◌-◌, ◌++◌, ◌∷◌, [], ℕ, zero, suc, List, length, take, drop, slice_get, slice_set, Option, Some, None, Bool, true, false, ◌==◌, leb, cond, min, refl, sym, ◌∙◌, ap, subst, arith}
use Rattle.std.specs.List.{AllByRecursion}
use Rattle.std.specs.Option.{option_map}
use Rattle.std.proofs.lemmas.Bool.Decides.{eqb_tells, leb_tells}
use Rattle.std.proofs.lemmas.List.{append-nil, drop-set-lt, length-drop, length-set, take_more_set}
use Rattle.std.proofs.lemmas.Grind.{drop_more_same}
use Rattle.record_form.specs.declared.record.Pointer.{Pointer}
use Rattle.event_ring.specs.declared.index.Slot.{Slot}
use Rattle.event_ring.specs.declared.index.State.{State}
use Rattle.event_ring.specs.declared.index.State.TheVariants.{Free, Held, Gone}
use Rattle.event_ring.specs.Slots.{AreGaps, Index, IsBusy, IsFront, IsLive, IsRing, Left, Rises, closed, first_free, is_gone, is_held, lasting, left_of, live_of, look_at, marked, next_from, pointer_at}

abbrev Tells : ℕ → ℕ → Type 0
Tells a b = ((a == b) ≡ true) × (a ≡ b) ⊎ ((a == b) ≡ false) × (a ≢ b)

-- numbers rise

-- numbers that rise from one on rise also from a lower one
pub rises_low : (low less : ℕ) (slots : List Slot) (top : ℕ) → less ≤ low → Rises low slots top → Rises less slots top
rises_low low less [] top le rises = omega (arith, le, rises)
rises_low low less (s ∷ slots) top le rises = (omega (arith, le, rises.0), rises.1)

-- the number where the slots start is not above where they end
pub rises_within : (low : ℕ) (slots : List Slot) (top : ℕ) → Rises low slots top → low ≤ top
rises_within low [] top rises = rises
rises_within low (s ∷ slots) top rises = omega (arith, rises.0, rises_within (s.number + 1) slots top rises.1)

rises_above : (low : ℕ) (slots : List Slot) (top j : ℕ) (b : Slot) → Rises low slots top → slice_get slots j ≡ Some b → low ≤ b.number
rises_above low [] top j b rises is = absurd (cc)
rises_above low (s ∷ slots) top zero b rises is = let same : s ≡ b = cc in omega (arith, rises.0, ap (λ (x : Slot). x.number) same)
rises_above low (s ∷ slots) top (suc j) b rises is = omega (arith, rises.0, rises_above (s.number + 1) slots top j b rises.1 is)

-- a slot further back has a greater number
pub rises_pair : (low : ℕ) (slots : List Slot) (top i j : ℕ) (a b : Slot) → Rises low slots top → i < j → slice_get slots i ≡ Some a → slice_get slots j ≡ Some b → a.number < b.number
rises_pair low [] top i j a b rises less is there = absurd (cc)
rises_pair low (s ∷ slots) top zero zero a b rises less is there = absurd (omega (arith, less))
rises_pair low (s ∷ slots) top zero (suc j) a b rises less is there =
    let same : s ≡ a = cc in omega (arith, ap (λ (x : Slot). x.number) same, rises_above (s.number + 1) slots top j b rises.1 there)
rises_pair low (s ∷ slots) top (suc i) zero a b rises less is there = absurd (omega (arith, less))
rises_pair low (s ∷ slots) top (suc i) (suc j) a b rises less is there = rises_pair (s.number + 1) slots top i j a b rises.1 (omega (arith, less)) is there

-- a slot whose number is not below where the others end may go to the end
pub rises_push : (low : ℕ) (slots : List Slot) (top : ℕ) (s : Slot) → Rises low slots top → top ≤ s.number → Rises low (slots ++ s ∷ []) (s.number + 1)
rises_push low [] top s rises above = (omega (arith, rises, above), omega arith)
rises_push low (x ∷ slots) top s rises above = (rises.0, rises_push (x.number + 1) slots top s rises.1 above)

-- a slot that changes but keeps its number leaves the numbers rising
pub rises_set : (low : ℕ) (slots : List Slot) (top place : ℕ) (old new : Slot) → Rises low slots top → slice_get slots place ≡ Some old → new.number ≡ old.number → Rises low (slice_set slots place new) top
rises_set low [] top place old new rises is same = absurd (cc)
rises_set low (s ∷ slots) top zero old new rises is same =
    let here : s ≡ old = cc in
    let number : s.number ≡ new.number = ap (λ (x : Slot). x.number) here ∙ sym same in
    (omega (arith, rises.0, number), subst (λ (n : ℕ). Rises (n + 1) slots top) number rises.1)
rises_set low (s ∷ slots) top (suc place) old new rises is same = (rises.0, rises_set (s.number + 1) slots top place old new rises.1 is same)

-- numbers still rise without the first slots
pub rises_drop : (low : ℕ) (slots : List Slot) (top k : ℕ) → Rises low slots top → Rises low (drop k slots) top
rises_drop low slots top zero rises = rises
rises_drop low [] top (suc k) rises = rises
rises_drop low (s ∷ slots) top (suc k) rises = rises_low (s.number + 1) low (drop k slots) top (omega (arith, rises.0)) (rises_drop (s.number + 1) slots top k rises.1)

-- gaps

-- closing the gaps of two runs of slots closes those of each
pub closed-append : (a b : List Slot) → closed (a ++ b) ≡ closed a ++ closed b
closed-append [] b = refl
closed-append (s ∷ a) b = by_test (is_gone s.state) (closed-append a b)
  where
    by_test : (t : Bool) → closed (a ++ b) ≡ closed a ++ closed b → cond t (closed (a ++ b)) (s ∷ closed (a ++ b)) ≡ cond t (closed a) (s ∷ closed a) ++ closed b
    by_test true rest = rest
    by_test false rest = ap (λ (l : List Slot). s ∷ l) rest

-- what is left by two runs of slots is what each leaves
pub live-append : (a b : List Slot) → live_of (a ++ b) ≡ live_of a ++ live_of b
live-append [] b = refl
live-append (s ∷ a) b = by_test (is_gone s.state) (live-append a b)
  where
    by_test : (t : Bool) → live_of (a ++ b) ≡ live_of a ++ live_of b → cond t (live_of (a ++ b)) (left_of s ∷ live_of (a ++ b)) ≡ cond t (live_of a) (left_of s ∷ live_of a) ++ live_of b
    by_test true rest = rest
    by_test false rest = ap (λ (l : List Left). left_of s ∷ l) rest

-- closing the gaps changes nothing of what is left
pub live_closed : (slots : List Slot) → live_of (closed slots) ≡ live_of slots
live_closed [] = refl
live_closed (s ∷ slots) = by_test (is_gone s.state) refl (live_closed slots)
  where
    by_test : (t : Bool) → is_gone s.state ≡ t → live_of (closed slots) ≡ live_of slots → live_of (cond t (closed slots) (s ∷ closed slots)) ≡ cond t (live_of slots) (left_of s ∷ live_of slots)
    by_test true is rest = rest
    by_test false is rest = rw is (ap (λ (l : List Left). left_of s ∷ l) rest)

-- without the gaps there are as many slots as events left
pub length_closed : (slots : List Slot) → length (closed slots) ≡ length (live_of slots)
length_closed [] = refl
length_closed (s ∷ slots) = by_test (is_gone s.state) (length_closed slots)
  where
    by_test : (t : Bool) → length (closed slots) ≡ length (live_of slots) → length (cond t (closed slots) (s ∷ closed slots)) ≡ length (cond t (live_of slots) (left_of s ∷ live_of slots))
    by_test true rest = rest
    by_test false rest = ap suc rest

-- numbers still rise without the gaps
pub rises_closed : (low : ℕ) (slots : List Slot) (top : ℕ) → Rises low slots top → Rises low (closed slots) top
rises_closed low [] top rises = rises
rises_closed low (s ∷ slots) top rises = by_test (is_gone s.state) (rises_closed (s.number + 1) slots top rises.1)
  where
    by_test : (t : Bool) → Rises (s.number + 1) (closed slots) top → Rises low (cond t (closed slots) (s ∷ closed slots)) top
    by_test true rest = rises_low (s.number + 1) low (closed slots) top (omega (arith, rises.0)) rest
    by_test false rest = (rises.0, rest)

-- a gap in front can go, and what is left stays
pub first_gap : (slots : List Slot) (s : Slot) → slice_get slots 0 ≡ Some s → is_gone s.state ≡ true → live_of (drop 1 slots) ≡ live_of slots
first_gap [] s is gone = absurd (cc)
first_gap (x ∷ slots) s is gone =
    let same : x ≡ s = cc in
    let t : is_gone x.state ≡ true = ap (λ (y : Slot). is_gone y.state) same ∙ gone in
    rw t refl

-- an event of some number

above_none : (low number : ℕ) (slots : List Slot) (top : ℕ) → Rises low slots top → number < low → IsLive (live_of slots) number → ⊥
above_none low number [] top rises less live = live
above_none low number (s ∷ slots) top rises less live =
    by_test (is_gone s.state) live (above_none (s.number + 1) number slots top rises.1 (omega (arith, less, rises.0)))
  where
    by_test : (t : Bool) → IsLive (cond t (live_of slots) (left_of s ∷ live_of slots)) number → (IsLive (live_of slots) number → ⊥) → ⊥
    by_test true live rest = rest live
    by_test false (inl same) rest = omega (arith, less, rises.0, same)
    by_test false (inr live) rest = rest live

-- An event of this number stands at this place.
pub record Stands (slots : List Slot) (number place : ℕ) (s : Slot) : Type 0 where
  pub item : slice_get slots place ≡ Some s
  pub number_is : s.number ≡ number
  pub lives : is_gone s.state ≡ false

-- it stands somewhere
live_stands : (low number : ℕ) (slots : List Slot) (top : ℕ) → Rises low slots top → IsLive (live_of slots) number → (place : ℕ) × (s : Slot) × Stands slots number place s
live_stands low number [] top rises live = absurd live
live_stands low number (s ∷ slots) top rises live = by_test (is_gone s.state) refl live (live_stands (s.number + 1) number slots top rises.1)
  where
    later : (place : ℕ) × (x : Slot) × Stands slots number place x → (place : ℕ) × (x : Slot) × Stands (s ∷ slots) number place x
    later found = (suc found.0, found.1, record { item = found.2.item; number_is = found.2.number_is; lives = found.2.lives })

    by_test : (t : Bool) → is_gone s.state ≡ t → IsLive (cond t (live_of slots) (left_of s ∷ live_of slots)) number → (IsLive (live_of slots) number → (place : ℕ) × (x : Slot) × Stands slots number place x)
        → (place : ℕ) × (x : Slot) × Stands (s ∷ slots) number place x
    by_test true is live rest = later (rest live)
    by_test false is (inl same) rest = (zero, s, record { item = refl; number_is = same; lives = is })
    by_test false is (inr live) rest = later (rest live)

in_range : (slots : List Slot) (place : ℕ) (s : Slot) → slice_get slots place ≡ Some s → place < length slots
in_range [] place s is = absurd (cc)
in_range (x ∷ slots) zero s is = omega arith
in_range (x ∷ slots) (suc place) s is = omega (arith, in_range slots place s is)

-- a place has one slot only
pub one_item : (slots : List Slot) (place : ℕ) (a b : Slot) → slice_get slots place ≡ Some a → slice_get slots place ≡ Some b → a ≡ b
one_item slots place a b first second = let same : Some a ≡ Some b = sym first ∙ second in cc

-- and that is where the search finds it
pub found_live : (slots : List Slot) (number place low top : ℕ) → Rises low slots top → IsLive (live_of slots) number → IsFront slots number place → (s : Slot) × Stands slots number place s
found_live slots number place low top rises live front = at (live_stands low number slots top rises live)
  where
    same_place : (p : ℕ) (s : Slot) → Stands slots number p s → p ≡ place
    same_place p s stands = from (grind arith)
      where
        there : place < p → (x : Slot) × (slice_get slots place ≡ Some x)
        there less = some slots place p s less stands.item
          where
            some : (slots : List Slot) (i j : ℕ) (s : Slot) → i < j → slice_get slots j ≡ Some s → (x : Slot) × (slice_get slots i ≡ Some x)
            some [] i j s less is = absurd (cc)
            some (y ∷ slots) zero j s less is = (y, refl)
            some (y ∷ slots) (suc i) zero s less is = absurd (omega (arith, less))
            some (y ∷ slots) (suc i) (suc j) s less is = some slots i j s (omega (arith, less)) is

        from : ((p < place) ⊎ (place < p) ⊎ (p ≡ place)) → p ≡ place
        from (inl below) = absurd (omega (arith, front.below p s below stands.item, stands.number_is))
        from (inr (inl above)) =
            let x = there above in
            absurd (omega (arith, front.above place x.0 (omega arith) x.1, rises_pair low slots top place p x.0 s rises above x.1 stands.item, stands.number_is))
        from (inr (inr same)) = same

    at : (p : ℕ) × (s : Slot) × Stands slots number p s → (s : Slot) × Stands slots number place s
    at found = (found.1, subst (λ (p : ℕ). Stands slots number p found.1) (same_place found.0 found.1 found.2) found.2)

-- an event is held or not

marked_none : (low number : ℕ) (held : Bool) (slots : List Slot) (top : ℕ) → Rises low slots top → number < low → marked number held (live_of slots) ≡ live_of slots
marked_none low number held [] top rises less = refl
marked_none low number held (s ∷ slots) top rises less = by_test (is_gone s.state) (marked_none (s.number + 1) number held slots top rises.1 (omega (arith, less, rises.0))) (eqb_tells s.number number)
  where
    by_test : (t : Bool) → marked number held (live_of slots) ≡ live_of slots → Tells s.number number → marked number held (cond t (live_of slots) (left_of s ∷ live_of slots)) ≡ cond t (live_of slots) (left_of s ∷ live_of slots)
    by_test true rest tells = rest
    by_test false rest (inl same) = absurd (omega (arith, less, rises.0, same.1))
    by_test false rest (inr other) = rw (other.0, rest) refl

-- the slot is another in nothing but its state
pub record Changes (old new : Slot) : Type 0 where
  pub number : new.number ≡ old.number
  pub at : new.at ≡ old.at
  pub file : new.file ≡ old.file
  pub long : new.length ≡ old.length

left_changed : (old new : Slot) → Changes old new → left_of new ≡ record (left_of old) { held = is_held new.state }
left_changed old new changes = rw (changes.number, changes.at, changes.file, changes.long) refl

-- a slot that is held or freed marks its event alone
pub set_marks : (low : ℕ) (slots : List Slot) (top place number : ℕ) (old new : Slot) → Rises low slots top → Stands slots number place old → Changes old new → is_gone new.state ≡ false
    → live_of (slice_set slots place new) ≡ marked number (is_held new.state) (live_of slots)
set_marks low [] top place number old new rises stands changes lives = (let is : None ≡ Some old = stands.item in absurd (cc))
set_marks low (s ∷ slots) top zero number old new rises stands changes lives =
    let here : s ≡ old = (let is : Some s ≡ Some old = stands.item in cc) in
    let gone : is_gone s.state ≡ false = ap (λ (x : Slot). is_gone x.state) here ∙ stands.lives in
    let own : (s.number == number) ≡ true = same_test (ap (λ (x : Slot). x.number) here ∙ stands.number_is) in
    let less : number < s.number + 1 = omega (arith, ap (λ (x : Slot). x.number) here, stands.number_is) in
    let left : left_of new ≡ record (left_of s) { held = is_held new.state } = left_changed old new changes ∙ ap (λ (x : Slot). record (left_of x) { held = is_held new.state }) (sym here) in
    rw (lives, gone, own, marked_none (s.number + 1) number (is_held new.state) slots top rises.1 less) (ap (λ (l : Left). l ∷ live_of slots) left)
  where
    same_test : s.number ≡ number → (s.number == number) ≡ true
    same_test is = from (eqb_tells s.number number)
      where
        from : Tells s.number number → (s.number == number) ≡ true
        from (inl same) = same.0
        from (inr other) = absurd (other.1 is)
set_marks low (s ∷ slots) top (suc place) number old new rises stands changes lives =
    by_test (is_gone s.state) (eqb_tells s.number number)
    (set_marks (s.number + 1) slots top place number old new rises.1 (record { item = stands.item; number_is = stands.number_is; lives = stands.lives }) changes lives)
  where
    by_test : (t : Bool) → Tells s.number number → live_of (slice_set slots place new) ≡ marked number (is_held new.state) (live_of slots)
        → cond t (live_of (slice_set slots place new)) (left_of s ∷ live_of (slice_set slots place new)) ≡ marked number (is_held new.state) (cond t (live_of slots) (left_of s ∷ live_of slots))
    by_test true tells rest = rest
    by_test false (inl same) rest = absurd (omega (arith, same.1, stands.number_is, rises_above (s.number + 1) slots top place old rises.1 stands.item))
    by_test false (inr other) rest = rw (other.0, rest) refl

-- an event is gone

lasting_none : (low number : ℕ) (slots : List Slot) (top : ℕ) → Rises low slots top → number < low → lasting number (live_of slots) ≡ live_of slots
lasting_none low number [] top rises less = refl
lasting_none low number (s ∷ slots) top rises less = by_test (is_gone s.state) (lasting_none (s.number + 1) number slots top rises.1 (omega (arith, less, rises.0))) (eqb_tells s.number number)
  where
    by_test : (t : Bool) → lasting number (live_of slots) ≡ live_of slots → Tells s.number number → lasting number (cond t (live_of slots) (left_of s ∷ live_of slots)) ≡ cond t (live_of slots) (left_of s ∷ live_of slots)
    by_test true rest tells = rest
    by_test false rest (inl same) = absurd (omega (arith, less, rises.0, same.1))
    by_test false rest (inr other) = rw (other.0, rest) refl

-- a slot that becomes a gap takes its event away, and one event fewer is left
pub set_gone : (low : ℕ) (slots : List Slot) (top place number : ℕ) (old new : Slot) → Rises low slots top → Stands slots number place old → is_gone new.state ≡ true
    → (live_of (slice_set slots place new) ≡ lasting number (live_of slots)) × (length (live_of (slice_set slots place new)) + 1 ≡ length (live_of slots))
set_gone low [] top place number old new rises stands gone = (let is : None ≡ Some old = stands.item in absurd (cc))
set_gone low (s ∷ slots) top zero number old new rises stands gone =
    let here : s ≡ old = (let is : Some s ≡ Some old = stands.item in cc) in
    let lives : is_gone s.state ≡ false = ap (λ (x : Slot). is_gone x.state) here ∙ stands.lives in
    let own : (s.number == number) ≡ true = same_test (ap (λ (x : Slot). x.number) here ∙ stands.number_is) in
    let less : number < s.number + 1 = omega (arith, ap (λ (x : Slot). x.number) here, stands.number_is) in
    (rw (gone, lives, own, lasting_none (s.number + 1) number slots top rises.1 less) refl, rw (gone, lives) (omega arith))
  where
    same_test : s.number ≡ number → (s.number == number) ≡ true
    same_test is = from (eqb_tells s.number number)
      where
        from : Tells s.number number → (s.number == number) ≡ true
        from (inl same) = same.0
        from (inr other) = absurd (other.1 is)
set_gone low (s ∷ slots) top (suc place) number old new rises stands gone =
    by_test (is_gone s.state) (eqb_tells s.number number)
    (set_gone (s.number + 1) slots top place number old new rises.1 (record { item = stands.item; number_is = stands.number_is; lives = stands.lives }) gone)
  where
    by_test : (t : Bool) → Tells s.number number → (live_of (slice_set slots place new) ≡ lasting number (live_of slots)) × (length (live_of (slice_set slots place new)) + 1 ≡ length (live_of slots))
        → (cond t (live_of (slice_set slots place new)) (left_of s ∷ live_of (slice_set slots place new)) ≡ lasting number (cond t (live_of slots) (left_of s ∷ live_of slots)))
        × (length (cond t (live_of (slice_set slots place new)) (left_of s ∷ live_of (slice_set slots place new))) + 1 ≡ length (cond t (live_of slots) (left_of s ∷ live_of slots)))
    by_test true tells rest = rest
    by_test false (inl same) rest = absurd (omega (arith, same.1, stands.number_is, rises_above (s.number + 1) slots top place old rises.1 stands.item))
    by_test false (inr other) rest = (rw (other.0, rest.0) refl, omega (arith, rest.1))

-- no slot before a place is free

-- a slot that changes to one that is not free leaves none free before the place
pub busy_set : (slots : List Slot) (from place : ℕ) (new : Slot) → AllByRecursion IsBusy (take from slots) → IsBusy new → AllByRecursion IsBusy (take from (slice_set slots place new))
busy_set [] from place new all busy = all
busy_set (s ∷ slots) zero zero new all busy = tt
busy_set (s ∷ slots) zero (suc place) new all busy = tt
busy_set (s ∷ slots) (suc from) zero new all busy = (busy, all.1)
busy_set (s ∷ slots) (suc from) (suc place) new all busy = (all.0, busy_set slots from place new all.1 busy)

-- whatever a slot becomes, none before it and before the place is free
pub busy_before : (slots : List Slot) (from place : ℕ) (new : Slot) → AllByRecursion IsBusy (take from slots) → AllByRecursion IsBusy (take (min from place) (slice_set slots place new))
busy_before [] from place new all = none (min from place)
  where
    none : (n : ℕ) → AllByRecursion IsBusy (take n [])
    none zero = tt
    none (suc n) = tt
busy_before (s ∷ slots) zero zero new all = tt
busy_before (s ∷ slots) zero (suc place) new all = let none : min 0 (suc place) ≡ 0 = omega arith in rw none tt
busy_before (s ∷ slots) (suc from) zero new all = let none : min (suc from) 0 ≡ 0 = omega arith in rw none tt
busy_before (s ∷ slots) (suc from) (suc place) new all =
    let more : min (suc from) (suc place) ≡ suc (min from place) = omega arith in
    rw more (all.0, busy_before slots from place new all.1)

-- without the first slots still none is free before the place, which moves along
pub busy_drop : (slots : List Slot) (from k : ℕ) → AllByRecursion IsBusy (take from slots) → AllByRecursion IsBusy (take (from - k) (drop k slots))
busy_drop slots from zero all = let same : from - 0 ≡ from = omega arith in rw same all
busy_drop [] from (suc k) all = none (from - suc k)
  where
    none : (n : ℕ) → AllByRecursion IsBusy (take n [])
    none zero = tt
    none (suc n) = tt
busy_drop (s ∷ slots) zero (suc k) all = let none : 0 - suc k ≡ 0 = omega arith in rw none tt
busy_drop (s ∷ slots) (suc from) (suc k) all = let same : suc from - suc k ≡ from - k = omega arith in rw same (busy_drop slots from k all.1)

-- a slot that is not free lets the place move behind it
pub busy_more : (slots : List Slot) (place : ℕ) (s : Slot) → AllByRecursion IsBusy (take place slots) → slice_get slots place ≡ Some s → IsBusy s → AllByRecursion IsBusy (take (place + 1) slots)
busy_more [] place s all is busy = absurd (cc)
busy_more (x ∷ slots) zero s all is busy = let same : x ≡ s = cc in (subst (λ (y : Slot). IsBusy y) (sym same) busy, tt)
busy_more (x ∷ slots) (suc place) s all is busy = let further : suc place + 1 ≡ suc (place + 1) = omega arith in rw further (all.0, busy_more slots place s all.1 is busy)

-- the first free one

held_of_busy : (s : Slot) → IsBusy s → is_gone s.state ≡ false → is_held s.state ≡ true
held_of_busy s busy lives = from s.state refl
  where
    from : (t : State) → s.state ≡ t → is_held s.state ≡ true
    from Free is = absurd (busy is)
    from Held is = ap is_held is
    from Gone is = absurd (let e : true ≡ false = sym (ap is_gone is) ∙ lives in cc)

-- where no slot is free, no event is
pub none_free : (slots : List Slot) → AllByRecursion IsBusy slots → first_free (live_of slots) ≡ None
none_free [] all = refl
none_free (s ∷ slots) all = by_test (is_gone s.state) refl (none_free slots all.1)
  where
    by_test : (t : Bool) → is_gone s.state ≡ t → first_free (live_of slots) ≡ None → first_free (cond t (live_of slots) (left_of s ∷ live_of slots)) ≡ None
    by_test true is rest = rest
    by_test false is rest = rw (held_of_busy s all.0 is) rest

-- the first slot that is free has the first free event
pub one_free : (slots : List Slot) (place : ℕ) (s : Slot) → AllByRecursion IsBusy (take place slots) → slice_get slots place ≡ Some s → s.state ≡ Free → first_free (live_of slots) ≡ Some s.number
one_free [] place s all is free = absurd (cc)
one_free (x ∷ slots) zero s all is free =
    let same : x ≡ s = cc in
    let lives : is_gone x.state ≡ false = ap (λ (y : Slot). is_gone y.state) same ∙ ap is_gone free in
    let unheld : is_held x.state ≡ false = ap (λ (y : Slot). is_held y.state) same ∙ ap is_held free in
    rw (lives, unheld) (ap (λ (y : Slot). Some y.number) same)
one_free (x ∷ slots) (suc place) s all is free = by_test (is_gone x.state) refl (one_free slots place s all.1 is free)
  where
    by_test : (t : Bool) → is_gone x.state ≡ t → first_free (live_of slots) ≡ Some s.number → first_free (cond t (live_of slots) (left_of x ∷ live_of slots)) ≡ Some s.number
    by_test true lives rest = rest
    by_test false lives rest = rw (held_of_busy x all.0 lives) rest

-- where an event's record stands

look_above : (low number : ℕ) (slots : List Slot) (top : ℕ) → Rises low slots top → number < low → look_at number (live_of slots) ≡ None
look_above low number [] top rises less = refl
look_above low number (s ∷ slots) top rises less = by_test (is_gone s.state) (look_above (s.number + 1) number slots top rises.1 (omega (arith, less, rises.0))) (eqb_tells s.number number)
  where
    by_test : (t : Bool) → look_at number (live_of slots) ≡ None → Tells s.number number → look_at number (cond t (live_of slots) (left_of s ∷ live_of slots)) ≡ None
    by_test true rest tells = rest
    by_test false rest (inl same) = absurd (omega (arith, less, rises.0, same.1))
    by_test false rest (inr other) = rw other.0 rest

-- by the place at which it would stand
pub record Seen (slots : List Slot) (number place : ℕ) (found : Option (Pointer × Bool)) : Type 0 where
  pub some : (s : Slot) → slice_get slots place ≡ Some s → s.number ≡ number → is_gone s.state ≡ false → found ≡ Some ((left_of s).pointer, (left_of s).held)
  pub gap : (s : Slot) → slice_get slots place ≡ Some s → s.number ≡ number → is_gone s.state ≡ true → found ≡ None
  pub other : (s : Slot) → slice_get slots place ≡ Some s → s.number ≢ number → found ≡ None
  pub end : length slots ≤ place → found ≡ None

-- what a look-up by number finds is what stands at its place
pub look_seen : (low number : ℕ) (slots : List Slot) (top place : ℕ) → Rises low slots top → IsFront slots number place → Seen slots number place (look_at number (live_of slots))
look_seen low number [] top place rises front = record { some = λ s is same lives. absurd (cc); gap = λ s is same gone. refl; other = λ s is other. refl; end = λ past. refl }
look_seen low number (x ∷ slots) top zero rises front = record {
  some = λ s is same lives.
      let here : x ≡ s = cc in
      let lives' : is_gone x.state ≡ false = ap (λ (y : Slot). is_gone y.state) here ∙ lives in
      let own : (x.number == number) ≡ true = test (eqb_tells x.number number) (ap (λ (y : Slot). y.number) here ∙ same) in
      rw (lives', own) (ap (λ (y : Slot). Some ((left_of y).pointer, (left_of y).held)) here);
  gap = λ s is same gone.
      let here : x ≡ s = cc in
      let gone' : is_gone x.state ≡ true = ap (λ (y : Slot). is_gone y.state) here ∙ gone in
      rw gone' (look_above (x.number + 1) number slots top rises.1 (omega (arith, ap (λ (y : Slot). y.number) here, same)));
  other = λ s is other.
      let here : x ≡ s = cc in
      let less : number < x.number = omega (arith, front.above zero x (omega arith) refl, ap (λ (y : Slot). y.number) here, other) in
      look_above (number + 1) number (x ∷ slots) top (omega (arith, less), rises.1) (omega arith);
  end = λ past. absurd (omega (arith, past));
}
  where
    test : Tells x.number number → x.number ≡ number → (x.number == number) ≡ true
    test (inl same) is = same.0
    test (inr other) is = absurd (other.1 is)
look_seen low number (x ∷ slots) top (suc place) rises front =
    let rest : Seen slots number place (look_at number (live_of slots)) = look_seen (x.number + 1) number slots top place rises.1
    (record { within = omega (arith, front.within); below = λ k s less is. front.below (suc k) s (omega (arith, less)) is; above = λ k s more is. front.above (suc k) s (omega (arith, more)) is }) in
    let passed : look_at number (live_of (x ∷ slots)) ≡ look_at number (live_of slots) = pass (is_gone x.state) (eqb_tells x.number number) (front.below zero x (omega arith) refl) in
    record {
      some = λ s is same lives. passed ∙ rest.some s is same lives;
      gap = λ s is same gone. passed ∙ rest.gap s is same gone;
      other = λ s is other. passed ∙ rest.other s is other;
      end = λ past. passed ∙ rest.end (omega (arith, past));
    }
  where
    pass : (t : Bool) → Tells x.number number → x.number < number → look_at number (cond t (live_of slots) (left_of x ∷ live_of slots)) ≡ look_at number (live_of slots)
    pass true tells less = refl
    pass false (inl same) less = absurd (omega (arith, less, same.1))
    pass false (inr other) less = rw other.0 refl

-- the place alone
pub look_place : (number : ℕ) (live : List Left) → option_map (λ (l : Pointer × Bool). l.0) (look_at number live) ≡ pointer_at number live
look_place number [] = refl
look_place number (l ∷ live) = by_test (l.number == number) (look_place number live)
  where
    by_test : (t : Bool) → option_map (λ (x : Pointer × Bool). x.0) (look_at number live) ≡ pointer_at number live → option_map (λ (x : Pointer × Bool). x.0) (cond t (Some (l.pointer, l.held)) (look_at number live)) ≡ cond t (Some l.pointer) (pointer_at number live)
    by_test true rest = refl
    by_test false rest = rest

-- one slot changes its state

abbrev pub with_state : Slot → State → Slot
with_state s state = record { number = s.number; at = s.at; file = s.file; length = s.length; state = state }

-- a slot with another state is otherwise the same
pub changed : (s : Slot) (state : State) → Changes s (with_state s state)
changed s state = record { number = refl; at = refl; file = refl; long = refl }

-- the place of an event that is left is within the slots
pub live_at : (slots : List Slot) (top number place : ℕ) → Rises 0 slots top → IsLive (live_of slots) number → IsFront slots number place → place < length slots
live_at slots top number place rises live front = let s = found_live slots number place 0 top rises live front in in_range slots place s.0 s.1.item

-- the slot at the place of an event's number is that event's
pub stands_at : (slots : List Slot) (top number place : ℕ) (s : Slot) → Rises 0 slots top → IsLive (live_of slots) number → IsFront slots number place → slice_get slots place ≡ Some s → Stands slots number place s
stands_at slots top number place s rises live front is =
    let found = found_live slots number place 0 top rises live front in
    subst (λ (x : Slot). Stands slots number place x) (one_item slots place found.0 s found.1.item is) found.1

length_marked : (number : ℕ) (held : Bool) (live : List Left) → length (marked number held live) ≡ length live
length_marked number held [] = refl
length_marked number held (l ∷ live) = ap suc (length_marked number held live)

pub record Marks (slots : List Slot) (top live number place : ℕ) (s : Slot) (state : State) : Type 0 where
  pub rises : Rises 0 (slice_set slots place (with_state s state)) top
  pub counted : live ≡ length (live_of (slice_set slots place (with_state s state)))
  pub live_is : live_of (slice_set slots place (with_state s state)) ≡ marked number (is_held state) (live_of slots)

-- an event that is held or freed in its slot leaves numbers rising, counts right and the others alone
pub marks : (slots : List Slot) (top live from number place : ℕ) (s : Slot) (state : State) → IsRing slots top live from → IsLive (live_of slots) number → IsFront slots number place → slice_get slots place ≡ Some s → is_gone state ≡ false
    → Marks slots top live number place s state
marks slots top live from number place s state ring lives front is kept =
    let stands = stands_at slots top number place s ring.rises lives front is in
    let there = set_marks 0 slots top place number s (with_state s state) ring.rises stands (changed s state) kept in
    record {
      rises = rises_set 0 slots top place s (with_state s state) ring.rises is refl;
      counted = ring.counted ∙ (sym (length_marked number (is_held state) (live_of slots)) ∙ ap (λ (l : List Left). length l) (sym there));
      live_is = there;
    }

-- two indexes alike in all their parts are the same
pub index_same : (s s' t t' : ℕ) (l l' : List Left) → s ≡ s' → t ≡ t' → l ≡ l' → (let i : Index = record { slots = s; top = t; live = l } in i) ≡ record { slots = s'; top = t'; live = l' }
index_same s s' t t' l l' slots top live = rw (slots, top, live) refl

-- a search

-- slots before one with a smaller number have smaller numbers
pub before_mid : (slots : List Slot) (low top mid k number : ℕ) (s m : Slot) → Rises low slots top → slice_get slots mid ≡ Some m → m.number < number → k < mid + 1 → slice_get slots k ≡ Some s → s.number < number
before_mid slots low top mid k number s m rises there less within is = from (grind arith)
  where
    from : ((k < mid) ⊎ (k ≡ mid)) → s.number < number
    from (inl before) = omega (arith, rises_pair low slots top k mid s m rises before is there, less)
    from (inr same) =
        let one : s ≡ m = one_item slots mid s m (subst (λ (i : ℕ). slice_get slots i ≡ Some s) same is) there in
        omega (arith, ap (λ (x : Slot). x.number) one, less)

-- slots behind one with a number that is not smaller have none smaller
pub behind_mid : (slots : List Slot) (low top mid k number : ℕ) (s m : Slot) → Rises low slots top → slice_get slots mid ≡ Some m → number ≤ m.number → mid ≤ k → slice_get slots k ≡ Some s → number ≤ s.number
behind_mid slots low top mid k number s m rises there more within is = from (grind arith)
  where
    from : ((mid < k) ⊎ (k ≡ mid)) → number ≤ s.number
    from (inl behind) = omega (arith, rises_pair low slots top mid k m s rises behind there is, more)
    from (inr same) =
        let one : s ≡ m = one_item slots mid s m (subst (λ (i : ℕ). slice_get slots i ≡ Some s) same is) there in
        omega (arith, ap (λ (x : Slot). x.number) one, more)

-- closing the gaps, slot by slot

take_at_get : (slots : List Slot) (place : ℕ) (s : Slot) → slice_get slots place ≡ Some s → take (place + 1) slots ≡ take place slots ++ s ∷ []
take_at_get [] place s is = absurd (cc)
take_at_get (x ∷ slots) zero s is = let same : x ≡ s = cc in ap (λ (y : Slot). y ∷ []) same
take_at_get (x ∷ slots) (suc place) s is = let further : suc place + 1 ≡ suc (place + 1) = omega arith in rw further (ap (λ (l : List Slot). x ∷ l) (take_at_get slots place s is))

get_drop : (slots : List Slot) (place : ℕ) → slice_get (drop place slots) 0 ≡ slice_get slots place
get_drop slots zero = refl
get_drop [] (suc place) = refl
get_drop (x ∷ slots) (suc place) = get_drop slots place

pub record Closes (old now : List Slot) (to place : ℕ) : Type 0 where
  pub long : length now ≡ length old
  pub behind : to ≤ place
  pub front : take to now ≡ closed (take place old)
  pub rest : drop place now ≡ drop place old

-- closing the gaps goes one slot further
pub close_step : (old now new : List Slot) (to next place : ℕ) (s : Slot) → Closes old now to place → slice_get now place ≡ Some s
    → (is_gone s.state ≡ true → (new ≡ now) × (next ≡ to)) → (is_gone s.state ≡ false → (new ≡ slice_set now to s) × (next ≡ to + 1)) → Closes old new next (place + 1)
close_step old now new to next place s so is gap kept = from (is_gone s.state) refl
  where
    there : slice_get old place ≡ Some s
    there = sym (get_drop old place) ∙ (ap (λ (l : List Slot). slice_get l 0) (sym so.rest) ∙ (get_drop now place ∙ is))

    more : closed (take (place + 1) old) ≡ closed (take place old) ++ closed (s ∷ [])
    more = ap closed (take_at_get old place s there) ∙ closed-append (take place old) (s ∷ [])

    rest : drop (place + 1) now ≡ drop (place + 1) old
    rest = drop_more_same now old place so.rest

    from : (t : Bool) → is_gone s.state ≡ t → Closes old new next (place + 1)
    from true gone =
        let g = gap gone in
        let none : closed (s ∷ []) ≡ [] = rw gone refl in
        rw (g.0, g.1) (record {
          long = so.long;
          behind = omega (arith, so.behind);
          front = so.front ∙ (sym (append-nil (closed (take place old))) ∙ (ap (λ (l : List Slot). closed (take place old) ++ l) (sym none) ∙ sym more));
          rest = rest;
        })
    from false lives =
        let k = kept lives in
        let one : closed (s ∷ []) ≡ s ∷ [] = rw lives refl in
        let low : to < length now = omega (arith, so.behind, in_range now place s is) in
        rw (k.0, k.1) (record {
          long = length-set now to s ∙ so.long;
          behind = omega (arith, so.behind);
          front = take_more_set now to s low ∙ (ap (λ (l : List Slot). l ++ s ∷ []) so.front ∙ (ap (λ (l : List Slot). closed (take place old) ++ l) (sym one) ∙ sym more));
          rest = drop-set-lt (place + 1) now to s (omega (arith, so.behind)) ∙ rest;
        })

-- a push

-- a free slot at the end adds its event at the end
pub push_live : (slots : List Slot) (s : Slot) → s.state ≡ Free → live_of (slots ++ s ∷ []) ≡ live_of slots ++ left_of s ∷ []
push_live slots s free = live-append slots (s ∷ []) ∙ (let lives : is_gone s.state ≡ false = ap is_gone free in rw lives refl)

-- a slot at the end does not change that none before the place is free
pub push_busy : (slots : List Slot) (s : Slot) (from : ℕ) → from ≤ length slots → AllByRecursion IsBusy (take from slots) → AllByRecursion IsBusy (take from (slots ++ s ∷ []))
push_busy [] s zero within all = tt
push_busy [] s (suc from) within all = absurd (omega (arith, within))
push_busy (x ∷ slots) s zero within all = tt
push_busy (x ∷ slots) s (suc from) within all = (all.0, push_busy slots s from (omega (arith, within)) all.1)

-- the lesser of two places lies within the slots
pub min_within : (slots : List Slot) (from place : ℕ) (new : Slot) → from ≤ length slots → min from place ≤ length (slice_set slots place new)
min_within slots from place new within = omega (arith, length-set slots place new, within)

-- an event goes

pub record Goes (slots : List Slot) (top live from number place : ℕ) (s : Slot) (k : ℕ) : Type 0 where
  pub rises : Rises 0 (drop k (slice_set slots place (with_state s Gone))) top
  pub counted : live ≡ length (live_of (slice_set slots place (with_state s Gone))) + 1
  pub live_is : live_of (slice_set slots place (with_state s Gone)) ≡ lasting number (live_of slots)
  pub within : from - k ≤ length (drop k (slice_set slots place (with_state s Gone)))
  pub busy : AllByRecursion IsBusy (take (from - k) (drop k (slice_set slots place (with_state s Gone))))

-- an event that is gone leaves numbers rising, counts right and no free slot before the place
pub goes : (slots : List Slot) (top live from number place : ℕ) (s : Slot) (k : ℕ) → IsRing slots top live from → IsLive (live_of slots) number → IsFront slots number place → slice_get slots place ≡ Some s → Goes slots top live from number place s k
goes slots top live from number place s k ring lives front is =
    let stands = stands_at slots top number place s ring.rises lives front is in
    let there = set_gone 0 slots top place number s (with_state s Gone) ring.rises stands refl in
    let new : List Slot = slice_set slots place (with_state s Gone) in
    record {
      rises = rises_drop 0 new top k (rises_set 0 slots top place s (with_state s Gone) ring.rises is refl);
      counted = omega (arith, ring.counted, there.1);
      live_is = there.0;
      within = omega (arith, length-drop k new, length-set slots place (with_state s Gone), ring.within);
      busy = busy_drop new from k (busy_set slots from place (with_state s Gone) ring.busy (λ e. cc));
    }

-- the first event from a number on

-- an event below the number, or a gap, is passed over
passes : (low : ℕ) (x : Slot) (slots : List Slot) → (x.number < low) ⊎ (is_gone x.state ≡ true) → next_from low (live_of (x ∷ slots)) ≡ next_from low (live_of slots)
passes low x slots (inr gone) = rw gone refl
passes low x slots (inl less) = by_test (is_gone x.state)
  where
    test : ((leb low x.number ≡ true) × (low ≤ x.number)) ⊎ ((leb low x.number ≡ false) × (x.number < low)) → leb low x.number ≡ false
    test (inl above) = absurd (omega (arith, above.1, less))
    test (inr below) = below.0

    by_test : (t : Bool) → next_from low (cond t (live_of slots) (left_of x ∷ live_of slots)) ≡ next_from low (live_of slots)
    by_test true = refl
    by_test false = rw (test (leb_tells low x.number)) refl

-- the first event from a number on stands at the first slot that is no gap and not below it
pub next_found : (low r : ℕ) (slots : List Slot) (s : Slot) → ((k : ℕ) (x : Slot) → k < r → slice_get slots k ≡ Some x → (x.number < low) ⊎ (is_gone x.state ≡ true))
    → slice_get slots r ≡ Some s → low ≤ s.number → is_gone s.state ≡ false → next_from low (live_of slots) ≡ Some (s.number, (left_of s).pointer)
next_found low r [] s before is above lives = absurd (cc)
next_found low zero (x ∷ slots) s before is above lives =
    let same : x ≡ s = cc in
    let gone : is_gone x.state ≡ false = ap (λ (y : Slot). is_gone y.state) same ∙ lives in
    let test : leb low x.number ≡ true = at (leb_tells low x.number) (omega (arith, above, ap (λ (y : Slot). y.number) same)) in
    rw (gone, test) (ap (λ (y : Slot). Some (y.number, (left_of y).pointer)) same)
  where
    at : ((leb low x.number ≡ true) × (low ≤ x.number)) ⊎ ((leb low x.number ≡ false) × (x.number < low)) → low ≤ x.number → leb low x.number ≡ true
    at (inl above) more = above.0
    at (inr less) more = absurd (omega (arith, less.1, more))
next_found low (suc r) (x ∷ slots) s before is above lives =
    passes low x slots (before zero x (omega arith) refl)
    ∙ next_found low r slots s (λ k y less is. before (suc k) y (omega (arith, less)) is) is above lives

-- where all slots are below the number or gaps, there is no event from it on
pub next_none : (low : ℕ) (slots : List Slot) → ((k : ℕ) (x : Slot) → slice_get slots k ≡ Some x → (x.number < low) ⊎ (is_gone x.state ≡ true)) → next_from low (live_of slots) ≡ None
next_none low [] each = refl
next_none low (x ∷ slots) each = passes low x slots (each zero x refl) ∙ next_none low slots (λ k y is. each (suc k) y is)

passed : (slots : List Slot) (low place r : ℕ) → IsFront slots low place → AreGaps place r slots → (k : ℕ) (x : Slot) → k < r → slice_get slots k ≡ Some x → (x.number < low) ⊎ (is_gone x.state ≡ true)
passed slots low place r front gaps k x less is = from (grind arith)
  where
    from : ((k < place) ⊎ (place ≤ k)) → (x.number < low) ⊎ (is_gone x.state ≡ true)
    from (inl before) = inl (front.below k x before is)
    from (inr behind) = inr (gaps k x behind less is)

-- the event at the first place after the gaps is the next one
pub next_at : (slots : List Slot) (low place r : ℕ) (s : Slot) → IsFront slots low place → AreGaps place r slots → place ≤ r → slice_get slots r ≡ Some s → is_gone s.state ≡ false
    → next_from low (live_of slots) ≡ Some (s.number, (left_of s).pointer)
next_at slots low place r s front gaps behind is lives = next_found low r slots s (passed slots low place r front gaps) is (front.above r s behind is) lives

-- there is none where the gaps reach the end
pub none_at : (slots : List Slot) (low place r : ℕ) → IsFront slots low place → AreGaps place r slots → length slots ≤ r → next_from low (live_of slots) ≡ None
none_at slots low place r front gaps end = next_none low slots (λ k x is. passed slots low place r front gaps k x (omega (arith, end, in_range slots k x is)) is)

rises_top : (low : ℕ) (slots : List Slot) (top k : ℕ) (s : Slot) → Rises low slots top → slice_get slots k ≡ Some s → s.number < top
rises_top low [] top k s rises is = absurd (cc)
rises_top low (x ∷ slots) top zero s rises is = let same : x ≡ s = cc in omega (arith, ap (λ (y : Slot). y.number) same, rises_within (x.number + 1) slots top rises.1)
rises_top low (x ∷ slots) top (suc k) s rises is = rises_top (x.number + 1) slots top k s rises.1 is

-- there is none above each number that was pushed
pub none_above : (slots : List Slot) (low top : ℕ) → Rises 0 slots top → top ≤ low → next_from low (live_of slots) ≡ None
none_above slots low top rises above = next_none low slots (λ k x is. inl (omega (arith, above, rises_top 0 slots top k x rises is)))
