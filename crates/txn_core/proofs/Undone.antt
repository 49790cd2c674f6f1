-- A put or a take that is taken back.
use Rattle.std.proofs.Common.{◌≡◌, ◌<◌, ◌≤◌, ◌+◌, ◌++◌, ◌∷◌, [], ℕ, zero, suc, List, length, take, slice_get, slice_set, Some, refl, sym, ◌∙◌, ap, subst, arith, length-append, length-set}
use Rattle.event_core.specs.Content.{Content}
use Rattle.event_core.specs.declared.journal.Entry.{Entry}
use Rattle.event_core.specs.declared.journal.Entry.TheVariants.{Puts, Takes}
use Rattle.channel_face.specs.Machine.{State, with_entry}
use Rattle.txn_core.specs.Places.{IsAt}
use Rattle.txn_core.specs.Sound.{IsSound, AreHeld, NoneLonger, size_of_entry}
use Rattle.txn_core.proofs.Counts.{puts_size, puts_size-set, longer_at}
use Rattle.txn_core.proofs.Fronts.{held_set}

abbrev pub Opened : Type 0
Opened = List (ℕ × Entry)

-- what was set at a place is found there
pub set_got : (xs : Opened) (i : ℕ) (y : ℕ × Entry) → i < length xs → slice_get (slice_set xs i y) i ≡ Some y
set_got [] i y within = absurd (omega (arith, within))
set_got (x ∷ xs) zero y within = refl
set_got (x ∷ xs) (suc i) y within = set_got xs i y (omega (arith, within))

set_back : (xs : Opened) (i : ℕ) (x y : ℕ × Entry) → slice_get xs i ≡ Some x → slice_set (slice_set xs i y) i x ≡ xs
set_back [] i x y is = refl
set_back (z ∷ xs) zero x y is = let same : z ≡ x = cc in ap (λ (o : ℕ × Entry). o ∷ xs) (sym same)
set_back (z ∷ xs) (suc i) x y is = ap (λ (l : Opened). z ∷ l) (set_back xs i x y is)

pub record WasAdded (before opened : Opened) (number place : ℕ) (entry longer : Entry) : Type 0 where
  pub in_range : place < length opened
  pub item : slice_get opened place ≡ Some (number, longer)
  pub back : slice_set opened place (number, entry) ≡ before

-- where an entry was replaced by another, setting the old one gives the list before
pub was_added : (before opened : Opened) (number place : ℕ) (entry longer : Entry) → IsAt before number place entry → opened ≡ with_entry number longer before → WasAdded before opened number place entry longer
was_added before opened number place entry longer at is =
    let set : opened ≡ slice_set before place (number, longer) = is ∙ at.changed longer in
    record {
      in_range = rw (set, length-set before place (number, longer)) at.in_range;
      item = rw set (set_got before place (number, longer) at.in_range);
      back = rw set (set_back before place (number, entry) (number, longer) at.item);
    }

longer-unset : (most : ℕ) (xs : Opened) (i : ℕ) (x y : ℕ × Entry) → slice_get xs i ≡ Some x → size_of_entry x.1 ≤ most → NoneLonger most (slice_set xs i y) → NoneLonger most xs
longer-unset most [] i x y is here all = tt
longer-unset most (z ∷ xs) zero x y is here all = let same : z ≡ x = cc in (subst (λ (o : ℕ × Entry). size_of_entry o.1 ≤ most) (sym same) here, all.1)
longer-unset most (z ∷ xs) (suc i) x y is here all = (all.0, longer-unset most xs i x y is here all.1)

-- the lists are sound after a put is taken back
pub put_undone : (s : State) (before : Opened) (number place : ℕ) (events : List Content) (event : Content) (o o' p i r f : ℕ) → IsSound s o p i r f → IsAt before number place (Puts events) → s.opened ≡ with_entry number (Puts (events ++ event ∷ [])) before → o' + 1 ≡ o → IsSound (record s { opened = before }) o' p i r f
put_undone s before number place events event o o' p i r f sound at is one =
    let longer : Entry = Puts (events ++ event ∷ []) in
    let was = was_added before s.opened number place (Puts events) longer at is in
    let set : s.opened ≡ slice_set before place (number, longer) = is ∙ at.changed longer in
    let more : length (events ++ event ∷ []) ≡ length events + 1 = length-append events (event ∷ []) in
    let same : length s.opened ≡ length before = ap (λ (l : Opened). length l) set ∙ length-set before place (number, longer) in
    let size : puts_size s.opened ≡ puts_size before + 1 = omega (arith, ap (λ (l : Opened). puts_size l) set, puts_size-set before place (number, Puts events) (number, longer) at.item, more) in
    let most : length (events ++ event ∷ []) ≤ s.rules.limits.txn_capacity = longer_at s.rules.limits.txn_capacity s.opened place (number, longer) sound.lists was.item in
    record {
      open_puts_are = omega (arith, sound.open_puts_are, size, one);
      staged_puts_are = sound.staged_puts_are;
      frames = omega (arith, sound.frames, same);
      numbers = sound.numbers;
      begun = sound.begun;
      lists = longer-unset s.rules.limits.txn_capacity before place (number, Puts events) (number, longer) at.item (omega (arith, most, more)) (subst (λ (l : Opened). NoneLonger s.rules.limits.txn_capacity l) set sound.lists);
      events = omega (arith, sound.events, one);
      places = omega (arith, sound.places, same);
      within = λ kind. omega (arith, sound.within kind, size);
      within_memory = sound.within_memory;
      opened_few = omega (arith, sound.opened_few, same);
      front = subst (λ (l : Opened). AreHeld l s.staged (take f s.items)) was.back (held_set s.opened place (number, longer) (number, Puts events) s.staged (take f s.items) was.item (λ n h. h) sound.front);
    }

-- where a put can be taken back, at least one open put is counted
pub some_put : (s : State) (before : Opened) (number place : ℕ) (events : List Content) (event : Content) (o p i r f : ℕ) → IsSound s o p i r f → IsAt before number place (Puts events) → s.opened ≡ with_entry number (Puts (events ++ event ∷ [])) before → 1 ≤ o
some_put s before number place events event o p i r f sound at is =
    let longer : Entry = Puts (events ++ event ∷ []) in
    let set : s.opened ≡ slice_set before place (number, longer) = is ∙ at.changed longer in
    omega (arith, sound.open_puts_are, ap (λ (l : Opened). puts_size l) set, puts_size-set before place (number, Puts events) (number, longer) at.item, length-append events (event ∷ []))

-- the lists are sound after a take is taken back
pub take_undone : (s : State) (before : Opened) (number place : ℕ) (numbers : List ℕ) (taken : ℕ) (o p i r f : ℕ) → IsSound s o p i r f → IsAt before number place (Takes numbers) → s.opened ≡ with_entry number (Takes (numbers ++ taken ∷ [])) before → IsSound (record s { opened = before }) o p i r 0
take_undone s before number place numbers taken o p i r f sound at is =
    let longer : Entry = Takes (numbers ++ taken ∷ []) in
    let was = was_added before s.opened number place (Takes numbers) longer at is in
    let set : s.opened ≡ slice_set before place (number, longer) = is ∙ at.changed longer in
    let more : length (numbers ++ taken ∷ []) ≡ length numbers + 1 = length-append numbers (taken ∷ []) in
    let same : length s.opened ≡ length before = ap (λ (l : Opened). length l) set ∙ length-set before place (number, longer) in
    let size : puts_size s.opened ≡ puts_size before = omega (arith, ap (λ (l : Opened). puts_size l) set, puts_size-set before place (number, Takes numbers) (number, longer) at.item) in
    let most : length (numbers ++ taken ∷ []) ≤ s.rules.limits.txn_capacity = longer_at s.rules.limits.txn_capacity s.opened place (number, longer) sound.lists was.item in
    record {
      open_puts_are = omega (arith, sound.open_puts_are, size);
      staged_puts_are = sound.staged_puts_are;
      frames = omega (arith, sound.frames, same);
      numbers = sound.numbers;
      begun = sound.begun;
      lists = longer-unset s.rules.limits.txn_capacity before place (number, Takes numbers) (number, longer) at.item (omega (arith, most, more)) (subst (λ (l : Opened). NoneLonger s.rules.limits.txn_capacity l) set sound.lists);
      events = sound.events;
      places = omega (arith, sound.places, same);
      within = λ kind. omega (arith, sound.within kind, size);
      within_memory = sound.within_memory;
      opened_few = omega (arith, sound.opened_few, same);
      front = refl;
    }
