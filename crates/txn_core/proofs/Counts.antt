-- How many events the open puts have, as the list of open transactions changes.
use Rattle.std.proofs.Common.{◌≡◌, ◌<◌, ◌≤◌, ◌+◌, ◌++◌, ◌∷◌, [], ℕ, zero, suc, List, length, take, drop, slice_get, slice_set, Some, sym, ◌∙◌, ap, subst, arith, length-append}
use Rattle.event_core.specs.Content.{Content}
use Rattle.event_core.specs.Journal.{put_events}
use Rattle.event_core.specs.declared.journal.Entry.{Entry}
use Rattle.event_core.specs.declared.journal.Entry.TheVariants.{Puts, Takes}
use Rattle.channel_face.specs.Machine.{entries}
use Rattle.channel_face.proofs.Numbers.{put_events-append}
use Rattle.channel_face.proofs.Opened.{entries-append}
use Rattle.txn_core.specs.Sound.{size_of_entry, puts_in, NoneLonger}

abbrev pub Opened : Type 0
Opened = List (ℕ × Entry)

abbrev pub puts_size : Opened → ℕ
puts_size opened = length (put_events (entries opened))

abbrev pub size_put : Entry → ℕ
size_put entry = length (puts_in entry)

-- how many events are put by the first open transaction and the others
pub puts_size-cons : (o : ℕ × Entry) (opened : Opened) → puts_size (o ∷ opened) ≡ size_put o.1 + puts_size opened
puts_size-cons (n, Puts events) opened = length-append events (put_events (entries opened))
puts_size-cons (n, Takes numbers) opened = omega arith

-- how many events are put by two lists of open transactions
pub puts_size-append : (a b : Opened) → puts_size (a ++ b) ≡ puts_size a + puts_size b
puts_size-append a b = ap (λ (l : List Entry). length (put_events l)) (entries-append a b) ∙ ap (λ (l : List Content). length l) (put_events-append (entries a) (entries b)) ∙ length-append (put_events (entries a)) (put_events (entries b))

-- how many events are put after one transaction's entry was changed
pub puts_size-set : (opened : Opened) (place : ℕ) (old : ℕ × Entry) (new : ℕ × Entry) → slice_get opened place ≡ Some old → puts_size (slice_set opened place new) + size_put old.1 ≡ puts_size opened + size_put new.1
puts_size-set [] place old new is = absurd (cc)
puts_size-set (o ∷ opened) zero old new is =
    let same : o ≡ old = cc in
    let s : size_put o.1 ≡ size_put old.1 = ap (λ (p : ℕ × Entry). size_put p.1) same in
    omega (arith, s, puts_size-cons o opened, puts_size-cons new opened)
puts_size-set (o ∷ opened) (suc place) old new is =
    omega (arith, puts_size-cons o opened, puts_size-cons o (slice_set opened place new), puts_size-set opened place old new is)

-- how many events are put after one transaction was removed
pub puts_size-remove : (opened : Opened) (place : ℕ) (old : ℕ × Entry) → slice_get opened place ≡ Some old → puts_size (take place opened ++ drop (place + 1) opened) + size_put old.1 ≡ puts_size opened
puts_size-remove [] place old is = absurd (cc)
puts_size-remove (o ∷ opened) zero old is =
    let same : o ≡ old = cc in
    let s : size_put o.1 ≡ size_put old.1 = ap (λ (p : ℕ × Entry). size_put p.1) same in
    omega (arith, s, puts_size-cons o opened)
puts_size-remove (o ∷ opened) (suc place) old is =
    let further : suc place + 1 ≡ suc (place + 1) = omega arith in
    let goes : puts_size (o ∷ (take place opened ++ drop (place + 1) opened)) + size_put old.1 ≡ puts_size (o ∷ opened) = omega (arith, puts_size-cons o opened, puts_size-cons o (take place opened ++ drop (place + 1) opened), puts_size-remove opened place old is) in
    subst (λ (i : ℕ). puts_size (o ∷ (take place opened ++ drop i (o ∷ opened))) + size_put old.1 ≡ puts_size (o ∷ opened)) (sym further) goes

-- a transaction within the limit may be added to those within it
pub longer-push : (most : ℕ) (opened : Opened) (o : ℕ × Entry) → NoneLonger most opened → size_of_entry o.1 ≤ most → NoneLonger most (opened ++ o ∷ [])
longer-push most [] o all here = (here, tt)
longer-push most (x ∷ opened) o all here = (all.0, longer-push most opened o all.1 here)

-- all stay within the limit where one is replaced by another within it
pub longer-set : (most : ℕ) (opened : Opened) (place : ℕ) (o : ℕ × Entry) → NoneLonger most opened → size_of_entry o.1 ≤ most → NoneLonger most (slice_set opened place o)
longer-set most [] place o all here = tt
longer-set most (x ∷ opened) zero o all here = (here, all.1)
longer-set most (x ∷ opened) (suc place) o all here = (all.0, longer-set most opened place o all.1 here)

-- all stay within the limit where one is removed
pub longer-remove : (most : ℕ) (opened : Opened) (place : ℕ) → place < length opened → NoneLonger most opened → NoneLonger most (take place opened ++ drop (place + 1) opened)
longer-remove most [] place in_range all = absurd (omega arith)
longer-remove most (x ∷ opened) zero in_range all = all.1
longer-remove most (x ∷ opened) (suc place) in_range all =
    let further : suc place + 1 ≡ suc (place + 1) = omega arith in
    subst (λ (i : ℕ). NoneLonger most (x ∷ (take place opened ++ drop i (x ∷ opened)))) (sym further) (all.0, longer-remove most opened place (omega (arith, in_range)) all.1)

-- the transaction at any place is within the limit
pub longer_at : (most : ℕ) (opened : Opened) (place : ℕ) (o : ℕ × Entry) → NoneLonger most opened → slice_get opened place ≡ Some o → size_of_entry o.1 ≤ most
longer_at most [] place o all is = absurd (cc)
longer_at most (x ∷ opened) zero o all is = let same : x ≡ o = cc in subst (λ (p : ℕ × Entry). size_of_entry p.1 ≤ most) same all.0
longer_at most (x ∷ opened) (suc place) o all is = longer_at most opened place o all.1 is

-- where one is removed, there is one fewer
pub length-removed : (opened : Opened) (place : ℕ) → place < length opened → length (take place opened ++ drop (place + 1) opened) + 1 ≡ length opened
length-removed [] place in_range = absurd (omega arith)
length-removed (x ∷ opened) zero in_range = omega arith
length-removed (x ∷ opened) (suc place) in_range =
    let further : suc place + 1 ≡ suc (place + 1) = omega arith in
    subst (λ (i : ℕ). length (x ∷ (take place opened ++ drop i (x ∷ opened))) + 1 ≡ length (x ∷ opened)) (sym further) (omega (arith, length-removed opened place (omega (arith, in_range))))
