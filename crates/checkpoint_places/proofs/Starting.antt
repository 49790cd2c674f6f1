-- The start for which a checkpoint of places stands.
use Rattle.std.proofs.Common.{◌⊎◌, inl, inr, ◌≡◌, ◌≢◌, ◌<◌, ◌≤◌, ◌+◌, ◌++◌, ◌∷◌, [], ◌==◌, ℕ, List, length, length-append, Option, Some, None, Bool, true, false, refl, sym, ◌∙◌, ap, arith}
use Rattle.std.specs.Prelude.{if◌then◌else◌}
use Rattle.std.specs.List.{AllByRecursion}
use Rattle.std.proofs.lemmas.Bool.Decides.{eqb_tells}
use Rattle.event_core.specs.Journal.{IsNotEmpty, is_among}
use Rattle.event_core.specs.declared.journal.Entry.{Entry}
use Rattle.event_core.specs.declared.journal.Entry.TheVariants.{Puts, Takes}
use Rattle.channel_face.specs.Machine.{entry_of}
use Rattle.channel_face.specs.Sound.{times}
use Rattle.channel_face.proofs.Numbers.{among_times, other_number, same_number, times-append}
use Rattle.channel_places.specs.Looks.{OpenRise}
use Rattle.channel_replay.specs.Open.{keys}
use Rattle.channel_replay.specs.Start.{AreApart}
use Rattle.channel_replay.specs.StartLaws.{busy_ones, done_of}
use Rattle.checkpoint_places.specs.Laws.{StateHasStart}
use Rattle.checkpoint_places.specs.Texts.{puts_done, takes_done}
use Rattle.checkpoint_places.proofs.Listing.{open_within}

abbrev Tells : ℕ → ℕ → Type 0
Tells a b = ((a == b) ≡ true) × (a ≡ b) ⊎ ((a == b) ≡ false) × (a ≢ b)

-- what a transaction put, or took, if it did
abbrev put_done : Option Entry → Option Entry
put_done None = None
put_done (Some (Puts [])) = None
put_done (Some (Puts (e ∷ events))) = Some (Puts (e ∷ events))
put_done (Some (Takes numbers)) = None

abbrev take_done : Option Entry → Option Entry
take_done None = None
take_done (Some (Puts events)) = None
take_done (Some (Takes [])) = None
take_done (Some (Takes (n ∷ numbers))) = Some (Takes (n ∷ numbers))

here_of : (n m : ℕ) (e : Entry) (os : List (ℕ × Entry)) → m ≡ n → entry_of n ((m, e) ∷ os) ≡ Some e
here_of n m e os same = from (eqb_tells m n)
  where
    from : Tells m n → entry_of n ((m, e) ∷ os) ≡ Some e
    from (inl is) = ap (λ (b : Bool). if b then Some e else entry_of n os) is.0
    from (inr other) = absurd (other.1 same)

other_of : (n m : ℕ) (e : Entry) (os : List (ℕ × Entry)) → m ≢ n → entry_of n ((m, e) ∷ os) ≡ entry_of n os
other_of n m e os other = from (eqb_tells m n)
  where
    from : Tells m n → entry_of n ((m, e) ∷ os) ≡ entry_of n os
    from (inl is) = absurd (other is.1)
    from (inr isnt) = ap (λ (b : Bool). if b then Some e else entry_of n os) isnt.0

-- none below the first is open
low_none : (low top n : ℕ) (os : List (ℕ × Entry)) → OpenRise low os top → n < low → entry_of n os ≡ None
low_none low top n [] rise less = refl
low_none low top n (o ∷ os) rise less = other_of n o.0 o.1 os (omega (arith, rise.0, less)) ∙ low_none (o.0 + 1) top n os rise.1 (omega (arith, rise.0, less))

-- the entries of those that put something
puts_each : (low top n : ℕ) (os : List (ℕ × Entry)) → OpenRise low os top → entry_of n (puts_done os) ≡ put_done (entry_of n os)
puts_each low top n [] rise = refl
puts_each low top n ((m, Puts []) ∷ os) rise = from (eqb_tells m n) (puts_each (m + 1) top n os rise.1)
  where
    from : Tells m n → entry_of n (puts_done os) ≡ put_done (entry_of n os) → entry_of n (puts_done os) ≡ put_done (entry_of n ((m, Puts []) ∷ os))
    from (inl same) rest = rest ∙ (ap put_done (low_none (m + 1) top n os rise.1 (omega (arith, same.1))) ∙ sym (ap put_done (here_of n m (Puts []) os same.1)))
    from (inr other) rest = rest ∙ sym (ap put_done (other_of n m (Puts []) os other.1))
puts_each low top n ((m, Puts (e ∷ events)) ∷ os) rise = from (eqb_tells m n) (puts_each (m + 1) top n os rise.1)
  where
    from : Tells m n → entry_of n (puts_done os) ≡ put_done (entry_of n os) → entry_of n ((m, Puts (e ∷ events)) ∷ puts_done os) ≡ put_done (entry_of n ((m, Puts (e ∷ events)) ∷ os))
    from (inl same) rest = here_of n m (Puts (e ∷ events)) (puts_done os) same.1 ∙ sym (ap put_done (here_of n m (Puts (e ∷ events)) os same.1))
    from (inr other) rest = other_of n m (Puts (e ∷ events)) (puts_done os) other.1 ∙ (rest ∙ sym (ap put_done (other_of n m (Puts (e ∷ events)) os other.1)))
puts_each low top n ((m, Takes numbers) ∷ os) rise = from (eqb_tells m n) (puts_each (m + 1) top n os rise.1)
  where
    from : Tells m n → entry_of n (puts_done os) ≡ put_done (entry_of n os) → entry_of n (puts_done os) ≡ put_done (entry_of n ((m, Takes numbers) ∷ os))
    from (inl same) rest = rest ∙ (ap put_done (low_none (m + 1) top n os rise.1 (omega (arith, same.1))) ∙ sym (ap put_done (here_of n m (Takes numbers) os same.1)))
    from (inr other) rest = rest ∙ sym (ap put_done (other_of n m (Takes numbers) os other.1))

-- and of those that took something
takes_each : (low top n : ℕ) (os : List (ℕ × Entry)) → OpenRise low os top → entry_of n (takes_done os) ≡ take_done (entry_of n os)
takes_each low top n [] rise = refl
takes_each low top n ((m, Takes []) ∷ os) rise = from (eqb_tells m n) (takes_each (m + 1) top n os rise.1)
  where
    from : Tells m n → entry_of n (takes_done os) ≡ take_done (entry_of n os) → entry_of n (takes_done os) ≡ take_done (entry_of n ((m, Takes []) ∷ os))
    from (inl same) rest = rest ∙ (ap take_done (low_none (m + 1) top n os rise.1 (omega (arith, same.1))) ∙ sym (ap take_done (here_of n m (Takes []) os same.1)))
    from (inr other) rest = rest ∙ sym (ap take_done (other_of n m (Takes []) os other.1))
takes_each low top n ((m, Takes (k ∷ numbers)) ∷ os) rise = from (eqb_tells m n) (takes_each (m + 1) top n os rise.1)
  where
    from : Tells m n → entry_of n (takes_done os) ≡ take_done (entry_of n os) → entry_of n ((m, Takes (k ∷ numbers)) ∷ takes_done os) ≡ take_done (entry_of n ((m, Takes (k ∷ numbers)) ∷ os))
    from (inl same) rest = here_of n m (Takes (k ∷ numbers)) (takes_done os) same.1 ∙ sym (ap take_done (here_of n m (Takes (k ∷ numbers)) os same.1))
    from (inr other) rest = other_of n m (Takes (k ∷ numbers)) (takes_done os) other.1 ∙ (rest ∙ sym (ap take_done (other_of n m (Takes (k ∷ numbers)) os other.1)))
takes_each low top n ((m, Puts events) ∷ os) rise = from (eqb_tells m n) (takes_each (m + 1) top n os rise.1)
  where
    from : Tells m n → entry_of n (takes_done os) ≡ take_done (entry_of n os) → entry_of n (takes_done os) ≡ take_done (entry_of n ((m, Puts events) ∷ os))
    from (inl same) rest = rest ∙ (ap take_done (low_none (m + 1) top n os rise.1 (omega (arith, same.1))) ∙ sym (ap take_done (here_of n m (Puts events) os same.1)))
    from (inr other) rest = rest ∙ sym (ap take_done (other_of n m (Puts events) os other.1))

-- the first of two lists that has an entry gives it
abbrev or_of : Option Entry → Option Entry → Option Entry
or_of None other = other
or_of (Some e) other = Some e

entry_of-append : (n : ℕ) (a b : List (ℕ × Entry)) → entry_of n (a ++ b) ≡ or_of (entry_of n a) (entry_of n b)
entry_of-append n [] b = refl
entry_of-append n (o ∷ a) b = from (eqb_tells o.0 n) (entry_of-append n a b)
  where
    from : Tells o.0 n → entry_of n (a ++ b) ≡ or_of (entry_of n a) (entry_of n b) → entry_of n (o ∷ (a ++ b)) ≡ or_of (entry_of n (o ∷ a)) (entry_of n b)
    from (inl same) rest = here_of n o.0 o.1 (a ++ b) same.1 ∙ sym (ap (λ (e : Option Entry). or_of e (entry_of n b)) (here_of n o.0 o.1 a same.1))
    from (inr other) rest = other_of n o.0 o.1 (a ++ b) other.1 ∙ (rest ∙ sym (ap (λ (e : Option Entry). or_of e (entry_of n b)) (other_of n o.0 o.1 a other.1)))

either_done : (e : Option Entry) → or_of (put_done e) (take_done e) ≡ done_of e
either_done None = refl
either_done (Some (Puts [])) = refl
either_done (Some (Puts (e ∷ events))) = refl
either_done (Some (Takes [])) = refl
either_done (Some (Takes (n ∷ numbers))) = refl

-- how many

both_many : (os : List (ℕ × Entry)) → length (puts_done os) + length (takes_done os) ≡ length (busy_ones os)
both_many [] = refl
both_many ((m, Puts []) ∷ os) = both_many os
both_many ((m, Puts (e ∷ events)) ∷ os) = omega (arith, both_many os)
both_many ((m, Takes []) ∷ os) = both_many os
both_many ((m, Takes (n ∷ numbers)) ∷ os) = omega (arith, both_many os)

-- each number once

keys-append : (a b : List (ℕ × Entry)) → keys (a ++ b) ≡ keys a ++ keys b
keys-append [] b = refl
keys-append (o ∷ a) b = ap (λ (l : List ℕ). o.0 ∷ l) (keys-append a b)

both_times : (n : ℕ) (os : List (ℕ × Entry)) → times n (keys (puts_done os)) + times n (keys (takes_done os)) ≤ times n (keys os)
both_times n [] = omega arith
both_times n ((m, Puts []) ∷ os) = omega (arith, both_times n os)
both_times n ((m, Puts (e ∷ events)) ∷ os) = omega (arith, both_times n os)
both_times n ((m, Takes []) ∷ os) = omega (arith, both_times n os)
both_times n ((m, Takes (k ∷ numbers)) ∷ os) = omega (arith, both_times n os)

low_times : (low top n : ℕ) (os : List (ℕ × Entry)) → OpenRise low os top → n < low → times n (keys os) ≡ 0
low_times low top n [] rise less = refl
low_times low top n (o ∷ os) rise less = omega (arith, other_number o.0 n (omega (arith, rise.0, less)), low_times (o.0 + 1) top n os rise.1 (omega (arith, rise.0, less)))

once : (low top n : ℕ) (os : List (ℕ × Entry)) → OpenRise low os top → times n (keys os) ≤ 1
once low top n [] rise = omega arith
once low top n (o ∷ os) rise = from (eqb_tells o.0 n) (once (o.0 + 1) top n os rise.1)
  where
    from : Tells o.0 n → times n (keys os) ≤ 1 → times n (keys (o ∷ os)) ≤ 1
    from (inl same) rest = omega (arith, same_number o.0 n same.1, low_times (o.0 + 1) top n os rise.1 (omega (arith, same.1)))
    from (inr other) rest = omega (arith, other_number o.0 n other.1, rest)

are_apart : (xs : List ℕ) → ((n : ℕ) → times n xs ≤ 1) → AreApart xs
are_apart [] each = tt
are_apart (x ∷ xs) each = (from (among_times x xs), are_apart xs (λ n. omega (arith, each n)))
  where
    from : ((is_among xs x ≡ true) × (1 ≤ times x xs)) ⊎ ((is_among xs x ≡ false) × (times x xs ≡ 0)) → is_among xs x ≡ false
    from (inl there) = absurd (omega (arith, each x, there.1, same_number x x refl))
    from (inr none) = none.0

-- what is true of each

all_both : (P : ℕ × Entry → Type 0) (a b : List (ℕ × Entry)) → AllByRecursion P a → AllByRecursion P b → AllByRecursion P (a ++ b)
all_both P [] b first later = later
all_both P (o ∷ a) b first later = (first.0, all_both P a b first.1 later)

puts_some : (os : List (ℕ × Entry)) → AllByRecursion (λ o. IsNotEmpty o.1) (puts_done os)
puts_some [] = tt
puts_some ((m, Puts []) ∷ os) = puts_some os
puts_some ((m, Puts (e ∷ events)) ∷ os) = (omega arith, puts_some os)
puts_some ((m, Takes numbers) ∷ os) = puts_some os

takes_some : (os : List (ℕ × Entry)) → AllByRecursion (λ o. IsNotEmpty o.1) (takes_done os)
takes_some [] = tt
takes_some ((m, Puts events) ∷ os) = takes_some os
takes_some ((m, Takes []) ∷ os) = takes_some os
takes_some ((m, Takes (n ∷ numbers)) ∷ os) = (omega arith, takes_some os)

puts_below : (low top : ℕ) (os : List (ℕ × Entry)) → OpenRise low os top → AllByRecursion (λ o. o.0 < top) (puts_done os)
puts_below low top [] rise = tt
puts_below low top ((m, Puts []) ∷ os) rise = puts_below (m + 1) top os rise.1
puts_below low top ((m, Puts (e ∷ events)) ∷ os) rise = (omega (arith, open_within (m + 1) top os rise.1), puts_below (m + 1) top os rise.1)
puts_below low top ((m, Takes numbers) ∷ os) rise = puts_below (m + 1) top os rise.1

takes_below : (low top : ℕ) (os : List (ℕ × Entry)) → OpenRise low os top → AllByRecursion (λ o. o.0 < top) (takes_done os)
takes_below low top [] rise = tt
takes_below low top ((m, Puts events) ∷ os) rise = takes_below (m + 1) top os rise.1
takes_below low top ((m, Takes []) ∷ os) rise = takes_below (m + 1) top os rise.1
takes_below low top ((m, Takes (n ∷ numbers)) ∷ os) rise = (omega (arith, open_within (m + 1) top os rise.1), takes_below (m + 1) top os rise.1)

-- the state has a start, with each open transaction that did something
pub state_has_start : StateHasStart
state_has_start settled known p s looks =
    let rise = looks.sound.opened in
    let a = puts_done s.opened in
    let b = takes_done s.opened in
    record {
      each = λ n.
          entry_of-append n a b
          ∙ (ap (λ (e : Option Entry). or_of e (entry_of n b)) (puts_each 0 s.txn n s.opened rise)
          ∙ (ap (λ (e : Option Entry). or_of (put_done (entry_of n s.opened)) e) (takes_each 0 s.txn n s.opened rise)
          ∙ either_done (entry_of n s.opened)));
      as_many = length-append a b ∙ both_many s.opened;
      apart = are_apart (keys (a ++ b)) (λ n. omega (arith, ap (λ (l : List ℕ). times n l) (keys-append a b), times-append n (keys a) (keys b), both_times n s.opened, once 0 s.txn n s.opened rise));
      some = all_both (λ o. IsNotEmpty o.1) a b (puts_some s.opened) (takes_some s.opened);
      below = all_both (λ o. o.0 < s.txn) a b (puts_below 0 s.txn s.opened rise) (takes_below 0 s.txn s.opened rise);
    }
