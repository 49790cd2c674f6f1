-- A checkpoint of places says what the state has.
use Rattle.std.proofs.Common.{◌≡◌, ◌≤◌, ◌^◌, [], ℕ, List, map, None, refl, sym, ap, arith}
use Rattle.event_core.specs.declared.journal.Entry.{Entry}
use Rattle.event_ring.specs.Slots.{Left}
use Rattle.open_table.specs.Tables.{open_at}
use Rattle.channel_face.specs.Machine.{entry_of}
use Rattle.channel_places.specs.Looks.{OpenRise}
use Rattle.channel_places.proofs.Looking.{none_open}
use Rattle.checkpoint.specs.Says.{AreListed, live_at, puts_at, puts_in, takes_at, takes_in}
use Rattle.checkpoint_places.specs.Laws.{PlacesAreSaid}
use Rattle.checkpoint_places.specs.Texts.{listed_by}
use Rattle.checkpoint_places.proofs.Listing.{listed_each, listed_rise, listed_some}

are_listed : {A : Type 0} (of : ℕ → List A) (os : List (ℕ × Entry)) (top : ℕ) → OpenRise 0 os top → top ≤ 2 ^ 64 → ((n : ℕ) → entry_of n os ≡ None → of n ≡ []) → AreListed of (listed_by of os)
are_listed of os top rise low none = record {
  rise = listed_rise of 0 (2 ^ 64) top os rise low;
  some = listed_some of os;
  each = λ n. listed_each of 0 top n os rise (none n);
}

-- a checkpoint of places says what the ring and the table have, and no more
pub places_are_said : PlacesAreSaid
places_are_said settled known p s place ring looks low live = record {
  place_is = refl;
  next_is = refl;
  live = sym (ap (λ (l : List Left). map live_at l) live);
  puts = are_listed (puts_at p.opened) s.opened s.txn looks.sound.opened (omega (arith, low)) (λ n none. ap puts_in (not_open n none));
  takes = are_listed (takes_at p.opened) s.opened s.txn looks.sound.opened (omega (arith, low)) (λ n none. ap takes_in (not_open n none));
}
  where
    not_open : (n : ℕ) → entry_of n s.opened ≡ None → open_at p.opened n ≡ None
    not_open n none = none_open known s.rules.limits.txn_capacity (open_at p.opened n) (entry_of n s.opened) (looks.opened n) none
