-- The places of the events of a right checkpoint.
use Rattle.std.proofs.Common.{inl, inr, ◌≡◌, ◌++◌, ◌∷◌, [], ℕ, List, map, Option, Some, None, refl, subst}
use Rattle.std.specs.Prelude.{IsSomeAnd}
use Rattle.flume_host.specs.Folder.{Files}
use Rattle.flume_host.specs.declared.names.FileName.TheVariants.{Log}
use Rattle.event_core.specs.Content.{Content}
use Rattle.event_core.specs.declared.journal.Entry.{Entry}
use Rattle.event_core.specs.declared.journal.Entry.TheVariants.{Puts, Takes}
use Rattle.event_ring.specs.Slots.{Left}
use Rattle.record_form.specs.declared.record.Pointer.{Pointer}
use Rattle.record_form.specs.declared.record.Rec.TheVariants.{CommitPut, CommitTake, End, Put, Rollback, Take}
use Rattle.record_form.specs.Pointers.{PutAt}
use Rattle.channel_replay.specs.declared.line.Line.{Line}
use Rattle.channel_replay.specs.declared.line.Line.TheVariants.{Begins, Faulty, Stands}
use Rattle.checkpoint.specs.Right.{EventsAre, IsRight, LiveAre, OpenAre, PutIn}
use Rattle.checkpoint.specs.Says.{live_at}
use Rattle.checkpoint.specs.Stands as checks
use Rattle.checkpoint.specs.Text.{CheckText}
use Rattle.ring_replay.specs.Folder.{puts_of}
use Rattle.ring_replay.specs.Indexing.{ArePlaced, HasItems, IsPlaced, LinesStand, Places}
use Rattle.ring_replay.proofs.Standing.{puts_stand}
use Rattle.checkpoint_replay.specs.Checked.{LivePlaced, OpenPlaced}
use Rattle.checkpoint_replay.specs.Replayed.{AreIn}

-- what is placed in some places is placed in others
abbrev pub Within : Places → Places → Type 0
Within a b = (p : Pointer) (event : Content) → IsPlaced a p event → IsPlaced b p event

-- what is placed in the first of two is placed in both
pub in_first : (a b : Places) → Within a (a ++ b)
in_first [] b p event is = absurd is
in_first (k ∷ a) b p event (inl same) = inl same
in_first (k ∷ a) b p event (inr older) = inr (in_first a b p event older)

-- what is placed in the second of two is placed in both
pub in_second : (a b : Places) → Within b (a ++ b)
in_second [] b p event is = is
in_second (k ∷ a) b p event is = inr (in_second a b p event is)

-- the events that are left stay placed among more places
pub live_within : (a b : Places) (live : List (ℕ × Pointer)) (items : List (ℕ × Content)) → Within a b → LivePlaced a live items → LivePlaced b live items
live_within a b [] [] within are = tt
live_within a b [] (item ∷ items) within are = are
live_within a b (l ∷ live) [] within are = are
live_within a b (l ∷ live) (item ∷ items) within are = (are.0, within l.1 item.1 are.1, live_within a b live items within are.2)

events_within : (a b : Places) (pointers : List Pointer) (events : List Content) → Within a b → ArePlaced a pointers events → ArePlaced b pointers events
events_within a b [] [] within are = tt
events_within a b [] (event ∷ events) within are = are
events_within a b (p ∷ pointers) [] within are = are
events_within a b (p ∷ pointers) (event ∷ events) within are = (within p event are.0, events_within a b pointers events within are.1)

-- the events of what is open stay placed among more places
pub open_within : (a b : Places) (puts : List (ℕ × List Pointer)) (takes : List (ℕ × List ℕ)) (opened : List (ℕ × Entry)) → Within a b → OpenPlaced a puts takes opened → OpenPlaced b puts takes opened
open_within a b (o ∷ puts) takes [] within are = are
open_within a b (o ∷ puts) takes ((txn, Puts events) ∷ opened) within are = (are.0, events_within a b o.1 events within are.1, open_within a b puts takes opened within are.2)
open_within a b (o ∷ puts) takes ((txn, Takes numbers) ∷ opened) within are = are
open_within a b [] (o ∷ takes) [] within are = are
open_within a b [] (o ∷ takes) ((txn, Puts events) ∷ opened) within are = are
open_within a b [] (o ∷ takes) ((txn, Takes numbers) ∷ opened) within are = (are.0, are.1, open_within a b [] takes opened within are.2)
open_within a b [] [] [] within are = tt
open_within a b [] [] ((txn, Puts events) ∷ opened) within are = are
open_within a b [] [] ((txn, Takes numbers) ∷ opened) within are = are

lines_within : (a b : Places) (found : List Line) → Within a b → LinesStand a found → LinesStand b found
lines_within a b [] within stand = tt
lines_within a b (Begins ∷ more) within stand = lines_within a b more within stand
lines_within a b (Faulty file at ∷ more) within stand = lines_within a b more within stand
lines_within a b (Stands file at (Put txn event) ∷ more) within stand = (within _ event stand.0, lines_within a b more within stand.1)
lines_within a b (Stands file at (Take txn number) ∷ more) within stand = lines_within a b more within stand
lines_within a b (Stands file at (Rollback txn) ∷ more) within stand = lines_within a b more within stand
lines_within a b (Stands file at (CommitPut txn first count) ∷ more) within stand = lines_within a b more within stand
lines_within a b (Stands file at (CommitTake txn count) ∷ more) within stand = lines_within a b more within stand
lines_within a b (Stands file at (End count) ∷ more) within stand = lines_within a b more within stand

-- the PUTs of lines stand at their places, after others
pub stand_behind : (places : Places) (found : List Line) → LinesStand (places ++ puts_of found) found
stand_behind places found = lines_within (puts_of found) (places ++ puts_of found) found (in_second places (puts_of found)) (puts_stand found)

-- the events that stand in a folder

abbrev live_places : List (ℕ × Pointer) → List (ℕ × Content) → Places
live_places [] items = []
live_places (l ∷ live) [] = []
live_places (l ∷ live) (item ∷ items) = (l.1, item.1) ∷ live_places live items

abbrev put_places : List Pointer → List Content → Places
put_places [] events = []
put_places (p ∷ pointers) [] = []
put_places (p ∷ pointers) (event ∷ events) = (p, event) ∷ put_places pointers events

abbrev open_places : List (ℕ × List Pointer) → List (ℕ × Entry) → Places
open_places [] opened = []
open_places (o ∷ puts) [] = []
open_places (o ∷ puts) ((txn, Puts events) ∷ opened) = put_places o.1 events ++ open_places puts opened
open_places (o ∷ puts) ((txn, Takes numbers) ∷ opened) = []

in_both : (files : Files) (a b : Places) → AreIn files a → AreIn files b → AreIn files (a ++ b)
in_both files [] b first second = second
in_both files (k ∷ a) b first second = (first.0, in_both files a b first.1 second)

module _ (files : Files) where
  put_of_in : (o : Option (List ℕ)) (txn : ℕ) (p : Pointer) (event : Content) → IsSomeAnd o (λ bytes. (at : PutAt bytes p event) × (at.txn ≡ txn)) → IsSomeAnd o (λ bytes. PutAt bytes p event)
  put_of_in None txn p event is = is
  put_of_in (Some bytes) txn p event is = is.0

  live_in : (live : List (ℕ × Pointer)) (items : List (ℕ × Content)) → LiveAre files live items → AreIn files (live_places live items) × LivePlaced (live_places live items) live items
  live_in [] [] are = (tt, tt)
  live_in [] (item ∷ items) are = absurd are
  live_in (l ∷ live) [] are = absurd are
  live_in (l ∷ live) (item ∷ items) are =
      let rest = live_in live items are.2 in
      ((are.1, rest.0), (are.0, inl (refl, refl), live_within (live_places live items) ((l.1, item.1) ∷ live_places live items) live items (λ p event is. inr is) rest.1))

  events_in : (txn : ℕ) (pointers : List Pointer) (events : List Content) → EventsAre files txn pointers events → AreIn files (put_places pointers events) × ArePlaced (put_places pointers events) pointers events
  events_in txn [] [] are = (tt, tt)
  events_in txn [] (event ∷ events) are = absurd are
  events_in txn (p ∷ pointers) [] are = absurd are
  events_in txn (p ∷ pointers) (event ∷ events) are =
      let rest = events_in txn pointers events are.1 in
      ((put_of_in (files (Log p.file)) txn p event are.0, rest.0), (inl (refl, refl), events_within (put_places pointers events) ((p, event) ∷ put_places pointers events) pointers events (λ q e is. inr is) rest.1))

  open_in : (puts : List (ℕ × List Pointer)) (takes : List (ℕ × List ℕ)) (opened : List (ℕ × Entry)) → OpenAre files puts takes opened → AreIn files (open_places puts opened) × OpenPlaced (open_places puts opened) puts takes opened
  open_in (o ∷ puts) takes [] are = absurd are
  open_in (o ∷ puts) takes ((txn, Puts events) ∷ opened) are =
      let here = events_in txn o.1 events are.1 in
      let rest = open_in puts takes opened are.2 in
      let a : Places = put_places o.1 events in
      let b : Places = open_places puts opened in
      (in_both files a b here.0 rest.0, (are.0, events_within a (a ++ b) o.1 events (in_first a b) here.1, open_within b (a ++ b) puts takes opened (in_second a b) rest.1))
  open_in (o ∷ puts) takes ((txn, Takes numbers) ∷ opened) are = absurd are
  open_in [] (o ∷ takes) [] are = absurd are
  open_in [] (o ∷ takes) ((txn, Puts events) ∷ opened) are = absurd are
  open_in [] (o ∷ takes) ((txn, Takes numbers) ∷ opened) are = (tt, (are.0, are.1, (open_in [] takes opened are.2).1))
  open_in [] [] [] are = (tt, tt)
  open_in [] [] ((txn, Puts events) ∷ opened) are = absurd are
  open_in [] [] ((txn, Takes numbers) ∷ opened) are = absurd are

-- places at which all events of a right checkpoint stand
pub record PlacesOf (files : Files) (c : CheckText) (left : List (ℕ × Content)) (opened : List (ℕ × Entry)) : Type 0 where
  pub places : Places
  pub within : AreIn files places
  pub live : LivePlaced places c.live left
  pub opens : OpenPlaced places c.puts c.takes opened

-- a right checkpoint has places at which all its events stand
pub places_of : (files : Files) (c : CheckText) (left : List (ℕ × Content)) (opened : List (ℕ × Entry)) → IsRight files c left opened → PlacesOf files c left opened
places_of files c left opened right =
    let live = live_in files c.live left right.live in
    let open' = open_in files c.puts c.takes opened right.opens in
    let a : Places = live_places c.live left in
    let b : Places = open_places c.puts opened in
    record {
      places = a ++ b;
      within = in_both files a b live.0 open'.0;
      live = live_within a (a ++ b) c.live left (in_first a b) live.1;
      opens = open_within b (a ++ b) c.puts c.takes opened (in_second a b) open'.1;
    }

-- A ring of events at such places has each with a pointer at which its PUT stands.
pub ring_in : (files : Files) (places : Places) (live : List Left) (items : List (ℕ × Content)) → ((p : Pointer) (event : Content) → IsPlaced places p event → PutIn files p event) → HasItems places live items → LiveAre files (map live_at live) items
ring_in files places [] [] within has = tt
ring_in files places [] (item ∷ items) within has = has
ring_in files places (l ∷ live) [] within has = has
ring_in files places (l ∷ live) (item ∷ items) within has = (has.0, within l.pointer item.1 has.1, ring_in files places live items within has.2)

-- where places stand in a folder, the PUT of each event placed there is in its file
pub placed_in : (files : Files) (places : Places) (p : Pointer) (event : Content) → AreIn files places → IsPlaced places p event → PutIn files p event
placed_in files [] p event all is = absurd is
placed_in files (k ∷ places) p event all (inl same) = subst (λ (q : Pointer). PutIn files q event) same.0 (subst (λ (e : Content). PutIn files k.0 e) same.1 all.0)
placed_in files (k ∷ places) p event all (inr older) = placed_in files places p event all.1 older

-- places of both kinds
pub either_in : (files : Files) (a b : Places) (p : Pointer) (event : Content) → AreIn files a → ((q : Pointer) (e : Content) → IsPlaced b q e → PutIn files q e) → IsPlaced (a ++ b) p event → PutIn files p event
either_in files [] b p event all others is = others p event is
either_in files (k ∷ a) b p event all others (inl same) = placed_in files (k ∷ a) p event all (inl same)
either_in files (k ∷ a) b p event all others (inr older) = either_in files a b p event all.1 others older

-- what is right for a folder is in order by itself
pub right_ordered : (files : Files) (c : CheckText) (left : List (ℕ × Content)) (opened : List (ℕ × Entry)) → IsRight files c left opened → checks.IsOrdered c
right_ordered files c left opened right = record {
  numbers = right.numbers;
  next = right.next;
  put_txns = right.put_txns;
  take_txns = right.take_txns;
  apart = right.apart;
  few = right.few;
  some_puts = right.some_puts;
  some_takes = right.some_takes;
  held = right.held;
  few_live = right.few_live;
  puts_fit = right.puts_fit;
  takes_fit = right.takes_fit;
}
