-- What is kept over some places is kept over more of them.
use Rattle.std.proofs.Common.{inl, inr, ◌≡◌, ◌∷◌, [], ℕ, List, Option, Some, None, Bool, true, false, refl, sym}
use Rattle.event_core.specs.Content.{Content}
use Rattle.event_core.specs.Journal.{left}
use Rattle.event_core.specs.declared.journal.Entry.{Entry}
use Rattle.event_core.specs.declared.journal.Entry.TheVariants as entries
use Rattle.record_form.specs.declared.record.Pointer.{Pointer}
use Rattle.record_form.specs.declared.record.Rec.{Rec}
use Rattle.record_form.specs.declared.record.Rec.TheVariants.{CommitPut, CommitTake, End, Put, Rollback, Take}
use Rattle.record_form.specs.Outlines.{outline_of}
use Rattle.event_ring.specs.Slots.{Left}
use Rattle.open_table.specs.Tables.{Listed, Open, Puts, Takes, open_at}
use Rattle.channel_replay.specs.Marks.{Past, journal, opened}
use Rattle.channel_replay.specs.Start.{Start}
use Rattle.ring_replay.specs.declared.indexing.Indexing.{Indexing}
use Rattle.ring_replay.specs.Indexing.{ArePlaced, AreSized, GoesOn, HasEntry, HasItems, IsKept, IsListed, Keeps, Places, StandsAt, outline_length}

are_wider : (q : Pointer × Content) (places : Places) (pointers : List Pointer) (events : List Content) → ArePlaced places pointers events → ArePlaced (q ∷ places) pointers events
are_wider q places [] [] are = tt
are_wider q places [] (event ∷ events) are = absurd are
are_wider q places (p ∷ pointers) [] are = absurd are
are_wider q places (p ∷ pointers) (event ∷ events) are = (inr are.0, are_wider q places pointers events are.1)

items_wider : (q : Pointer × Content) (places : Places) (live : List Left) (items : List (ℕ × Content)) → HasItems places live items → HasItems (q ∷ places) live items
items_wider q places [] [] has = tt
items_wider q places [] (item ∷ items) has = absurd has
items_wider q places (l ∷ live) [] has = absurd has
items_wider q places (l ∷ live) (item ∷ items) has = (has.0, inr has.1, items_wider q places live items has.2)

entry_wider : (q : Pointer × Content) (places : Places) (o : Option Open) (entry : Option Entry) → HasEntry places o entry → HasEntry (q ∷ places) o entry
entry_wider q places None None has = tt
entry_wider q places None (Some entry) has = absurd has
entry_wider q places (Some o) None has = absurd has
entry_wider q places (Some o) (Some entry) has = by_list o.listed entry has
  where
    by_list : (l : Listed) (entry : Entry) → IsListed places l entry → IsListed (q ∷ places) l entry
    by_list (Puts pointers) (entries.Puts events) has = are_wider q places pointers events has
    by_list (Puts pointers) (entries.Takes numbers) has = absurd has
    by_list (Takes numbers) (entries.Puts events) has = absurd has
    by_list (Takes numbers) (entries.Takes others) has = has

-- One place more changes nothing of what is kept.
pub keeps_wider : (q : Pointer × Content) (places : Places) (s : Start) (past : Past) (r : Indexing) → Keeps places s past r → Keeps (q ∷ places) s past r
keeps_wider q places s past r keeps = record {
  items = items_wider q places r.ring.live (left s.base (journal past)) keeps.items;
  held = keeps.held;
  slots = keeps.slots;
  top = keeps.top;
  number = keeps.number;
  txn = keeps.txn;
  each = λ t. entry_wider q places (open_at r.table t) (opened t past) (keeps.each t);
  as_many = keeps.as_many;
  taken = keeps.taken;
}

-- some places, over which what is kept stays so, and of which that of a record is one
record HasPlace (P : Places → Type 0) (s : Start) (past : Past) (r : Indexing) : Type 0 where
  pub places : Places
  pub keeps : Keeps places s past r
  pub stands : P places
  pub sized : AreSized places

rec_stands : (place : Pointer) (rec : Rec) (places : Places) (s : Start) (past : Past) (r : Indexing) → Keeps places s past r → AreSized places → place.length ≡ outline_length (outline_of rec) → HasPlace (λ more. StandsAt more place rec) s past r
rec_stands place (Put txn event) places s past r keeps sized long = record { places = (place, event) ∷ places; keeps = keeps_wider (place, event) places s past r keeps; stands = inl (refl, refl); sized = (sym long, sized) }
rec_stands place (Take txn number) places s past r keeps sized long = record { places = places; keeps = keeps; stands = tt; sized = sized }
rec_stands place (Rollback txn) places s past r keeps sized long = record { places = places; keeps = keeps; stands = tt; sized = sized }
rec_stands place (CommitPut txn first count) places s past r keeps sized long = record { places = places; keeps = keeps; stands = tt; sized = sized }
rec_stands place (CommitTake txn count) places s past r keeps sized long = record { places = places; keeps = keeps; stands = tt; sized = sized }
rec_stands place (End count) places s past r keeps sized long = record { places = places; keeps = keeps; stands = tt; sized = sized }

-- What a legal record leads to is kept of some marks again.
pub rec_kept : (legal : Bool) (place : Pointer) (rec : Rec) (old new : Indexing) → IsKept old → place.length ≡ outline_length (outline_of rec) → GoesOn legal old place rec new → legal ≡ true → IsKept new
rec_kept true place rec old new kept long goes is =
    let h = rec_stands place rec kept.0 kept.1 kept.2 old kept.3 kept.4 long in
    (h.places, kept.1, _, (goes h.places kept.1 kept.2 h.stands h.keeps).1, h.sized)
rec_kept false place rec old new kept long goes is = absurd (let e : false ≡ true = is in cc)
