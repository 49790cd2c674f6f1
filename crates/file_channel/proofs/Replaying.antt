-- What an opening left stands at the pointers of its ring.
use Rattle.std.proofs.Common.{◌⊎◌, inl, inr, ◌≡◌, ◌≤◌, ◌+◌, ◌++◌, ◌∷◌, [], ℕ, List, length, map, Option, Some, None, Result, Ok, Err, false, refl, sym, ◌∙◌, ap, subst, arith}
use Rattle.std.specs.Prelude.{IfOk, IsSomeAnd}
use Rattle.std.specs.List.{AllByRecursion}
use Rattle.flume_host.specs.Folder.{Files}
use Rattle.flume_host.specs.declared.names.FileName.TheVariants.{Log}
use Rattle.event_core.specs.Content.{Content, size}
use Rattle.event_core.specs.Journal.{Base, IsBase}
use Rattle.record_form.specs.declared.record.Pointer.{Pointer}
use Rattle.event_ring.specs.Slots.{Left}
use Rattle.record_form.specs.Pointers.{PutAt}
use Rattle.channel_places.specs.Looks.{Known, LookLeft, StandsIn}
use Rattle.channel_places.proofs.Looking.{left_length}
use Rattle.channel_face.specs.Sound.{Rising}
use Rattle.channel_face.proofs.Numbers.{base_rising, rising_base}
use Rattle.checkpoint.specs.Right.{LiveAre}
use Rattle.checkpoint.specs.Says.{live_at}
use Rattle.ring_replay.specs.Indexing.{AreSized, HasItems, IsPlaced, Places}

-- a record that stands at its place is known there
pub placed_known : (places : Places) (p : Pointer) (event : Content) → IsPlaced places p event → StandsIn places p event
placed_known [] p event is = is
placed_known (k ∷ places) p event (inl both) = inl (ap (λ (q : Pointer). let pair : Pointer × Content = (q, k.1) in pair) both.0 ∙ ap (λ (e : Content). let pair : Pointer × Content = (p, e) in pair) both.1)
placed_known (k ∷ places) p event (inr older) = inr (placed_known places p event older)

-- the events of a ring, of which none is held
pub items_look : (places : Places) (live : List Left) (items : List (ℕ × Content)) → HasItems places live items → AllByRecursion (λ (l : Left). l.held ≡ false) live → LookLeft places [] live items
items_look places [] [] has free = tt
items_look places [] (item ∷ items) has free = has
items_look places (l ∷ live) [] has free = has
items_look places (l ∷ live) (item ∷ items) has free = ((has.0, free.0, placed_known places l.pointer item.1 has.1), items_look places live items has.2 free.1)

-- the numbers of a ring are those of whatever events it has
same_rising : (places others : Places) (live : List Left) (a b : List (ℕ × Content)) (low first : ℕ) → HasItems places live a → HasItems others live b → Rising low a first → Rising low b first
same_rising places others [] [] [] low first has had rising = rising
same_rising places others [] (x ∷ a) b low first has had rising = absurd has
same_rising places others [] [] (y ∷ b) low first has had rising = absurd had
same_rising places others (l ∷ live) [] b low first has had rising = absurd has
same_rising places others (l ∷ live) (x ∷ a) [] low first has had rising = absurd had
same_rising places others (l ∷ live) (x ∷ a) (y ∷ b) low first has had rising =
    let same : x.0 ≡ y.0 = sym has.0 ∙ had.0 in
    (omega (arith, rising.0, same), same_rising places others live a b (y.0 + 1) first has.2 had.2 (subst (λ (n : ℕ). Rising (n + 1) a first) same rising.1))

-- where a ring with some events is a base, it is one with others, too
pub same_base : (places others : Places) (live : List Left) (base other : Base) → HasItems places live base.items → HasItems others live other.items → base.first ≡ other.first → IsBase base → IsBase other
same_base places others live base other has had same is =
    base_rising other (subst (λ (n : ℕ). Rising 0 other.items n) same (same_rising places others live base.items other.items 0 base.first has had (rising_base base is)))

-- an event that is known among either of two is known
pub in_either : (a b : Known) (p : Pointer) (event : Content) → StandsIn (a ++ b) p event → StandsIn a p event ⊎ StandsIn b p event
in_either [] b p event is = inr is
in_either (k ∷ a) b p event (inl same) = inl (inl same)
in_either (k ∷ a) b p event (inr older) = from (in_either a b p event older)
  where
    from : StandsIn a p event ⊎ StandsIn b p event → StandsIn (k ∷ a) p event ⊎ StandsIn b p event
    from (inl x) = inl (inr x)
    from (inr y) = inr y

-- the events of a ring, each with its pointer

abbrev pub ring_places : List Left → List (ℕ × Content) → Known
ring_places [] items = []
ring_places (l ∷ live) [] = []
ring_places (l ∷ live) (item ∷ items) = (l.pointer, item.1) ∷ ring_places live items

-- one more event that is known leaves the ring's events known
pub has_more : (k : Pointer × Content) (places : Known) (live : List Left) (items : List (ℕ × Content)) → HasItems places live items → HasItems (k ∷ places) live items
has_more k places [] [] has = has
has_more k places [] (item ∷ items) has = has
has_more k places (l ∷ live) [] has = has
has_more k places (l ∷ live) (item ∷ items) has = (has.0, inr has.1, has_more k places live items has.2)

-- the events of a ring that was read from files are known at its pointers
pub has_ring : (files : Files) (live : List Left) (items : List (ℕ × Content)) → LiveAre files (map live_at live) items → HasItems (ring_places live items) live items
has_ring files [] [] are = tt
has_ring files [] (item ∷ items) are = are
has_ring files (l ∷ live) [] are = are
has_ring files (l ∷ live) (item ∷ items) are = (are.0, inl (refl, refl), has_more (l.pointer, item.1) (ring_places live items) live items (has_ring files live items are.2))

-- The event's PUT stands at the pointer in its file.
pub record InFile (files : Files) (p : Pointer) (event : Content) : Type 0 where
  pub bytes : List ℕ
  pub reads : files (Log p.file) ≡ Some bytes
  pub stands : PutAt bytes p event

in_file : (files : Files) (file : Option (List ℕ)) (p : Pointer) (event : Content) → files (Log p.file) ≡ file → IsSomeAnd file (λ bytes. PutAt bytes p event) → InFile files p event
in_file files None p event is at = absurd at
in_file files (Some bytes) p event is at = record { bytes = bytes; reads = is; stands = at }

-- the PUT of each event of a ring stands in its file
pub ring_stands : (files : Files) (live : List Left) (items : List (ℕ × Content)) (p : Pointer) (event : Content) → LiveAre files (map live_at live) items → StandsIn (ring_places live items) p event → InFile files p event
ring_stands files [] items p event are is = absurd is
ring_stands files (l ∷ live) [] p event are is = absurd is
ring_stands files (l ∷ live) (item ∷ items) p event are (inl same) = subst (λ (k : Pointer × Content). InFile files k.0 k.1) same (in_file files (files (Log l.pointer.file)) l.pointer item.1 refl are.1)
ring_stands files (l ∷ live) (item ∷ items) p event are (inr older) = ring_stands files live items p event are.2 older

-- where the ring's pointers are into files from a number on, so is each that is known
pub ring_from : (least : ℕ) (live : List Left) (items : List (ℕ × Content)) (p : Pointer) (event : Content) → AllByRecursion (λ (l : Left). least ≤ l.pointer.file) live → StandsIn (ring_places live items) p event → least ≤ p.file
ring_from least [] items p event low is = absurd is
ring_from least (l ∷ live) [] p event low is = absurd is
ring_from least (l ∷ live) (item ∷ items) p event low (inl same) = subst (λ (k : Pointer × Content). least ≤ k.0.file) same low.0
ring_from least (l ∷ live) (item ∷ items) p event low (inr older) = ring_from least live items p event low.1 older

-- what follows of a result that is Ok
pub ok_maps : {T E : Type 0} (r : Result T E) (P Q : T → Type 0) → ((x : T) → P x → Q x) → IfOk r P → IfOk r Q
ok_maps (Ok x) P Q maps is = maps x is
ok_maps (Err e) P Q maps is = tt

-- a ring of which none is held has as many entries as events
pub as_many : (places : Places) (live : List Left) (items : List (ℕ × Content)) → HasItems places live items → AllByRecursion (λ (l : Left). l.held ≡ false) live → length live ≡ length items
as_many places live items has free = left_length places [] live items (items_look places live items has free)

-- each place of sized ones has its event's length
pub are_long : (places : Places) → AreSized places → (p : Pointer) (event : Content) → StandsIn places p event → size event ≡ p.length
are_long [] sized p event is = absurd is
are_long (k ∷ places) sized p event (inl same) = subst (λ (pair : Pointer × Content). size pair.1 ≡ pair.0.length) same sized.0
are_long (k ∷ places) sized p event (inr older) = are_long places sized.1 p event older
