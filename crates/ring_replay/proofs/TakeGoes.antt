-- A take, whole.
use Rattle.std.proofs.Common.{◌⊎◌, inl, inr, ◌≡◌, ◌≢◌, ◌≤◌, ◌+◌, ◌∷◌, [], ℕ, List, length, max, Some, None, Bool, true, false, ◌==◌, ◌||◌, cond, refl, sym, ◌∙◌, ap, subst, arith}
use Rattle.std.proofs.lemmas.Bool.Decides.{eqb_tells}
use Rattle.std.proofs.lemmas.List.{append-nil}
use Rattle.event_core.specs.Journal.{is_among, left, next}
use Rattle.record_form.specs.declared.record.Pointer.{Pointer}
use Rattle.record_form.specs.declared.record.Rec.{Rec}
use Rattle.record_form.specs.declared.record.Rec.TheVariants.{Take}
use Rattle.event_core.specs.declared.journal.Entry.{Entry}
use Rattle.event_ring.specs.Slots.{Index, IsLive, Left, look_at, marked}
use Rattle.open_table.specs.Tables.{HasAt, Table, added, is_puts, open_at}
use Rattle.open_table.specs.declared.table.Item.TheVariants as items
use Rattle.ring_replay.specs.declared.indexing.Indexing.{Indexing}
use Rattle.ring_replay.specs.Indexing.{GoesOn, HasEntry, HasItems, IsBarred, IsOpened, Keeps, Places, free_of, listed_or}
use Rattle.channel_replay.specs.Marks.{Applied, IsHeld, Past, journal, numbers_of, open_txns, opened, opened_by}
use Rattle.channel_replay.specs.Rules.{IsTake, IsTxn, MayGoOn}
use Rattle.channel_replay.specs.Start.{Start}
use Rattle.ring_replay.proofs.Going.{added_count, each_changed, joined_at, same_some}
use Rattle.channel_replay.proofs.Keys.{Tells}
use Rattle.ring_replay.proofs.Looking.{IsFree, looked_free, looked_taken, marked_held, marked_items}
use Rattle.channel_replay.proofs.Numbers.{or_among}
use Rattle.ring_replay.proofs.Taken.{take_taken, took}
use Rattle.ring_replay.proofs.Taking.{may_not_take, may_take, take_listed}

free_one : (places : Places) (s : Start) (past : Past) (r : Indexing) (number : ℕ) → Keeps places s past r → free_of (look_at number r.ring.live) ≡ true → IsFree (IsHeld past) r.ring.live (left s.base (journal past)) number
free_one places s past r number keeps free = looked_free (IsHeld past) places r.ring.live (left s.base (journal past)) number keeps.items keeps.held free

-- the transaction holds the number then
holds_it : (past : Past) (txn number : ℕ) → IsHeld (Applied (Take txn number) ∷ past) number
holds_it past txn number = (txn, from (eqb_tells txn txn))
  where
    or_true : (b c : Bool) → c ≡ true → (b || (c || false)) ≡ true
    or_true true c is = refl
    or_true false c is = rw is refl

    itself : Tells number number → (number == number) ≡ true
    itself (inl same) = same.0
    itself (inr other) = absurd (other.1 refl)

    from : Tells txn txn → is_among (numbers_of (cond (txn == txn) (opened_by (Take txn number) (opened txn past)) (opened txn past))) number ≡ true
    from (inl same) = rw same.0 (or_among (numbers_of (opened txn past)) (number ∷ []) number ∙ or_true (is_among (numbers_of (opened txn past)) number) (number == number) (itself (eqb_tells number number)))
    from (inr other) = absurd (other.1 refl)

-- and others as before
holds_others : (past : Past) (txn number n : ℕ) → n ≢ number → (IsHeld past n → IsHeld (Applied (Take txn number) ∷ past) n) × (IsHeld (Applied (Take txn number) ∷ past) n → IsHeld past n)
holds_others past txn number n other = (λ h. (h.0, to h.0 (eqb_tells txn h.0) h.1), λ h. (h.0, from h.0 (took past txn number h.0 n h.1)))
  where
    or_left : (b c : Bool) → b ≡ true → (b || c) ≡ true
    or_left true c is = refl
    or_left false c is = absurd (let e : false ≡ true = is in cc)

    to : (t : ℕ) → Tells txn t → is_among (numbers_of (opened t past)) n ≡ true → is_among (numbers_of (cond (txn == t) (opened_by (Take txn number) (opened t past)) (opened t past))) n ≡ true
    to t (inl same) there = rw same.0 (or_among (numbers_of (opened t past)) (number ∷ []) n ∙ or_left (is_among (numbers_of (opened t past)) n) (is_among (number ∷ []) n) there)
    to t (inr apart) there = rw apart.0 there

    from : (t : ℕ) → (is_among (numbers_of (opened t past)) n ≡ true) ⊎ ((txn ≡ t) × (number ≡ n)) → is_among (numbers_of (opened t past)) n ≡ true
    from t (inl there) = there
    from t (inr new) = absurd (other (sym new.1))

-- a take of a free event is applied
pub take_goes : (txn number : ℕ) (place : Pointer) (old new : Indexing) (mid : Table) → IsTxn txn → free_of (look_at number old.ring.live) ≡ true → IsOpened false txn old.table mid → HasAt txn (added (items.Take number) (open_at mid txn)) mid new.table → length new.table ≡ length mid
    → new.ring ≡ record old.ring { live = marked number true old.ring.live } → new.slots ≡ old.slots → new.next.number ≡ old.next.number → new.next.txn ≡ max (txn + 1) old.next.txn → GoesOn true old place (Take txn number) new
take_goes txn number place old new mid is free opens put count ring slots number_is above places s past stands keeps =
    let rec : Rec = Take txn number in
    let one = free_one places s past old number keeps free in
    let has : HasEntry places (open_at old.table txn) (opened txn past) = keeps.each txn in
    let may : MayGoOn (length (open_txns past)) (opened txn past) IsTake = may_take places (length (open_txns past)) (open_at old.table txn) (opened txn past) has opens.kind (λ none. omega (arith, opens.may none, keeps.as_many)) in
    let there : open_at mid txn ≡ Some opens.opened = opens.here.here_is in
    let here : HasEntry places (added (items.Take number) (open_at mid txn)) (opened_by rec (opened txn past)) = rw (there, opens.listed) (take_listed places number (open_at old.table txn) (opened txn past) has opens.kind) in
    let same : journal past ≡ journal (Applied rec ∷ past) = sym (append-nil (journal past)) in (
      (is, may, one.left_one, one.not_held),
      record {
        items = rw ring (marked_items places number old.ring.live (left s.base (journal (Applied rec ∷ past))) (subst (λ (j : List Entry). HasItems places old.ring.live (left s.base j)) same keeps.items));
        held = rw ring (marked_held (IsHeld past) (IsHeld (Applied rec ∷ past)) number old.ring.live (holds_it past txn number) (λ n other. holds_others past txn number n other) keeps.held);
        slots = ap (λ (r : Index). r.slots) ring ∙ (keeps.slots ∙ sym slots);
        top = omega (arith, ap (λ (r : Index). r.top) ring, number_is, keeps.top);
        number = number_is ∙ (keeps.number ∙ ap (next s.base) same);
        txn = omega (arith, above, keeps.txn);
        each = each_changed places past rec old.table new.table (added (items.Take number) (open_at mid txn)) keeps.each (joined_at txn (Some opens.opened) (added (items.Take number) (open_at mid txn)) old.table mid new.table opens.here put) here;
        as_many = count ∙ (opens.count ∙ added_count past txn (length old.table) (open_at old.table txn) (same_some places (open_at old.table txn) (opened txn past) has) keeps.as_many);
        taken = take_taken s past txn number keeps.taken (is, may, one.left_one, one.not_held);
      },
    )

-- a take that is barred by the table is not legal
pub take_barred : (txn number : ℕ) (place : Pointer) (old new : Indexing) → IsBarred false txn old.table → GoesOn false old place (Take txn number) new
take_barred txn number place old new barred places s past stands keeps legal =
    may_not_take places (length (open_txns past)) (open_at old.table txn) (opened txn past) (keeps.each txn) (fewer barred) legal.1
  where
    fewer : (is_puts (listed_or false (open_at old.table txn)) ≡ true) ⊎ ((open_at old.table txn ≡ None) × (1024 ≤ length old.table)) → (is_puts (listed_or false (open_at old.table txn)) ≡ true) ⊎ ((open_at old.table txn ≡ None) × (1024 ≤ length (open_txns past)))
    fewer (inl kind) = inl kind
    fewer (inr full) = inr (full.0, omega (arith, full.1, keeps.as_many))

-- a take of an event that is not free is not legal
pub take_refused : (txn number : ℕ) (place : Pointer) (old new : Indexing) → free_of (look_at number old.ring.live) ≡ false → GoesOn false old place (Take txn number) new
take_refused txn number place old new free places s past stands keeps legal = legal.3 (looked_taken (IsHeld past) places old.ring.live (left s.base (journal past)) number keeps.items keeps.held free legal.2)

-- an event that is free is there
pub free_live : (live : List Left) (number : ℕ) → free_of (look_at number live) ≡ true → IsLive live number
free_live [] number free = absurd (let e : false ≡ true = free in cc)
free_live (l ∷ live) number free = from (eqb_tells l.number number) free (free_live live number)
  where
    from : Tells l.number number → free_of (cond (l.number == number) (Some (l.pointer, l.held)) (look_at number live)) ≡ true → (free_of (look_at number live) ≡ true → IsLive live number) → (l.number ≡ number) ⊎ IsLive live number
    from (inl same) is rest = inl same.1
    from (inr other) is rest = inr (rest (rw other.0 at is))
