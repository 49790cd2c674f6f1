-- A record that is applied to a ring and a table.
use Rattle.std.proofs.Common.{◌⊎◌, inl, inr, ◌≡◌, ◌<◌, ◌≤◌, ◌+◌, ◌++◌, ◌∷◌, [], ℕ, List, length, max, Option, Some, None, is_some, Bool, true, false, ◌==◌, cond, refl, sym, ◌∙◌, ap, subst, arith}
use Rattle.std.specs.List.{AllByRecursion}
use Rattle.std.specs.Prelude.{◌↔◌}
use Rattle.std.proofs.lemmas.Bool.Decides.{eqb_tells}
use Rattle.std.proofs.lemmas.List.{append-nil}
use Rattle.event_core.specs.Content.{Content}
use Rattle.event_core.specs.Journal.{is_among, left, next}
use Rattle.event_core.specs.declared.journal.Entry.{Entry}
use Rattle.event_core.specs.declared.journal.Entry.TheVariants as entries
use Rattle.record_form.specs.declared.record.Pointer.{Pointer}
use Rattle.record_form.specs.declared.record.Rec.{Rec}
use Rattle.record_form.specs.declared.record.Rec.TheVariants.{Put}
use Rattle.event_ring.specs.Slots.{Left}
use Rattle.open_table.specs.Tables.{HasAt, IsOf, Listed, MayAdd, Open, Puts, Table, Takes, added, is_puts, open_at, with_item}
use Rattle.open_table.specs.declared.table.Item.TheVariants as items
use Rattle.channel_face.specs.Machine.{is_some_of}
use Rattle.ring_replay.specs.declared.indexing.Indexing.{Indexing}
use Rattle.ring_replay.specs.Indexing.{ArePlaced, AreTaken, GoesOn, HasEntry, HasItems, IsBarred, IsListed, IsOpened, IsPlaced, Keeps, Places, listed_or}
use Rattle.channel_replay.specs.Marks.{Applied, IsHeld, Past, added as added_txn, committed, events_of, journal, numbers_of, open_txns, opened, opened_by, txn_of}
use Rattle.channel_replay.specs.Rules.{IsPut, IsTxn, MayGoOn}
use Rattle.channel_replay.specs.Start.{Start}
use Rattle.channel_replay.proofs.Among.{added_length, added_same, among_open}
use Rattle.channel_replay.proofs.Keys.{Tells}
use Rattle.ring_replay.proofs.Taken.{put_taken}

-- what the table has of each transaction, where one of them goes on or ends
pub each_changed : (places : Places) (past : Past) (rec : Rec) (old new : Table) (here : Option Open) → ((t : ℕ) → HasEntry places (open_at old t) (opened t past)) → HasAt (txn_of rec) here old new
    → HasEntry places here (opened_by rec (opened (txn_of rec) past)) → (t : ℕ) → HasEntry places (open_at new t) (opened t (Applied rec ∷ past))
each_changed places past rec old new here each at now t = by_test (eqb_tells (txn_of rec) t)
  where
    by_test : Tells (txn_of rec) t → HasEntry places (open_at new t) (cond (txn_of rec == t) (opened_by rec (opened t past)) (opened t past))
    by_test (inl same) = rw same.0 (subst (λ (n : ℕ). HasEntry places (open_at new n) (opened_by rec (opened n past))) same.1 (subst (λ (o : Option Open). HasEntry places o (opened_by rec (opened (txn_of rec) past))) (sym at.here_is) now))
    by_test (inr other) = rw other.0 (subst (λ (o : Option Open). HasEntry places o (opened t past)) (sym (at.others t (λ e. other.1 (sym e)))) (each t))

-- the table has a transaction exactly where it is open
pub same_some : (places : Places) (o : Option Open) (entry : Option Entry) → HasEntry places o entry → is_some o ≡ is_some_of entry
same_some places None None is = refl
same_some places None (Some entry) is = absurd is
same_some places (Some o) None is = absurd is
same_some places (Some o) (Some entry) is = refl

-- a transaction adds one to those that are open, where it was not open yet
pub added_count : (past : Past) (txn before : ℕ) (o : Option Open) → is_some o ≡ is_some_of (opened txn past) → before ≡ length (open_txns past) → before + (cond (is_some o) 0 1) ≡ length (added_txn txn (open_txns past))
added_count past txn before o same count = by_test (is_some_of (opened txn past)) (among_open past txn) same
  where
    by_test : (b : Bool) → is_among (open_txns past) txn ≡ b → is_some o ≡ b → before + (cond (is_some o) 0 1) ≡ length (added_txn txn (open_txns past))
    by_test true there is = rw is (omega (arith, count, added_same txn (open_txns past) there))
    by_test false there is = rw is (omega (arith, count, added_length txn (open_txns past) there))

-- puts

placed_more : (places : Places) (pointers : List Pointer) (events : List Content) (p : Pointer) (event : Content) → ArePlaced places pointers events → IsPlaced places p event → ArePlaced places (pointers ++ p ∷ []) (events ++ event ∷ [])
placed_more places [] [] p event are is = (is, tt)
placed_more places [] (e ∷ events) p event are is = absurd are
placed_more places (x ∷ pointers) [] p event are is = absurd are
placed_more places (x ∷ pointers) (e ∷ events) p event are is = (are.0, placed_more places pointers events p event are.1 is)

put_listed : (places : Places) (p : Pointer) (event : Content) (o : Option Open) (entry : Option Entry) → HasEntry places o entry → is_puts (listed_or true o) ≡ true → IsPlaced places p event
    → IsListed places (with_item (items.Put p) (listed_or true o)) (entries.Puts (events_of entry ++ event ∷ []))
put_listed places p event None None has kind is = (is, tt)
put_listed places p event None (Some entry) has kind is = absurd has
put_listed places p event (Some o) None has kind is = absurd has
put_listed places p event (Some o) (Some entry) has kind is = by_list o.listed entry has kind
  where
    by_list : (l : Listed) (entry : Entry) → IsListed places l entry → is_puts l ≡ true → IsListed places (with_item (items.Put p) l) (entries.Puts (events_of (Some entry) ++ event ∷ []))
    by_list (Puts pointers) (entries.Puts events) has kind = placed_more places pointers events p event has is
    by_list (Puts pointers) (entries.Takes numbers) has kind = absurd has
    by_list (Takes numbers) entry has kind = absurd (cc)

may_put : (places : Places) (count : ℕ) (o : Option Open) (entry : Option Entry) → HasEntry places o entry → is_puts (listed_or true o) ≡ true → (o ≡ None → count < 1024) → MayGoOn count entry IsPut
may_put places count None None has kind may = may refl
may_put places count None (Some entry) has kind may = absurd has
may_put places count (Some o) None has kind may = absurd has
may_put places count (Some o) (Some entry) has kind may = by_list o.listed entry has kind
  where
    by_list : (l : Listed) (entry : Entry) → IsListed places l entry → is_puts l ≡ true → IsPut entry
    by_list (Puts pointers) (entries.Puts events) has kind = tt
    by_list (Puts pointers) (entries.Takes numbers) has kind = absurd has
    by_list (Takes numbers) entry has kind = absurd (cc)

may_not_put : (places : Places) (count : ℕ) (o : Option Open) (entry : Option Entry) → HasEntry places o entry → (is_puts (listed_or true o) ≡ false) ⊎ ((o ≡ None) × (1024 ≤ count)) → MayGoOn count entry IsPut → ⊥
may_not_put places count None None has (inl kind) may = absurd (cc)
may_not_put places count None None has (inr full) may = omega (arith, full.1, may)
may_not_put places count None (Some entry) has barred may = absurd has
may_not_put places count (Some o) None has barred may = absurd has
may_not_put places count (Some o) (Some entry) has (inr full) may = absurd (let e : Some o ≡ None = full.0 in cc)
may_not_put places count (Some o) (Some entry) has (inl kind) may = by_list o.listed entry has kind may
  where
    by_list : (l : Listed) (entry : Entry) → IsListed places l entry → is_puts l ≡ false → IsPut entry → ⊥
    by_list (Puts pointers) entry has kind is = absurd (cc)
    by_list (Takes numbers) (entries.Puts events) has kind is = absurd has
    by_list (Takes numbers) (entries.Takes others) has kind is = absurd is

-- who holds what

-- who holds what may be said by another test that holds of the same numbers
pub held_maps : (P Q : ℕ → Type 0) (live : List Left) → ((n : ℕ) → (P n → Q n) × (Q n → P n)) → AllByRecursion (λ l. (l.held ≡ true) ↔ P l.number) live → AllByRecursion (λ l. (l.held ≡ true) ↔ Q l.number) live
held_maps P Q [] both all = tt
held_maps P Q (l ∷ live) both all = ((λ is. (both l.number).0 (all.0.0 is), λ is. all.0.1 ((both l.number).1 is)), held_maps P Q live both all.1)

no_numbers : (count : ℕ) (entry : Option Entry) → MayGoOn count entry IsPut → numbers_of entry ≡ []
no_numbers count None may = refl
no_numbers count (Some (entries.Puts events)) may = refl
no_numbers count (Some (entries.Takes numbers)) may = absurd may

-- a transaction without takes gains none and loses none
pub held_same : (past : Past) (rec : Rec) (n : ℕ) → numbers_of (opened (txn_of rec) past) ≡ [] → numbers_of (opened_by rec (opened (txn_of rec) past)) ≡ [] → (IsHeld past n → IsHeld (Applied rec ∷ past) n) × (IsHeld (Applied rec ∷ past) n → IsHeld past n)
held_same past rec n was is = (λ h. (h.0, to h.0 (eqb_tells (txn_of rec) h.0) h.1), λ h. (h.0, from h.0 (eqb_tells (txn_of rec) h.0) h.1))
  where
    to : (t : ℕ) → Tells (txn_of rec) t → is_among (numbers_of (opened t past)) n ≡ true → is_among (numbers_of (cond (txn_of rec == t) (opened_by rec (opened t past)) (opened t past))) n ≡ true
    to t (inl same) there = absurd (let e : true ≡ false = sym there ∙ (ap (λ (m : ℕ). is_among (numbers_of (opened m past)) n) (sym same.1) ∙ ap (λ (l : List ℕ). is_among l n) was) in cc)
    to t (inr other) there = rw other.0 there

    from : (t : ℕ) → Tells (txn_of rec) t → is_among (numbers_of (cond (txn_of rec == t) (opened_by rec (opened t past)) (opened t past))) n ≡ true → is_among (numbers_of (opened t past)) n ≡ true
    from t (inl same) there = absurd (let here = rw same.0 at there in let e : true ≡ false = sym here ∙ (ap (λ (m : ℕ). is_among (numbers_of (opened_by rec (opened m past))) n) (sym same.1) ∙ ap (λ (l : List ℕ). is_among l n) is) in cc)
    from t (inr other) there = rw other.0 at there

-- one change of a table after another
pub joined_at : (txn : ℕ) (a b : Option Open) (old mid new : Table) → HasAt txn a old mid → HasAt txn b mid new → HasAt txn b old new
joined_at txn a b old mid new first second = record { here_is = second.here_is; others = λ other ne. second.others other ne ∙ first.others other ne }

-- The ring and the table have what they had, but for one transaction, and nothing is committed.
pub kept_one : (places : Places) (s : Start) (past : Past) (rec : Rec) (old new : Indexing) → Keeps places s past old → committed rec past ≡ []
    → new.ring.live ≡ old.ring.live → new.ring.slots ≡ new.slots → new.ring.top ≡ old.ring.top → new.next.number ≡ old.next.number → new.next.txn ≡ max (txn_of rec + 1) old.next.txn
    → AllByRecursion (λ l. (l.held ≡ true) ↔ IsHeld (Applied rec ∷ past) l.number) old.ring.live
    → ((t : ℕ) → HasEntry places (open_at new.table t) (opened t (Applied rec ∷ past))) → length new.table ≡ length (open_txns (Applied rec ∷ past)) → AreTaken s (Applied rec ∷ past)
    → Keeps places s (Applied rec ∷ past) new
kept_one places s past rec old new keeps none live slots top number txn held each count taken =
    let same : journal past ≡ journal (Applied rec ∷ past) = sym (ap (λ (l : List Entry). journal past ++ l) none ∙ append-nil (journal past)) in
    record {
      items = rw live (subst (λ (j : List Entry). HasItems places old.ring.live (left s.base j)) same keeps.items);
      held = rw live held;
      slots = slots;
      top = omega (arith, top, number, keeps.top);
      number = number ∙ (keeps.number ∙ ap (next s.base) same);
      txn = omega (arith, txn, keeps.txn);
      each = each;
      as_many = count;
      taken = taken;
    }

-- a put into an open transaction is applied
pub put_goes : (txn : ℕ) (place : Pointer) (old new : Indexing) (mid : Table) → IsTxn txn → IsOpened true txn old.table mid → HasAt txn (added (items.Put place) (open_at mid txn)) mid new.table → length new.table ≡ length mid
    → new.ring ≡ old.ring → new.slots ≡ old.slots → new.next.number ≡ old.next.number → new.next.txn ≡ max (txn + 1) old.next.txn → (event : Content) → GoesOn true old place (Put txn event) new
put_goes txn place old new mid is opens put count ring slots number above event places s past stands keeps =
    let rec : Rec = Put txn event in
    let has : HasEntry places (open_at old.table txn) (opened txn past) = keeps.each txn in
    let may : MayGoOn (length (open_txns past)) (opened txn past) IsPut = may_put places (length (open_txns past)) (open_at old.table txn) (opened txn past) has opens.kind (λ none. omega (arith, opens.may none, keeps.as_many)) in
    let there : open_at mid txn ≡ Some opens.opened = opens.here.here_is in
    let here : HasEntry places (added (items.Put place) (open_at mid txn)) (opened_by rec (opened txn past)) =
    rw (there, opens.listed) (put_listed places place event (open_at old.table txn) (opened txn past) has opens.kind stands) in (
      (is, may),
      kept_one places s past rec old new keeps refl (ap (λ (r : _). r.live) ring) (ap (λ (r : _). r.slots) ring ∙ (keeps.slots ∙ sym slots)) (ap (λ (r : _). r.top) ring) number above
          (held_maps (IsHeld past) (IsHeld (Applied rec ∷ past)) old.ring.live (λ n. held_same past rec n (no_numbers (length (open_txns past)) (opened txn past) may) refl) keeps.held)
          (each_changed places past rec old.table new.table (added (items.Put place) (open_at mid txn)) keeps.each (joined_at txn (Some opens.opened) (added (items.Put place) (open_at mid txn)) old.table mid new.table opens.here put) here)
          (count ∙ (opens.count ∙ added_count past txn (length old.table) (open_at old.table txn) (same_some places (open_at old.table txn) (opened txn past) has) keeps.as_many))
          (put_taken s past txn event keeps.taken (is, may)),
    )

-- a put that is barred by the table is not legal
pub put_barred : (txn : ℕ) (place : Pointer) (old new : Indexing) → IsBarred true txn old.table → (event : Content) → GoesOn false old place (Put txn event) new
put_barred txn place old new barred event places s past stands keeps legal =
    may_not_put places (length (open_txns past)) (open_at old.table txn) (opened txn past) (keeps.each txn) (fewer barred) legal.1
  where
    fewer : (is_puts (listed_or true (open_at old.table txn)) ≡ false) ⊎ ((open_at old.table txn ≡ None) × (1024 ≤ length old.table)) → (is_puts (listed_or true (open_at old.table txn)) ≡ false) ⊎ ((open_at old.table txn ≡ None) × (1024 ≤ length (open_txns past)))
    fewer (inl kind) = inl kind
    fewer (inr full) = inr (full.0, omega (arith, full.1, keeps.as_many))

-- an opened transaction of puts may be given one more put
pub may_add_put : (txn : ℕ) (place : Pointer) (old mid : Table) → IsOpened true txn old mid → MayAdd (items.Put place) (open_at mid txn)
may_add_put txn place old mid opens = rw opens.here.here_is (by_list opens.opened.listed (ap is_puts opens.listed ∙ opens.kind), opens.room)
  where
    by_list : (l : Listed) → is_puts l ≡ true → IsOf (items.Put place) l
    by_list (Puts pointers) is = tt
    by_list (Takes numbers) is = absurd (cc)
