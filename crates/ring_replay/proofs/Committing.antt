-- A transaction that is committed, over a ring and a table.
use Rattle.std.proofs.Common.{inl, inr, ◌≡◌, ◌≤◌, ◌+◌, ◌^◌, ◌-◌, ◌++◌, ◌∷◌, [], ℕ, List, length, max, Option, Some, None, IsSomeAnd, Bool, true, false, ◌==◌, ◌||◌, cond, refl, sym, ◌∙◌, ap, subst, arith}
use Rattle.std.specs.List.{AllByRecursion}
use Rattle.std.specs.Option.{option_map}
use Rattle.std.specs.Prelude.{◌↔◌, map}
use Rattle.std.proofs.lemmas.Bool.Decides.{eqb_tells}
use Rattle.std.proofs.lemmas.List.{append-nil}
use Rattle.event_core.specs.Content.{Content}
use Rattle.event_core.specs.Journal.{Base, after_journal, is_among, left, next, numbered, without}
use Rattle.event_core.specs.declared.journal.Entry.{Entry}
use Rattle.event_core.specs.declared.journal.Entry.TheVariants as entries
use Rattle.record_form.specs.declared.record.Pointer.{Pointer}
use Rattle.record_form.specs.declared.record.Rec.{Rec}
use Rattle.record_form.specs.declared.record.Rec.TheVariants.{CommitPut, CommitTake}
use Rattle.event_ring.specs.Slots.{Index, Left}
use Rattle.open_table.specs.Tables.{HasAt, Listed, Open, Puts, Table, Takes, open_at}
use Rattle.channel_face.specs.Machine.{is_some_of}
use Rattle.channel_face.proofs.LawLemmas.{after-append}
use Rattle.channel_face.proofs.Numbers.{without_none}
use Rattle.channel_replay.specs.Marks.{Applied, IsHeld, Past, entries_of, journal, next_number, numbers_of, opened}
use Rattle.channel_replay.specs.Rules.{IsPutOf, IsTakeOf, IsTxn}
use Rattle.channel_replay.specs.Start.{Start}
use Rattle.channel_replay.proofs.Among.{one_removed}
use Rattle.channel_replay.proofs.Keys.{Tells}
use Rattle.channel_replay.proofs.Ordered.{takes_earlier}
use Rattle.ring_replay.specs.declared.indexing.Indexing.{Indexing}
use Rattle.ring_replay.specs.Indexing.{ArePlaced, AreTaken, GoesOn, HasEntry, HasItems, IsListed, Places, SettlesPuts, lacking, placed}
use Rattle.ring_replay.proofs.Ending.{listed_takes}
use Rattle.ring_replay.proofs.Going.{each_changed, held_maps, held_same}
use Rattle.ring_replay.proofs.RollingBack.{held_still}
use Rattle.ring_replay.proofs.Taken.{apart_kept, fewer, number_kept, ordered_of}

-- what an open transaction of the table has put
listed_puts : (places : Places) (o : Option Open) (entry : Option Entry) (pointers : List Pointer) → HasEntry places o entry → option_map (λ (x : Open). x.listed) o ≡ Some (Puts pointers) → (events : List Content) × (entry ≡ Some (entries.Puts events)) × ArePlaced places pointers events
listed_puts places None entry pointers has is = absurd (cc)
listed_puts places (Some o) None pointers has is = absurd has
listed_puts places (Some o) (Some entry) pointers has is = by_list o.listed entry has (let same : o.listed ≡ Puts pointers = cc in same)
  where
    by_list : (l : Listed) (entry : Entry) → IsListed places l entry → l ≡ Puts pointers → (events : List Content) × (Some entry ≡ Some (entries.Puts events)) × ArePlaced places pointers events
    by_list (Takes numbers) entry has same = absurd (cc)
    by_list (Puts others) (entries.Takes numbers) has same = absurd has
    by_list (Puts others) (entries.Puts events) has same = (events, refl, subst (λ (l : List Pointer). ArePlaced places l events) (let e : others ≡ pointers = cc in e) has)

length_placed_ones : (places : Places) (pointers : List Pointer) (events : List Content) → ArePlaced places pointers events → length pointers ≡ length events
length_placed_ones places [] [] are = refl
length_placed_ones places [] (event ∷ events) are = absurd are
length_placed_ones places (p ∷ pointers) [] are = absurd are
length_placed_ones places (p ∷ pointers) (event ∷ events) are = omega (arith, length_placed_ones places pointers events are.1)

-- events that came

items_append : (places : Places) (live more : List Left) (items others : List (ℕ × Content)) → HasItems places live items → HasItems places more others → HasItems places (live ++ more) (items ++ others)
items_append places [] more [] others has rest = rest
items_append places [] more (item ∷ items) others has rest = absurd has
items_append places (l ∷ live) more [] others has rest = absurd has
items_append places (l ∷ live) more (item ∷ items) others has rest = (has.0, has.1, items_append places live more items others has.2 rest)

placed_items : (places : Places) (first : ℕ) (pointers : List Pointer) (events : List Content) → ArePlaced places pointers events → HasItems places (placed first pointers) (numbered first events)
placed_items places first [] [] are = tt
placed_items places first [] (event ∷ events) are = absurd are
placed_items places first (p ∷ pointers) [] are = absurd are
placed_items places first (p ∷ pointers) (event ∷ events) are = (refl, are.0, placed_items places (first + 1) pointers events are.1)

held_append : (Q : ℕ → Type 0) (a b : List Left) → AllByRecursion (λ l. (l.held ≡ true) ↔ Q l.number) a → AllByRecursion (λ l. (l.held ≡ true) ↔ Q l.number) b → AllByRecursion (λ l. (l.held ≡ true) ↔ Q l.number) (a ++ b)
held_append Q [] b x y = y
held_append Q (l ∷ a) b x y = (x.0, held_append Q a b x.1 y)

placed_free : (Q : ℕ → Type 0) (first : ℕ) (pointers : List Pointer) → ((n : ℕ) → first ≤ n → Q n → ⊥) → AllByRecursion (λ l. (l.held ≡ true) ↔ Q l.number) (placed first pointers)
placed_free Q first [] none = tt
placed_free Q first (p ∷ pointers) none = ((λ held. absurd (let e : false ≡ true = held in cc), λ q. absurd (none first (omega arith) q)), placed_free Q (first + 1) pointers (λ n more. none n (omega (arith, more))))

among_first : (items more : List (ℕ × Content)) (n : ℕ) → is_among (map (λ (item : ℕ × Content). item.0) items) n ≡ true → is_among (map (λ (item : ℕ × Content). item.0) (items ++ more)) n ≡ true
among_first [] more n is = absurd (let e : false ≡ true = is in cc)
among_first (item ∷ items) more n is = by_test (item.0 == n) is (among_first items more n)
  where
    by_test : (b : Bool) → (b || is_among (map (λ (x : ℕ × Content). x.0) items) n) ≡ true → (is_among (map (λ (x : ℕ × Content). x.0) items) n ≡ true → is_among (map (λ (x : ℕ × Content). x.0) (items ++ more)) n ≡ true)
        → (b || is_among (map (λ (x : ℕ × Content). x.0) (items ++ more)) n) ≡ true
    by_test true is' rest = refl
    by_test false is' rest = rest is'

-- what is left after the commit of an entry
behind : (s : Start) (past : Past) (entry : Entry) → AreTaken s past → after_journal s.base (journal past ++ entry ∷ []) ≡ after_journal (after_journal s.base (journal past)) (entry ∷ [])
behind s past entry are = after-append s.base (journal past) (entry ∷ []) (takes_earlier s.base past (ordered_of s past are))

behind_puts : (s : Start) (past : Past) (events : List Content) → AreTaken s past
    → (left s.base (journal past ++ entries.Puts events ∷ []) ≡ left s.base (journal past) ++ numbered (next_number s.base past) events) × (next s.base (journal past ++ entries.Puts events ∷ []) ≡ next_number s.base past + length events)
behind_puts s past events are =
    let whole = behind s past (entries.Puts events) are in
    let plain : events ++ [] ≡ events = append-nil events in (
      ap (λ (b : Base). b.items) whole ∙ without_none (left s.base (journal past) ++ numbered (next s.base (journal past)) (events ++ [])) ∙ rw plain refl,
      ap (λ (b : Base). b.first) whole ∙ rw plain refl,
    )

behind_takes : (s : Start) (past : Past) (numbers : List ℕ) → AreTaken s past
    → (left s.base (journal past ++ entries.Takes numbers ∷ []) ≡ without numbers (left s.base (journal past))) × (next s.base (journal past ++ entries.Takes numbers ∷ []) ≡ next_number s.base past)
behind_takes s past numbers are =
    let whole = behind s past (entries.Takes numbers) are in
    let plain : numbers ++ [] ≡ numbers = append-nil numbers in (
      ap (λ (b : Base). b.items) whole ∙ rw (plain, append-nil (left s.base (journal past))) refl,
      ap (λ (b : Base). b.first) whole ∙ omega arith,
    )

put_commit_taken : (s : Start) (past : Past) (txn first count : ℕ) (events : List Content) → AreTaken s past → IsTxn txn × IsSomeAnd (opened txn past) (IsPutOf count) × (first ≡ next_number s.base past) × (first + count ≤ 2 ^ 64 - 1)
    → journal (Applied (CommitPut txn first count) ∷ past) ≡ journal past ++ entries.Puts events ∷ [] → AreTaken s (Applied (CommitPut txn first count) ∷ past)
put_commit_taken s past txn first count events are legal whole =
    fewer s past (CommitPut txn first count) are legal
    (λ t n is. number_kept (txn == t) None (opened t past) n refl is)
    (λ t. apart_kept (txn == t) None (opened t past) refl (are.apart t))
    (λ t n is was. ap (λ (j : List Entry). is_among (map (λ (item : ℕ × Content). item.0) (left s.base j)) n) whole
    ∙ (ap (λ (l : List (ℕ × Content)). is_among (map (λ (item : ℕ × Content). item.0) l) n) (behind_puts s past events are).0
    ∙ among_first (left s.base (journal past)) (numbered (next_number s.base past) events) n was))

-- an open put is committed where its count and its first number are right
pub puts_commit : (ok : Bool) (txn first count : ℕ) (place : Pointer) (pointers : List Pointer) (old mid new : Indexing) → IsTxn txn → option_map (λ (o : Open). o.listed) (open_at old.table txn) ≡ Some (Puts pointers)
    → HasAt txn None old.table mid.table → length mid.table + 1 ≡ length old.table → mid.ring ≡ old.ring → mid.next.number ≡ old.next.number → mid.next.txn ≡ max (txn + 1) old.next.txn
    → SettlesPuts ok pointers first count mid new → GoesOn ok old place (CommitPut txn first count) new
puts_commit true txn first count place pointers old mid new is listed ended fewer_ones ring number above settles places s past stands keeps =
    let rec : Rec = CommitPut txn first count in
    let has : HasEntry places (open_at old.table txn) (opened txn past) = keeps.each txn in
    let puts = listed_puts places (open_at old.table txn) (opened txn past) pointers has listed in
    let events : List Content = puts.0 in
    let some : opened txn past ≡ Some (entries.Puts events) = puts.1 in
    let long : length pointers ≡ length events = length_placed_ones places pointers events puts.2 in
    let start : first ≡ next_number s.base past = settles.first_is ∙ (number ∙ keeps.number) in
    let counted : length events ≡ count = sym long ∙ settles.counted in
    let legal : IsTxn txn × IsSomeAnd (opened txn past) (IsPutOf count) × (first ≡ next_number s.base past) × (first + count ≤ 2 ^ 64 - 1) = (is, rw some counted, start, settles.fits) in
    let whole : journal (Applied rec ∷ past) ≡ journal past ++ entries.Puts events ∷ [] = ap (λ (e : Option Entry). journal past ++ entries_of e) some in
    let so = behind_puts s past events keeps.taken in
    let live : new.ring.live ≡ old.ring.live ++ placed first pointers = settles.live ∙ ap (λ (r : Index). r.live ++ placed first pointers) ring in
    let left_is : left s.base (journal (Applied rec ∷ past)) ≡ left s.base (journal past) ++ numbered first events =
    ap (left s.base) whole ∙ (so.0 ∙ ap (λ (n : ℕ). left s.base (journal past) ++ numbered n events) (sym start)) in
    let same : (n : ℕ) → (IsHeld past n → IsHeld (Applied rec ∷ past) n) × (IsHeld (Applied rec ∷ past) n → IsHeld past n) = λ n. held_same past rec n (ap numbers_of some) refl in (
      legal,
      record {
        items = rw (live, left_is) (items_append places old.ring.live (placed first pointers) (left s.base (journal past)) (numbered first events) keeps.items (placed_items places first pointers events puts.2));
        held = rw live (held_append (IsHeld (Applied rec ∷ past)) old.ring.live (placed first pointers) (held_maps (IsHeld past) (IsHeld (Applied rec ∷ past)) old.ring.live same keeps.held)
            (placed_free (IsHeld (Applied rec ∷ past)) first pointers (λ n more h. high n (omega (arith, more, start)) ((same n).1 h))));
        slots = settles.slots;
        top = settles.top;
        number = omega (arith, settles.number, start, counted, ap (next s.base) whole, so.1);
        txn = omega (arith, settles.txn, above, keeps.txn);
        each = each_changed places past rec old.table new.table None keeps.each (rw settles.table ended) tt;
        as_many = omega (arith, ap (λ (t : Table). length t) settles.table, fewer_ones, keeps.as_many, one_removed past txn (ap is_some_of some));
        taken = put_commit_taken s past txn first count events keeps.taken legal whole;
      },
    )
  where
    high : (n : ℕ) → next_number s.base past ≤ n → IsHeld past n → ⊥
    high n more h = let e : false ≡ true = sym (keeps.taken.held_below h.0 n more) ∙ h.1 in cc
puts_commit false txn first count place pointers old mid new is listed ended fewer_ones ring number above settles places s past stands keeps = λ legal.
    let puts = listed_puts places (open_at old.table txn) (opened txn past) pointers (keeps.each txn) listed in
    let counted : length puts.0 ≡ count = (rw puts.1 at legal.1) in
    settles (length_placed_ones places pointers puts.0 puts.2 ∙ counted) (legal.2 ∙ sym (number ∙ keeps.number)) legal.3

-- events that went

lacking_items : (places : Places) (numbers : List ℕ) (live : List Left) (items : List (ℕ × Content)) → HasItems places live items → HasItems places (lacking numbers live) (without numbers items)
lacking_items places numbers [] [] has = tt
lacking_items places numbers [] (item ∷ items) has = absurd has
lacking_items places numbers (l ∷ live) [] has = absurd has
lacking_items places numbers (l ∷ live) (item ∷ items) has = rw (ap (is_among numbers) has.0) (by_test (is_among numbers item.0) (lacking_items places numbers live items has.2))
  where
    by_test : (b : Bool) → HasItems places (lacking numbers live) (without numbers items) → HasItems places (cond b (lacking numbers live) (l ∷ lacking numbers live)) (cond b (without numbers items) (item ∷ without numbers items))
    by_test true rest = rest
    by_test false rest = (has.0, has.1, rest)

lacking_held : (P Q : ℕ → Type 0) (numbers : List ℕ) (live : List Left) → ((n : ℕ) → is_among numbers n ≡ false → (P n → Q n) × (Q n → P n)) → AllByRecursion (λ l. (l.held ≡ true) ↔ P l.number) live → AllByRecursion (λ l. (l.held ≡ true) ↔ Q l.number) (lacking numbers live)
lacking_held P Q numbers [] same all = tt
lacking_held P Q numbers (l ∷ live) same all = by_test (is_among numbers l.number) refl (lacking_held P Q numbers live same all.1)
  where
    by_test : (b : Bool) → is_among numbers l.number ≡ b → AllByRecursion (λ l. (l.held ≡ true) ↔ Q l.number) (lacking numbers live) → AllByRecursion (λ l. (l.held ≡ true) ↔ Q l.number) (cond b (lacking numbers live) (l ∷ lacking numbers live))
    by_test true there rest = rest
    by_test false isnt rest = ((λ held. (same l.number isnt).0 (all.0.0 held), λ q. all.0.1 ((same l.number isnt).1 q)), rest)

among_without : (numbers : List ℕ) (items : List (ℕ × Content)) (n : ℕ) → is_among numbers n ≡ false → is_among (map (λ (item : ℕ × Content). item.0) items) n ≡ true → is_among (map (λ (item : ℕ × Content). item.0) (without numbers items)) n ≡ true
among_without numbers [] n isnt is = absurd (let e : false ≡ true = is in cc)
among_without numbers (item ∷ items) n isnt is = from (eqb_tells item.0 n) is (among_without numbers items n isnt)
  where
    here : (b : Bool) → b ≡ false → item.0 ≡ n → is_among (map (λ (x : ℕ × Content). x.0) (cond b (without numbers items) (item ∷ without numbers items))) n ≡ true
    here true isnt' same = absurd (let e : true ≡ false = isnt' in cc)
    here false isnt' same = test (eqb_tells item.0 n)
      where
        test : Tells item.0 n → ((item.0 == n) || is_among (map (λ (x : ℕ × Content). x.0) (without numbers items)) n) ≡ true
        test (inl yes') = rw yes'.0 refl
        test (inr other) = absurd (other.1 same)

    later : (b c : Bool) → is_among (map (λ (x : ℕ × Content). x.0) (without numbers items)) n ≡ true → is_among (map (λ (x : ℕ × Content). x.0) (cond b (without numbers items) (item ∷ without numbers items))) n ≡ true
    later true c rest = rest
    later false c rest = or_right (item.0 == n) rest
      where
        or_right : (d : Bool) → is_among (map (λ (x : ℕ × Content). x.0) (without numbers items)) n ≡ true → (d || is_among (map (λ (x : ℕ × Content). x.0) (without numbers items)) n) ≡ true
        or_right true rest' = refl
        or_right false rest' = rest'

    from : Tells item.0 n → ((item.0 == n) || is_among (map (λ (x : ℕ × Content). x.0) items) n) ≡ true → (is_among (map (λ (x : ℕ × Content). x.0) items) n ≡ true → is_among (map (λ (x : ℕ × Content). x.0) (without numbers items)) n ≡ true)
        → is_among (map (λ (x : ℕ × Content). x.0) (without numbers (item ∷ items))) n ≡ true
    from (inl same) is' rest = here (is_among numbers item.0) (ap (is_among numbers) same.1 ∙ isnt) same.1
    from (inr other) is' rest = later (is_among numbers item.0) true (rest (rw other.0 at is'))

-- a number that another transaction takes is none of these
not_taken : (s : Start) (past : Past) (txn t n : ℕ) → AreTaken s past → is_among (numbers_of (cond (txn == t) None (opened t past))) n ≡ true → is_among (numbers_of (opened txn past)) n ≡ false
not_taken s past txn t n are is = by_test (is_among (numbers_of (opened txn past)) n) refl
  where
    from : Tells txn t → is_among (numbers_of (cond (txn == t) None (opened t past))) n ≡ true → is_among (numbers_of (opened txn past)) n ≡ true → ⊥
    from (inl same) is' there = let here = rw same.0 at is' in let e : false ≡ true = here in cc
    from (inr other) is' there = other.1 (are.once txn t n there (rw other.0 at is'))

    by_test : (b : Bool) → is_among (numbers_of (opened txn past)) n ≡ b → is_among (numbers_of (opened txn past)) n ≡ false
    by_test true there = absurd (from (eqb_tells txn t) is there)
    by_test false isnt = isnt

take_commit_taken : (s : Start) (past : Past) (txn count : ℕ) (numbers : List ℕ) → AreTaken s past → IsTxn txn × IsSomeAnd (opened txn past) (IsTakeOf count) → opened txn past ≡ Some (entries.Takes numbers)
    → journal (Applied (CommitTake txn count) ∷ past) ≡ journal past ++ entries.Takes numbers ∷ [] → AreTaken s (Applied (CommitTake txn count) ∷ past)
take_commit_taken s past txn count numbers are legal some whole =
    fewer s past (CommitTake txn count) are legal
    (λ t n is. number_kept (txn == t) None (opened t past) n refl is)
    (λ t. apart_kept (txn == t) None (opened t past) refl (are.apart t))
    (λ t n is was. ap (λ (j : List Entry). is_among (map (λ (item : ℕ × Content). item.0) (left s.base j)) n) whole
    ∙ (ap (λ (l : List (ℕ × Content)). is_among (map (λ (item : ℕ × Content). item.0) l) n) (behind_takes s past numbers are).0
    ∙ among_without numbers (left s.base (journal past)) n (ap (λ (e : Option Entry). is_among (numbers_of e) n) (sym some) ∙ not_taken s past txn t n are is) was))

-- an open take is committed where its count is right
pub takes_commit : (txn count : ℕ) (place : Pointer) (numbers : List ℕ) (old new : Indexing) → IsTxn txn → option_map (λ (o : Open). o.listed) (open_at old.table txn) ≡ Some (Takes numbers) → length numbers ≡ count
    → HasAt txn None old.table new.table → length new.table + 1 ≡ length old.table → new.ring ≡ record old.ring { live = lacking numbers old.ring.live } → new.slots ≡ old.slots → new.next.number ≡ old.next.number → new.next.txn ≡ max (txn + 1) old.next.txn
    → GoesOn true old place (CommitTake txn count) new
takes_commit txn count place numbers old new is listed counted ended fewer_ones ring slots number above places s past stands keeps =
    let rec : Rec = CommitTake txn count in
    let has : HasEntry places (open_at old.table txn) (opened txn past) = keeps.each txn in
    let some : opened txn past ≡ Some (entries.Takes numbers) = listed_takes places (open_at old.table txn) (opened txn past) numbers has listed in
    let legal : IsTxn txn × IsSomeAnd (opened txn past) (IsTakeOf count) = (is, rw some counted) in
    let whole : journal (Applied rec ∷ past) ≡ journal past ++ entries.Takes numbers ∷ [] = ap (λ (e : Option Entry). journal past ++ entries_of e) some in
    let so = behind_takes s past numbers keeps.taken in
    let live : new.ring.live ≡ lacking numbers old.ring.live = ap (λ (r : Index). r.live) ring in
    let left_is : left s.base (journal (Applied rec ∷ past)) ≡ without numbers (left s.base (journal past)) = ap (left s.base) whole ∙ so.0 in (
      legal,
      record {
        items = rw (live, left_is) (lacking_items places numbers old.ring.live (left s.base (journal past)) keeps.items);
        held = rw live (lacking_held (IsHeld past) (IsHeld (Applied rec ∷ past)) numbers old.ring.live (λ n isnt. held_still past txn n (ap (λ (e : Option Entry). is_among (numbers_of e) n) some ∙ isnt)) keeps.held);
        slots = ap (λ (r : Index). r.slots) ring ∙ (keeps.slots ∙ sym slots);
        top = omega (arith, ap (λ (r : Index). r.top) ring, number, keeps.top);
        number = omega (arith, number, keeps.number, ap (next s.base) whole, so.1);
        txn = omega (arith, above, keeps.txn);
        each = each_changed places past rec old.table new.table None keeps.each ended tt;
        as_many = omega (arith, fewer_ones, keeps.as_many, one_removed past txn (ap is_some_of some));
        taken = take_commit_taken s past txn count numbers keeps.taken legal some whole;
      },
    )
