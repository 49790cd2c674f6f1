-- A text that goes into a file through a buffer, piece after piece.
use Rattle.std.proofs.Common.{◌≡◌, ◌<◌, ◌≤◌, ◌+◌, ◌^◌, ◌++◌, ◌∷◌, [], ℕ, List, get_or, length, map, nat_eq, take, false, Option, Some, None, sym, ◌∙◌, ap, subst, append_assoc, arith}
use Rattle.std.specs.Prelude.{flat_map}
use Rattle.std.specs.List.{AllByRecursion}
use Rattle.std.proofs.lemmas.Grind.{flat_map-append}
use Rattle.std.proofs.lemmas.List.{append-nil, flat_map_more, length-map, take_all, take_more}
use Rattle.flume_host.specs.Told.{Tells, Told, WhereTold}
use Rattle.flume_host.proofs.Telling.{back}
use Rattle.event_core.specs.Numbers.{u32_bytes, u64_bytes}
use Rattle.record_form.specs.declared.record.Pointer.{Pointer}
use Rattle.event_ring.specs.Slots.{Index, Left, least_above, next_from}
use Rattle.open_table.specs.Tables.{Table}
use Rattle.checkpoint.specs.declared.place.Next.{Next}
use Rattle.checkpoint.specs.declared.place.Place.{Place}
use Rattle.checkpoint.specs.Files.{Adds, Holds, IsBegun, IsSoFar, IsWritten, Spool, spool}
use Rattle.checkpoint.specs.Says.{AreListed, Says, entry_of, live_at}
use Rattle.checkpoint.specs.Text.{CheckText, FitCounts, Rise, check_bytes, counted, entry_bytes, head_bytes, live_bytes, pointer_bytes}
use Rattle.checkpoint.proofs.Listing.{all_from, entries_end, entry_next, from, from_all, live_end, live_next}

-- nothing is added by nothing
pub adds_none : (number : ℕ) (s : Spool) → Adds number s s []
adds_none number s text holds t told = subst (λ (l : List ℕ). IsSoFar t number s.at s.buffer l) (sym (append-nil text)) (holds t told)

-- what comes into the buffer is added
pub adds_more : (number at : ℕ) (s : Spool) (told : Option Told) (buffer more bytes : List ℕ) → Adds number s (record { told = told; at = at; buffer = buffer }) [] → more ≡ buffer ++ bytes
    → Adds number s (record { told = told; at = at; buffer = more }) bytes
adds_more number at s told buffer more bytes room is text holds t told_is =
    let sits = room text holds t told_is in
    record {
      front = sits.front;
      written = sits.written;
      at_is = sits.at_is;
      text_is = ap (λ (l : List ℕ). l ++ bytes) (sym (append-nil text) ∙ sits.text_is) ∙ (append_assoc sits.front buffer bytes ∙ ap (λ (l : List ℕ). sits.front ++ l) (sym is));
    }

-- one addition after another
pub adds_then : (number : ℕ) (a b c : Spool) (xs ys : List ℕ) → Adds number a b xs → Adds number b c ys → Adds number a c (xs ++ ys)
adds_then number a b c xs ys first second text holds t told =
    subst (λ (l : List ℕ). IsSoFar t number c.at c.buffer l) (append_assoc text xs ys) (second (text ++ xs) (first text holds) t told)

-- a spool that was begun goes on
pub begun_on : (number : ℕ) (a b : Spool) (P : Told → Told → Type 0) (bytes : List ℕ) → Tells a.told b.told P → Adds number a b bytes → IsBegun number a → IsBegun number b
begun_on number a b P bytes tells adds begun u told =
    let t = back a.told b.told P tells u told in
    let was = begun t.0 t.1 in
    (was.0 ++ bytes, adds was.0 (λ other other_told. let both : Some t.0 ≡ Some other = sym t.1 ∙ other_told in let same : t.0 ≡ other = cc in subst (λ (x : Told). IsSoFar x number a.at a.buffer was.0) same was.1) u told)

-- Of the events that are left those below a number are added.
pub record LiveSoFar (number : ℕ) (start now : Spool) (live : List Left) (after : Option ℕ) : Type 0 where
  pub bytes : List ℕ
  pub adds : Adds number start now bytes
  pub rest : (high : ℕ) → Rise 0 high (map live_at live) → length live < 2 ^ 32 → bytes ++ flat_map live_bytes (from (least_above after) (map live_at live)) ≡ counted live_bytes (map live_at live)

-- at first their count is
pub live_begun : (number count : ℕ) (start now : Spool) (live : List Left) → Adds number start now (u32_bytes count) → (length live < 2 ^ 32 → count ≡ length live) → LiveSoFar number start now live None
live_begun number count start now live adds counts = record {
  bytes = u32_bytes count;
  adds = adds;
  rest = λ high rise few.
      ap (λ (n : ℕ). u32_bytes n ++ flat_map live_bytes (from 0 (map live_at live))) (counts few ∙ sym (length-map live live_at))
      ∙ ap (λ (l : List (ℕ × Pointer)). u32_bytes (length (map live_at live)) ++ flat_map live_bytes l) (from_all 0 high 0 (map live_at live) rise (omega arith));
}

-- then each
pub live_step : (number n : ℕ) (p : Pointer) (start now then : Spool) (live : List Left) (after : Option ℕ) → LiveSoFar number start now live after → next_from (least_above after) live ≡ Some (n, p)
    → Adds number now then (live_bytes (n, p)) → LiveSoFar number start then live (Some n)
live_step number n p start now then live after sits next adds = record {
  bytes = sits.bytes ++ live_bytes (n, p);
  adds = adds_then number start now then sits.bytes (live_bytes (n, p)) sits.adds adds;
  rest = λ high rise few.
      append_assoc sits.bytes (live_bytes (n, p)) (flat_map live_bytes (from (n + 1) (map live_at live)))
      ∙ (ap (λ (l : List (ℕ × Pointer)). sits.bytes ++ flat_map live_bytes l) (sym (live_next (least_above after) 0 high n p live rise next).1)
      ∙ sits.rest high rise few);
}

-- and in the end all
pub live_done : (number : ℕ) (start now : Spool) (live : List Left) (after : Option ℕ) → LiveSoFar number start now live after → next_from (least_above after) live ≡ None
    → (high : ℕ) → Rise 0 high (map live_at live) → length live < 2 ^ 32 → Adds number start now (counted live_bytes (map live_at live))
live_done number start now live after sits none high rise few =
    subst (λ (l : List ℕ). Adds number start now l)
    (sym (append-nil sits.bytes) ∙ (ap (λ (l : List (ℕ × Pointer)). sits.bytes ++ flat_map live_bytes l) (sym (live_end (least_above after) live none)) ∙ sits.rest high rise few))
    sits.adds

-- an item of a list more
pub items_more : {A : Type 0} (number i : ℕ) (a b c : Spool) (f : A → List ℕ) (items : List A) (x : A) → x ≡ get_or items i x → i < length items → Adds number a b (flat_map f (take i items)) → Adds number b c (f x)
    → Adds number a c (flat_map f (take (i + 1) items))
items_more {A = A} number i a b c f items x is less first second =
    subst (λ (l : List ℕ). Adds number a c l)
    (flat_map_more f [] (take i items) x ∙ ap (λ (l : List A). flat_map f l) (ap (λ (y : A). take i items ++ y ∷ []) is ∙ sym (take_more items i x less)))
    (adds_then number a b c (flat_map f (take i items)) (f x) first second)

-- all items of a list
pub items_all : {A : Type 0} (number i : ℕ) (a b : Spool) (f : A → List ℕ) (items : List A) → length items ≤ i → Adds number a b (flat_map f (take i items)) → Adds number a b (flat_map f items)
items_all {A = A} number i a b f items past adds = subst (λ (l : List A). Adds number a b (flat_map f l)) (take_all i items past) adds

-- a transaction's number, how many it lists, and these are its entry
pub entry_added : {A : Type 0} (number txn count : ℕ) (a b c : Spool) (f : A → List ℕ) (items : List A) → nat_eq (length items) 0 ≡ false → count ≡ length items
    → Adds number a b (u64_bytes txn ++ u32_bytes count) → Adds number b c (flat_map f items) → Adds number a c (flat_map (entry_bytes f) (entry_of txn items))
entry_added number txn count a b c f [] some is first second = absurd (cc)
entry_added {A = A} number txn count a b c f (item ∷ items) some is first second =
    let all = flat_map f (item ∷ items) in
    subst (λ (l : List ℕ). Adds number a c l)
    (ap (λ (n : ℕ). (u64_bytes txn ++ u32_bytes n) ++ all) is ∙ (append_assoc (u64_bytes txn) (u32_bytes (length (item ∷ items))) all ∙ sym (append-nil (entry_bytes f (txn, item ∷ items)))))
    (adds_then number a b c (u64_bytes txn ++ u32_bytes count) all first second)

-- Of the transactions that list something those below a number are added.
pub record EntriesSoFar {A : Type 0} (number : ℕ) (f : A → List ℕ) (start now : Spool) (of : ℕ → List A) (after : Option ℕ) : Type 0 where
  pub begun : IsBegun number now
  pub adds : (listed : List (ℕ × List A)) → AreListed of listed → FitCounts listed
      → (done : List ℕ) × Adds number start now done × (done ++ flat_map (entry_bytes f) (from (least_above after) listed) ≡ counted (entry_bytes f) listed)

-- at first their count is
pub entries_begun : {A : Type 0} (number count : ℕ) (f : A → List ℕ) (start now : Spool) (of : ℕ → List A) → IsBegun number now → Adds number start now (u32_bytes count)
    → ((listed : List (ℕ × List A)) → AreListed of listed → length listed < 2 ^ 32 → count ≡ length listed) → EntriesSoFar number f start now of None
entries_begun {A = A} number count f start now of begun adds counts = record {
  begun = begun;
  adds = λ listed are fit. (
    u32_bytes count,
    adds,
    ap (λ (n : ℕ). u32_bytes n ++ flat_map (entry_bytes f) (from 0 listed)) (counts listed are fit.0)
        ∙ ap (λ (l : List (ℕ × List A)). u32_bytes (length listed) ++ flat_map (entry_bytes f) l) (from_all 0 (2 ^ 64) 0 listed are.rise (omega arith)),
  );
}

-- an entry that comes first fits
first_fits : {A : Type 0} (txn : ℕ) (items : List A) (rest listed : List (ℕ × List A)) (low : ℕ) → FitCounts listed → from low listed ≡ entry_of txn items ++ rest → length items < 2 ^ 32
first_fits txn [] rest listed low fit is = omega arith
first_fits {A = A} txn (item ∷ items) rest listed low fit is =
    (subst (λ (l : List (ℕ × List A)). AllByRecursion (λ o. length o.1 < 2 ^ 32) l) is (all_from (λ o. length o.1 < 2 ^ 32) low listed fit.1)).0

-- then each
pub entries_step : {A : Type 0} (number txn : ℕ) (f : A → List ℕ) (start now then : Spool) (of : ℕ → List A) (after : Option ℕ) → EntriesSoFar number f start now of after → least_above after ≤ txn
    → ((t : ℕ) → least_above after ≤ t → t < txn → of t ≡ []) → IsBegun number then → (length (of txn) < 2 ^ 32 → Adds number now then (flat_map (entry_bytes f) (entry_of txn (of txn))))
    → EntriesSoFar number f start then of (Some txn)
entries_step {A = A} number txn f start now then of after sits le none begun adds = record {
  begun = begun;
  adds = λ listed are fit.
      let was = sits.adds listed are fit in
      let next = entry_next of listed (least_above after) txn are le none in
      let entry = flat_map (entry_bytes f) (entry_of txn (of txn)) in (
        was.0 ++ entry,
        adds_then number start now then was.0 entry was.1 (adds (first_fits txn (of txn) (from (txn + 1) listed) listed (least_above after) fit next)),
        append_assoc was.0 entry (flat_map (entry_bytes f) (from (txn + 1) listed))
            ∙ (ap (λ (l : List ℕ). was.0 ++ l) (sym (flat_map-append (entry_bytes f) (entry_of txn (of txn)) (from (txn + 1) listed)))
            ∙ (ap (λ (l : List (ℕ × List A)). was.0 ++ flat_map (entry_bytes f) l) (sym next) ∙ was.2)),
      );
}

-- and in the end all
pub entries_done : {A : Type 0} (number : ℕ) (f : A → List ℕ) (start now : Spool) (of : ℕ → List A) (after : Option ℕ) → EntriesSoFar number f start now of after
    → ((t : ℕ) → least_above after ≤ t → of t ≡ []) → (listed : List (ℕ × List A)) → AreListed of listed → FitCounts listed → Adds number start now (counted (entry_bytes f) listed)
entries_done {A = A} number f start now of after sits none listed are fit =
    let was = sits.adds listed are fit in
    subst (λ (l : List ℕ). Adds number start now l)
    (sym (append-nil was.0) ∙ (ap (λ (l : List (ℕ × List A)). was.0 ++ flat_map (entry_bytes f) l) (sym (entries_end of listed (least_above after) are none)) ∙ was.2)) was.1

-- the entry of equal lists is the same
pub as_listed : {A : Type 0} (number txn : ℕ) (a b : Spool) (f : A → List ℕ) (items other : List A) → items ≡ other → (length items < 2 ^ 32 → Adds number a b (flat_map (entry_bytes f) (entry_of txn items)))
    → length other < 2 ^ 32 → Adds number a b (flat_map (entry_bytes f) (entry_of txn other))
as_listed {A = A} number txn a b f items other same adds = subst (λ (l : List A). length l < 2 ^ 32 → Adds number a b (flat_map (entry_bytes f) (entry_of txn l))) same adds

-- The text that is spooled after the head of a checkpoint, and the three lists.
pub all_added : (number : ℕ) (first second third last : Spool) (head live puts takes : List ℕ) → Holds number first head → Adds number first second live → Adds number second third puts → Adds number third last takes
    → Holds number last (head ++ (live ++ (puts ++ takes)))
all_added number first second third last head live puts takes holds adds_live adds_puts adds_takes =
    adds_then number first second last live (puts ++ takes) adds_live (adds_then number second third last puts takes adds_puts adds_takes) head holds

-- at first the buffer has the head, and nothing is written
pub head_spooled : (number : ℕ) (told : Option Told) (old buffer head : List ℕ) → WhereTold told (λ t. IsWritten t number []) → old ≡ [] → buffer ≡ old ++ head → Holds number (spool told 1 buffer) head
head_spooled number told old buffer head written empty is t told_is = record {
  front = [];
  written = written t told_is;
  at_is = omega arith;
  text_is = sym (is ∙ ap (λ (l : List ℕ). l ++ head) empty);
}

-- what is spooled was begun
pub held_begun : (number : ℕ) (s : Spool) (text : List ℕ) → Holds number s text → IsBegun number s
held_begun number s text holds t told = (text, holds t told)

-- when nothing waits, all is written
pub all_written : (number : ℕ) (told : Option Told) (at : ℕ) (text : List ℕ) → Holds number (spool told at []) text → WhereTold told (λ t. IsWritten t number text)
all_written number told at text holds t told_is =
    let sits = holds t told_is in subst (λ (l : List ℕ). IsWritten t number l) (sym (sits.text_is ∙ append-nil sits.front)) sits.written

-- what was spooled, the file has a front of
pub begun_written : (number : ℕ) (s : Spool) → IsBegun number s → WhereTold s.told (λ t. (text : List ℕ) × IsWritten t number text)
begun_written number s is t told = let sits = (is t told).1 in (sits.front, sits.written)

-- head and lists are the bytes of the checkpoint
pub text_is : (place : Place) (next : Next) (ring : Index) (table : Table) (c : CheckText) → Says place next ring table c
    → head_bytes place next ++ (counted live_bytes (map live_at ring.live) ++ (counted (entry_bytes pointer_bytes) c.puts ++ counted (entry_bytes u64_bytes) c.takes)) ≡ check_bytes c
unfolding check_bytes
text_is place next ring table c says =
    let lists = counted (entry_bytes pointer_bytes) c.puts ++ counted (entry_bytes u64_bytes) c.takes in
    ap (λ (p : Place). head_bytes p next ++ (counted live_bytes (map live_at ring.live) ++ lists)) (sym says.place_is)
    ∙ (ap (λ (n : Next). head_bytes c.place n ++ (counted live_bytes (map live_at ring.live) ++ lists)) (sym says.next_is)
    ∙ ap (λ (l : List (ℕ × Pointer)). head_bytes c.place c.next ++ (counted live_bytes l ++ lists)) (sym says.live))

-- The whole text is written once head and lists were spooled and nothing waits.
pub text_written : (number end : ℕ) (told : Option Told) (first second third last : Spool) (place : Place) (next : Next) (ring : Index) (table : Table) (c : CheckText) → Says place next ring table c
    → Rise 0 next.number c.live → length c.live < 2 ^ 32 → Holds number first (head_bytes place next)
    → ((high : ℕ) → Rise 0 high (map live_at ring.live) → length ring.live < 2 ^ 32 → Adds number first second (counted live_bytes (map live_at ring.live)))
    → Adds number second third (counted (entry_bytes pointer_bytes) c.puts) → Adds number third last (counted (entry_bytes u64_bytes) c.takes) → Adds number last (spool told end []) []
    → WhereTold told (λ t. IsWritten t number (check_bytes c))
text_written number end told first second third last place next ring table c says rise few holds live puts takes passed =
    let few_live : length ring.live < 2 ^ 32 = omega (arith, few, ap length says.live, length-map ring.live live_at) in
    let added = live next.number (subst (λ (l : List (ℕ × Pointer)). Rise 0 next.number l) says.live rise) few_live in
    let whole = all_added number first second third last (head_bytes place next) _ _ _ holds added puts takes in
    all_written number told end (check_bytes c)
    (subst (λ (l : List ℕ). Holds number (spool told end []) l) (append-nil _ ∙ text_is place next ring table c says) (passed _ whole))
