-- What a replay begins with from a checkpoint is kept of the marks of what is open at its start.
use Rattle.std.proofs.Common.{◌⊎◌, inl, inr, ◌≡◌, ◌≢◌, ◌<◌, ◌≤◌, ◌+◌, ◌++◌, ◌∷◌, [], ℕ, List, length, length-append, map, Option, Some, None, Bool, true, false, cond, max, refl, sym, ◌∙◌, ap, subst, arith}
use Rattle.std.specs.Prelude.{◌↔◌, ◌==◌, ◌||◌}
use Rattle.std.proofs.lemmas.Bool.Decides.{eqb_tells, nat_tests}
use Rattle.std.specs.declared.cmp.Ordering.{Ordering}
use Rattle.std.specs.declared.cmp.Ordering.TheVariants.{Less, Equal, Greater}
use Rattle.std.specs.Cmp.{ranks}
use Rattle.std.specs.Ordering.{MatchOrdering, is_eq, nat_cmp}
use Rattle.std.specs.List.{AllByRecursion}
use Rattle.event_core.specs.Content.{Content}
use Rattle.event_core.specs.Journal.{Base, is_among, left, next as next_of}
use Rattle.event_core.specs.declared.journal.Entry.{Entry}
use Rattle.event_core.specs.declared.journal.Entry.TheVariants as entries
use Rattle.record_form.specs.declared.record.Pointer.{Pointer}
use Rattle.record_form.specs.declared.record.Rec.TheVariants.{Put, Take}
use Rattle.event_ring.specs.Slots.{Left}
use Rattle.open_table.specs.Tables.{Listed, Open, Puts, Table, Takes, open_at, puts_of, takes_of}
use Rattle.channel_face.specs.Machine.{entry_of}
use Rattle.channel_face.proofs.LawLemmas.{after_none}
use Rattle.channel_face.specs.Sound.{Rising, times}
use Rattle.channel_face.proofs.Numbers.{among_times, base_rising}
use Rattle.channel_replay.specs.Marks.{Applied, IsHeld, Past, journal, next_txn, numbers_of, opened, removed}
use Rattle.channel_replay.specs.Open.{keys}
use Rattle.channel_replay.specs.Start.{AreApart, IsStart, Start, entry_marks, open_marks, put_marks, start_past, take_marks}
use Rattle.channel_replay.proofs.Among.{among_removed, differ, removed_length}
use Rattle.channel_replay.proofs.Starts.{open_commits_none, start_as_many, start_each, start_ordered}
use Rattle.checkpoint.specs.declared.check.Check.{Check}
use Rattle.checkpoint.specs.declared.place.Next.{Next}
use Rattle.checkpoint.specs.Right.{all_of, number_of}
use Rattle.checkpoint.specs.Says.{listed_at, live_at, puts_in, takes_in}
use Rattle.checkpoint.specs.Stands as checks
use Rattle.checkpoint.specs.Text.{CheckText, Rise}
use Rattle.ring_replay.specs.Indexing.{ArePlaced, AreTaken, HasEntry, HasItems, IsListed, Places}
use Rattle.checkpoint_replay.specs.Checked.{ChecksAreKept, IsPlacedAt, LivePlaced, OpenPlaced}
use Rattle.checkpoint_replay.proofs.Opened.{Has, all_apart, each_has, keys_apart, listed_apart, not_above, once_there, one_takes, open_keys, open_some, rise_apart, some_takes, listed_among, takes_listed}

-- the events

items_of : (places : Places) (live : List Left) (items : List (ℕ × Content)) → LivePlaced places (map live_at live) items → HasItems places live items
items_of places [] [] are = tt
items_of places [] (item ∷ items) are = are
items_of places (l ∷ live) [] are = are
items_of places (l ∷ live) (item ∷ items) are = (are.0, are.1, items_of places live items are.2)

live_rises : (places : Places) (low high : ℕ) (live : List (ℕ × Pointer)) (items : List (ℕ × Content)) → LivePlaced places live items → Rise low high live → low ≤ high → Rising low items high
live_rises places low high [] [] are rise within = within
live_rises places low high [] (item ∷ items) are rise within = absurd are
live_rises places low high (l ∷ live) [] are rise within = absurd are
live_rises places low high (l ∷ live) (item ∷ items) are rise within =
    (omega (arith, rise.0, are.0), subst (λ (n : ℕ). Rising (n + 1) items high) are.0 (live_rises places (l.0 + 1) high live items are.2 rise.2 (omega (arith, rise.1))))

live_numbers : (places : Places) (live : List (ℕ × Pointer)) (items : List (ℕ × Content)) → LivePlaced places live items → map number_of live ≡ map (λ (item : ℕ × Content). item.0) items
live_numbers places [] [] are = refl
live_numbers places [] (item ∷ items) are = absurd are
live_numbers places (l ∷ live) [] are = absurd are
live_numbers places (l ∷ live) (item ∷ items) are = ap (λ (n : ℕ). n ∷ map number_of live) are.0 ∙ ap (λ (ns : List ℕ). item.0 ∷ ns) (live_numbers places live items are.2)

-- the next transaction is above each that is open

puts_below : (txn high : ℕ) (events : List Content) (past : Past) → txn < high → next_txn past ≤ high → next_txn (put_marks txn events past) ≤ high
puts_below txn high [] past less low = low
puts_below txn high (event ∷ events) past less low = puts_below txn high events (Applied (Put txn event) ∷ past) less (grind (arith, less, low))

takes_below : (txn high : ℕ) (numbers : List ℕ) (past : Past) → txn < high → next_txn past ≤ high → next_txn (take_marks txn numbers past) ≤ high
takes_below txn high [] past less low = low
takes_below txn high (number ∷ numbers) past less low = takes_below txn high numbers (Applied (Take txn number) ∷ past) less (grind (arith, less, low))

entry_below : (txn high : ℕ) (entry : Entry) (past : Past) → txn < high → next_txn past ≤ high → next_txn (entry_marks txn entry past) ≤ high
entry_below txn high (entries.Puts events) past less low = puts_below txn high events past less low
entry_below txn high (entries.Takes numbers) past less low = takes_below txn high numbers past less low

marks_below : (places : Places) (low other high : ℕ) (puts : List (ℕ × List Pointer)) (takes : List (ℕ × List ℕ)) (os : List (ℕ × Entry)) (past : Past) → OpenPlaced places puts takes os → Rise low high puts → Rise other high takes
    → next_txn past ≤ high → next_txn (open_marks os past) ≤ high
marks_below places low other high (o ∷ puts) takes [] past are rise rise' below = absurd are
marks_below places low other high (o ∷ puts) takes ((txn, entries.Puts events) ∷ os) past are rise rise' below =
    marks_below places (o.0 + 1) other high puts takes os (entry_marks txn (entries.Puts events) past) are.2 rise.2 rise' (entry_below txn high (entries.Puts events) past (omega (arith, are.0, rise.1)) below)
marks_below places low other high (o ∷ puts) takes ((txn, entries.Takes numbers) ∷ os) past are rise rise' below = absurd are
marks_below places low other high [] (o ∷ takes) [] past are rise rise' below = absurd are
marks_below places low other high [] (o ∷ takes) ((txn, entries.Puts events) ∷ os) past are rise rise' below = absurd are
marks_below places low other high [] (o ∷ takes) ((txn, entries.Takes numbers) ∷ os) past are rise rise' below =
    marks_below places low (o.0 + 1) high [] takes os (entry_marks txn (entries.Takes numbers) past) are.2 rise rise'.2 (entry_below txn high (entries.Takes numbers) past (omega (arith, are.0, rise'.1)) below)
marks_below places low other high [] [] [] past are rise rise' below = below
marks_below places low other high [] [] ((txn, entries.Puts events) ∷ os) past are rise rise' below = absurd are
marks_below places low other high [] [] ((txn, entries.Takes numbers) ∷ os) past are rise rise' below = absurd are

-- each open transaction of the table lists something, as there are no more of them than the checkpoint lists

same_key : (a b : ℕ) → is_eq (nat_cmp a b) ≡ true → a ≡ b
same_key a b is = from (nat_cmp a b) (ranks a b) is
  where
    from : (o : Ordering) → MatchOrdering o (a < b) (a ≡ b) (b < a) → is_eq o ≡ true → a ≡ b
    from Less ranks is' = absurd (cc)
    from Equal ranks is' = ranks
    from Greater ranks is' = absurd (cc)

same_test : (n : ℕ) → (n == n) ≡ true
same_test n = grind (arith, nat_tests)

is_key : (table : Table) (t : ℕ) (o : Open) → open_at table t ≡ Some o → is_among (map number_of table) t ≡ true
is_key [] t o is = absurd (cc)
is_key (x ∷ table) t o is = by_test (is_eq (nat_cmp t x.0)) refl is (is_key table t o)
  where
    by_test : (b : Bool) → is_eq (nat_cmp t x.0) ≡ b → cond b (Some x.1) (open_at table t) ≡ Some o → (open_at table t ≡ Some o → is_among (map number_of table) t ≡ true) → ((x.0 == t) || is_among (map number_of table) t) ≡ true
    by_test true here is' rest = rw (same_key t x.0 here, same_test x.0) refl
    by_test false there is' rest = later (x.0 == t) (rest is')
      where
        later : (b : Bool) → is_among (map number_of table) t ≡ true → (b || is_among (map number_of table) t) ≡ true
        later true rest = refl
        later false rest = rest

-- of numbers that are apart there are no more than of those among which they stand
no_more : (numbers others : List ℕ) → AreApart numbers → ((n : ℕ) → is_among numbers n ≡ true → is_among others n ≡ true) → length numbers ≤ length others
no_more [] others apart within = omega arith
no_more (x ∷ numbers) others apart within =
    let rest = no_more numbers (removed x others) apart.1 still in
    omega (arith, rest, removed_length x others, once)
  where
    head_there : is_among others x ≡ true
    head_there = within x (rw (same_test x) refl)

    once : 1 ≤ times x others
    once = from (among_times x others)
      where
        from : ((is_among others x ≡ true) × (1 ≤ times x others)) ⊎ ((is_among others x ≡ false) × (times x others ≡ 0)) → 1 ≤ times x others
        from (inl there) = there.1
        from (inr none) = absurd (differ (sym head_there ∙ none.0))

    still : (n : ℕ) → is_among numbers n ≡ true → is_among (removed x others) n ≡ true
    still n is = from (eqb_tells x n)
      where
        tail_there : is_among others n ≡ true
        tail_there = within n (later (x == n) is)
          where
            later : (b : Bool) → is_among numbers n ≡ true → (b || is_among numbers n) ≡ true
            later true rest = refl
            later false rest = rest

        from : ((x == n) ≡ true) × (x ≡ n) ⊎ ((x == n) ≡ false) × (x ≢ n) → is_among (removed x others) n ≡ true
        from (inl same) = absurd (differ (sym is ∙ (ap (is_among numbers) (sym same.1) ∙ apart.0)))
        from (inr other) = among_removed x n others ∙ rw other.0 tail_there

-- so where there are as many, each of the others is one of them
all_there : (numbers others : List ℕ) (n : ℕ) → AreApart numbers → ((m : ℕ) → is_among numbers m ≡ true → is_among others m ≡ true) → length others ≡ length numbers → is_among others n ≡ true → is_among numbers n ≡ true
all_there numbers others n apart within as_many is = from (is_among numbers n) refl
  where
    from : (b : Bool) → is_among numbers n ≡ b → b ≡ true
    from true there = refl
    from false none =
        let more = no_more (n ∷ numbers) others (none, apart) within_more in
        absurd (omega (arith, more, as_many))
      where
        within_more : (m : ℕ) → is_among (n ∷ numbers) m ≡ true → is_among others m ≡ true
        within_more m is' = by_test (eqb_tells n m) is'
          where
            by_test : ((n == m) ≡ true) × (n ≡ m) ⊎ ((n == m) ≡ false) × (n ≢ m) → ((n == m) || is_among numbers m) ≡ true → is_among others m ≡ true
            by_test (inl same) which = ap (is_among others) (sym same.1) ∙ is
            by_test (inr other) which = within m (rw other.0 at which)

-- the table has what the checkpoint lists

some_entry : (os : List (ℕ × Entry)) (m : ℕ) → is_among (keys os) m ≡ true → entry_of m os ≡ None → ⊥
some_entry [] m is none = absurd (cc)
some_entry (o ∷ os) m is none = by_test (o.0 == m) is none (some_entry os m)
  where
    by_test : (b : Bool) → (b || is_among (keys os) m) ≡ true → cond b (Some o.1) (entry_of m os) ≡ None → (is_among (keys os) m ≡ true → entry_of m os ≡ None → ⊥) → ⊥
    by_test true is' none' rest = absurd (cc)
    by_test false is' none' rest = rest is' none'

listed_has : (places : Places) (l : Listed) (entry : Entry) (pointers : List Pointer) (numbers : List ℕ) → Has places (Some entry) pointers numbers → pointers ≡ puts_of l → numbers ≡ takes_of l → IsListed places l entry
listed_has places (Puts ps) (entries.Puts events) pointers numbers has p n = subst (λ (l : List Pointer). ArePlaced places l events) p has.0
listed_has places (Puts ps) (entries.Takes taken) pointers numbers has p n = absurd (omega (arith, has.1, ap (λ (l : List ℕ). length l) n))
listed_has places (Takes ns) (entries.Puts events) pointers numbers has p n = absurd (omega (arith, has.1, ap (λ (l : List Pointer). length l) p))
listed_has places (Takes ns) (entries.Takes taken) pointers numbers has p n = sym (has.0 ∙ n)

-- nothing is listed of one that isn't open
none_open : (places : Places) (entry : Entry) (pointers : List Pointer) (numbers : List ℕ) → Has places (Some entry) pointers numbers → pointers ≡ [] → numbers ≡ [] → ⊥
none_open places (entries.Puts events) pointers numbers has p n = absurd (omega (arith, has.1, ap (λ (l : List Pointer). length l) p))
none_open places (entries.Takes taken) pointers numbers has p n = absurd (omega (arith, has.1, ap (λ (l : List ℕ). length l) n))

entry_has : (places : Places) (o : Option Open) (e : Option Entry) (pointers : List Pointer) (numbers : List ℕ) → Has places e pointers numbers → pointers ≡ puts_in o → numbers ≡ takes_in o → ((x : Open) → o ≡ Some x → e ≡ None → ⊥) → HasEntry places o e
entry_has places None None pointers numbers has p n some = tt
entry_has places None (Some entry) pointers numbers has p n some = none_open places entry pointers numbers has p n
entry_has places (Some o) None pointers numbers has p n some = some o refl refl
entry_has places (Some o) (Some entry) pointers numbers has p n some = listed_has places o.listed entry pointers numbers has p n

is_open : (places : Places) (table : Table) (m : ℕ) (e : Option Entry) (pointers : List Pointer) (numbers : List ℕ) → Has places e pointers numbers → pointers ≡ puts_in (open_at table m) → numbers ≡ takes_in (open_at table m) → (e ≡ None → ⊥)
    → is_among (map number_of table) m ≡ true
is_open places table m None pointers numbers has p n some = absurd (some refl)
is_open places table m (Some entry) pointers numbers has p n some = from (open_at table m) refl p n
  where
    from : (o : Option Open) → open_at table m ≡ o → pointers ≡ puts_in o → numbers ≡ takes_in o → is_among (map number_of table) m ≡ true
    from None is p' n' = absurd (none_open places entry pointers numbers has p' n')
    from (Some o) is p' n' = is_key table m o is

-- as many are open as are listed

map_length : {A : Type 0} (xs : List (ℕ × A)) → length (map number_of xs) ≡ length xs
map_length [] = refl
map_length (x ∷ xs) = omega (arith, map_length xs)

keys_length : (os : List (ℕ × Entry)) → length (keys os) ≡ length os
keys_length [] = refl
keys_length (o ∷ os) = omega (arith, keys_length os)

-- a right checkpoint and its start

module _ (check : Check) (c : CheckText) (places : Places) (start : Start) (keeps : checks.Keeps check c) (are : checks.IsOrdered c) (at : IsPlacedAt places c start) where
  apart_keys : AreApart (map number_of c.puts ++ map number_of c.takes)
  apart_keys = keys_apart 1 c.next.txn c.puts c.takes are.put_txns are.take_txns are.apart

  has : (t : ℕ) → Has places (entry_of t start.opened) (listed_at t c.puts) (listed_at t c.takes)
  has t = each_has places c.puts c.takes start.opened t at.opens are.some_puts are.some_takes apart_keys

  apart_takes : AreApart (all_of c.takes)
  apart_takes = all_apart (map number_of c.live) c.takes are.held

  not_taken : (t n : ℕ) → c.next.number ≤ n → is_among (listed_at t c.takes) n ≡ false
  not_taken t n more = from (is_among (listed_at t c.takes) n) refl
    where
      from : (b : Bool) → is_among (listed_at t c.takes) n ≡ b → b ≡ false
      from false is = refl
      from true is = absurd (differ (sym (once_there (map number_of c.live) (all_of c.takes) n are.held (listed_among t n c.takes is)) ∙ not_above 0 c.next.number n c.live are.numbers more))

  start_is : IsStart start
  start_is = record {
    base = base_rising start.base (subst (λ (n : ℕ). Rising 0 start.base.items n) (sym at.number) (live_rises places 0 c.next.number c.live start.base.items at.live are.numbers (omega arith)));
    apart = subst AreApart (sym (open_keys places c.puts c.takes start.opened at.opens)) apart_keys;
    some = open_some places c.puts c.takes start.opened at.opens are.some_puts are.some_takes;
    earlier = λ t n more. ap (λ (l : List ℕ). is_among l n) (takes_listed places (entry_of t start.opened) (listed_at t c.puts) (listed_at t c.takes) (has t)) ∙ not_taken t n (omega (arith, more, at.number));
  }

  abbrev past : Past
  past = start_past start

  taken_is : (t : ℕ) → numbers_of (opened t past) ≡ listed_at t c.takes
  taken_is t = ap numbers_of (start_each start t start_is) ∙ takes_listed places (entry_of t start.opened) (listed_at t c.puts) (listed_at t c.takes) (has t)

  nothing_settled : journal past ≡ []
  nothing_settled = open_commits_none start.opened []

  all_left : left start.base (journal past) ≡ start.base.items
  all_left = ap (left start.base) nothing_settled ∙ ap (λ (b : Base). b.items) (after_none start.base)

  held_to : (n : ℕ) → is_among (all_of c.takes) n ≡ true → IsHeld past n
  held_to n is =
      let t = some_takes n c.takes (rise_apart 1 c.next.txn c.takes are.take_txns) is in
      (t.0, ap (λ (l : List ℕ). is_among l n) (taken_is t.0) ∙ t.2)

  held_from : (n : ℕ) → IsHeld past n → is_among (all_of c.takes) n ≡ true
  held_from n is = listed_among is.0 n c.takes (sym (ap (λ (l : List ℕ). is_among l n) (taken_is is.0)) ∙ is.1)

  all_held : (live : List Left) → AllByRecursion (λ l. l.held ≡ is_among (all_of c.takes) l.number) live → AllByRecursion (λ l. (l.held ≡ true) ↔ IsHeld past l.number) live
  all_held [] all = tt
  all_held (l ∷ live) all = ((λ is. held_to l.number (sym all.0 ∙ is), λ is. all.0 ∙ held_from l.number is), all_held live all.1)

  taken : AreTaken start past
  taken =
      let ordered = start_ordered start start_is in
      record {
        base = start_is.base;
        held_below = ordered.held;
        taken_below = ordered.taken;
        there = λ t n is.
            ap (λ (items : List (ℕ × Content)). is_among (map (λ (item : ℕ × Content). item.0) items) n) all_left
            ∙ (ap (λ (l : List ℕ). is_among l n) (sym (live_numbers places c.live start.base.items at.live))
            ∙ once_there (map number_of c.live) (all_of c.takes) n are.held (held_from n (t, is)));
        once = λ t u n first second. one_takes n t u c.takes apart_takes (sym (ap (λ (l : List ℕ). is_among l n) (taken_is t)) ∙ first) (sym (ap (λ (l : List ℕ). is_among l n) (taken_is u)) ∙ second);
        apart = λ t. subst AreApart (sym (taken_is t)) (listed_apart t c.takes apart_takes);
      }

  abbrev listed_keys : List ℕ
  listed_keys = map number_of c.puts ++ map number_of c.takes

  same_keys : keys start.opened ≡ listed_keys
  same_keys = open_keys places c.puts c.takes start.opened at.opens

  key_open : (m : ℕ) → is_among listed_keys m ≡ true → is_among (map number_of check.table) m ≡ true
  key_open m is =
      is_open places check.table m (entry_of m start.opened) (listed_at m c.puts) (listed_at m c.takes) (has m) (keeps.says.puts.each m) (keeps.says.takes.each m)
      (some_entry start.opened m (ap (λ (l : List ℕ). is_among l m) same_keys ∙ is))

  as_many_keys : length (map number_of check.table) ≡ length listed_keys
  as_many_keys = omega (arith, map_length check.table, keeps.many, length-append (map number_of c.puts) (map number_of c.takes), map_length c.puts, map_length c.takes)

  entries_are : (t : ℕ) → HasEntry places (open_at check.table t) (entry_of t start.opened)
  entries_are t =
      entry_has places (open_at check.table t) (entry_of t start.opened) (listed_at t c.puts) (listed_at t c.takes) (has t) (keeps.says.puts.each t) (keeps.says.takes.each t)
      (λ x is none. gone (sym (ap (λ (l : List ℕ). is_among l t) same_keys) ∙ no_key start.opened none) (all_there listed_keys (map number_of check.table) t apart_keys key_open as_many_keys (is_key check.table t x is)))
    where
      gone : {b : Bool} → b ≡ false → b ≡ true → ⊥
      gone none is = absurd (cc)

      no_key : (os : List (ℕ × Entry)) → entry_of t os ≡ None → is_among (keys os) t ≡ false
      no_key os none = from (is_among (keys os) t) refl
        where
          from : (b : Bool) → is_among (keys os) t ≡ b → b ≡ false
          from false is = refl
          from true is = absurd (some_entry os t is none)

  as_many : length start.opened ≡ length check.table
  as_many = omega (arith, keys_length start.opened, ap (λ (l : List ℕ). length l) same_keys, as_many_keys, map_length check.table)

  txns_below : next_txn past ≤ c.next.txn
  txns_below = marks_below places 1 1 c.next.txn c.puts c.takes start.opened [] at.opens are.put_txns are.take_txns are.next

  greatest : (a b : ℕ) → b ≤ a → a ≡ max a b
  greatest a b less = grind (arith, less)

-- what a replay begins with from a checkpoint is kept, with no marks but those of what is open at its start
pub checks_are_kept : ChecksAreKept
checks_are_kept check c places start index keeps are at of =
    let st = start_is check c places start keeps are at in
    let next : c.next ≡ check.next = keeps.says.next_is in
    record {
      items = subst (λ (live : List Left). HasItems places live (left start.base (journal (start_past start)))) (sym of.live)
          (subst (HasItems places check.ring.live) (sym (all_left check c places start keeps are at)) (items_of places check.ring.live start.base.items (subst (λ (l : List (ℕ × Pointer)). LivePlaced places l start.base.items) keeps.says.live at.live)));
      held = subst (λ (live : List Left). AllByRecursion (λ l. (l.held ≡ true) ↔ IsHeld (start_past start) l.number) live) (sym of.live) (all_held check c places start keeps are at check.ring.live keeps.held);
      slots = of.slots;
      top = omega (arith, of.top, keeps.top, of.number);
      number = omega (arith, of.number, at.number, ap (λ (n : Next). n.number) next, ap (λ (j : List Entry). next_of start.base j) (nothing_settled check c places start keeps are at));
      txn = of.txn ∙ (sym (ap (λ (n : Next). n.txn) next) ∙ (sym at.txn ∙ greatest check c places start keeps are at start.txn (next_txn (start_past start)) (omega (arith, txns_below check c places start keeps are at, at.txn))));
      each = λ t. subst (λ (table : Table). HasEntry places (open_at table t) (opened t (start_past start))) (sym of.table)
          (subst (HasEntry places (open_at check.table t)) (sym (start_each start t st)) (entries_are check c places start keeps are at t));
      as_many = omega (arith, ap (λ (table : Table). length table) of.table, as_many check c places start keeps are at, start_as_many start st);
      taken = taken check c places start keeps are at;
    }
