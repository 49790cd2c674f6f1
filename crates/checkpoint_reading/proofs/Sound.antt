-- What is read without a fault is spelled and right.
use Rattle.std.proofs.Common.{inl, inr, ◌≡◌, ◌<◌, ◌≤◌, ◌+◌, ◌^◌, ◌++◌, ◌∷◌, [], ℕ, zero, suc, List, length, false, refl, sym, ap, subst, ◌∙◌, arith, append_assoc, length-append}
use Rattle.std.specs.Prelude.{codes, flat_map, map}
use Rattle.std.specs.List.{AllByRecursion}
use Rattle.std.proofs.lemmas.List.{append-nil}
use Rattle.flume_host.specs.Folder.{Files}
use Rattle.event_core.specs.Content.{Content}
use Rattle.event_core.specs.Journal.{is_among}
use Rattle.event_core.specs.declared.journal.Entry.{Entry}
use Rattle.event_core.specs.declared.journal.Entry.TheVariants.{Puts, Takes}
use Rattle.event_core.specs.Numbers.{u32_bytes, u64_bytes}
use Rattle.record_form.specs.declared.record.Pointer.{Pointer}
use Rattle.checkpoint.specs.declared.place.Next.{Next}
use Rattle.checkpoint.specs.declared.place.Place.{Place}
use Rattle.checkpoint.specs.Right.{AreApartFrom, AreOnceAmong, EventsAre, HasSome, IsRightText, LiveAre, OpenAre, PutIn, all_of, number_of}
use Rattle.checkpoint.specs.Text.{CheckText, Rise, check_bytes, counted, entry_bytes, head_bytes, live_bytes, pointer_bytes}
use Rattle.checkpoint_reading.specs.Fields.{Bad, Good, IsLive, IsOpenPut, IsOpenTake, IsPlace, IsPut, ListsGive, LiveGive, PutsGive, TakesGive, head_text, with_live, with_put, with_take}
use Rattle.checkpoint_reading.specs.Laws.{ReadIsRight}

good_bad : (c : CheckText) (bytes : List ℕ) → Good c ≡ Bad bytes → ⊥
good_bad c bytes same = cc

good_same : (c d : CheckText) → Good c ≡ Good d → c ≡ d
good_same c d same = cc

-- one more after numbers that rise
pub rise_more : {A : Type 0} (low high : ℕ) (xs : List (ℕ × A)) (x : ℕ × A) → Rise low high xs → low ≤ high → high ≤ x.0 → Rise low (x.0 + 1) (xs ++ x ∷ [])
rise_more low high [] x rise less above = (omega (arith, less, above), omega arith, tt)
rise_more low high (y ∷ xs) x rise less above = (rise.0, omega (arith, rise.1, above), rise_more (y.0 + 1) high xs x rise.2 (omega (arith, rise.1)) above)

-- numbers that stay below one stay below a greater one
pub rise_within : {A : Type 0} (low high top : ℕ) (xs : List (ℕ × A)) → Rise low high xs → high ≤ top → Rise low top xs
rise_within low high top [] rise le = tt
rise_within low high top (x ∷ xs) rise le = (rise.0, omega (arith, rise.1, le), rise_within (x.0 + 1) high top xs rise.2 le)

-- one more of what all are
pub all_more : {A : Type 0} (P : A → Type 0) (xs : List A) (x : A) → AllByRecursion P xs → P x → AllByRecursion P (xs ++ x ∷ [])
all_more P [] x all is = (is, tt)
all_more P (y ∷ xs) x all is = (all.0, all_more P xs x all.1 is)

-- the numbers with one more
pub map_more : {A : Type 0} (xs : List (ℕ × A)) (x : ℕ × A) → map number_of (xs ++ x ∷ []) ≡ map number_of xs ++ x.0 ∷ []
map_more [] x = refl
map_more (y ∷ xs) x = ap (λ (l : List ℕ). y.0 ∷ l) (map_more xs x)

-- what is listed with one more
pub all_of_more : {A : Type 0} (takes : List (ℕ × List A)) (o : ℕ × List A) → all_of (takes ++ o ∷ []) ≡ all_of takes ++ o.1
all_of_more [] o = append-nil o.1
all_of_more {A} (x ∷ takes) o = ap (λ (l : List A). x.1 ++ l) (all_of_more takes o) ∙ sym (append_assoc x.1 (all_of takes) o.1)

-- the rules of a text up to these open takes
record TakesOn (c : CheckText) (low : ℕ) : Type 0 where
  from : 1 ≤ low
  upto : low ≤ c.next.txn
  rise : Rise 1 low c.takes
  few : length c.puts + length c.takes ≤ 1024
  some : AllByRecursion HasSome c.takes
  counts : AllByRecursion (λ o. length o.1 < 2 ^ 32) c.takes
  apart : AreApartFrom (map number_of c.puts) (map number_of c.takes)
  held : AreOnceAmong (map number_of c.live) (all_of c.takes)

-- and the bytes of those that follow, to a text
record TakesEnd (c d : CheckText) (n : ℕ) (bytes : List ℕ) : Type 0 where
  more : List (ℕ × List ℕ)
  many : length more ≡ n
  split : bytes ≡ flat_map (entry_bytes u64_bytes) more
  is : d ≡ record c { takes = c.takes ++ more }
  low : ℕ
  on : TakesOn d low

take_on : (c : CheckText) (low : ℕ) (o : ℕ × List ℕ) → TakesOn c low → IsOpenTake c low o → TakesOn (with_take c o) (o.0 + 1)
take_on c low o on right = record {
  from = omega arith;
  upto = omega (arith, right.entry.below);
  rise = rise_more 1 low c.takes o on.rise on.from right.entry.above;
  few = omega (arith, right.entry.few, length-append c.takes (o ∷ []));
  some = all_more HasSome c.takes o on.some right.entry.some;
  counts = all_more (λ o. length o.1 < 2 ^ 32) c.takes o on.counts right.entry.count;
  apart = subst (λ (l : List ℕ). AreApartFrom (map number_of c.puts) l) (sym (map_more c.takes o)) (all_more (λ n. is_among (map number_of c.puts) n ≡ false) (map number_of c.takes) o.0 on.apart right.apart);
  held = subst (λ (l : List ℕ). AreOnceAmong (map number_of c.live) l) (sym (all_of_more c.takes o)) right.held;
}

takes_good : (c d : CheckText) (low n : ℕ) (bytes : List ℕ) → TakesOn c low → TakesGive (Good d) c low n bytes → TakesEnd c d n bytes
takes_good c d low zero bytes on (inl end) =
    let same : d ≡ c = good_same d c end.1 in
    record { more = []; many = refl; split = end.0; is = same ∙ ap (λ (l : List (ℕ × List ℕ)). record c { takes = l }) (sym (append-nil c.takes)); low = low; on = subst (λ (e : CheckText). TakesOn e low) (sym same) on }
takes_good c d low zero bytes on (inr none) = absurd (good_bad d bytes none.1)
takes_good c d low (suc n) bytes on (inl f) =
    let o : ℕ × List ℕ = f.0 in
    let e = takes_good (with_take c o) d (o.0 + 1) n f.1 (take_on c low o on f.3) f.4 in
    record {
      more = o ∷ e.more;
      many = omega (arith, e.many);
      split = f.2 ∙ ap (λ (l : List ℕ). entry_bytes u64_bytes o ++ l) e.split;
      is = e.is ∙ ap (λ (l : List (ℕ × List ℕ)). record c { takes = l }) (append_assoc c.takes (o ∷ []) e.more);
      low = e.low;
      on = e.on;
    }
takes_good c d low (suc n) bytes on (inr none) = absurd (good_bad d bytes none.1)

-- the rules up to these open puts
record PutsOn (files : Files) (c : CheckText) (low : ℕ) : Type 0 where
  from : 1 ≤ low
  upto : low ≤ c.next.txn
  rise : Rise 1 low c.puts
  few : length c.puts + length c.takes ≤ 1024
  some : AllByRecursion HasSome c.puts
  counts : AllByRecursion (λ o. length o.1 < 2 ^ 32) c.puts
  stand : AllByRecursion (λ o. AllByRecursion (IsPut files o.0) o.1) c.puts
  none : c.takes ≡ []

record PutsEnd (files : Files) (c d : CheckText) (n : ℕ) (bytes : List ℕ) : Type 0 where
  more : List (ℕ × List Pointer)
  takes : List (ℕ × List ℕ)
  many : length more ≡ n
  few : length takes < 2 ^ 32
  split : bytes ≡ flat_map (entry_bytes pointer_bytes) more ++ counted (entry_bytes u64_bytes) takes
  is : d ≡ record c { puts = c.puts ++ more; takes = takes }
  put_low : ℕ
  puts : PutsOn files (record c { puts = c.puts ++ more }) put_low
  take_low : ℕ
  on : TakesOn d take_low

put_on : (files : Files) (c : CheckText) (low : ℕ) (o : ℕ × List Pointer) → PutsOn files c low → IsOpenPut files c low o → PutsOn files (with_put c o) (o.0 + 1)
put_on files c low o on right = record {
  from = omega arith;
  upto = omega (arith, right.entry.below);
  rise = rise_more 1 low c.puts o on.rise on.from right.entry.above;
  few = omega (arith, right.entry.few, length-append c.puts (o ∷ []));
  some = all_more HasSome c.puts o on.some right.entry.some;
  counts = all_more (λ o. length o.1 < 2 ^ 32) c.puts o on.counts right.entry.count;
  stand = all_more (λ o. AllByRecursion (IsPut files o.0) o.1) c.puts o on.stand right.puts;
  none = on.none;
}

no_takes : (files : Files) (c : CheckText) (low : ℕ) → PutsOn files c low → TakesOn c 1
no_takes files c low on = record {
  from = omega arith;
  upto = omega (arith, on.from, on.upto);
  rise = subst (λ (l : List (ℕ × List ℕ)). Rise 1 1 l) (sym on.none) tt;
  few = on.few;
  some = subst (λ (l : List (ℕ × List ℕ)). AllByRecursion HasSome l) (sym on.none) tt;
  counts = subst (λ (l : List (ℕ × List ℕ)). AllByRecursion (λ o. length o.1 < 2 ^ 32) l) (sym on.none) tt;
  apart = subst (λ (l : List (ℕ × List ℕ)). AreApartFrom (map number_of c.puts) (map number_of l)) (sym on.none) tt;
  held = subst (λ (l : List (ℕ × List ℕ)). AreOnceAmong (map number_of c.live) (all_of l)) (sym on.none) tt;
}

puts_good : (files : Files) (c d : CheckText) (low n : ℕ) (bytes : List ℕ) → PutsOn files c low → PutsGive files (Good d) c low n bytes → PutsEnd files c d n bytes
puts_good files c d low zero bytes on (inl f) =
    let e = takes_good c d 1 f.0 f.1 (no_takes files c low on) f.4 in
    record {
      more = [];
      takes = e.more;
      many = refl;
      few = subst (λ (k : ℕ). k < 2 ^ 32) (sym e.many) f.3;
      split = f.2 ∙ (ap (λ (k : ℕ). u32_bytes k ++ f.1) (sym e.many) ∙ ap (λ (l : List ℕ). u32_bytes (length e.more) ++ l) e.split);
      is = e.is ∙ (ap (λ (l : List (ℕ × List ℕ)). record c { takes = l ++ e.more }) on.none ∙ ap (λ (l : List (ℕ × List Pointer)). record c { puts = l; takes = e.more }) (sym (append-nil c.puts)));
      put_low = low;
      puts = subst (λ (l : List (ℕ × List Pointer)). PutsOn files (record c { puts = l }) low) (sym (append-nil c.puts)) on;
      take_low = e.low;
      on = e.on;
    }
puts_good files c d low zero bytes on (inr none) = absurd (good_bad d bytes none.1)
puts_good files c d low (suc n) bytes on (inl f) =
    let o : ℕ × List Pointer = f.0 in
    let e = puts_good files (with_put c o) d (o.0 + 1) n f.1 (put_on files c low o on f.3) f.4 in
    record {
      more = o ∷ e.more;
      takes = e.takes;
      many = omega (arith, e.many);
      few = e.few;
      split = f.2 ∙ (ap (λ (l : List ℕ). entry_bytes pointer_bytes o ++ l) e.split ∙ sym (append_assoc (entry_bytes pointer_bytes o) (flat_map (entry_bytes pointer_bytes) e.more) (counted (entry_bytes u64_bytes) e.takes)));
      is = e.is ∙ ap (λ (l : List (ℕ × List Pointer)). record c { puts = l; takes = e.takes }) (append_assoc c.puts (o ∷ []) e.more);
      put_low = e.put_low;
      puts = subst (λ (l : List (ℕ × List Pointer)). PutsOn files (record c { puts = l }) e.put_low) (append_assoc c.puts (o ∷ []) e.more) e.puts;
      take_low = e.take_low;
      on = e.on;
    }
puts_good files c d low (suc n) bytes on (inr none) = absurd (good_bad d bytes none.1)

-- the rules up to these events that are left
record LiveOn (files : Files) (c : CheckText) (low : ℕ) : Type 0 where
  upto : low ≤ c.next.number
  rise : Rise 0 low c.live
  txn : 1 ≤ c.next.txn
  stand : AllByRecursion (λ l. (event : Content) × PutIn files l.1 event) c.live
  no_puts : c.puts ≡ []
  no_takes : c.takes ≡ []

record LiveEnd (files : Files) (c d : CheckText) (n : ℕ) (bytes : List ℕ) : Type 0 where
  more : List (ℕ × Pointer)
  puts : List (ℕ × List Pointer)
  takes : List (ℕ × List ℕ)
  many : length more ≡ n
  few_puts : length puts < 2 ^ 32
  few_takes : length takes < 2 ^ 32
  split : bytes ≡ flat_map live_bytes more ++ (counted (entry_bytes pointer_bytes) puts ++ counted (entry_bytes u64_bytes) takes)
  is : d ≡ record c { live = c.live ++ more; puts = puts; takes = takes }
  live_low : ℕ
  live : LiveOn files (record c { live = c.live ++ more }) live_low
  put_low : ℕ
  puts_on : PutsOn files (record c { live = c.live ++ more; puts = puts }) put_low
  take_low : ℕ
  on : TakesOn d take_low

live_on : (files : Files) (c : CheckText) (low : ℕ) (l : ℕ × Pointer) → LiveOn files c low → IsLive files c low l → LiveOn files (with_live c l) (l.0 + 1)
live_on files c low l on right = record {
  upto = omega (arith, right.below);
  rise = rise_more 0 low c.live l on.rise (omega arith) right.above;
  txn = on.txn;
  stand = all_more (λ l. (event : Content) × PutIn files l.1 event) c.live l on.stand (right.event, right.stands);
  no_puts = on.no_puts;
  no_takes = on.no_takes;
}

no_puts : (files : Files) (c : CheckText) (low : ℕ) → LiveOn files c low → PutsOn files c 1
no_puts files c low on = record {
  from = omega arith;
  upto = on.txn;
  rise = subst (λ (l : List (ℕ × List Pointer)). Rise 1 1 l) (sym on.no_puts) tt;
  few = omega (arith, ap (λ (l : List (ℕ × List Pointer)). length l) on.no_puts, ap (λ (l : List (ℕ × List ℕ)). length l) on.no_takes);
  some = subst (λ (l : List (ℕ × List Pointer)). AllByRecursion HasSome l) (sym on.no_puts) tt;
  counts = subst (λ (l : List (ℕ × List Pointer)). AllByRecursion (λ o. length o.1 < 2 ^ 32) l) (sym on.no_puts) tt;
  stand = subst (λ (l : List (ℕ × List Pointer)). AllByRecursion (λ o. AllByRecursion (IsPut files o.0) o.1) l) (sym on.no_puts) tt;
  none = on.no_takes;
}

live_good : (files : Files) (c d : CheckText) (low n : ℕ) (bytes : List ℕ) → LiveOn files c low → LiveGive files (Good d) c low n bytes → LiveEnd files c d n bytes
live_good files c d low zero bytes on (inl f) =
    let e = puts_good files c d 1 f.0 f.1 (no_puts files c low on) f.4 in
    record {
      more = [];
      puts = e.more;
      takes = e.takes;
      many = refl;
      few_puts = subst (λ (k : ℕ). k < 2 ^ 32) (sym e.many) f.3;
      few_takes = e.few;
      split = f.2 ∙ (ap (λ (k : ℕ). u32_bytes k ++ f.1) (sym e.many) ∙ (ap (λ (l : List ℕ). u32_bytes (length e.more) ++ l) e.split
          ∙ sym (append_assoc (u32_bytes (length e.more)) (flat_map (entry_bytes pointer_bytes) e.more) (counted (entry_bytes u64_bytes) e.takes))));
      is = e.is ∙ (ap (λ (l : List (ℕ × List Pointer)). record c { puts = l ++ e.more; takes = e.takes }) on.no_puts ∙ ap (λ (l : List (ℕ × Pointer)). record c { live = l; puts = e.more; takes = e.takes }) (sym (append-nil c.live)));
      live_low = low;
      live = subst (λ (l : List (ℕ × Pointer)). LiveOn files (record c { live = l }) low) (sym (append-nil c.live)) on;
      put_low = e.put_low;
      puts_on = subst (λ (l : List (ℕ × Pointer)). PutsOn files (record c { live = l; puts = e.more }) e.put_low) (sym (append-nil c.live)) (subst (λ (l : List (ℕ × List Pointer)). PutsOn files (record c { puts = l ++ e.more }) e.put_low) on.no_puts e.puts);
      take_low = e.take_low;
      on = e.on;
    }
live_good files c d low zero bytes on (inr none) = absurd (good_bad d bytes none.1)
live_good files c d low (suc n) bytes on (inl f) =
    let l : ℕ × Pointer = f.0 in
    let e = live_good files (with_live c l) d (l.0 + 1) n f.1 (live_on files c low l on f.3) f.4 in
    record {
      more = l ∷ e.more;
      puts = e.puts;
      takes = e.takes;
      many = omega (arith, e.many);
      few_puts = e.few_puts;
      few_takes = e.few_takes;
      split = f.2 ∙ (ap (λ (r : List ℕ). live_bytes l ++ r) e.split ∙ sym (append_assoc (live_bytes l) (flat_map live_bytes e.more) (counted (entry_bytes pointer_bytes) e.puts ++ counted (entry_bytes u64_bytes) e.takes)));
      is = e.is ∙ ap (λ (r : List (ℕ × Pointer)). record c { live = r; puts = e.puts; takes = e.takes }) (append_assoc c.live (l ∷ []) e.more);
      live_low = e.live_low;
      live = subst (λ (r : List (ℕ × Pointer)). LiveOn files (record c { live = r }) e.live_low) (append_assoc c.live (l ∷ []) e.more) e.live;
      put_low = e.put_low;
      puts_on = subst (λ (r : List (ℕ × Pointer)). PutsOn files (record c { live = r; puts = e.puts }) e.put_low) (append_assoc c.live (l ∷ []) e.more) e.puts_on;
      take_low = e.take_low;
      on = e.on;
    }
live_good files c d low (suc n) bytes on (inr none) = absurd (good_bad d bytes none.1)

live_left : (files : Files) (live : List (ℕ × Pointer)) → AllByRecursion (λ l. (event : Content) × PutIn files l.1 event) live → (left : List (ℕ × Content)) × LiveAre files live left
live_left files [] all = ([], tt)
live_left files (l ∷ live) all =
    let r = live_left files live all.1 in
    ((l.0, all.0.0) ∷ r.0, (refl, all.0.1, r.1))

put_events : (files : Files) (txn : ℕ) (pointers : List Pointer) → AllByRecursion (IsPut files txn) pointers → (events : List Content) × EventsAre files txn pointers events
put_events files txn [] all = ([], tt)
put_events files txn (p ∷ pointers) all =
    let r = put_events files txn pointers all.1 in
    (all.0.1 ∷ r.0, (all.0.2, r.1))

takes_open : (files : Files) (takes : List (ℕ × List ℕ)) → (opened : List (ℕ × Entry)) × OpenAre files [] takes opened
takes_open files [] = ([], tt)
takes_open files (o ∷ takes) =
    let r = takes_open files takes in
    ((o.0, Takes o.1) ∷ r.0, (refl, refl, r.1))

all_open : (files : Files) (puts : List (ℕ × List Pointer)) (takes : List (ℕ × List ℕ)) → AllByRecursion (λ o. AllByRecursion (IsPut files o.0) o.1) puts → (opened : List (ℕ × Entry)) × OpenAre files puts takes opened
all_open files [] takes all = takes_open files takes
all_open files (o ∷ puts) takes all =
    let events = put_events files o.0 o.1 all.0 in
    let r = all_open files puts takes all.1 in
    ((o.0, Puts events.0) ∷ r.0, (refl, events.1, r.1))

abbrev lists_of : CheckText → List ℕ
lists_of c = counted live_bytes c.live ++ (counted (entry_bytes pointer_bytes) c.puts ++ counted (entry_bytes u64_bytes) c.takes)

-- the text that the lists after a head end with
record ListsEnd (files : Files) (d : CheckText) (place : Place) (next : Next) (bytes : List ℕ) : Type 0 where
  text : CheckText
  is : d ≡ text
  place_is : text.place ≡ place
  next_is : text.next ≡ next
  split : bytes ≡ lists_of text
  right : IsRightText files text

lists_good : (files : Files) (d : CheckText) (place : Place) (next : Next) (bytes : List ℕ) → IsPlace files place → 1 ≤ next.txn → ListsGive files (Good d) place next bytes → ListsEnd files d place next bytes
lists_good files d place next bytes there some (inr none) = absurd (good_bad d bytes none.1)
lists_good files d place next bytes there some (inl f) =
    let e = live_good files (head_text place next) d 0 f.0 f.1 (record { upto = omega arith; rise = tt; txn = some; stand = tt; no_puts = refl; no_takes = refl }) f.4 in
    let text : CheckText = record { place = place; next = next; live = e.more; puts = e.puts; takes = e.takes } in
    let on : TakesOn text e.take_low = subst (λ (c : CheckText). TakesOn c e.take_low) e.is e.on in
    let left = live_left files e.more e.live.stand in
    let opened = all_open files e.puts e.takes e.puts_on.stand in
    record {
      text = text;
      is = e.is;
      place_is = refl;
      next_is = refl;
      split = f.2 ∙ (ap (λ (k : ℕ). u32_bytes k ++ f.1) (sym e.many) ∙ (ap (λ (l : List ℕ). u32_bytes (length e.more) ++ l) e.split
          ∙ sym (append_assoc (u32_bytes (length e.more)) (flat_map live_bytes e.more) (counted (entry_bytes pointer_bytes) e.puts ++ counted (entry_bytes u64_bytes) e.takes))));
      right = record {
        left = left.0;
        opened = opened.0;
        right = record {
          place = there.1;
          numbers = rise_within 0 e.live_low next.number e.more e.live.rise e.live.upto;
          next = some;
          put_txns = rise_within 1 e.put_low next.txn e.puts e.puts_on.rise e.puts_on.upto;
          take_txns = rise_within 1 e.take_low next.txn e.takes on.rise on.upto;
          apart = on.apart;
          few = on.few;
          some_puts = e.puts_on.some;
          some_takes = on.some;
          held = on.held;
          few_live = subst (λ (k : ℕ). k < 2 ^ 32) (sym e.many) f.3;
          puts_fit = (e.few_puts, e.puts_on.counts);
          takes_fit = (e.few_takes, on.counts);
          live = left.1;
          opens = opened.1;
        };
      };
    }

joined : (bytes text m1 m2 m3 m4 m5 m6 lists tag : List ℕ) (form file at number txn : ℕ) → bytes ≡ text ++ m1 → text ≡ tag → m1 ≡ u32_bytes form ++ m2 → form ≡ 1 → m2 ≡ u32_bytes file ++ m3 → m3 ≡ u64_bytes at ++ m4
    → m4 ≡ u64_bytes number ++ m5 → m5 ≡ u64_bytes txn ++ m6 → m6 ≡ lists → bytes ≡ tag ++ (u32_bytes 1 ++ (u32_bytes file ++ (u64_bytes at ++ (u64_bytes number ++ (u64_bytes txn ++ lists)))))
joined bytes text m1 m2 m3 m4 m5 m6 lists tag form file at number txn a b c d e f g h i = cc

regroup : (a b c d e f g : List ℕ) → (a ++ (b ++ (c ++ (d ++ (e ++ f))))) ++ g ≡ a ++ (b ++ (c ++ (d ++ (e ++ (f ++ g)))))
regroup a b c d e f g = simp append_assoc

-- a text with this head and these lists
spelled : (text : CheckText) (file at number txn : ℕ) (bytes : List ℕ) → text.place ≡ record { file = file; at = at } → text.next ≡ record { number = number; txn = txn }
    → bytes ≡ codes "FLUMECHK" ++ (u32_bytes 1 ++ (u32_bytes file ++ (u64_bytes at ++ (u64_bytes number ++ (u64_bytes txn ++ lists_of text))))) → bytes ≡ check_bytes text
unfolding check_bytes
spelled text file at number txn bytes place next is =
    is ∙ (sym (regroup (codes "FLUMECHK") (u32_bytes 1) (u32_bytes file) (u64_bytes at) (u64_bytes number) (u64_bytes txn) (lists_of text))
    ∙ (ap (λ (p : Place). head_bytes p (record { number = number; txn = txn }) ++ lists_of text) (sym place) ∙ ap (λ (n : Next). head_bytes text.place n ++ lists_of text) (sym next)))

-- each field was right, and what is after it gave the rest
pub read_is_right : ReadIsRight
read_is_right files bytes c (inr none) = absurd (good_bad c bytes none.1)
read_is_right files bytes c (inl (text, m1, is1, tag, inr none)) = absurd (good_bad c m1 none.1)
read_is_right files bytes c (inl (text, m1, is1, tag, inl (form, m2, is2, one, inr none))) = absurd (good_bad c m2 none.1)
read_is_right files bytes c (inl (text, m1, is1, tag, inl (form, m2, is2, one, inl (file, m3, is3, there, inr none)))) = absurd (good_bad c m3 none.1)
read_is_right files bytes c (inl (text, m1, is1, tag, inl (form, m2, is2, one, inl (file, m3, is3, there, inl (at, m4, is4, place, inr none))))) = absurd (good_bad c m4 none.1)
read_is_right files bytes c (inl (text, m1, is1, tag, inl (form, m2, is2, one, inl (file, m3, is3, there, inl (at, m4, is4, place, inl (number, m5, is5, fits, inr none)))))) = absurd (good_bad c m5 none.1)
read_is_right files bytes c (inl (text, m1, is1, tag, inl (form, m2, is2, one, inl (file, m3, is3, there, inl (at, m4, is4, place, inl (number, m5, is5, fits, inl (txn, m6, is6, some, lists))))))) =
    let e = lists_good files c (record { file = file; at = at }) (record { number = number; txn = txn }) m6 place some.0 lists in (
      spelled e.text file at number txn bytes e.place_is e.next_is (joined bytes text m1 m2 m3 m4 m5 m6 (lists_of e.text) (codes "FLUMECHK") form file at number txn is1 tag is2 one is3 is4 is5 is6 e.split)
          ∙ ap check_bytes (sym e.is),
      subst (λ (d : CheckText). IsRightText files d) (sym e.is) e.right,
    )
