-- What is spelled and right is read.
use Rattle.std.proofs.Common.{inl, ◌≡◌, ◌<◌, ◌≤◌, ◌+◌, ◌^◌, ◌++◌, ◌∷◌, [], ℕ, zero, List, length, false, refl, sym, ap, subst, ◌∙◌, arith, append_assoc, length-append}
use Rattle.std.specs.Prelude.{codes, flat_map, map, IsSome, IsSomeAnd, Option, Some, None}
use Rattle.std.specs.List.{AllByRecursion}
use Rattle.std.proofs.lemmas.List.{append-nil}
use Rattle.flume_host.specs.Folder.{Files}
use Rattle.flume_host.specs.declared.names.FileName.TheVariants.{Log}
use Rattle.event_core.specs.Content.{Content}
use Rattle.event_core.specs.Journal.{is_among}
use Rattle.event_core.specs.declared.journal.Entry.{Entry}
use Rattle.event_core.specs.declared.journal.Entry.TheVariants.{Puts, Takes}
use Rattle.event_core.specs.Numbers.{u32_bytes, u64_bytes}
use Rattle.record_form.specs.declared.record.Pointer.{Pointer}
use Rattle.checkpoint.specs.Right.{AreApartFrom, AreOnceAmong, EventsAre, HasSome, IsRight, LiveAre, OpenAre, PutIn, all_of, number_of}
use Rattle.checkpoint.specs.Text.{CheckText, Rise, check_bytes, counted, entry_bytes, live_bytes, pointer_bytes}
use Rattle.checkpoint_reading.specs.Fields.{Bad, FitsFields, Good, Is64, IsPut, LiveGive, PutsGive, TakesGive, head_text, with_live, with_put, with_take}
use Rattle.checkpoint_reading.specs.Laws.{FaultIsWrong, Fits, RightIsRead}
use Rattle.checkpoint_reading.proofs.Unique.{one_outcome}

-- the text with these open takes after
abbrev takes_on : CheckText → List (ℕ × List ℕ) → CheckText
takes_on c more = record c { takes = c.takes ++ more }

abbrev puts_on : CheckText → List (ℕ × List Pointer) → CheckText
puts_on c more = record c { puts = c.puts ++ more }

abbrev live_on : CheckText → List (ℕ × Pointer) → CheckText
live_on c more = record c { live = c.live ++ more }

-- what is once among others in front
once_front : (others xs ys : List ℕ) → AreOnceAmong others (xs ++ ys) → AreOnceAmong others xs
once_front others [] ys once = tt
once_front others (x ∷ xs) ys once = (once.0, not_among xs ys x once.1, once_front others xs ys once.2)
  where
    not_among : (xs ys : List ℕ) (n : ℕ) → is_among (xs ++ ys) n ≡ false → is_among xs n ≡ false
    not_among [] ys n none = refl
    not_among (x ∷ xs) ys n none = grind (arith, none, not_among xs ys n)

-- open takes that are right after a text
record TakesTo (c : CheckText) (low : ℕ) (more : List (ℕ × List ℕ)) : Type 0 where
  rise : Rise low c.next.txn more
  txn : Is64 c.next.txn
  few : length c.puts + (length c.takes + length more) ≤ 1024
  some : AllByRecursion HasSome more
  counts : AllByRecursion (λ o. length o.1 < 2 ^ 32) more
  apart : AreApartFrom (map number_of c.puts) (map number_of more)
  held : AreOnceAmong (map number_of c.live) (all_of c.takes ++ all_of more)
  fits : AllByRecursion (λ o. AllByRecursion Is64 o.1) more

all_one : (takes : List (ℕ × List ℕ)) (o : ℕ × List ℕ) → all_of (takes ++ o ∷ []) ≡ all_of takes ++ o.1
all_one [] o = append-nil o.1
all_one (x ∷ takes) o = ap (λ (l : List ℕ). x.1 ++ l) (all_one takes o) ∙ sym (append_assoc x.1 (all_of takes) o.1)

takes_read : (c : CheckText) (low : ℕ) (more : List (ℕ × List ℕ)) → TakesTo c low more → TakesGive (Good (takes_on c more)) c low (length more) (flat_map (entry_bytes u64_bytes) more)
takes_read c low [] to = inl (refl, ap (λ (l : List (ℕ × List ℕ)). Good (record c { takes = l })) (append-nil c.takes))
takes_read c low (o ∷ more) to =
    inl (
      o,
      flat_map (entry_bytes u64_bytes) more,
      refl,
      record {
        entry = record { above = to.rise.0; below = to.rise.1; fits = omega (arith, to.rise.1, to.txn); few = omega (arith, to.few); some = to.some.0; count = to.counts.0 };
        apart = to.apart.0;
        numbers = to.fits.0;
        held = once_front (map number_of c.live) (all_of c.takes ++ o.1) (all_of more) (subst (λ (l : List ℕ). AreOnceAmong (map number_of c.live) l) (sym (append_assoc (all_of c.takes) o.1 (all_of more))) to.held);
      },
      subst (λ (l : List (ℕ × List ℕ)). TakesGive (Good (record c { takes = l })) (with_take c o) (o.0 + 1) (length more) (flat_map (entry_bytes u64_bytes) more)) (append_assoc c.takes (o ∷ []) more)
          (takes_read (with_take c o) (o.0 + 1) more (record {
            rise = to.rise.2;
            txn = to.txn;
            few = omega (arith, to.few, length-append c.takes (o ∷ []));
            some = to.some.1;
            counts = to.counts.1;
            apart = to.apart.1;
            held = subst (λ (l : List ℕ). AreOnceAmong (map number_of c.live) l) (sym (ap (λ (l : List ℕ). l ++ all_of more) (all_one c.takes o) ∙ append_assoc (all_of c.takes) o.1 (all_of more))) to.held;
            fits = to.fits.1;
          })),
    )

-- what stands after the events that are left
abbrev takes_bytes : CheckText → List ℕ
takes_bytes c = counted (entry_bytes u64_bytes) c.takes

-- open puts that are right after a text, and the open takes after them
record PutsTo (files : Files) (c : CheckText) (low : ℕ) (more : List (ℕ × List Pointer)) (takes : List (ℕ × List ℕ)) : Type 0 where
  rise : Rise low c.next.txn more
  txn : Is64 c.next.txn
  few : length c.puts + (length c.takes + length more) ≤ 1024
  some : AllByRecursion HasSome more
  counts : AllByRecursion (λ o. length o.1 < 2 ^ 32) more
  stand : AllByRecursion (λ o. AllByRecursion (IsPut files o.0) o.1) more
  many : length takes < 2 ^ 32
  behind : TakesTo (puts_on c more) 1 takes

puts_read : (files : Files) (c : CheckText) (low : ℕ) (more : List (ℕ × List Pointer)) (takes : List (ℕ × List ℕ)) → PutsTo files c low more takes
    → PutsGive files (Good (takes_on (puts_on c more) takes)) c low (length more) (flat_map (entry_bytes pointer_bytes) more ++ counted (entry_bytes u64_bytes) takes)
puts_read files c low [] takes to =
    subst (λ (l : List (ℕ × List Pointer)). PutsGive files (Good (takes_on (record c { puts = l }) takes)) c low zero (counted (entry_bytes u64_bytes) takes)) (sym (append-nil c.puts))
    (inl (length takes, flat_map (entry_bytes u64_bytes) takes, refl, to.many, takes_read c 1 takes (subst (λ (l : List (ℕ × List Pointer)). TakesTo (record c { puts = l }) 1 takes) (append-nil c.puts) to.behind)))
puts_read files c low (o ∷ more) takes to =
    let rest : List ℕ = flat_map (entry_bytes pointer_bytes) more ++ counted (entry_bytes u64_bytes) takes in
    inl (
      o,
      rest,
      append_assoc (entry_bytes pointer_bytes o) (flat_map (entry_bytes pointer_bytes) more) (counted (entry_bytes u64_bytes) takes),
      record {
        entry = record { above = to.rise.0; below = to.rise.1; fits = omega (arith, to.rise.1, to.txn); few = omega (arith, to.few); some = to.some.0; count = to.counts.0 };
        puts = to.stand.0;
      },
      subst (λ (l : List (ℕ × List Pointer)). PutsGive files (Good (takes_on (record c { puts = l }) takes)) (with_put c o) (o.0 + 1) (length more) rest) (append_assoc c.puts (o ∷ []) more)
          (puts_read files (with_put c o) (o.0 + 1) more takes (record {
            rise = to.rise.2;
            txn = to.txn;
            few = omega (arith, to.few, length-append c.puts (o ∷ []));
            some = to.some.1;
            counts = to.counts.1;
            stand = to.stand.1;
            many = to.many;
            behind = subst (λ (l : List (ℕ × List Pointer)). TakesTo (record c { puts = l }) 1 takes) (sym (append_assoc c.puts (o ∷ []) more)) to.behind;
          })),
    )

-- events that are left and right after a text, and what is open after them
record LiveTo (files : Files) (c : CheckText) (low : ℕ) (more : List (ℕ × Pointer)) (puts : List (ℕ × List Pointer)) (takes : List (ℕ × List ℕ)) : Type 0 where
  rise : Rise low c.next.number more
  number : Is64 c.next.number
  stand : AllByRecursion (λ l. (FitsFields l.1) × (event : Content) × PutIn files l.1 event) more
  many : length puts < 2 ^ 32
  behind : PutsTo files (live_on c more) 1 puts takes

live_read : (files : Files) (c : CheckText) (low : ℕ) (more : List (ℕ × Pointer)) (puts : List (ℕ × List Pointer)) (takes : List (ℕ × List ℕ)) → LiveTo files c low more puts takes
    → LiveGive files (Good (takes_on (puts_on (live_on c more) puts) takes)) c low (length more) (flat_map live_bytes more ++ (counted (entry_bytes pointer_bytes) puts ++ counted (entry_bytes u64_bytes) takes))
live_read files c low [] puts takes to =
    subst (λ (l : List (ℕ × Pointer)). LiveGive files (Good (takes_on (puts_on (record c { live = l }) puts) takes)) c low zero (counted (entry_bytes pointer_bytes) puts ++ counted (entry_bytes u64_bytes) takes)) (sym (append-nil c.live))
    (inl (
      length puts,
      flat_map (entry_bytes pointer_bytes) puts ++ counted (entry_bytes u64_bytes) takes,
      append_assoc (u32_bytes (length puts)) (flat_map (entry_bytes pointer_bytes) puts) (counted (entry_bytes u64_bytes) takes),
      to.many,
      puts_read files c 1 puts takes (subst (λ (l : List (ℕ × Pointer)). PutsTo files (record c { live = l }) 1 puts takes) (append-nil c.live) to.behind),
    ))
live_read files c low (l ∷ more) puts takes to =
    let rest : List ℕ = counted (entry_bytes pointer_bytes) puts ++ counted (entry_bytes u64_bytes) takes in
    inl (
      l,
      flat_map live_bytes more ++ rest,
      append_assoc (live_bytes l) (flat_map live_bytes more) rest,
      record { above = to.rise.0; below = to.rise.1; fits = omega (arith, to.rise.1, to.number); pointer = to.stand.0.0; event = to.stand.0.1; stands = to.stand.0.2 },
      subst (λ (k : List (ℕ × Pointer)). LiveGive files (Good (takes_on (puts_on (record c { live = k }) puts) takes)) (with_live c l) (l.0 + 1) (length more) (flat_map live_bytes more ++ rest)) (append_assoc c.live (l ∷ []) more)
          (live_read files (with_live c l) (l.0 + 1) more puts takes (record {
            rise = to.rise.2;
            number = to.number;
            stand = to.stand.1;
            many = to.many;
            behind = subst (λ (k : List (ℕ × Pointer)). PutsTo files (record c { live = k }) 1 puts takes) (sym (append_assoc c.live (l ∷ []) more)) to.behind;
          })),
    )

live_stand : (files : Files) (live : List (ℕ × Pointer)) (items : List (ℕ × Content)) → LiveAre files live items → AllByRecursion (λ l. FitsFields l.1) live
    → AllByRecursion (λ l. (FitsFields l.1) × (event : Content) × PutIn files l.1 event) live
live_stand files [] items are fits = tt
live_stand files (l ∷ live) [] are fits = absurd are
live_stand files (l ∷ live) (item ∷ items) are fits = ((fits.0, item.1, are.1), live_stand files live items are.2 fits.1)

events_stand : (files : Files) (txn : ℕ) (pointers : List Pointer) (events : List Content) → EventsAre files txn pointers events → AllByRecursion FitsFields pointers → AllByRecursion (IsPut files txn) pointers
events_stand files txn [] events are fits = tt
events_stand files txn (p ∷ pointers) [] are fits = absurd are
events_stand files txn (p ∷ pointers) (event ∷ events) are fits = ((fits.0, event, are.0), events_stand files txn pointers events are.1 fits.1)

puts_stand : (files : Files) (puts : List (ℕ × List Pointer)) (takes : List (ℕ × List ℕ)) (opened : List (ℕ × Entry)) → OpenAre files puts takes opened → AllByRecursion (λ o. AllByRecursion FitsFields o.1) puts
    → AllByRecursion (λ o. AllByRecursion (IsPut files o.0) o.1) puts
puts_stand files [] takes opened are fits = tt
puts_stand files (o ∷ puts) takes [] are fits = absurd are
puts_stand files (o ∷ puts) takes ((txn, Puts events) ∷ opened) are fits = (events_stand files o.0 o.1 events (subst (λ (t : ℕ). EventsAre files t o.1 events) are.0 are.1) fits.0, puts_stand files puts takes opened are.2 fits.1)
puts_stand files (o ∷ puts) takes ((txn, Takes numbers) ∷ opened) are fits = absurd are

some_there : {A : Type 0} (P : A → Type 0) (o : Option A) → IsSomeAnd o P → IsSome o
some_there P None is = absurd is
some_there P (Some a) is = refl

lists_to : (files : Files) (c : CheckText) → Fits c → (left : List (ℕ × Content)) (opened : List (ℕ × Entry)) → IsRight files c left opened → LiveTo files (head_text c.place c.next) 0 c.live c.puts c.takes
lists_to files c fits left opened r = record {
  rise = r.numbers;
  number = fits.number;
  stand = live_stand files c.live left r.live fits.live;
  many = r.puts_fit.0;
  behind = record {
    rise = r.put_txns;
    txn = fits.txn;
    few = omega (arith, r.few);
    some = r.some_puts;
    counts = r.puts_fit.1;
    stand = puts_stand files c.puts c.takes opened r.opens fits.puts;
    many = r.takes_fit.0;
    behind = record {
      rise = r.take_txns;
      txn = fits.txn;
      few = omega (arith, r.few);
      some = r.some_takes;
      counts = r.takes_fit.1;
      apart = r.apart;
      held = r.held;
      fits = fits.takes;
    };
  };
}

-- a text that is right, field by field
pub right_is_read : RightIsRead
unfolding check_bytes
right_is_read files c fits right =
    let r = right.right in
    let lists : List ℕ = counted live_bytes c.live ++ (counted (entry_bytes pointer_bytes) c.puts ++ counted (entry_bytes u64_bytes) c.takes) in
    let numbers : List ℕ = u64_bytes c.next.number ++ u64_bytes c.next.txn in
    let offset : List ℕ = u64_bytes c.place.at ++ numbers in
    let file : List ℕ = u32_bytes c.place.file ++ offset in
    let form : List ℕ = u32_bytes 1 ++ file in
    inl (
      codes "FLUMECHK",
      form ++ lists,
      append_assoc (codes "FLUMECHK") form lists,
      refl,
      inl (
        1,
        file ++ lists,
        append_assoc (u32_bytes 1) file lists,
        refl,
        inl (
          c.place.file,
          offset ++ lists,
          append_assoc (u32_bytes c.place.file) offset lists,
          (fits.file, some_there _ (files (Log c.place.file)) r.place),
          inl (
            c.place.at,
            numbers ++ lists,
            append_assoc (u64_bytes c.place.at) numbers lists,
            (fits.at, r.place),
            inl (
              c.next.number,
              u64_bytes c.next.txn ++ lists,
              append_assoc (u64_bytes c.next.number) (u64_bytes c.next.txn) lists,
              fits.number,
              inl (
                c.next.txn,
                lists,
                refl,
                (r.next, fits.txn),
                inl (
                  length c.live,
                  flat_map live_bytes c.live ++ (counted (entry_bytes pointer_bytes) c.puts ++ counted (entry_bytes u64_bytes) c.takes),
                  append_assoc (u32_bytes (length c.live)) (flat_map live_bytes c.live) (counted (entry_bytes pointer_bytes) c.puts ++ counted (entry_bytes u64_bytes) c.takes),
                  r.few_live,
                  live_read files (head_text c.place c.next) 0 c.live c.puts c.takes (lists_to files c fits right.left right.opened r),
                ),
              ),
            ),
          ),
        ),
      ),
    )

-- since bytes give one outcome
pub fault_is_wrong : FaultIsWrong
fault_is_wrong files c rest fits right bad = differ (one_outcome files (check_bytes c) (Good c) (Bad rest) (right_is_read files c fits right) bad)
  where
    differ : Good c ≡ Bad rest → ⊥
    differ same = cc
