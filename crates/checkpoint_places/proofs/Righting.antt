-- It is right for a folder in which the events stand at their pointers.
use Rattle.std.proofs.Common.{◌⊎◌, inl, inr, ◌≡◌, ◌≢◌, ◌≤◌, ◌+◌, ◌^◌, ◌++◌, ◌∷◌, [], ◌==◌, ℕ, List, length, map, Option, Some, None, Bool, true, false, refl, sym, ◌∙◌, ap, subst, arith}
use Rattle.std.specs.Prelude.{IsSomeAnd, if◌then◌else◌}
use Rattle.std.specs.List.{AllByRecursion}
use Rattle.std.proofs.lemmas.Bool.Decides.{eqb_tells}
use Rattle.flume_host.specs.Folder.{Files}
use Rattle.flume_host.specs.declared.names.FileName.TheVariants.{Log}
use Rattle.event_core.specs.Content.{Content}
use Rattle.event_core.specs.Journal.{is_among, taken_numbers}
use Rattle.event_core.specs.declared.journal.Entry.{Entry}
use Rattle.event_core.specs.declared.journal.Entry.TheVariants as entry
use Rattle.record_form.specs.declared.record.Pointer.{Pointer}
use Rattle.event_ring.specs.Slots.{Left}
use Rattle.open_table.specs.Tables.{Listed, Open, Puts, Takes, open_at, puts_of, takes_of}
use Rattle.record_form.specs.Pointers.{PutAt}
use Rattle.channel_log.proofs.Pointing.{one_event}
use Rattle.channel_face.specs.Machine.{base_of, entries, entry_of}
use Rattle.channel_face.specs.Sound.{Items, Rising, number_of as count_of, one_if, times}
use Rattle.channel_face.proofs.Numbers.{among_times, distinct_times, number_once, rising_base, rising_within, same_number, times-append}
use Rattle.channel_places.specs.Looks.{Known, LookLeft, LookPuts, LooksListed, LooksOpen, OpenRise, StandsIn, held_in}
use Rattle.checkpoint.specs.Right.{AreOnceAmong, EventsAre, LiveAre, OpenAre, PutIn, PutOf, all_of, number_of}
use Rattle.checkpoint.specs.Says.{entry_of as listed, live_at, puts_at, puts_in, takes_at, takes_in}
use Rattle.checkpoint.specs.Text.{Rise}
use Rattle.checkpoint_places.specs.Laws.{IsPutOf, PlacesAreRight}
use Rattle.checkpoint_places.specs.Texts.{listed_by, puts_done, takes_done}
use Rattle.checkpoint_places.proofs.Listing.{all_listed, listed_among, listed_few, listed_fit, listed_rise, listed_some, open_from_one}

-- no transaction has both puts and takes
not_both : (o : Option Open) → 1 ≤ length (puts_in o) → 1 ≤ length (takes_in o) → ⊥
not_both None puts takes = omega (arith, puts)
not_both (Some o) puts takes = of_list o.listed puts takes
  where
    of_list : (l : Listed) → 1 ≤ length (puts_of l) → 1 ≤ length (takes_of l) → ⊥
    of_list (Puts pointers) puts takes = omega (arith, takes)
    of_list (Takes numbers) puts takes = omega (arith, puts)

-- what is left

live_are : (files : Files) (known : Known) (held : List ℕ) (live : List Left) (items : Items) → ((q : Pointer) (event : Content) → StandsIn known q event → PutIn files q event) → LookLeft known held live items → LiveAre files (map live_at live) items
live_are files known held [] [] stands look = tt
live_are files known held [] (item ∷ items) stands look = look
live_are files known held (l ∷ live) [] stands look = look
live_are files known held (l ∷ live) (item ∷ items) stands look = (look.0.0, stands l.pointer item.1 look.0.2, live_are files known held live items stands look.1)

-- the numbers of the ring's events rise as those of the items that are left
pub live_rise : (known : Known) (held : List ℕ) (live : List Left) (items : Items) (low first : ℕ) → LookLeft known held live items → Rising low items first → Rise low first (map live_at live)
live_rise known held [] [] low first look rising = tt
live_rise known held [] (item ∷ items) low first look rising = absurd look
live_rise known held (l ∷ live) [] low first look rising = absurd look
live_rise known held (l ∷ live) (item ∷ items) low first look rising =
    let same : item.0 ≡ l.number = sym look.0.0 in
    (omega (arith, rising.0, same), omega (arith, rising_within (item.0 + 1) items first rising.1, same), live_rise known held live items (l.number + 1) first look.1 (subst (λ (n : ℕ). Rising (n + 1) items first) same rising.1))

live_count : (known : Known) (held : List ℕ) (live : List Left) (items : Items) (n : ℕ) → LookLeft known held live items → times n (map number_of (map live_at live)) ≡ count_of n items
live_count known held [] [] n look = refl
live_count known held [] (item ∷ items) n look = absurd look
live_count known held (l ∷ live) [] n look = absurd look
live_count known held (l ∷ live) (item ∷ items) n look = omega (arith, ap (λ (k : ℕ). one_if (k == n)) look.0.0, live_count known held live items n look.1)

-- open takes stand among these, each once
once_among : (others numbers : List ℕ) → ((n : ℕ) → times n numbers ≤ times n others) → ((n : ℕ) → times n others ≤ 1) → AreOnceAmong others numbers
once_among others [] fewer once = tt
once_among others (n ∷ numbers) fewer once = (there (among_times n others), apart (among_times n numbers), once_among others numbers (λ m. omega (arith, fewer m)) once)
  where
    some : 1 ≤ times n others
    some = omega (arith, fewer n, same_number n n refl)

    none : times n numbers ≡ 0
    none = omega (arith, fewer n, once n, same_number n n refl)

    there : ((is_among others n ≡ true) × (1 ≤ times n others)) ⊎ ((is_among others n ≡ false) × (times n others ≡ 0)) → is_among others n ≡ true
    there (inl is) = is.0
    there (inr isnt) = absurd (omega (arith, some, isnt.1))

    apart : ((is_among numbers n ≡ true) × (1 ≤ times n numbers)) ⊎ ((is_among numbers n ≡ false) × (times n numbers ≡ 0)) → is_among numbers n ≡ false
    apart (inl is) = absurd (omega (arith, is.1, none))
    apart (inr isnt) = isnt.0

-- what is open

-- these pointers and numbers are those of an entry
abbrev IsEntry : Files → ℕ → List Pointer → List ℕ → Entry → Type 0
IsEntry files txn pointers numbers (entry.Puts events) = EventsAre files txn pointers events × (numbers ≡ [])
IsEntry files txn pointers numbers (entry.Takes taken) = (pointers ≡ []) × (numbers ≡ taken)

put_of : (files : Files) (txn : ℕ) (p : Pointer) (event : Content) → PutIn files p event → IsPutOf files txn p → PutOf files txn p event
put_of files txn p event stands own = from (files (Log p.file)) stands own.1
  where
    from : (file : Option (List ℕ)) → IsSomeAnd file (λ bytes. PutAt bytes p event) → IsSomeAnd file (λ bytes. (at : PutAt bytes p own.0) × (at.txn ≡ txn)) → IsSomeAnd file (λ bytes. (at : PutAt bytes p event) × (at.txn ≡ txn))
    from None stands by = absurd stands
    from (Some bytes) stands by = subst (λ (e : Content). (at : PutAt bytes p e) × (at.txn ≡ txn)) (one_event bytes p own.0 event by.0 stands) by

events_are : (files : Files) (known : Known) (txn : ℕ) (pointers : List Pointer) (events : List Content) → ((q : Pointer) (event : Content) → StandsIn known q event → PutIn files q event) → LookPuts known pointers events → AllByRecursion (λ q. IsPutOf files txn q) pointers → EventsAre files txn pointers events
events_are files known txn [] [] stands look own = tt
events_are files known txn [] (event ∷ events) stands look own = look
events_are files known txn (p ∷ pointers) [] stands look own = look
events_are files known txn (p ∷ pointers) (event ∷ events) stands look own = (put_of files txn p event (stands p event look.0) own.0, events_are files known txn pointers events stands look.1 own.1)

is_entry : (files : Files) (known : Known) (room txn : ℕ) (o : Option Open) (e : Entry) → ((q : Pointer) (event : Content) → StandsIn known q event → PutIn files q event) → LooksOpen known room o (Some e) → AllByRecursion (λ q. IsPutOf files txn q) (puts_in o) → IsEntry files txn (puts_in o) (takes_in o) e
is_entry files known room txn None e stands look own = absurd look
is_entry files known room txn (Some o) e stands look own = of_list o.listed e look.0 own
  where
    of_list : (l : Listed) (e : Entry) → LooksListed known l e → AllByRecursion (λ q. IsPutOf files txn q) (puts_of l) → IsEntry files txn (puts_of l) (takes_of l) e
    of_list (Puts pointers) (entry.Puts events) look own = (events_are files known txn pointers events stands look own, refl)
    of_list (Puts pointers) (entry.Takes taken) look own = absurd look
    of_list (Takes numbers) (entry.Puts events) look own = absurd look
    of_list (Takes numbers) (entry.Takes taken) look own = (refl, look)

-- what is true of each number's entry is true of each entry
each_entry : (P : ℕ → Option Entry → Type 0) (low top : ℕ) (os : List (ℕ × Entry)) → OpenRise low os top → ((n : ℕ) → low ≤ n → P n (entry_of n os)) → AllByRecursion (λ o. P o.0 (Some o.1)) os
each_entry P low top [] rise each = tt
each_entry P low top (o ∷ os) rise each = (subst (λ (e : Option Entry). P o.0 e) here (each o.0 rise.0), each_entry P (o.0 + 1) top os rise.1 (λ n more. subst (λ (e : Option Entry). P n e) (later n more) (each n (omega (arith, rise.0, more)))))
  where
    here : entry_of o.0 (o ∷ os) ≡ Some o.1
    here = from (eqb_tells o.0 o.0)
      where
        from : ((o.0 == o.0) ≡ true) × (o.0 ≡ o.0) ⊎ ((o.0 == o.0) ≡ false) × (o.0 ≢ o.0) → entry_of o.0 (o ∷ os) ≡ Some o.1
        from (inl same) = ap (λ (b : Bool). if b then Some o.1 else entry_of o.0 os) same.0
        from (inr other) = absurd (other.1 refl)

    later : (n : ℕ) → o.0 + 1 ≤ n → entry_of n (o ∷ os) ≡ entry_of n os
    later n more = from (eqb_tells o.0 n)
      where
        from : ((o.0 == n) ≡ true) × (o.0 ≡ n) ⊎ ((o.0 == n) ≡ false) × (o.0 ≢ n) → entry_of n (o ∷ os) ≡ entry_of n os
        from (inl same) = absurd (omega (arith, same.1, more))
        from (inr other) = ap (λ (b : Bool). if b then Some o.1 else entry_of n os) other.0

module _ (files : Files) (puts : ℕ → List Pointer) (takes : ℕ → List ℕ) where
  abbrev AreEntries : List (ℕ × Entry) → Type 0
  AreEntries os = AllByRecursion (λ o. IsEntry files o.0 (puts o.0) (takes o.0) o.1) os

  all_one : (n : ℕ) (xs : List ℕ) (rest : List (ℕ × List ℕ)) → all_of (listed n xs ++ rest) ≡ xs ++ all_of rest
  all_one n [] rest = refl
  all_one n (x ∷ xs) rest = refl

  -- the takes that are listed are those of the entries
  all_takes : (os : List (ℕ × Entry)) → AreEntries os → all_of (listed_by takes os) ≡ taken_numbers (entries os)
  all_takes [] are = refl
  all_takes ((txn, entry.Puts events) ∷ os) are =
      all_one txn (takes txn) (listed_by takes os) ∙ (ap (λ (l : List ℕ). l ++ all_of (listed_by takes os)) are.0.1 ∙ all_takes os are.1)
  all_takes ((txn, entry.Takes taken) ∷ os) are =
      all_one txn (takes txn) (listed_by takes os) ∙ (ap (λ (l : List ℕ). l ++ all_of (listed_by takes os)) are.0.1 ∙ ap (λ (l : List ℕ). taken ++ l) (all_takes os are.1))

  takes_are : (os : List (ℕ × Entry)) → AreEntries os → OpenAre files [] (listed_by takes os) (takes_done os)
  takes_are [] are = tt
  takes_are ((txn, entry.Puts events) ∷ os) are = subst (λ (l : List ℕ). OpenAre files [] (listed txn l ++ listed_by takes os) (takes_done os)) (sym are.0.1) (takes_are os are.1)
  takes_are ((txn, entry.Takes []) ∷ os) are = subst (λ (l : List ℕ). OpenAre files [] (listed txn l ++ listed_by takes os) (takes_done os)) (sym are.0.1) (takes_are os are.1)
  takes_are ((txn, entry.Takes (n ∷ numbers)) ∷ os) are =
      subst (λ (l : List ℕ). OpenAre files [] (listed txn l ++ listed_by takes os) ((txn, entry.Takes (n ∷ numbers)) ∷ takes_done os)) (sym are.0.1) (refl, refl, takes_are os are.1)

  puts_are : (os : List (ℕ × Entry)) (listed_takes : List (ℕ × List ℕ)) (opened : List (ℕ × Entry)) → AreEntries os → OpenAre files [] listed_takes opened → OpenAre files (listed_by puts os) listed_takes (puts_done os ++ opened)
  puts_are [] listed_takes opened are rest = rest
  puts_are ((txn, entry.Takes taken) ∷ os) listed_takes opened are rest = subst (λ (l : List Pointer). OpenAre files (listed txn l ++ listed_by puts os) listed_takes (puts_done os ++ opened)) (sym are.0.0) (puts_are os listed_takes opened are.1 rest)
  puts_are ((txn, entry.Puts []) ∷ os) listed_takes opened are rest = from (puts txn) are.0.0 (puts_are os listed_takes opened are.1 rest)
    where
      from : (ps : List Pointer) → EventsAre files txn ps [] → OpenAre files (listed_by puts os) listed_takes (puts_done os ++ opened) → OpenAre files (listed txn ps ++ listed_by puts os) listed_takes (puts_done os ++ opened)
      from [] events later = later
      from (p ∷ ps) events later = absurd events
  puts_are ((txn, entry.Puts (event ∷ events)) ∷ os) listed_takes opened are rest = from (puts txn) are.0.0 (puts_are os listed_takes opened are.1 rest)
    where
      from : (ps : List Pointer) → EventsAre files txn ps (event ∷ events) → OpenAre files (listed_by puts os) listed_takes (puts_done os ++ opened) → OpenAre files (listed txn ps ++ listed_by puts os) listed_takes ((txn, entry.Puts (event ∷ events)) ∷ (puts_done os ++ opened))
      from [] stand later = absurd stand
      from (p ∷ ps) stand later = (refl, stand, later)

-- a checkpoint of places is right for such a folder
pub places_are_right : PlacesAreRight
places_are_right files known p s place looks few has = record {
  place = has.there;
  numbers = subst (λ (n : ℕ). Rise 0 n (map live_at p.live)) (sym first_is) (live_rise known (held_in s) p.live s.items 0 s.first looks.left rising);
  next = omega (arith, few.txn.0, txn_is);
  put_txns = listed_rise puts 1 p.numbers.txn s.txn s.opened from_one (omega (arith, txn_is));
  take_txns = listed_rise takes 1 p.numbers.txn s.txn s.opened from_one (omega (arith, txn_is));
  apart = all_listed takes (λ n. is_among (map number_of (listed_by puts s.opened)) n ≡ false) s.opened (λ n some. not_among n some);
  few = omega (arith, both_few, few.opened);
  some_puts = listed_some puts s.opened;
  some_takes = listed_some takes s.opened;
  held = subst (λ (l : List ℕ). AreOnceAmong (map number_of (map live_at p.live)) l) (sym all) (once_among (map number_of (map live_at p.live)) (taken_numbers (entries s.opened)) fewer once);
  few_live = omega (arith, few.live, length-live p.live);
  puts_fit = (omega (arith, both_few, few.opened), listed_fit puts (2 ^ 32) s.opened few.puts);
  takes_fit = (omega (arith, both_few, few.opened), listed_fit takes (2 ^ 32) s.opened few.takes);
  live = live_are files known (held_in s) p.live s.items has.puts looks.left;
  opens = puts_are files puts takes s.opened (listed_by takes s.opened) (takes_done s.opened) are (takes_are files puts takes s.opened are);
}
  where
    puts : ℕ → List Pointer
    puts = puts_at p.opened

    takes : ℕ → List ℕ
    takes = takes_at p.opened

    first_is : p.numbers.first ≡ s.first
    first_is = ap (λ (n : _). n.first) looks.numbers

    txn_is : p.numbers.txn ≡ s.txn
    txn_is = ap (λ (n : _). n.txn) looks.numbers

    rising : Rising 0 s.items s.first
    rising = rising_base (base_of s) looks.sound.base

    from_one : OpenRise 1 s.opened s.txn
    from_one = open_from_one 0 s.txn s.opened looks.sound.opened few.low few.txn.0

    length-live : (live : List Left) → length (map live_at live) ≡ length live
    length-live [] = refl
    length-live (l ∷ live) = omega (arith, length-live live)

    both_few : length (listed_by puts s.opened) + length (listed_by takes s.opened) ≤ length s.opened
    both_few = listed_few puts takes s.opened (λ n one other. not_both (open_at p.opened n) one other)

    not_among : (n : ℕ) → 1 ≤ length (takes n) → is_among (map number_of (listed_by puts s.opened)) n ≡ false
    not_among n some = from (is_among (map number_of (listed_by puts s.opened)) n) refl
      where
        from : (b : Bool) → is_among (map number_of (listed_by puts s.opened)) n ≡ b → is_among (map number_of (listed_by puts s.opened)) n ≡ false
        from false is = is
        from true is = absurd (not_both (open_at p.opened n) (listed_among puts n s.opened is) some)

    are : AreEntries files puts takes s.opened
    are = each_entry (λ n e. IsOpenEntry n e) 0 s.txn s.opened looks.sound.opened (λ n more. of_entry n (entry_of n s.opened) (looks.opened n))
      where
        IsOpenEntry : ℕ → Option Entry → Type 0
        IsOpenEntry n None = Unit {0}
        IsOpenEntry n (Some e) = IsEntry files n (puts n) (takes n) e

        of_entry : (n : ℕ) (e : Option Entry) → LooksOpen known s.rules.limits.txn_capacity (open_at p.opened n) e → IsOpenEntry n e
        of_entry n None look = tt
        of_entry n (Some e) look = is_entry files known s.rules.limits.txn_capacity n (open_at p.opened n) e has.puts look (has.own n)

    all : all_of (listed_by takes s.opened) ≡ taken_numbers (entries s.opened)
    all = all_takes files puts takes s.opened are

    fewer : (n : ℕ) → times n (taken_numbers (entries s.opened)) ≤ times n (map number_of (map live_at p.live))
    fewer n = omega (
      arith,
      distinct_times (held_in s) 0 s.items s.first rising looks.sound.held n,
      times-append n (taken_numbers (entries s.opened)) (taken_numbers s.staged),
      live_count known (held_in s) p.live s.items n looks.left,
    )

    once : (n : ℕ) → times n (map number_of (map live_at p.live)) ≤ 1
    once n = omega (arith, number_once n 0 s.items s.first rising, live_count known (held_in s) p.live s.items n looks.left)
