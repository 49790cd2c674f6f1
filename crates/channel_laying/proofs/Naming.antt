-- Checkpoints of the same bytes name log files alike.
use Rattle.std.proofs.Common.{◌≡◌, ◌<◌, ◌≤◌, ◌^◌, ◌++◌, ◌∷◌, [], ℕ, List, length, length-append, Option, Some, None, refl, sym, ◌∙◌, ap, subst, append_assoc, arith}
use Rattle.std.specs.Prelude.{IsSome, IsSomeAnd, codes, flat_map}
use Rattle.std.specs.List.{AllByRecursion}
use Rattle.byteorder.specs.Endian.{big_from}
use Rattle.byteorder.specs.Numbers.{big_from-bytes}
use Rattle.flume_host.specs.Folder.{Files}
use Rattle.flume_host.specs.declared.names.FileName.TheVariants.{Log}
use Rattle.event_core.specs.Content.{Content}
use Rattle.event_core.specs.Numbers.{u32_bytes, u64_bytes}
use Rattle.event_core.specs.declared.journal.Entry.{Entry}
use Rattle.event_core.specs.declared.journal.Entry.TheVariants.{Puts, Takes}
use Rattle.event_core.proofs.Sizes.{length-u32_bytes, length-u64_bytes}
use Rattle.record_form.specs.declared.record.Pointer.{Pointer}
use Rattle.record_form.specs.Pointers.{PutAt}
use Rattle.checkpoint.specs.declared.place.Next.{Next}
use Rattle.checkpoint.specs.declared.place.Place.{Place}
use Rattle.checkpoint.specs.Right.{EventsAre, IsRight, LiveAre, OpenAre}
use Rattle.checkpoint.specs.Text.{CheckText, check_bytes, counted, entry_bytes, head_bytes, live_bytes, pointer_bytes}
use Rattle.checkpoint_reading.proofs.Taking.{length_pointer}
use Rattle.checkpoint_reading.proofs.Unique.{one_u32, split_front}
use Rattle.checkpoint_recovery.specs.Laws.{NamesFrom}

-- each log file that is there has a number of 32 bits
abbrev pub AreNumbered : Files → Type 0
AreNumbered files = (n : ℕ) → IsSome (files (Log n)) → n < 2 ^ 32

-- a number from the least one on, of 32 bits
abbrev Named : ℕ → ℕ → Type 0
Named least n = (least ≤ n) × (n < 2 ^ 32)

abbrev PutNamed : ℕ → Pointer → Type 0
PutNamed least p = Named least p.file

abbrev PutLow : ℕ → Pointer → Type 0
PutLow least p = least ≤ p.file

-- what a right text names has 32 bits

module _ (files : Files) (numbered : AreNumbered files) (least : ℕ) where
  there : (P : List ℕ → Type 0) (n : ℕ) (file : Option (List ℕ)) → files (Log n) ≡ file → IsSomeAnd file P → n < 2 ^ 32
  there P n None is has = absurd has
  there P n (Some bytes) is has = numbered n (subst (λ (o : Option (List ℕ)). IsSome o) (sym is) refl)

  live_named : (live : List (ℕ × Pointer)) (items : List (ℕ × Content)) → LiveAre files live items → AllByRecursion (λ l. least ≤ l.1.file) live → AllByRecursion (λ l. Named least l.1.file) live
  live_named [] items are low = tt
  live_named (l ∷ live) [] are low = absurd are
  live_named (l ∷ live) (item ∷ items) are low = ((low.0, there (λ bytes. PutAt bytes l.1 item.1) l.1.file (files (Log l.1.file)) refl are.1), live_named live items are.2 low.1)

  events_named : (txn : ℕ) (pointers : List Pointer) (events : List Content) → EventsAre files txn pointers events → AllByRecursion (PutLow least) pointers → AllByRecursion (PutNamed least) pointers
  events_named txn [] events are low = tt
  events_named txn (p ∷ pointers) [] are low = absurd are
  events_named txn (p ∷ pointers) (event ∷ events) are low =
      ((low.0, there (λ bytes. (at : PutAt bytes p event) × (at.txn ≡ txn)) p.file (files (Log p.file)) refl are.0), events_named txn pointers events are.1 low.1)

  puts_named : (puts : List (ℕ × List Pointer)) (takes : List (ℕ × List ℕ)) (opened : List (ℕ × Entry)) → OpenAre files puts takes opened → AllByRecursion (λ o. AllByRecursion (PutLow least) o.1) puts
      → AllByRecursion (λ o. AllByRecursion (PutNamed least) o.1) puts
  puts_named [] takes opened are low = tt
  puts_named (o ∷ puts) takes [] are low = absurd are
  puts_named (o ∷ puts) takes ((txn, Puts events) ∷ opened) are low = (events_named txn o.1 events are.1 low.0, puts_named puts takes opened are.2 low.1)
  puts_named (o ∷ puts) takes ((txn, Takes numbers) ∷ opened) are low = absurd are

-- of two numbers that are spelled alike the one that fits is no greater
u32_low : (a b : ℕ) → u32_bytes a ≡ u32_bytes b → b < 2 ^ 32 → b ≤ a
unfolding u32_bytes
u32_low a b same fits = omega (arith, fits, big_from-bytes 4 a [], big_from-bytes 4 b [], ap (λ (l : List ℕ). big_from 0 4 (l ++ [])) same)

low_named : (least a b : ℕ) → u32_bytes a ≡ u32_bytes b → Named least b → least ≤ a
low_named least a b same named = omega (arith, named.0, u32_low a b same named.1)

pointer_low : (least : ℕ) (a b : Pointer) (x y : List ℕ) → pointer_bytes a ++ x ≡ pointer_bytes b ++ y → PutNamed least b → PutLow least a × (x ≡ y)
pointer_low least a b x y is named =
    let both = split_front (pointer_bytes a) (pointer_bytes b) x y (length_pointer a ∙ sym (length_pointer b)) is in
    let file = split_front (u32_bytes a.file) (u32_bytes b.file) (u64_bytes a.at ++ u32_bytes a.length) (u64_bytes b.at ++ u32_bytes b.length) (length-u32_bytes a.file ∙ sym (length-u32_bytes b.file)) both.0 in
    (low_named least a.file b.file file.0 named, both.1)

live_low : (least : ℕ) (a b : ℕ × Pointer) (x y : List ℕ) → live_bytes a ++ x ≡ live_bytes b ++ y → Named least b.1.file → (least ≤ a.1.file) × (x ≡ y)
live_low least a b x y is named =
    let number =
    split_front (u64_bytes a.0) (u64_bytes b.0) (pointer_bytes a.1 ++ x) (pointer_bytes b.1 ++ y) (length-u64_bytes a.0 ∙ sym (length-u64_bytes b.0))
    (sym (append_assoc (u64_bytes a.0) (pointer_bytes a.1) x) ∙ (is ∙ append_assoc (u64_bytes b.0) (pointer_bytes b.1) y)) in
    pointer_low least a.1 b.1 x y number.1 named

-- lists of as many items
lists_low : {A : Type 0} (spell : A → List ℕ) (Fits Is Low : A → Type 0) → ((a b : A) (x y : List ℕ) → spell a ++ x ≡ spell b ++ y → Fits a → Is b → Low a × (x ≡ y))
    → (ps qs : List A) (x y : List ℕ) → length ps ≡ length qs → flat_map spell ps ++ x ≡ flat_map spell qs ++ y → AllByRecursion Fits ps → AllByRecursion Is qs → AllByRecursion Low ps × (x ≡ y)
lists_low spell Fits Is Low one [] [] x y many is fits are = (tt, is)
lists_low spell Fits Is Low one [] (b ∷ qs) x y many is fits are = absurd (omega (arith, many))
lists_low spell Fits Is Low one (a ∷ ps) [] x y many is fits are = absurd (omega (arith, many))
lists_low spell Fits Is Low one (a ∷ ps) (b ∷ qs) x y many is fits are =
    let first = one a b (flat_map spell ps ++ x) (flat_map spell qs ++ y) (sym (append_assoc (spell a) (flat_map spell ps) x) ∙ (is ∙ append_assoc (spell b) (flat_map spell qs) y)) fits.0 are.0 in
    let rest = lists_low spell Fits Is Low one ps qs x y (omega (arith, many)) first.1 fits.1 are.1 in
    ((first.0, rest.0), rest.1)

any_fits : {A : Type 0} (xs : List A) → AllByRecursion (λ (x : A). Unit {0}) xs
any_fits [] = tt
any_fits (x ∷ xs) = (tt, any_fits xs)

abbrev EntryFits : ℕ × List Pointer → Type 0
EntryFits o = length o.1 < 2 ^ 32

abbrev EntryNamed : ℕ → ℕ × List Pointer → Type 0
EntryNamed least o = EntryFits o × AllByRecursion (PutNamed least) o.1

abbrev EntryLow : ℕ → ℕ × List Pointer → Type 0
EntryLow least o = AllByRecursion (PutLow least) o.1

entry_low : (least : ℕ) (a b : ℕ × List Pointer) (x y : List ℕ) → entry_bytes pointer_bytes a ++ x ≡ entry_bytes pointer_bytes b ++ y → EntryFits a → EntryNamed least b → EntryLow least a × (x ≡ y)
entry_low least a b x y is fits named =
    let behind : (ℕ × List Pointer) → List ℕ = λ (e : ℕ × List Pointer). u32_bytes (length e.1) ++ flat_map pointer_bytes e.1 in
    let number =
    split_front (u64_bytes a.0) (u64_bytes b.0) (behind a ++ x) (behind b ++ y) (length-u64_bytes a.0 ∙ sym (length-u64_bytes b.0))
    (sym (append_assoc (u64_bytes a.0) (behind a) x) ∙ (is ∙ append_assoc (u64_bytes b.0) (behind b) y)) in
    let count =
    one_u32 (length a.1) (length b.1) (flat_map pointer_bytes a.1 ++ x) (flat_map pointer_bytes b.1 ++ y)
    (sym (append_assoc (u32_bytes (length a.1)) (flat_map pointer_bytes a.1) x) ∙ (number.1 ∙ append_assoc (u32_bytes (length b.1)) (flat_map pointer_bytes b.1) y)) fits named.0 in
    lists_low pointer_bytes (λ p. Unit {0}) (PutNamed least) (PutLow least) (λ p q u v same _ it. pointer_low least p q u v same it) a.1 b.1 x y count.0 count.1 (any_fits a.1) named.1

-- a counted list, and what is after it
counted_low : {A : Type 0} (spell : A → List ℕ) (Fits Is Low : A → Type 0) → ((a b : A) (x y : List ℕ) → spell a ++ x ≡ spell b ++ y → Fits a → Is b → Low a × (x ≡ y))
    → (ps qs : List A) (x y : List ℕ) → length ps < 2 ^ 32 → length qs < 2 ^ 32 → counted spell ps ++ x ≡ counted spell qs ++ y → AllByRecursion Fits ps → AllByRecursion Is qs → AllByRecursion Low ps × (x ≡ y)
counted_low spell Fits Is Low one ps qs x y few few' is fits are =
    let count =
    one_u32 (length ps) (length qs) (flat_map spell ps ++ x) (flat_map spell qs ++ y)
    (sym (append_assoc (u32_bytes (length ps)) (flat_map spell ps) x) ∙ (is ∙ append_assoc (u32_bytes (length qs)) (flat_map spell qs) y)) few few' in
    lists_low spell Fits Is Low one ps qs x y count.0 count.1 fits are

-- the numbers before the lists

abbrev after_file : Place → Next → List ℕ
after_file place next = u64_bytes place.at ++ (u64_bytes next.number ++ u64_bytes next.txn)

length_after : (place : Place) (next : Next) → length (after_file place next) ≡ 24
length_after place next =
    omega (
      arith,
      length-append (u64_bytes place.at) (u64_bytes next.number ++ u64_bytes next.txn),
      length-append (u64_bytes next.number) (u64_bytes next.txn),
      length-u64_bytes place.at,
      length-u64_bytes next.number,
      length-u64_bytes next.txn,
    )

-- the name, the form and the place's file
abbrev front_of : Place → List ℕ
front_of place = u32_bytes 1 ++ u32_bytes place.file

head_is : (place : Place) (next : Next) → head_bytes place next ≡ codes "FLUMECHK" ++ (u32_bytes 1 ++ (u32_bytes place.file ++ after_file place next))
head_is place next = refl

length_head : (place : Place) (next : Next) → length (head_bytes place next) ≡ 40
length_head place next =
    omega (
      arith,
      length-append (codes "FLUMECHK") (u32_bytes 1 ++ (u32_bytes place.file ++ after_file place next)),
      length-append (u32_bytes 1) (u32_bytes place.file ++ after_file place next),
      length-append (u32_bytes place.file) (after_file place next),
      length-u32_bytes 1,
      length-u32_bytes place.file,
      length_after place next,
    )

head_low : (least : ℕ) (p q : Place) (n m : Next) (x y : List ℕ) → head_bytes p n ++ x ≡ head_bytes q m ++ y → Named least q.file → (least ≤ p.file) × (x ≡ y)
head_low least p q n m x y is named =
    let both = split_front (head_bytes p n) (head_bytes q m) x y (length_head p n ∙ sym (length_head q m)) is in
    let text = split_front (codes "FLUMECHK") (codes "FLUMECHK") (u32_bytes 1 ++ (u32_bytes p.file ++ after_file p n)) (u32_bytes 1 ++ (u32_bytes q.file ++ after_file q m)) refl both.0 in
    let form = split_front (u32_bytes 1) (u32_bytes 1) (u32_bytes p.file ++ after_file p n) (u32_bytes q.file ++ after_file q m) refl text.1 in
    let file = split_front (u32_bytes p.file) (u32_bytes q.file) (after_file p n) (after_file q m) (length-u32_bytes p.file ∙ sym (length-u32_bytes q.file)) form.1 in
    (low_named least p.file q.file file.0 named, both.1)

pair_all : (least : ℕ) (puts : List (ℕ × List Pointer)) → AllByRecursion EntryFits puts → AllByRecursion (λ o. AllByRecursion (PutNamed least) o.1) puts → AllByRecursion (EntryNamed least) puts
pair_all least [] fits named = tt
pair_all least (o ∷ puts) fits named = ((fits.0, named.0), pair_all least puts fits.1 named.1)

-- A text that is right for some folder names log files from a number on, if one of the same bytes does that is right for a folder whose log files have
-- numbers of 32 bits.
pub names_alike : (files folder : Files) (least : ℕ) (c d : CheckText) (left left' : List (ℕ × Content)) (opened opened' : List (ℕ × Entry)) → AreNumbered files → IsRight files c left opened → IsRight folder d left' opened' → check_bytes d ≡ check_bytes c → NamesFrom least c → NamesFrom least d
unfolding check_bytes
names_alike files folder least c d left left' opened opened' numbered right right' same names =
    let place : Named least c.place.file = (names.place, there files numbered least _ c.place.file (files (Log c.place.file)) refl right.place) in
    let head = head_low least d.place c.place d.next c.next _ _ same place in
    let live =
    counted_low live_bytes (λ l. Unit {0}) (λ l. Named least l.1.file) (λ l. least ≤ l.1.file) (λ a b x y is _ it. live_low least a b x y is it) d.live c.live _ _ right'.few_live right.few_live head.1 (any_fits d.live)
    (live_named files numbered least c.live left right.live names.live) in
    let puts =
    counted_low (entry_bytes pointer_bytes) EntryFits (EntryNamed least) (EntryLow least) (entry_low least) d.puts c.puts _ _ right'.puts_fit.0 right.puts_fit.0 live.1 right'.puts_fit.1
    (pair_all least c.puts right.puts_fit.1 (puts_named files numbered least c.puts c.takes opened right.opens names.puts)) in
    record { place = head.0; live = live.0; puts = puts.0 }
