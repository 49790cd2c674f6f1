-- A transaction that ends, over a ring and a table.
use Rattle.std.proofs.Common.{◌⊎◌, inl, inr, ◌≡◌, ◌+◌, ◌∷◌, [], ℕ, List, length, Option, Some, None, Bool, true, false, ◌==◌, ◌||◌, refl, sym, ◌∙◌, ap, subst}
use Rattle.std.specs.List.{AllByRecursion}
use Rattle.std.specs.Option.{option_map}
use Rattle.std.specs.Prelude.{map}
use Rattle.std.proofs.lemmas.Bool.Decides.{eqb_tells}
use Rattle.event_core.specs.Content.{Content}
use Rattle.event_core.specs.Journal.{is_among, left}
use Rattle.event_core.specs.declared.journal.Entry.{Entry}
use Rattle.event_core.specs.declared.journal.Entry.TheVariants as entries
use Rattle.record_form.specs.declared.record.Pointer.{Pointer}
use Rattle.event_ring.specs.Slots.{Index, IsLive, Left}
use Rattle.open_table.specs.Tables.{HasAt, Listed, Open, Puts, Table, Takes, open_at, takes_of}
use Rattle.ring_replay.specs.declared.indexing.Indexing.{Indexing}
use Rattle.ring_replay.specs.Indexing.{HasEntry, HasItems, IsGivenUp, IsListed, Keeps, IsKept, Places, freed, taken_by}
use Rattle.channel_replay.specs.Marks.{Past, journal, numbers_of, opened}
use Rattle.channel_replay.specs.Start.{AreApart, Start}
use Rattle.channel_replay.proofs.Keys.{Tells}

-- an event that is left is one of the ring's
pub left_live : (places : Places) (live : List Left) (items : List (ℕ × Content)) (n : ℕ) → HasItems places live items → is_among (map (λ (item : ℕ × Content). item.0) items) n ≡ true → IsLive live n
left_live places [] [] n has is = absurd (let e : false ≡ true = is in cc)
left_live places [] (item ∷ items) n has is = absurd has
left_live places (l ∷ live) [] n has is = absurd has
left_live places (l ∷ live) (item ∷ items) n has is = from (eqb_tells item.0 n) is (left_live places live items n has.2)
  where
    from : Tells item.0 n → ((item.0 == n) || is_among (map (λ (x : ℕ × Content). x.0) items) n) ≡ true → (is_among (map (λ (x : ℕ × Content). x.0) items) n ≡ true → IsLive live n) → (l.number ≡ n) ⊎ IsLive live n
    from (inl same) is' rest = inl (has.0 ∙ same.1)
    from (inr other) is' rest = inr (rest (rw other.0 at is'))

-- each of the numbers, where those among them are so
pub all_among : (P : ℕ → Type 0) (numbers : List ℕ) → ((n : ℕ) → is_among numbers n ≡ true → P n) → AllByRecursion P numbers
all_among P [] each = tt
all_among P (x ∷ numbers) each = (each x (here (eqb_tells x x)), all_among P numbers (λ n is. each n (later n (x == n) is)))
  where
    here : Tells x x → ((x == x) || is_among numbers x) ≡ true
    here (inl same) = rw same.0 refl
    here (inr other) = absurd (other.1 refl)

    later : (n : ℕ) (b : Bool) → is_among numbers n ≡ true → (b || is_among numbers n) ≡ true
    later n true is = refl
    later n false is = is

-- what an open transaction of the table takes
pub listed_takes : (places : Places) (o : Option Open) (entry : Option Entry) (numbers : List ℕ) → HasEntry places o entry → option_map (λ (x : Open). x.listed) o ≡ Some (Takes numbers) → entry ≡ Some (entries.Takes numbers)
listed_takes places None entry numbers has is = absurd (cc)
listed_takes places (Some o) None numbers has is = absurd has
listed_takes places (Some o) (Some entry) numbers has is = by_list o.listed entry has (let same : o.listed ≡ Takes numbers = cc in same)
  where
    by_list : (l : Listed) (entry : Entry) → IsListed places l entry → l ≡ Takes numbers → Some entry ≡ Some (entries.Takes numbers)
    by_list (Puts pointers) entry has same = absurd (cc)
    by_list (Takes others) (entries.Puts events) has same = absurd has
    by_list (Takes others) (entries.Takes mine) has same = ap (λ (l : List ℕ). Some (entries.Takes l)) (sym has ∙ (let e : others ≡ numbers = cc in e))

-- what an open transaction takes is left in the ring, and no number stands twice
pub takes_live : (r : Indexing) (txn : ℕ) (numbers : List ℕ) → IsKept r → option_map (λ (o : Open). o.listed) (open_at r.table txn) ≡ Some (Takes numbers) → AllByRecursion (λ n. IsLive r.ring.live n) numbers × AreApart numbers
takes_live r txn numbers kept is =
    let places : Places = kept.0 in
    let s : Start = kept.1 in
    let past : Past = kept.2 in
    let keeps : Keeps places s past r = kept.3 in
    let entry : opened txn past ≡ Some (entries.Takes numbers) = listed_takes places (open_at r.table txn) (opened txn past) numbers (keeps.each txn) is in
    let same : numbers_of (opened txn past) ≡ numbers = ap numbers_of entry in (
      all_among (λ n. IsLive r.ring.live n) numbers (λ n among. left_live places r.ring.live (left s.base (journal past)) n keeps.items (keeps.taken.there txn n (ap (λ (l : List ℕ). is_among l n) same ∙ among))),
      subst AreApart same (keeps.taken.apart txn),
    )

none_freed : (live : List Left) → freed [] live ≡ live
none_freed [] = refl
none_freed (l ∷ live) = ap (λ (r : List Left). l ∷ r) (none_freed live)

listed_is : (o : Option Open) (l : Listed) → option_map (λ (x : Open). x.listed) o ≡ Some l → taken_by o ≡ takes_of l
listed_is None l is = absurd (cc)
listed_is (Some o) l is = ap takes_of (let same : o.listed ≡ l = cc in same)

-- a transaction of puts holds nothing
pub gives_up_puts : (r : Indexing) (txn : ℕ) (pointers : List Pointer) (table : Table) → option_map (λ (o : Open). o.listed) (open_at r.table txn) ≡ Some (Puts pointers) → HasAt txn None r.table table → length table + 1 ≡ length r.table
    → IsGivenUp txn r (record r { table = table })
gives_up_puts r txn pointers table is ended count =
    let none : taken_by (open_at r.table txn) ≡ [] = listed_is (open_at r.table txn) (Puts pointers) is in
    record {
      ended = ended;
      count = count;
      ring = ap (λ (l : List Left). record r.ring { live = l }) (sym (ap (λ (ns : List ℕ). freed ns r.ring.live) none ∙ none_freed r.ring.live));
      slots = refl;
      next = refl;
    }

-- a transaction of takes that ends frees the numbers that it held
pub gives_up_takes : (r : Indexing) (txn : ℕ) (numbers : List ℕ) (table : Table) (ring : Index) → option_map (λ (o : Open). o.listed) (open_at r.table txn) ≡ Some (Takes numbers) → HasAt txn None r.table table → length table + 1 ≡ length r.table
    → ring ≡ record r.ring { live = freed numbers r.ring.live } → IsGivenUp txn r (record r { ring = ring; table = table })
gives_up_takes r txn numbers table ring is ended count freed_is =
    let takes : taken_by (open_at r.table txn) ≡ numbers = listed_is (open_at r.table txn) (Takes numbers) is in
    record {
      ended = ended;
      count = count;
      ring = freed_is ∙ ap (λ (ns : List ℕ). record r.ring { live = freed ns r.ring.live }) (sym takes);
      slots = refl;
      next = refl;
    }
