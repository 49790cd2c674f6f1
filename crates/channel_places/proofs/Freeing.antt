-- Takes that are rolled back.
use Rattle.std.proofs.Common.{◌⊎◌, inl, inr, ◌≡◌, ◌≢◌, ◌≤◌, ◌+◌, ◌++◌, ◌∷◌, [], ℕ, List, length, Option, Some, None, Bool, true, false, ◌==◌, ◌||◌, cond, refl, sym, ◌∙◌, ap, subst, arith}
use Rattle.std.specs.Prelude.{option_map}
use Rattle.std.proofs.lemmas.Bool.Decides.{eqb_tells}
use Rattle.event_core.specs.Content.{Content}
use Rattle.event_core.specs.Journal.{is_among, taken_numbers}
use Rattle.event_core.specs.declared.journal.Entry.{Entry}
use Rattle.event_core.specs.declared.journal.Entry.TheVariants as entry
use Rattle.open_table.specs.Tables.{HasAt, Listed, Open, Puts, Table, Takes, is_open, is_puts, takes_of}
use Rattle.event_ring.specs.Slots.{IsLive, Left, marked}
use Rattle.channel_face.specs.Machine.{State, base_of, close, entries, entry_of, without_entry}
use Rattle.channel_face.specs.Sound.{Rising, number_of, times}
use Rattle.channel_face.proofs.Numbers.{among_times, distinct, distinct_times, number_once, other_number, rising_base, same_number, times-append}
use Rattle.channel_face.proofs.Opened.{opened-without, times-take}
use Rattle.channel_places.specs.Ends.{AreLive, freed}
use Rattle.channel_places.specs.Looks.{Known, LookLeft, Looks, LooksListed, Places, StandsIn, held_in}
use Rattle.channel_places.proofs.Ending.{HasBoth, among_same, left_same, opened_gone}
use Rattle.channel_places.proofs.Opening.{length-without, rise-without, size-without}

-- an event that an item has is left
pub left_live : (known : Known) (held : List ℕ) (live : List Left) (items : List (ℕ × Content)) (n : ℕ) → LookLeft known held live items → 1 ≤ number_of n items → IsLive live n
left_live known held [] [] n look some = absurd (omega (arith, some))
left_live known held [] (x ∷ items) n look some = absurd look
left_live known held (l ∷ live) [] n look some = absurd look
left_live known held (l ∷ live) (x ∷ items) n look some = from (eqb_tells x.0 n) (left_live known held live items n look.1)
  where
    from : ((x.0 == n) ≡ true) × (x.0 ≡ n) ⊎ ((x.0 == n) ≡ false) × (x.0 ≢ n) → (1 ≤ number_of n items → IsLive live n) → (l.number ≡ n) ⊎ IsLive live n
    from (inl here) more = inl (look.0.0 ∙ here.1)
    from (inr other) more = inr (more (omega (arith, some, other_number x.0 n other.1)))

-- numbers named no more often than items have them are of events that are left
pub all_live : (known : Known) (held : List ℕ) (live : List Left) (items : List (ℕ × Content)) (numbers : List ℕ) → LookLeft known held live items → ((m : ℕ) → times m numbers ≤ number_of m items) → AreLive live numbers
all_live known held live items [] look within = tt
all_live known held live items (n ∷ numbers) look within = (
  left_live known held live items n look (omega (arith, within n, same_number n n refl)),
  all_live known held live items numbers look (λ m. omega (arith, within m)),
)

-- one of the numbers is held no longer
unheld : (known : Known) (n : ℕ) (rest : List ℕ) (live : List Left) (items : List (ℕ × Content)) → is_among rest n ≡ false → LookLeft known (n ∷ rest) live items → LookLeft known rest (marked n false live) items
unheld known n rest [] [] isnt look = tt
unheld known n rest [] (x ∷ items) isnt look = absurd look
unheld known n rest (l ∷ live) [] isnt look = absurd look
unheld known n rest (l ∷ live) (x ∷ items) isnt look = (from (eqb_tells l.number n) (eqb_tells n x.0), unheld known n rest live items isnt look.1)
  where
    new : Left
    new = cond (l.number == n) (record l { held = false }) l

    from : ((l.number == n) ≡ true) × (l.number ≡ n) ⊎ ((l.number == n) ≡ false) × (l.number ≢ n) → ((n == x.0) ≡ true) × (n ≡ x.0) ⊎ ((n == x.0) ≡ false) × (n ≢ x.0)
        → (new.number ≡ x.0) × (new.held ≡ is_among rest x.0) × StandsIn known new.pointer x.1
    from (inl here) (inl same) = rw here.0 (look.0.0, sym (ap (λ (m : ℕ). is_among rest m) (sym same.1) ∙ isnt), look.0.2)
    from (inl here) (inr other) = absurd (other.1 (sym here.1 ∙ look.0.0))
    from (inr another) (inl same) = absurd (another.1 (look.0.0 ∙ sym same.1))
    from (inr another) (inr other) = rw another.0 (look.0.0, look.0.1 ∙ ap (λ (t : Bool). t || is_among rest x.0) other.0, look.0.2)

left_freed : (known : Known) (numbers rest : List ℕ) (live : List Left) (items : List (ℕ × Content)) → ((m : ℕ) → times m (numbers ++ rest) ≤ 1) → LookLeft known (numbers ++ rest) live items → LookLeft known rest (freed numbers live) items
left_freed known [] rest live items once look = look
left_freed known (n ∷ numbers) rest live items once look =
    left_freed known numbers rest (marked n false live) items (λ m. omega (arith, once m)) (unheld known n (numbers ++ rest) live items (not_again (among_times n (numbers ++ rest))) look)
  where
    not_again : ((is_among (numbers ++ rest) n ≡ true) × (1 ≤ times n (numbers ++ rest))) ⊎ ((is_among (numbers ++ rest) n ≡ false) × (times n (numbers ++ rest) ≡ 0)) → is_among (numbers ++ rest) n ≡ false
    not_again (inl again) = absurd (omega (arith, once n, again.1, same_number n n refl))
    not_again (inr never) = never.0

-- What an open transaction of takes has.
pub record HasTaken (known : Known) (l : Listed) (e : Option Entry) : Type 0 where
  pub numbers : List ℕ
  pub taken : takes_of l ≡ numbers
  pub e_is : e ≡ Some (entry.Takes numbers)

-- an open transaction that isn't puts has takes
pub taken_of : (known : Known) (l : Listed) (e : Option Entry) → HasBoth known l e → is_puts l ≡ false → HasTaken known l e
taken_of known l e both are = by_both l both.own both.look are both.e_is
  where
    by_both : (x : Listed) (own : Entry) → LooksListed known x own → is_puts x ≡ false → e ≡ Some own → HasTaken known x e
    by_both (Puts pointers) own look are' is = absurd (cc)
    by_both (Takes numbers) (entry.Puts events) look are' is = absurd look
    by_both (Takes numbers) (entry.Takes taken) look are' is = record { numbers = taken; taken = look; e_is = is }

-- what an open transaction took is still left
pub takes_live : (settled known : Known) (p : Places) (s : State) (n : ℕ) (l : Listed) → Looks settled known p s → HasTaken known l (entry_of n s.opened) → AreLive p.live (takes_of l)
takes_live settled known p s n l looks has =
    subst (λ (ns : List ℕ). AreLive p.live ns) (sym has.taken) (all_live settled (held_in s) p.live s.items has.numbers looks.left (λ m. omega (
      arith,
      distinct_times (held_in s) 0 s.items s.first (rising_base (base_of s) looks.sound.base) looks.sound.held m,
      times-append m (taken_numbers (entries s.opened)) (taken_numbers s.staged),
      opened-without m n s.opened (entry.Takes has.numbers) has.e_is,
      times-take m has.numbers,
    )))

-- a transaction of takes is rolled back, and its events are free again
pub drop_takes_looks : (settled known : Known) (p : Places) (s : State) (t : Table) (n : ℕ) (l : Listed) → Looks settled known p s → HasTaken known l (entry_of n s.opened) → HasAt n None p.opened t → length t + 1 ≡ length p.opened
    → Looks settled known (record p { live = freed (takes_of l) p.live; opened = t }) (close n s)
drop_takes_looks settled known p s t n l looks has gone many =
    subst (λ (ns : List ℕ). Looks settled known (record p { live = freed ns p.live; opened = t }) (close n s)) (sym has.taken) looks_so
  where
    rest : List ℕ
    rest = taken_numbers (entries (without_entry n s.opened)) ++ taken_numbers s.staged

    rising : Rising 0 s.items s.first
    rising = rising_base (base_of s) looks.sound.base

    -- with what the transaction takes
    whole : (m : ℕ) → times m (has.numbers ++ rest) ≡ times m (held_in s)
    whole m = omega (
      arith,
      times-append m has.numbers rest,
      times-append m (taken_numbers (entries (without_entry n s.opened))) (taken_numbers s.staged),
      times-append m (taken_numbers (entries s.opened)) (taken_numbers s.staged),
      opened-without m n s.opened (entry.Takes has.numbers) has.e_is,
      times-take m has.numbers,
    )

    within : (m : ℕ) → times m (held_in s) ≤ number_of m s.items
    within m = distinct_times (held_in s) 0 s.items s.first rising looks.sound.held m

    looks_so : Looks settled known (record p { live = freed has.numbers p.live; opened = t }) (close n s)
    looks_so = record {
      sound = record {
        base = looks.sound.base;
        held = distinct rest 0 s.items s.first rising (λ m. omega (arith, within m, whole m, times-append m has.numbers rest));
        opened = rise-without 0 s.txn n s.opened looks.sound.opened;
        staged = looks.sound.staged;
      };
      left = left_freed settled has.numbers rest p.live s.items (λ m. omega (arith, whole m, within m, number_once m 0 s.items s.first rising))
          (left_same settled (held_in s) (has.numbers ++ rest) p.live s.items (λ m. among_same (held_in s) (has.numbers ++ rest) m (whole m)) looks.left);
      opened = opened_gone settled known p s t n looks gone;
      as_many = omega (arith, many, looks.as_many, length-without n s.opened (entry.Takes has.numbers) has.e_is);
      open_puts = omega (arith, looks.open_puts, size-without n s.opened (entry.Takes has.numbers) has.e_is);
      staged = looks.staged;
      numbers = looks.numbers;
    }

-- what was found of a transaction open for takes isn't puts
pub takes_of_one : (o : Option Open) (l : Listed) → is_open false o ≡ true → option_map (λ (q : Open). q.listed) o ≡ Some l → is_puts l ≡ false
takes_of_one None l is got = absurd (cc)
takes_of_one (Some o) l is got = ap (λ (x : Listed). is_puts x) (sym (some_listed o.listed l got)) ∙ from (is_puts o.listed) is
  where
    some_listed : (a b : Listed) → Some a ≡ Some b → a ≡ b
    some_listed a b same = cc

    from : (t : Bool) → Rattle.std.specs.Prelude.not t ≡ true → t ≡ false
    from true isnt = absurd (cc)
    from false isnt = refl

-- freeing events takes none of them out
pub freed_length : (numbers : List ℕ) (live : List Left) → length (freed numbers live) ≡ length live
freed_length [] live = refl
freed_length (n ∷ numbers) live = freed_length numbers (marked n false live) ∙ marked_length n live
  where
    marked_length : (n : ℕ) (live : List Left) → length (marked n false live) ≡ length live
    marked_length n [] = refl
    marked_length n (l ∷ live) = omega (arith, marked_length n live)
