-- A transaction that is rolled back, over a ring and a table.
use Rattle.std.proofs.Common.{inl, inr, ◌≡◌, ◌≤◌, ◌+◌, ◌∷◌, [], ℕ, List, length, max, Option, Some, None, IsSome, Bool, true, false, ◌==◌, cond, refl, sym, ◌∙◌, ap, subst, arith}
use Rattle.std.specs.List.{AllByRecursion}
use Rattle.std.specs.Prelude.{◌↔◌}
use Rattle.std.proofs.lemmas.Bool.Decides.{eqb_tells}
use Rattle.std.proofs.lemmas.List.{append-nil}
use Rattle.event_core.specs.Content.{Content}
use Rattle.event_core.specs.Journal.{is_among, left, next}
use Rattle.event_core.specs.declared.journal.Entry.{Entry}
use Rattle.event_core.specs.declared.journal.Entry.TheVariants as entries
use Rattle.record_form.specs.declared.record.Pointer.{Pointer}
use Rattle.record_form.specs.declared.record.Rec.{Rec}
use Rattle.record_form.specs.declared.record.Rec.TheVariants.{Rollback}
use Rattle.event_ring.specs.Slots.{Left}
use Rattle.open_table.specs.Tables.{Listed, Open, Puts, Takes, is_open, open_at, takes_of}
use Rattle.channel_face.specs.Machine.{is_some_of}
use Rattle.ring_replay.specs.declared.indexing.Indexing.{Indexing}
use Rattle.ring_replay.specs.Indexing.{GoesOn, HasEntry, HasItems, IsGivenUp, IsListed, Keeps, Places, freed, taken_by}
use Rattle.channel_replay.specs.Marks.{Applied, IsHeld, Past, journal, next_txn, numbers_of, opened}
use Rattle.channel_replay.specs.Rules.{IsTxn}
use Rattle.channel_replay.specs.Start.{Start}
use Rattle.channel_replay.proofs.Among.{one_removed}
use Rattle.channel_replay.proofs.Keys.{Tells}
use Rattle.ring_replay.proofs.Going.{each_changed, same_some}
use Rattle.ring_replay.proofs.Taken.{rollback_taken}

-- what the table says of a transaction's takes
pub same_numbers : (places : Places) (o : Option Open) (entry : Option Entry) → HasEntry places o entry → taken_by o ≡ numbers_of entry
same_numbers places None None has = refl
same_numbers places None (Some entry) has = absurd has
same_numbers places (Some o) None has = absurd has
same_numbers places (Some o) (Some entry) has = by_list o.listed entry has
  where
    by_list : (l : Listed) (entry : Entry) → IsListed places l entry → takes_of l ≡ numbers_of (Some entry)
    by_list (Puts pointers) (entries.Puts events) has = refl
    by_list (Puts pointers) (entries.Takes numbers) has = absurd has
    by_list (Takes numbers) (entries.Puts events) has = absurd has
    by_list (Takes numbers) (entries.Takes others) has = has

-- which events the ring has doesn't change
pub freed_items : (places : Places) (numbers : List ℕ) (live : List Left) (items : List (ℕ × Content)) → HasItems places live items → HasItems places (freed numbers live) items
freed_items places numbers [] items has = has
freed_items places numbers (l ∷ live) [] has = absurd has
freed_items places numbers (l ∷ live) (item ∷ items) has = by_test (is_among numbers l.number) (freed_items places numbers live items has.2)
  where
    by_test : (b : Bool) → HasItems places (freed numbers live) items → HasItems places (cond b (record l { held = false }) l ∷ freed numbers live) (item ∷ items)
    by_test true rest = (has.0, has.1, rest)
    by_test false rest = (has.0, has.1, rest)

-- those of the numbers are held by none, and the others as before
pub freed_held : (P Q : ℕ → Type 0) (numbers : List ℕ) (live : List Left) → ((n : ℕ) → is_among numbers n ≡ true → Q n → ⊥) → ((n : ℕ) → is_among numbers n ≡ false → (P n → Q n) × (Q n → P n))
    → AllByRecursion (λ l. (l.held ≡ true) ↔ P l.number) live → AllByRecursion (λ l. (l.held ≡ true) ↔ Q l.number) (freed numbers live)
freed_held P Q numbers [] none same all = tt
freed_held P Q numbers (l ∷ live) none same all = by_test (is_among numbers l.number) refl (freed_held P Q numbers live none same all.1)
  where
    by_test : (b : Bool) → is_among numbers l.number ≡ b → AllByRecursion (λ l. (l.held ≡ true) ↔ Q l.number) (freed numbers live) → AllByRecursion (λ l. (l.held ≡ true) ↔ Q l.number) (cond b (record l { held = false }) l ∷ freed numbers live)
    by_test true there rest = ((λ held. absurd (cc), λ q. absurd (none l.number there q)), rest)
    by_test false isnt rest = ((λ held. (same l.number isnt).0 (all.0.0 held), λ q. all.0.1 ((same l.number isnt).1 q)), rest)

-- who holds what after the rollback
held_behind : (s : Start) (past : Past) (txn n : ℕ) → ((t other m : ℕ) → is_among (numbers_of (opened t past)) m ≡ true → is_among (numbers_of (opened other past)) m ≡ true → t ≡ other) → is_among (numbers_of (opened txn past)) n ≡ true → IsHeld (Applied (Rollback txn) ∷ past) n → ⊥
held_behind s past txn n once there h = from (eqb_tells txn h.0) h.1
  where
    from : Tells txn h.0 → is_among (numbers_of (cond (txn == h.0) None (opened h.0 past))) n ≡ true → ⊥
    from (inl same) is = let here = rw same.0 at is in let e : false ≡ true = here in cc
    from (inr other) is = other.1 (once txn h.0 n there (rw other.0 at is))

-- who holds a number that the transaction did not take is as before
pub held_still : (past : Past) (txn n : ℕ) → is_among (numbers_of (opened txn past)) n ≡ false → (IsHeld past n → IsHeld (Applied (Rollback txn) ∷ past) n) × (IsHeld (Applied (Rollback txn) ∷ past) n → IsHeld past n)
held_still past txn n isnt = (λ h. (h.0, to h.0 (eqb_tells txn h.0) h.1), λ h. (h.0, from h.0 (eqb_tells txn h.0) h.1))
  where
    to : (t : ℕ) → Tells txn t → is_among (numbers_of (opened t past)) n ≡ true → is_among (numbers_of (cond (txn == t) None (opened t past))) n ≡ true
    to t (inl same) there = absurd (let e : true ≡ false = sym there ∙ (ap (λ (m : ℕ). is_among (numbers_of (opened m past)) n) (sym same.1) ∙ isnt) in cc)
    to t (inr other) there = rw other.0 there

    from : (t : ℕ) → Tells txn t → is_among (numbers_of (cond (txn == t) None (opened t past))) n ≡ true → is_among (numbers_of (opened t past)) n ≡ true
    from t (inl same) there = absurd (let here = rw same.0 at there in let e : false ≡ true = here in cc)
    from t (inr other) there = rw other.0 at there

-- What it takes is held no longer, and the rest is as it was.
pub given_up : (txn : ℕ) (places : Places) (s : Start) (past : Past) (old new : Indexing) → Keeps places s past old → is_some_of (opened txn past) ≡ true → txn + 1 ≤ next_txn past → IsGivenUp txn old new → Keeps places s (Applied (Rollback txn) ∷ past) new
given_up txn places s past old new keeps some low up =
    let rec : Rec = Rollback txn in
    let ns : taken_by (open_at old.table txn) ≡ numbers_of (opened txn past) = same_numbers places (open_at old.table txn) (opened txn past) (keeps.each txn) in
    let same : journal past ≡ journal (Applied rec ∷ past) = sym (append-nil (journal past)) in
    let live : new.ring.live ≡ freed (numbers_of (opened txn past)) old.ring.live = ap (λ (r : _). r.live) up.ring ∙ ap (λ (l : List ℕ). freed l old.ring.live) ns in
    record {
      items = rw live (freed_items places (numbers_of (opened txn past)) old.ring.live (left s.base (journal (Applied rec ∷ past))) (subst (λ (j : List Entry). HasItems places old.ring.live (left s.base j)) same keeps.items));
      held = rw live (freed_held (IsHeld past) (IsHeld (Applied rec ∷ past)) (numbers_of (opened txn past)) old.ring.live
          (λ n among held. held_behind s past txn n keeps.taken.once among held) (λ n isnt. held_still past txn n isnt) keeps.held);
      slots = ap (λ (r : _). r.slots) up.ring ∙ (keeps.slots ∙ sym up.slots);
      top = omega (arith, ap (λ (r : _). r.top) up.ring, ap (λ (x : _). x.number) up.next, keeps.top);
      number = ap (λ (x : _). x.number) up.next ∙ (keeps.number ∙ ap (next s.base) same);
      txn = omega (arith, ap (λ (x : _). x.txn) up.next, keeps.txn, low);
      each = each_changed places past rec old.table new.table None keeps.each up.ended tt;
      as_many = omega (arith, up.count, keeps.as_many, one_removed past txn some);
      taken = rollback_taken s past txn keeps.taken;
    }

-- a rollback of an open transaction is applied
pub rolls_back : (txn : ℕ) (place : Pointer) (old mid new : Indexing) → IsTxn txn → IsSome (open_at old.table txn) → IsGivenUp txn old mid
    → new.ring ≡ mid.ring → new.slots ≡ mid.slots → new.table ≡ mid.table → new.next.number ≡ mid.next.number → new.next.txn ≡ max (txn + 1) mid.next.txn → GoesOn true old place (Rollback txn) new
rolls_back txn place old mid new is there up ring slots table number above places s past stands keeps =
    let rec : Rec = Rollback txn in
    let has : HasEntry places (open_at old.table txn) (opened txn past) = keeps.each txn in
    let ns : taken_by (open_at old.table txn) ≡ numbers_of (opened txn past) = same_numbers places (open_at old.table txn) (opened txn past) has in
    let some : is_some_of (opened txn past) ≡ true = sym (same_some places (open_at old.table txn) (opened txn past) has) ∙ there in
    let same : journal past ≡ journal (Applied rec ∷ past) = sym (append-nil (journal past)) in
    let live : new.ring.live ≡ freed (numbers_of (opened txn past)) old.ring.live = ap (λ (r : _). r.live) (ring ∙ up.ring) ∙ ap (λ (l : List ℕ). freed l old.ring.live) ns in
    let legal : IsTxn txn × IsSome (opened txn past) = (is, open_one (opened txn past) some) in (
      legal,
      record {
        items = rw live (freed_items places (numbers_of (opened txn past)) old.ring.live (left s.base (journal (Applied rec ∷ past))) (subst (λ (j : List Entry). HasItems places old.ring.live (left s.base j)) same keeps.items));
        held = rw live (freed_held (IsHeld past) (IsHeld (Applied rec ∷ past)) (numbers_of (opened txn past)) old.ring.live
            (λ n among held. held_behind s past txn n keeps.taken.once among held) (λ n isnt. held_still past txn n isnt) keeps.held);
        slots = ap (λ (r : _). r.slots) (ring ∙ up.ring) ∙ (keeps.slots ∙ sym (slots ∙ up.slots));
        top = omega (arith, ap (λ (r : _). r.top) (ring ∙ up.ring), number, ap (λ (x : _). x.number) up.next, keeps.top);
        number = number ∙ (ap (λ (x : _). x.number) up.next ∙ (keeps.number ∙ ap (next s.base) same));
        txn = omega (arith, above, ap (λ (x : _). x.txn) up.next, keeps.txn);
        each = each_changed places past rec old.table new.table None keeps.each (rw table up.ended) tt;
        as_many = omega (arith, ap (λ (t : _). length t) table, up.count, keeps.as_many, one_removed past txn some);
        taken = rollback_taken s past txn keeps.taken;
      },
    )
  where
    open_one : (o : Option Entry) → is_some_of o ≡ true → IsSome o
    open_one None is' = absurd (cc)
    open_one (Some entry) is' = refl

-- a transaction of some kind that is open is there
pub some_open : (puts : Bool) (o : Option Open) → is_open puts o ≡ true → IsSome o
some_open true None is = absurd (let e : false ≡ true = is in cc)
some_open false None is = absurd (let e : false ≡ true = is in cc)
some_open puts (Some o) is = refl
