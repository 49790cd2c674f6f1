-- All open transactions are dropped, one after another.
use Rattle.std.proofs.Common.{inl, inr, ◌≡◌, ◌≤◌, ◌+◌, ◌∷◌, [], ℕ, List, length, max, Option, Some, None, IsSome, is_some, true, false, ◌==◌, ◌||◌, cond, refl, sym, ◌∙◌, ap, subst, arith}
use Rattle.std.specs.List.{AllByRecursion}
use Rattle.std.specs.Prelude.{◌↔◌}
use Rattle.std.proofs.lemmas.Bool.Decides.{eqb_tells}
use Rattle.std.proofs.lemmas.List.{append-nil}
use Rattle.event_core.specs.Journal.{is_among, left, next}
use Rattle.event_core.specs.declared.journal.Entry.{Entry}
use Rattle.record_form.specs.declared.record.Rec.TheVariants.{Rollback}
use Rattle.event_ring.specs.Slots.{Left}
use Rattle.open_table.specs.Tables.{IsNext, Open, open_at}
use Rattle.channel_face.specs.Machine.{is_some_of}
use Rattle.channel_replay.specs.Marks.{Applied, Dropped, IsHeld, Past, journal, next_txn, numbers_of, open_txns, opened, opened_by, txn_of}
use Rattle.channel_replay.specs.Start.{Start}
use Rattle.channel_replay.proofs.Among.{among_open}
use Rattle.channel_replay.proofs.Keys.{Tells}
use Rattle.ring_replay.specs.declared.indexing.Indexing.{Indexing}
use Rattle.ring_replay.specs.Indexing.{HasEntry, HasItems, IsGivenUp, Keeps, Places}
use Rattle.ring_replay.proofs.Going.{same_some}
use Rattle.ring_replay.proofs.RollingBack.{given_up}

-- a transaction that is open has been seen
open_low : (past : Past) (t : ℕ) → is_some_of (opened t past) ≡ true → t + 1 ≤ next_txn past
open_low [] t is = absurd (let e : false ≡ true = is in cc)
open_low (Dropped ∷ past) t is = absurd (let e : false ≡ true = is in cc)
open_low (Applied rec ∷ past) t is = from (eqb_tells (txn_of rec) t) is (open_low past t)
  where
    from : Tells (txn_of rec) t → is_some_of (cond (txn_of rec == t) (opened_by rec (opened t past)) (opened t past)) ≡ true → (is_some_of (opened t past) ≡ true → t + 1 ≤ next_txn past) → t + 1 ≤ max (txn_of rec + 1) (next_txn past)
    from (inl same) is' rest = omega (arith, same.1)
    from (inr other) is' rest = omega (arith, rest (rw other.0 at is'))

none_among : (xs : List ℕ) → ((n : ℕ) → is_among xs n ≡ false) → length xs ≡ 0
none_among [] none = refl
none_among (x ∷ xs) none = absurd (from (eqb_tells x x) (none x))
  where
    from : Tells x x → ((x == x) || is_among xs x) ≡ false → ⊥
    from (inl same) isnt = let here = rw same.0 at isnt in let e : true ≡ false = here in cc
    from (inr other) isnt = other.1 refl

-- What has been dropped so far was open in marks that commit no more, and see no further transaction.
pub record Between (places : Places) (s : Start) (past : Past) (r : Indexing) : Type 0 where
  pub mid : Past
  pub keeps : Keeps places s mid r
  pub journal_is : journal mid ≡ journal past
  pub txn_is : next_txn mid ≡ next_txn past

-- after any marks that were kept of, some are between
abbrev pub GoesDown : Indexing → Indexing → Type 0
GoesDown old now = (places : Places) (s : Start) (past : Past) → Keeps places s past old → Between places s past now

-- one more is dropped
pub down_one : (txn : ℕ) (old now new : Indexing) → IsSome (open_at now.table txn) → GoesDown old now → IsGivenUp txn now new → GoesDown old new
down_one txn old now new there down up places s past keeps =
    let b : Between places s past now = down places s past keeps in
    let some : is_some_of (opened txn b.mid) ≡ true = sym (same_some places (open_at now.table txn) (opened txn b.mid) (b.keeps.each txn)) ∙ there in
    let low : txn + 1 ≤ next_txn b.mid = open_low b.mid txn some in
    record {
      mid = Applied (Rollback txn) ∷ b.mid;
      keeps = given_up txn places s b.mid now new b.keeps some low up;
      journal_is = append-nil (journal b.mid) ∙ b.journal_is;
      txn_is = omega (arith, low, b.txn_is);
    }

-- nobody holds anything where nothing is open
none_held : (places : Places) (s : Start) (past mid : Past) (r : Indexing) → Keeps places s mid r → ((t : ℕ) → open_at r.table t ≡ None) → (n : ℕ) → IsHeld mid n → ⊥
none_held places s past mid r keeps none n h = from (opened h.0 mid) (subst (λ (o : Option Open). HasEntry places o (opened h.0 mid)) (none h.0) (keeps.each h.0)) h.1
  where
    from : (entry : Option Entry) → HasEntry places None entry → is_among (numbers_of entry) n ≡ true → ⊥
    from None has is = let e : false ≡ true = is in cc
    from (Some entry) has is = has

free_now : (P Q : ℕ → Type 0) (live : List Left) → ((n : ℕ) → P n → ⊥) → ((n : ℕ) → Q n → ⊥) → AllByRecursion (λ l. (l.held ≡ true) ↔ P l.number) live → AllByRecursion (λ l. (l.held ≡ true) ↔ Q l.number) live
free_now P Q [] never none all = tt
free_now P Q (l ∷ live) never none all = ((λ held. absurd (never l.number (all.0.0 held)), λ q. absurd (none l.number q)), free_now P Q live never none all.1)

nothing_open : (places : Places) (past : Past) (r : Indexing) → ((t : ℕ) → HasEntry places (open_at r.table t) (opened t past)) → ((t : ℕ) → open_at r.table t ≡ None) → length (open_txns past) ≡ 0
nothing_open places past r each none = none_among (open_txns past) (λ n. among_open past n ∙ (sym (same_some places (open_at r.table n) (opened n past) (each n)) ∙ ap is_some (none n)))

-- where all are dropped, nothing is open after the drop
pub down_all : (old now : Indexing) → IsNext now.table None None → GoesDown old now → (places : Places) (s : Start) (past : Past) → Keeps places s past old → Keeps places s (Dropped ∷ past) now
down_all old now gone down places s past keeps =
    let b : Between places s past now = down places s past keeps in
    let none : (t : ℕ) → open_at now.table t ≡ None = λ t. gone t tt in
    record {
      items = subst (λ (j : List Entry). HasItems places now.ring.live (left s.base j)) b.journal_is b.keeps.items;
      held = free_now (IsHeld b.mid) (IsHeld (Dropped ∷ past)) now.ring.live (none_held places s past b.mid now b.keeps none) (λ n h. nobody h.1) b.keeps.held;
      slots = b.keeps.slots;
      top = b.keeps.top;
      number = b.keeps.number ∙ ap (next s.base) b.journal_is;
      txn = omega (arith, b.keeps.txn, b.txn_is);
      each = λ t. rw (none t) tt;
      as_many = b.keeps.as_many ∙ nothing_open places b.mid now b.keeps.each none;
      taken = record {
        base = keeps.taken.base;
        held_below = λ t n more. refl;
        taken_below = keeps.taken.taken_below;
        there = λ t n is. absurd (nobody is);
        once = λ t other n one two. absurd (nobody one);
        apart = λ t. tt;
      };
    }
  where
    nobody : false ≡ true → ⊥
    nobody is = cc
