-- What a folder's log files leave in the ring at the end.
use Rattle.std.proofs.Common.{◌≡◌, ◌<◌, ◌≤◌, ◌∷◌, [], ℕ, List, length, true, false, Bool, Result, Ok, Err, IfOk, IfErr, refl, sym, ◌∙◌, ap, subst, arith}
use Rattle.std.specs.List.{AllByRecursion}
use Rattle.std.specs.Prelude.{◌↔◌}
use Rattle.event_core.specs.Content.{Content}
use Rattle.event_core.specs.Journal.{after_journal, left}
use Rattle.event_ring.specs.Slots.{Index, Left}
use Rattle.channel_face.proofs.Numbers.{base_rising, rising-left, rising_base}
use Rattle.channel_replay.specs.declared.recovery.Next.{Next}
use Rattle.channel_replay.specs.declared.refused.ReplayRefused.{ReplayRefused}
use Rattle.channel_replay.specs.declared.refused.ReplayRefused.TheVariants as refusals
use Rattle.channel_replay.specs.Marks.{Dropped, IsHeld, Past, journal}
use Rattle.channel_replay.specs.Recover.{AreSound, LogFile, StandsFor, empty_base, empty_start, lines, past_lines}
use Rattle.channel_replay.specs.Replay.{LeavesCount, WhereOver}
use Rattle.channel_replay.specs.Start.{Start}
use Rattle.channel_replay.proofs.Lines.{some_txn}
use Rattle.ring_replay.specs.declared.folder.Replayed.{Replayed}
use Rattle.ring_replay.specs.declared.indexing.Indexing.{Indexing}
use Rattle.ring_replay.specs.Indexing.{HasItems, IsKept, Keeps, LinesStand, Places}
use Rattle.ring_replay.specs.Folder.{AreReplayed, IsReady, puts_of}
use Rattle.ring_replay.proofs.Standing.{puts_stand}

-- the lines of log files were applied
abbrev pub Applied : List LogFile → Indexing → Type 0
Applied logs now = AreSound empty_base [] (lines logs) × ((places : Places) → LinesStand places (lines logs) → Keeps places empty_start (past_lines [] (lines logs)) now)

-- and what was open then was dropped
abbrev pub Drops : Indexing → Indexing → Type 0
Drops now dropped = (places : Places) (s : Start) (past : Past) → Keeps places s past now → Keeps places s (Dropped ∷ past) dropped

stands_for : (logs : List LogFile) (now dropped : Indexing) (txn : ℕ) → Applied logs now → Drops now dropped → txn ≡ dropped.next.txn → StandsFor logs (after_journal empty_base (journal (past_lines [] (lines logs)))) txn
stands_for logs now dropped txn is drops same = record {
  sound = is.0;
  left_is = refl;
  txn_is = same ∙ (drops (puts_of (lines logs)) empty_start (past_lines [] (lines logs)) (is.1 (puts_of (lines logs)) (puts_stand (lines logs)))).txn;
}

-- The ring has what the lines leave.
pub replayed_all : (logs : List LogFile) (now dropped : Indexing) (capacity : ℕ) (r : Replayed) → Applied logs now → Drops now dropped → r.ring ≡ record dropped.ring { slots = capacity } → r.next ≡ dropped.next → AreReplayed logs r
replayed_all logs now dropped capacity r is drops ring next_is =
    let places : Places = puts_of (lines logs) in
    let past : Past = past_lines [] (lines logs) in
    let keeps : Keeps places empty_start (Dropped ∷ past) dropped = drops places empty_start past (is.1 places (puts_stand (lines logs))) in
    record {
      left = after_journal empty_base (journal past);
      stands = stands_for logs now dropped r.next.txn is drops (ap (λ (n : Next). n.txn) next_is);
      items = subst (λ (l : List Left). HasItems places l (left empty_base (journal past))) (sym (ap (λ (i : Index). i.live) ring)) keeps.items;
      number = ap (λ (n : Next). n.number) next_is ∙ keeps.number;
    }

all_free : (past : Past) (live : List Left) → AllByRecursion (λ l. (l.held ≡ true) ↔ IsHeld (Dropped ∷ past) l.number) live → AllByRecursion (λ l. l.held ≡ false) live
all_free past [] all = tt
all_free past (l ∷ live) all = (by_test l.held refl, all_free past live all.1)
  where
    by_test : (b : Bool) → l.held ≡ b → l.held ≡ false
    by_test false is = is
    by_test true is = absurd (let h : IsHeld (Dropped ∷ past) l.number = all.0.0 is in let e : false ≡ true = h.1 in cc)

-- A channel can go on from it.
pub replayed_ready : (now dropped : Indexing) (capacity : ℕ) (r : Replayed) → IsKept now → Drops now dropped → r.ring ≡ record dropped.ring { slots = capacity } → r.next ≡ dropped.next → length dropped.ring.live ≤ capacity → IsReady capacity r
replayed_ready now dropped capacity r kept drops ring next_is few =
    let places : Places = kept.0 in
    let s : Start = kept.1 in
    let past : Past = kept.2 in
    let keeps : Keeps places s (Dropped ∷ past) dropped = drops places s past kept.3 in
    let live : r.ring.live ≡ dropped.ring.live = ap (λ (i : Index). i.live) ring in
    record {
      slots = ap (λ (i : Index). i.slots) ring;
      within = omega (arith, few, ap (λ (l : List Left). length l) live);
      top = omega (arith, keeps.top, ap (λ (i : Index). i.top) ring, ap (λ (n : Next). n.number) next_is);
      free = subst (λ (l : List Left). AllByRecursion (λ (x : Left). x.held ≡ false) l) (sym live) (all_free past dropped.ring.live keeps.held);
      txn = omega (arith, ap (λ (n : Next). n.txn) next_is, keeps.txn, some_txn past);
      base = (
        places,
        after_journal s.base (journal past),
        base_rising (after_journal s.base (journal past)) (rising-left s.base (journal past) (rising_base s.base keeps.taken.base)),
        subst (λ (l : List Left). HasItems places l (left s.base (journal past))) (sym live) keeps.items,
        sym (ap (λ (n : Next). n.number) next_is ∙ keeps.number),
        kept.4,
      );
    }

items_length : (places : Places) (live : List Left) (items : List (ℕ × Content)) → HasItems places live items → length live ≡ length items
items_length places [] [] has = refl
items_length places [] (item ∷ items) has = absurd has
items_length places (l ∷ live) [] has = absurd has
items_length places (l ∷ live) (item ∷ items) has = omega (arith, items_length places live items has.2)

-- So many events are left.
pub replayed_count : (logs : List LogFile) (now dropped : Indexing) (count : ℕ) → Applied logs now → Drops now dropped → count ≡ length dropped.ring.live → LeavesCount logs count
replayed_count logs now dropped count is drops same =
    let places : Places = puts_of (lines logs) in
    let past : Past = past_lines [] (lines logs) in
    let keeps : Keeps places empty_start (Dropped ∷ past) dropped = drops places empty_start past (is.1 places (puts_stand (lines logs))) in (
      after_journal empty_base (journal past),
      dropped.next.txn,
      stands_for logs now dropped dropped.next.txn is drops refl,
      same ∙ items_length places dropped.ring.live (left empty_base (journal past)) keeps.items,
    )

-- of answers

-- what follows of a ring within its capacity follows of an answer Ok
pub within_ok : (r : Result Replayed ReplayRefused) (index : Indexing) (capacity : ℕ) (Q : Replayed → Type 0) → ((x : Replayed) → x.ring ≡ record index.ring { slots = capacity } → x.next ≡ index.next → length index.ring.live ≤ capacity → Q x)
    → IfOk r (λ x. (x.ring ≡ record index.ring { slots = capacity }) × (x.next ≡ index.next) × (length index.ring.live ≤ capacity)) → IfOk r Q
within_ok (Ok x) index capacity Q maps is = maps x is.0 is.1 is.2
within_ok (Err e) index capacity Q maps is = tt

-- what follows of a count over the capacity follows of that refusal
pub within_over : (r : Result Replayed ReplayRefused) (index : Indexing) (capacity : ℕ) (Q : ℕ → Type 0) → ((count : ℕ) → count ≡ length index.ring.live → capacity < count → Q count)
    → IfErr r (λ e. WhereOver e (λ count. (count ≡ length index.ring.live) × (capacity < count))) → IfErr r (λ e. WhereOver e Q)
within_over (Ok x) index capacity Q maps is = tt
within_over (Err refusals.DiskFault) index capacity Q maps is = tt
within_over (Err (refusals.BadLog file at)) index capacity Q maps is = tt
within_over (Err (refusals.OverCapacity count)) index capacity Q maps is = maps count is.0 is.1
within_over (Err refusals.NoMemory) index capacity Q maps is = tt
