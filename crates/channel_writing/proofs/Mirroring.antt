-- Each call leaves the log as a mirror of the state.
use Rattle.std.proofs.Common.{inl, inr, ◌≡◌, ◌<◌, ◌≤◌, ◌+◌, ◌++◌, ◌∷◌, [], ℕ, List, length, Option, Some, None, ◌==◌, cond, refl, sym, ◌∙◌, ap, subst, arith}
use Rattle.std.proofs.lemmas.Bool.Decides.{eqb_tells}
use Rattle.std.proofs.lemmas.List.{append-nil}
use Rattle.event_core.specs.Journal.{Base}
use Rattle.event_core.specs.Content.{Content}
use Rattle.event_core.specs.declared.journal.Entry.{Entry}
use Rattle.event_core.specs.declared.journal.Entry.TheVariants.{Puts}
use Rattle.record_form.specs.declared.record.Rec.{Rec}
use Rattle.record_form.specs.declared.record.Rec.TheVariants.{Put}
use Rattle.channel_face.specs.Machine.{State, entry_of, is_some_of}
use Rattle.channel_replay.specs.Marks.{Past, Applied, opened, open_txns, added, journal, next_txn, events_of}
use Rattle.channel_replay.specs.Rules.{IsLegal, IsTxn, MayGoOn, IsPut}
use Rattle.channel_replay.proofs.Keys.{Tells}
use Rattle.channel_writing.specs.Mirrors.{Mirrors, applied, AreLegal, one_if_done}
use Rattle.channel_replay.specs.StartLaws.{done_of}
use Rattle.channel_replay.specs.Start.{AreApart}
use Rattle.channel_writing.specs.Laws.{PutIsMirrored}
use Rattle.channel_replay.proofs.Among.{among_open, added_length, added_same}
use Rattle.channel_writing.proofs.Opens.{entry_with, keys_with, all_with, length_with, busy_with, busy_room, at_number, one_done}

-- the marks after one record more
pub applied-push : (past : Past) (records : List Rec) (rec : Rec) → applied past (records ++ rec ∷ []) ≡ Applied rec ∷ applied past records
applied-push past [] rec = refl
applied-push past (x ∷ records) rec = applied-push (Applied x ∷ past) records rec

-- records stay legal with a legal one more behind them
pub legal-push : (start : Base) (past : Past) (records : List Rec) (rec : Rec) → AreLegal start past records → IsLegal start (applied past records) rec → AreLegal start past (records ++ rec ∷ [])
legal-push start past [] rec legal may = (may, tt)
legal-push start past (x ∷ records) rec legal may = (legal.0, legal-push start (Applied x ∷ past) records rec legal.1 may)

-- the number of an open transaction may stand in a record
pub is_txn : (start : Base) (s : State) (settled : Past) (records : List Rec) (txn : ℕ) (entry : Entry) → Mirrors start s settled records → entry_of txn s.opened ≡ Some entry → IsTxn txn × (txn < s.txn)
is_txn start s settled records txn entry m is =
    let low = at_number (λ n. 1 ≤ n) s.opened txn entry is m.low in
    let below = at_number (λ n. n < s.txn) s.opened txn entry is m.below in
    ((omega (arith, low.1, low.2), omega (arith, below.1, below.2, m.high.1)), omega (arith, below.1, below.2))

events_done : (events : List Content) → events_of (done_of (Some (Puts events))) ≡ events
events_done [] = refl
events_done (e ∷ events) = refl

more_done : (events : List Content) (event : Content) → done_of (Some (Puts (events ++ event ∷ []))) ≡ Some (Puts (events ++ event ∷ []))
more_done [] event = refl
more_done (e ∷ events) event = refl

one_more : (events : List Content) (event : Content) → one_done (Puts (events ++ event ∷ [])) ≡ 1
one_more [] event = refl
one_more (e ∷ events) event = refl

-- one more of the log's transactions is open where this one did nothing before
pub more_open : (past : Past) (txn : ℕ) (entry : Option Entry) → opened txn past ≡ entry → length (added txn (open_txns past)) + one_if_done entry ≡ length (open_txns past) + 1
more_open past txn None is =
    let none = added_length txn (open_txns past) (among_open past txn ∙ ap is_some_of is) in omega (arith, none)
more_open past txn (Some e) is =
    let there = added_same txn (open_txns past) (among_open past txn ∙ ap is_some_of is) in omega (arith, there)

may_put : (count : ℕ) (events : List Content) → (one_done (Puts events) ≡ 0 → count < 1024) → MayGoOn count (done_of (Some (Puts events))) IsPut
may_put count [] room = room refl
may_put count (e ∷ events) room = tt

-- a put writes a PUT behind the other records
pub put_mirrored : PutIsMirrored
put_mirrored start s settled records txn events event m is =
    let all : Past = applied settled records in
    let rec : Rec = Put txn event in
    let new : Entry = Puts (events ++ event ∷ []) in
    let next : Past = Applied rec ∷ all in
    let push : applied settled (records ++ rec ∷ []) ≡ next = applied-push settled records rec in
    let here : opened txn all ≡ done_of (Some (Puts events)) = m.each txn ∙ ap done_of is in
    let number = is_txn start s settled records txn (Puts events) m is in
    let room : one_done (Puts events) ≡ 0 → length (open_txns all) < 1024 = λ idle. omega (arith, busy_room s.opened txn (Puts events) is idle, m.as_many, m.few) in
    let may : IsLegal start all rec = (number.0, subst (λ (e : Option Entry). MayGoOn (length (open_txns all)) e IsPut) (sym here) (may_put (length (open_txns all)) events room)) in
    let grown = more_open all txn (done_of (Some (Puts events))) here in
    record {
      base = m.base;
      earlier = m.earlier;
      staged = ap journal push ∙ (append-nil (journal all) ∙ m.staged);
      each = λ n. ap (λ (p : Past). opened n p) push ∙ (each n (eqb_tells txn n) ∙ ap done_of (sym (entry_with s.opened txn n (Puts events) new is)));
      as_many = ap (λ (p : Past). length (open_txns p)) push ∙ omega (arith, grown, m.as_many, busy_with s.opened txn (Puts events) new is, one_more events event);
      next = subst (λ (p : Past). next_txn p ≤ s.txn) (sym push) (omega (arith, number.1, m.next));
      legal = legal-push start settled records rec m.legal may;
      low = all_with (λ n. 1 ≤ n) s.opened txn new m.low;
      below = all_with (λ n. n < s.txn) s.opened txn new m.below;
      apart = subst AreApart (sym (keys_with s.opened txn new)) m.apart;
      high = m.high;
      few = omega (arith, m.few, length_with s.opened txn new);
    }
  where
    each : (n : ℕ) → Tells txn n → cond (txn == n) (Some (Puts (events_of (opened n (applied settled records)) ++ event ∷ []))) (opened n (applied settled records)) ≡ done_of (cond (txn == n) (Some (Puts (events ++ event ∷ []))) (entry_of n s.opened))
    each n (inl same) =
        let there : opened n (applied settled records) ≡ done_of (Some (Puts events)) = m.each n ∙ ap done_of (sym (ap (λ (k : ℕ). entry_of k s.opened) same.1) ∙ is) in
        rw (same.0, there, events_done events) (sym (more_done events event))
    each n (inr other) = rw other.0 (m.each n)
