-- Transactions that begin and end, and flushes, leave the log as a mirror of the state.
use Rattle.std.proofs.Common.{◌⊎◌, inl, inr, ◌≡◌, ◌<◌, ◌≤◌, ◌+◌, ◌++◌, ◌∷◌, [], ℕ, List, length, length-append, Option, Some, None, Bool, true, false, ◌==◌, ◌||◌, cond, refl, sym, ◌∙◌, ap, subst, arith, append_assoc}
use Rattle.std.proofs.lemmas.Bool.Decides.{eqb_tells}
use Rattle.std.proofs.lemmas.List.{append-nil}
use Rattle.std.specs.Prelude.{IsSome, IsSomeAnd}
use Rattle.event_core.specs.Content.{Content}
use Rattle.event_core.specs.Journal.{Base, after_journal, is_among, put_events, taken_numbers}
use Rattle.event_core.specs.declared.journal.Entry.{Entry}
use Rattle.event_core.specs.declared.journal.Entry.TheVariants.{Puts, Takes}
use Rattle.record_form.specs.declared.record.Rec.{Rec}
use Rattle.record_form.specs.declared.record.Rec.TheVariants.{Rollback, CommitPut, CommitTake}
use Rattle.channel_face.specs.Machine as Face
use Rattle.channel_face.specs.Machine.{State, base_of, entry_of, without_entry, is_some_of, stage}
use Rattle.channel_face.specs.Sound.{times}
use Rattle.channel_face.proofs.Numbers.{among_times, put_events-append, taken_numbers-append}
use Rattle.channel_face.proofs.LawLemmas.{TakesEarlier, after-append}
use Rattle.channel_replay.specs.Marks.{Past, Applied, opened, open_txns, open_by, opened_by, txn_of, removed, journal, next_txn, next_number, entries_of}
use Rattle.channel_replay.specs.Rules.{IsPutOf, IsTakeOf}
use Rattle.channel_replay.proofs.Keys.{Tells, EachOnce, entry_of-without}
use Rattle.channel_replay.proofs.Numbers.{or_among}
use Rattle.channel_writing.specs.Mirrors.{Mirrors, applied, one_if_done, busy}
use Rattle.channel_replay.specs.StartLaws.{done_of}
use Rattle.channel_writing.specs.Laws.{BeginIsMirrored, RollbackIsMirrored, EndIsMirrored, StagePutIsMirrored, StageTakeIsMirrored, FlushIsMirrored}
use Rattle.channel_replay.proofs.Among.{one_removed, apart_once}
use Rattle.channel_writing.proofs.Opens.{one_done, busy_without, busy_push, all_without, all_push, all_higher, apart_without, apart_push, length_without, done_push}
use Rattle.channel_writing.proofs.Mirroring.{applied-push, legal-push, is_txn}

-- a transaction that begins writes no record
pub begin_mirrored : BeginIsMirrored
begin_mirrored start s settled records entry m idle room below =
    let more : List (ℕ × Entry) = s.opened ++ (s.txn, entry) ∷ [] in
    let none : one_done entry ≡ 0 = ap one_if_done idle in
    record {
      base = m.base;
      earlier = m.earlier;
      staged = m.staged;
      each = λ n. m.each n ∙ sym (done_push s.opened s.txn n entry idle);
      as_many = omega (arith, m.as_many, busy_push s.opened (s.txn, entry), none);
      next = omega (arith, m.next);
      legal = m.legal;
      low = all_push (λ n. 1 ≤ n) s.opened (s.txn, entry) m.low m.high.0;
      below = all_push (λ n. n < s.txn + 1) s.opened (s.txn, entry) (all_higher s.txn s.opened m.below) (omega arith);
      apart = apart_push s.txn entry s.opened m.apart m.below;
      high = (omega arith, omega (arith, below));
      few = omega (arith, room, length-append s.opened ((s.txn, entry) ∷ []));
    }

-- The record ends this transaction.
record Ends (rec : Rec) (txn : ℕ) : Type 0 where
  of : txn_of rec ≡ txn
  entry : (e : Option Entry) → opened_by rec e ≡ None
  open_ones : (txns : List ℕ) → open_by rec txns ≡ removed txn txns

some_done : (entry : Entry) → done_of (Some entry) ≡ Some entry → one_done entry ≡ 1
some_done entry is = ap one_if_done is

end_if : (b : Bool) (e : Option Entry) → cond b None (done_of e) ≡ done_of (cond b None e)
end_if true e = refl
end_if false e = refl

-- what an ending changes, but for the journal and its legality
record EndsWell (s : State) (settled : Past) (records : List Rec) (txn : ℕ) (rec : Rec) : Type 0 where
  each : (n : ℕ) → opened n (applied settled (records ++ rec ∷ [])) ≡ done_of (entry_of n (without_entry txn s.opened))
  as_many : length (open_txns (applied settled (records ++ rec ∷ []))) ≡ busy (without_entry txn s.opened)
  next : next_txn (applied settled (records ++ rec ∷ [])) ≤ s.txn

ends_well : (start : Base) (s : State) (settled : Past) (records : List Rec) (txn : ℕ) (entry : Entry) (rec : Rec) → Mirrors start s settled records → entry_of txn s.opened ≡ Some entry → done_of (Some entry) ≡ Some entry → Ends rec txn → EndsWell s settled records txn rec
ends_well start s settled records txn entry rec m is busy_one e =
    let all : Past = applied settled records in
    let push : applied settled (records ++ rec ∷ []) ≡ Applied rec ∷ all = applied-push settled records rec in
    let once : EachOnce _ = λ n. apart_once _ n m.apart in
    let here : opened txn all ≡ Some entry = m.each txn ∙ (ap done_of is ∙ busy_one) in
    let fewer = one_removed all txn (ap is_some_of here) in
    let number = is_txn start s settled records txn entry m is in
    record {
      each = λ n. ap (λ (p : Past). opened n p) push ∙ (ap (λ (t : ℕ). cond (t == n) (opened_by rec (opened n all)) (opened n all)) e.of ∙ (ap (λ (x : Option Entry). cond (txn == n) x (opened n all)) (e.entry (opened n all)) ∙ (ap (λ (x : Option Entry). cond (txn == n) None x) (m.each n) ∙ (end_if (txn == n) (entry_of n s.opened) ∙ ap done_of (sym (entry_of-without s.opened txn n once))))));
      as_many = ap (λ (p : Past). length (open_txns p)) push ∙ (ap (λ (l : List ℕ). length l) (e.open_ones (open_txns all)) ∙ omega (arith, fewer, m.as_many, busy_without s.opened txn entry is, some_done entry busy_one));
      next = subst (λ (p : Past). next_txn p ≤ s.txn) (sym push) (omega (arith, e.of, number.1, m.next));
    }

-- one that did something is given up with a ROLLBACK behind the other records
pub rollback_mirrored : RollbackIsMirrored
rollback_mirrored start s settled records txn entry m is busy_one =
    let all : Past = applied settled records in
    let rec : Rec = Rollback txn in
    let push : applied settled (records ++ rec ∷ []) ≡ Applied rec ∷ all = applied-push settled records rec in
    let here : opened txn all ≡ Some entry = m.each txn ∙ (ap done_of is ∙ busy_one) in
    let ended = ends_well start s settled records txn entry rec m is busy_one (record { of = refl; entry = λ x. refl; open_ones = λ xs. refl }) in
    record {
      base = m.base;
      earlier = m.earlier;
      staged = ap journal push ∙ (append-nil (journal all) ∙ m.staged);
      each = ended.each;
      as_many = ended.as_many;
      next = ended.next;
      legal = legal-push start settled records rec m.legal ((is_txn start s settled records txn entry m is).0, subst IsSome (sym here) refl);
      low = all_without (λ n. 1 ≤ n) s.opened txn m.low;
      below = all_without (λ n. n < s.txn) s.opened txn m.below;
      apart = apart_without s.opened txn m.apart;
      high = m.high;
      few = omega (arith, m.few, length_without s.opened txn);
    }

-- one that did nothing ends without a record
pub end_mirrored : EndIsMirrored
end_mirrored start s settled records txn entry m is idle =
    let once : EachOnce _ = λ n. apart_once _ n m.apart in
    let none : one_done entry ≡ 0 = ap one_if_done idle in
    record {
      base = m.base;
      earlier = m.earlier;
      staged = m.staged;
      each = λ n. m.each n ∙ (each n (eqb_tells txn n) ∙ ap done_of (sym (entry_of-without s.opened txn n once)));
      as_many = omega (arith, m.as_many, busy_without s.opened txn entry is, none);
      next = m.next;
      legal = m.legal;
      low = all_without (λ n. 1 ≤ n) s.opened txn m.low;
      below = all_without (λ n. n < s.txn) s.opened txn m.below;
      apart = apart_without s.opened txn m.apart;
      high = m.high;
      few = omega (arith, m.few, length_without s.opened txn);
    }
  where
    each : (n : ℕ) → Tells txn n → done_of (entry_of n s.opened) ≡ done_of (cond (txn == n) None (entry_of n s.opened))
    each n (inl same) = rw same.0 (ap (λ (k : ℕ). done_of (entry_of k s.opened)) (sym same.1) ∙ (ap done_of is ∙ idle))
    each n (inr other) = rw other.0 refl

puts_done : (events : List Content) → 0 < length events → done_of (Some (Puts events)) ≡ Some (Puts events)
puts_done [] some = absurd (omega (arith, some))
puts_done (e ∷ events) some = refl

takes_done : (numbers : List ℕ) → 0 < length numbers → done_of (Some (Takes numbers)) ≡ Some (Takes numbers)
takes_done [] some = absurd (omega (arith, some))
takes_done (n ∷ numbers) some = refl

stage_puts : (s : State) (txn : ℕ) (events : List Content) → 0 < length events → stage txn (Some (Puts events)) s ≡ record s { opened = without_entry txn s.opened; staged = s.staged ++ Puts events ∷ [] }
stage_puts s txn [] some = absurd (omega (arith, some))
stage_puts s txn (e ∷ events) some = refl

stage_takes : (s : State) (txn : ℕ) (numbers : List ℕ) → 0 < length numbers → stage txn (Some (Takes numbers)) s ≡ record s { opened = without_entry txn s.opened; staged = s.staged ++ Takes numbers ∷ [] }
stage_takes s txn [] some = absurd (omega (arith, some))
stage_takes s txn (n ∷ numbers) some = refl

-- the log's next event number is the state's
pub same_number : (start : Base) (s : State) (settled : Past) (records : List Rec) → Mirrors start s settled records → next_number start (applied settled records) ≡ Face.next_number s
same_number start s settled records m =
    let first : s.first ≡ next_number start settled = ap (λ (b : Base). b.first) m.base in
    let puts : length (put_events (journal (applied settled records))) ≡ length (put_events (journal settled)) + length (put_events s.staged) =
    ap (λ (l : List Entry). length (put_events l)) m.staged ∙ (ap (λ (l : List Content). length l) (put_events-append (journal settled) s.staged) ∙ length-append (put_events (journal settled)) (put_events s.staged)) in
    omega (arith, first, puts)

-- puts that are staged write a COMMIT_PUT behind the other records
pub stage_put_mirrored : StagePutIsMirrored
stage_put_mirrored start s settled records txn events m is some fits =
    let all : Past = applied settled records in
    let entry : Entry = Puts events in
    let rec : Rec = CommitPut txn (Face.next_number s) (length events) in
    let push : applied settled (records ++ rec ∷ []) ≡ Applied rec ∷ all = applied-push settled records rec in
    let busy_one : done_of (Some entry) ≡ Some entry = puts_done events some in
    let here : opened txn all ≡ Some entry = m.each txn ∙ (ap done_of is ∙ busy_one) in
    let ended = ends_well start s settled records txn entry rec m is busy_one (record { of = refl; entry = λ x. refl; open_ones = λ xs. refl }) in
    let held : IsSomeAnd (opened txn all) (IsPutOf (length events)) = subst (λ (x : Option Entry). IsSomeAnd x (IsPutOf (length events))) (sym here) refl in
    let longer : journal (Applied rec ∷ all) ≡ journal settled ++ (s.staged ++ entry ∷ []) =
    ap (λ (x : Option Entry). journal all ++ entries_of x) here ∙ (ap (λ (l : List Entry). l ++ entry ∷ []) m.staged ∙ append_assoc (journal settled) s.staged (entry ∷ [])) in
    rw (stage_puts s txn events some) (record {
      base = m.base;
      earlier = m.earlier;
      staged = ap journal push ∙ longer;
      each = ended.each;
      as_many = ended.as_many;
      next = ended.next;
      legal = legal-push start settled records rec m.legal ((is_txn start s settled records txn entry m is).0, held, sym (same_number start s settled records m), fits);
      low = all_without (λ n. 1 ≤ n) s.opened txn m.low;
      below = all_without (λ n. n < s.txn) s.opened txn m.below;
      apart = apart_without s.opened txn m.apart;
      high = m.high;
      few = omega (arith, m.few, length_without s.opened txn);
    })

-- takes that are staged write a COMMIT_TAKE behind the other records
pub stage_take_mirrored : StageTakeIsMirrored
stage_take_mirrored start s settled records txn numbers m is some =
    let all : Past = applied settled records in
    let entry : Entry = Takes numbers in
    let rec : Rec = CommitTake txn (length numbers) in
    let push : applied settled (records ++ rec ∷ []) ≡ Applied rec ∷ all = applied-push settled records rec in
    let busy_one : done_of (Some entry) ≡ Some entry = takes_done numbers some in
    let here : opened txn all ≡ Some entry = m.each txn ∙ (ap done_of is ∙ busy_one) in
    let ended = ends_well start s settled records txn entry rec m is busy_one (record { of = refl; entry = λ x. refl; open_ones = λ xs. refl }) in
    let held : IsSomeAnd (opened txn all) (IsTakeOf (length numbers)) = subst (λ (x : Option Entry). IsSomeAnd x (IsTakeOf (length numbers))) (sym here) refl in
    let longer : journal (Applied rec ∷ all) ≡ journal settled ++ (s.staged ++ entry ∷ []) =
    ap (λ (x : Option Entry). journal all ++ entries_of x) here ∙ (ap (λ (l : List Entry). l ++ entry ∷ []) m.staged ∙ append_assoc (journal settled) s.staged (entry ∷ [])) in
    rw (stage_takes s txn numbers some) (record {
      base = m.base;
      earlier = m.earlier;
      staged = ap journal push ∙ longer;
      each = ended.each;
      as_many = ended.as_many;
      next = ended.next;
      legal = legal-push start settled records rec m.legal ((is_txn start s settled records txn entry m is).0, held);
      low = all_without (λ n. 1 ≤ n) s.opened txn m.low;
      below = all_without (λ n. n < s.txn) s.opened txn m.below;
      apart = apart_without s.opened txn m.apart;
      high = m.high;
      few = omega (arith, m.few, length_without s.opened txn);
    })

-- takes of earlier numbers, as counts
pub settled_earlier : (start : Base) (s : State) (settled : Past) (records : List Rec) → Mirrors start s settled records → TakesEarlier start (journal settled)
settled_earlier start s settled records m n more = from (among_times n (taken_numbers (journal settled)))
  where
    differ : true ≡ false → ⊥
    differ is = absurd (cc)

    from : ((is_among (taken_numbers (journal settled)) n ≡ true) × (1 ≤ times n (taken_numbers (journal settled)))) ⊎ ((is_among (taken_numbers (journal settled)) n ≡ false) × (times n (taken_numbers (journal settled)) ≡ 0)) → times n (taken_numbers (journal settled)) ≡ 0
    from (inl there) = absurd (differ (sym there.0 ∙ m.earlier n more))
    from (inr none) = none.1

-- what the log leaves with what is staged
pub staged_base : (start : Base) (s : State) (settled : Past) (records : List Rec) → Mirrors start s settled records → after_journal (base_of s) s.staged ≡ after_journal start (journal (applied settled records))
staged_base start s settled records m =
    ap (λ (b : Base). after_journal b s.staged) m.base ∙ (sym (after-append start (journal settled) s.staged (settled_earlier start s settled records m)) ∙ ap (λ (l : List Entry). after_journal start l) (sym m.staged))

both_none : (b c : Bool) → b ≡ false → c ≡ false → (b || c) ≡ false
both_none b c x y = rw (x, y) refl

-- a flush settles what is staged, and no records are pending after it
pub flush_mirrored : FlushIsMirrored
flush_mirrored start s settled records m staged_earlier =
    let all : Past = applied settled records in
    record {
      base = staged_base start s settled records m;
      earlier = λ n more. earlier n more;
      staged = sym (append-nil (journal all));
      each = m.each;
      as_many = m.as_many;
      next = m.next;
      legal = tt;
      low = m.low;
      below = m.below;
      apart = m.apart;
      high = m.high;
      few = m.few;
    }
  where
    earlier : (n : ℕ) → next_number start (applied settled records) ≤ n → is_among (taken_numbers (journal (applied settled records))) n ≡ false
    earlier n more =
        let number : next_number start (applied settled records) ≡ Face.next_number s = same_number start s settled records m in
        let first : s.first ≡ next_number start settled = ap (λ (b : Base). b.first) m.base in
        let lower : next_number start settled ≤ n = omega (arith, more, number, first) in
        ap (λ (l : List Entry). is_among (taken_numbers l) n) m.staged ∙ (ap (λ (l : List ℕ). is_among l n) (taken_numbers-append (journal settled) s.staged) ∙ (or_among (taken_numbers (journal settled)) (taken_numbers s.staged) n ∙ both_none (is_among (taken_numbers (journal settled)) n) (is_among (taken_numbers s.staged) n) (m.earlier n lower) (staged_earlier n (omega (arith, more, number)))))
