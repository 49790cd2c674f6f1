-- What is true of the open transactions of each state that a run of a file channel leads to: they are few, and each open put fits.
use Rattle.std.proofs.Common.{◌≡◌, ◌<◌, ◌≤◌, ◌+◌, ◌-◌, ◌^◌, ◌++◌, ◌∷◌, [], ℕ, List, length, length-append, Option, Some, None, Ok, Err, Bool, true, false, ◌==◌, cond, refl, sym, ◌∙◌, ap, subst, arith}
use Rattle.std.specs.List.{AllByRecursion}
use Rattle.std.proofs.lemmas.Bool.Decides.{nat_tests}
use Rattle.event_core.specs.Content.{Content, size}
use Rattle.event_core.specs.declared.journal.Entry.{Entry}
use Rattle.event_core.specs.declared.journal.Entry.TheVariants.{Puts, Takes}
use Rattle.channel_face.specs.Token.{Token}
use Rattle.channel_face.specs.Machine.{State, Rules, Call, BeginPut, BeginTake, Put, Take, StagePut, StageTake, Flush, RollbackPut, RollbackTake, Checkpoint, Reopen, Kept, Admits, after, begin_refusal, put_refusal, size_refusal, puts_of, takes_of, free, settle, settle_if, broken_state, stage, entry_of, with_entry, without_entry, add_put, add_take, after_put, after_reopen}
use Rattle.channel_face.specs.History.{Step as Made, IsRun, state_after}
use Rattle.channel_face.specs.declared.replies.Kind.{Kind}
use Rattle.channel_face.specs.declared.replies.Kind.TheVariants.{File as OnFile}
use Rattle.channel_face.specs.declared.replies.Put.{Put as PutDone}
use Rattle.channel_face.specs.declared.replies.PutRefused.TheVariants as PutNo
use Rattle.channel_face.specs.declared.replies.TakeRefused.TheVariants as TakeNo
use Rattle.channel_face.specs.declared.replies.FlushRefused.TheVariants as FlushNo
use Rattle.channel_face.specs.declared.replies.CheckRefused.TheVariants as CheckNo
use Rattle.channel_face.specs.Sound.{Opened}
use Rattle.channel_face.proofs.Opened.{puts_of-some}
use Rattle.world_laws.proofs.Lists.{same_some, no_some}

-- an open put has no more events than a transaction may, and none of them is too large
abbrev pub EntryFits : Rules → Entry → Type 0
EntryFits r (Puts events) = (length events ≤ r.limits.txn_capacity) × AllByRecursion (λ e. size e ≤ 1048576) events
EntryFits r (Takes numbers) = Unit {0}

abbrev pub OpenFits : Rules → Opened → Type 0
OpenFits r opened = AllByRecursion (λ (o : ℕ × Entry). EntryFits r o.1) opened

pub record Fits (s : State) : Type 0 where
  pub kind : s.rules.kind ≡ OnFile
  pub few : length s.opened ≤ 1024
  pub fits : OpenFits s.rules s.opened

-- an open transaction that is looked up by its number fits
pub fits_of : (r : Rules) (number : ℕ) (opened : Opened) (entry : Entry) → OpenFits r opened → entry_of number opened ≡ Some entry → EntryFits r entry
fits_of r number [] entry all is = absurd (no_some entry is)
fits_of r number (o ∷ opened) entry all is = from (o.0 == number) is (fits_of r number opened entry all.1)
  where
    from : (b : Bool) → cond b (Some o.1) (entry_of number opened) ≡ Some entry → (entry_of number opened ≡ Some entry → EntryFits r entry) → EntryFits r entry
    from true it rest = subst (EntryFits r) (same_some o.1 entry it) all.0
    from false it rest = rest it

with_fits : (r : Rules) (number : ℕ) (entry : Entry) (opened : Opened) → EntryFits r entry → OpenFits r opened → OpenFits r (with_entry number entry opened)
with_fits r number entry [] fits all = tt
with_fits r number entry (o ∷ opened) fits all = from (o.0 == number) (with_fits r number entry opened fits all.1)
  where
    from : (b : Bool) → OpenFits r (with_entry number entry opened) → OpenFits r (cond b ((o.0, entry) ∷ opened) (o ∷ with_entry number entry opened))
    from true rest = (fits, all.1)
    from false rest = (all.0, rest)

with_length : (number : ℕ) (entry : Entry) (opened : Opened) → length (with_entry number entry opened) ≡ length opened
with_length number entry [] = refl
with_length number entry (o ∷ opened) = from (o.0 == number) (with_length number entry opened)
  where
    from : (b : Bool) → length (with_entry number entry opened) ≡ length opened → length (cond b ((o.0, entry) ∷ opened) (o ∷ with_entry number entry opened)) ≡ length (o ∷ opened)
    from true rest = omega arith
    from false rest = omega (arith, rest)

without_fits : (r : Rules) (number : ℕ) (opened : Opened) → OpenFits r opened → OpenFits r (without_entry number opened)
without_fits r number [] all = tt
without_fits r number (o ∷ opened) all = from (o.0 == number) (without_fits r number opened all.1)
  where
    from : (b : Bool) → OpenFits r (without_entry number opened) → OpenFits r (cond b opened (o ∷ without_entry number opened))
    from true rest = all.1
    from false rest = (all.0, rest)

without_length : (number : ℕ) (opened : Opened) → length (without_entry number opened) ≤ length opened
without_length number [] = omega arith
without_length number (o ∷ opened) = from (o.0 == number) (without_length number opened)
  where
    from : (b : Bool) → length (without_entry number opened) ≤ length opened → length (cond b opened (o ∷ without_entry number opened)) ≤ length (o ∷ opened)
    from true rest = omega arith
    from false rest = omega (arith, rest)

push_fits : (r : Rules) (opened : Opened) (o : ℕ × Entry) → EntryFits r o.1 → OpenFits r opened → OpenFits r (opened ++ o ∷ [])
push_fits r [] o fits all = (fits, tt)
push_fits r (x ∷ opened) o fits all = (all.0, push_fits r opened o fits all.1)

all_push : (events : List Content) (e : Content) → AllByRecursion (λ x. size x ≤ 1048576) events → size e ≤ 1048576 → AllByRecursion (λ x. size x ≤ 1048576) (events ++ e ∷ [])
all_push [] e all small = (small, tt)
all_push (x ∷ events) e all small = (all.0, all_push events e all.1 small)

-- what an answer Ok shows of the state

-- where a begin is not refused, the channel is whole, with room for one more transaction
pub begin_allows : (s : State) → begin_refusal s ≡ None → (s.broken ≡ false) × (length s.opened < 1024) × (s.txn < 2 ^ 64 - 1)
begin_allows s none = (grind (arith, nat_tests), grind (arith, nat_tests), grind (arith, nat_tests))

-- where a put is not refused, its transaction is open and not full, and the event is not too large
pub put_allows : (s : State) (puts : Option (List Content)) (event : Content) → s.rules.kind ≡ OnFile → put_refusal s puts event ≡ None
    → (events : List Content) × (puts ≡ Some events) × (length events < s.rules.limits.txn_capacity) × (size event ≤ 1048576)
put_allows s None event kind none = absurd (cc)
put_allows s (Some events) event kind none =
    let small : put_refusal s (Some events) event ≡ None = none in
    (events, refl, grind (arith, nat_tests), small_of s.rules.kind kind (refusal none))
  where
    refusal : put_refusal s (Some events) event ≡ None → size_refusal s.rules.kind s event ≡ None
    refusal is = grind (arith, nat_tests)

    small_of : (k : Kind) → k ≡ OnFile → size_refusal k s event ≡ None → size event ≤ 1048576
    small_of OnFile is free = grind (arith, nat_tests)
    small_of other is free = absurd (cc)

-- each call keeps it

same_fits : (s s' : State) → s'.rules ≡ s.rules → s'.opened ≡ s.opened → Fits s → Fits s'
same_fits s s' rules opened f = record {
  kind = ap (λ (r : Rules). r.kind) rules ∙ f.kind;
  few = subst (λ (l : Opened). length l ≤ 1024) (sym opened) f.few;
  fits = subst (λ (r : Rules). OpenFits r s'.opened) (sym rules) (subst (OpenFits s.rules) (sym opened) f.fits);
}

settled_fits : (b : Bool) (s : State) → Fits s → Fits (settle_if b s)
settled_fits true s f = same_fits s (settle s) refl refl f
settled_fits false s f = f

closed_fits : (number : ℕ) (s : State) (staged : List Entry) → Fits s → Fits (record s { opened = without_entry number s.opened; staged = staged })
closed_fits number s staged f =
    let shorter = without_length number s.opened in
    record {
      kind = f.kind;
      few = omega (arith, f.few, shorter);
      fits = without_fits s.rules number s.opened f.fits;
    }

stage_fits : (number : ℕ) (entry : Option Entry) (s : State) → Fits s → Fits (stage number entry s)
stage_fits number None s f = f
stage_fits number (Some (Puts [])) s f = closed_fits number s s.staged f
stage_fits number (Some (Takes [])) s f = closed_fits number s s.staged f
stage_fits number (Some (Puts (e ∷ es))) s f = closed_fits number s (s.staged ++ Puts (e ∷ es) ∷ []) f
stage_fits number (Some (Takes (n ∷ ns))) s f = closed_fits number s (s.staged ++ Takes (n ∷ ns) ∷ []) f

changed_fits : (number : ℕ) (entry : Entry) (s : State) → EntryFits s.rules entry → Fits s → Fits (record s { opened = with_entry number entry s.opened })
changed_fits number entry s fits f =
    let same = with_length number entry s.opened in
    record {
      kind = f.kind;
      few = omega (arith, f.few, same);
      fits = with_fits s.rules number entry s.opened fits f.fits;
    }

begun_fits : (entry : Entry) (s : State) → EntryFits s.rules entry → begin_refusal s ≡ None → Fits s → Fits (record s { opened = s.opened ++ (s.txn, entry) ∷ []; txn = s.txn + 1 })
begun_fits entry s fits none f =
    let free = begin_allows s none in
    let longer = length-append s.opened ((s.txn, entry) ∷ []) in
    record {
      kind = f.kind;
      few = omega (arith, free.1, longer);
      fits = push_fits s.rules s.opened (s.txn, entry) fits f.fits;
    }

put_fits : (s : State) (token : Token) (event : Content) (done : PutDone) → put_refusal s (puts_of s token) event ≡ None → Fits s → Fits (after_put s token (puts_of s token) event (Ok done))
put_fits s token event done none f =
    let a = put_allows s (puts_of s token) event f.kind none in
    let was = fits_of s.rules token.number s.opened (Puts a.0) f.fits (puts_of-some s token a.0 a.1).1 in
    let longer = length-append a.0 (event ∷ []) in
    let new : EntryFits s.rules (Puts (a.0 ++ event ∷ [])) = (omega (arith, a.2, longer), all_push a.0 event was.1 a.3) in
    subst (λ (puts : Option (List Content)). Fits (add_put (settle_if done.spilled s) token.number puts event)) (sym a.1) (by done.spilled (Puts (a.0 ++ event ∷ [])) new)
  where
    by : (b : Bool) (entry : Entry) → EntryFits s.rules entry → Fits (record (settle_if b s) { opened = with_entry token.number entry (settle_if b s).opened })
    by true entry new = changed_fits token.number entry (settle s) new (settled_fits true s f)
    by false entry new = changed_fits token.number entry s new f

take_fits : (b : Bool) (number : ℕ) (takes : Option (List ℕ)) (items : List (ℕ × Content)) (s : State) → Fits s → Fits (add_take (settle_if b s) number takes items)
take_fits b number None items s f = settled_fits b s f
take_fits b number (Some numbers) [] s f = settled_fits b s f
take_fits b number (Some numbers) (item ∷ items) s f = changed_fits number (Takes (numbers ++ item.0 ∷ [])) (settle_if b s) tt (settled_fits b s f)

reopen_fits : (s : State) (kept : Kept) (txn : ℕ) → Fits s → Fits (after_reopen s (Ok (record { kept = kept; txn = txn })))
reopen_fits s kept txn f = record { kind = f.kind; few = omega arith; fits = tt }

broken_fits : (s : State) → Fits s → Fits (broken_state s)
broken_fits s f = same_fits s (broken_state s) refl refl f

fits_after : (s : State) (call : Call) → Admits true s call → Fits s → Fits (after s call)
fits_after s (BeginPut (Ok token)) may f = begun_fits (Puts []) s (omega arith, tt) may.0 f
fits_after s (BeginTake (Ok token)) may f = begun_fits (Takes []) s tt may.0 f
fits_after s (Put token event (Ok done)) may f = put_fits s token event done may.0 f
fits_after s (Put token event (Err PutNo.DiskFault)) may f = broken_fits s f
fits_after s (Take token (Ok taken)) may f = take_fits taken.spilled token.number (takes_of s token) (free s) s f
fits_after s (Take token (Err TakeNo.DiskFault)) may f = broken_fits s f
fits_after s (StagePut token (Ok given)) may f = stage_fits token.number (entry_of token.number s.opened) s f
fits_after s (StageTake token (Ok given)) may f = stage_fits token.number (entry_of token.number s.opened) s f
fits_after s (Flush (Ok done)) may f = settled_fits true s f
fits_after s (Flush (Err FlushNo.DiskFault)) may f = broken_fits s f
fits_after s (RollbackPut token true) may f = closed_fits token.number s s.staged f
fits_after s (RollbackTake token true) may f = closed_fits token.number s s.staged f
fits_after s (Checkpoint (Ok done)) may f = settled_fits true s f
fits_after s (Checkpoint (Err CheckNo.CheckFault)) may f = settled_fits true s f
fits_after s (Checkpoint (Err CheckNo.DiskFault)) may f = broken_fits s f
fits_after s (Reopen (Ok r)) may f = reopen_fits s r.kept r.txn f
fits_after s (Reopen (Err e)) may f = broken_fits s f
fits_after s call may f = f

-- a run from a state that fits leads to one that fits
pub fits_run : (s : State) (h : List Made) → IsRun true s h → Fits s → Fits (state_after s h)
fits_run s [] run f = f
fits_run s (step ∷ h) run f = fits_run (after s step.call) h run.1 (fits_after s step.call run.0 f)
