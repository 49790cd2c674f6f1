-- What a journal leaves, entry by entry, and what runs leave.
use Rattle.std.proofs.Common.{◌⊎◌, inl, inr, ◌≡◌, ◌<◌, ◌≤◌, ◌+◌, ◌++◌, ◌∷◌, [], ℕ, zero, suc, List, length, length-append, take, Option, Some, None, Result, Ok, Err, Bool, true, false, cond, refl, sym, ◌∙◌, ap, subst, append_assoc, arith}
use Rattle.std.proofs.lemmas.List.{append-nil}
use Rattle.std.specs.List.{AllByRecursion}
use Rattle.event_core.specs.Content.{Content}
use Rattle.event_core.specs.Journal.{Base, IsBase, IsJournal, IsWellFormed, put_events, taken_numbers, is_among, without, numbered, left, next, after_journal}
use Rattle.event_core.specs.declared.journal.Entry.{Entry}
use Rattle.event_core.specs.declared.journal.Entry.TheVariants.{Puts, Takes}
use Rattle.channel_face.specs.Token.{Token}
use Rattle.channel_face.specs.Machine.{State, Call, BeginPut, BeginTake, Put, Take, StagePut, StageTake, Flush, RollbackPut, RollbackTake, Checkpoint, Prune, Reopen, Kept, Front, Read, after, base_of, entries, entry_of, puts_of, takes_of, free, settle, settle_if, stage, add_put, add_take, after_begin, after_reopen}
use Rattle.channel_face.specs.History.{Step, Opening, opening, IsRun, state_after, kept_by, front_of, journal, commits}
use Rattle.channel_face.specs.Laws.{IsFront, KeepsFront, ReadsNone}
use Rattle.channel_face.specs.declared.replies.BeginRefused.{BeginRefused}
use Rattle.channel_face.specs.declared.replies.PutRefused.TheVariants as PutNo
use Rattle.channel_face.specs.declared.replies.TakeRefused.TheVariants as TakeNo
use Rattle.channel_face.specs.declared.replies.FlushRefused.TheVariants as FlushNo
use Rattle.channel_face.specs.declared.replies.CheckRefused.TheVariants as CheckNo
use Rattle.channel_face.specs.Sound.{Items, times, number_of, Rising, IsSoundState}
use Rattle.channel_face.proofs.Numbers.{times-append, number_of-append, number_high, number_once, rising-left, rising_base, rising-without, without-append, without-both, without_none, without_above, numbered-append, put_events-append, taken_numbers-append, distinct, distinct_times, among_times, number_of-without}
use Rattle.channel_face.proofs.Opened.{times-cons, times-take}
use Rattle.channel_face.proofs.Sound.{sound_after}

-- a channel that opens with a base is sound
pub sound_opening : (o : Opening) → IsBase o.base → IsSoundState (opening o)
sound_opening o is = record { rising = rising_base o.base is; held = λ n. omega arith; numbered = tt; staged = tt }

-- its takes are of earlier numbers
abbrev pub TakesEarlier : Base → List Entry → Type 0
TakesEarlier base j = (n : ℕ) → next base j ≤ n → times n (taken_numbers j) ≡ 0

same_base : (a b : Base) → a.items ≡ b.items → a.first ≡ b.first → a ≡ b
same_base a b items first = rw (items, first) refl

left-append : (base : Base) (j k : List Entry) → TakesEarlier base j → left base (j ++ k) ≡ left (after_journal base j) k
left-append base j k earlier =
    let tj : List ℕ = taken_numbers j in
    let tk : List ℕ = taken_numbers k in
    let pj : List Content = put_events j in
    let pk : List Content = put_events k in
    let front : Items = base.items ++ numbered base.first pj in
    let back : Items = numbered (base.first + length pj) pk in
    let items : base.items ++ numbered base.first (pj ++ pk) ≡ front ++ back = ap (λ (l : Items). base.items ++ l) (numbered-append base.first pj pk) ∙ sym (append_assoc base.items (numbered base.first pj) back) in
    let untaken : without tj back ≡ back = without_above tj (base.first + length pj) pk earlier in
    rw (taken_numbers-append j k, put_events-append j k, items, without-both tj tk (front ++ back), without-append tj front back, untaken) refl

-- two journals in a row lead where the second leads after the first
pub after-append : (base : Base) (j k : List Entry) → TakesEarlier base j → after_journal base (j ++ k) ≡ after_journal (after_journal base j) k
after-append base j k earlier =
    same_base (after_journal base (j ++ k)) (after_journal (after_journal base j) k) (left-append base j k earlier)
    (let puts : length (put_events (j ++ k)) ≡ length (put_events j) + length (put_events k) = ap (λ (l : List Content). length l) (put_events-append j k) ∙ length-append (put_events j) (put_events k) in omega (arith, puts))

-- an empty journal leaves the base as it is
pub after_none : (base : Base) → after_journal base [] ≡ base
after_none base = same_base (after_journal base []) base (without_none (base.items ++ []) ∙ append-nil base.items) (omega arith)

times_take : (n k : ℕ) (j : List Entry) → times n (taken_numbers (take k j)) ≤ times n (taken_numbers j)
times_take n zero [] = omega arith
times_take n (suc k) [] = omega arith
times_take n zero (e ∷ j) = omega arith
times_take n (suc k) (e ∷ j) = omega (arith, times-cons n e (take k j), times-cons n e j, times_take n k j)

-- what is staged in a sound state takes earlier numbers
front_earlier : (s : State) (k : ℕ) → IsSoundState s → TakesEarlier (base_of s) (take k s.staged)
front_earlier s k sound n more =
    let none : number_of n s.items ≡ 0 = number_high n 0 s.items s.first sound.rising (omega (arith, more)) in
    omega (arith, sound.held n, none, times_take n k s.staged)

staged_earlier : (s : State) → IsSoundState s → TakesEarlier (base_of s) s.staged
staged_earlier s sound n more =
    let none : number_of n s.items ≡ 0 = number_high n 0 s.items s.first sound.rising (omega (arith, more)) in
    omega (arith, sound.held n, none)

-- What one call does: its entries were kept, and they lead to the base after it.
pub record Keeps (s : State) (kept : List Entry) (new : State) : Type 0 where
  pub leads : base_of new ≡ after_journal (base_of s) kept
  pub earlier : TakesEarlier (base_of s) kept
  pub formed : IsWellFormed (base_of s) kept
  pub full : IsJournal kept

keeps_none : (s new : State) → base_of new ≡ base_of s → Keeps s [] new
keeps_none s new same = record { leads = same ∙ sym (after_none (base_of s)); earlier = λ n more. refl; formed = tt; full = tt }

-- an entry of takes is of different items
fits_head : (base : Base) (numbers : List ℕ) (rest : List Entry) → ((n : ℕ) → times n (taken_numbers (Takes numbers ∷ rest)) ≤ number_of n base.items) → (n : ℕ) → times n numbers ≤ number_of n base.items
fits_head base numbers rest fits n = omega (arith, fits n, times-append n numbers (taken_numbers rest))

-- a journal is well formed where it takes each number no more often than the base has it
pub well_formed : (base : Base) (j : List Entry) → Rising 0 base.items base.first → ((n : ℕ) → times n (taken_numbers j) ≤ number_of n base.items) → IsWellFormed base j
well_formed base [] rising fits = tt
well_formed base (Puts events ∷ j) rising fits =
    well_formed (after_journal base (Puts events ∷ [])) j (rising-left base (Puts events ∷ []) rising) (λ n. more n)
  where
    more : (n : ℕ) → times n (taken_numbers j) ≤ number_of n (left base (Puts events ∷ []))
    more n = rw without_none (omega (arith, fits n, number_of-append n base.items (numbered base.first (events ++ []))))
well_formed base (Takes numbers ∷ j) rising fits = (
  distinct numbers 0 base.items base.first rising (fits_head base numbers j fits),
  well_formed (after_journal base (Takes numbers ∷ [])) j (rising-left base (Takes numbers ∷ []) rising) (λ n. fewer n (among_times n (numbers ++ []))),
)
  where
    fewer : (n : ℕ) → ((is_among (numbers ++ []) n ≡ true) × (1 ≤ times n (numbers ++ []))) ⊎ ((is_among (numbers ++ []) n ≡ false) × (times n (numbers ++ []) ≡ 0)) → times n (taken_numbers j) ≤ number_of n (left base (Takes numbers ∷ []))
    fewer n (inl taken) = omega (arith, fits n, times-append n numbers (taken_numbers j), times-append n numbers [], taken.1, number_once n 0 base.items base.first rising)
    fewer n (inr isnt) = rw (number_of-without n (numbers ++ []) (base.items ++ []), isnt.0, append-nil base.items) (omega (arith, fits n, times-append n numbers (taken_numbers j)))

front_full : (k : ℕ) (j : List Entry) → IsJournal j → IsJournal (take k j)
front_full zero [] all = tt
front_full (suc k) [] all = tt
front_full zero (e ∷ j) all = tt
front_full (suc k) (e ∷ j) all = (all.0, front_full k j all.1)

keeps_front : (s new : State) (k : ℕ) → IsSoundState s → base_of new ≡ after_journal (base_of s) (take k s.staged) → Keeps s (take k s.staged) new
keeps_front s new k sound leads = record {
  leads = leads;
  earlier = front_earlier s k sound;
  formed = well_formed (base_of s) (take k s.staged) sound.rising (λ n. omega (arith, sound.held n, times_take n k s.staged));
  full = front_full k s.staged sound.staged;
}

keeps_staged : (s new : State) → IsSoundState s → base_of new ≡ after_journal (base_of s) s.staged → Keeps s s.staged new
keeps_staged s new sound leads = record {
  leads = leads;
  earlier = staged_earlier s sound;
  formed = well_formed (base_of s) s.staged sound.rising (λ n. omega (arith, sound.held n));
  full = sound.staged;
}

keeps_if : (b : Bool) (s new : State) → IsSoundState s → base_of new ≡ base_of (settle_if b s) → Keeps s (cond b s.staged []) new
keeps_if true s new sound same = keeps_staged s new sound same
keeps_if false s new sound same = keeps_none s new same

put_base : (s : State) (number : ℕ) (puts : Option (List Content)) (event : Content) → base_of (add_put s number puts event) ≡ base_of s
put_base s number None event = refl
put_base s number (Some events) event = refl

take_base : (s : State) (number : ℕ) (takes : Option (List ℕ)) (items : Items) → base_of (add_take s number takes items) ≡ base_of s
take_base s number None items = refl
take_base s number (Some numbers) [] = refl
take_base s number (Some numbers) (item ∷ items) = refl

stage_base : (number : ℕ) (entry : Option Entry) (s : State) → base_of (stage number entry s) ≡ base_of s
stage_base number None s = refl
stage_base number (Some (Puts [])) s = refl
stage_base number (Some (Takes [])) s = refl
stage_base number (Some (Puts (e ∷ es))) s = refl
stage_base number (Some (Takes (n ∷ ns))) s = refl

begin_base : (entry : Entry) (s : State) (reply : Result Token BeginRefused) → base_of (after_begin entry s reply) ≡ base_of s
begin_base entry s (Ok token) = refl
begin_base entry s (Err e) = refl

keeps_reopen : (s : State) (kept : Kept) (txn : ℕ) → IsSoundState s → IsFront kept → Keeps s (front_of s.staged kept) (after_reopen s (Ok (record { kept = kept; txn = txn })))
keeps_reopen s (Front k) txn sound front = keeps_front s (after_reopen s (Ok (record { kept = Front k; txn = txn }))) k sound refl
keeps_reopen s (Read base) txn sound front = absurd front

keeps : (s : State) (call : Call) → IsSoundState s → KeepsFront call → Keeps s (kept_by s call) (after s call)
keeps s (BeginPut reply) sound front = keeps_none s (after s (BeginPut reply)) (begin_base (Puts []) s reply)
keeps s (BeginTake reply) sound front = keeps_none s (after s (BeginTake reply)) (begin_base (Takes []) s reply)
keeps s (Put token event (Ok done)) sound front = keeps_if done.spilled s (after s (Put token event (Ok done))) sound (put_base (settle_if done.spilled s) token.number (puts_of s token) event)
keeps s (Put token event (Err PutNo.DiskFault)) sound front = keeps_none s (after s (Put token event (Err PutNo.DiskFault))) refl
keeps s (Put token event (Err PutNo.Stale)) sound front = keeps_none s s refl
keeps s (Put token event (Err PutNo.Broken)) sound front = keeps_none s s refl
keeps s (Put token event (Err (PutNo.Spent counter))) sound front = keeps_none s s refl
keeps s (Put token event (Err (PutNo.TxnFull n))) sound front = keeps_none s s refl
keeps s (Put token event (Err (PutNo.TooLarge n))) sound front = keeps_none s s refl
keeps s (Put token event (Err (PutNo.Full n))) sound front = keeps_none s s refl
keeps s (Put token event (Err PutNo.NoMemory)) sound front = keeps_none s s refl
keeps s (Take token (Ok taken)) sound front = keeps_if taken.spilled s (after s (Take token (Ok taken))) sound (take_base (settle_if taken.spilled s) token.number (takes_of s token) (free s))
keeps s (Take token (Err TakeNo.DiskFault)) sound front = keeps_none s (after s (Take token (Err TakeNo.DiskFault))) refl
keeps s (Take token (Err TakeNo.Stale)) sound front = keeps_none s s refl
keeps s (Take token (Err TakeNo.Broken)) sound front = keeps_none s s refl
keeps s (Take token (Err (TakeNo.Spent counter))) sound front = keeps_none s s refl
keeps s (Take token (Err (TakeNo.TxnFull n))) sound front = keeps_none s s refl
keeps s (Take token (Err TakeNo.ReadFault)) sound front = keeps_none s s refl
keeps s (Take token (Err (TakeNo.Damaged a b))) sound front = keeps_none s s refl
keeps s (Take token (Err TakeNo.NoMemory)) sound front = keeps_none s s refl
keeps s (StagePut token (Ok given)) sound front = keeps_none s (after s (StagePut token (Ok given))) (stage_base token.number (entry_of token.number s.opened) s)
keeps s (StagePut token (Err cause)) sound front = keeps_none s s refl
keeps s (StageTake token (Ok given)) sound front = keeps_none s (after s (StageTake token (Ok given))) (stage_base token.number (entry_of token.number s.opened) s)
keeps s (StageTake token (Err cause)) sound front = keeps_none s s refl
keeps s (Flush (Ok done)) sound front = keeps_staged s (settle s) sound refl
keeps s (Flush (Err FlushNo.Broken)) sound front = keeps_none s s refl
keeps s (Flush (Err FlushNo.DiskFault)) sound front = keeps_none s (after s (Flush (Err FlushNo.DiskFault))) refl
keeps s (Flush (Err (FlushNo.Spent counter))) sound front = keeps_none s s refl
keeps s (RollbackPut token true) sound front = keeps_none s (after s (RollbackPut token true)) refl
keeps s (RollbackPut token false) sound front = keeps_none s s refl
keeps s (RollbackTake token true) sound front = keeps_none s (after s (RollbackTake token true)) refl
keeps s (RollbackTake token false) sound front = keeps_none s s refl
keeps s (Checkpoint (Ok done)) sound front = keeps_staged s (settle s) sound refl
keeps s (Checkpoint (Err CheckNo.CheckFault)) sound front = keeps_staged s (settle s) sound refl
keeps s (Checkpoint (Err CheckNo.DiskFault)) sound front = keeps_none s (after s (Checkpoint (Err CheckNo.DiskFault))) refl
keeps s (Checkpoint (Err CheckNo.Broken)) sound front = keeps_none s s refl
keeps s (Checkpoint (Err (CheckNo.Spent counter))) sound front = keeps_none s s refl
keeps s (Prune reply) sound front = keeps_none s s refl
keeps s (Reopen (Ok r)) sound front = keeps_reopen s r.kept r.txn sound front
keeps s (Reopen (Err e)) sound front = keeps_none s (after s (Reopen (Err e))) refl

-- what a run leaves is what its journal leaves of the base it began with
pub stands_for : (tells : Bool) (s : State) (h : List Step) → IsSoundState s → IsRun tells s h → ReadsNone h → base_of (state_after s h) ≡ after_journal (base_of s) (journal s h)
stands_for tells s [] sound run none = sym (after_none (base_of s))
stands_for tells s (step ∷ h) sound run none =
    let new : State = after s step.call in
    let k = keeps s step.call sound none.0 in
    stands_for tells new h (sound_after tells s step.call sound run.0) run.1 none.1
    ∙ (ap (λ (b : Base). after_journal b (journal new h)) k.leads ∙ sym (after-append (base_of s) (kept_by s step.call) (journal new h) k.earlier))

-- a well-formed journal after a well-formed one
earlier_one : (base : Base) (entry : Entry) (j : List Entry) → Rising 0 base.items base.first → IsWellFormed base (entry ∷ j) → TakesEarlier base (entry ∷ [])
earlier_one base (Puts events) j rising formed n more = refl
earlier_one base (Takes numbers) j rising formed n more =
    let none : number_of n base.items ≡ 0 = number_high n 0 base.items base.first rising (omega (arith, more)) in
    omega (arith, distinct_times numbers 0 base.items base.first rising formed.0 n, none, times-take n numbers)

formed-append : (base : Base) (j k : List Entry) → Rising 0 base.items base.first → IsWellFormed base j → IsWellFormed (after_journal base j) k → IsWellFormed base (j ++ k)
formed-append base [] k rising formed later = subst (λ (b : Base). IsWellFormed b k) (after_none base) later
formed-append base (Puts events ∷ j) k rising formed later =
    let same : after_journal base (Puts events ∷ j) ≡ after_journal (after_journal base (Puts events ∷ [])) j = after-append base (Puts events ∷ []) j (earlier_one base (Puts events) j rising formed) in
    formed-append (after_journal base (Puts events ∷ [])) j k (rising-left base (Puts events ∷ []) rising) formed (subst (λ (b : Base). IsWellFormed b k) same later)
formed-append base (Takes numbers ∷ j) k rising formed later =
    let same : after_journal base (Takes numbers ∷ j) ≡ after_journal (after_journal base (Takes numbers ∷ [])) j = after-append base (Takes numbers ∷ []) j (earlier_one base (Takes numbers) j rising formed) in
    (formed.0, formed-append (after_journal base (Takes numbers ∷ [])) j k (rising-left base (Takes numbers ∷ []) rising) formed.1 (subst (λ (b : Base). IsWellFormed b k) same later))

full-append : (j k : List Entry) → IsJournal j → IsJournal k → IsJournal (j ++ k)
full-append [] k a b = b
full-append (e ∷ j) k a b = (a.0, full-append j k a.1 b)

-- what a run settled and staged is a well-formed journal without empty entries
pub commits_formed : (tells : Bool) (s : State) (h : List Step) → IsSoundState s → IsRun tells s h → ReadsNone h → IsWellFormed (base_of s) (commits s h) × IsJournal (commits s h)
commits_formed tells s [] sound run none = (well_formed (base_of s) s.staged sound.rising (λ n. omega (arith, sound.held n)), sound.staged)
commits_formed tells s (step ∷ h) sound run none =
    let new : State = after s step.call in
    let k = keeps s step.call sound none.0 in
    let kept : List Entry = kept_by s step.call in
    let staged : List Entry = (state_after new h).staged in
    let more = commits_formed tells new h (sound_after tells s step.call sound run.0) run.1 none.1 in
    let same : kept ++ (journal new h ++ staged) ≡ (kept ++ journal new h) ++ staged = sym (append_assoc kept (journal new h) staged) in (
      subst (λ (l : List Entry). IsWellFormed (base_of s) l) same (formed-append (base_of s) kept (journal new h ++ staged) sound.rising k.formed (subst (λ (b : Base). IsWellFormed b (journal new h ++ staged)) k.leads more.0)),
      subst (λ (l : List Entry). IsJournal l) same (full-append kept (journal new h ++ staged) k.full more.1),
    )

-- items above a number
above : (m low : ℕ) (items : Items) (first : ℕ) → m < low → Rising low items first → AllByRecursion (λ (other : ℕ × Content). m < other.0) items
above m low [] first less rising = tt
above m low (item ∷ items) first less rising = (omega (arith, less, rising.0), above m (item.0 + 1) items first (omega (arith, less, rising.0)) rising.1)

-- of the events that no transaction holds, the first has the least number
pub least_first : (s : State) (item : ℕ × Content) (rest : Items) → IsBase (base_of s) → free s ≡ item ∷ rest → AllByRecursion (λ (other : ℕ × Content). item.0 < other.0) rest
least_first s item rest is free_is =
    let rising : Rising 0 (free s) s.first = rising-without 0 (taken_numbers (entries s.opened) ++ taken_numbers s.staged) s.items s.first (rising_base (base_of s) is) in
    let here : Rising 0 (item ∷ rest) s.first = subst (λ (l : Items). Rising 0 l s.first) free_is rising in
    above item.0 (item.0 + 1) rest s.first (omega arith) here.1
