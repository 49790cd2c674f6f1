-- What is true of every state that a run leads to.
use Rattle.std.proofs.Common.{◌⊎◌, inl, inr, ◌≡◌, ◌≢◌, ◌≤◌, ◌+◌, ◌++◌, ◌∷◌, [], ℕ, List, take, Option, Some, None, Result, Ok, Err, Bool, true, false, ◌==◌, cond, refl, sym, ◌∙◌, ap, subst, arith}
use Rattle.std.proofs.lemmas.Bool.Decides.{eqb_tells}
use Rattle.event_core.specs.Content.{Content}
use Rattle.event_core.specs.Journal.{IsJournal, IsNotEmpty, put_events, taken_numbers, without, is_among, numbered, left}
use Rattle.event_core.specs.declared.journal.Entry.{Entry}
use Rattle.event_core.specs.declared.journal.Entry.TheVariants.{Puts, Takes}
use Rattle.channel_face.specs.Token.{Token}
use Rattle.channel_face.specs.Machine.{State, Call, BeginPut, BeginTake, Put, Take, StagePut, StageTake, Flush, RollbackPut, RollbackTake, Checkpoint, Prune, Reopen, Kept, Front, Read, Admits, MayKeep, after, base_of, entries, entry_of, with_entry, without_entry, puts_of, takes_of, free, settle, settle_if, close, stage, add_put, add_take, after_put, after_take, after_begin, after_reopen, broken_state}
use Rattle.channel_face.specs.History.{Step, IsRun, state_after}
use Rattle.channel_face.specs.declared.replies.Put.{Put as PutDone}
use Rattle.channel_face.specs.declared.replies.Taken.{Taken}
use Rattle.channel_face.specs.declared.replies.BeginRefused.{BeginRefused}
use Rattle.channel_face.specs.declared.replies.PutRefused.{PutRefused}
use Rattle.channel_face.specs.declared.replies.PutRefused.TheVariants as PutNo
use Rattle.channel_face.specs.declared.replies.TakeRefused.{TakeRefused}
use Rattle.channel_face.specs.declared.replies.TakeRefused.TheVariants as TakeNo
use Rattle.channel_face.specs.declared.replies.FlushRefused.TheVariants as FlushNo
use Rattle.channel_face.specs.declared.replies.CheckRefused.TheVariants as CheckNo
use Rattle.channel_face.specs.Sound.{Items, times, number_of, Rising, one_if, Opened, AreNumbered, entry_times, opened_times, IsSoundState, staged_times}
use Rattle.channel_face.proofs.Numbers.{times-append, number_of-append, number_of-without, number_once, among_times, rising-left, rising_base, same_number}
use Rattle.channel_face.proofs.Opened.{opened-with, opened-without, opened-fewer, opened-push, times-take, times-push, numbered-with, numbered-without, numbered-push, puts_of-some, takes_of-some}

-- the same items and what is staged, with fewer held
with_opened : (s : State) (opened : Opened) (txn : ℕ) → IsSoundState s → AreNumbered txn opened → ((n : ℕ) → opened_times n opened ≤ opened_times n s.opened) → IsSoundState (record s { opened = opened; txn = txn })
with_opened s opened txn sound numbers fewer = record {
  rising = sound.rising;
  held = λ n. omega (arith, sound.held n, fewer n);
  numbered = numbers;
  staged = sound.staged;
}

-- a channel that broke is sound
pub sound_broken : (s : State) → IsSoundState s → IsSoundState (broken_state s)
sound_broken s sound = record { rising = sound.rising; held = sound.held; numbered = sound.numbered; staged = sound.staged }

still_held : (s : State) (n : ℕ) → IsSoundState s → opened_times n s.opened ≤ number_of n (left (base_of s) s.staged)
still_held s n sound = from (among_times n (taken_numbers s.staged))
  where
    more : Items
    more = numbered s.first (put_events s.staged)

    is : number_of n (left (base_of s) s.staged) ≡ cond (is_among (taken_numbers s.staged) n) 0 (number_of n (s.items ++ more))
    is = number_of-without n (taken_numbers s.staged) (s.items ++ more)

    from : ((is_among (taken_numbers s.staged) n ≡ true) × (1 ≤ times n (taken_numbers s.staged))) ⊎ ((is_among (taken_numbers s.staged) n ≡ false) × (times n (taken_numbers s.staged) ≡ 0)) → opened_times n s.opened ≤ number_of n (left (base_of s) s.staged)
    from (inl taken) = omega (arith, sound.held n, taken.1, number_once n 0 s.items s.first sound.rising)
    from (inr isnt) = rw (is, isnt.0) (omega (arith, sound.held n, number_of-append n s.items more))

-- a channel whose staged entries were settled is sound
pub sound_settle : (s : State) → IsSoundState s → IsSoundState (settle s)
sound_settle s sound = record {
  rising = rising-left (base_of s) s.staged sound.rising;
  held = λ n. omega (arith, still_held s n sound);
  numbered = sound.numbered;
  staged = tt;
}

-- also where they were settled or not
pub sound_settle_if : (b : Bool) (s : State) → IsSoundState s → IsSoundState (settle_if b s)
sound_settle_if true s sound = sound_settle s sound
sound_settle_if false s sound = sound

-- a channel that closed a transaction is sound
pub sound_close : (number : ℕ) (s : State) → IsSoundState s → IsSoundState (close number s)
sound_close number s sound = with_opened s (without_entry number s.opened) s.txn sound (numbered-without s.txn number s.opened sound.numbered) (λ n. opened-fewer n number s.opened)

journal-push : (a : List Entry) (entry : Entry) → IsJournal a → IsNotEmpty entry → IsJournal (a ++ entry ∷ [])
journal-push [] entry all here = (here, tt)
journal-push (x ∷ a) entry all here = (all.0, journal-push a entry all.1 here)

staged_more : (number : ℕ) (entry : Entry) (s : State) → IsSoundState s → entry_of number s.opened ≡ Some entry → IsNotEmpty entry → IsSoundState (record s { opened = without_entry number s.opened; staged = s.staged ++ entry ∷ [] })
staged_more number entry s sound is some = record {
  rising = sound.rising;
  held = λ n. omega (arith, sound.held n, opened-without n number s.opened entry is, times-push n s.staged (entry ∷ []));
  numbered = numbered-without s.txn number s.opened sound.numbered;
  staged = journal-push s.staged entry sound.staged some;
}

-- a channel that staged what a transaction held is sound
pub sound_stage : (number : ℕ) (entry : Option Entry) (s : State) → IsSoundState s → entry_of number s.opened ≡ entry → IsSoundState (stage number entry s)
sound_stage number None s sound is = sound
sound_stage number (Some (Puts [])) s sound is = sound_close number s sound
sound_stage number (Some (Takes [])) s sound is = sound_close number s sound
sound_stage number (Some (Puts (e ∷ es))) s sound is = staged_more number (Puts (e ∷ es)) s sound is (omega arith)
sound_stage number (Some (Takes (n ∷ ns))) s sound is = staged_more number (Takes (n ∷ ns)) s sound is (omega arith)

begun : (entry : Entry) (s : State) (reply : Result Token BeginRefused) → ((n : ℕ) → entry_times n entry ≡ 0) → IsSoundState s → IsSoundState (after_begin entry s reply)
begun entry s (Err e) none sound = sound
begun entry s (Ok token) none sound =
    with_opened s (s.opened ++ (s.txn, entry) ∷ []) (s.txn + 1) sound (numbered-push s.txn entry s.opened sound.numbered)
    (λ n. omega (arith, opened-push n s.opened ((s.txn, entry) ∷ []), none n))

settled_opened : (b : Bool) (s : State) → (settle_if b s).opened ≡ s.opened
settled_opened true s = refl
settled_opened false s = refl

put_more : (number : ℕ) (events : List Content) (event : Content) (s : State) → IsSoundState s → entry_of number s.opened ≡ Some (Puts events) → IsSoundState (add_put s number (Some events) event)
put_more number events event s sound is =
    with_opened s (with_entry number (Puts (events ++ event ∷ [])) s.opened) s.txn sound (numbered-with s.txn number (Puts (events ++ event ∷ [])) s.opened sound.numbered)
    (λ n. omega (arith, opened-with n number s.opened (Puts events) (Puts (events ++ event ∷ [])) is))

put_done : (spilled : Bool) (number : ℕ) (puts : Option (List Content)) (event : Content) (s : State) → IsSoundState s → ((events : List Content) → puts ≡ Some events → entry_of number s.opened ≡ Some (Puts events)) → IsSoundState (add_put (settle_if spilled s) number puts event)
put_done spilled number None event s sound is = sound_settle_if spilled s sound
put_done spilled number (Some events) event s sound is =
    put_more number events event (settle_if spilled s) (sound_settle_if spilled s sound) (ap (λ (o : Opened). entry_of number o) (settled_opened spilled s) ∙ is events refl)

sound_put : (s : State) (token : Token) (event : Content) (reply : Result PutDone PutRefused) → IsSoundState s → IsSoundState (after_put s token (puts_of s token) event reply)
sound_put s token event (Ok done) sound = put_done done.spilled token.number (puts_of s token) event s sound (λ events is. (puts_of-some s token events is).1)
sound_put s token event (Err PutNo.DiskFault) sound = sound_broken s sound
sound_put s token event (Err PutNo.Stale) sound = sound
sound_put s token event (Err PutNo.Broken) sound = sound
sound_put s token event (Err (PutNo.Spent counter)) sound = sound
sound_put s token event (Err (PutNo.TxnFull n)) sound = sound
sound_put s token event (Err (PutNo.TooLarge n)) sound = sound
sound_put s token event (Err (PutNo.Full n)) sound = sound
sound_put s token event (Err PutNo.NoMemory) sound = sound

-- the first item that no transaction holds
pub first_free : (xs : List ℕ) (items : Items) (item : ℕ × Content) (rest : Items) → without xs items ≡ item ∷ rest → (times item.0 xs ≡ 0) × (1 ≤ number_of item.0 items)
first_free xs [] item rest is = absurd (cc)
first_free xs (x ∷ items) item rest is = from (among_times x.0 xs) (first_free xs items item rest)
  where
    head_same : (a b : ℕ × Content) (xs ys : Items) → a ∷ xs ≡ b ∷ ys → a ≡ b
    head_same a b xs ys h = cc

    from : ((is_among xs x.0 ≡ true) × (1 ≤ times x.0 xs)) ⊎ ((is_among xs x.0 ≡ false) × (times x.0 xs ≡ 0)) → (without xs items ≡ item ∷ rest → (times item.0 xs ≡ 0) × (1 ≤ number_of item.0 items)) → (times item.0 xs ≡ 0) × (1 ≤ one_if (x.0 == item.0) + number_of item.0 items)
    from (inl taken) more = let later = more (rw taken.0 at is) in (later.0, omega (arith, later.1))
    from (inr not_taken) more =
        let same : x ≡ item = head_same x item (without xs items) rest (rw not_taken.0 at is) in
        let number : x.0 ≡ item.0 = ap (λ (p : ℕ × Content). p.0) same in
        (subst (λ (m : ℕ). times m xs ≡ 0) number not_taken.1, omega (arith, same_number x.0 item.0 number))

take_more : (number : ℕ) (numbers : List ℕ) (m : ℕ) (s : State) → IsSoundState s → entry_of number s.opened ≡ Some (Takes numbers) → opened_times m s.opened + staged_times m s + 1 ≤ number_of m s.items
    → IsSoundState (record s { opened = with_entry number (Takes (numbers ++ m ∷ [])) s.opened })
take_more number numbers m s sound is room = record {
  rising = sound.rising;
  held = λ n. from n (eqb_tells m n);
  numbered = numbered-with s.txn number (Takes (numbers ++ m ∷ [])) s.opened sound.numbered;
  staged = sound.staged;
}
  where
    new : Opened
    new = with_entry number (Takes (numbers ++ m ∷ [])) s.opened

    one_more : (n : ℕ) → opened_times n new ≡ opened_times n s.opened + one_if (m == n)
    one_more n = omega (arith, opened-with n number s.opened (Takes numbers) (Takes (numbers ++ m ∷ [])) is, times-take n numbers, times-take n (numbers ++ m ∷ []), times-append n numbers (m ∷ []))

    from : (n : ℕ) → ((m == n) ≡ true) × (m ≡ n) ⊎ ((m == n) ≡ false) × (m ≢ n) → opened_times n new + staged_times n s ≤ number_of n s.items
    from n (inl here) =
        let at_n : opened_times n s.opened + staged_times n s + 1 ≤ number_of n s.items = subst (λ (k : ℕ). opened_times k s.opened + staged_times k s + 1 ≤ number_of k s.items) here.1 room in
        omega (arith, one_more n, at_n, ap one_if here.0)
    from n (inr there) = omega (arith, one_more n, sound.held n, ap one_if there.0)

free_stays : (spilled : Bool) (s : State) (item : ℕ × Content) (rest : Items) → IsSoundState s → free s ≡ item ∷ rest → opened_times item.0 (settle_if spilled s).opened + staged_times item.0 (settle_if spilled s) + 1 ≤ number_of item.0 (settle_if spilled s).items
free_stays spilled s item rest sound is = by_spill spilled
  where
    m : ℕ
    m = item.0

    found : (times item.0 (taken_numbers (entries s.opened) ++ taken_numbers s.staged) ≡ 0) × (1 ≤ number_of item.0 s.items)
    found = first_free (taken_numbers (entries s.opened) ++ taken_numbers s.staged) s.items item rest is

    none : opened_times item.0 s.opened + staged_times item.0 s ≡ 0
    none = sym (times-append item.0 (taken_numbers (entries s.opened)) (taken_numbers s.staged)) ∙ found.0

    more : Items
    more = numbered s.first (put_events s.staged)

    not_among : is_among (taken_numbers s.staged) item.0 ≡ false
    not_among = from (among_times item.0 (taken_numbers s.staged))
      where
        from : ((is_among (taken_numbers s.staged) item.0 ≡ true) × (1 ≤ times item.0 (taken_numbers s.staged))) ⊎ ((is_among (taken_numbers s.staged) item.0 ≡ false) × (times item.0 (taken_numbers s.staged) ≡ 0)) → is_among (taken_numbers s.staged) item.0 ≡ false
        from (inl taken) = absurd (omega (arith, taken.1, none))
        from (inr isnt) = isnt.0

    by_spill : (b : Bool) → opened_times item.0 (settle_if b s).opened + staged_times item.0 (settle_if b s) + 1 ≤ number_of item.0 (settle_if b s).items
    by_spill false = omega (arith, none, found.1)
    by_spill true = rw (number_of-without item.0 (taken_numbers s.staged) (s.items ++ more), not_among) (omega (arith, none, found.1, number_of-append item.0 s.items more))

take_done : (spilled : Bool) (number : ℕ) (takes : Option (List ℕ)) (items : Items) (s : State) → IsSoundState s → ((numbers : List ℕ) → takes ≡ Some numbers → entry_of number s.opened ≡ Some (Takes numbers)) → free s ≡ items → IsSoundState (add_take (settle_if spilled s) number takes items)
take_done spilled number None items s sound is free_is = sound_settle_if spilled s sound
take_done spilled number (Some numbers) [] s sound is free_is = sound_settle_if spilled s sound
take_done spilled number (Some numbers) (item ∷ items) s sound is free_is =
    take_more number numbers item.0 (settle_if spilled s) (sound_settle_if spilled s sound) (ap (λ (o : Opened). entry_of number o) (settled_opened spilled s) ∙ is numbers refl) (free_stays spilled s item items sound free_is)

sound_take : (s : State) (token : Token) (reply : Result Taken TakeRefused) → IsSoundState s → IsSoundState (after_take s token (takes_of s token) (free s) reply)
sound_take s token (Ok taken) sound = take_done taken.spilled token.number (takes_of s token) (free s) s sound (λ numbers is. (takes_of-some s token numbers is).1) refl
sound_take s token (Err TakeNo.DiskFault) sound = sound_broken s sound
sound_take s token (Err TakeNo.Stale) sound = sound
sound_take s token (Err TakeNo.Broken) sound = sound
sound_take s token (Err (TakeNo.Spent counter)) sound = sound
sound_take s token (Err (TakeNo.TxnFull n)) sound = sound
sound_take s token (Err TakeNo.ReadFault) sound = sound
sound_take s token (Err (TakeNo.Damaged kept found)) sound = sound
sound_take s token (Err TakeNo.NoMemory) sound = sound

sound_reopen : (tells : Bool) (s : State) (kept : Kept) (txn : ℕ) → IsSoundState s → MayKeep tells s kept → IsSoundState (after_reopen s (Ok (record { kept = kept; txn = txn })))
sound_reopen tells s (Front k) txn sound may = record {
  rising = rising-left (base_of s) (take k s.staged) sound.rising;
  held = λ n. omega arith;
  numbered = tt;
  staged = tt;
}
sound_reopen tells s (Read base) txn sound may = record {
  rising = rising_base base may.1;
  held = λ n. omega arith;
  numbered = tt;
  staged = tt;
}

-- the machine keeps it
pub sound_after : (tells : Bool) (s : State) (call : Call) → IsSoundState s → Admits tells s call → IsSoundState (after s call)
sound_after tells s (BeginPut reply) sound may = begun (Puts []) s reply (λ n. refl) sound
sound_after tells s (BeginTake reply) sound may = begun (Takes []) s reply (λ n. refl) sound
sound_after tells s (Put token event reply) sound may = sound_put s token event reply sound
sound_after tells s (Take token reply) sound may = sound_take s token reply sound
sound_after tells s (StagePut token (Ok given)) sound may = sound_stage token.number (entry_of token.number s.opened) s sound refl
sound_after tells s (StagePut token (Err cause)) sound may = sound
sound_after tells s (StageTake token (Ok given)) sound may = sound_stage token.number (entry_of token.number s.opened) s sound refl
sound_after tells s (StageTake token (Err cause)) sound may = sound
sound_after tells s (Flush (Ok done)) sound may = sound_settle s sound
sound_after tells s (Flush (Err FlushNo.Broken)) sound may = sound
sound_after tells s (Flush (Err FlushNo.DiskFault)) sound may = sound_broken s sound
sound_after tells s (Flush (Err (FlushNo.Spent counter))) sound may = sound
sound_after tells s (RollbackPut token true) sound may = sound_close token.number s sound
sound_after tells s (RollbackPut token false) sound may = sound
sound_after tells s (RollbackTake token true) sound may = sound_close token.number s sound
sound_after tells s (RollbackTake token false) sound may = sound
sound_after tells s (Checkpoint (Ok done)) sound may = sound_settle s sound
sound_after tells s (Checkpoint (Err CheckNo.CheckFault)) sound may = sound_settle s sound
sound_after tells s (Checkpoint (Err CheckNo.DiskFault)) sound may = sound_broken s sound
sound_after tells s (Checkpoint (Err CheckNo.Broken)) sound may = sound
sound_after tells s (Checkpoint (Err (CheckNo.Spent counter))) sound may = sound
sound_after tells s (Prune reply) sound may = sound
sound_after tells s (Reopen (Ok r)) sound may = sound_reopen tells s r.kept r.txn sound may.0.1
sound_after tells s (Reopen (Err e)) sound may = sound_broken s sound

-- and so does each run
pub sound_run : (tells : Bool) (s : State) (h : List Step) → IsSoundState s → IsRun tells s h → IsSoundState (state_after s h)
sound_run tells s [] sound run = sound
sound_run tells s (step ∷ h) sound run = sound_run tells (after s step.call) h (sound_after tells s step.call sound run.0) run.1
