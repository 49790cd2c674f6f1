-- A channel of one's own meets what the laws ask for.
use Rattle.std.proofs.Common.{◌⊎◌, inl, inr, ◌≡◌, ◌<◌, ◌≤◌, ◌++◌, ◌∷◌, [], ℕ, List, Option, Some, None, Ok, Err, Bool, true, false, cond, ◌==◌, ◌≢◌, refl, sym, ◌∙◌, ap, subst, arith}
use Rattle.std.proofs.lemmas.Bool.Decides.{eqb_tells}
use Rattle.event_core.specs.Content.{Content}
use Rattle.event_core.specs.declared.journal.Entry.{Entry}
use Rattle.channel_face.specs.Token.{Token}
use Rattle.event_core.specs.declared.journal.Entry.TheVariants.{Puts, Takes}
use Rattle.channel_face.specs.Machine.{State, Call, BeginPut, BeginTake, Put, Take, StagePut, StageTake, Flush, RollbackPut, RollbackTake, Checkpoint, Prune, Reopen, Admits, after, puts_of, takes_of, free, as_puts, entry_of, settle_if, stage, add_put, add_take}
use Rattle.channel_face.specs.declared.replies.PutRefused.TheVariants as PutNo
use Rattle.channel_face.specs.declared.replies.TakeRefused.TheVariants as TakeNo
use Rattle.channel_face.specs.declared.replies.FlushRefused.TheVariants as FlushNo
use Rattle.channel_face.specs.declared.replies.CheckRefused.TheVariants as CheckNo
use Rattle.channel_face.specs.History.{Step, Opening, opening, IsRun, state_after}
use Rattle.channel_face.specs.Faces.{Own, IsPutBatch, IsTakeCommit}
use Rattle.channel_face.specs.OwnCalls.{steps_of, AreFrom, HasMade, Was}
use Rattle.channel_face.specs.Sound.{Opened, AreNumbered}
use Rattle.channel_laws.specs.Transactions.{AreAmong, looks_at_nothing, BeginsWith, LeadsTo, LeftAtEnd, ArePutInJournal, AreTakenInJournal}
use Rattle.channel_laws.proofs.Transactions.{answered_is_in_journal, committed_is_in_journal}
use Rattle.channel_laws.proofs.Numbering.{AreEarlier, earlier_after}

made_in : (o : Own) (s : State) → o.before ≡ s → o ≡ record { call = o.call; before = s; moment = o.moment }
made_in o s is = rw (sym is) refl

own_back : {V : Type 0} (look : State → V) (s : State) (own : List Own) → AreFrom s own → AreAmong look s (steps_of own) own
own_back look s [] from = refl
own_back look s (o ∷ own) from = inr (own, ap (λ (x : Own). x ∷ own) (made_in o s from.0), own_back look (after s o.call) own from.1)

-- a face's own calls are among those of a history that ends with them
pub own_among : (s : State) (earlier : List Step) (own : List Own) → AreFrom (state_after s earlier) own → AreAmong looks_at_nothing s (earlier ++ steps_of own) own
own_among s [] own from = own_back looks_at_nothing s own from
own_among s (step ∷ earlier) own from = inl (refl, own_among (after s step.call) earlier own from)

-- The next transaction's token of a later state is of no open transaction before.
abbrev IsLater : ℕ → ℕ → State → Type 0
IsLater life txn s = (s.life < life) ⊎ ((s.life ≡ life) × (s.txn ≤ txn))

none_below : (txn number : ℕ) (opened : Opened) → AreNumbered txn opened → txn ≤ number → entry_of number opened ≡ None
none_below txn number [] all le = refl
none_below txn number (o ∷ opened) all le = from (eqb_tells o.0 number) (none_below txn number opened all.1 le)
  where
    from : ((o.0 == number) ≡ true) × (o.0 ≡ number) ⊎ ((o.0 == number) ≡ false) × (o.0 ≢ number) → entry_of number opened ≡ None → cond (o.0 == number) (Some o.1) (entry_of number opened) ≡ None
    from (inl is) more = absurd (omega (arith, all.0, is.1, le))
    from (inr isnt) more = rw isnt.0 more

stale_before : (s : State) (token : Token) → AreEarlier s → IsLater token.life token.number s → puts_of s token ≡ None
stale_before s token all later = from (eqb_tells token.life s.life) later
  where
    from : ((token.life == s.life) ≡ true) × (token.life ≡ s.life) ⊎ ((token.life == s.life) ≡ false) × (token.life ≢ s.life) → IsLater token.life token.number s → cond (token.life == s.life) (as_puts (entry_of token.number s.opened)) None ≡ None
    from (inl same) (inl below) = absurd (omega (arith, same.1, below))
    from (inl same) (inr here) = rw same.0 (ap as_puts (none_below s.txn token.number s.opened all here.1))
    from (inr other) later = rw other.0 refl

-- the machine goes on to later ones
abbrev Grows : State → State → Type 0
Grows s s' = (s.life < s'.life) ⊎ ((s'.life ≡ s.life) × (s.txn ≤ s'.txn))

back : (life txn : ℕ) (s s' : State) → Grows s s' → IsLater life txn s' → IsLater life txn s
back life txn s s' (inl up) (inl below) = inl (omega (arith, up, below))
back life txn s s' (inl up) (inr here) = inl (omega (arith, up, here.0))
back life txn s s' (inr same) (inl below) = inl (omega (arith, same.0, below))
back life txn s s' (inr same) (inr here) = inr (sym same.0 ∙ here.0, omega (arith, same.1, here.1))

grows_if : (b : Bool) (s : State) → ((settle_if b s).life ≡ s.life) × ((settle_if b s).txn ≡ s.txn)
grows_if true s = (refl, refl)
grows_if false s = (refl, refl)

same_put : (s : State) (number : ℕ) (puts : Option (List Content)) (event : Content) → ((add_put s number puts event).life ≡ s.life) × ((add_put s number puts event).txn ≡ s.txn)
same_put s number None event = (refl, refl)
same_put s number (Some events) event = (refl, refl)

same_take : (s : State) (number : ℕ) (takes : Option (List ℕ)) (items : List (ℕ × Content)) → ((add_take s number takes items).life ≡ s.life) × ((add_take s number takes items).txn ≡ s.txn)
same_take s number None items = (refl, refl)
same_take s number (Some numbers) [] = (refl, refl)
same_take s number (Some numbers) (item ∷ items) = (refl, refl)

same_stage : (s : State) (number : ℕ) (entry : Option Entry) → ((stage number entry s).life ≡ s.life) × ((stage number entry s).txn ≡ s.txn)
same_stage s number None = (refl, refl)
same_stage s number (Some (Puts [])) = (refl, refl)
same_stage s number (Some (Takes [])) = (refl, refl)
same_stage s number (Some (Puts (e ∷ es))) = (refl, refl)
same_stage s number (Some (Takes (n ∷ ns))) = (refl, refl)

as_grown : (s s' : State) → (s'.life ≡ s.life) × (s'.txn ≡ s.txn) → Grows s s'
as_grown s s' same = inr (same.0, omega (arith, same.1))

grows : (s : State) (call : Call) → Grows s (after s call)
grows s (BeginPut (Ok token)) = inr (refl, omega arith)
grows s (BeginPut (Err e)) = inr (refl, omega arith)
grows s (BeginTake (Ok token)) = inr (refl, omega arith)
grows s (BeginTake (Err e)) = inr (refl, omega arith)
grows s (Put token event (Ok done)) =
    let a = grows_if done.spilled s in
    let b = same_put (settle_if done.spilled s) token.number (puts_of s token) event in
    as_grown s (after s (Put token event (Ok done))) (b.0 ∙ a.0, b.1 ∙ a.1)
grows s (Put token event (Err PutNo.DiskFault)) = inr (refl, omega arith)
grows s (Put token event (Err e)) = inr (refl, omega arith)
grows s (Take token (Ok taken)) =
    let a = grows_if taken.spilled s in
    let b = same_take (settle_if taken.spilled s) token.number (takes_of s token) (free s) in
    as_grown s (after s (Take token (Ok taken))) (b.0 ∙ a.0, b.1 ∙ a.1)
grows s (Take token (Err TakeNo.DiskFault)) = inr (refl, omega arith)
grows s (Take token (Err e)) = inr (refl, omega arith)
grows s (StagePut token (Ok given)) = as_grown s (after s (StagePut token (Ok given))) (same_stage s token.number (entry_of token.number s.opened))
grows s (StagePut token (Err cause)) = inr (refl, omega arith)
grows s (StageTake token (Ok given)) = as_grown s (after s (StageTake token (Ok given))) (same_stage s token.number (entry_of token.number s.opened))
grows s (StageTake token (Err cause)) = inr (refl, omega arith)
grows s (Flush (Ok done)) = inr (refl, omega arith)
grows s (Flush (Err FlushNo.Broken)) = inr (refl, omega arith)
grows s (Flush (Err FlushNo.DiskFault)) = inr (refl, omega arith)
grows s (Flush (Err (FlushNo.Spent counter))) = inr (refl, omega arith)
grows s (RollbackPut token true) = inr (refl, omega arith)
grows s (RollbackPut token false) = inr (refl, omega arith)
grows s (RollbackTake token true) = inr (refl, omega arith)
grows s (RollbackTake token false) = inr (refl, omega arith)
grows s (Checkpoint (Ok done)) = inr (refl, omega arith)
grows s (Checkpoint (Err CheckNo.CheckFault)) = inr (refl, omega arith)
grows s (Checkpoint (Err CheckNo.DiskFault)) = inr (refl, omega arith)
grows s (Checkpoint (Err CheckNo.Broken)) = inr (refl, omega arith)
grows s (Checkpoint (Err (CheckNo.Spent counter))) = inr (refl, omega arith)
grows s (Prune reply) = inr (refl, omega arith)
grows s (Reopen (Ok r)) = inl (omega arith)
grows s (Reopen (Err e)) = inr (refl, omega arith)

later_back : (life txn : ℕ) (s : State) (h : List Step) → IsLater life txn (state_after s h) → IsLater life txn s
later_back life txn s [] later = later
later_back life txn s (step ∷ h) later = back life txn s (after s step.call) (grows s step.call) (later_back life txn (after s step.call) h later)

-- so a history before it leaves its puts as they are
pub puts_among : (s : State) (earlier : List Step) (own : List Own) (token : Token) → AreEarlier s → IsLater token.life token.number (state_after s earlier) → AreFrom (state_after s earlier) own
    → AreAmong (λ (t : State). puts_of t token) s (earlier ++ steps_of own) own
puts_among s [] own token all later from = own_back (λ (t : State). puts_of t token) s own from
puts_among s (step ∷ earlier) own token all later from =
    let next = later_back token.life token.number (after s step.call) earlier later in
    inl (
      stale_before (after s step.call) token (earlier_after s step.call all) next ∙ sym (stale_before s token all (back token.life token.number s (after s step.call) (grows s step.call) next)),
      puts_among (after s step.call) earlier own token (earlier_after s step.call all) later from,
    )

-- The two laws for it.

run_back : (tells : Bool) (s : State) (x y : List Step) → IsRun tells s (x ++ y) → IsRun tells (state_after s x) y
run_back tells s [] y run = run
run_back tells s (step ∷ x) y run = run_back tells (after s step.call) x y run.1

may_at : (tells : Bool) (s : State) (x : List Own) (o : Own) (y : List Own) → IsRun tells s (steps_of (x ++ o ∷ y)) → Admits tells (state_after s (steps_of x)) o.call
may_at tells s [] o y run = run.0
may_at tells s (p ∷ x) o y run = may_at tells (after s p.call) x o y run.1

module _ (stands : Opening → List Step → Type 0) (tells : Bool) (s : State) (start : Opening) (earlier : List Step) (own more : List Own) (seen : ℕ) (leads : LeadsTo stands tells s) (made : HasMade stands start earlier (own ++ more)) where
  abbrev whole : List Step
  whole = earlier ++ steps_of (own ++ more)

  run : IsRun tells (opening start) whole
  run = (leads start whole made.1.here).0

  left : LeftAtEnd (Was stands) start whole
  left all t was = sym was.2.state ∙ ((leads was.0 (was.1 ++ steps_of all) was.2.here).1 ∙ sym (leads start whole made.1.here).1)

  later : (token : Token) → BeginsWith more token → IsLater token.life token.number (state_after (opening start) earlier)
  later token begins =
      let first : Own = record { call = BeginPut (Ok token); before = begins.0; moment = begins.1 } in
      let then : State = state_after (state_after (opening start) earlier) (steps_of own) in
      let may : Admits tells then (BeginPut (Ok token)) = may_at tells (state_after (opening start) earlier) own first begins.2 (subst (λ (l : List Own). IsRun tells (state_after (opening start) earlier) (steps_of (own ++ l))) begins.3 (run_back tells (opening start) earlier (steps_of (own ++ more)) run)) in
      later_back token.life token.number (state_after (opening start) earlier) (steps_of own) (inr (sym (ap (λ (t : Token). t.life) may.1), omega (arith, ap (λ (t : Token). t.number) may.1)))

  alone : (token : Token) → BeginsWith more token → AreAmong (λ t. puts_of t token) (opening start) whole (own ++ more)
  alone token begins = puts_among (opening start) earlier (own ++ more) token tt (later token begins) made.1.from

  -- a batch that one's own channel answered Ok is in the journal
  pub own_answered : (number : ℕ) (events : List Content) → IsPutBatch (Was stands) seen events (Ok number) own more → ArePutInJournal start whole more events number
  own_answered number events batch = answered_is_in_journal (Was stands) seen tells start whole number events own more run left batch alone

  -- what was taken and committed with Ok through one's own channel is in the journal as taken
  pub own_committed : (token : Token) → IsTakeCommit (Was stands) seen token (Ok tt) own more → AreTakenInJournal start whole token
  own_committed token commit = committed_is_in_journal (Was stands) seen tells start whole token own more run left (own_among (opening start) earlier (own ++ more) made.1.from) commit
