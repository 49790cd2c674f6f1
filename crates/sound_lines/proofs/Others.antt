-- What one call does to the puts of a transaction that it is not of.
use Rattle.std.proofs.Common.{◌⊎◌, inl, inr, ◌≡◌, ◌≢◌, ◌++◌, ◌∷◌, [], ℕ, List, Option, Some, None, Ok, Err, Bool, true, false, ◌==◌, cond, refl, sym, ◌∙◌, ap}
use Rattle.std.proofs.lemmas.Bool.Decides.{eqb_tells}
use Rattle.event_core.specs.Content.{Content}
use Rattle.event_core.specs.declared.journal.Entry.{Entry}
use Rattle.event_core.specs.declared.journal.Entry.TheVariants.{Puts, Takes}
use Rattle.channel_face.specs.Token.{Token}
use Rattle.channel_face.specs.Machine.{State, Call, BeginPut, BeginTake, Put, Take, StagePut, StageTake, Flush, RollbackPut, RollbackTake, Checkpoint, Prune, Reopen, Admits, after, entry_of, with_entry, without_entry, puts_of, takes_of, stage_take_refusal, is_some_of, free, settle_if, stage, close, add_put, add_take}
use Rattle.channel_face.specs.declared.replies.PutRefused.TheVariants as PutNo
use Rattle.channel_face.specs.declared.replies.TakeRefused.TheVariants as TakeNo
use Rattle.channel_face.specs.declared.replies.FlushRefused.TheVariants as FlushNo
use Rattle.channel_face.specs.declared.replies.CheckRefused.TheVariants as CheckNo
use Rattle.channel_face.specs.Sound.{Opened}
use Rattle.channel_face.proofs.Opened.{puts_of-some, puts_of-from, takes_of-some}

-- ---- open transactions

-- it stays where it is once another one is begun
entry-append : (n : ℕ) (a b : Opened) (e : Entry) → entry_of n a ≡ Some e → entry_of n (a ++ b) ≡ Some e
entry-append n [] b e is = absurd (cc)
entry-append n (o ∷ a) b e is = by_test (o.0 == n) refl (entry-append n a b e)
  where
    by_test : (t : Bool) → (o.0 == n) ≡ t → (entry_of n a ≡ Some e → entry_of n (a ++ b) ≡ Some e) → entry_of n (o ∷ a ++ b) ≡ Some e
    by_test true t_is more = rw t_is (rw t_is at is)
    by_test false t_is more = rw t_is (more (rw t_is at is))

-- another one has changed
entry-with : (n m : ℕ) (e : Entry) (a : Opened) → n ≢ m → entry_of n (with_entry m e a) ≡ entry_of n a
entry-with n m e [] other = refl
entry-with n m e (o ∷ a) other = by_test (eqb_tells o.0 m) (entry-with n m e a other)
  where
    by_number : (t : Bool) → (o.0 == n) ≡ t → entry_of n (with_entry m e a) ≡ entry_of n a → entry_of n (o ∷ with_entry m e a) ≡ entry_of n (o ∷ a)
    by_number true t_is more = rw t_is refl
    by_number false t_is more = rw t_is more

    not_this : o.0 ≡ m → (eqb : ((o.0 == n) ≡ true) × (o.0 ≡ n) ⊎ ((o.0 == n) ≡ false) × (o.0 ≢ n)) → entry_of n ((o.0, e) ∷ a) ≡ entry_of n (o ∷ a)
    not_this is (inl same) = absurd (other (sym same.1 ∙ is))
    not_this is (inr isnt) = rw isnt.0 refl

    by_test : ((o.0 == m) ≡ true) × (o.0 ≡ m) ⊎ ((o.0 == m) ≡ false) × (o.0 ≢ m) → entry_of n (with_entry m e a) ≡ entry_of n a → entry_of n (with_entry m e (o ∷ a)) ≡ entry_of n (o ∷ a)
    by_test (inl same) more = rw same.0 (not_this same.1 (eqb_tells o.0 n))
    by_test (inr isnt) more = rw isnt.0 (by_number (o.0 == n) refl more)

-- another one has ended
entry-without : (n m : ℕ) (a : Opened) → n ≢ m → entry_of n (without_entry m a) ≡ entry_of n a
entry-without n m [] other = refl
entry-without n m (o ∷ a) other = by_test (eqb_tells o.0 m) (entry-without n m a other)
  where
    by_number : (t : Bool) → (o.0 == n) ≡ t → entry_of n (without_entry m a) ≡ entry_of n a → entry_of n (o ∷ without_entry m a) ≡ entry_of n (o ∷ a)
    by_number true t_is more = rw t_is refl
    by_number false t_is more = rw t_is more

    not_this : o.0 ≡ m → (eqb : ((o.0 == n) ≡ true) × (o.0 ≡ n) ⊎ ((o.0 == n) ≡ false) × (o.0 ≢ n)) → entry_of n a ≡ entry_of n (o ∷ a)
    not_this is (inl same) = absurd (other (sym same.1 ∙ is))
    not_this is (inr isnt) = rw isnt.0 refl

    by_test : ((o.0 == m) ≡ true) × (o.0 ≡ m) ⊎ ((o.0 == m) ≡ false) × (o.0 ≢ m) → entry_of n (without_entry m a) ≡ entry_of n a → entry_of n (without_entry m (o ∷ a)) ≡ entry_of n (o ∷ a)
    by_test (inl same) more = rw same.0 (not_this same.1 (eqb_tells o.0 n))
    by_test (inr isnt) more = rw isnt.0 (by_number (o.0 == n) refl more)

-- ---- calls

-- the call is of no transaction of puts with this number, and does not reopen the channel
abbrev pub Spares : ℕ → Call → Type 0
Spares n (Put token event reply) = n ≢ token.number
Spares n (StagePut token reply) = n ≢ token.number
Spares n (RollbackPut token ended) = n ≢ token.number
Spares n (Reopen reply) = ⊥
Spares n call = Unit {0}

-- A state in which this transaction has these puts.
pub record HasPuts (token : Token) (events : List Content) (s : State) : Type 0 where
  pub life : token.life ≡ s.life
  pub entry : entry_of token.number s.opened ≡ Some (Puts events)

-- puts that a token shows are those of its transaction, in the same life
pub has_puts : (token : Token) (events : List Content) (s : State) → puts_of s token ≡ Some events → HasPuts token events s
has_puts token events s is = let its = puts_of-some s token events is in record { life = its.0; entry = its.1 }

-- the puts of a transaction in the same life are those its token shows
pub puts_are : (token : Token) (events : List Content) (s : State) → HasPuts token events s → puts_of s token ≡ Some events
puts_are token events s has = puts_of-from s token events has.life has.entry

no_take : (numbers : List ℕ) (events : List Content) → Some (Takes numbers) ≡ Some (Puts events) → ⊥
no_take numbers events is = cc

-- a transaction of takes is another one
takes_other : (s : State) (token taking : Token) (events : List Content) (numbers : List ℕ) → HasPuts token events s → takes_of s taking ≡ Some numbers → token.number ≢ taking.number
takes_other s token taking events numbers has is =
    λ same. no_take numbers events (sym (takes_of-some s taking numbers is).1 ∙ ap (λ (n : ℕ). entry_of n s.opened) (sym same) ∙ has.entry)

module _ (token : Token) (events : List Content) where
  settled_if : (b : Bool) (s : State) → HasPuts token events s → HasPuts token events (settle_if b s)
  settled_if true s has = record { life = has.life; entry = has.entry }
  settled_if false s has = has

  kept_put : (s : State) (number : ℕ) (puts : Option (List Content)) (event : Content) → token.number ≢ number → HasPuts token events s → HasPuts token events (add_put s number puts event)
  kept_put s number None event other has = has
  kept_put s number (Some es) event other has = record { life = has.life; entry = entry-with token.number number (Puts (es ++ event ∷ [])) s.opened other ∙ has.entry }

  kept_take : (s : State) (number : ℕ) (takes : Option (List ℕ)) (items : List (ℕ × Content)) → ((ns : List ℕ) → takes ≡ Some ns → token.number ≢ number) → HasPuts token events s → HasPuts token events (add_take s number takes items)
  kept_take s number None items other has = has
  kept_take s number (Some ns) [] other has = has
  kept_take s number (Some ns) (item ∷ items) other has = record { life = has.life; entry = entry-with token.number number (Takes (ns ++ item.0 ∷ [])) s.opened (other ns refl) ∙ has.entry }

  kept_without : (s t : State) (number : ℕ) → token.number ≢ number → t.life ≡ s.life → t.opened ≡ without_entry number s.opened → HasPuts token events s → HasPuts token events t
  kept_without s t number other life is has =
      record { life = has.life ∙ sym life; entry = ap (λ (o : Opened). entry_of token.number o) is ∙ entry-without token.number number s.opened other ∙ has.entry }

  kept_stage : (s : State) (number : ℕ) (entry : Option Entry) → token.number ≢ number → HasPuts token events s → HasPuts token events (stage number entry s)
  kept_stage s number None other has = has
  kept_stage s number (Some (Puts [])) other has = kept_without s (stage number (Some (Puts [])) s) number other refl refl has
  kept_stage s number (Some (Takes [])) other has = kept_without s (stage number (Some (Takes [])) s) number other refl refl has
  kept_stage s number (Some (Puts (e ∷ es))) other has = kept_without s (stage number (Some (Puts (e ∷ es))) s) number other refl refl has
  kept_stage s number (Some (Takes (n ∷ ns))) other has = kept_without s (stage number (Some (Takes (n ∷ ns))) s) number other refl refl has

  kept_begin : (s t : State) (entry : Entry) → t.life ≡ s.life → t.opened ≡ s.opened ++ (s.txn, entry) ∷ [] → HasPuts token events s → HasPuts token events t
  kept_begin s t entry life is has =
      record { life = has.life ∙ sym life; entry = ap (λ (o : Opened). entry_of token.number o) is ∙ entry-append token.number s.opened ((s.txn, entry) ∷ []) (Puts events) has.entry }

  -- what a stage of takes is of
  staged_takes : (s : State) (takes : Option (List ℕ)) → stage_take_refusal s takes ≡ None → (ns : List ℕ) × (takes ≡ Some ns)
  staged_takes s None is = absurd (cc)
  staged_takes s (Some ns) is = (ns, refl)

  ended_takes : (takes : Option (List ℕ)) → true ≡ is_some_of takes → (ns : List ℕ) × (takes ≡ Some ns)
  ended_takes None is = absurd (cc)
  ended_takes (Some ns) is = (ns, refl)

  kept_rollback : (s : State) (number : ℕ) (ended : Bool) → (ended ≡ true → token.number ≢ number) → HasPuts token events s → HasPuts token events (cond ended (close number s) s)
  kept_rollback s number true other has = kept_without s (close number s) number (other refl) refl refl has
  kept_rollback s number false other has = has

  -- A call that is not of this transaction leaves its puts.
  pub keeps : (tells : Bool) (s : State) (call : Call) → Admits tells s call → Spares token.number call → HasPuts token events s → HasPuts token events (after s call)
  keeps tells s (BeginPut (Ok t)) may spares has = kept_begin s (after s (BeginPut (Ok t))) (Puts []) refl refl has
  keeps tells s (BeginPut (Err e)) may spares has = has
  keeps tells s (BeginTake (Ok t)) may spares has = kept_begin s (after s (BeginTake (Ok t))) (Takes []) refl refl has
  keeps tells s (BeginTake (Err e)) may spares has = has
  keeps tells s (Put t event (Ok done)) may spares has = kept_put (settle_if done.spilled s) t.number (puts_of s t) event spares (settled_if done.spilled s has)
  keeps tells s (Put t event (Err PutNo.DiskFault)) may spares has = record { life = has.life; entry = has.entry }
  keeps tells s (Put t event (Err e)) may spares has = has
  keeps tells s (Take t (Ok taken)) may spares has =
      kept_take (settle_if taken.spilled s) t.number (takes_of s t) (free s) (λ ns is. takes_other s token t events ns has is) (settled_if taken.spilled s has)
  keeps tells s (Take t (Err TakeNo.DiskFault)) may spares has = record { life = has.life; entry = has.entry }
  keeps tells s (Take t (Err e)) may spares has = has
  keeps tells s (StagePut t (Ok given)) may spares has = kept_stage s t.number (entry_of t.number s.opened) spares has
  keeps tells s (StagePut t (Err cause)) may spares has = has
  keeps tells s (StageTake t (Ok given)) may spares has =
      let its = staged_takes s (takes_of s t) may.0 in
      kept_stage s t.number (entry_of t.number s.opened) (takes_other s token t events its.0 has its.1) has
  keeps tells s (StageTake t (Err cause)) may spares has = has
  keeps tells s (Flush (Ok done)) may spares has = record { life = has.life; entry = has.entry }
  keeps tells s (Flush (Err FlushNo.DiskFault)) may spares has = record { life = has.life; entry = has.entry }
  keeps tells s (Flush (Err FlushNo.Broken)) may spares has = has
  keeps tells s (Flush (Err (FlushNo.Spent counter))) may spares has = has
  keeps tells s (RollbackPut t ended) may spares has = kept_rollback s t.number ended (λ is. spares) has
  keeps tells s (RollbackTake t ended) may spares has =
      kept_rollback s t.number ended (λ is. let its = ended_takes (takes_of s t) (sym is ∙ may) in takes_other s token t events its.0 has its.1) has
  keeps tells s (Checkpoint (Ok done)) may spares has = record { life = has.life; entry = has.entry }
  keeps tells s (Checkpoint (Err CheckNo.CheckFault)) may spares has = record { life = has.life; entry = has.entry }
  keeps tells s (Checkpoint (Err CheckNo.DiskFault)) may spares has = record { life = has.life; entry = has.entry }
  keeps tells s (Checkpoint (Err CheckNo.Broken)) may spares has = has
  keeps tells s (Checkpoint (Err (CheckNo.Spent counter))) may spares has = has
  keeps tells s (Prune reply) may spares has = has
  keeps tells s (Reopen reply) may spares has = absurd spares
