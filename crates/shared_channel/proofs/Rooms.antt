-- How many transactions are open, and what a call leaves of the room for their rollbacks.
use Rattle.std.proofs.Common.{◌≡◌, ◌≤◌, ◌<◌, ◌+◌, ◌-◌, ◌^◌, ℕ, suc, List, [], ◌∷◌, ◌++◌, length, length-append, Option, None, Some, Result, Ok, Err, Bool, true, false, cond, refl, ap, arith}
use Rattle.std.specs.Prelude.{◌==◌, nat_le}
use Rattle.event_core.specs.Content.{Content}
use Rattle.event_core.specs.declared.journal.Entry.{Entry}
use Rattle.event_core.specs.declared.journal.Entry.TheVariants.{Puts, Takes}
use Rattle.channel_face.specs.Token.{Token}
use Rattle.channel_face.specs.Machine.{State, Call, BeginPut, BeginTake, Put, Take, StagePut, StageTake, Flush, RollbackPut, RollbackTake, Checkpoint, Reopen, Admits, AdmitsBegin, after, after_begin, add_put, add_take, after_put, after_take, settle_if, stage, close, begin_refusal, entry_of, with_entry, without_entry, as_puts, as_takes, puts_of, takes_of, is_some_of, free}
use Rattle.channel_face.specs.declared.replies.Put.{Put as PutDone}
use Rattle.channel_face.specs.declared.replies.Taken.{Taken}
use Rattle.channel_face.specs.declared.replies.Counter.TheVariants.{Txn}
use Rattle.channel_face.specs.declared.replies.BeginRefused.{BeginRefused}
use Rattle.channel_face.specs.declared.replies.BeginRefused.TheVariants as Begin
use Rattle.channel_face.specs.declared.replies.PutRefused.{PutRefused}
use Rattle.channel_face.specs.declared.replies.PutRefused.TheVariants as PutNo
use Rattle.channel_face.specs.declared.replies.TakeRefused.{TakeRefused}
use Rattle.channel_face.specs.declared.replies.TakeRefused.TheVariants as TakeNo
use Rattle.channel_face.specs.declared.replies.FlushRefused.TheVariants as FlushNo
use Rattle.channel_face.specs.declared.replies.CheckRefused.TheVariants as CheckNo

with_length : (number : ℕ) (entry : Entry) (opened : List (ℕ × Entry)) → length (with_entry number entry opened) ≡ length opened
with_length number entry [] = refl
with_length number entry (o ∷ opened) = by_test (with_length number entry opened) (o.0 == number)
  where
    by_test : length (with_entry number entry opened) ≡ length opened → (t : Bool) → length (cond t ((o.0, entry) ∷ opened) (o ∷ with_entry number entry opened)) ≡ length (o ∷ opened)
    by_test more true = refl
    by_test more false = ap suc more

without_length : (number : ℕ) (opened : List (ℕ × Entry)) → length (without_entry number opened) ≤ length opened
without_length number [] = omega arith
without_length number (o ∷ opened) = by_test (without_length number opened) (o.0 == number)
  where
    by_test : length (without_entry number opened) ≤ length opened → (t : Bool) → length (cond t opened (o ∷ without_entry number opened)) ≤ length (o ∷ opened)
    by_test more true = omega arith
    by_test more false = omega arith

-- one that is there goes
without_one : (number : ℕ) (opened : List (ℕ × Entry)) → is_some_of (entry_of number opened) ≡ true → length (without_entry number opened) + 1 ≡ length opened
without_one number [] is = absurd (cc)
without_one number (o ∷ opened) is = by_test (without_one number opened) (o.0 == number) is
  where
    by_test : (is_some_of (entry_of number opened) ≡ true → length (without_entry number opened) + 1 ≡ length opened) → (t : Bool) → is_some_of (cond t (Some o.1) (entry_of number opened)) ≡ true → length (cond t opened (o ∷ without_entry number opened)) + 1 ≡ length (o ∷ opened)
    by_test more true h = omega arith
    by_test more false h = omega (arith, more h)

few_begun : (s : State) → begin_refusal s ≡ None → length s.opened < 1024
few_begun s is = by_tests s.broken (nat_le 1024 (length s.opened)) refl (nat_le (2 ^ 64 - 1) s.txn) is
  where
    by_tests : (a b : Bool) → nat_le 1024 (length s.opened) ≡ b → (c : Bool) → cond a (Some Begin.Broken) (cond b (Some (Begin.TooManyOpen 1024)) (cond c (Some (Begin.Spent Txn)) None)) ≡ None → length s.opened < 1024
    by_tests true b e c h = absurd (cc)
    by_tests false true e c h = absurd (cc)
    by_tests false false e true h = absurd (cc)
    by_tests false false e false h = grind arith

begin_few : (entry : Entry) (s : State) (reply : Result Token BeginRefused) → AdmitsBegin s reply → length s.opened ≤ 1024 → length (after_begin entry s reply).opened ≤ 1024
begin_few entry s (Ok token) may few = let lt = few_begun s may.0 in omega (arith, length-append s.opened ((s.txn, entry) ∷ []))
begin_few entry s (Err e) may few = few

put_few : (s : State) (number : ℕ) (puts : Option (List Content)) (event : Content) → length s.opened ≤ 1024 → length (add_put s number puts event).opened ≤ 1024
put_few s number None event few = few
put_few s number (Some events) event few = omega (arith, with_length number (Puts (events ++ event ∷ [])) s.opened)

take_few : (s : State) (number : ℕ) (takes : Option (List ℕ)) (items : List (ℕ × Content)) → length s.opened ≤ 1024 → length (add_take s number takes items).opened ≤ 1024
take_few s number None items few = few
take_few s number (Some numbers) [] few = few
take_few s number (Some numbers) (item ∷ items) few = omega (arith, with_length number (Takes (numbers ++ item.0 ∷ [])) s.opened)

spilled_few : (b : Bool) (s : State) → length s.opened ≤ 1024 → length (settle_if b s).opened ≤ 1024
spilled_few true s few = few
spilled_few false s few = few

after_put_few : (s : State) (token : Token) (puts : Option (List Content)) (event : Content) (reply : Result PutDone PutRefused) → length s.opened ≤ 1024 → length (after_put s token puts event reply).opened ≤ 1024
after_put_few s token puts event (Ok done) few = put_few (settle_if done.spilled s) token.number puts event (spilled_few done.spilled s few)
after_put_few s token puts event (Err PutNo.DiskFault) few = few
after_put_few s token puts event (Err refused) few = few

after_take_few : (s : State) (token : Token) (takes : Option (List ℕ)) (items : List (ℕ × Content)) (reply : Result Taken TakeRefused) → length s.opened ≤ 1024 → length (after_take s token takes items reply).opened ≤ 1024
after_take_few s token takes items (Ok taken) few = take_few (settle_if taken.spilled s) token.number takes items (spilled_few taken.spilled s few)
after_take_few s token takes items (Err TakeNo.DiskFault) few = few
after_take_few s token takes items (Err refused) few = few

close_few : (number : ℕ) (s : State) → length s.opened ≤ 1024 → length (close number s).opened ≤ 1024
close_few number s few = omega (arith, without_length number s.opened)

stage_few : (number : ℕ) (entry : Option Entry) (s : State) → length s.opened ≤ 1024 → length (stage number entry s).opened ≤ 1024
stage_few number None s few = few
stage_few number (Some (Puts [])) s few = close_few number s few
stage_few number (Some (Takes [])) s few = close_few number s few
stage_few number (Some (Puts (e ∷ es))) s few = omega (arith, without_length number s.opened)
stage_few number (Some (Takes (n ∷ ns))) s few = omega (arith, without_length number s.opened)

-- no call opens more transactions than there may be
pub few_after : (tells : Bool) (s : State) (call : Call) → Admits tells s call → length s.opened ≤ 1024 → length (after s call).opened ≤ 1024
few_after tells s (BeginPut reply) may few = begin_few (Puts []) s reply may few
few_after tells s (BeginTake reply) may few = begin_few (Takes []) s reply may few
few_after tells s (Put token event reply) may few = after_put_few s token (puts_of s token) event reply few
few_after tells s (Take token reply) may few = after_take_few s token (takes_of s token) (free s) reply few
few_after tells s (StagePut token (Ok given)) may few = stage_few token.number (entry_of token.number s.opened) s few
few_after tells s (StageTake token (Ok given)) may few = stage_few token.number (entry_of token.number s.opened) s few
few_after tells s (RollbackPut token true) may few = close_few token.number s few
few_after tells s (RollbackTake token true) may few = close_few token.number s few
few_after tells s (Flush (Err FlushNo.DiskFault)) may few = few
few_after tells s (Checkpoint (Err CheckNo.DiskFault)) may few = few
few_after tells s (Reopen (Ok r)) may few = omega arith
few_after tells s call may few = few

-- a rollback of a token that is not stale ends one, of puts or of takes
ends : {A : Type 0} (read : Option Entry → Option A) → is_some_of (read None) ≡ false → (s : State) (token : Token) (t : Bool) → true ≡ is_some_of (cond t (read (entry_of token.number s.opened)) None) → length (close token.number s).opened + 1 ≡ length s.opened
ends read none s token false is = absurd (cc)
ends read none s token true is = without_one token.number s.opened (there (entry_of token.number s.opened) is)
  where
    there : (o : Option Entry) → true ≡ is_some_of (read o) → is_some_of o ≡ true
    there None e = absurd (cc)
    there (Some entry) e = refl

-- a rollback of puts whose token is not stale ends one transaction
pub put_ends : (s : State) (token : Token) → true ≡ is_some_of (puts_of s token) → length (close token.number s).opened + 1 ≡ length s.opened
put_ends s token is = ends as_puts refl s token (token.life == s.life) is

-- a rollback of takes whose token is not stale ends one transaction
pub take_ends : (s : State) (token : Token) → true ≡ is_some_of (takes_of s token) → length (close token.number s).opened + 1 ≡ length s.opened
take_ends s token is = ends as_takes refl s token (token.life == s.life) is
