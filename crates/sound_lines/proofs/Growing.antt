-- What each call but a reopening leaves as it is, or greater.
use Rattle.std.proofs.Common.{◌≡◌, ◌≤◌, ◌+◌, ◌++◌, ◌∷◌, [], ℕ, List, Option, Some, None, Ok, Err, Bool, true, false, cond, refl, ◌∙◌, arith}
use Rattle.event_core.specs.Content.{Content}
use Rattle.event_core.specs.declared.journal.Entry.{Entry}
use Rattle.event_core.specs.declared.journal.Entry.TheVariants.{Puts, Takes}
use Rattle.channel_face.specs.Machine.{State, Call, BeginPut, BeginTake, Put, Take, StagePut, StageTake, Flush, RollbackPut, RollbackTake, Checkpoint, Prune, Reopen, after, broken_state, entry_of, puts_of, takes_of, free, settle, settle_if, is_none_staged, stage, close, add_put, add_take}
use Rattle.channel_face.specs.declared.replies.PutRefused.TheVariants as PutNo
use Rattle.channel_face.specs.declared.replies.TakeRefused.TheVariants as TakeNo
use Rattle.channel_face.specs.declared.replies.FlushRefused.TheVariants as FlushNo
use Rattle.channel_face.specs.declared.replies.CheckRefused.TheVariants as CheckNo
use Rattle.channel_face.specs.Sound.{AreNumbered}
use Rattle.channel_face.proofs.Opened.{numbered-push, numbered-with, numbered-without}

-- From one state to another of the same life: no number falls, and open transactions have earlier ones.
pub record Grows (s t : State) : Type 0 where
  pub rules : t.rules ≡ s.rules
  pub life : t.life ≡ s.life
  pub txn : s.txn ≤ t.txn
  pub frame : s.frame ≤ t.frame
  pub numbered : AreNumbered s.txn s.opened → AreNumbered t.txn t.opened

-- the call reopens nothing
abbrev pub IsNoReopen : Call → Type 0
IsNoReopen (Reopen reply) = ⊥
IsNoReopen call = Unit {0}

-- only what is open has changed
opened_only : (s t : State) → t.rules ≡ s.rules → t.life ≡ s.life → t.txn ≡ s.txn → t.frame ≡ s.frame → (AreNumbered s.txn s.opened → AreNumbered s.txn t.opened) → Grows s t
opened_only s t rules life txn frame numbered = record {
  rules = rules;
  life = life;
  txn = omega (arith, txn);
  frame = omega (arith, frame);
  numbered = λ all. rw txn (numbered all);
}

-- where nothing was called, nothing fell
pub grows_none : (s : State) → Grows s s
grows_none s = record { rules = refl; life = refl; txn = omega arith; frame = omega arith; numbered = λ all. all }

-- what grew, and then grew again, grew
pub grows_then : (s t u : State) → Grows s t → Grows t u → Grows s u
grows_then s t u f g = record {
  rules = g.rules ∙ f.rules;
  life = g.life ∙ f.life;
  txn = omega (arith, f.txn, g.txn);
  frame = omega (arith, f.frame, g.frame);
  numbered = λ all. g.numbered (f.numbered all);
}

frame_settled : (b : Bool) (n : ℕ) → n ≤ cond b n (n + 1)
frame_settled true n = omega arith
frame_settled false n = omega arith

settles : (s : State) → Grows s (settle s)
settles s = record { rules = refl; life = refl; txn = omega arith; frame = frame_settled (is_none_staged s.staged) s.frame; numbered = λ all. all }

settles_if : (b : Bool) (s : State) → Grows s (settle_if b s)
settles_if true s = settles s
settles_if false s = grows_none s

breaks : (s : State) → Grows s (broken_state s)
breaks s = record { rules = refl; life = refl; txn = omega arith; frame = omega arith; numbered = λ all. all }

begins : (s : State) (entry : Entry) → Grows s (record s { opened = s.opened ++ (s.txn, entry) ∷ []; txn = s.txn + 1 })
begins s entry = record { rules = refl; life = refl; txn = omega arith; frame = omega arith; numbered = λ all. numbered-push s.txn entry s.opened all }

puts_one : (s : State) (number : ℕ) (puts : Option (List Content)) (event : Content) → Grows s (add_put s number puts event)
puts_one s number None event = grows_none s
puts_one s number (Some events) event = opened_only s (add_put s number (Some events) event) refl refl refl refl (λ all. numbered-with s.txn number (Puts (events ++ event ∷ [])) s.opened all)

takes_one : (s : State) (number : ℕ) (takes : Option (List ℕ)) (items : List (ℕ × Content)) → Grows s (add_take s number takes items)
takes_one s number None items = grows_none s
takes_one s number (Some numbers) [] = grows_none s
takes_one s number (Some numbers) (item ∷ items) = opened_only s (add_take s number (Some numbers) (item ∷ items)) refl refl refl refl (λ all. numbered-with s.txn number (Takes (numbers ++ item.0 ∷ [])) s.opened all)

closes : (s : State) (number : ℕ) → Grows s (close number s)
closes s number = opened_only s (close number s) refl refl refl refl (λ all. numbered-without s.txn number s.opened all)

closes_if : (s : State) (number : ℕ) (ended : Bool) → Grows s (cond ended (close number s) s)
closes_if s number true = closes s number
closes_if s number false = grows_none s

stages : (s : State) (number : ℕ) (entry : Option Entry) → Grows s (stage number entry s)
stages s number None = grows_none s
stages s number (Some (Puts [])) = closes s number
stages s number (Some (Takes [])) = closes s number
stages s number (Some (Puts (e ∷ es))) = opened_only s (stage number (Some (Puts (e ∷ es))) s) refl refl refl refl (λ all. numbered-without s.txn number s.opened all)
stages s number (Some (Takes (n ∷ ns))) = opened_only s (stage number (Some (Takes (n ∷ ns))) s) refl refl refl refl (λ all. numbered-without s.txn number s.opened all)

-- each call but a reopening only lets numbers grow
pub grows : (s : State) (call : Call) → IsNoReopen call → Grows s (after s call)
grows s (BeginPut (Ok token)) still = begins s (Puts [])
grows s (BeginPut (Err e)) still = grows_none s
grows s (BeginTake (Ok token)) still = begins s (Takes [])
grows s (BeginTake (Err e)) still = grows_none s
grows s (Put token event (Ok done)) still =
    let t = settle_if done.spilled s in
    grows_then s t (add_put t token.number (puts_of s token) event) (settles_if done.spilled s) (puts_one t token.number (puts_of s token) event)
grows s (Put token event (Err PutNo.DiskFault)) still = breaks s
grows s (Put token event (Err e)) still = grows_none s
grows s (Take token (Ok taken)) still =
    let t = settle_if taken.spilled s in
    grows_then s t (add_take t token.number (takes_of s token) (free s)) (settles_if taken.spilled s) (takes_one t token.number (takes_of s token) (free s))
grows s (Take token (Err TakeNo.DiskFault)) still = breaks s
grows s (Take token (Err e)) still = grows_none s
grows s (StagePut token (Ok given)) still = stages s token.number (entry_of token.number s.opened)
grows s (StagePut token (Err cause)) still = grows_none s
grows s (StageTake token (Ok given)) still = stages s token.number (entry_of token.number s.opened)
grows s (StageTake token (Err cause)) still = grows_none s
grows s (Flush (Ok done)) still = settles s
grows s (Flush (Err FlushNo.Broken)) still = grows_none s
grows s (Flush (Err FlushNo.DiskFault)) still = breaks s
grows s (Flush (Err (FlushNo.Spent counter))) still = grows_none s
grows s (RollbackPut token ended) still = closes_if s token.number ended
grows s (RollbackTake token ended) still = closes_if s token.number ended
grows s (Checkpoint (Ok done)) still = settles s
grows s (Checkpoint (Err CheckNo.CheckFault)) still = settles s
grows s (Checkpoint (Err CheckNo.DiskFault)) still = breaks s
grows s (Checkpoint (Err CheckNo.Broken)) still = grows_none s
grows s (Checkpoint (Err (CheckNo.Spent counter))) still = grows_none s
grows s (Prune reply) still = grows_none s
grows s (Reopen reply) still = absurd still
