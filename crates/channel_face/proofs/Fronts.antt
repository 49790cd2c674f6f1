-- What holds of a whole transaction by what a face saw holds by what it saw later.
use Rattle.std.proofs.Common.{◌≡◌, ◌≤◌, ◌⊎◌, inl, inr, ℕ, List, [], ◌∷◌, ◌++◌, Option, None, Result, Ok, Err, Bool, true, false, arith}
use Rattle.event_core.specs.Content.{Content}
use Rattle.channel_face.specs.Token.{Token}
use Rattle.channel_face.specs.Machine.{State, Call, RollbackPut, RollbackTake, puts_of, takes_of, settled}
use Rattle.channel_face.specs.Faces.{Own, Ends, EndsAs, EndsBegin, EndsPuts, EndsStage, EndsTakeStage, ArePutUpTo, IsFound, IsMade, IsPutBatch, IsPutStage, IsRolledBack, IsTake, IsTakeBegun, IsTakeCommit}
use Rattle.channel_face.specs.declared.replies.Settled.{Settled}
use Rattle.channel_face.specs.declared.replies.Settled.TheVariants.{Yes, No, InDoubt}
use Rattle.channel_face.specs.declared.replies.Ticket.{Ticket}
use Rattle.channel_face.specs.declared.replies.StageCause.{StageCause}
use Rattle.channel_face.specs.declared.replies.PutRefused.{PutRefused}
use Rattle.channel_face.specs.declared.replies.BeginRefused.{BeginRefused}
use Rattle.channel_face.specs.declared.replies.FaceRefused.{FaceRefused}

-- From what a face saw to what was seen later: each state is still one in which it left the channel, and no fewer calls are seen.
module _ (saw saw' : List Own → State → Type 0) (seen seen' : ℕ) (on : (own : List Own) (s : State) → saw own s → saw' own s) (more : seen ≤ seen') where
  found_on : (earlier own : List Own) (s : State) → IsFound saw earlier own s → IsFound saw' earlier own s
  found_on earlier [] s is = on earlier s is
  found_on earlier (o ∷ own) s is = is

  made_on : (spent : Bool) (call : Call) (s : State) (own : List Own) → IsMade seen spent call s own → IsMade seen' spent call s own
  made_on true call s own m = (m.0, let few = m.1 in omega (arith, few, more))
  made_on false call s own m = m

  -- a rollback
  pub rolled_on : (rollback : Bool → Call) (stale : State → Type 0) (earlier own : List Own) → IsRolledBack saw rollback stale earlier own → IsRolledBack saw' rollback stale earlier own
  rolled_on rollback stale earlier own r = elim r [
    | inl made ↦ inl made
    | inr left ↦ inr (left.0, found_on earlier own left.0 left.1, left.2, left.3)
  ]

  ends_as_on : (s : State) (a : Settled) (own : List Own) (sure : Bool) → EndsAs seen s a own sure → EndsAs seen' s a own sure
  ends_as_on s Yes own sure e = e
  ends_as_on s No own sure e = (e.0, made_on _ _ s own e.1, e.2)
  ends_as_on s InDoubt own sure e = e

  ends_on : (ticket : Ticket) (earlier own : List Own) (sure : Bool) → Ends saw seen ticket earlier own sure → Ends saw' seen' ticket earlier own sure
  ends_on ticket earlier own sure e = (e.0, found_on earlier own e.0 e.1, ends_as_on e.0 (settled e.0 ticket) own sure e.2)

  stage_ends_on : (token : Token) (reply : Result Ticket StageCause) (earlier own : List Own) (result : Result ℕ FaceRefused) → EndsStage saw seen token reply earlier own result → EndsStage saw' seen' token reply earlier own result
  stage_ends_on token (Err cause) earlier own result e = (rolled_on (λ b. RollbackPut token b) (λ s. puts_of s token ≡ None) earlier own e.0, e.1)
  stage_ends_on token (Ok ticket) earlier own result e = (e.0, ends_on ticket earlier own e.0 e.1, e.2)

  stage_on : (token : Token) (result : Result ℕ FaceRefused) (earlier own : List Own) → IsPutStage saw seen token result earlier own → IsPutStage saw' seen' token result earlier own
  stage_on token result earlier own x = (x.0, x.1, x.2, x.3, x.4, made_on _ _ x.1 x.2 x.5, stage_ends_on token x.0 (earlier ++ x.2) x.3 result x.6)

  puts_on : (token : Token) (events : List Content) (reply : Result (Unit {0}) PutRefused) (own : List Own) → ArePutUpTo seen token events reply own → ArePutUpTo seen' token events reply own
  puts_on token events (Ok done) own p = p
  puts_on token events (Err refused) own p = (p.0, p.1, p.2, p.3, p.4, p.5, p.6, p.7, p.8, made_on _ _ p.3 p.5 p.9)

  puts_end_on : (token : Token) (reply : Result (Unit {0}) PutRefused) (earlier own : List Own) (result : Result ℕ FaceRefused) → EndsPuts saw seen token reply earlier own result → EndsPuts saw' seen' token reply earlier own result
  puts_end_on token (Ok done) earlier own result e = stage_on token result earlier own e
  puts_end_on token (Err refused) earlier own result e = (rolled_on (λ b. RollbackPut token b) (λ s. puts_of s token ≡ None) earlier own e.0, e.1)

  begin_ends_on : (events : List Content) (reply : Result Token BeginRefused) (earlier own : List Own) (result : Result ℕ FaceRefused) → EndsBegin saw seen events reply earlier own result → EndsBegin saw' seen' events reply earlier own result
  begin_ends_on events (Err refused) earlier own result e = e
  begin_ends_on events (Ok token) earlier own result e = (e.0, e.1, e.2, e.3, puts_on token events e.0 e.1 e.4, puts_end_on token e.0 (earlier ++ e.1) e.2 result e.5)

  -- a whole transaction of puts
  pub batch_on : (events : List Content) (result : Result ℕ FaceRefused) (earlier own : List Own) → IsPutBatch saw seen events result earlier own → IsPutBatch saw' seen' events result earlier own
  batch_on events result earlier own x = (x.0, x.1, x.2, x.3, x.4, made_on _ _ x.1 x.2 x.5, begin_ends_on events x.0 (earlier ++ x.2) x.3 result x.6)

  take_stage_on : (token : Token) (reply : Result Ticket StageCause) (earlier own : List Own) (result : Result (Unit {0}) FaceRefused) → EndsTakeStage saw seen token reply earlier own result → EndsTakeStage saw' seen' token reply earlier own result
  take_stage_on token (Err cause) earlier own result e = (rolled_on (λ b. RollbackTake token b) (λ s. takes_of s token ≡ None) earlier own e.0, e.1)
  take_stage_on token (Ok ticket) earlier own result e = (e.0, ends_on ticket earlier own e.0 e.1, e.2)

  -- a commit of takes
  pub commit_on : (token : Token) (result : Result (Unit {0}) FaceRefused) (earlier own : List Own) → IsTakeCommit saw seen token result earlier own → IsTakeCommit saw' seen' token result earlier own
  commit_on token result earlier own x = (x.0, x.1, x.2, x.3, x.4, made_on _ _ x.1 x.2 x.5, take_stage_on token x.0 (earlier ++ x.2) x.3 result x.6)

  -- a begin of takes
  pub begun_on : (result : Result Token FaceRefused) (own : List Own) → IsTakeBegun seen result own → IsTakeBegun seen' result own
  begun_on result own x = (x.0, x.1, made_on _ _ x.1 own x.2, x.3)

  -- a take
  pub take_on : (token : Token) (result : Result (Option Content) FaceRefused) (own : List Own) → IsTake seen token result own → IsTake seen' token result own
  take_on token result own x = (x.0, x.1, made_on _ _ x.1 own x.2, x.3)
