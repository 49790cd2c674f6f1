-- What a face did, told of other own calls before it and of more that was seen.
use Rattle.std.proofs.Common.{◌≡◌, ◌≤◌, inl, inr, ℕ, List, [], ◌∷◌, ◌++◌, Option, Some, None, Result, Ok, Err, Bool, true, false, sym, subst, append_assoc, arith}
use Rattle.std.proofs.lemmas.List.{append-nil}
use Rattle.event_core.specs.Content.{Content}
use Rattle.channel_face.specs.Token.{Token}
use Rattle.channel_face.specs.History.{reopen_reply}
use Rattle.channel_face.specs.Keeps.{IsLook, IsMend, IsReopened, is_spent_open}
use Rattle.channel_face.specs.declared.replies.OpenCause.{OpenCause}
use Rattle.channel_face.specs.Machine.{State, Call, Reopen, BeginPut, BeginTake, Put, Take, StagePut, StageTake, Flush, RollbackPut, RollbackTake, puts_of, takes_of, settled}
use Rattle.channel_face.specs.Faces.{Own, IsMade, IsFound, IsRolledBack, Ends, EndsAs, EndsStage, IsPutStage, EndsPuts, EndsBegin, IsPutBatch, ArePutUpTo, IsTake, EndsTakeStage, IsTakeCommit, is_spent_begin, is_spent_put, is_spent_take, is_spent_stage, is_spent_flush}
use Rattle.channel_face.specs.declared.replies.Settled.{Settled}
use Rattle.channel_face.specs.declared.replies.Settled.TheVariants.{Yes, No, InDoubt}
use Rattle.channel_face.specs.declared.replies.Ticket.{Ticket}
use Rattle.channel_face.specs.declared.replies.BeginRefused.{BeginRefused}
use Rattle.channel_face.specs.declared.replies.PutRefused.{PutRefused}
use Rattle.channel_face.specs.declared.replies.StageCause.{StageCause}
use Rattle.channel_face.specs.declared.replies.FaceRefused.{FaceRefused}
use Rattle.plug_in.specs.declared.sink.SinkRefused.{SinkRefused}
use Rattle.sink_runner.specs.Turns.{AreTaken, EndsTaking, AreTakenUpTo, EndsDelivery, IsHandedOver, EndsTurn, IsTurn}
use Rattle.sink_runner.specs.Turns as Turns
use Rattle.sink_runner.specs.declared.turn.Turn.{Turn}

module _ (saw saw' : List Own → State → Type 0) (seen seen' : ℕ) (more : seen ≤ seen') where
  -- whatever was seen after the ones is seen after the others
  abbrev pub Goes : List Own → List Own → Type 0
  Goes e e' = (x : List Own) (s : State) → saw (e ++ x) s → saw' (e' ++ x) s

  goes_on : (e e' y : List Own) → Goes e e' → Goes (e ++ y) (e' ++ y)
  goes_on e e' y go x s p = subst (λ (l : List Own). saw' l s) (sym (append_assoc e' y x)) (go (y ++ x) s (subst (λ (l : List Own). saw l s) (append_assoc e y x) p))

  goes_here : (e e' : List Own) (s : State) → Goes e e' → saw e s → saw' e' s
  goes_here e e' s go p = subst (λ (l : List Own). saw' l s) (append-nil e') (go [] s (subst (λ (l : List Own). saw l s) (sym (append-nil e)) p))

  made : (spent : Bool) (call : Call) (s : State) (own : List Own) → IsMade seen spent call s own → IsMade seen' spent call s own
  made false call s own m = m
  made true call s own m = (m.0, let b = m.1 in omega (arith, more))

  found : (e e' own : List Own) (s : State) → Goes e e' → IsFound saw e own s → IsFound saw' e' own s
  found e e' [] s go p = goes_here e e' s go p
  found e e' (o ∷ own) s go p = p

  rolled : (rollback : Bool → Call) (IsStale : State → Type 0) (e e' own : List Own) → Goes e e' → IsRolledBack saw rollback IsStale e own → IsRolledBack saw' rollback IsStale e' own
  rolled rollback IsStale e e' own go (inl r) = inl r
  rolled rollback IsStale e e' own go (inr (s, f, stale, r)) = inr (s, found e e' own s go f, stale, r)

  ends_as : (s : State) (a : Settled) (own : List Own) (sure : Bool) → EndsAs seen s a own sure → EndsAs seen' s a own sure
  ends_as s Yes own sure h = h
  ends_as s No own sure h = (h.0, made (is_spent_flush h.0) (Flush h.0) s own h.1, h.2)
  ends_as s InDoubt own sure h = h

  ends : (t : Ticket) (e e' own : List Own) (sure : Bool) → Goes e e' → Ends saw seen t e own sure → Ends saw' seen' t e' own sure
  ends t e e' own sure go h = (h.0, found e e' own h.0 go h.1, ends_as h.0 (settled h.0 t) own sure h.2)

  stage : (token : Token) (reply : Result Ticket StageCause) (e e' own : List Own) (result : Result ℕ FaceRefused) → Goes e e' → EndsStage saw seen token reply e own result → EndsStage saw' seen' token reply e' own result
  stage token (Err cause) e e' own result go h = (rolled (RollbackPut token) (λ s. puts_of s token ≡ None) e e' own go h.0, h.1)
  stage token (Ok ticket) e e' own result go h = (h.0, ends ticket e e' own h.0 go h.1, h.2)

  put_stage : (token : Token) (result : Result ℕ FaceRefused) (e e' own : List Own) → Goes e e' → IsPutStage saw seen token result e own → IsPutStage saw' seen' token result e' own
  put_stage token result e e' own go (reply, s, staged, ending, split, m, last) =
      (reply, s, staged, ending, split, made (is_spent_stage reply) (StagePut token reply) s staged m, stage token reply (e ++ staged) (e' ++ staged) ending result (goes_on e e' staged go) last)

  puts : (token : Token) (reply : Result (Unit {0}) PutRefused) (e e' own : List Own) (result : Result ℕ FaceRefused) → Goes e e' → EndsPuts saw seen token reply e own result → EndsPuts saw' seen' token reply e' own result
  puts token (Ok done) e e' own result go h = put_stage token result e e' own go h
  puts token (Err why) e e' own result go h = (rolled (RollbackPut token) (λ s. puts_of s token ≡ None) e e' own go h.0, h.1)

  put_up_to : (token : Token) (events : List Content) (reply : Result (Unit {0}) PutRefused) (own : List Own) → ArePutUpTo seen token events reply own → ArePutUpTo seen' token events reply own
  put_up_to token events (Ok done) own all = all
  put_up_to token events (Err why) own (front, back, event, s, before, put, split, parts, all, m) =
      (front, back, event, s, before, put, split, parts, all, made (is_spent_put (Err why)) (Put token event (Err why)) s put m)

  begin : (events : List Content) (reply : Result Token BeginRefused) (e e' own : List Own) (result : Result ℕ FaceRefused) → Goes e e' → EndsBegin saw seen events reply e own result → EndsBegin saw' seen' events reply e' own result
  begin events (Err why) e e' own result go h = h
  begin events (Ok token) e e' own result go (reply, before, ending, split, all, last) =
      (reply, before, ending, split, put_up_to token events reply before all, puts token reply (e ++ before) (e' ++ before) ending result (goes_on e e' before go) last)

  -- a batch
  pub batch : (events : List Content) (result : Result ℕ FaceRefused) (e e' own : List Own) → Goes e e' → IsPutBatch saw seen events result e own → IsPutBatch saw' seen' events result e' own
  batch events result e e' own go (reply, s, begun, ending, split, m, last) =
      (reply, s, begun, ending, split, made (is_spent_begin reply) (BeginPut reply) s begun m, begin events reply (e ++ begun) (e' ++ begun) ending result (goes_on e e' begun go) last)

  taken : (token : Token) (result : Result (Option Content) FaceRefused) (own : List Own) → IsTake seen token result own → IsTake seen' token result own
  taken token result own (reply, s, m, is) = (reply, s, made (is_spent_take reply) (Take token reply) s own m, is)

  all_taken : (token : Token) (events : List Content) (own : List Own) → AreTaken seen token events own → AreTaken seen' token events own
  all_taken token [] own h = h
  all_taken token (event ∷ events) own (first, rest, split, one, others) = (first, rest, split, taken token (Ok (Some event)) first one, all_taken token events rest others)

  ends_taking : (token : Token) (most : ℕ) (events : List Content) (stop : Result (Unit {0}) Turn) (own : List Own) → EndsTaking seen token most events stop own → EndsTaking seen' token most events stop own
  ends_taking token most events (Ok done) own (inl h) = inl h
  ends_taking token most events (Ok done) own (inr (room, none)) = inr (room, taken token (Ok None) own none)
  ends_taking token most events (Err turn) own (inl (room, (why, take, is))) = inl (room, (why, taken token (Err why) own take, is))
  ends_taking token most events (Err turn) own (inr h) = inr h

  taken_up_to : (token : Token) (most : ℕ) (events : List Content) (stop : Result (Unit {0}) Turn) (own : List Own) → AreTakenUpTo seen token most events stop own → AreTakenUpTo seen' token most events stop own
  taken_up_to token most events stop own (room, (takes, last, split, all, end)) = (room, (takes, last, split, all_taken token events takes all, ends_taking token most events stop last end))

  take_stage : (token : Token) (reply : Result Ticket StageCause) (e e' own : List Own) (result : Result (Unit {0}) FaceRefused) → Goes e e' → EndsTakeStage saw seen token reply e own result → EndsTakeStage saw' seen' token reply e' own result
  take_stage token (Err cause) e e' own result go h = (rolled (RollbackTake token) (λ s. takes_of s token ≡ None) e e' own go h.0, h.1)
  take_stage token (Ok ticket) e e' own result go h = (h.0, ends ticket e e' own h.0 go h.1, h.2)

  commit : (token : Token) (result : Result (Unit {0}) FaceRefused) (e e' own : List Own) → Goes e e' → IsTakeCommit saw seen token result e own → IsTakeCommit saw' seen' token result e' own
  commit token result e e' own go (reply, s, staged, ending, split, m, last) =
      (reply, s, staged, ending, split, made (is_spent_stage reply) (StageTake token reply) s staged m, take_stage token reply (e ++ staged) (e' ++ staged) ending result (goes_on e e' staged go) last)

  look : (P : State → Type 0) (e e' own : List Own) → Goes e e' → IsLook saw P e own → IsLook saw' P e' own
  look P e e' own go (none, (s, seen, shown)) = (none, (s, goes_here e e' s go seen, shown))

  reopened : (result : Result Bool OpenCause) (e e' own : List Own) → Goes e e' → IsReopened saw seen result e own → IsReopened saw' seen' result e' own
  reopened result e e' own go (reply, kept, s, at, broken, m, is) = (reply, kept, s, found e e' own s go at, broken, made (is_spent_open reply) (Reopen (reopen_reply reply kept)) s own m, is)

  -- a mend, of a channel that is on a disk in both words
  pub mend : (X D : Type 0) → (X → D) → (D → X) → (result : Result Bool OpenCause) (e e' own : List Own) → Goes e e' → IsMend X saw seen result e own → IsMend D saw' seen' result e' own
  mend X D to back (Ok false) e e' own go (none, look_at) = (none, λ on. look (λ s. s.broken ≡ false) e e' own go (look_at (back on)))
  mend X D to back (Ok true) e e' own go (on, did) = (to on, reopened (Ok true) e e' own go did)
  mend X D to back (Err cause) e e' own go (on, did) = (to on, reopened (Err cause) e e' own go did)

  module _ {S : Type 0} (delivers : S → List Content → ℕ → Result (Unit {0}) SinkRefused → S → Type 0) where
    delivery : (token : Token) (events : List Content) (answer : Result (Unit {0}) SinkRefused) (turn : Turn) (e e' own : List Own) → Goes e e' → EndsDelivery saw seen token events answer turn e own → EndsDelivery saw' seen' token events answer turn e' own
    delivery token events (Ok done) turn e e' own go h = (h.0, commit token h.0 e e' own go h.1, h.2)
    delivery token events (Err why) turn e e' own go h = (rolled (RollbackTake token) (λ s. takes_of s token ≡ None) e e' own go h.0, h.1)

    handed : (token : Token) (events : List Content) (moment : ℕ) (sink : S) (turn : Turn) (after : S) (e e' own : List Own) → Goes e e' → IsHandedOver saw seen delivers token events moment sink turn after e own → IsHandedOver saw' seen' delivers token events moment sink turn after e' own
    handed token [] moment sink turn after e e' own go h = (rolled (RollbackTake token) (λ s. takes_of s token ≡ None) e e' own go h.0, h.1, h.2)
    handed token (event ∷ events) moment sink turn after e e' own go h = (h.0, h.1, delivery token (event ∷ events) h.0 turn e e' own go h.2)

    ends_turn : (token : Token) (events : List Content) (moment : ℕ) (sink : S) (stop : Result (Unit {0}) Turn) (turn : Turn) (after : S) (e e' own : List Own) → Goes e e' → EndsTurn saw seen delivers token events moment sink stop turn after e own → EndsTurn saw' seen' delivers token events moment sink stop turn after e' own
    ends_turn token events moment sink (Ok done) turn after e e' own go h = handed token events moment sink turn after e e' own go h
    ends_turn token events moment sink (Err over) turn after e e' own go h = (rolled (RollbackTake token) (λ s. takes_of s token ≡ None) e e' own go h.0, h.1, h.2)

    begins_turn : (most moment : ℕ) (sink : S) (begun : Result Token FaceRefused) (turn : Turn) (after : S) (e e' own : List Own) → Goes e e' → Turns.EndsBegin saw seen delivers most moment sink begun turn after e own → Turns.EndsBegin saw' seen' delivers most moment sink begun turn after e' own
    begins_turn most moment sink (Err why) turn after e e' own go h = h
    begins_turn most moment sink (Ok token) turn after e e' own go (events, stop, takes, ending, split, all, last) =
        (events, stop, takes, ending, split, taken_up_to token most events stop takes all, ends_turn token events moment sink stop turn after (e ++ takes) (e' ++ takes) ending (goes_on e e' takes go) last)

    -- a turn
    pub turned : (most moment : ℕ) (sink : S) (turn : Turn) (after : S) (e e' own : List Own) → Goes e e' → IsTurn saw seen delivers most moment sink turn after e own → IsTurn saw' seen' delivers most moment sink turn after e' own
    turned most moment sink turn after e e' own go (begun, first, rest, split, (reply, s, m, is), last) =
        (begun, first, rest, split, (reply, s, made (is_spent_begin reply) (BeginTake reply) s first m, is), begins_turn most moment sink begun turn after (e ++ first) (e' ++ first) rest (goes_on e e' first go) last)
