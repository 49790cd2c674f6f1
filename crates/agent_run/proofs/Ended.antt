-- Whole transactions: after each stage its ticket was found settled or in doubt, or a flush followed.
use Rattle.std.proofs.Common.{◌≡◌, ◌∙◌, ℕ, List, [], ◌∷◌, ◌++◌, append-nil, append_assoc, inl, inr, Bool, true, false, Option, Some, None, Result, Ok, Err, refl, sym, ap, subst}
use Rattle.std.specs.List.{AllByRecursion}
use Rattle.event_core.specs.Content.{Content}
use Rattle.channel_face.specs.Faces.{Own, ArePut, ArePutUpTo, Ends, EndsAs, EndsBegin, EndsPuts, EndsStage, EndsTakeStage, IsMade, IsPutBatch, IsRolledBack, IsTake, IsTakeCommit, IsTakeRolledBack, is_spent_begin, is_spent_flush, is_spent_put, is_spent_stage, is_spent_take}
use Rattle.channel_face.specs.History.{reopen_reply}
use Rattle.channel_face.specs.Keeps.{IsCheck, IsMend, IsPrune, is_spent_check, is_spent_open, is_spent_prune}
use Rattle.channel_face.specs.Machine.{State, Call, BeginPut, BeginTake, Put, Take, StagePut, StageTake, Flush, Checkpoint, Prune, Reopen, RollbackPut, RollbackTake, puts_of, settled, takes_of}
use Rattle.channel_face.specs.Token.{Token}
use Rattle.channel_face.specs.declared.replies.BeginRefused.{BeginRefused}
use Rattle.channel_face.specs.declared.replies.CheckRefused.{CheckRefused}
use Rattle.channel_face.specs.declared.replies.FaceRefused.{FaceRefused}
use Rattle.channel_face.specs.declared.replies.OpenCause.{OpenCause}
use Rattle.channel_face.specs.declared.replies.PruneRefused.{PruneRefused}
use Rattle.channel_face.specs.declared.replies.PutRefused.{PutRefused}
use Rattle.channel_face.specs.declared.replies.Settled.{Settled}
use Rattle.channel_face.specs.declared.replies.Settled.TheVariants.{Yes, No, InDoubt}
use Rattle.channel_face.specs.declared.replies.StageCause.{StageCause}
use Rattle.channel_face.specs.declared.replies.Ticket.{Ticket}
use Rattle.plug_in.specs.declared.sink.SinkRefused.{SinkRefused}
use Rattle.sink_runner.specs.Turns.{AreTaken, EndsDelivery, EndsTaking, EndsTurn, IsTurn}
use Rattle.sink_runner.specs.Turns as Turns
use Rattle.sink_runner.specs.declared.turn.Turn.{Turn}
use Rattle.agent_run.proofs.Staged.{EachEnds, EndsWith, ticket_of}

-- none of these calls staged anything
abbrev pub Plain : List Own → Type 0
Plain own = AllByRecursion (λ (o : Own). ticket_of o.call ≡ None) own

plain_both : (a b : List Own) → Plain a → Plain b → Plain (a ++ b)
plain_both [] b p q = q
plain_both (o ∷ a) b p q = (p.0, plain_both a b p.1 q)

plain_made : (seen : ℕ) (spent : Bool) (call : Call) (s : State) (own : List Own) → ticket_of call ≡ None → IsMade seen spent call s own → Plain own
plain_made seen false call s own none made = rw made.1 (none, tt)
plain_made seen true call s own none made = rw made.0 tt

plain_rolled : (saw : List Own → State → Type 0) (rollback : Bool → Call) (IsStale : State → Type 0) (earlier own : List Own) → ((b : Bool) → ticket_of (rollback b) ≡ None)
    → IsRolledBack saw rollback IsStale earlier own → Plain own
plain_rolled saw rollback IsStale earlier own none (inl (s, moment, is)) = rw is (none true, tt)
plain_rolled saw rollback IsStale earlier own none (inr (s, was, stale, inl is)) = rw is tt
plain_rolled saw rollback IsStale earlier own none (inr (s, was, stale, inr (moment, is))) = rw is (none false, tt)

plain_end : (seen : ℕ) (s : State) (a : Settled) (own : List Own) (sure : Bool) → EndsAs seen s a own sure → Plain own
plain_end seen s Yes own sure is = rw is.0 tt
plain_end seen s No own sure is = plain_made seen (is_spent_flush is.0) (Flush is.0) s own refl is.1
plain_end seen s InDoubt own sure is = rw is.0 tt

plain_puts : (token : Token) (events : List Content) (own : List Own) → ArePut token events own → Plain own
plain_puts token [] own are = rw are tt
plain_puts token (event ∷ events) own (done, s, moment, rest, is, others) = rw is (refl, plain_puts token events rest others)

plain_up_to : (seen : ℕ) (token : Token) (events : List Content) (reply : Result (Unit {0}) PutRefused) (own : List Own) → ArePutUpTo seen token events reply own → Plain own
plain_up_to seen token events (Ok done) own are = plain_puts token events own are
plain_up_to seen token events (Err why) own (front, back, event, s, puts, put, split, is, are, made) =
    rw is (plain_both puts put (plain_puts token front puts are) (plain_made seen (is_spent_put (Err why)) (Put token event (Err why)) s put refl made))

plain_take : (seen : ℕ) (token : Token) (result : Result (Option Content) FaceRefused) (own : List Own) → IsTake seen token result own → Plain own
plain_take seen token result own (reply, s, made, is) = plain_made seen (is_spent_take reply) (Take token reply) s own refl made

plain_takes : (seen : ℕ) (token : Token) (events : List Content) (own : List Own) → AreTaken seen token events own → Plain own
plain_takes seen token [] own are = rw are tt
plain_takes seen token (event ∷ events) own (first, rest, is, one, others) = rw is (plain_both first rest (plain_take seen token (Ok (Some event)) first one) (plain_takes seen token events rest others))

plain_stop : (seen : ℕ) (token : Token) (batch : ℕ) (events : List Content) (stop : Result (Unit {0}) Turn) (own : List Own) → EndsTaking seen token batch events stop own → Plain own
plain_stop seen token batch events (Ok done) own (inl full) = let none = full.0 in rw none tt
plain_stop seen token batch events (Ok done) own (inr none) = plain_take seen token (Ok None) own none.1
plain_stop seen token batch events (Err turn) own (inl refused) = plain_take seen token (Err refused.1.0) own refused.1.1
plain_stop seen token batch events (Err turn) own (inr memory) = let none = memory.0 in rw none tt

module _ (saw : List Own → State → Type 0) (seen : ℕ) where
  -- calls that staged nothing leave nothing to be settled or flushed
  pub ends_plain : (earlier own : List Own) → Plain own → EachEnds saw seen earlier own
  ends_plain earlier [] plain = tt
  ends_plain earlier (o ∷ own) plain =
      (subst (λ (t : Option Ticket). EndsWith saw seen t (earlier ++ o ∷ []) own) (sym plain.0) tt, ends_plain (earlier ++ o ∷ []) own plain.1)

  more_behind : (t : Option Ticket) (earlier a b : List Own) → EndsWith saw seen t earlier a → EndsWith saw seen t earlier (a ++ b)
  more_behind None earlier a b ends = tt
  more_behind (Some t) earlier a b (ending, rest, sure, is, ends) =
      (ending, rest ++ b, sure, ap (λ (l : List Own). l ++ b) is ∙ append_assoc ending rest b, ends)

  -- where each stage of some calls and of those after them has ended, each of all has
  pub ends_then : (earlier a b : List Own) → EachEnds saw seen earlier a → EachEnds saw seen (earlier ++ a) b → EachEnds saw seen earlier (a ++ b)
  ends_then earlier [] b p q = subst (λ (l : List Own). EachEnds saw seen l b) (append-nil earlier) q
  ends_then earlier (o ∷ a) b p q = (
    more_behind (ticket_of o.call) (earlier ++ o ∷ []) a b p.0,
    ends_then (earlier ++ o ∷ []) a b p.1 (subst (λ (l : List Own). EachEnds saw seen l b) (sym (append_assoc earlier (o ∷ []) a)) q),
  )

  -- a stage that was answered with a ticket, and what followed
  staged_ends : (call : Call) (t : Ticket) (s : State) (moment : ℕ) (earlier ending : List Own) (sure : Bool) → ticket_of call ≡ Some t
      → Ends saw seen t (earlier ++ record { call = call; before = s; moment = moment } ∷ []) ending sure → EachEnds saw seen earlier (record { call = call; before = s; moment = moment } ∷ ending)
  staged_ends call t s moment earlier ending sure is ends =
      let o : Own = record { call = call; before = s; moment = moment } in (
        subst (λ (u : Option Ticket). EndsWith saw seen u (earlier ++ o ∷ []) ending) (sym is) (ending, [], sure, sym (append-nil ending), ends),
        ends_plain (earlier ++ o ∷ []) ending (plain_end seen ends.0 (settled ends.0 t) ending sure ends.2),
      )

  put_stage_ends : (token : Token) (reply : Result Ticket StageCause) (s : State) (earlier staged ending : List Own) (result : Result ℕ FaceRefused) → IsMade seen (is_spent_stage reply) (StagePut token reply) s staged
      → EndsStage saw seen token reply (earlier ++ staged) ending result → EachEnds saw seen earlier (staged ++ ending)
  put_stage_ends token (Ok t) s earlier staged ending result made is =
      let one = made.1 in
      rw one (staged_ends (StagePut token (Ok t)) t s made.0 earlier ending is.0 refl (subst (λ (l : List Own). Ends saw seen t (earlier ++ l) ending is.0) one is.1))
  put_stage_ends token (Err cause) s earlier staged ending result made is =
      ends_plain earlier (staged ++ ending) (plain_both staged ending (plain_made seen (is_spent_stage (Err cause)) (StagePut token (Err cause)) s staged refl made)
      (plain_rolled saw (RollbackPut token) (λ s. puts_of s token ≡ None) (earlier ++ staged) ending (λ b. refl) is.0))

  take_stage_ends : (token : Token) (reply : Result Ticket StageCause) (s : State) (earlier staged ending : List Own) (result : Result (Unit {0}) FaceRefused) → IsMade seen (is_spent_stage reply) (StageTake token reply) s staged
      → EndsTakeStage saw seen token reply (earlier ++ staged) ending result → EachEnds saw seen earlier (staged ++ ending)
  take_stage_ends token (Ok t) s earlier staged ending result made is =
      let one = made.1 in
      rw one (staged_ends (StageTake token (Ok t)) t s made.0 earlier ending is.0 refl (subst (λ (l : List Own). Ends saw seen t (earlier ++ l) ending is.0) one is.1))
  take_stage_ends token (Err cause) s earlier staged ending result made is =
      ends_plain earlier (staged ++ ending) (plain_both staged ending (plain_made seen (is_spent_stage (Err cause)) (StageTake token (Err cause)) s staged refl made)
      (plain_rolled saw (RollbackTake token) (λ s. takes_of s token ≡ None) (earlier ++ staged) ending (λ b. refl) is.0))

  puts_end : (token : Token) (reply : Result (Unit {0}) PutRefused) (earlier own : List Own) (result : Result ℕ FaceRefused) → EndsPuts saw seen token reply earlier own result → EachEnds saw seen earlier own
  puts_end token (Ok done) earlier own result (stage, s, staged, ending, is, made, ends) = rw is (put_stage_ends token stage s earlier staged ending result made ends)
  puts_end token (Err why) earlier own result is = ends_plain earlier own (plain_rolled saw (RollbackPut token) (λ s. puts_of s token ≡ None) earlier own (λ b. refl) is.0)

  begun_ends : (events : List Content) (reply : Result Token BeginRefused) (earlier own : List Own) (result : Result ℕ FaceRefused) → EndsBegin saw seen events reply earlier own result → EachEnds saw seen earlier own
  begun_ends events (Err why) earlier own result is = let none = is.0 in rw none tt
  begun_ends events (Ok token) earlier own result (reply, puts, ending, is, are, ends) =
      rw is (ends_then earlier puts ending (ends_plain earlier puts (plain_up_to seen token events reply puts are)) (puts_end token reply (earlier ++ puts) ending result ends))

  -- a batch
  pub batch_ends : (events : List Content) (result : Result ℕ FaceRefused) (earlier own : List Own) → IsPutBatch saw seen events result earlier own → EachEnds saw seen earlier own
  batch_ends events result earlier own (reply, s, begun, ending, is, made, ends) =
      rw is (ends_then earlier begun ending (ends_plain earlier begun (plain_made seen (is_spent_begin reply) (BeginPut reply) s begun refl made)) (begun_ends events reply (earlier ++ begun) ending result ends))

  commit_ends : (token : Token) (result : Result (Unit {0}) FaceRefused) (earlier own : List Own) → IsTakeCommit saw seen token result earlier own → EachEnds saw seen earlier own
  commit_ends token result earlier own (reply, s, staged, ending, is, made, ends) = rw is (take_stage_ends token reply s earlier staged ending result made ends)

  take_rolled_ends : (token : Token) (earlier own : List Own) → IsTakeRolledBack saw token earlier own → EachEnds saw seen earlier own
  take_rolled_ends token earlier own is = ends_plain earlier own (plain_rolled saw (RollbackTake token) (λ s. takes_of s token ≡ None) earlier own (λ b. refl) is)

  -- a checkpoint, and a removal of old files
  pub check_ends : (reply : Result (Unit {0}) CheckRefused) (earlier own : List Own) → IsCheck seen reply own → EachEnds saw seen earlier own
  check_ends reply earlier own is = ends_plain earlier own (plain_made seen (is_spent_check reply) (Checkpoint reply) is.0 own refl is.1)

  -- a removal of old files alone
  pub prune_ends : (reply : Result ℕ PruneRefused) (earlier own : List Own) → IsPrune seen reply own → EachEnds saw seen earlier own
  prune_ends reply earlier own is = ends_plain earlier own (plain_made seen (is_spent_prune reply) (Prune reply) is.0 own refl is.1)

  -- a mend
  pub mend_ends : (OnDisk : Type 0) (result : Result Bool OpenCause) (earlier own : List Own) → IsMend OnDisk saw seen result earlier own → EachEnds saw seen earlier own
  mend_ends OnDisk (Ok false) earlier own is = let none = is.0 in rw none tt
  mend_ends OnDisk (Ok true) earlier own is =
      ends_plain earlier own (plain_made seen (is_spent_open is.1.0) (Reopen (reopen_reply is.1.0 is.1.1)) is.1.2 own refl is.1.5)
  mend_ends OnDisk (Err cause) earlier own is =
      ends_plain earlier own (plain_made seen (is_spent_open is.1.0) (Reopen (reopen_reply is.1.0 is.1.1)) is.1.2 own refl is.1.5)

  module _ {S : Type 0} (delivers : S → List Content → ℕ → Result (Unit {0}) SinkRefused → S → Type 0) where
    delivery_ends : (token : Token) (events : List Content) (answer : Result (Unit {0}) SinkRefused) (turn : Turn) (earlier own : List Own) → EndsDelivery saw seen token events answer turn earlier own → EachEnds saw seen earlier own
    delivery_ends token events (Ok done) turn earlier own is = commit_ends token is.0 earlier own is.1
    delivery_ends token events (Err why) turn earlier own is = take_rolled_ends token earlier own is.0

    stop_ends : (token : Token) (events : List Content) (moment : ℕ) (sink : S) (stop : Result (Unit {0}) Turn) (turn : Turn) (after : S) (earlier own : List Own)
        → EndsTurn saw seen delivers token events moment sink stop turn after earlier own → EachEnds saw seen earlier own
    stop_ends token [] moment sink (Ok done) turn after earlier own is = take_rolled_ends token earlier own is.0
    stop_ends token (event ∷ events) moment sink (Ok done) turn after earlier own is = delivery_ends token (event ∷ events) is.0 turn earlier own is.2
    stop_ends token events moment sink (Err over) turn after earlier own is = take_rolled_ends token earlier own is.0

    takes_end : (batch moment : ℕ) (sink : S) (begun : Result Token FaceRefused) (turn : Turn) (after : S) (earlier own : List Own)
        → Turns.EndsBegin saw seen delivers batch moment sink begun turn after earlier own → EachEnds saw seen earlier own
    takes_end batch moment sink (Err why) turn after earlier own is = let none = is.0 in rw none tt
    takes_end batch moment sink (Ok token) turn after earlier own (events, stop, takes, ending, is, up_to, ends) =
        rw is (ends_then earlier takes ending
        (ends_plain earlier takes (let split = up_to.1.2 in rw split (plain_both up_to.1.0 up_to.1.1 (plain_takes seen token events up_to.1.0 up_to.1.3) (plain_stop seen token batch events stop up_to.1.1 up_to.1.4))))
        (stop_ends token events moment sink stop turn after (earlier ++ takes) ending ends))

    -- a turn of a sink
    pub turn_ends : (batch moment : ℕ) (sink : S) (turn : Turn) (after : S) (earlier own : List Own) → IsTurn saw seen delivers batch moment sink turn after earlier own → EachEnds saw seen earlier own
    turn_ends batch moment sink turn after earlier own (begun, first, rest, is, (reply, s, made, same), ends) =
        rw is (ends_then earlier first rest (ends_plain earlier first (plain_made seen (is_spent_begin reply) (BeginTake reply) s first refl made)) (takes_end batch moment sink begun turn after (earlier ++ first) rest ends))
