-- A sink's runs put nothing.
use Rattle.std.proofs.Common.{◌≡◌, ◌∙◌, ◌++◌, ◌⊎◌, inl, inr, ℕ, List, [], ◌∷◌, Bool, true, false, Option, Some, None, Result, Ok, Err, sym, ap, subst, append_assoc}
use Rattle.std.proofs.lemmas.List.{append-nil}
use Rattle.std.specs.List.{AllByRecursion}
use Rattle.event_core.specs.Content.{Content}
use Rattle.channel_face.specs.Faces.{EndsAs, EndsTakeStage, IsMade, IsTake, IsTakeCommit, IsTakeRolledBack, Own, is_spent_begin, is_spent_flush, is_spent_stage, is_spent_take, one}
use Rattle.channel_face.specs.Machine.{BeginTake, Call, Flush, RollbackTake, StageTake, State, Take, settled}
use Rattle.channel_face.specs.Token.{Token}
use Rattle.channel_face.specs.declared.replies.FaceRefused.{FaceRefused}
use Rattle.channel_face.specs.declared.replies.Settled.{Settled}
use Rattle.channel_face.specs.declared.replies.Settled.TheVariants.{InDoubt, No, Yes}
use Rattle.channel_face.specs.declared.replies.StageCause.{StageCause}
use Rattle.channel_face.specs.declared.replies.Ticket.{Ticket}
use Rattle.plug_in.specs.declared.sink.SinkRefused.{SinkRefused}
use Rattle.sink_runner.specs.Turns.{AreTaken, AreTakenUpTo, EndsBegin, EndsDelivery, EndsTaking, EndsTurn, IsHandedOver, IsTurn}
use Rattle.sink_runner.specs.declared.turn.Turn.{Turn}
use Rattle.sink_runner.specs.declared.turn.Turn.TheVariants.{Delivered}
use Rattle.sink_worker.specs.Rounds.{Taking, Told}
use Rattle.agent_end.specs.Drains.{Deliveries, Drains, EndsDrain, RunsOnEvents}
use Rattle.agent_end.specs.declared.draining.ChannelDrain.{ChannelDrain}
use Rattle.agent_end.specs.declared.draining.ChannelDrain.TheVariants.{Emptied, Stopped}
use Rattle.run_tracks.specs.Drained.{Looked}
use Rattle.run_tracks.specs.Tracks.{Track, Turned}
use Rattle.agent_run.specs.DrainedTold.{IsNoPut}

-- these calls of one's own are no puts
abbrev pub PutNone : List Own → Type 0
PutNone own = AllByRecursion (λ (o : Own). IsNoPut o.call) own

no_more : (a b : List Own) → PutNone a → PutNone b → PutNone (a ++ b)
no_more [] b p q = q
no_more (o ∷ a) b p q = (p.0, no_more a b p.1 q)

no_parts : (own a b : List Own) → own ≡ a ++ b → PutNone a → PutNone b → PutNone own
no_parts own a b is p q = subst PutNone (sym is) (no_more a b p q)

no_none : (own : List Own) → own ≡ [] → PutNone own
no_none own is = subst PutNone (sym is) tt

no_one : (call : Call) (s : State) (moment : ℕ) (own : List Own) → IsNoPut call → own ≡ one call s moment → PutNone own
no_one call s moment own idle is = subst PutNone (sym is) (idle, tt)

made : (seen : ℕ) (spent : Bool) (call : Call) (s : State) (own : List Own) → IsNoPut call → IsMade seen spent call s own → PutNone own
made seen false call s own idle is = no_one call s is.0 own idle is.1
made seen true call s own idle is = no_none own is.0

module _ (saw : List Own → State → Type 0) (seen : ℕ) where
  stale : (token : Token) (s : State) (own : List Own) → (own ≡ []) ⊎ ((moment : ℕ) × (own ≡ one (RollbackTake token false) s moment)) → PutNone own
  stale token s own (inl none) = no_none own none
  stale token s own (inr is) = no_one (RollbackTake token false) s is.0 own tt is.1

  rolled : (token : Token) (earlier own : List Own) → IsTakeRolledBack saw token earlier own → PutNone own
  rolled token earlier own (inl is) = no_one (RollbackTake token true) is.0 is.1 own tt is.2
  rolled token earlier own (inr is) = stale token is.0 own is.3

  ends_as : (s : State) (found : Settled) (own : List Own) (sure : Bool) → EndsAs seen s found own sure → PutNone own
  ends_as s Yes own sure is = no_none own is.0
  ends_as s No own sure is = made seen (is_spent_flush is.0) (Flush is.0) s own tt is.1
  ends_as s InDoubt own sure is = no_none own is.0

  ends_stage : (token : Token) (reply : Result Ticket StageCause) (earlier own : List Own) (result : Result (Unit {0}) FaceRefused) → EndsTakeStage saw seen token reply earlier own result → PutNone own
  ends_stage token (Err cause) earlier own result is = rolled token earlier own is.0
  ends_stage token (Ok ticket) earlier own result is = ends_as is.1.0 (settled is.1.0 ticket) own is.0 is.1.2

  committed : (token : Token) (result : Result (Unit {0}) FaceRefused) (earlier own : List Own) → IsTakeCommit saw seen token result earlier own → PutNone own
  committed token result earlier own is =
      no_parts own is.2 is.3 is.4 (made seen (is_spent_stage is.0) (StageTake token is.0) is.1 is.2 tt is.5) (ends_stage token is.0 (earlier ++ is.2) is.3 result is.6)

  took : (token : Token) (result : Result (Option Content) FaceRefused) (own : List Own) → IsTake seen token result own → PutNone own
  took token result own is = made seen (is_spent_take is.0) (Take token is.0) is.1 own tt is.2

  are_taken : (token : Token) (events : List Content) (own : List Own) → AreTaken seen token events own → PutNone own
  are_taken token [] own is = no_none own is
  are_taken token (event ∷ events) own is = no_parts own is.0 is.1 is.2 (took token (Ok (Some event)) is.0 is.3) (are_taken token events is.1 is.4)

  ends_taking : (token : Token) (batch : ℕ) (events : List Content) (stop : Result (Unit {0}) Turn) (own : List Own) → EndsTaking seen token batch events stop own → PutNone own
  ends_taking token batch events (Ok done) own (inl is) = no_none own is.0
  ends_taking token batch events (Ok done) own (inr is) = took token (Ok None) own is.1
  ends_taking token batch events (Err turn) own (inl is) = took token (Err is.1.0) own is.1.1
  ends_taking token batch events (Err turn) own (inr is) = no_none own is.0

  taken_up_to : (token : Token) (batch : ℕ) (events : List Content) (stop : Result (Unit {0}) Turn) (own : List Own) → AreTakenUpTo seen token batch events stop own → PutNone own
  taken_up_to token batch events stop own is =
      let parts = is.1 in
      no_parts own parts.0 parts.1 parts.2 (are_taken token events parts.0 parts.3) (ends_taking token batch events stop parts.1 parts.4)

  module _ {S : Type 0} (delivers : S → List Content → ℕ → Result (Unit {0}) SinkRefused → S → Type 0) where
    ends_delivery : (token : Token) (events : List Content) (answer : Result (Unit {0}) SinkRefused) (turn : Turn) (earlier own : List Own) → EndsDelivery saw seen token events answer turn earlier own → PutNone own
    ends_delivery token events (Ok done) turn earlier own is = committed token is.0 earlier own is.1
    ends_delivery token events (Err why) turn earlier own is = rolled token earlier own is.0

    handed : (token : Token) (events : List Content) (moment : ℕ) (sink : S) (turn : Turn) (after : S) (earlier own : List Own)
        → IsHandedOver saw seen delivers token events moment sink turn after earlier own → PutNone own
    handed token [] moment sink turn after earlier own is = rolled token earlier own is.0
    handed token (event ∷ events) moment sink turn after earlier own is = ends_delivery token (event ∷ events) is.0 turn earlier own is.2

    ends_turn : (token : Token) (events : List Content) (moment : ℕ) (sink : S) (stop : Result (Unit {0}) Turn) (turn : Turn) (after : S) (earlier own : List Own)
        → EndsTurn saw seen delivers token events moment sink stop turn after earlier own → PutNone own
    ends_turn token events moment sink (Ok done) turn after earlier own is = handed token events moment sink turn after earlier own is
    ends_turn token events moment sink (Err over) turn after earlier own is = rolled token earlier own is.0

    ends_begin : (batch moment : ℕ) (sink : S) (begun : Result Token FaceRefused) (turn : Turn) (after : S) (earlier own : List Own)
        → EndsBegin saw seen delivers batch moment sink begun turn after earlier own → PutNone own
    ends_begin batch moment sink (Err refused) turn after earlier own is = no_none own is.0
    ends_begin batch moment sink (Ok token) turn after earlier own is =
        no_parts own is.2 is.3 is.4 (taken_up_to token batch is.0 is.1 is.2 is.5) (ends_turn token is.0 moment sink is.1 turn after (earlier ++ is.2) is.3 is.6)

    -- one run
    turn_takes : (batch moment : ℕ) (sink : S) (turn : Turn) (after : S) (earlier own : List Own) → IsTurn saw seen delivers batch moment sink turn after earlier own → PutNone own
    turn_takes batch moment sink turn after earlier own is =
        no_parts own is.1 is.2 is.3 (made seen (is_spent_begin is.4.0) (BeginTake is.4.0) is.4.1 is.1 tt is.4.2) (ends_begin batch moment sink is.0 turn after (earlier ++ is.1) is.2 is.5)

-- the next calls were no puts
pub record Draws (old new : List Own) : Type 0 where
  pub more : List Own
  pub is : new ≡ old ++ more
  pub none : PutNone more

draws_none : (own : List Own) → Draws own own
draws_none own = record { more = []; is = sym (append-nil own); none = tt }

draws_then : (a b c : List Own) → Draws a b → Draws b c → Draws a c
draws_then a b c f g = record {
  more = f.more ++ g.more;
  is = g.is ∙ ap (λ (l : List Own). l ++ g.more) f.is ∙ append_assoc a f.more g.more;
  none = no_more f.more g.more f.none g.none;
}

module _ {S : Type 0} (sink : Told S) (batch : ℕ) where
  turned : (old : Taking Track S) (turn : Turn) (new : Taking Track S) → Turned sink batch old turn new → Draws old.from.own new.from.own
  turned old turn new is = record {
    more = is.1;
    is = ap (λ (t : Track). t.own) is.4;
    none = turn_takes _ _ sink.delivers batch is.0 old.sink turn new.sink old.from.own is.1 is.5;
  }

  looked : (old : Taking Track S) (size : ℕ) (new : Taking Track S) → Looked old size new → Draws old.from.own new.from.own
  looked old size new is = subst (λ (t : Taking Track S). Draws old.from.own t.from.own) (sym is.0) (draws_none old.from.own)

  ran_on : (old : Taking Track S) (turn : Turn) (new : Taking Track S) → RunsOnEvents (Turned sink batch) Looked old turn new → Draws old.from.own new.from.own
  ran_on old turn new is = draws_then old.from.own is.1.from.own new.from.own (looked old is.0 is.1 is.3) (turned is.1 turn new is.4)

  delivered : (counts : List ℕ) (old new : Taking Track S) → Deliveries (Turned sink batch) Looked counts old new → Draws old.from.own new.from.own
  delivered [] old new is = subst (λ (t : Taking Track S). Draws old.from.own t.from.own) (sym is) (draws_none old.from.own)
  delivered (count ∷ counts) old new is = draws_then old.from.own is.0.from.own new.from.own (ran_on old (Delivered count) is.0 is.1) (delivered counts is.0 new is.2)

  ends_drain : (end : ChannelDrain) (old new : Taking Track S) → EndsDrain (Turned sink batch) Looked end old new → Draws old.from.own new.from.own
  ends_drain Emptied old new is = looked old 0 new is
  ends_drain (Stopped turn) old new is = ran_on old turn new is.1

  -- a draining
  pub drain_takes : (end : ChannelDrain) (old new : Taking Track S) → Drains (Turned sink batch) Looked end old new → Draws old.from.own new.from.own
  drain_takes end old new is = draws_then old.from.own is.between.from.own new.from.own (delivered is.counts old is.between is.deliveries) (ends_drain end is.between new is.ends)
