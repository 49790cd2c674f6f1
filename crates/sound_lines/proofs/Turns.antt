-- A run of a sink is fair to other passes: it puts nothing.
use Rattle.std.proofs.Common.{inl, inr, ◌++◌, ◌∷◌, [], ℕ, List, Option, Some, None, Result, Ok, Err, true, false, sym, subst}
use Rattle.event_core.specs.Content.{Content}
use Rattle.channel_face.specs.Faces.{Own, EndsTakeStage, IsTake, IsTakeCommit, IsTakeRolledBack, is_spent_begin, is_spent_stage, is_spent_take}
use Rattle.channel_face.specs.Machine.{State, BeginTake, Take, StageTake, RollbackTake}
use Rattle.channel_face.specs.Token.{Token}
use Rattle.channel_face.specs.declared.replies.FaceRefused.{FaceRefused}
use Rattle.channel_face.specs.declared.replies.StageCause.{StageCause}
use Rattle.channel_face.specs.declared.replies.Ticket.{Ticket}
use Rattle.plug_in.specs.declared.sink.SinkRefused.{SinkRefused}
use Rattle.sink_runner.specs.Turns.{AreTaken, AreTakenUpTo, EndsBegin, EndsDelivery, EndsTaking, EndsTurn, IsHandedOver, IsTurn}
use Rattle.sink_runner.specs.declared.turn.Turn.{Turn}
use Rattle.sound_lines.proofs.Fair.{AreFairOwn, ends_fair, fair-append, made_fair, none_fair, one_fair}

take_fair : (seen : ℕ) (token : Token) (result : Result (Option Content) FaceRefused) (e own : List Own) → IsTake seen token result own → AreFairOwn e own
take_fair seen token result e own (reply, s, made, is) = made_fair seen (is_spent_take reply) (Take token reply) s e own made tt

takes_fair : (seen : ℕ) (token : Token) (events : List Content) (e own : List Own) → AreTaken seen token events own → AreFairOwn e own
takes_fair seen token [] e own is = none_fair e own is
takes_fair seen token (event ∷ events) e own (first, rest, is, one, others) =
    subst (AreFairOwn e) (sym is) (fair-append e first rest (take_fair seen token (Ok (Some event)) e first one) (takes_fair seen token events (e ++ first) rest others))

stop_fair : (seen : ℕ) (token : Token) (batch : ℕ) (events : List Content) (stop : Result (Unit {0}) Turn) (e own : List Own) → EndsTaking seen token batch events stop own → AreFairOwn e own
stop_fair seen token batch events (Ok done) e own (inl none) = none_fair e own none.0
stop_fair seen token batch events (Ok done) e own (inr last) = take_fair seen token (Ok None) e own last.1
stop_fair seen token batch events (Err turn) e own (inl (room, (refused, taken, is))) = take_fair seen token (Err refused) e own taken
stop_fair seen token batch events (Err turn) e own (inr none) = none_fair e own none.0

up_to_fair : (seen : ℕ) (token : Token) (batch : ℕ) (events : List Content) (stop : Result (Unit {0}) Turn) (e own : List Own) → AreTakenUpTo seen token batch events stop own → AreFairOwn e own
up_to_fair seen token batch events stop e own (room, (takes, last, is, are, ends)) =
    subst (AreFairOwn e) (sym is) (fair-append e takes last (takes_fair seen token events e takes are) (stop_fair seen token batch events stop (e ++ takes) last ends))

module _ (saw : List Own → State → Type 0) (seen : ℕ) where
  rolled_fair : (token : Token) (earlier e own : List Own) → IsTakeRolledBack saw token earlier own → AreFairOwn e own
  rolled_fair token earlier e own (inl (s, moment, is)) = one_fair e s (RollbackTake token true) moment own is tt
  rolled_fair token earlier e own (inr (s, found, stale, inl none)) = none_fair e own none
  rolled_fair token earlier e own (inr (s, found, stale, inr (moment, is))) = one_fair e s (RollbackTake token false) moment own is tt

  commit_fair : (token : Token) (result : Result (Unit {0}) FaceRefused) (earlier e own : List Own) → IsTakeCommit saw seen token result earlier own → AreFairOwn e own
  commit_fair token result earlier e own (reply, s, staged, ending, is, made, ends) =
      subst (AreFairOwn e) (sym is) (fair-append e staged ending (made_fair seen (is_spent_stage reply) (StageTake token reply) s e staged made tt) (by_reply reply ends))
    where
      by_reply : (reply : Result Ticket StageCause) → EndsTakeStage saw seen token reply (earlier ++ staged) ending result → AreFairOwn (e ++ staged) ending
      by_reply (Ok t) ends = ends_fair saw seen t (earlier ++ staged) (e ++ staged) ending ends.0 ends.1
      by_reply (Err cause) ends = rolled_fair token (earlier ++ staged) (e ++ staged) ending ends.0

  module _ {S : Type 0} (delivers : S → List Content → ℕ → Result (Unit {0}) SinkRefused → S → Type 0) where
    handed_fair : (token : Token) (events : List Content) (moment : ℕ) (sink : S) (turn : Turn) (after : S) (earlier e own : List Own) → IsHandedOver saw seen delivers token events moment sink turn after earlier own → AreFairOwn e own
    handed_fair token [] moment sink turn after earlier e own is = rolled_fair token earlier e own is.0
    handed_fair token (event ∷ events) moment sink turn after earlier e own (answer, did, ends) = by_answer answer ends
      where
        by_answer : (answer : Result (Unit {0}) SinkRefused) → EndsDelivery saw seen token (event ∷ events) answer turn earlier own → AreFairOwn e own
        by_answer (Ok done) ends = commit_fair token ends.0 earlier e own ends.1
        by_answer (Err cause) ends = rolled_fair token earlier e own ends.0

    ending_fair : (token : Token) (events : List Content) (moment : ℕ) (sink : S) (stop : Result (Unit {0}) Turn) (turn : Turn) (after : S) (earlier e own : List Own)
        → EndsTurn saw seen delivers token events moment sink stop turn after earlier own → AreFairOwn e own
    ending_fair token events moment sink (Ok done) turn after earlier e own is = handed_fair token events moment sink turn after earlier e own is
    ending_fair token events moment sink (Err over) turn after earlier e own is = rolled_fair token earlier e own is.0

    begun_fair : (batch moment : ℕ) (sink : S) (begun : Result Token FaceRefused) (turn : Turn) (after : S) (earlier e own : List Own) → EndsBegin saw seen delivers batch moment sink begun turn after earlier own → AreFairOwn e own
    begun_fair batch moment sink (Err refused) turn after earlier e own is = none_fair e own is.0
    begun_fair batch moment sink (Ok token) turn after earlier e own (events, stop, takes, ending, is, are, ends) =
        subst (AreFairOwn e) (sym is) (fair-append e takes ending (up_to_fair seen token batch events stop e takes are)
        (ending_fair token events moment sink stop turn after (earlier ++ takes) (e ++ takes) ending ends))

    -- a turn of a sink is fair, however it ends
    pub turn_fair : (batch moment : ℕ) (sink : S) (turn : Turn) (after : S) (earlier e own : List Own) → IsTurn saw seen delivers batch moment sink turn after earlier own → AreFairOwn e own
    turn_fair batch moment sink turn after earlier e own (begun, first, rest, is, (reply, s, made, said), ends) =
        subst (AreFairOwn e) (sym is) (fair-append e first rest (made_fair seen (is_spent_begin reply) (BeginTake reply) s e first made tt)
        (begun_fair batch moment sink begun turn after (earlier ++ first) (e ++ first) rest ends))
