-- What a turn commits.
use Rattle.std.proofs.Common.{◌≡◌, ◌∙◌, ap, sym, refl, subst, ℕ, List, [], ◌∷◌, ◌++◌, append-nil, append_assoc, inl, inr, Bool, true, false, ◌||◌, Option, Some, None, Result, Ok, Err}
use Rattle.std.proofs.lemmas.Bool.{false≢true}
use Rattle.event_core.specs.Content.{Content}
use Rattle.channel_face.specs.Faces.{Own, IsMade, IsTakeBegun, IsTake, IsTakeRolledBack, IsTakeCommit, is_spent_begin, is_spent_take, is_spent_stage, is_spent_flush, taken_event, EndsAs, EndsTakeStage}
use Rattle.channel_face.specs.Machine.{State, Call, BeginTake, Take, StageTake, Flush, settled}
use Rattle.channel_face.specs.Token.{Token}
use Rattle.channel_face.specs.declared.replies.TakeRefused.{TakeRefused}
use Rattle.channel_face.specs.declared.replies.Taken.{Taken}
use Rattle.channel_face.specs.declared.replies.Ticket.{Ticket}
use Rattle.channel_face.specs.declared.replies.Settled.{Settled}
use Rattle.channel_face.specs.declared.replies.Settled.TheVariants.{Yes, No, InDoubt}
use Rattle.channel_face.specs.declared.replies.StageCause.{StageCause}
use Rattle.channel_face.specs.declared.replies.FaceRefused.{FaceRefused}
use Rattle.plug_in.specs.declared.sink.SinkRefused.{SinkRefused}
use Rattle.sink_runner.specs.declared.turn.Turn.{Turn}
use Rattle.sink_runner.specs.Turns.{AreTaken, EndsTaking, EndsDelivery, EndsTurn, EndsBegin, IsTurn}
use Rattle.sink_runner.specs.Laws.{event_of, given_by, taken_by, is_stage, commits}

-- calls that took these events, and of which none stages a transaction
record Plain (events : List Content) (own : List Own) : Type 0 where
  pub taken : taken_by own ≡ events
  pub unstaged : commits own ≡ false

-- what some calls took, and then further ones
pub taken-append : (a b : List Own) → taken_by (a ++ b) ≡ taken_by a ++ taken_by b
taken-append [] b = refl
taken-append (o ∷ a) b = ap (λ (l : List Content). given_by o.call ++ l) (taken-append a b) ∙ sym (append_assoc (given_by o.call) (taken_by a) (taken_by b))

plain_then : (events : List Content) (a b : List Own) → Plain events a → commits (a ++ b) ≡ commits b
plain_then events [] b plain = refl
plain_then events (o ∷ a) b plain = by_call (is_stage o.call) refl (plain_then (taken_by a) a b)
  where
    by_call : (t : Bool) → is_stage o.call ≡ t → (Plain (taken_by a) a → commits (a ++ b) ≡ commits b) → (is_stage o.call || commits (a ++ b)) ≡ commits b
    by_call true is rest = absurd (false≢true (sym plain.unstaged ∙ ap (λ (x : Bool). x || commits a) is))
    by_call false is rest = ap (λ (x : Bool). x || commits (a ++ b)) is ∙ rest (record { taken = refl; unstaged = sym (ap (λ (x : Bool). x || commits a) is) ∙ plain.unstaged })

plain_both : (x y : List Content) (a b : List Own) → Plain x a → Plain y b → Plain (x ++ y) (a ++ b)
plain_both x y a b p q = record {
  taken = taken-append a b ∙ ap (λ (l : List Content). l ++ taken_by b) p.taken ∙ ap (λ (l : List Content). x ++ l) q.taken;
  unstaged = plain_then x a b p ∙ q.unstaged;
}

plain_none : (own : List Own) → own ≡ [] → Plain [] own
plain_none own none = rw none (record { taken = refl; unstaged = refl })

-- a call that was made, or was not counted
plain_made : (seen : ℕ) (spent : Bool) (call : Call) (s : State) (own : List Own) (events : List Content) → given_by call ≡ events → is_stage call ≡ false → (spent ≡ true → events ≡ []) → IsMade seen spent call s own → Plain events own
plain_made seen false call s own events gives other none made =
    rw made.1 (record { taken = append-nil (given_by call) ∙ gives; unstaged = ap (λ (x : Bool). x || false) other })
plain_made seen true call s own events gives other none made = rw (none refl) (plain_none own made.0)

plain_begin : (seen : ℕ) (begun : Result Token FaceRefused) (own : List Own) → IsTakeBegun seen begun own → Plain [] own
plain_begin seen begun own is = plain_made seen (is_spent_begin is.0) (BeginTake is.0) is.1 own [] refl refl (λ _. refl) is.2

events_of : Result (Option Content) FaceRefused → List Content
events_of (Ok event) = event_of event
events_of (Err refused) = []

take_gives : (token : Token) (reply : Result Taken TakeRefused) → given_by (Take token reply) ≡ events_of (taken_event reply)
unfolding events_of
take_gives token (Ok taken) = refl
take_gives token (Err refused) = refl

spent_gives_none : (reply : Result Taken TakeRefused) → is_spent_take reply ≡ true → events_of (taken_event reply) ≡ []
unfolding events_of
spent_gives_none (Ok taken) spent = absurd (false≢true spent)
spent_gives_none (Err refused) spent = refl

plain_take : (seen : ℕ) (token : Token) (result : Result (Option Content) FaceRefused) (own : List Own) → IsTake seen token result own → Plain (events_of result) own
plain_take seen token result own is =
    let gives = take_gives token is.0 ∙ ap events_of (sym is.3) in
    plain_made seen (is_spent_take is.0) (Take token is.0) is.1 own (events_of result) gives refl (λ spent. ap events_of is.3 ∙ spent_gives_none is.0 spent) is.2

plain_takes : (seen : ℕ) (token : Token) (events : List Content) (own : List Own) → AreTaken seen token events own → Plain events own
unfolding events_of
plain_takes seen token [] own are = plain_none own are
plain_takes seen token (event ∷ events) own are =
    rw are.2 (plain_both (event ∷ []) events are.0 are.1 (plain_take seen token (Ok (Some event)) are.0 are.3) (plain_takes seen token events are.1 are.4))

plain_end : (seen : ℕ) (token : Token) (batch : ℕ) (events : List Content) (stop : Result (Unit {0}) Turn) (own : List Own) → EndsTaking seen token batch events stop own → Plain [] own
unfolding events_of
plain_end seen token batch events (Ok done) own (inl full) = plain_none own full.0
plain_end seen token batch events (Ok done) own (inr none) = plain_take seen token (Ok None) own none.1
plain_end seen token batch events (Err turn) own (inl refused) = plain_take seen token (Err refused.1.0) own refused.1.1
plain_end seen token batch events (Err turn) own (inr memory) = plain_none own memory.0

plain_rolled : (saw : List Own → State → Type 0) (token : Token) (earlier own : List Own) → IsTakeRolledBack saw token earlier own → Plain [] own
plain_rolled saw token earlier own (inl made) = rw made.2 (record { taken = refl; unstaged = refl })
plain_rolled saw token earlier own (inr (s, was, stale, inl none)) = plain_none own none
plain_rolled saw token earlier own (inr (s, was, stale, inr made)) = rw made.1 (record { taken = refl; unstaged = refl })

made_gives_none : (seen : ℕ) (spent : Bool) (call : Call) (s : State) (own : List Own) → given_by call ≡ [] → IsMade seen spent call s own → taken_by own ≡ []
made_gives_none seen false call s own none made = rw made.1 (append-nil (given_by call) ∙ none)
made_gives_none seen true call s own none made = rw made.0 refl

end_gives_none : (seen : ℕ) (s : State) (settled : Settled) (own : List Own) (sure : Bool) → EndsAs seen s settled own sure → taken_by own ≡ []
end_gives_none seen s Yes own sure is = rw is.0 refl
end_gives_none seen s No own sure is = made_gives_none seen (is_spent_flush is.0) (Flush is.0) s own refl is.1
end_gives_none seen s InDoubt own sure is = rw is.0 refl

stage_gives_none : (saw : List Own → State → Type 0) (seen : ℕ) (token : Token) (reply : Result Ticket StageCause) (earlier own : List Own) (result : Result (Unit {0}) FaceRefused) → EndsTakeStage saw seen token reply earlier own result → taken_by own ≡ []
stage_gives_none saw seen token (Err cause) earlier own result is = (plain_rolled saw token earlier own is.0).taken
stage_gives_none saw seen token (Ok ticket) earlier own result is = end_gives_none seen is.1.0 (settled is.1.0 ticket) own is.0 is.1.2

commit_gives_none : (saw : List Own → State → Type 0) (seen : ℕ) (token : Token) (result : Result (Unit {0}) FaceRefused) (earlier own : List Own) → IsTakeCommit saw seen token result earlier own → taken_by own ≡ []
commit_gives_none saw seen token result earlier own is =
    rw (is.4, taken-append, made_gives_none seen (is_spent_stage is.0) (StageTake token is.0) is.1 is.2 refl is.5) (stage_gives_none saw seen token is.0 (earlier ++ is.2) is.3 result is.6)

module _ {S : Type 0} (saw : List Own → State → Type 0) (seen : ℕ) (delivers : S → List Content → ℕ → Result (Unit {0}) SinkRefused → S → Type 0) (batch moment : ℕ) (sink after : S) (turn : Turn) where
  by_answer : (token : Token) (event : Content) (events : List Content) (earlier ending : List Own) (answer : Result (Unit {0}) SinkRefused) → delivers sink (event ∷ events) moment answer after → EndsDelivery saw seen token (event ∷ events) answer turn earlier ending → commits ending ≡ true → delivers sink ((event ∷ events) ++ taken_by ending) moment (Ok tt) after
  by_answer token event events earlier ending (Ok unit) done ends staged =
      let all : (event ∷ events) ++ taken_by ending ≡ event ∷ events = ap (λ (l : List Content). (event ∷ events) ++ l) (commit_gives_none saw seen token ends.0 earlier ending ends.1) ∙ append-nil (event ∷ events) in
      subst (λ (l : List Content). delivers sink l moment (Ok tt) after) (sym all) done
  by_answer token event events earlier ending (Err why) done ends staged = absurd (false≢true (sym (plain_rolled saw token earlier ending ends.0).unstaged ∙ staged))

  by_stop : (token : Token) (events : List Content) (earlier ending : List Own) (stop : Result (Unit {0}) Turn) → EndsTurn saw seen delivers token events moment sink stop turn after earlier ending → commits ending ≡ true → delivers sink (events ++ taken_by ending) moment (Ok tt) after
  by_stop token [] earlier ending (Ok done) ends staged = absurd (false≢true (sym (plain_rolled saw token earlier ending ends.0).unstaged ∙ staged))
  by_stop token (event ∷ events) earlier ending (Ok done) ends staged = by_answer token event events earlier ending ends.0 ends.1 ends.2 staged
  by_stop token events earlier ending (Err over) ends staged = absurd (false≢true (sym (plain_rolled saw token earlier ending ends.0).unstaged ∙ staged))

  by_begun : (earlier first rest : List Own) (begun : Result Token FaceRefused) → Plain [] first → EndsBegin saw seen delivers batch moment sink begun turn after (earlier ++ first) rest → commits (first ++ rest) ≡ true → delivers sink (taken_by (first ++ rest)) moment (Ok tt) after
  by_begun earlier first rest (Err refused) plain ends staged = absurd (false≢true (ap commits (sym ends.0) ∙ sym (plain_then [] first rest plain) ∙ staged))
  by_begun earlier first rest (Ok token) plain ends staged =
      let events = ends.0 in
      let takes = ends.2 in
      let ending = ends.3 in
      let up_to = ends.5 in
      let part : Plain (events ++ []) takes = rw up_to.1.2 (plain_both events [] up_to.1.0 up_to.1.1 (plain_takes seen token events up_to.1.0 up_to.1.3) (plain_end seen token batch events ends.1 up_to.1.1 up_to.1.4)) in
      let last : commits ending ≡ true = sym (plain_then (events ++ []) takes ending part) ∙ ap commits (sym ends.4) ∙ sym (plain_then [] first rest plain) ∙ staged in
      let all : taken_by (first ++ rest) ≡ events ++ taken_by ending =
      taken-append first rest ∙ ap (λ (l : List Content). l ++ taken_by rest) plain.taken ∙ ap taken_by ends.4 ∙ taken-append takes ending ∙ ap (λ (l : List Content). l ++ taken_by ending) (part.taken ∙ append-nil events) in
      rw all (by_stop token events ((earlier ++ first) ++ takes) ending ends.1 ends.6 last)

  -- a turn that commits had delivered all that it took, with success
  pub delivered_first : (earlier own : List Own) → IsTurn saw seen delivers batch moment sink turn after earlier own → commits own ≡ true → delivers sink (taken_by own) moment (Ok tt) after
  delivered_first earlier own is staged = rw is.3 (by_begun earlier is.1 is.2 is.0 (plain_begin seen is.0 is.1 is.4) is.5 (rw is.3 at staged))
