-- Calls of a face, one after the other, in a turn.
use Rattle.std.proofs.Common.{◌≡◌, ◌∙◌, ◌<◌, ◌≤◌, ◌⊎◌, inl, inr, ap, sym, refl, subst, ℕ, List, [], ◌∷◌, ◌++◌, length, take, append-nil, append_assoc, Bool, true, false, IsTrue, ◌↔◌, Option, Some, None, Result, Ok, Err, arith}
use Rattle.std.proofs.lemmas.List.{length-append, take-append-le, take_all}
use Rattle.std.proofs.lemmas.Bool.{cases_order, false≢true}
use Rattle.event_core.specs.Content.{Content}
use Rattle.channel_face.specs.Faces.{Own, Gains, IsMade, IsTakeBegun, IsTake, IsTakeCommit, IsTakeRolledBack}
use Rattle.channel_face.specs.History.{Opening, Step}
use Rattle.channel_face.specs.Machine.{State, Call}
use Rattle.channel_face.specs.Token.{Token}
use Rattle.channel_face.specs.declared.replies.FaceRefused.{FaceRefused}
use Rattle.plug_in.specs.declared.sink.SinkRefused.{SinkRefused}
use Rattle.sink_runner.specs.declared.turn.Turn.{Turn}
use Rattle.sink_runner.specs.Turns.{HasRoom, HadRoom, AreTaken, EndsTaking, AreTakenUpTo, IsHandedOver, IsTurn, delivered}

-- what a face says of its own calls after an opening and earlier calls
abbrev pub OwnCalls : Type 1
OwnCalls = Opening → List Step → List Own → Type 0

-- calls, and then further ones
pub gains_then : (before between later : OwnCalls) (P Q R : List Own → List Own → Type 0) → Gains before between P → Gains between later Q → ((earlier x y : List Own) → P earlier x → Q (earlier ++ x) y → R earlier (x ++ y)) → Gains before later R
gains_then before between later P Q R first second join start front calls is =
    let a = first start front calls is in
    let b = second start front (calls ++ a.0) a.1 in
    (a.0 ++ b.0, subst (later start front) (append_assoc calls a.0 b.0) b.1, join calls a.0 b.0 a.2 b.2)

-- the same of three rows of calls
pub gains_three : (a b c d : OwnCalls) (P Q R T : List Own → List Own → Type 0) → Gains a b P → Gains b c Q → Gains c d R → ((earlier x y z : List Own) → P earlier x → Q (earlier ++ x) y → R ((earlier ++ x) ++ y) z → T earlier (x ++ (y ++ z))) → Gains a d T
gains_three a b c d P Q R T first second third join =
    let Both : List Own → List Own → Type 0 = λ earlier l. ((y z : List Own) × (l ≡ y ++ z) × Q earlier y × R (earlier ++ y) z) in
    let both : Gains b d Both = gains_then b c d Q R Both second third (λ earlier y z p q. (y, z, refl, p, q)) in
    gains_then a b d P Both T first both (λ earlier x l p q. subst (λ (m : List Own). T earlier (x ++ m)) (sym q.2) (join earlier x q.0 q.1 p q.3 q.4))

-- of the calls that a face gained, what follows from P holds too
pub gains_so : (before later : OwnCalls) (P Q : List Own → List Own → Type 0) → Gains before later P → ((earlier x : List Own) → P earlier x → Q earlier x) → Gains before later Q
gains_so before later P Q gained weaker start front calls is = let a = gained start front calls is in (a.0, a.1, weaker calls a.0 a.2)

made_later : (seen later : ℕ) → seen ≤ later → (spent : Bool) (call : Call) (s : State) (own : List Own) → IsMade seen spent call s own → IsMade later spent call s own
made_later seen later up false call s own is = is
made_later seen later up true call s own is = (is.0, omega (arith, is.1))

-- the begin of a transaction of takes stays one when more calls were seen
pub begun_later : (seen later : ℕ) → seen ≤ later → (begun : Result Token FaceRefused) (own : List Own) → IsTakeBegun seen begun own → IsTakeBegun later begun own
begun_later seen later up begun own is = (is.0, is.1, made_later seen later up _ _ is.1 own is.2, is.3)

-- a take stays one when more calls were seen
pub take_later : (seen later : ℕ) → seen ≤ later → (token : Token) (taken : Result (Option Content) FaceRefused) (own : List Own) → IsTake seen token taken own → IsTake later token taken own
take_later seen later up token taken own is = (is.0, is.1, made_later seen later up _ _ is.1 own is.2, is.3)

-- the takes of several events stay so when more calls were seen
pub taken_later : (seen later : ℕ) → seen ≤ later → (token : Token) (events : List Content) (own : List Own) → AreTaken seen token events own → AreTaken later token events own
taken_later seen later up token [] own is = is
taken_later seen later up token (event ∷ events) own is = (is.0, is.1, is.2, take_later seen later up token (Ok (Some event)) is.0 is.3, taken_later seen later up token events is.1 is.4)

-- the end of a taking stays so when more calls were seen
pub ends_later : (seen later : ℕ) → seen ≤ later → (token : Token) (batch : ℕ) (events : List Content) (stop : Result (Unit {0}) Turn) (own : List Own) → EndsTaking seen token batch events stop own → EndsTaking later token batch events stop own
ends_later seen later up token batch events (Ok done) own (inl full) = inl full
ends_later seen later up token batch events (Ok done) own (inr none) = inr (none.0, take_later seen later up token (Ok None) own none.1)
ends_later seen later up token batch events (Err turn) own (inl refused) = inl (refused.0, (refused.1.0, take_later seen later up token (Err refused.1.0) own refused.1.1, refused.1.2))
ends_later seen later up token batch events (Err turn) own (inr memory) = inr memory

-- the takes up to a batch's size stay so when more calls were seen
pub up_to_later : (seen later : ℕ) → seen ≤ later → (token : Token) (batch : ℕ) (events : List Content) (stop : Result (Unit {0}) Turn) (own : List Own) → AreTakenUpTo seen token batch events stop own → AreTakenUpTo later token batch events stop own
up_to_later seen later up token batch events stop own is =
    (is.0, (is.1.0, is.1.1, is.1.2, taken_later seen later up token events is.1.0 is.1.3, ends_later seen later up token batch events stop is.1.1 is.1.4))

-- one more event
pub taken_more : (seen : ℕ) (token : Token) (events : List Content) (event : Content) (own last : List Own) → AreTaken seen token events own → IsTake seen token (Ok (Some event)) last → AreTaken seen token (events ++ event ∷ []) (own ++ last)
taken_more seen token [] event own last are is =
    (last, [], ap (λ (l : List Own). l ++ last) are ∙ sym (append-nil last), is, refl)
taken_more seen token (first ∷ events) event own last are is =
    (are.0, are.1 ++ last, ap (λ (l : List Own). l ++ last) are.2 ∙ append_assoc are.0 are.1 last, are.3, taken_more seen token events event are.1 last are.4 is)

room_at : (batch : ℕ) (events : List Content) → HadRoom batch events → HasRoom batch events → (k : ℕ) → (k ≡ length events) ⊎ ((k < length events) ⊎ (length events < k)) → k ≤ length events → HasRoom batch (take k events)
room_at batch events had has k (inl all) within = subst (HasRoom batch) (sym (ap (λ (n : ℕ). take n events) all ∙ take_all (length events) events (omega arith))) has
room_at batch events had has k (inr (inl below)) within = had k below
room_at batch events had has k (inr (inr above)) within = absurd (omega arith)

-- one event more was taken while there was room
pub room_more : (batch : ℕ) (events : List Content) (event : Content) → HadRoom batch events → HasRoom batch events → HadRoom batch (events ++ event ∷ [])
room_more batch events event had has k below =
    let within : k ≤ length events = omega (arith, below, length-append events (event ∷ [])) in
    subst (HasRoom batch) (sym (take-append-le k events (event ∷ []) within)) (room_at batch events had has k (cases_order k (length events)) within)

module _ {S : Type 0} (saw : List Own → State → Type 0) (delivers : S → List Content → ℕ → Result (Unit {0}) SinkRefused → S → Type 0) (batch moment : ℕ) (sink after : S) (first second seen : ℕ) (early : first ≤ seen) (late : second ≤ seen) (token : Token) (turn : Turn) where
  -- what was taken is handed over
  pub turn_handed : (events : List Content) (earlier x y z : List Own) → IsTakeBegun first (Ok token) x → AreTakenUpTo second token batch events (Ok tt) y → IsHandedOver saw seen delivers token events moment sink turn after ((earlier ++ x) ++ y) z → IsTurn saw seen delivers batch moment sink turn after earlier (x ++ (y ++ z))
  turn_handed events earlier x y z begun taken handed =
      (Ok token, x, y ++ z, refl, begun_later first seen early (Ok token) x begun, (events, Ok tt, y, z, refl, up_to_later second seen late token batch events (Ok tt) y taken, handed))

  -- the turn is over
  pub turn_over : (earlier x y z : List Own) → IsTakeBegun first (Ok token) x → ((events : List Content) × AreTakenUpTo second token batch events (Err turn) y) → IsTakeRolledBack saw token ((earlier ++ x) ++ y) z → after ≡ sink → IsTurn saw seen delivers batch moment sink turn after earlier (x ++ (y ++ z))
  turn_over earlier x y z begun taken rolled same =
      (Ok token, x, y ++ z, refl, begun_later first seen early (Ok token) x begun, (taken.0, Err turn, y, z, refl, up_to_later second seen late token batch taken.0 (Err turn) y taken.1, (rolled, refl, same)))

-- the commit was answered so after a delivery of some events
pub handed_commit : {S : Type 0} (saw : List Own → State → Type 0) (seen : ℕ) (delivers : S → List Content → ℕ → Result (Unit {0}) SinkRefused → S → Type 0) (token : Token) (events : List Content) (moment : ℕ) (sink after : S) (turn : Turn)
    (before later : OwnCalls) (committed : Result (Unit {0}) FaceRefused) (none : Bool) → (IsTrue none ↔ (events ≡ [])) → none ≡ false → delivers sink events moment (Ok tt) after → turn ≡ delivered (length events) committed
    → Gains before later (IsTakeCommit saw seen token committed) → Gains before later (IsHandedOver saw seen delivers token events moment sink turn after)
handed_commit saw seen delivers token [] moment sink after turn before later committed none empty some done is commit start front own here = absurd (false≢true (sym some ∙ empty.1 refl))
handed_commit saw seen delivers token (event ∷ events) moment sink after turn before later committed none empty some done is commit start front own here =
    let made = commit start front own here in (made.0, made.1, (Ok tt, done, (committed, made.2, is)))

module _ (a b c : OwnCalls) (before seen : ℕ) (up : before ≤ seen) (token : Token) (events : List Content) (so_far : Gains a b (λ earlier. AreTaken before token events)) where
  -- a take gave one more event
  pub one_taken : (event : Content) → Gains b c (λ earlier. IsTake seen token (Ok (Some event))) → Gains a c (λ earlier. AreTaken seen token (events ++ event ∷ []))
  one_taken event more =
      gains_then a b c (λ earlier. AreTaken before token events) (λ earlier. IsTake seen token (Ok (Some event))) (λ earlier. AreTaken seen token (events ++ event ∷ [])) so_far more
      (λ earlier x y p q. taken_more seen token events event x y (taken_later before seen up token events x p) q)

  -- the takes ended
  pub taken_all : (batch : ℕ) (stop : Result (Unit {0}) Turn) (P : List Own → Type 0) → HadRoom batch events → Gains b c (λ earlier. P) → ((y : List Own) → P y → EndsTaking seen token batch events stop y) → Gains a c (λ earlier. AreTakenUpTo seen token batch events stop)
  taken_all batch stop P had last ends =
      gains_then a b c (λ earlier. AreTaken before token events) (λ earlier. P) (λ earlier. AreTakenUpTo seen token batch events stop) so_far last
      (λ earlier x y p q. (had, (x, y, refl, taken_later before seen up token events x p, ends y q)))
