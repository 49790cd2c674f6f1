use Rattle.std.proofs.Common.{◌≡◌, ◌∙◌, ◌↔◌, refl, sym, ap, subst, ℕ, List, [], ◌∷◌, Bool, false, IsTrue, Result, Ok, Err}
use Rattle.std.proofs.lemmas.Bool.{false≢true}
use Rattle.event_core.specs.Content.{Content}
use Rattle.channel_face.specs.Faces.{Gains, IsTakeRolledBack, Own}
use Rattle.channel_face.specs.Machine.{State}
use Rattle.channel_face.specs.Token.{Token}
use Rattle.plug_in.specs.declared.sink.SinkRefused.{SinkRefused}
use Rattle.sink_runner.specs.Turns.{IsHandedOver, not_delivered}
use Rattle.sink_runner.specs.declared.turn.Turn.{Turn}
use Rattle.sink_runner.specs.declared.turn.Turn.TheVariants.{Delivered}
use Rattle.sink_runner.proofs.Turning.{OwnCalls, gains_so, handed_commit}
use Rattle.sink_runner.proofs.turn.hand_over.Goals as goal

-- the sink refused some events, and the transaction was rolled back
handed_refused : {S : Type 0} (saw : List Own → State → Type 0) (seen : ℕ) (delivers : S → List Content → ℕ → Result (Unit {0}) SinkRefused → S → Type 0) (token : Token) (events : List Content) (moment : ℕ) (sink after : S) (turn : Turn)
    (before later : OwnCalls) (why : SinkRefused) (none : Bool) → (IsTrue none ↔ (events ≡ [])) → none ≡ false → delivers sink events moment (Err why) after → turn ≡ not_delivered why
    → Gains before later (IsTakeRolledBack saw token) → Gains before later (IsHandedOver saw seen delivers token events moment sink turn after)
handed_refused saw seen delivers token [] moment sink after turn before later why none empty some done is back start front own here = absurd (false≢true (sym some ∙ empty.1 refl))
handed_refused saw seen delivers token (event ∷ events) moment sink after turn before later why none empty some done is back start front own here =
    let made = back start front own here in (made.0, made.1, (Err why, done, (made.2, is)))

pub returns-then-is_empty-clause-calls : goal.returns-then-is_empty-clause-calls
returns-then-is_empty-clause-calls g c =
    let face = g.T.Face in
    let before = face.own c.args.from.now in
    let after = c.give_up.new.from in
    let sink = c.args.sink.now in
    let turn = c.give_up.result in
    subst (λ (events : List Content). Gains before (face.own after) (IsHandedOver (face.saw after) (face.seen after) g.S.EventSink.delivers c.args.txn events c.args.moment sink turn sink)) (sym (c.is_empty.ensures.0 c.if-is_empty.true))
    (gains_so before (face.own after) (IsTakeRolledBack (face.saw after) c.args.txn) _ c.give_up.ensures.calls (λ earlier x p. (p, c.give_up.ensures.turn, refl)))

pub returns-in-Ok-commit-clause-calls : goal.returns-in-Ok-commit-clause-calls
returns-in-Ok-commit-clause-calls g c =
    let face = g.T.Face in
    let after = c.commit.new.self in
    handed_commit (face.saw after) (face.seen after) g.S.EventSink.delivers c.args.txn c.args.taken.now c.args.moment c.args.sink.now c.deliver.new.self _ (face.own c.args.from.now) (face.own after)
    (Ok tt) c.is_empty.result c.is_empty.ensures c.if-is_empty.false c.in-Ok.ensures.done (ap Delivered c.len.ensures) c.in-Ok-commit.ensures.calls

pub returns-in-Err-commit-clause-calls : goal.returns-in-Err-commit-clause-calls
returns-in-Err-commit-clause-calls g c =
    let face = g.T.Face in
    let after = c.commit.new.self in
    handed_commit (face.saw after) (face.seen after) g.S.EventSink.delivers c.args.txn c.args.taken.now c.args.moment c.args.sink.now c.deliver.new.self c.turn_refused.result (face.own c.args.from.now) (face.own after)
    (Err c.in-Err-commit.refused) c.is_empty.result c.is_empty.ensures c.if-is_empty.false c.in-Ok.ensures.done c.turn_refused.ensures.turn c.in-Err-commit.ensures.calls

pub returns-in-Err-clause-calls : goal.returns-in-Err-clause-calls
returns-in-Err-clause-calls g c =
    let face = g.T.Face in
    let after = c.give_up-in-Err.new.from in
    handed_refused (face.saw after) (face.seen after) g.S.EventSink.delivers c.args.txn c.args.taken.now c.args.moment c.args.sink.now c.deliver.new.self c.give_up-in-Err.result (face.own c.args.from.now) (face.own after)
    c.in-Err.refused c.is_empty.result c.is_empty.ensures c.if-is_empty.false c.in-Err.ensures.done (c.give_up-in-Err.ensures.turn ∙ c.not_delivered.ensures) c.give_up-in-Err.ensures.calls
