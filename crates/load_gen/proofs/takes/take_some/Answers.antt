use Rattle.std.proofs.Common.{◌≡◌, ◌∙◌, ◌+◌, Bool, true, false, Ok, Err, List, not, refl, ap, subst, arith, length}
use Rattle.channel_face.specs.Machine.{Call}
use Rattle.channel_face.specs.Token.{Token}
use Rattle.shared_channel.specs.Calls.{state_seen}
use Rattle.load_gen.specs.Calls.{Makes}
use Rattle.load_gen.specs.Counted.{TakesSome}
use Rattle.load_gen.specs.Parts.{Does, IsSomeTaken}
use Rattle.load_gen.specs.Runs.{EndsTakes, goes_back}
use Rattle.load_gen.proofs.Composing.{take_unended}
use Rattle.load_gen.proofs.Taking.{taken_few, takes_back, takes_end, takes_unbegun}
use Rattle.load_gen.proofs.Tallies.{counts_batch}
use Rattle.load_gen.proofs.takes.take_some.Goals as goal

not_not : (b : Bool) → not (not b) ≡ b
not_not true = refl
not_not false = refl

pub returns-in-Err-clause-calls : goal.returns-in-Err-clause-calls
returns-in-Err-clause-calls g c =
    takes_unbegun g.C.Channel.stands g.C.Channel.tells g.C.Channel.moment c.args.pass.now.view c.begin_take.new.pass.view c.args.pass.now.number c.args.tally.now.batches c.in-Err.refused c.in-Err.ensures.call

pub add_batch-requires-clause-most : goal.add_batch-requires-clause-most
add_batch-requires-clause-most g c =
    let made = c.in-Ok-take_events.ensures.takes.2 in
    let few = taken_few c.in-Ok.txn 50 made.0 _ made.2 in
    let n = made.1 in
    omega (arith, few, n)

pub returns-in-Ok-end_takes-clause-calls : goal.returns-in-Ok-end_takes-clause-calls
returns-in-Ok-end_takes-clause-calls g c =
    let v = c.args.pass.now.view in
    let w = c.begin_take.new.pass.view in
    let x = c.take_events.new.pass.view in
    let y = c.end_takes.new.pass.view in
    let token = c.in-Ok.txn in
    let old = c.args.tally.now in
    let mid = c.take_events.new.tally in
    let new = c.add_batch.new.self in
    let kept = c.keeps_next-kept.result in
    let count = c.in-Ok-take_events.count in
    let one = c.in-Ok.ensures.same.1 in
    let two = c.in-Ok-take_events.ensures.same.1 ∙ one in
    let is : kept ≡ not (goes_back (old.batches + 1)) = c.keeps_next-kept.ensures in
    let back = goes_back (old.batches + 1) in
    let n = c.take_events.new.pass.number in
    let one_end : Makes n x y (EndsTakes back c.take_events.new.txn) = subst (λ (b : Bool). Makes n x y (EndsTakes b c.take_events.new.txn)) (ap not is ∙ not_not back) c.in-Ok-end_takes.ensures.calls in
    let ends : Makes n x y (EndsTakes back token) = subst (λ (t : Token). Makes n x y (EndsTakes back t)) c.in-Ok-take_events.ensures.token one_end in
    takes_end g.C.Channel.stands g.C.Channel.tells g.C.Channel.moment v w x y c.args.pass.now.number c.begin_take.new.pass.number c.take_events.new.pass.number (length x.seen) old.batches token kept old mid count (EndsTakes (goes_back (old.batches + 1)) token)
    (TakesSome (length y.seen) (state_seen y) old new (Ok tt)) c.in-Ok.ensures.call one c.in-Ok-take_events.ensures.takes two ends
    (λ its b taken q. (taken.0, (token, its, b, taken.2, q, refl), λ takes t. counts_batch kept takes taken.0 old mid new count is t taken.1 taken.3 c.add_batch.ensures))

pub returns-in-Err-end_takes-clause-calls : goal.returns-in-Err-end_takes-clause-calls
returns-in-Err-end_takes-clause-calls g c =
    let v = c.args.pass.now.view in
    let w = c.begin_take.new.pass.view in
    let x = c.take_events.new.pass.view in
    let y = c.end_takes.new.pass.view in
    let token = c.in-Ok.txn in
    let old = c.args.tally.now in
    let mid = c.take_events.new.tally in
    let why = c.in-Err-end_takes.refused in
    let kept = c.keeps_next-kept.result in
    let count = c.in-Ok-take_events.count in
    let back = goes_back (old.batches + 1) in
    let one = c.in-Ok.ensures.same.1 in
    let two = c.in-Ok-take_events.ensures.same.1 ∙ one in
    let is : kept ≡ not back = c.keeps_next-kept.ensures in
    let Q : List Call → Type 0 = Does (EndsTakes back token) (length y.seen) (state_seen y) (Err why) in
    let n = c.take_events.new.pass.number in
    let one_end : Makes n x y (Does (EndsTakes back c.take_events.new.txn) (length y.seen) (state_seen y) (Err why)) =
    subst (λ (b : Bool). Makes n x y (Does (EndsTakes b c.take_events.new.txn) (length y.seen) (state_seen y) (Err why))) (ap not is ∙ not_not back) c.in-Err-end_takes.ensures.calls in
    let ends : Makes n x y Q = subst (λ (t : Token). Makes n x y (Does (EndsTakes back t) (length y.seen) (state_seen y) (Err why))) c.in-Ok-take_events.ensures.token one_end in
    takes_end g.C.Channel.stands g.C.Channel.tells g.C.Channel.moment v w x y c.args.pass.now.number c.begin_take.new.pass.number c.take_events.new.pass.number (length x.seen) old.batches token kept old mid count Q
    (Does (IsSomeTaken old.batches) (length y.seen) (state_seen y) (Err why)) c.in-Ok.ensures.call one c.in-Ok-take_events.ensures.takes two ends
    (λ its b taken q. take_unended (EndsTakes back token) old.batches (length y.seen) (state_seen y) token why taken.0 its b taken.2 (λ l p. p) q)

pub returns-in-Err-take_events-clause-calls : goal.returns-in-Err-take_events-clause-calls
returns-in-Err-take_events-clause-calls g c =
    let v = c.args.pass.now.view in
    let w = c.begin_take.new.pass.view in
    let x = c.take_events.new.pass.view in
    let y = c.rollback_take.new.pass.view in
    let one = c.in-Ok.ensures.same.1 in
    let two = c.in-Err-take_events.ensures.same.1 ∙ one in
    takes_back g.C.Channel.stands g.C.Channel.tells g.C.Channel.moment v w x y c.args.pass.now.number c.begin_take.new.pass.number c.take_events.new.pass.number c.args.tally.now.batches c.rollback_take.result c.in-Ok.txn c.take_events.new.txn c.keeps_next-kept.result c.args.tally.now c.take_events.new.tally
    c.in-Err-take_events.refused c.in-Ok.ensures.call one c.in-Err-take_events.ensures.takes two c.in-Err-take_events.ensures.token c.rollback_take.ensures.call
