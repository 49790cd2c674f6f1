use Rattle.std.proofs.Common.{◌≡◌, None, Err, false, length, true}
use Rattle.channel_face.specs.Machine.{RollbackTake, State, takes_of}
use Rattle.channel_face.specs.declared.replies.FaceRefused.TheVariants as FaceNo
use Rattle.channel_face.specs.declared.replies.TakeRefused.TheVariants as TakeNo
use Rattle.shared_channel.specs.Calls.{state_seen}
use Rattle.load_gen.specs.Parts.{Does, IsBackCall}
use Rattle.load_gen.specs.declared.refused.LoadRefused.TheVariants.{Face}
use Rattle.load_gen.proofs.Composing.{not_back}
use Rattle.load_gen.proofs.Making.{EndsAs, makes_as, makes_back}
use Rattle.load_gen.proofs.takes.roll_back.Goals as goal

pub returns-then-rollback_take-clause-calls : goal.returns-then-rollback_take-clause-calls
returns-then-rollback_take-clause-calls g c =
    makes_back g.C.Channel.stands g.C.Channel.tells g.C.Channel.moment true c.args.pass.now.view c.rollback_take.new.pass.view c.args.pass.now.number (RollbackTake c.args.txn true) (λ s. takes_of s c.args.txn ≡ None) (rw c.if-rollback_take.true at c.rollback_take.ensures.call)

pub returns-else-rollback_take-clause-calls : goal.returns-else-rollback_take-clause-calls
returns-else-rollback_take-clause-calls g c =
    let w = c.rollback_take.new.pass.view in
    let token = c.args.txn in
    let IsStale : State → Type 0 = λ s. takes_of s token ≡ None in
    makes_as c.args.pass.now.number c.args.pass.now.view w (EndsAs false (RollbackTake token true) (IsStale (state_seen w))) (Does (IsBackCall token) (length w.seen) (state_seen w) (Err (Face (FaceNo.Take TakeNo.Stale))))
    (makes_back g.C.Channel.stands g.C.Channel.tells g.C.Channel.moment false c.args.pass.now.view w c.args.pass.now.number (RollbackTake token true) IsStale (rw c.if-rollback_take.false at c.rollback_take.ensures.call))
    (λ a is. not_back (length w.seen) (state_seen w) token a is.0 is.1)
