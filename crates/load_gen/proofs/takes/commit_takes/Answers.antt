use Rattle.std.proofs.Common.{length, Ok, Err, false, true}
use Rattle.channel_face.specs.Faces.{is_spent_stage}
use Rattle.channel_face.specs.Machine.{RollbackTake, StageTake, takes_of}
use Rattle.std.proofs.Common.{◌≡◌, None}
use Rattle.channel_face.specs.declared.replies.CommitRefused.TheVariants.{InDoubt, Stage}
use Rattle.channel_face.specs.declared.replies.FaceRefused.TheVariants as FaceNo
use Rattle.shared_channel.specs.Calls.{state_seen}
use Rattle.load_gen.specs.Calls.{IsCalled}
use Rattle.load_gen.specs.Parts.{Does, IsCommit}
use Rattle.load_gen.specs.declared.refused.LoadRefused.TheVariants.{Face}
use Rattle.load_gen.proofs.Composing.{in_doubt, unstaged_takes}
use Rattle.load_gen.proofs.Making.{CommitsAs, back_behind, called_up, committed, doubted, makes_as, makes_commit, unstaged}
use Rattle.load_gen.proofs.takes.commit_takes.Goals as goal

pub returns-in-Ok-clause-calls : goal.returns-in-Ok-clause-calls
returns-in-Ok-clause-calls g c =
    let v = c.args.pass.now.view in
    let w = c.commit_take.new.pass.view in
    let by = c.args.pass.now.number in
    let stage = StageTake c.args.txn in
    let reply = Ok c.in-Ok.field-0 in
    makes_as by v w (CommitsAs false (length w.seen) stage c.args.txn reply) (IsCommit stage)
    (makes_commit g.C.Channel.stands g.C.Channel.tells g.C.Channel.moment false v w by stage c.args.txn reply c.in-Ok.ensures.call)
    (λ a is. committed (length w.seen) stage c.args.txn c.in-Ok.field-0 a is)

pub returns-in-Err-InDoubt-clause-calls : goal.returns-in-Err-InDoubt-clause-calls
returns-in-Err-InDoubt-clause-calls g c =
    let v = c.args.pass.now.view in
    let w = c.commit_take.new.pass.view in
    let by = c.args.pass.now.number in
    let stage = StageTake c.args.txn in
    makes_as by v w (CommitsAs false (length w.seen) stage c.args.txn (Err InDoubt)) (Does (IsCommit stage) (length w.seen) (state_seen w) (Err (Face FaceNo.InDoubt)))
    (makes_commit g.C.Channel.stands g.C.Channel.tells g.C.Channel.moment false v w by stage c.args.txn (Err InDoubt) (rw c.in-Err-InDoubt.field-0-is at c.in-Err-InDoubt.ensures.call))
    (λ a is. let d = doubted (length w.seen) stage c.args.txn a is in in_doubt stage (length w.seen) (state_seen w) d.0 d.1 a d.2)

pub returns-in-Err-Stage-clause-calls : goal.returns-in-Err-Stage-clause-calls
returns-in-Err-Stage-clause-calls g c =
    let v = c.args.pass.now.view in
    let w = c.commit_take.new.pass.view in
    let x = c.rollback_take.new.pass.view in
    let by = c.args.pass.now.number in
    let token = c.args.txn in
    let stage = StageTake token in
    let refused = c.in-Err-Stage.field-0-0 in
    let cause = refused.cause in
    let spent = is_spent_stage (Err cause) in
    let other = refused.txn in
    let made = makes_as by v w (CommitsAs spent (length w.seen) stage token (Err (Stage refused))) (λ a. IsCalled (length w.seen) spent (stage (Err cause)) a × (other ≡ token))
    (makes_commit g.C.Channel.stands g.C.Channel.tells g.C.Channel.moment spent v w by stage token (Err (Stage refused)) (rw c.in-Err-Stage.field-0-is at c.in-Err-Stage.ensures.call))
    (λ a is. unstaged spent (length w.seen) stage token other cause a is) in
    let same : other ≡ token = made.2.1 in
    back_behind g.C.Channel.stands g.C.Channel.tells g.C.Channel.moment c.rollback_take.result v w x by c.commit_take.new.pass.number (λ a. IsCalled (length w.seen) spent (stage (Err cause)) a × (other ≡ token)) (Does (IsCommit stage) (length x.seen) (state_seen x) (Err (Face (FaceNo.Stage cause))))
    (λ t. RollbackTake t true) (λ t s. takes_of s t ≡ None) token other made c.in-Err-Stage.ensures.same.1 same c.rollback_take.ensures.call
    (λ up a b is back. unstaged_takes (length x.seen) (state_seen x) token cause a b (called_up (length w.seen) (length x.seen) spent (stage (Err cause)) a up is.0) back)
