use Rattle.std.proofs.Common.{Ok, Err, refl}
use Rattle.channel_face.specs.declared.replies.FaceRefused.TheVariants as Face
use Rattle.channel_face.specs.OwnCalls.{continues_then}
use Rattle.channel_face.proofs.Going.{continues_one}
use Rattle.channel_face.proofs.Grammar.{staged_take, unstaged_take}
use Rattle.channel_face.proofs.own_face.OwnFaceTakeFace.commit.Goals as goal

pub returns-then-settle-clause-calls : goal.returns-then-settle-clause-calls
returns-then-settle-clause-calls g c =
    let a = g.C.Channel.stands c.args.self.now.channel in
    let b = g.C.Channel.stands c.stage_take.new.self in
    let d = g.C.Channel.stands c.settle.new.channel in
    staged_take (g.C.Channel.tells c.stage_take.new.self) a b d c.args.txn c.in-Ok.ticket (g.C.Channel.moment c.stage_take.new.self) c.settle.result (Ok tt) c.in-Ok.ensures.step (g.met.C.Channel.is_run c.stage_take.new.self) c.settle.ensures.goes (rw c.if-settle.true refl)

pub returns-else-settle-clause-calls : goal.returns-else-settle-clause-calls
returns-else-settle-clause-calls g c =
    let a = g.C.Channel.stands c.args.self.now.channel in
    let b = g.C.Channel.stands c.stage_take.new.self in
    let d = g.C.Channel.stands c.settle.new.channel in
    staged_take (g.C.Channel.tells c.stage_take.new.self) a b d c.args.txn c.in-Ok.ticket (g.C.Channel.moment c.stage_take.new.self) c.settle.result (Err Face.InDoubt) c.in-Ok.ensures.step (g.met.C.Channel.is_run c.stage_take.new.self) c.settle.ensures.goes (rw c.if-settle.false refl)

pub returns-in-Err-clause-calls : goal.returns-in-Err-clause-calls
returns-in-Err-clause-calls g c =
    let a = g.C.Channel.stands c.args.self.now.channel in
    let b = g.C.Channel.stands c.stage_take.new.self in
    let d = g.C.Channel.stands c.roll_back_take.new.channel in
    unstaged_take (g.C.Channel.tells c.stage_take.new.self) a b d c.args.txn c.in-Err.refused.txn c.in-Err.refused.cause (g.C.Channel.moment c.stage_take.new.self) c.in-Err.ensures.step (g.met.C.Channel.is_run c.stage_take.new.self) c.in-Err.ensures.back c.roll_back_take.ensures.goes

pub returns-then-settle-clause-kept : goal.returns-then-settle-clause-kept
returns-then-settle-clause-kept g c =
    let a = g.C.Channel.stands c.args.self.now.channel in
    let b = g.C.Channel.stands c.stage_take.new.self in
    continues_then a b (g.C.Channel.stands c.settle.new.channel) (continues_one a b _ _ c.in-Ok.ensures.step) c.settle.ensures.kept

pub returns-else-settle-clause-kept : goal.returns-else-settle-clause-kept
returns-else-settle-clause-kept g c =
    let a = g.C.Channel.stands c.args.self.now.channel in
    let b = g.C.Channel.stands c.stage_take.new.self in
    continues_then a b (g.C.Channel.stands c.settle.new.channel) (continues_one a b _ _ c.in-Ok.ensures.step) c.settle.ensures.kept

pub returns-in-Err-clause-kept : goal.returns-in-Err-clause-kept
returns-in-Err-clause-kept g c =
    let a = g.C.Channel.stands c.args.self.now.channel in
    let b = g.C.Channel.stands c.stage_take.new.self in
    continues_then a b (g.C.Channel.stands c.roll_back_take.new.channel) (continues_one a b _ _ c.in-Err.ensures.step) c.roll_back_take.ensures.kept
