use Rattle.std.proofs.Common.{Ok, Err, refl, length, ◌∙◌}
use Rattle.channel_face.specs.declared.replies.FaceRefused.TheVariants as Face
use Rattle.channel_face.specs.Machine.{RollbackPut}
use Rattle.channel_face.specs.Faces.{picked_events, EndsPuts, IsPutRolledBack, is_spent_begin}
use Rattle.shared_channel.specs.Ports.{Saw}
use Rattle.shared_channel.proofs.Porting.{batch_unbegun, batch_begun, rolls, goes_as, all_seen, all_seen_back}
use Rattle.shared_channel.proofs.shared.Shared.put_batch.Goals as goal

pub returns-in-Err-clause-calls : goal.returns-in-Err-clause-calls
returns-in-Err-clause-calls g c = batch_unbegun g.C.Channel.stands g.C.Channel.tells g.C.Channel.moment c.args.pass.now.view c.begin_put.new.pass.view c.args.pass.now.number (picked_events c.args.batch.now c.args.picked.now) c.in-Err.refused c.in-Err.ensures.call

pub returns-in-Ok-put_picked-clause-calls : goal.returns-in-Ok-put_picked-clause-calls
returns-in-Ok-put_picked-clause-calls g c =
    batch_begun g.C.Channel.stands g.C.Channel.tells g.C.Channel.moment c.args.pass.now.view c.begin_put.new.pass.view c.put_picked.new.pass.view c.finish_puts.new.pass.view c.args.pass.now.number c.begin_put.new.pass.number c.put_picked.new.pass.number (picked_events c.args.batch.now c.args.picked.now) c.in-Ok.txn c.put_picked.new.txn (Ok c.in-Ok-put_picked.field-0) c.finish_puts.result c.in-Ok.ensures.call c.in-Ok.ensures.same.1 (c.in-Ok-put_picked.ensures.same.1 ∙ c.in-Ok.ensures.same.1) c.in-Ok-put_picked.ensures.token
    c.in-Ok-put_picked.ensures.puts c.finish_puts.ensures.calls

pub returns-in-Err-put_picked-clause-calls : goal.returns-in-Err-put_picked-clause-calls
returns-in-Err-put_picked-clause-calls g c =
    let refused = c.in-Err-put_picked.refused in
    let x = c.put_picked.new.pass.view in
    let y = c.rollback_put.new.pass.view in
    let token = c.put_picked.new.txn in
    batch_begun g.C.Channel.stands g.C.Channel.tells g.C.Channel.moment c.args.pass.now.view c.begin_put.new.pass.view x y c.args.pass.now.number c.begin_put.new.pass.number c.put_picked.new.pass.number (picked_events c.args.batch.now c.args.picked.now) c.in-Ok.txn token (Err refused) (Err (Face.Put refused)) c.in-Ok.ensures.call c.in-Ok.ensures.same.1 (c.in-Err-put_picked.ensures.same.1 ∙ c.in-Ok.ensures.same.1) c.in-Err-put_picked.ensures.token c.in-Err-put_picked.ensures.puts
    (goes_as c.put_picked.new.pass.number x y (IsPutRolledBack (Saw g.C.Channel.stands y) token) (λ earlier more. EndsPuts (Saw g.C.Channel.stands y) (length y.seen) token (Err refused) earlier more (Err (Face.Put refused))) (rolls g.C.Channel.stands g.C.Channel.tells g.C.Channel.moment c.rollback_put.result x y c.put_picked.new.pass.number (RollbackPut token) _ c.rollback_put.ensures.call) (λ p h. (h, refl)))

pub returns-in-Err-clause-all : goal.returns-in-Err-clause-all
returns-in-Err-clause-all g c = all_seen g.C.Channel.stands g.C.Channel.tells g.C.Channel.moment (is_spent_begin (Err c.in-Err.refused)) c.args.pass.now.view c.begin_put.new.pass.view c.args.pass.now.number _ c.in-Err.ensures.call

pub returns-in-Err-put_picked-clause-all : goal.returns-in-Err-put_picked-clause-all
returns-in-Err-put_picked-clause-all g c = all_seen_back g.C.Channel.stands g.C.Channel.tells g.C.Channel.moment c.rollback_put.result c.put_picked.new.pass.view c.rollback_put.new.pass.view c.put_picked.new.pass.number _ _ c.rollback_put.ensures.call
