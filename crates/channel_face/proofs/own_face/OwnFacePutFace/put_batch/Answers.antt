use Rattle.std.proofs.Common.{Ok, Err, refl}
use Rattle.channel_face.specs.declared.replies.FaceRefused.TheVariants as Face
use Rattle.channel_face.specs.Faces.{picked_events, IsPutRolledBack, EndsPuts}
use Rattle.channel_face.specs.OwnCalls.{Was, continues_then}
use Rattle.channel_face.proofs.Going.{continues_one, goes_as}
use Rattle.channel_face.proofs.Grammar.{batch_unbegun, batch_begun}
use Rattle.channel_face.proofs.own_face.OwnFacePutFace.put_batch.Goals as goal

pub returns-in-Err-clause-calls : goal.returns-in-Err-clause-calls
returns-in-Err-clause-calls g c =
    batch_unbegun (g.C.Channel.tells c.begin_put.new.self) (g.C.Channel.stands c.args.self.now.channel) (g.C.Channel.stands c.begin_put.new.self) (picked_events c.args.batch.now c.args.picked.now) c.in-Err.refused (g.C.Channel.moment c.begin_put.new.self) c.in-Err.ensures (g.met.C.Channel.is_run c.begin_put.new.self)

pub returns-in-Ok-put_picked-clause-calls : goal.returns-in-Ok-put_picked-clause-calls
returns-in-Ok-put_picked-clause-calls g c =
    let events = picked_events c.args.batch.now c.args.picked.now in
    let a = g.C.Channel.stands c.args.self.now.channel in
    let b = g.C.Channel.stands c.begin_put.new.self in
    let d = g.C.Channel.stands c.put_picked.new.channel in
    let e = g.C.Channel.stands c.finish_puts.new.channel in
    batch_begun (g.C.Channel.tells c.begin_put.new.self) a b d e events c.in-Ok.txn c.put_picked.new.txn (g.C.Channel.moment c.begin_put.new.self) (Ok c.in-Ok-put_picked.field-0) c.finish_puts.result c.in-Ok.ensures (g.met.C.Channel.is_run c.begin_put.new.self) c.in-Ok-put_picked.ensures.same
    c.in-Ok-put_picked.ensures.puts c.finish_puts.ensures.goes

pub returns-in-Err-put_picked-clause-calls : goal.returns-in-Err-put_picked-clause-calls
returns-in-Err-put_picked-clause-calls g c =
    let events = picked_events c.args.batch.now c.args.picked.now in
    let a = g.C.Channel.stands c.args.self.now.channel in
    let b = g.C.Channel.stands c.begin_put.new.self in
    let d = g.C.Channel.stands c.put_picked.new.channel in
    let e = g.C.Channel.stands c.roll_back_put.new.channel in
    let refused = c.in-Err-put_picked.refused in
    batch_begun (g.C.Channel.tells c.begin_put.new.self) a b d e events c.in-Ok.txn c.put_picked.new.txn (g.C.Channel.moment c.begin_put.new.self) (Err refused) (Err (Face.Put refused)) c.in-Ok.ensures (g.met.C.Channel.is_run c.begin_put.new.self) c.in-Err-put_picked.ensures.same
    c.in-Err-put_picked.ensures.puts
    (goes_as d e (λ own s more new. IsPutRolledBack (Was e) c.put_picked.new.txn own more) (λ own s more new. EndsPuts (Was e) 0 c.put_picked.new.txn (Err refused) own more (Err (Face.Put refused))) c.roll_back_put.ensures.goes (λ own s x u h. (h, refl)))

pub returns-in-Err-clause-kept : goal.returns-in-Err-clause-kept
returns-in-Err-clause-kept g c = continues_one (g.C.Channel.stands c.args.self.now.channel) (g.C.Channel.stands c.begin_put.new.self) _ _ c.in-Err.ensures

pub returns-in-Ok-put_picked-clause-kept : goal.returns-in-Ok-put_picked-clause-kept
returns-in-Ok-put_picked-clause-kept g c =
    let a = g.C.Channel.stands c.args.self.now.channel in
    let b = g.C.Channel.stands c.begin_put.new.self in
    let d = g.C.Channel.stands c.put_picked.new.channel in
    let e = g.C.Channel.stands c.finish_puts.new.channel in
    continues_then a b e (continues_one a b _ _ c.in-Ok.ensures) (continues_then b d e c.in-Ok-put_picked.ensures.kept c.finish_puts.ensures.kept)

pub returns-in-Err-put_picked-clause-kept : goal.returns-in-Err-put_picked-clause-kept
returns-in-Err-put_picked-clause-kept g c =
    let a = g.C.Channel.stands c.args.self.now.channel in
    let b = g.C.Channel.stands c.begin_put.new.self in
    let d = g.C.Channel.stands c.put_picked.new.channel in
    let e = g.C.Channel.stands c.roll_back_put.new.channel in
    continues_then a b e (continues_one a b _ _ c.in-Ok.ensures) (continues_then b d e c.in-Err-put_picked.ensures.kept c.roll_back_put.ensures.kept)
