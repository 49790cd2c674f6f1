use Rattle.std.proofs.Common.{◌∙◌, refl}
use Rattle.record_form.proofs.Pointed.{front}
use Rattle.checkpoint_reading.proofs.Naming.{put_in, sized_put}
use Rattle.checkpoint_reading.proofs.logs.put_txn.Goals as goal

pub returns-clause-put : goal.returns-clause-put
returns-clause-put g c = λ t is.
    put_in t.reads c.args.p c.part.result.now c.in_ok-txn.txn ((c.in-Ok.ensures.there t is).0 c.if-not-there.false)
    (λ bytes has. c.part.ensures ∙ c.in_ok-load.ensures.part.part t (c.in-Ok.ensures.same ∙ is) bytes has)
    (c.in_ok-txn.ensures.put (front c.args.p) refl refl)

pub returns-clause-sized : goal.returns-clause-sized
returns-clause-sized g c = sized_put c.part.result.now c.args.p c.in_ok-txn.txn c.in_ok-txn.ensures.put
