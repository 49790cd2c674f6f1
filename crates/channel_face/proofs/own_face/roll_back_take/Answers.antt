use Rattle.channel_face.proofs.Going.{continues_one}
use Rattle.channel_face.proofs.Grammar.{rolled_take}
use Rattle.channel_face.proofs.own_face.roll_back_take.Goals as goal

pub returns-clause-goes : goal.returns-clause-goes
returns-clause-goes g c =
    let a = g.C.Channel.stands c.args.channel.now in
    let b = g.C.Channel.stands c.rollback_take-ended.new.self in
    rolled_take (g.C.Channel.tells c.rollback_take-ended.new.self) a b c.args.txn c.rollback_take-ended.result (g.C.Channel.moment c.rollback_take-ended.new.self) c.rollback_take-ended.ensures (g.met.C.Channel.is_run c.rollback_take-ended.new.self)

pub returns-clause-kept : goal.returns-clause-kept
returns-clause-kept g c = continues_one (g.C.Channel.stands c.args.channel.now) (g.C.Channel.stands c.rollback_take-ended.new.self) _ _ c.rollback_take-ended.ensures
