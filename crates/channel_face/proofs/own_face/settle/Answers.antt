use Rattle.channel_face.specs.OwnCalls.{continues_none}
use Rattle.channel_face.proofs.Going.{continues_one}
use Rattle.channel_face.proofs.Grammar.{settle_yes, settle_no, settle_doubt}
use Rattle.channel_face.proofs.own_face.settle.Goals as goal

pub returns-in-Yes-clause-goes : goal.returns-in-Yes-clause-goes
returns-in-Yes-clause-goes g c = settle_yes (g.C.Channel.stands c.args.channel.now) c.args.ticket.now c.in-Yes.ensures

pub returns-in-No-clause-goes : goal.returns-in-No-clause-goes
returns-in-No-clause-goes g c =
    let a = g.C.Channel.stands c.args.channel.now in
    let b = g.C.Channel.stands c.flush.new.self in
    settle_no (g.C.Channel.tells c.flush.new.self) a b c.args.ticket.now c.flush.result (g.C.Channel.moment c.flush.new.self) c.is_ok.result c.in-No.ensures c.flush.ensures.step (g.met.C.Channel.is_run c.flush.new.self) c.is_ok.ensures.value

pub returns-in-InDoubt-clause-goes : goal.returns-in-InDoubt-clause-goes
returns-in-InDoubt-clause-goes g c = settle_doubt (g.C.Channel.stands c.args.channel.now) c.args.ticket.now c.in-InDoubt.ensures

pub returns-in-Yes-clause-kept : goal.returns-in-Yes-clause-kept
returns-in-Yes-clause-kept g c = continues_none (g.C.Channel.stands c.args.channel.now)

pub returns-in-No-clause-kept : goal.returns-in-No-clause-kept
returns-in-No-clause-kept g c = continues_one (g.C.Channel.stands c.args.channel.now) (g.C.Channel.stands c.flush.new.self) _ _ c.flush.ensures.step

pub returns-in-InDoubt-clause-kept : goal.returns-in-InDoubt-clause-kept
returns-in-InDoubt-clause-kept g c = continues_none (g.C.Channel.stands c.args.channel.now)
