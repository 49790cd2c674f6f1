use Rattle.shared_channel.proofs.Porting.{later, mended_seen, mended_goes}
use Rattle.shared_channel.proofs.port.Port.mend.Goals as goal

pub returns-clause-kept : goal.returns-clause-kept
returns-clause-kept g c =
    let p = c.args.self.now.pass in
    let q = c.mend.new.pass in
    later p q (λ earlier more. Unit {0}) c.mend.ensures.same (mended_goes g.C.Channel.stands g.C.Channel.tells g.C.Channel.moment p.view q.view p.number c.mend.result c.mend.ensures.call)

pub returns-clause-all : goal.returns-clause-all
returns-clause-all g c = mended_seen g.C.Channel.stands g.C.Channel.tells g.C.Channel.moment c.args.self.now.pass.view c.mend.new.pass.view c.args.self.now.pass.number c.mend.result c.mend.ensures.call
