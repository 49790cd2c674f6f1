use Rattle.channel_wishes.proofs.Gaining.{gained_last}
use Rattle.channel_wishes.proofs.parts.+take_apart.Goals as goal

pub returns-clause-shares : goal.returns-clause-shares
returns-clause-shares g t c =
    gained_last (λ x. x.share) c.args.channels.items c.pop.new.self.items c.in-Some.channel c.args.shares.now.items c.take_apart.new.shares.items c.push_reserved.new.self.items c.in-Some.ensures.items c.take_apart.ensures.shares c.push_reserved.ensures.items

pub returns-clause-homes : goal.returns-clause-homes
returns-clause-homes g t c =
    gained_last (λ x. x.home) c.args.channels.items c.pop.new.self.items c.in-Some.channel c.args.homes.now.items c.take_apart.new.homes.items c.push_reserved-2.new.self.items c.in-Some.ensures.items c.take_apart.ensures.homes c.push_reserved-2.ensures.items

pub returns-clause-others : goal.returns-clause-others
returns-clause-others g t c =
    gained_last (λ x. x.others) c.args.channels.items c.pop.new.self.items c.in-Some.channel c.args.others.now.items c.take_apart.new.others.items c.push_reserved-3.new.self.items c.in-Some.ensures.items c.take_apart.ensures.others c.push_reserved-3.ensures.items
