use Rattle.shared_channel.proofs.shared.Shared.new.Given as goal

abbrev pub ghost-new : goal.ghost-new
ghost-new g a = g.start

abbrev pub ghost-deal_all : goal.ghost-deal_all
ghost-deal_all g a = g.start
