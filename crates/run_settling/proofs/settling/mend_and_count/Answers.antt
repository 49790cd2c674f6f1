use Rattle.two_channels.specs.Shares.{table_of}
use Rattle.run_settling.proofs.GoingOn.{mended_all}
use Rattle.run_settling.proofs.settling.mend_and_count.Goals as goal

pub count_all-requires-clause-all : goal.count_all-requires-clause-all
count_all-requires-clause-all g c =
    mended_all table_of g.A.Channel.stands g.A.Channel.tells g.A.Channel.moment c.args.shares.now c.args.homes.now c.mend_all.new.homes c.mend_all.new.answers
    c.requires.homes c.mend_all.ensures.mended c.requires.all

pub returns-clause-counted : goal.returns-clause-counted
returns-clause-counted g c = record { mended = c.mend_all.new.homes; mends = c.mend_all.ensures.mended; counts = c.count_all.ensures.counted }
