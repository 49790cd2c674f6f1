use Rattle.channel_lock.proofs.lock.ChannelLock.new.Given as goal

abbrev pub ghosts-named : goal.ghosts-named
ghosts-named g a = record { opening = g.opening }
