use Rattle.channel_replay.proofs.OpenLists.{takes_go_on}
use Rattle.channel_replay.proofs.open.add_take.Goals as goal

pub returns-in-Some : goal.returns-in-Some
returns-in-Some c = takes_go_on c.args.opened.now.items _ c.args.txn c.in-Some.place c.args.number c.push_take.result (rw c.deref.ensures.value at c.in-Some.ensures.found) c.push_take.ensures.takes c.push_take.ensures.puts
