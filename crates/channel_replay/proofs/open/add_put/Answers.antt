use Rattle.channel_replay.proofs.OpenLists.{puts_go_on}
use Rattle.channel_replay.proofs.open.add_put.Goals as goal

pub returns-in-Some : goal.returns-in-Some
returns-in-Some c = puts_go_on c.args.opened.now.items _ c.args.txn c.in-Some.place c.args.event c.push_put.result (rw c.deref.ensures.value at c.in-Some.ensures.found) c.push_put.ensures.puts c.push_put.ensures.takes
