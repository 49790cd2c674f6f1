use Rattle.std.proofs.Common.{sym}
use Rattle.avro_binary.proofs.Collect.{keep_nothing, keep_event, keep_large}
use Rattle.avro_binary.proofs.event.keep.Goals as goal

pub returns-then-is_some : goal.returns-then-is_some
returns-then-is_some c events event before found = keep_nothing events c.args.batch.now c.args.large.now event (sym c.if-is_some.ensures) before

pub returns-in_ok-push_event-in-Event : goal.returns-in_ok-push_event-in-Event
returns-in_ok-push_event-in-Event c events event before found =
    let f = rw c.in-Event.is at found in
    keep_event events c.args.batch.now c.push_event.new.batch c.args.large.now c.in-Event.event event (sym c.if-is_some.ensures) before f.0 f.1 c.in_ok-push_event-in-Event.ensures

pub returns-in-Large : goal.returns-in-Large
returns-in-Large c events event before found =
    let f = rw c.in-Large.is at found in
    keep_large events c.args.batch.now c.args.large.now event c.in-Large.size (sym c.if-is_some.ensures) before f.0 f.1
