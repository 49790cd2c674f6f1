-- What is counted of a call.
use Rattle.std.specs.Prelude.{ℕ, ◌+◌, Bool}
use Rattle.channel_face.specs.Counters.{capped}
use Rattle.channel_face.specs.declared.replies.Counts.{Counts}
use Rattle.txn_core.specs.declared.calls.Call.{Call}
use Rattle.txn_core.specs.declared.calls.Call.TheVariants.{Put, Take}
use Rattle.txn_core.specs.declared.calls.Reply.{Reply}

abbrev pub quiet : Bool → Reply
quiet done = record { done = done; settled_puts = 0; settled_takes = 0 }

abbrev pub one_for_put : Call → ℕ
one_for_put Put = 1
one_for_put call = 0

abbrev pub one_for_take : Call → ℕ
one_for_take Take = 1
one_for_take call = 0

abbrev pub noted : Counts → Call → Reply → Counts
noted counts call reply = record {
  put_attempts = capped (counts.put_attempts + one_for_put call);
  put_successes = capped (counts.put_successes + reply.settled_puts);
  take_attempts = capped (counts.take_attempts + one_for_take call);
  take_successes = capped (counts.take_successes + reply.settled_takes);
  size = counts.size;
  capacity = counts.capacity;
}
