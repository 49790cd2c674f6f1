-- Workers whose passes came home, at later homes.
use Rattle.std.proofs.Common.{List}
use Rattle.shared_channel.specs.Passes.{Known}
use Rattle.keep_worker.specs.declared.worker.KeepWorker.{KeepWorker}
use Rattle.sink_worker.specs.declared.worker.SinkWorker.{SinkWorker}
use Rattle.source_worker.specs.declared.worker.ListenWorker.{ListenWorker}
use Rattle.line_worker.specs.declared.worker.LineWorker.{LineWorker}
use Rattle.run_tracks.specs.Homes.{EachTook}
use Rattle.run_tracks.proofs.Homing.{took_at_later, took_each_later}
use Rattle.run_settling.specs.declared.at_home.AtHome.{AtHome}
use Rattle.run_staff.specs.declared.workers.LineEnded.{LineEnded}
use Rattle.run_working.specs.Ends.{IsKeepEnded, IsLineEnded, IsListenEnded, IsSinkEnded}

module _ {F : Type 0} (pass : F → Known) (old new : List Known) (kept : EachTook old new) where
  -- the pass of a channel's keeper is taken in at the later home, too
  pub keep_ended_later : {C : Type 0} (w : KeepWorker F C) → IsKeepEnded pass old w → IsKeepEnded pass new w
  keep_ended_later w is = took_at_later old new w.channel (pass w.port) kept is

  -- the same sink came back, and its pass is taken in at the later home
  pub sink_ended_later : {S C : Type 0} (w : SinkWorker F S C) (e : SinkWorker AtHome S C) → IsSinkEnded pass old w e → IsSinkEnded pass new w e
  sink_ended_later w e is = record { took = took_at_later old new w.channel (pass w.port) kept is.took; number = is.number; channel = is.channel; sink = is.sink; batch = is.batch; clock = is.clock }

  -- the same listener came back, and its passes are taken in at the later home
  pub listen_ended_later : {N C K : Type 0} (w : ListenWorker F N C K) (n : N) → IsListenEnded pass old w n → IsListenEnded pass new w n
  listen_ended_later w n is = record { took = took_each_later pass old new w.channels.items w.ports.items kept is.took; same = is.same }

  -- what a worker of lines had came back, and its passes are taken in at the later home
  pub line_ended_later : {I O C K : Type 0} (w : LineWorker F I O C K) (e : LineEnded I O) → IsLineEnded pass old w e → IsLineEnded pass new w e
  line_ended_later w e is = record { took = took_each_later pass old new w.channels.items w.ports.items kept is.took; input = is.input; output = is.output; end = is.end }
