-- What the host shows of itself once a run gave all back and reported.
use Rattle.std.proofs.Common.{◌≡◌, ◌∙◌, ◌⊎◌, inl, inr, ℕ, List, Bool, true, false, Option, Result, Ok, Err, refl, ap, arith}
use Rattle.agent_plan.specs.declared.plan.SinkPlan.{SinkPlan}
use Rattle.grouped_sinks.specs.declared.row.SinkRow.{SinkRow}
use Rattle.grouped_sinks.specs.declared.runner.Runner.{Runner}
use Rattle.flume_host.specs.Causes.{Rose}
use Rattle.flume_host.specs.HostState.{HostState}
use Rattle.flume_host.specs.Rolled.{Rolled}
use Rattle.flume_host.specs.Told.{Told}
use Rattle.file_channel.specs.Stands.{FileState}
use Rattle.memory_channel.specs.declared.channel.MemoryChannel.{MemoryChannel}
use Rattle.channel_wishes.specs.Openings.{HostTold}
use Rattle.channel_wishes.specs.declared.wish.ChannelWish.{ChannelWish}
use Rattle.agent_end.specs.declared.ends.ReportRefused.{ReportRefused}
use Rattle.agent_end.specs.declared.ends.ReportRefused.TheVariants as report
use Rattle.agent_sinks.specs.declared.sink.AgentSink.{AgentSink}
use Rattle.avro_ends.specs.Dialing.{DialTold}
use Rattle.agent_run.specs.Run.{IsGivenBack}
use Rattle.run_opening.specs.Streams.{IsReported}
use Rattle.run_settling.specs.declared.settling.Settled.{Settled}
use Rattle.agent_run.proofs.Reading.{NoLess}
use Rattle.agent_run.proofs.Reasons.{GoesBack}

-- the count of faults does not fall in a report
report_later : (failed : Bool) (text : List ℕ) (answer : Result (Unit {0}) ReportRefused) (old new : HostState) → IsReported failed text answer old new → NoLess old.faults new.faults
report_later true text (Ok done) old new is = absurd is
report_later true text (Err report.Fault) old new is = let same = ap (λ (s : HostState). s.faults) is in omega (arith, same)
report_later true text (Err report.NoMemory) old new is = absurd is
report_later false text (Ok done) old new is = let same = is.2 in omega (arith, same)
report_later false text (Err report.Fault) old new is = let rose = is.1 in omega (arith, rose)
report_later false text (Err report.NoMemory) old new is = let same = is.1 in omega (arith, same)

-- where it fails the output had failed before, or the count rises
report_fault : (failed : Bool) (text : List ℕ) (answer : Result (Unit {0}) ReportRefused) (old new : HostState) → IsReported failed text answer old new → answer ≡ Err report.Fault → (failed ≡ true) ⊎ Rose old.faults new.faults
report_fault true text answer old new is failed = inl refl
report_fault false text (Ok done) old new is failed = absurd (cc)
report_fault false text (Err report.Fault) old new is failed = inr is.1
report_fault false text (Err report.NoMemory) old new is failed = absurd (cc)

module _ {R D A B G : Type 0} (rolled : R → Option Rolled) (dial : DialTold A) (told : D → Option Told) (faults : D → ℕ) (plans : List SinkPlan) where
  -- once all was given back the input is as it was; where the report failed, the output had, or a fault was counted
  pub gone_back : (rows : List SinkRow) (wishes : List ChannelWish) (settled : Settled (Runner (AgentSink R A B) G) (D × FileState) MemoryChannel) (failed : Bool)
      (answer : Result (Unit {0}) ReportRefused) (old new : HostTold) → IsGivenBack rolled dial told faults plans rows wishes settled failed answer old new → GoesBack failed answer old.state new.state
  gone_back rows wishes settled failed answer old new is =
      let mid = is.behind_disks.state in
      let same : mid.faults ≡ old.state.faults = ap (λ (s : HostState). s.faults) is.disks.state ∙ ap (λ (s : HostState). s.faults) is.dials.state in
      let later = report_later failed _ answer mid new.state is.report in
      record {
        input = ap (λ (s : HostState). s.input) is.rest ∙ ap (λ (s : HostState). s.input) is.disks.state ∙ ap (λ (s : HostState). s.input) is.dials.state;
        later = omega (arith, same, later);
        fault = λ no. elim (report_fault failed _ answer mid new.state is.report no) [
          | inl before ↦ inl before
          | inr rose ↦ inr (omega (arith, same, rose))
        ];
      }
