-- What the report of a run says.
use Rattle.std.proofs.Common.{◌≡◌, ◌∙◌, ◌<◌, ℕ, List, Bool, Option, String, length, map, sym, ap, subst, arith}
use Rattle.std.proofs.lemmas.List.{get_or-map, length-map, same_lists}
use Rattle.std.specs.Prelude.{string_bytes}
use Rattle.std.specs.declared.alloc.Global.{Global}
use Rattle.channel_face.specs.History.{Opening, Step}
use Rattle.channel_face.specs.Machine.{State}
use Rattle.channel_face.specs.declared.replies.Counts.{Counts}
use Rattle.agent_plan.specs.declared.plan.ChannelPlan.{ChannelPlan}
use Rattle.flume_host.specs.HostState.{HostState}
use Rattle.flume_host.specs.Told.{Told}
use Rattle.agent_end.specs.declared.draining.ChannelDrain.{ChannelDrain}
use Rattle.agent_words.specs.Report.{report_text}
use Rattle.file_channel.specs.Stands.{FileState}
use Rattle.shared_channel.specs.Passes.{Known}
use Rattle.sink_worker.specs.declared.worker.SinkWorker.{SinkWorker}
use Rattle.two_channels.specs.Shares.{pass_of}
use Rattle.run_opening.specs.Lists.{NamesOf}
use Rattle.agent_run.specs.ReportTold.{ReportTold, counts_seen}
use Rattle.run_opening.specs.Streams.{IsReported}
use Rattle.run_settling.specs.declared.at_home.AtHome.{AtHome}
use Rattle.agent_run.proofs.Course.{Course, Stands, counted_many, mended_many, names_are_many, tells_of, there}
use Rattle.agent_run.proofs.Left.{at_rest, finals_are}
use Rattle.std.specs.Prelude.{Ok, Err, true, false}
use Rattle.std.specs.Io.KnownBytes.{Appends}
use Rattle.std.proofs.Common.{Result}
use Rattle.agent_end.specs.declared.ends.ReportRefused.{ReportRefused}

abbrev Entry : Type 0
Entry = String Global × Counts

module _ {D M S C : Type 0} (told : D → Option Told) (faults : D → ℕ) (moment : D × FileState → ℕ) (laid : D × FileState → State → Type 0) (pruned : D × FileState → Type 0) (memory : M → Opening → List Step → Type 0) (tells' : M → Bool)
    (Drained : SinkWorker AtHome S C → List Known → ChannelDrain → S → List Known → Type 0) (plans : List ChannelPlan)
    (r : Course told faults moment laid pruned memory tells' Drained plans) where
  entries_many : length r.settled.report.items ≡ length plans
  entries_many = r.settles.counts.noted ∙ names_are_many told faults moment laid pruned memory tells' Drained plans r

  -- the entries have the names of the plan's channels
  pub named_entries : NamesOf plans r.settled.report.items
  named_entries =
      let f = λ (entry : Entry). string_bytes entry.0 in
      let after = r.settled.report.items in
      same_lists (map f after) (map f r.names) (length-map after f ∙ r.settles.counts.noted ∙ sym (length-map r.names f))
      (λ k d low.
      let all = entries_many in
      let long = length-map after f in
      let mid = mended_many told faults moment laid pruned memory tells' Drained plans r in
      let names = names_are_many told faults moment laid pruned memory tells' Drained plans r in
      let below : k < length after = omega (arith, low, long) in
      let at : k < length r.settles.mended = omega (arith, below, all, mid) in
      let was : k < length r.names = omega (arith, below, all, names) in
      let p = there r.settles.mended k at in
      let e = there after k below in
      get_or-map f after k e d below ∙ ap string_bytes (r.settles.counts.each k p p e e at).name ∙ sym (get_or-map f r.names k e d was))
      ∙ r.named

  -- and the counts of all calls
  pub counted_entries : map (λ (entry : Entry). entry.1) r.settled.report.items ≡ map counts_seen (map pass_of r.settled.closed.items)
  counted_entries =
      let f = λ (entry : Entry). entry.1 in
      let after = r.settled.report.items in
      let counted = r.settles.counted in
      let many = counted_many told faults moment laid pruned memory tells' Drained plans r in
      let all = entries_many in
      let long = length-map after f in
      let wide = length-map (map at_rest counted) counts_seen ∙ length-map counted at_rest in
      same_lists (map f after) (map counts_seen (map at_rest counted)) (long ∙ all ∙ sym many ∙ sym wide)
      (λ k d low.
      let mid = mended_many told faults moment laid pruned memory tells' Drained plans r in
      let below : k < length after = omega (arith, low, long) in
      let at : k < length r.settles.mended = omega (arith, below, all, mid) in
      let last : k < length counted = omega (arith, below, all, many) in
      let rested : k < length (map at_rest counted) = let l = length-map counted at_rest in omega (arith, last, l) in
      let p = there r.settles.mended k at in
      let e = there after k below in
      let is = r.settles.counts.each k p p e e at in
      get_or-map f after k e d below ∙ is.counts ∙ ap counts_seen (sym is.pass)
      ∙ sym (ap counts_seen (get_or-map at_rest counted k p p last))
      ∙ sym (get_or-map counts_seen (map at_rest counted) k p d rested))
      ∙ ap (map counts_seen) (sym (finals_are (Stands told faults) (tells_of told) memory tells' r.shares counted r.settled.closed.items r.settles.closed))

  reported_told : (failed : Bool) (answer : Result (Unit {0}) ReportRefused) (old new : HostState) → answer ≡ Ok tt → IsReported failed (report_text r.settled.report.items) answer old new
      → Appends old.output new.output (report_text r.settled.report.items) × (new.handed ≡ new.output)
  reported_told true (Ok done) old new is reported = absurd reported
  reported_told false (Ok done) old new is reported = (reported.0, reported.1)
  reported_told failed (Err why) old new is reported = absurd (cc)

  -- where it was written it says so of each channel
  pub report_told : (failed : Bool) (answer : Result (Unit {0}) ReportRefused) (before : Option (List ℕ)) (old new : HostState) → old.output ≡ before → answer ≡ Ok tt
      → IsReported failed (report_text r.settled.report.items) answer old new → ReportTold plans (map pass_of r.settled.closed.items) before new
  report_told failed answer before old new same is reported =
      let wrote = reported_told failed answer old new is reported in
      record {
        entries = r.settled.report.items;
        names = named_entries;
        counts = counted_entries;
        written = subst (λ (x : Option (List ℕ)). Appends x new.output (report_text r.settled.report.items)) same wrote.0;
        handed = wrote.1;
      }
