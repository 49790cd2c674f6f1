use Rattle.std.proofs.Common.{rules, ◌≡◌, ◌∙◌, List, Bool, Result, String, All, length, sym, ap, subst}
use Rattle.std.proofs.lemmas.List.{places, with_items_is}
use Rattle.std.specs.Vec.{with_items}
use Rattle.std.specs.declared.alloc.Global.{Global}
use Rattle.channel_face.specs.declared.replies.Counts.{Counts}
use Rattle.channel_face.specs.declared.replies.OpenCause.{OpenCause}
use Rattle.shared_channel.specs.Passes.{Known}
use Rattle.channel_lock.specs.Turns.{HasAll}
use Rattle.two_channels.specs.Shares.{table_of}
use Rattle.two_channels.specs.declared.shared.EitherShared.{EitherShared}
use Rattle.run_tracks.specs.Closes.{AreClosed, IsClosed}
use Rattle.run_tracks.specs.Homes.{AreHomes}
use Rattle.run_tracks.specs.Stops.{AreCounted, AreKept, AreMended, IsKept, IsMended}
use Rattle.run_settling.proofs.GoingOn.{kept_all}
use Rattle.run_settling.proofs.settling.settle.Goals as goal

pub drain_sinks-requires-clause-homes : goal.drain_sinks-requires-clause-homes
drain_sinks-requires-clause-homes g c =
    subst (λ (s : List (EitherShared g.row.A.Denot g.row.B.Denot)). AreHomes table_of s c.args.homes.items) (sym c.as_slice.ensures.value) c.requires.homes

pub keep_all-requires-clause-homes : goal.keep_all-requires-clause-homes
keep_all-requires-clause-homes g c =
    let same : c.as_slice.result.now ≡ c.as_slice-2.result.now = c.as_slice.ensures.value ∙ sym c.as_slice-2.ensures.value in
    subst (λ (x : List (EitherShared g.row.A.Denot g.row.B.Denot) × List Known). AreHomes table_of x.0 x.1) (λ i. (same i, sym c.as_mut_slice.ensures.value i)) c.drain_sinks.ensures.homes

pub keep_all-requires-clause-closes : goal.keep_all-requires-clause-closes
keep_all-requires-clause-closes g c = c.requires.keeps ∙ sym c.drain_sinks.ensures.later.as_many ∙ ap length (sym c.as_mut_slice.ensures.value)

pub mend_and_count-requires-clause-homes : goal.mend_and_count-requires-clause-homes
mend_and_count-requires-clause-homes g c =
    let size : length c.keep_all.new.homes ≡ c.drain_sinks.new.homes.len = search (rules, places) in
    let kept = c.as_mut_slice-2.ensures.value ∙ with_items_is c.drain_sinks.new.homes c.keep_all.new.homes size in
    let same : c.as_slice-2.result.now ≡ c.as_slice-3.result.now = c.as_slice-2.ensures.value ∙ sym c.as_slice-3.ensures.value in
    subst (λ (x : List (EitherShared g.row.A.Denot g.row.B.Denot) × List Known). AreHomes table_of x.0 x.1) (λ i. (same i, sym kept i)) c.keep_all.ensures.homes

pub mend_and_count-requires-clause-all : goal.mend_and_count-requires-clause-all
mend_and_count-requires-clause-all g c =
    let size : length c.keep_all.new.homes ≡ c.drain_sinks.new.homes.len = search (rules, places) in
    let kept = c.as_mut_slice-2.ensures.value ∙ with_items_is c.drain_sinks.new.homes c.keep_all.new.homes size in
    let same : c.as_slice.result.now ≡ c.as_slice-2.result.now = c.as_slice.ensures.value ∙ sym c.as_slice-2.ensures.value in
    let homes = subst (λ (x : List (EitherShared g.row.A.Denot g.row.B.Denot) × List Known). AreHomes table_of x.0 x.1) (λ i. (same i, sym c.as_mut_slice.ensures.value i)) c.drain_sinks.ensures.homes in
    subst (λ (l : List Known). All (λ (p : Known). HasAll p.view) l) (sym kept)
    (kept_all {A = g.row.A.Denot} {B = g.row.B.Denot} table_of g.A.Channel.stands g.A.Channel.tells g.A.Channel.moment g.A.Durable.is_laid g.A.Durable.is_pruned
    c.as_slice-2.result.now c.args.keeps.now c.as_mut_slice.result.now c.keep_all.new.homes homes c.keep_all.ensures.kept
    (subst (λ (l : List Known). All (λ (p : Known). HasAll p.view) l) (sym c.as_mut_slice.ensures.value) c.drain_sinks.ensures.all))

pub close_all-requires-clause-homes : goal.close_all-requires-clause-homes
close_all-requires-clause-homes g c =
    let homes = with_items c.drain_sinks.new.homes c.keep_all.new.homes in
    let size : length c.mend_and_count.new.homes ≡ homes.len = search (rules, places) in
    subst (λ (x : List (EitherShared g.row.A.Denot g.row.B.Denot) × List Known). AreHomes table_of x.0 x.1)
    (λ i. (c.as_slice-3.ensures.value i, sym (with_items_is homes c.mend_and_count.new.homes size) i)) c.mend_and_count.ensures.homes

pub close_all-requires-clause-all : goal.close_all-requires-clause-all
close_all-requires-clause-all g c =
    let homes = with_items c.drain_sinks.new.homes c.keep_all.new.homes in
    let size : length c.mend_and_count.new.homes ≡ homes.len = search (rules, places) in
    subst (λ (l : List Known). All (λ (p : Known). HasAll p.view) l) (sym (with_items_is homes c.mend_and_count.new.homes size)) c.mend_and_count.ensures.all

pub returns : goal.returns
returns g c =
    let Z = EitherShared g.row.A.Denot g.row.B.Denot in
    let Kept = IsKept {A = g.row.A.Denot} {B = g.row.B.Denot} g.A.Channel.stands g.A.Channel.tells g.A.Channel.moment g.A.Durable.is_laid g.A.Durable.is_pruned in
    let Mended = IsMended {A = g.row.A.Denot} {B = g.row.B.Denot} g.A.Channel.stands g.A.Channel.tells g.A.Channel.moment in
    let Closed = IsClosed {A = g.row.A.Denot} {B = g.row.B.Denot} g.A.Channel.stands g.A.Channel.tells g.B.Channel.stands g.B.Channel.tells in
    let did = c.mend_and_count.ensures.counted in
    let kept_size : length c.keep_all.new.homes ≡ c.drain_sinks.new.homes.len = search (rules, places) in
    let kept = c.as_mut_slice-2.ensures.value ∙ with_items_is c.drain_sinks.new.homes c.keep_all.new.homes kept_size in
    let homes = with_items c.drain_sinks.new.homes c.keep_all.new.homes in
    let size : length c.mend_and_count.new.homes ≡ homes.len = search (rules, places) in
    let mends_size : length c.mend_and_count.new.mends ≡ c.args.room.mends.len = search (rules, places) in
    let report_size : length c.mend_and_count.new.report ≡ c.args.room.report.len = search (rules, places) in
    record {
      settled = record {
        drained = c.drain_sinks.new.homes.items;
        kept = c.keep_all.new.homes;
        mended = did.mended;
        counted = c.mend_and_count.new.homes;
        goes_on = c.drain_sinks.ensures.later;
        drains = c.drain_sinks.ensures.drained;
        keeps = subst (λ (x : List Z × List Known). AreKept Kept x.0 c.args.keeps.now x.1 c.keep_all.new.homes)
            (λ i. (c.as_slice-2.ensures.value i, c.as_mut_slice.ensures.value i)) c.keep_all.ensures.kept;
        mends = subst (λ (x : List Z × List Known × List (Result Bool OpenCause)). AreMended Mended x.0 x.1 x.2 did.mended)
            (λ i. (c.as_slice-3.ensures.value i, kept i, sym (with_items_is c.args.room.mends c.mend_and_count.new.mends mends_size) i)) did.mends;
        counts = subst (λ (x : List (String Global × Counts) × List (String Global × Counts)). AreCounted did.mended x.0 x.1 c.mend_and_count.new.homes)
            (λ i. (c.as_mut_slice-4.ensures.value i, sym (with_items_is c.args.room.report c.mend_and_count.new.report report_size) i)) did.counts;
        closed = subst (λ (l : List Known). AreClosed Closed c.args.shares.items l c.close_all.new.ends.items) (with_items_is homes c.mend_and_count.new.homes size) c.close_all.ensures.closed;
      };
    }
