use Rattle.std.proofs.Common.{◌≡◌, ◌++◌, ℕ, List, Option, refl, sym, subst}
use Rattle.flume_host.specs.Told.{Told}
use Rattle.record_form.specs.declared.record.Rec.{Rec}
use Rattle.channel_log.specs.Frames.{fault_of}
use Rattle.channel_log.specs.Reader.{HasFile, Remains, content_items}
use Rattle.channel_replay.specs.Recover.{begin_lines, fault_lines, file_lines, record_lines}
use Rattle.channel_replay.specs.Replay.{WhereHolds, drop_lines}
use Rattle.channel_replay.proofs.Replaying.{begins_as, err_log_maps, file_ticks, ok_maps}
use Rattle.ring_replay.specs.Indexing.{GoesThrough}
use Rattle.ring_replay.specs.Folder.{StopsIn}
use Rattle.ring_replay.proofs.Files.{FaultOf, file_applies, file_fault, header_fault}
use Rattle.ring_replay.proofs.folder.apply_file.Goals as goal

pub returns-in-Ok-clause-ok : goal.returns-in-Ok-clause-ok
returns-in-Ok-clause-ok g c =
    ok_maps c.apply_rest.result
    ((bytes : List ℕ) (items : List (Rec × ℕ)) (fault : Option ℕ) → HasFile (g.D.Disk.told c.begin.new.disk) c.args.file bytes → Remains c.in-Ok.reader bytes items fault → GoesThrough (record_lines c.args.file items ++ fault_lines c.args.file fault) c.begin_file.new.index c.apply_rest.new.index)
    _
    (λ rest bytes content has holds.
    let here : HasFile (g.D.Disk.told c.begin.new.disk) c.args.file bytes = subst (λ (o : Option Told). HasFile o c.args.file bytes) (sym c.in-Ok.ensures.same) has in
    let drops = c.in-Ok.ensures.drops bytes content has holds in
    let begins : drop_lines c.in-Ok.reader.drops ≡ begin_lines content = begins_as c.in-Ok.reader.drops content drops.0 drops.1 in
    file_applies c.args.file content c.in-Ok.reader.drops c.args.index.now c.begin_file.new.index c.apply_rest.new.index begins (rw c.drops.ensures at c.begin_file.ensures.dropped)
    (rest bytes (content_items content) (fault_of content) here (c.in-Ok.ensures.remains bytes content has holds refl)))
    c.apply_rest.ensures.ok

pub returns-in-Ok-clause-bad : goal.returns-in-Ok-clause-bad
returns-in-Ok-clause-bad g c =
    err_log_maps c.apply_rest.result (FaultOf (g.D.Disk.told c.begin.new.disk) c.args.file c.in-Ok.reader c.begin_file.new.index)
    (λ f at. WhereHolds (g.D.Disk.told c.args.disk.now) c.args.file (λ content. StopsIn (file_lines c.args.file content) c.args.index.now f at))
    (λ f at rest bytes content has holds.
    let here : HasFile (g.D.Disk.told c.begin.new.disk) c.args.file bytes = subst (λ (o : Option Told). HasFile o c.args.file bytes) (sym c.in-Ok.ensures.same) has in
    let drops = c.in-Ok.ensures.drops bytes content has holds in
    let begins : drop_lines c.in-Ok.reader.drops ≡ begin_lines content = begins_as c.in-Ok.reader.drops content drops.0 drops.1 in
    file_fault c.args.file content c.in-Ok.reader.drops c.args.index.now c.begin_file.new.index f at begins (rw c.drops.ensures at c.begin_file.ensures.dropped)
    (rest bytes (content_items content) (fault_of content) here (c.in-Ok.ensures.remains bytes content has holds refl)))
    c.apply_rest.ensures.bad

pub returns-in-Ok-clause-ticks : goal.returns-in-Ok-clause-ticks
returns-in-Ok-clause-ticks g c = λ bytes content has holds.
    let here : HasFile (g.D.Disk.told c.begin.new.disk) c.args.file bytes = subst (λ (o : Option Told). HasFile o c.args.file bytes) (sym c.in-Ok.ensures.same) has in
    file_ticks c.args.file content c.args.steps.now c.apply_rest.new.steps (c.apply_rest.ensures.ticks bytes (content_items content) (fault_of content) here (c.in-Ok.ensures.remains bytes content has holds refl))

pub returns-in-Err-clause-bad : goal.returns-in-Err-clause-bad
returns-in-Err-clause-bad g c = rw c.of_frame.ensures (header_fault (g.D.Disk.told c.args.disk.now) c.args.file c.args.index.now c.in-Err.refused c.in-Err.ensures.bad)
