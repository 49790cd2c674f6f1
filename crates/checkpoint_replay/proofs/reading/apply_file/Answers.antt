use Rattle.std.proofs.Common.{◌++◌, ℕ, List, Option, sym, subst}
use Rattle.flume_host.specs.Told.{Told}
use Rattle.record_form.specs.declared.record.Rec.{Rec}
use Rattle.channel_log.specs.Reader.{HasFile, Remains}
use Rattle.channel_replay.specs.Recover.{fault_lines, record_lines}
use Rattle.channel_replay.proofs.Replaying.{err_log_maps, ok_maps}
use Rattle.ring_replay.specs.Indexing.{GoesThrough}
use Rattle.ring_replay.specs.Folder.{StopsIn}
use Rattle.ring_replay.proofs.Files.{FaultOf}
use Rattle.checkpoint_replay.specs.Reading.{WhereFrom}
use Rattle.checkpoint_replay.proofs.Files.{given, own_goes, own_stops, own_ticks, wrong_header}
use Rattle.checkpoint_replay.proofs.reading.apply_file.Goals as goal

pub returns-in-Ok-clause-ok : goal.returns-in-Ok-clause-ok
returns-in-Ok-clause-ok g c =
    ok_maps c.apply_rest.result
    ((bytes : List ℕ) (items : List (Rec × ℕ)) (fault : Option ℕ) → HasFile (g.D.Disk.told c.begin.new.disk) c.args.file bytes → Remains c.in-Ok.reader bytes items fault → GoesThrough (record_lines c.args.file items ++ fault_lines c.args.file fault) c.begin_file.new.index c.apply_rest.new.index)
    _
    (λ rest bytes own has from.
    let here : HasFile (g.D.Disk.told c.begin.new.disk) c.args.file bytes = subst (λ (o : Option Told). HasFile o c.args.file bytes) (sym c.in-Ok.ensures.same) has in
    let it = given _ c.args.file c.args.at c.in-Ok.reader bytes own (c.in-Ok.ensures.remains, c.in-Ok.ensures.drops, c.in-Ok.ensures.place, c.in-Ok.ensures.tested) has from in
    own_goes c.in-Ok.reader c.args.file bytes own c.args.index.now c.begin_file.new.index c.apply_rest.new.index it (rw c.drops.ensures at c.begin_file.ensures.dropped) (rest bytes it.items it.fault here it.remains))
    c.apply_rest.ensures.ok

pub returns-in-Ok-clause-bad : goal.returns-in-Ok-clause-bad
returns-in-Ok-clause-bad g c =
    err_log_maps c.apply_rest.result (FaultOf (g.D.Disk.told c.begin.new.disk) c.args.file c.in-Ok.reader c.begin_file.new.index)
    (λ f a. WhereFrom (g.D.Disk.told c.args.disk.now) c.args.file c.args.at (λ own. StopsIn own c.args.index.now f a))
    (λ f a rest bytes own has from.
    let here : HasFile (g.D.Disk.told c.begin.new.disk) c.args.file bytes = subst (λ (o : Option Told). HasFile o c.args.file bytes) (sym c.in-Ok.ensures.same) has in
    let it = given _ c.args.file c.args.at c.in-Ok.reader bytes own (c.in-Ok.ensures.remains, c.in-Ok.ensures.drops, c.in-Ok.ensures.place, c.in-Ok.ensures.tested) has from in
    own_stops c.in-Ok.reader c.args.file bytes own c.args.index.now c.begin_file.new.index f a it (rw c.drops.ensures at c.begin_file.ensures.dropped) (rest bytes it.items it.fault here it.remains))
    c.apply_rest.ensures.bad

pub returns-in-Ok-clause-ticks : goal.returns-in-Ok-clause-ticks
returns-in-Ok-clause-ticks g c = λ bytes own has from.
    let here : HasFile (g.D.Disk.told c.begin.new.disk) c.args.file bytes = subst (λ (o : Option Told). HasFile o c.args.file bytes) (sym c.in-Ok.ensures.same) has in
    let it = given _ c.args.file c.args.at c.in-Ok.reader bytes own (c.in-Ok.ensures.remains, c.in-Ok.ensures.drops, c.in-Ok.ensures.place, c.in-Ok.ensures.tested) has from in
    own_ticks c.in-Ok.reader c.args.file bytes own c.args.steps.now c.apply_rest.new.steps it (c.apply_rest.ensures.ticks bytes it.items it.fault here it.remains)

pub returns-in-Err-clause-bad : goal.returns-in-Err-clause-bad
returns-in-Err-clause-bad g c = rw c.of_frame.ensures (wrong_header (g.D.Disk.told c.args.disk.now) c.args.file c.args.at c.args.index.now c.in-Err.refused c.in-Err.ensures.bad)
