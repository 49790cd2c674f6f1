use Rattle.std.proofs.Common.{inl, inr, Option, refl, sym, subst}
use Rattle.flume_host.specs.Told.{Told, WhereTold}
use Rattle.channel_writing.specs.Folders.{IsNextFile}
use Rattle.channel_writing.proofs.Opening.{as_settled, has_settled, refused_from, unsettled}
use Rattle.file_channel.specs.Laid.{IsNextCheck}
use Rattle.file_channel.specs.Opened.{ReplaysTo}
use Rattle.file_channel.proofs.Begun.{refused_read, refused_settle}
use Rattle.file_channel.proofs.Free.{keeps_same, keeps_settled, keeps_then, next_free}
use Rattle.file_channel.proofs.Newest.{found_named, settled_needed}
use Rattle.file_channel.proofs.opening.settle_folder.Goals as goal

pub returns-in-Err-clause-refused : goal.returns-in-Err-clause-refused
returns-in-Err-clause-refused g c = refused_settle (g.D.Disk.told c.args.disk.now) (g.D.Disk.told c.settle.new.self) _ (g.D.Disk.faults c.args.disk.now) (g.D.Disk.faults c.settle.new.self) c.args.capacity (g.met.D.Disk.reads_are_left c.args.disk.now) c.in-Err.ensures.done c.in-Err.ensures.cause.later c.in-Err.ensures.cause.failed

pub returns-in-Err-clause-settled_or : goal.returns-in-Err-clause-settled_or
returns-in-Err-clause-settled_or g c = inl (refl, unsettled (g.D.Disk.told c.args.disk.now) (g.D.Disk.told c.settle.new.self) _ c.in-Err.ensures.done)

pub returns-in-Err-read_folder-clause-refused : goal.returns-in-Err-read_folder-clause-refused
returns-in-Err-read_folder-clause-refused g c =
    let was = g.D.Disk.told c.args.disk.now in
    let mid = g.D.Disk.told c.settle.new.self in
    let e = c.in-Err-read_folder.ensures in
    refused_read was mid (g.D.Disk.told c.read_folder.new.disk) (g.D.Disk.faults c.args.disk.now) (g.D.Disk.faults c.settle.new.self) (g.D.Disk.faults c.read_folder.new.disk) c.args.capacity c.in-Err-read_folder.cause (g.met.D.Disk.reads_are_left c.args.disk.now) (has_settled was mid mid c.in-Ok.ensures.done refl) e.same c.in-Ok.ensures.cause.well e.later
    (λ is. e.fault (let _is = is in cc)) (λ isnt. e.well (λ is. isnt (let _is = is in cc))) e.refused e.counter

pub returns-in-Err-read_folder-clause-settled_or : goal.returns-in-Err-read_folder-clause-settled_or
returns-in-Err-read_folder-clause-settled_or g c =
    let was = g.D.Disk.told c.args.disk.now in
    inr (refused_from was (g.D.Disk.told c.read_folder.new.disk) (has_settled was (g.D.Disk.told c.settle.new.self) (g.D.Disk.told c.read_folder.new.disk) c.in-Ok.ensures.done c.in-Err-read_folder.ensures.same))

pub returns-in-Ok-read_folder-clause-settles : goal.returns-in-Ok-read_folder-clause-settles
returns-in-Ok-read_folder-clause-settles g c = has_settled (g.D.Disk.told c.args.disk.now) (g.D.Disk.told c.settle.new.self) (g.D.Disk.told c.read_folder.new.disk) c.in-Ok.ensures.done c.in-Ok-read_folder.ensures.same

pub returns-in-Ok-read_folder-clause-replays : goal.returns-in-Ok-read_folder-clause-replays
returns-in-Ok-read_folder-clause-replays g c =
    let was = g.D.Disk.told c.args.disk.now in
    let mid = g.D.Disk.told c.settle.new.self in
    as_settled was mid (λ files. ReplaysTo files c.in-Ok-read_folder.found.newest c.in-Ok-read_folder.found.replayed) (has_settled was mid mid c.in-Ok.ensures.done refl) c.in-Ok-read_folder.ensures.replays

pub returns-in-Ok-read_folder-clause-next : goal.returns-in-Ok-read_folder-clause-next
returns-in-Ok-read_folder-clause-next g c = subst (λ (v : Option Told). WhereTold v (λ t. IsNextFile t.reads c.in-Ok-read_folder.found.log)) (sym c.in-Ok-read_folder.ensures.same) c.in-Ok-read_folder.ensures.next

pub returns-in-Ok-read_folder-clause-check : goal.returns-in-Ok-read_folder-clause-check
returns-in-Ok-read_folder-clause-check g c =
    let was = g.D.Disk.told c.args.disk.now in
    let mid = g.D.Disk.told c.settle.new.self in
    as_settled was mid (λ files. IsNextCheck files c.in-Ok-read_folder.found.check) (has_settled was mid mid c.in-Ok.ensures.done refl) c.in-Ok-read_folder.ensures.check

pub returns-in-Ok-read_folder-clause-unused : goal.returns-in-Ok-read_folder-clause-unused
returns-in-Ok-read_folder-clause-unused g c =
    let was = g.D.Disk.told c.args.disk.now in
    let mid = g.D.Disk.told c.settle.new.self in
    let now = g.D.Disk.told c.read_folder.new.disk in
    let found = c.in-Ok-read_folder.found in
    let settles = has_settled was mid now c.in-Ok.ensures.done c.in-Ok-read_folder.ensures.same in
    let before = has_settled was mid mid c.in-Ok.ensures.done refl in
    record {
      free = next_free was now found.check settles (as_settled was mid (λ files. IsNextCheck files found.check) before c.in-Ok-read_folder.ensures.check);
      needed = settled_needed was now found.newest found.log settles
          (as_settled was mid (λ files. IsNextFile files found.log) before c.in-Ok-read_folder.ensures.next)
          (λ t told. found_named t.reads found.newest found.replayed (as_settled was mid (λ files. ReplaysTo files found.newest found.replayed) before c.in-Ok-read_folder.ensures.replays t told).opened);
    }

pub returns-in-Err-clause-keeps : goal.returns-in-Err-clause-keeps
returns-in-Err-clause-keeps g c = keeps_settled (g.D.Disk.told c.args.disk.now) (g.D.Disk.told c.settle.new.self) _ c.in-Err.ensures.done

pub returns-in-Err-read_folder-clause-keeps : goal.returns-in-Err-read_folder-clause-keeps
returns-in-Err-read_folder-clause-keeps g c =
    let was = g.D.Disk.told c.args.disk.now in
    let mid = g.D.Disk.told c.settle.new.self in
    let now = g.D.Disk.told c.read_folder.new.disk in
    keeps_then was mid now (keeps_settled was mid _ c.in-Ok.ensures.done) (keeps_same mid now c.in-Err-read_folder.ensures.same)

pub returns-in-Ok-read_folder-clause-keeps : goal.returns-in-Ok-read_folder-clause-keeps
returns-in-Ok-read_folder-clause-keeps g c =
    let was = g.D.Disk.told c.args.disk.now in
    let mid = g.D.Disk.told c.settle.new.self in
    let now = g.D.Disk.told c.read_folder.new.disk in
    keeps_then was mid now (keeps_settled was mid _ c.in-Ok.ensures.done) (keeps_same mid now c.in-Ok-read_folder.ensures.same)
