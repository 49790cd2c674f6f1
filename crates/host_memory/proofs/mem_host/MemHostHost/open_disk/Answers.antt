use Rattle.std.proofs.Common.{◌∙◌, List, [], Some, None, refl, sym, ap}
use Rattle.host_memory.specs.declared.named.Named.{Named}
use Rattle.host_memory.specs.declared.mem_disk.MemDisk.{MemDisk}
use Rattle.host_memory.specs.Parts.{start}
use Rattle.host_memory.specs.Folders.{place_in, told_home}
use Rattle.host_memory.proofs.Paths.{Out, placed, taken, added, unchanged, unchanged_opened}
use Rattle.host_memory.specs.HostWords.{folders_in}
use Rattle.host_memory.proofs.mem_host.MemHostHost.open_disk.Goals as goal

new_room : (c : goal.After-new) → Out told_home (Some (start [])) c.args.self.now.folders.items c.add_room.new.objects.items c.args.path.now (Some (start []))
new_room c =
    let none = ap (λ (l : List (Named MemDisk)). place_in l c.args.path.now) (sym c.deref.ensures.value) ∙ sym c.place_of.ensures ∙ c.in_default.is in
    let a = c.in-Ok.ensures.added in
    added told_home (Some (start [])) c.args.self.now.folders.items c.add_room.new.objects.items c.args.path.now a.0 none a.1 a.3

pub returns-in-Ok-clause-told : goal.returns-in-Ok-clause-told
returns-in-Ok-clause-told c = (c.new.ensures.told ∙ sym (new_room c).told, c.new.ensures.count)

pub returns-in-Ok-clause-others : goal.returns-in-Ok-clause-others
returns-in-Ok-clause-others c = record { disks = (new_room c).others; opened = (new_room c).others_opened; rolls = refl; rolls_opened = refl }

pub returns-in-Ok-clause-opened : goal.returns-in-Ok-clause-opened
returns-in-Ok-clause-opened c = (new_room c).opened

pub returns-in-Err-clause-state : goal.returns-in-Err-clause-state
returns-in-Err-clause-state c = (c.args.self.now.faults, refl, λ e. cc)

pub returns-then-lacks-clause-state : goal.returns-then-lacks-clause-state
returns-then-lacks-clause-state c = (c.args.self.now.faults, refl, λ e. cc)

pub take_out-requires : goal.take_out-requires
take_out-requires c =
    let is = ap (λ (l : List (Named MemDisk)). place_in l c.args.path.now) (sym c.deref.ensures.value) ∙ sym c.place_of.ensures ∙ c.in-Some.is in
    (placed told_home (Some (start [])) c.args.self.now.folders.items c.args.path.now c.in-Some.index is).below

handed_out : (c : goal.In-Some-take_out) → Out told_home (Some (start [])) c.args.self.now.folders.items c.take_out.new.objects.items c.args.path.now (told_home (Some c.in-Some-take_out.disk))
handed_out c =
    let is = ap (λ (l : List (Named MemDisk)). place_in l c.args.path.now) (sym c.deref.ensures.value) ∙ sym c.place_of.ensures ∙ c.in-Some.is in
    let t = c.take_out.ensures in
    let out = taken told_home (Some (start [])) c.args.self.now.folders.items c.take_out.new.objects.items c.args.path.now c.in-Some.index t.0 is t.1 t.3 in
    let got = sym t.2 ∙ c.in-Some-take_out.is in
    rw got at out

pub returns-in-Some-take_out-clause-told : goal.returns-in-Some-take_out-clause-told
returns-in-Some-take_out-clause-told c = (sym (handed_out c).told, refl)

pub returns-in-Some-take_out-clause-others : goal.returns-in-Some-take_out-clause-others
returns-in-Some-take_out-clause-others c = record { disks = (handed_out c).others; opened = (handed_out c).others_opened; rolls = refl; rolls_opened = refl }

pub returns-in-Some-take_out-clause-opened : goal.returns-in-Some-take_out-clause-opened
returns-in-Some-take_out-clause-opened c = (handed_out c).opened

-- it was out already
was_out : (c : goal.After-self-in-None-1) → Out told_home (Some (start [])) c.args.self.now.folders.items c.take_out.new.objects.items c.args.path.now (told_home None)
was_out c =
    let is = ap (λ (l : List (Named MemDisk)). place_in l c.args.path.now) (sym c.deref.ensures.value) ∙ sym c.place_of.ensures ∙ c.in-Some.is in
    let t = c.take_out.ensures in
    let out = taken told_home (Some (start [])) c.args.self.now.folders.items c.take_out.new.objects.items c.args.path.now c.in-Some.index t.0 is t.1 t.3 in
    let got = sym t.2 ∙ c.in-None.is in
    rw got at out

pub returns-in-None-clause-others : goal.returns-in-None-clause-others
returns-in-None-clause-others c = record { disks = (was_out c).others; opened = (was_out c).others_opened; rolls = refl; rolls_opened = refl }

pub returns-in-None-clause-refused : goal.returns-in-None-clause-refused
returns-in-None-clause-refused c =
    let is = ap (λ (l : List (Named MemDisk)). place_in l c.args.path.now) (sym c.deref.ensures.value) ∙ sym c.place_of.ensures ∙ c.in-Some.is in
    let t = c.take_out.ensures in
    let folders = folders_in c.args.self.now in
    let told = unchanged told_home (Some (start [])) c.args.self.now.folders.items c.take_out.new.objects.items c.args.path.now c.in-Some.index t.0 is t.1 t.3 (sym c.in-None.is ∙ t.2) in
    let opened = unchanged_opened told_home (Some (start [])) c.args.self.now.folders.items c.take_out.new.objects.items c.args.path.now c.in-Some.index t.0 is t.1 t.3 in
    λ j. record { disks = told j; rolls = folders.rolls; disk_opened = opened j; roll_opened = folders.roll_opened }
