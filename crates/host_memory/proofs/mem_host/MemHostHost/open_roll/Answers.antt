use Rattle.std.proofs.Common.{◌≡◌, ◌∙◌, List, Some, None, Bool, true, false, refl, sym, ap}
use Rattle.host_memory.specs.declared.named.Named.{Named}
use Rattle.host_memory.specs.declared.mem_roll.MemRoll.{MemRoll}
use Rattle.flume_host.specs.Rolled.{opened}
use Rattle.host_memory.specs.Words.{no_files, rolled_in}
use Rattle.host_memory.specs.Rolls.{files_by, rolled_by}
use Rattle.host_memory.specs.Folders.{place_in, rolled_home}
use Rattle.host_memory.proofs.Paths.{Out, placed, taken, added, unchanged, unchanged_opened}
use Rattle.host_memory.specs.HostWords.{folders_in}
use Rattle.host_memory.proofs.mem_host.MemHostHost.open_roll.Goals as goal

new_room : (c : goal.After-new) → Out rolled_home (Some no_files) c.args.self.now.rolls.items c.add_room.new.objects.items c.args.path.now (Some no_files)
new_room c =
    let none = ap (λ (l : List (Named MemRoll)). place_in l c.args.path.now) (sym c.deref.ensures.value) ∙ sym c.place_of.ensures ∙ c.in_default.is in
    let a = c.in-Ok.ensures.added in
    added rolled_home (Some no_files) c.args.self.now.rolls.items c.add_room.new.objects.items c.args.path.now a.0 none a.1 a.3

pub returns-in-Ok-clause-told : goal.returns-in-Ok-clause-told
returns-in-Ok-clause-told c = (c.new.ensures.rolled ∙ ap opened (sym (new_room c).told), c.new.ensures.count)

pub returns-in-Ok-clause-others : goal.returns-in-Ok-clause-others
returns-in-Ok-clause-others c = record { rolls = (new_room c).others; opened = (new_room c).others_opened; disks = refl; disks_opened = refl }

pub returns-in-Ok-clause-opened : goal.returns-in-Ok-clause-opened
returns-in-Ok-clause-opened c = (new_room c).opened

pub returns-in-Err-clause-state : goal.returns-in-Err-clause-state
returns-in-Err-clause-state c = (c.args.self.now.faults, refl, λ e. cc)

pub returns-then-lacks-clause-state : goal.returns-then-lacks-clause-state
returns-then-lacks-clause-state c = (c.args.self.now.faults, refl, λ e. cc)

pub take_out-requires : goal.take_out-requires
take_out-requires c =
    let is = ap (λ (l : List (Named MemRoll)). place_in l c.args.path.now) (sym c.deref.ensures.value) ∙ sym c.place_of.ensures ∙ c.in-Some.is in
    (placed rolled_home (Some no_files) c.args.self.now.rolls.items c.args.path.now c.in-Some.index is).below

handed_out : (c : goal.In-Some-take_out) → Out rolled_home (Some no_files) c.args.self.now.rolls.items c.take_out.new.objects.items c.args.path.now (rolled_home (Some c.in-Some-take_out.roll))
handed_out c =
    let is = ap (λ (l : List (Named MemRoll)). place_in l c.args.path.now) (sym c.deref.ensures.value) ∙ sym c.place_of.ensures ∙ c.in-Some.is in
    let t = c.take_out.ensures in
    let out = taken rolled_home (Some no_files) c.args.self.now.rolls.items c.take_out.new.objects.items c.args.path.now c.in-Some.index t.0 is t.1 t.3 in
    let got = sym t.2 ∙ c.in-Some-take_out.is in
    rw got at out

opened_again : (roll : MemRoll) → rolled_in (record roll { begun = false; failed = false }) ≡ opened (rolled_in roll)
opened_again roll = by_cases roll.tells roll.begun roll.failed
  where
    by_cases : (tells begun failed : Bool) → rolled_by tells (record { files = files_by roll.files.items; flushed = roll.flushed; begun = false; failed = false }) ≡ opened (rolled_by tells (record { files = files_by roll.files.items; flushed = roll.flushed; begun = begun; failed = failed }))
    by_cases true begun failed = refl
    by_cases false begun failed = refl

pub returns-in-Some-take_out-clause-told : goal.returns-in-Some-take_out-clause-told
returns-in-Some-take_out-clause-told c = (opened_again c.in-Some-take_out.roll ∙ ap opened (sym (handed_out c).told), refl)

pub returns-in-Some-take_out-clause-others : goal.returns-in-Some-take_out-clause-others
returns-in-Some-take_out-clause-others c = record { rolls = (handed_out c).others; opened = (handed_out c).others_opened; disks = refl; disks_opened = refl }

pub returns-in-Some-take_out-clause-opened : goal.returns-in-Some-take_out-clause-opened
returns-in-Some-take_out-clause-opened c = (handed_out c).opened

-- it was out already
was_out : (c : goal.After-self-in-None-1) → Out rolled_home (Some no_files) c.args.self.now.rolls.items c.take_out.new.objects.items c.args.path.now (rolled_home None)
was_out c =
    let is = ap (λ (l : List (Named MemRoll)). place_in l c.args.path.now) (sym c.deref.ensures.value) ∙ sym c.place_of.ensures ∙ c.in-Some.is in
    let t = c.take_out.ensures in
    let out = taken rolled_home (Some no_files) c.args.self.now.rolls.items c.take_out.new.objects.items c.args.path.now c.in-Some.index t.0 is t.1 t.3 in
    let got = sym t.2 ∙ c.in-None.is in
    rw got at out

pub returns-in-None-clause-others : goal.returns-in-None-clause-others
returns-in-None-clause-others c = record { rolls = (was_out c).others; opened = (was_out c).others_opened; disks = refl; disks_opened = refl }

pub returns-in-None-clause-refused : goal.returns-in-None-clause-refused
returns-in-None-clause-refused c =
    let is = ap (λ (l : List (Named MemRoll)). place_in l c.args.path.now) (sym c.deref.ensures.value) ∙ sym c.place_of.ensures ∙ c.in-Some.is in
    let t = c.take_out.ensures in
    let folders = folders_in c.args.self.now in
    let told = unchanged rolled_home (Some no_files) c.args.self.now.rolls.items c.take_out.new.objects.items c.args.path.now c.in-Some.index t.0 is t.1 t.3 (sym c.in-None.is ∙ t.2) in
    let opened = unchanged_opened rolled_home (Some no_files) c.args.self.now.rolls.items c.take_out.new.objects.items c.args.path.now c.in-Some.index t.0 is t.1 t.3 in
    λ j. record { disks = folders.disks; rolls = told j; disk_opened = folders.disk_opened; roll_opened = opened j }
