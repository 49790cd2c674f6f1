use Rattle.std.proofs.Common.{◌∙◌, refl, List, [], Some, sym, ap}
use Rattle.host_memory.specs.declared.named.Named.{Named}
use Rattle.host_memory.specs.declared.mem_disk.MemDisk.{MemDisk}
use Rattle.host_memory.specs.Parts.{start}
use Rattle.host_memory.specs.Folders.{place_in, told_home}
use Rattle.host_memory.proofs.Paths.{Back, placed, given}
use Rattle.host_memory.proofs.mem_host.MemHostHost.keep_disk.Goals as goal

pub give_back-requires : goal.give_back-requires
give_back-requires c =
    let is = ap (λ (l : List (Named MemDisk)). place_in l c.args.path.now) (sym c.deref.ensures.value) ∙ sym c.place_of.ensures ∙ c.unwrap-index.ensures in
    (placed told_home (Some (start [])) c.args.self.now.folders.items c.args.path.now c.unwrap-index.result is).below

back : (c : goal.After-give_back) → Back told_home (Some (start [])) c.args.self.now.folders.items c.give_back.new.objects.items c.args.path.now (told_home (Some c.args.disk))
back c =
    let is = ap (λ (l : List (Named MemDisk)). place_in l c.args.path.now) (sym c.deref.ensures.value) ∙ sym c.place_of.ensures ∙ c.unwrap-index.ensures in
    let g = c.give_back.ensures in
    given told_home (Some (start [])) c.args.self.now.folders.items c.give_back.new.objects.items c.args.path.now c.unwrap-index.result g.0 c.args.disk is g.1 g.2

pub returns-clause-told : goal.returns-clause-told
returns-clause-told c = (back c).told

pub returns-clause-others : goal.returns-clause-others
returns-clause-others c = record { disks = (back c).others; opened = λ p differ. (back c).opened p; rolls = refl; rolls_opened = refl }

pub returns-clause-opened : goal.returns-clause-opened
returns-clause-opened c = (back c).opened c.args.path.now ∙ c.requires
