use Rattle.std.proofs.Common.{◌∙◌, refl, List, Some, sym, ap}
use Rattle.host_memory.specs.declared.named.Named.{Named}
use Rattle.host_memory.specs.declared.mem_roll.MemRoll.{MemRoll}
use Rattle.host_memory.specs.Words.{no_files}
use Rattle.host_memory.specs.Folders.{place_in, rolled_home}
use Rattle.host_memory.proofs.Paths.{Back, placed, given}
use Rattle.host_memory.proofs.mem_host.MemHostHost.keep_roll.Goals as goal

pub give_back-requires : goal.give_back-requires
give_back-requires c =
    let is = ap (λ (l : List (Named MemRoll)). place_in l c.args.path.now) (sym c.deref.ensures.value) ∙ sym c.place_of.ensures ∙ c.unwrap-index.ensures in
    (placed rolled_home (Some no_files) c.args.self.now.rolls.items c.args.path.now c.unwrap-index.result is).below

back : (c : goal.After-give_back) → Back rolled_home (Some no_files) c.args.self.now.rolls.items c.give_back.new.objects.items c.args.path.now (rolled_home (Some c.args.roll))
back c =
    let is = ap (λ (l : List (Named MemRoll)). place_in l c.args.path.now) (sym c.deref.ensures.value) ∙ sym c.place_of.ensures ∙ c.unwrap-index.ensures in
    let g = c.give_back.ensures in
    given rolled_home (Some no_files) c.args.self.now.rolls.items c.give_back.new.objects.items c.args.path.now c.unwrap-index.result g.0 c.args.roll is g.1 g.2

pub returns-clause-told : goal.returns-clause-told
returns-clause-told c = (back c).told

pub returns-clause-others : goal.returns-clause-others
returns-clause-others c = record { rolls = (back c).others; opened = λ p differ. (back c).opened p; disks = refl; disks_opened = refl }

pub returns-clause-opened : goal.returns-clause-opened
returns-clause-opened c = (back c).opened c.args.path.now ∙ c.requires
