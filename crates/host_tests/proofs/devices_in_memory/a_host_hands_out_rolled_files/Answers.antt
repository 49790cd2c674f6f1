use Rattle.std.proofs.Common.{◌∷◌, [], subst, sym}
use Rattle.std.specs.Prelude.{IsTrue}
use Rattle.flume_host.specs.HostState.{Folders}
use Rattle.host_tests.proofs.devices_in_memory.a_host_hands_out_rolled_files.Goals as goal

pub keep_roll-requires : goal.keep_roll-requires
keep_roll-requires g c = subst (λ (f : Folders). IsTrue (f.roll_opened (111 ∷ 117 ∷ 116 ∷ []))) (sym c.in-Err.ensures.refused) c.in-Ok.ensures.opened
