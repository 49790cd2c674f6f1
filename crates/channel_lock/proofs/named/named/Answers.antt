use Rattle.std.proofs.Common.{rules, refl, arith}
use Rattle.atomic_table.specs.Table.{keeps}
use Rattle.channel_lock.proofs.named.named.Goals as goal

pub load-requires : goal.load-requires
load-requires g c = (search rules, first_of (search rules, omega arith), λ s k wide at small. (g.K.Opens.opening, keeps, tt, tt, refl))
