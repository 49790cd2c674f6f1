-- What a machine with a journal stands for.
use Rattle.std.specs.Prelude.{take, vec_capacity}
use Rattle.txn_core.specs.Shadow.{Journaled, IsShadow}
use Rattle.txn_core.specs.declared.machine.Machine.TheInside.{Inside}

abbrev pub journaled_of : Inside → Journaled
journaled_of m = record { counted = m.lists; journal = take m.settled m.entries.items }

abbrev pub IsShadowInside : Inside → Type 0
IsShadowInside m = IsShadow m.lists.state m.copies.items m.entries.items m.settled (vec_capacity m.entries)
