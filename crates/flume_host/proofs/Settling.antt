-- A listener whose links come back.
use Rattle.std.proofs.Common.{[], ◌∷◌, Option, Some, None, arith, length-append}
use Rattle.flume_host.specs.Links.{LinkTold}
use Rattle.flume_host.specs.Listens.{LinksTold, IsOwed, IsSettled, gave_one, gave_none, kept_in}

-- who took back all and gave one more may be given it back
pub owed : (told : Option LinksTold) → IsSettled told → IsOwed (gave_one told)
owed None is = tt
owed (Some l) is = omega (arith, is)

-- where none came, all are still back
pub settled_none : (told : Option LinksTold) → IsSettled told → IsSettled (gave_none told)
settled_none None is = tt
settled_none (Some l) is = is

-- where one came and was given back, all are back
pub settled_again : (told : Option LinksTold) (now : Option LinkTold) → IsSettled told → IsSettled (kept_in (gave_one told) now)
settled_again None now is = tt
settled_again (Some l) None is = tt
settled_again (Some l) (Some t) is = omega (arith, is, length-append l.kept (t ∷ []))
