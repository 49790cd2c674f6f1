use Rattle.std.proofs.Common.{map, vec_len}
use Rattle.std.specs.Vec.{vec_capacity}
use Rattle.std.specs.Map.Iter.{deref_pair}
use Rattle.record_form.proofs.HeaderWrites.{Writes}
use Rattle.record_form.proofs.writing.put_headers.Given as goal

abbrev pub invariant-loop-key : goal.invariant-loop-key
invariant-loop-key l = Writes l.fn.into.items l.into.items (vec_len l.fn.into) (vec_len l.into) (vec_capacity l.fn.into) (vec_capacity l.into) l.headers (map deref_pair l.yielded) l.key-iterator
