use Rattle.std.proofs.Common.{◌≡◌, ◌+◌, ◌-◌, ◌≤◌, ◌++◌, vec_len, vec_capacity}
use Rattle.avro_binary.specs.Written.{written_groups}
use Rattle.avro_binary.proofs.write.put_groups.Given as goal

abbrev pub invariant-groups : goal.invariant-groups
invariant-groups l = record {
  items : l.into.items ++ written_groups (10 - l._i) l.rest ≡ l.fn.into.items ++ written_groups 10 l.n;
  len : vec_len l.into ≤ vec_len l.fn.into + l._i;
  room : vec_len l.into + (10 - l._i) ≤ vec_capacity l.into;
  kept : vec_capacity l.fn.into ≤ vec_capacity l.into;
}
