use Rattle.std.proofs.Common.{length, ◌+◌, ◌≤◌, vec_len, vec_capacity}
use Rattle.avro_frame.proofs.Walk.{Joins}
use Rattle.avro_frame.proofs.pending.join.Given as goal

abbrev pub invariant-buffers : goal.invariant-buffers
invariant-buffers l = record {
  joins : Joins l.bytes l.rest l.payload.items;
  room : vec_len l.payload + length l.rest ≤ vec_capacity l.payload;
}

abbrev pub decreases-buffers : goal.decreases-buffers
decreases-buffers l = length l.rest
