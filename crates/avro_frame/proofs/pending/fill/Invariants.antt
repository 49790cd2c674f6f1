use Rattle.std.proofs.Common.{◌≡◌, ◌+◌, ◌-◌, ◌≤◌, ◌++◌, length, take, vec_len, vec_capacity}
use Rattle.avro_frame.specs.Pending.{IsAt, IsBehind}
use Rattle.avro_frame.proofs.pending.fill.Given as goal

abbrev pub invariant-steps : goal.invariant-steps
invariant-steps l = record {
  here : IsAt l.held.items l.cursor;
  behind : IsBehind l.held.items l.cursor.need l.cursor.due;
  room : vec_len l.held + (length l.piece - l.taken) ≤ vec_capacity l.held;
  within : l.taken ≤ length l.piece;
  items : l.held.items ≡ l.fn.held.items ++ take l.taken l.piece;
}

abbrev pub decreases-steps : goal.decreases-steps
decreases-steps l = length l.piece - l.taken
