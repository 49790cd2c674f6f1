use Rattle.std.proofs.Common.{◌≡◌, ◌<◌, ℕ, length, get_or, take, false}
use Rattle.std.specs.Prelude.{◌||◌}
use Rattle.shared_channel.proofs.pass.add_marks.Given as goal

abbrev pub invariant-loop-i : goal.invariant-loop-i
invariant-loop-i l = (length l.into.items ≡ length l.fn.into.items) × ((n : ℕ) → n < length l.fn.into.items → get_or l.into.items n false ≡ (get_or l.fn.into.items n false || get_or (take l.i l.from.items) n false))
