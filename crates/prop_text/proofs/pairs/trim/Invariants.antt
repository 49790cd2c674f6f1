use Rattle.std.proofs.Common.{◌≡◌, ◌+◌, ◌≤◌, length, take}
use Rattle.std.specs.List.{suffix_len}
use Rattle.prop_text.specs.Lines.{is_white_space}
use Rattle.prop_text.proofs.pairs.trim.Given as goal

abbrev pub invariant-loop-end : goal.invariant-loop-end
invariant-loop-end l =
    (l.end ≤ length l.rest) × (l.end + suffix_len is_white_space l.rest ≡ length l.rest + suffix_len is_white_space (take l.end l.rest))

abbrev pub decreases-loop-end : goal.decreases-loop-end
decreases-loop-end l = l.end
