use Rattle.std.proofs.Common.{◌≡◌, ◌+◌, drop}
use Rattle.regex_steps.specs.Extract.{serializers_of, extracted}
use Rattle.regex_steps.proofs.groups.set_groups.Given as goal

abbrev pub invariant-loop-i : goal.invariant-loop-i
invariant-loop-i g l =
    extracted (g.F.Groups.group l.found) (l.i + 1) (serializers_of (drop l.i l.serializers)) l.headers
    ≡ extracted (g.F.Groups.group l.found) 1 (serializers_of l.serializers) l.initial.headers
