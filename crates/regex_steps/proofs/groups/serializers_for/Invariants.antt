use Rattle.std.proofs.Common.{take}
use Rattle.regex_steps.specs.Extract.{serializers_of, AreSerializers}
use Rattle.regex_steps.proofs.groups.serializers_for.Given as goal

abbrev pub invariant-loop-group : goal.invariant-loop-group
invariant-loop-group l = AreSerializers (take l.group-index l.groups) (serializers_of l.made.items)
