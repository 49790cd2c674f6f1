use Rattle.std.proofs.Common.{◌↔◌, List, ℕ, length}
use Rattle.agent_words.specs.Words.{texts}
use Rattle.agent_words.specs.Options.{AreOptions, Asks}
use Rattle.agent_words.proofs.command.options.Given as goal

abbrev pub invariant-loop-asked : goal.invariant-loop-asked
invariant-loop-asked l = (name file : List ℕ) → AreOptions (texts l.words) name file ↔ Asks l.asked name file

abbrev pub decreases-loop-asked : goal.decreases-loop-asked
decreases-loop-asked l = length l.asked.rest.now
