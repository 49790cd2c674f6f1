use Rattle.std.proofs.Common.{List, ℕ, string_bytes, MatchOption, subst}
use Rattle.agent_words.specs.Words.{texts}
use Rattle.agent_words.specs.Options.{AreOptions}
use Rattle.agent_words.proofs.Commands.{none_check}
use Rattle.agent_words.proofs.command.check.Goals as goal

pub returns-in-None : goal.returns-in-None
returns-in-None c = none_check (texts c.args.words.now) (subst (λ r. MatchOption r ((name file : List ℕ) → ¬ AreOptions (texts c.args.words.now) name file) (λ both. AreOptions (texts c.args.words.now) (string_bytes both.0) (string_bytes both.1))) c.in-None.is c.in_ok-name.ensures)
