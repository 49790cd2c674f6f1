-- Words that are no command.
use Rattle.std.proofs.Common.{get_or, arith, ◌≡◌, List, ℕ, [], ◌∷◌, codes, ap, sym, subst}
use Rattle.agent_words.specs.Options.{AreOptions}
use Rattle.agent_words.specs.Commands.{IsNone}

-- the second letter of the first word
abbrev second : List (List ℕ) → ℕ
second [] = 0
second (w ∷ ws) = get_or w 1 0

differ : get_or (codes "agent") 1 0 ≡ get_or (codes "check") 1 0 → ⊥
differ e = omega (arith, e)

-- agent with words that are no options for it is no command
pub none_agent : (rest : List (List ℕ)) → ((name file : List ℕ) → ¬ AreOptions rest name file) → IsNone (codes "agent" ∷ rest)
none_agent rest hn = record {
  pipe = λ dir is. cc (is.0);
  agent = λ name file is. hn name file (subst (λ (ws : List (List ℕ)). AreOptions ws name file) (cc (is.1)) is.2);
  check = λ name file is. differ (ap second is.1);
  load = λ n dir is. cc (is.1);
}

-- check with words that are no options for it is no command
pub none_check : (rest : List (List ℕ)) → ((name file : List ℕ) → ¬ AreOptions rest name file) → IsNone (codes "check" ∷ rest)
none_check rest hn = record {
  pipe = λ dir is. cc (is.0);
  agent = λ name file is. differ (ap second (sym is.1));
  check = λ name file is. hn name file (subst (λ (ws : List (List ℕ)). AreOptions ws name file) (cc (is.1)) is.2);
  load = λ n dir is. cc (is.1);
}
