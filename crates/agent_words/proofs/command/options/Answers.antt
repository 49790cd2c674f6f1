use Rattle.std.proofs.Common.{◌≡◌, ◌≢◌, ◌↔◌, List, ℕ, [], ◌∷◌, Option, Some, None, length, ◌==◌, MatchOption, true, refl, sym, subst, arith}
use Rattle.std.specs.Option.{option_zip}
use Rattle.std.specs.Borrow.{Bor}
use Rattle.std.proofs.lemmas.Bool.{eqb-true}
use Rattle.agent_words.specs.Words.{texts}
use Rattle.agent_words.specs.Options.{AreOptions, GoOn, held}
use Rattle.agent_words.proofs.Steps.{at_end}
use Rattle.agent_words.proofs.command.options.Goals as goal

pub returns-in_err-asked : goal.returns-in_err-asked
returns-in_err-asked c =
    let no : (name file : List ℕ) → ¬ AreOptions (texts c.args.words.now) name file = λ name file asked. c.in_err-asked.ensures name file ((c.loop-asked.invariant name file).0 asked) in
    subst (λ r. MatchOption r ((name file : List ℕ) → ¬ AreOptions (texts c.args.words.now) name file) (λ found. AreOptions (texts c.args.words.now) found.0.now found.1.now)) (sym c.from_residual.ensures) no

-- both were given, or nothing can be asked
both : (words : List (List ℕ)) (n f : Option (Bor (List ℕ))) → ((name file : List ℕ) → AreOptions words name file ↔ GoOn (held n) (held f) [] name file)
    → MatchOption (option_zip n f) ((name file : List ℕ) → ¬ AreOptions words name file) (λ found. AreOptions words found.0.now found.1.now)
both words None None h = λ name file asked. none name (at_end [] [] name file ((h name file).0 asked)).0
  where
    none : (name : List ℕ) → [] ≢ name ∷ []
    none name e = cc
both words None (Some f) h = λ name file asked. none name (at_end [] (f.now ∷ []) name file ((h name file).0 asked)).0
  where
    none : (name : List ℕ) → [] ≢ name ∷ []
    none name e = cc
both words (Some n) None h = λ name file asked. none file (at_end (n.now ∷ []) [] name file ((h name file).0 asked)).1
  where
    none : (name : List ℕ) → [] ≢ name ∷ []
    none name e = cc
both words (Some n) (Some f) h = (h n.now f.now).1 (record { givens = []; words_are = refl; each = tt; one_name = refl; one_file = refl })

nil_at_end : {X : Type 0} (xs : List X) → true ≡ (length xs == 0) → xs ≡ []
nil_at_end [] e = refl
nil_at_end (x ∷ xs) e = absurd (omega (arith, eqb-true (length (x ∷ xs)) 0 (sym e)))

pub returns : goal.returns
returns c =
    let rest = c.loop-asked.asked.rest.now in
    let none : rest ≡ [] = nil_at_end rest c.loop-asked-test.ensures in
    let n = c.loop-asked.asked.name in
    let f = c.loop-asked.asked.file in
    let is = both (texts c.args.words.now) n f (λ name file. subst (λ r. AreOptions (texts c.args.words.now) name file ↔ GoOn (held n) (held f) (texts r) name file) none (c.loop-asked.invariant name file)) in
    subst (λ r. MatchOption r ((name file : List ℕ) → ¬ AreOptions (texts c.args.words.now) name file) (λ found. AreOptions (texts c.args.words.now) found.0.now found.1.now)) (sym c.zip.ensures) is
