use Rattle.std.proofs.Common.{◌≤◌, ◌-◌, String, true, false, ◌==◌, get_or, ◌≡◌, List, ℕ, [], ◌∷◌, codes, string_bytes, length, drop, take, sym, ap, subst, ◌∙◌, arith}
use Rattle.agent_words.specs.Words.{texts}
use Rattle.agent_words.specs.Commands.{Reads}
use Rattle.std.specs.Str.{bytes_eq}
use Rattle.std.proofs.lemmas.Slice.Eq.{bytes_eq-Decides}
use Rattle.std.specs.declared.alloc.Global.{Global}
use Rattle.agent_words.proofs.Fronts.{front_one, whole_after}
use Rattle.agent_words.proofs.command.read_words.Goals as goal

some : (ws : List (String Global)) → false ≡ (length ws == 0) → 1 ≤ length ws
some [] e = absurd (cc)
some (x ∷ ws) e = omega arith

-- the words begin with the word that was found first
begun : (ws : List (String Global)) (a : String Global) (first word : List ℕ) → 1 ≤ length ws → a ≡ get_or ws 0 a → first ≡ string_bytes a → true ≡ bytes_eq first word
    → word ∷ texts (take (length ws - 1) (drop 1 ws)) ≡ texts ws
begun ws a first word low is value same =
    let found : first ≡ word = (bytes_eq-Decides first word).0 (sym same) in
    ap (λ r. word ∷ texts r) (whole_after 1 ws) ∙ ap (λ (w : List ℕ). w ∷ texts (drop 1 ws)) (sym found ∙ value) ∙ sym (ap texts (front_one ws a low is))

pub returns-then-eq : goal.returns-then-eq
returns-then-eq c = subst (λ (ws : List (List ℕ)). Reads ws c.pipe.result) (begun c.args.words.now c.index-words-0.result c.as_str-first.result.now (codes "pipe") (some c.args.words.now c.if-is_empty.ensures) c.index-words-0.is c.as_str-first.ensures.value c.if-eq.ensures) c.pipe.ensures

pub returns-then-eq-2 : goal.returns-then-eq-2
returns-then-eq-2 c = subst (λ (ws : List (List ℕ)). Reads ws c.agent.result) (begun c.args.words.now c.index-words-0.result c.as_str-first.result.now (codes "agent") (some c.args.words.now c.if-is_empty.ensures) c.index-words-0.is c.as_str-first.ensures.value c.if-eq-2.ensures) c.agent.ensures

pub returns-then-eq-3 : goal.returns-then-eq-3
returns-then-eq-3 c = subst (λ (ws : List (List ℕ)). Reads ws c.check.result) (begun c.args.words.now c.index-words-0.result c.as_str-first.result.now (codes "check") (some c.args.words.now c.if-is_empty.ensures) c.index-words-0.is c.as_str-first.ensures.value c.if-eq-3.ensures) c.check.ensures

pub returns-then-eq-4 : goal.returns-then-eq-4
returns-then-eq-4 c = subst (λ (ws : List (List ℕ)). Reads ws c.load.result) (begun c.args.words.now c.index-words-0.result c.as_str-first.result.now (codes "load") (some c.args.words.now c.if-is_empty.ensures) c.index-words-0.is c.as_str-first.ensures.value c.if-eq-4.ensures) c.load.ensures
