use Rattle.std.proofs.Common.{◌≡◌, ◌≢◌, ◌↔◌, ◌<◌, ◌≤◌, ◌-◌, List, ℕ, [], ◌∷◌, Option, Some, None, String, string_bytes, length, drop, take, get_or, MatchOption, true, false, refl, sym, ap, subst, ◌∙◌, arith}
use Rattle.std.specs.declared.alloc.Global.{Global}
use Rattle.agent_words.specs.Words.{texts, flag_of}
use Rattle.agent_words.specs.Options.{GoOn, Asks, held}
use Rattle.agent_words.specs.declared.command.Asked.{Asked}
use Rattle.agent_words.specs.contracts.flag.FlagPartialEq.TheImpl.{eq-value}
use Rattle.agent_words.specs.declared.flag.Flag.{Flag}
use Rattle.agent_words.specs.declared.flag.Flag.TheVariants as flags
use Rattle.agent_words.proofs.Fronts.{front_one, front_two, whole_after}
use Rattle.agent_words.proofs.Steps.{no_option, defined, no_value}
use Rattle.agent_words.proofs.command.Asked.step.Goals as goal

some : (ws : List (String Global)) → ws ≢ [] → 1 ≤ length ws
some [] e = absurd (e refl)
some (x ∷ ws) e = omega arith

pub returns-in_err-flag : goal.returns-in_err-flag
returns-in_err-flag c =
    let ws = c.args.self.rest.now in
    let w = c.index-self-0.result in
    let at_front : string_bytes (get_or ws 0 w) ≡ string_bytes w = ap string_bytes (sym c.index-self-0.is) in
    let front : ws ≡ w ∷ drop 1 ws = front_one ws w (some ws c.requires) c.index-self-0.is in
    let none : flag_of (string_bytes w) ≡ None = ap flag_of (sym at_front) ∙ ap flag_of (sym c.as_str.ensures.value) ∙ sym c.flag_of.ensures ∙ c.in_err-flag.was in
    let nothing : (name file : List ℕ) → ¬ Asks c.args.self name file = λ name file asked.
    no_option (held c.args.self.name) (held c.args.self.file) name file (string_bytes w) (texts (drop 1 ws)) none (subst (λ v. GoOn (held c.args.self.name) (held c.args.self.file) (texts v) name file) front asked) in
    subst (λ r. MatchOption r ((name file : List ℕ) → ¬ Asks c.args.self name file)
    (λ next. ((name file : List ℕ) → Asks c.args.self name file ↔ Asks next name file) × (length next.rest.now < length c.args.self.rest.now))) (sym c.from_residual.ensures) nothing

-- a flag that was found to be that of a definition, or of another option
is_define : (flag : Flag) → true ≡ eq-value.it flag flags.Define → flag ≡ flags.Define
is_define flags.Name e = absurd (cc)
is_define flags.File e = absurd (cc)
is_define flags.Folder e = absurd (cc)
is_define flags.Define e = refl

is_other : (flag : Flag) → false ≡ eq-value.it flag flags.Define → flag ≢ flags.Define
is_other flags.Name e same = cc
is_other flags.File e same = cc
is_other flags.Folder e same = cc
is_other flags.Define e same = absurd (cc)

pub returns-then-eq : goal.returns-then-eq
returns-then-eq c =
    let ws = c.args.self.rest.now in
    let w = c.index-self-0.result in
    let at_front : string_bytes (get_or ws 0 w) ≡ string_bytes w = ap string_bytes (sym c.index-self-0.is) in
    let front : ws ≡ w ∷ drop 1 ws = front_one ws w (some ws c.requires) c.index-self-0.is in
    let after = whole_after 1 ws in
    let is : flag_of (string_bytes w) ≡ Some flags.Define = ap flag_of (sym at_front) ∙ ap flag_of (sym c.as_str.ensures.value) ∙ sym c.flag_of.ensures ∙ c.in_ok-flag.was ∙ ap Some (is_define c.in_ok-flag.flag c.if-eq.ensures) in
    let goes = λ (name file : List ℕ). defined (held c.args.self.name) (held c.args.self.file) name file (string_bytes w) (texts (drop 1 ws)) is in
    let at : (name file : List ℕ) → GoOn (held c.args.self.name) (held c.args.self.file) (texts ws) name file ↔ GoOn (held c.args.self.name) (held c.args.self.file) (texts (take (length ws - 1) (drop 1 ws))) name file = λ name file.
    subst (λ v. GoOn (held c.args.self.name) (held c.args.self.file) (texts ws) name file ↔ GoOn (held c.args.self.name) (held c.args.self.file) (texts v) name file) (sym after)
    (subst (λ v. GoOn (held c.args.self.name) (held c.args.self.file) (texts v) name file ↔ GoOn (held c.args.self.name) (held c.args.self.file) (texts (drop 1 ws)) name file) (sym front) (goes name file)) in
    (at, omega (arith, ap length front, ap length after))

one : (ws : List (String Global)) (a : String Global) → ws ≡ a ∷ drop 1 ws → length ws < 2 → ws ≡ a ∷ []
one [] a e low = absurd (cc)
one (x ∷ []) a e low = cc
one (x ∷ y ∷ ws) a e low = absurd (omega arith)

pub returns-then-self-lt2 : goal.returns-then-self-lt2
returns-then-self-lt2 c = λ name file asked.
    let ws = c.args.self.rest.now in
    let w = c.index-self-0.result in
    let at_front : string_bytes (get_or ws 0 w) ≡ string_bytes w = ap string_bytes (sym c.index-self-0.is) in
    let whole : ws ≡ w ∷ [] = one ws w (front_one ws w (some ws c.requires) c.index-self-0.is) c.if-self-lt2.true in
    let is : flag_of (string_bytes w) ≡ Some c.in_ok-flag.flag = ap flag_of (sym at_front) ∙ ap flag_of (sym c.as_str.ensures.value) ∙ sym c.flag_of.ensures ∙ c.in_ok-flag.was in
    no_value (held c.args.self.name) (held c.args.self.file) name file (string_bytes w) c.in_ok-flag.flag is (is_other c.in_ok-flag.flag c.if-eq.ensures) (subst (λ v. GoOn (held c.args.self.name) (held c.args.self.file) (texts v) name file) whole asked)

-- what taking a value answers, of the words as they stood before it
by_value : (asked : Asked) (w : List ℕ) (v : List ℕ) (rest after : List (String Global)) (r : Option Asked) → texts asked.rest.now ≡ w ∷ v ∷ texts rest → after ≡ rest → length rest < length asked.rest.now
    → MatchOption r ((name file : List ℕ) → ¬ GoOn (held asked.name) (held asked.file) (w ∷ v ∷ texts after) name file)
    (λ next. ((name file : List ℕ) → GoOn (held asked.name) (held asked.file) (w ∷ v ∷ texts after) name file ↔ Asks next name file) × (next.rest.now ≡ after))
    → MatchOption r ((name file : List ℕ) → ¬ Asks asked name file)
    (λ next. ((name file : List ℕ) → Asks asked name file ↔ Asks next name file) × (length next.rest.now < length asked.rest.now))
by_value asked w v rest after None front same less h = λ name file asks. h name file (subst (λ (ws : List (List ℕ)). GoOn (held asked.name) (held asked.file) ws name file) (front ∙ ap (λ r. w ∷ v ∷ texts r) (sym same)) asks)
by_value asked w v rest after (Some next) front same less h = (
  λ name file. subst (λ (ws : List (List ℕ)). GoOn (held asked.name) (held asked.file) ws name file ↔ Asks next name file) (sym (front ∙ ap (λ r. w ∷ v ∷ texts r) (sym same))) (h.0 name file),
  subst (λ (ws : List (String Global)). length ws < length asked.rest.now) (sym (h.1 ∙ same)) less,
)

pub returns : goal.returns
returns c =
    let ws = c.args.self.rest.now in
    let w = c.index-self-0.result in
    let at_front : string_bytes (get_or ws 0 w) ≡ string_bytes w = ap string_bytes (sym c.index-self-0.is) in
    let v = c.index-self-1.result in
    let front : ws ≡ w ∷ v ∷ drop 2 ws = front_two ws w v (omega (arith, c.if-self-lt2.false)) c.index-self-0.is c.index-self-1.is in
    let is : flag_of (string_bytes w) ≡ Some c.in_ok-flag.flag = ap flag_of (sym at_front) ∙ ap flag_of (sym c.as_str.ensures.value) ∙ sym c.flag_of.ensures ∙ c.in_ok-flag.was in
    let value = c.as_str-2.ensures.value ∙ sym (ap string_bytes c.index-self-1.is) in
    by_value c.args.self (string_bytes w) c.as_str-2.result.now (drop 2 ws) (take (length ws - 2) (drop 2 ws)) c.with.result
    (ap texts front ∙ ap (λ (t : List ℕ). string_bytes w ∷ t ∷ texts (drop 2 ws)) (sym value)) (whole_after 2 ws) (omega (arith, ap length front))
    (c.with.ensures (string_bytes w) is (is_other c.in_ok-flag.flag c.if-eq.ensures))
