use Rattle.std.proofs.Common.{◌≡◌, ◌≢◌, List, ℕ, ◌∷◌, Some, refl, sym, ap, subst, ◌∙◌}
use Rattle.agent_words.specs.Words.{texts}
use Rattle.agent_words.specs.Options.{GoOn, held}
use Rattle.agent_words.specs.declared.flag.Flag.{Flag}
use Rattle.agent_words.specs.declared.flag.Flag.TheVariants as flags
use Rattle.agent_words.proofs.Steps.{name_fits, name_goes, file_fits, file_goes, foldered, free_held, taken_held}
use Rattle.agent_words.proofs.command.Asked.with.Goals as goal
use Rattle.agent_words.proofs.command.Asked.with.Goals.{in_default-via-in-Name+then-is_none+else-is_name, in_default-via-in-Name+else-is_none, in_default-via-in-File+then-is_none-2+else-is_name-2, in_default-via-in-File+else-is_none-2, in_default-via-in_default}

pub returns-in-Name : goal.returns-in-Name
returns-in-Name c = λ word is not.
    let free = free_held c.args.self.name c.if-is_none.ensures in
    let goes = λ (name file : List ℕ). name_goes (held c.args.self.file) name file word c.args.value.now (texts c.args.rest.now) (is ∙ ap Some c.in-Name.is) (c.is_name.ensures.0 c.if-is_name.true) in
    (λ name file. (λ g. (goes name file).0 (subst (λ (h : List (List ℕ)). GoOn h (held c.args.self.file) (word ∷ c.args.value.now ∷ texts c.args.rest.now) name file) free g), λ g. subst (λ (h : List (List ℕ)). GoOn h (held c.args.self.file) (word ∷ c.args.value.now ∷ texts c.args.rest.now) name file) (sym free) ((goes name file).1 g)), refl)

pub returns-in-File : goal.returns-in-File
returns-in-File c = λ word is not.
    let free = free_held c.args.self.file c.if-is_none-2.ensures in
    let goes = λ (name file : List ℕ). file_goes (held c.args.self.name) name file word c.args.value.now (texts c.args.rest.now) (is ∙ ap Some c.in-File.is) (c.is_name-then-is_none-2.ensures.0 c.if-is_name-2.true) in
    (λ name file. (λ g. (goes name file).0 (subst (λ (h : List (List ℕ)). GoOn (held c.args.self.name) h (word ∷ c.args.value.now ∷ texts c.args.rest.now) name file) free g), λ g. subst (λ (h : List (List ℕ)). GoOn (held c.args.self.name) h (word ∷ c.args.value.now ∷ texts c.args.rest.now) name file) (sym free) ((goes name file).1 g)), refl)

pub returns-in-Folder : goal.returns-in-Folder
returns-in-Folder c = λ word is not. (λ name file. foldered (held c.args.self.name) (held c.args.self.file) name file word c.args.value.now (texts c.args.rest.now) (is ∙ ap Some c.in-Folder.is), refl)

-- what is neither of the others, and not a definition
other : (flag : Flag) → flag ≢ flags.Define → (flag ≡ flags.Name → ⊥) → (flag ≡ flags.File → ⊥) → (flag ≡ flags.Folder → ⊥) → ⊥
other flags.Name d n f o = n refl
other flags.File d n f o = f refl
other flags.Folder d n f o = o refl
other flags.Define d n f o = d refl

pub returns-in_default : goal.returns-in_default
returns-in_default c = λ word is not name file g.
    let v = c.args.value.now in
    let rest = texts c.args.rest.now in
    let fits = λ (e : c.args.flag ≡ flags.Name). name_fits (held c.args.self.name) (held c.args.self.file) name file word v rest (is ∙ ap Some e) g in
    let found = λ (e : c.args.flag ≡ flags.File). file_fits (held c.args.self.name) (held c.args.self.file) name file word v rest (is ∙ ap Some e) g in
    elim c.in_default.branch [
      | in_default-via-in-Name+then-is_none+else-is_name w ↦ absurd (cc (w.is_name.ensures.1 (fits w.in-Name.is).0, w.if-is_name.false))
      | in_default-via-in-Name+else-is_none w ↦ taken_held c.args.self.name w.if-is_none.ensures (fits w.in-Name.is).1
      | in_default-via-in-File+then-is_none-2+else-is_name-2 w ↦ absurd (cc (w.is_name-then-is_none-2.ensures.1 (found w.in-File.is).0, w.if-is_name-2.false))
      | in_default-via-in-File+else-is_none-2 w ↦ taken_held c.args.self.file w.if-is_none-2.ensures (found w.in-File.is).1
      | in_default-via-in_default w ↦ other c.args.flag not w.in_default.not-Name w.in_default.not-File w.in_default.not-Folder
    ]
