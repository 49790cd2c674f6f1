-- What the option at the front of words asks for.
use Rattle.std.proofs.Common.{true, false, ◌≡◌, ◌≢◌, ◌↔◌, List, ℕ, [], ◌∷◌, ◌++◌, Option, Some, None, refl, sym, ap, subst, ◌∙◌}
use Rattle.std.specs.List.{AllByRecursion}
use Rattle.std.specs.Option.{is_some}
use Rattle.std.specs.Borrow.{Bor}
use Rattle.agent_words.specs.Words.{IsName, flag_of}
use Rattle.agent_words.specs.Options.{Given, Name, File, Folder, Define, IsGiven, given_words, all_words, names, files, GoOn, held}
use Rattle.agent_words.specs.declared.flag.Flag.{Flag}
use Rattle.agent_words.specs.declared.flag.Flag.TheVariants as flags

-- the word of an option, and what it is
abbrev word_of : Given → List ℕ
word_of (Name w v) = w
word_of (File w v) = w
word_of (Folder w v) = w
word_of (Define w) = w

abbrev kind_of : Given → Flag
kind_of (Name w v) = flags.Name
kind_of (File w v) = flags.File
kind_of (Folder w v) = flags.Folder
kind_of (Define w) = flags.Define

kind_is : (g : Given) → IsGiven g → flag_of (word_of g) ≡ Some (kind_of g)
kind_is (Name w v) i = i.0
kind_is (File w v) i = i.0
kind_is (Folder w v) i = i
kind_is (Define w) i = i

-- the first word decides what the first option is
first_kind : (g : Given) (w : List ℕ) (more rest : List (List ℕ)) (flag : Flag) → IsGiven g → w ∷ rest ≡ given_words g ++ more → flag_of w ≡ Some flag → flag ≡ kind_of g
first_kind (Name x v) w more rest flag i e f = let same : w ≡ x = cc in cc (sym f, ap flag_of same, i.0)
first_kind (File x v) w more rest flag i e f = let same : w ≡ x = cc in cc (sym f, ap flag_of same, i.0)
first_kind (Folder x v) w more rest flag i e f = let same : w ≡ x = cc in cc (sym f, ap flag_of same, i)
first_kind (Define x) w more rest flag i e f = let same : w ≡ x = cc in cc (sym f, ap flag_of same, i)

no_kind : (g : Given) (w : List ℕ) (more rest : List (List ℕ)) → IsGiven g → w ∷ rest ≡ given_words g ++ more → flag_of w ≡ None → ⊥
no_kind (Name x v) w more rest i e f = let same : w ≡ x = cc in cc (f, ap flag_of same, i.0)
no_kind (File x v) w more rest i e f = let same : w ≡ x = cc in cc (f, ap flag_of same, i.0)
no_kind (Folder x v) w more rest i e f = let same : w ≡ x = cc in cc (f, ap flag_of same, i)
no_kind (Define x) w more rest i e f = let same : w ≡ x = cc in cc (f, ap flag_of same, i)

module _ (named filed : List (List ℕ)) (name file : List ℕ) where
  -- no words follow
  pub at_end : GoOn named filed [] name file → (named ≡ name ∷ []) × (filed ≡ file ∷ [])
  at_end g = of g.givens g.words_are g.each g.one_name g.one_file
    where
      nil : (xs : List (List ℕ)) → xs ++ [] ≡ xs
      nil [] = refl
      nil (x ∷ xs) = ap (λ (ys : List (List ℕ)). x ∷ ys) (nil xs)

      of : (gs : List Given) → [] ≡ all_words gs → AllByRecursion IsGiven gs → named ++ names gs ≡ name ∷ [] → filed ++ files gs ≡ file ∷ [] → (named ≡ name ∷ []) × (filed ≡ file ∷ [])
      of [] e a n f = (sym (nil named) ∙ n, sym (nil filed) ∙ f)
      of (Name w v ∷ gs) e a n f = absurd (cc)
      of (File w v ∷ gs) e a n f = absurd (cc)
      of (Folder w v ∷ gs) e a n f = absurd (cc)
      of (Define w ∷ gs) e a n f = absurd (cc)

  -- a word that begins no option
  pub no_option : (w : List ℕ) (rest : List (List ℕ)) → flag_of w ≡ None → ¬ GoOn named filed (w ∷ rest) name file
  no_option w rest none g = of g.givens g.words_are g.each
    where
      of : (gs : List Given) → w ∷ rest ≡ all_words gs → AllByRecursion IsGiven gs → ⊥
      of [] e a = cc
      of (h ∷ gs) e a = no_kind h w (all_words gs) rest a.0 e none

  -- a definition has no effect
  pub defined : (w : List ℕ) (rest : List (List ℕ)) → flag_of w ≡ Some flags.Define → GoOn named filed (w ∷ rest) name file ↔ GoOn named filed rest name file
  defined w rest is = (λ g. of g.givens g.words_are g.each g.one_name g.one_file, λ g. record { givens = Define w ∷ g.givens; words_are = ap (λ (ws : List (List ℕ)). w ∷ ws) g.words_are; each = (is, g.each); one_name = g.one_name; one_file = g.one_file })
    where
      of : (gs : List Given) → w ∷ rest ≡ all_words gs → AllByRecursion IsGiven gs → named ++ names gs ≡ name ∷ [] → filed ++ files gs ≡ file ∷ [] → GoOn named filed rest name file
      of [] e a n f = absurd (cc)
      of (Name x v ∷ gs) e a n f = absurd (cc (first_kind (Name x v) w (all_words gs) rest flags.Define a.0 e is))
      of (File x v ∷ gs) e a n f = absurd (cc (first_kind (File x v) w (all_words gs) rest flags.Define a.0 e is))
      of (Folder x v ∷ gs) e a n f = absurd (cc (first_kind (Folder x v) w (all_words gs) rest flags.Define a.0 e is))
      of (Define x ∷ gs) e a n f = record { givens = gs; words_are = cc; each = a.1; one_name = n; one_file = f }

  -- nor has the folder of scripts
  pub foldered : (w v : List ℕ) (rest : List (List ℕ)) → flag_of w ≡ Some flags.Folder → GoOn named filed (w ∷ v ∷ rest) name file ↔ GoOn named filed rest name file
  foldered w v rest is = (λ g. of g.givens g.words_are g.each g.one_name g.one_file, λ g. record { givens = Folder w v ∷ g.givens; words_are = ap (λ (ws : List (List ℕ)). w ∷ v ∷ ws) g.words_are; each = (is, g.each); one_name = g.one_name; one_file = g.one_file })
    where
      of : (gs : List Given) → w ∷ v ∷ rest ≡ all_words gs → AllByRecursion IsGiven gs → named ++ names gs ≡ name ∷ [] → filed ++ files gs ≡ file ∷ [] → GoOn named filed rest name file
      of [] e a n f = absurd (cc)
      of (Name x y ∷ gs) e a n f = absurd (cc (first_kind (Name x y) w (all_words gs) (v ∷ rest) flags.Folder a.0 e is))
      of (File x y ∷ gs) e a n f = absurd (cc (first_kind (File x y) w (all_words gs) (v ∷ rest) flags.Folder a.0 e is))
      of (Define x ∷ gs) e a n f = absurd (cc (first_kind (Define x) w (all_words gs) (v ∷ rest) flags.Folder a.0 e is))
      of (Folder x y ∷ gs) e a n f = record { givens = gs; words_are = cc; each = a.1; one_name = n; one_file = f }

  -- a word that wants a value has none
  pub no_value : (w : List ℕ) (flag : Flag) → flag_of w ≡ Some flag → flag ≢ flags.Define → ¬ GoOn named filed (w ∷ []) name file
  no_value w flag is not g = of g.givens g.words_are g.each
    where
      of : (gs : List Given) → w ∷ [] ≡ all_words gs → AllByRecursion IsGiven gs → ⊥
      of [] e a = cc
      of (Name x y ∷ gs) e a = cc
      of (File x y ∷ gs) e a = cc
      of (Folder x y ∷ gs) e a = cc
      of (Define x ∷ gs) e a = not (first_kind (Define x) w (all_words gs) [] flag a.0 e is)

-- the agent's name
pub name_fits : (named filed : List (List ℕ)) (name file w v : List ℕ) (rest : List (List ℕ)) → flag_of w ≡ Some flags.Name → GoOn named filed (w ∷ v ∷ rest) name file → IsName v × (named ≡ []) × GoOn (v ∷ []) filed rest name file
name_fits named filed name file w v rest is g = of g.givens g.words_are g.each g.one_name g.one_file
  where
    Result : Type 0
    Result = IsName v × (named ≡ []) × GoOn (v ∷ []) filed rest name file

    free : (held : List (List ℕ)) (gs : List (List ℕ)) → held ++ (v ∷ gs) ≡ name ∷ [] → held ≡ []
    free [] gs e = refl
    free (x ∷ []) gs e = absurd (cc)
    free (x ∷ y ∷ held) gs e = absurd (cc)

    of : (gs : List Given) → w ∷ v ∷ rest ≡ all_words gs → AllByRecursion IsGiven gs → named ++ names gs ≡ name ∷ [] → filed ++ files gs ≡ file ∷ [] → Result
    of [] e a n f = absurd (cc)
    of (File x y ∷ gs) e a n f = absurd (cc (first_kind (File x y) w (all_words gs) (v ∷ rest) flags.Name a.0 e is))
    of (Folder x y ∷ gs) e a n f = absurd (cc (first_kind (Folder x y) w (all_words gs) (v ∷ rest) flags.Name a.0 e is))
    of (Define x ∷ gs) e a n f = absurd (cc (first_kind (Define x) w (all_words gs) (v ∷ rest) flags.Name a.0 e is))
    of (Name x y ∷ gs) e a n f =
        let same : y ≡ v = cc in
        let n_here : named ++ (v ∷ names gs) ≡ name ∷ [] = subst (λ z. named ++ (z ∷ names gs) ≡ name ∷ []) same n in
        let none = free named (names gs) n_here in
        (subst IsName same a.0.1, none, record { givens = gs; words_are = cc; each = a.1; one_name = subst (λ (h : List (List ℕ)). h ++ (v ∷ names gs) ≡ name ∷ []) none n_here; one_file = f })

-- a first name is taken, and the words behind it complete what was given
pub name_goes : (filed : List (List ℕ)) (name file w v : List ℕ) (rest : List (List ℕ)) → flag_of w ≡ Some flags.Name → IsName v → GoOn [] filed (w ∷ v ∷ rest) name file ↔ GoOn (v ∷ []) filed rest name file
name_goes filed name file w v rest is named = (λ g. (name_fits [] filed name file w v rest is g).2, λ g. record { givens = Name w v ∷ g.givens; words_are = ap (λ (ws : List (List ℕ)). w ∷ v ∷ ws) g.words_are; each = ((is, named), g.each); one_name = g.one_name; one_file = g.one_file })

-- the properties file
pub file_fits : (named filed : List (List ℕ)) (name file w v : List ℕ) (rest : List (List ℕ)) → flag_of w ≡ Some flags.File → GoOn named filed (w ∷ v ∷ rest) name file → IsName v × (filed ≡ []) × GoOn named (v ∷ []) rest name file
file_fits named filed name file w v rest is g = of g.givens g.words_are g.each g.one_name g.one_file
  where
    Result : Type 0
    Result = IsName v × (filed ≡ []) × GoOn named (v ∷ []) rest name file

    free : (held : List (List ℕ)) (gs : List (List ℕ)) → held ++ (v ∷ gs) ≡ file ∷ [] → held ≡ []
    free [] gs e = refl
    free (x ∷ []) gs e = absurd (cc)
    free (x ∷ y ∷ held) gs e = absurd (cc)

    of : (gs : List Given) → w ∷ v ∷ rest ≡ all_words gs → AllByRecursion IsGiven gs → named ++ names gs ≡ name ∷ [] → filed ++ files gs ≡ file ∷ [] → Result
    of [] e a n f = absurd (cc)
    of (Name x y ∷ gs) e a n f = absurd (cc (first_kind (Name x y) w (all_words gs) (v ∷ rest) flags.File a.0 e is))
    of (Folder x y ∷ gs) e a n f = absurd (cc (first_kind (Folder x y) w (all_words gs) (v ∷ rest) flags.File a.0 e is))
    of (Define x ∷ gs) e a n f = absurd (cc (first_kind (Define x) w (all_words gs) (v ∷ rest) flags.File a.0 e is))
    of (File x y ∷ gs) e a n f =
        let same : y ≡ v = cc in
        let f_here : filed ++ (v ∷ files gs) ≡ file ∷ [] = subst (λ z. filed ++ (z ∷ files gs) ≡ file ∷ []) same f in
        let none = free filed (files gs) f_here in
        (subst IsName same a.0.1, none, record { givens = gs; words_are = cc; each = a.1; one_name = n; one_file = subst (λ (h : List (List ℕ)). h ++ (v ∷ files gs) ≡ file ∷ []) none f_here })

-- a first file is taken, and the words behind it complete what was given
pub file_goes : (named : List (List ℕ)) (name file w v : List ℕ) (rest : List (List ℕ)) → flag_of w ≡ Some flags.File → IsName v → GoOn named [] (w ∷ v ∷ rest) name file ↔ GoOn named (v ∷ []) rest name file
file_goes named name file w v rest is filed = (λ g. (file_fits named [] name file w v rest is g).2, λ g. record { givens = File w v ∷ g.givens; words_are = ap (λ (ws : List (List ℕ)). w ∷ v ∷ ws) g.words_are; each = ((is, filed), g.each); one_name = g.one_name; one_file = g.one_file })

-- where nothing was given so far, nothing is held
pub free_held : (n : Option (Bor (List ℕ))) → is_some n ≡ false → held n ≡ []
free_held None e = refl
free_held (Some b) e = absurd (cc)

-- where something was given, it is held
pub taken_held : (n : Option (Bor (List ℕ))) → is_some n ≡ true → held n ≡ [] → ⊥
taken_held None e h = cc
taken_held (Some b) e h = cc
