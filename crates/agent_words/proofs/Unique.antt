-- Words give their options in one way.
use Rattle.std.proofs.Common.{◌≡◌, ℕ, List, [], ◌∷◌, ◌++◌, Some, refl, sym, ap, ◌∙◌, subst}
use Rattle.std.specs.List.{AllByRecursion}
use Rattle.agent_words.specs.Words.{flag_of}
use Rattle.agent_words.specs.Options.{Given, Name, File, Folder, Define, IsGiven, given_words, all_words, names, files, AreOptions}
use Rattle.agent_words.specs.Commands.{IsAsked}
use Rattle.agent_words.specs.Laws.{OneAsked}

same_given : (g h : Given) (xs ys : List (List ℕ)) → IsGiven g → IsGiven h → given_words g ++ xs ≡ given_words h ++ ys → (g ≡ h) × (xs ≡ ys)
same_given (Name w v) (Name x y) xs ys p q e = (let a : w ≡ x = cc e in let b : v ≡ y = cc e in (λ i. Name (a i) (b i)), cc e)
same_given (Name w v) (File x y) xs ys p q e = absurd (cc (e, p.0, q.0))
same_given (Name w v) (Folder x y) xs ys p q e = absurd (cc (e, p.0, q))
same_given (Name w v) (Define x) xs ys p q e = absurd (cc (e, p.0, q))
same_given (File w v) (Name x y) xs ys p q e = absurd (cc (e, p.0, q.0))
same_given (File w v) (File x y) xs ys p q e = (let a : w ≡ x = cc e in let b : v ≡ y = cc e in (λ i. File (a i) (b i)), cc e)
same_given (File w v) (Folder x y) xs ys p q e = absurd (cc (e, p.0, q))
same_given (File w v) (Define x) xs ys p q e = absurd (cc (e, p.0, q))
same_given (Folder w v) (Name x y) xs ys p q e = absurd (cc (e, p, q.0))
same_given (Folder w v) (File x y) xs ys p q e = absurd (cc (e, p, q.0))
same_given (Folder w v) (Folder x y) xs ys p q e = (let a : w ≡ x = cc e in let b : v ≡ y = cc e in (λ i. Folder (a i) (b i)), cc e)
same_given (Folder w v) (Define x) xs ys p q e = absurd (cc (e, p, q))
same_given (Define w) (Name x y) xs ys p q e = absurd (cc (e, p, q.0))
same_given (Define w) (File x y) xs ys p q e = absurd (cc (e, p, q.0))
same_given (Define w) (Folder x y) xs ys p q e = absurd (cc (e, p, q))
same_given (Define w) (Define x) xs ys p q e = (ap Define (cc e), cc e)

some_words : (g : Given) (xs : List (List ℕ)) → [] ≡ given_words g ++ xs → ⊥
some_words (Name w v) xs e = cc e
some_words (File w v) xs e = cc e
some_words (Folder w v) xs e = cc e
some_words (Define w) xs e = cc e

same_givens : (gs hs : List Given) → AllByRecursion IsGiven gs → AllByRecursion IsGiven hs → all_words gs ≡ all_words hs → gs ≡ hs
same_givens [] [] p q e = refl
same_givens [] (h ∷ hs) p q e = absurd (some_words h (all_words hs) e)
same_givens (g ∷ gs) [] p q e = absurd (some_words g (all_words gs) (sym e))
same_givens (g ∷ gs) (h ∷ hs) p q e =
    let first = same_given g h (all_words gs) (all_words hs) p.0 q.0 e in
    let rest = same_givens gs hs p.1 q.1 first.1 in
    λ i. first.0 i ∷ rest i

same_options : (words others : List (List ℕ)) (name file name' file' : List ℕ) → words ≡ others → AreOptions words name file → AreOptions others name' file' → (name ≡ name') × (file ≡ file')
same_options words others name file name' file' same a b =
    let givens = same_givens a.givens b.givens a.each b.each (sym a.words_are ∙ same ∙ b.words_are) in
    let one : name ∷ [] ≡ name' ∷ [] = sym a.one_name ∙ ap names givens ∙ b.one_name in
    let two : file ∷ [] ≡ file' ∷ [] = sym a.one_file ∙ ap files givens ∙ b.one_file in
    (cc one, cc two)

-- words that name an agent and a file name one of each
pub one_asked : OneAsked
one_asked words first name file name' file' a b =
    let same : a.0 ≡ b.0 = cc (sym a.1 ∙ b.1) in
    same_options a.0 b.0 name file name' file' same a.2 b.2
