-- One more group has its serializer.
use Rattle.std.proofs.Common.{◌≡◌, ℕ, ◌+◌, ◌<◌, List, [], ◌∷◌, ◌++◌, length, take, get_or, sym, ap, ◌∙◌, subst}
use Rattle.std.proofs.lemmas.List.{take_more, map-append}
use Rattle.regex_steps.specs.declared.keys.Group.{Group}
use Rattle.regex_steps.specs.declared.groups.Serializer as declared
use Rattle.regex_steps.specs.Extract.{Serializer, serializer_of, serializers_of, IsSerializer, AreSerializers}

one_more : (groups : List Group) (ss : List Serializer) (g : Group) (s : Serializer) → AreSerializers groups ss → IsSerializer g s → AreSerializers (groups ++ g ∷ []) (ss ++ s ∷ [])
one_more [] [] g s h one = (one, tt)
one_more [] (t ∷ ss) g s h one = absurd h
one_more (f ∷ groups) [] g s h one = absurd h
one_more (f ∷ groups) (t ∷ ss) g s h one = (h.0, one_more groups ss g s h.1 one)

-- the serializers made so far, and that of one more group
pub serializers_more : (groups : List Group) (i : ℕ) (g : Group) (made : List declared.Serializer) (s : declared.Serializer) → i < length groups → g ≡ get_or groups i g → AreSerializers (take i groups) (serializers_of made) → IsSerializer g (serializer_of s) → AreSerializers (take (i + 1) groups) (serializers_of (made ++ s ∷ []))
serializers_more groups i g made s lt is h one =
    let P : List Group → Type 0 = λ gs. AreSerializers gs (serializers_of (made ++ s ∷ [])) in
    let Q : List Serializer → Type 0 = λ ss. AreSerializers (take i groups ++ g ∷ []) ss in
    subst P (sym (take_more groups i g lt ∙ ap (λ (q : Group). take i groups ++ q ∷ []) (sym is)))
    (subst Q (sym (map-append serializer_of made (s ∷ []))) (one_more (take i groups) (serializers_of made) g (serializer_of s) h one))
