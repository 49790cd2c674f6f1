-- A request or a call is at fault at one place, and its hashes match in one way.
use Rattle.std.proofs.Common.{◌≡◌, ℕ, List, ◌++◌, length, refl, sym, ap, subst, ◌∙◌, inl, inr}
use Rattle.std.specs.Prelude.{Bool, true, false, Some, None, ℤ, pos}
use Rattle.avro_binary.specs.Fault.{Fault, Wrong}
use Rattle.avro_binary.specs.Number.{IsInt, IntFault}
use Rattle.avro_binary.specs.Value.{IsText, TextFault, IsFixed, FixedFault}
use Rattle.avro_binary.specs.Items.{IsMeta, MetaFault}
use Rattle.avro_binary.specs.Event.{IsEvent, EventFault, IsBatch, BatchFault}
use Rattle.avro_binary.specs.Laws.{IsPrefixFree, ExcludesFaults, HasOneFault}
use Rattle.avro_binary.proofs.PrefixFree.{same_int, same_text, same_fixed, same_meta, same_event, same_batch, rest_same}
use Rattle.avro_binary.proofs.NoFault.{int_whole, text_whole, fixed_whole, meta_whole, event_whole, batch_whole}
use Rattle.avro_binary.proofs.OneFault.{one_int, one_text, one_fixed, one_meta, one_event, one_batch, one_of_pair, same_shift}
use Rattle.avro_hop.specs.declared.handshake.Match.{Match}
use Rattle.avro_hop.specs.declared.handshake.Match.TheVariants.{Both, Client, Stranger}
use Rattle.avro_hop.specs.Accepted.{is_accepted}
use Rattle.avro_hop.specs.Parts.{PairFault, IsOption, OptionFault, InIndex, OtherIndex, InValue, WholeFault}
use Rattle.avro_hop.specs.Handshake.{Request, TailFault, IsKnown, IsOther, IsMatch}
use Rattle.avro_hop.specs.Calls.{HeadFault, ParameterFault, OfOne, OfMany, InHead, InParameter}
use Rattle.avro_hop.specs.Laws.{OneRequestFault, OneCallFault, OneMatch}
use Rattle.avro_hop.proofs.OneReading.{same_option, option_whole, same_head, head_whole, other_names}

-- ---- requests

at_index : {A : Type 0} (bytes front rest : List ℕ) (z : ℤ) (f : Fault) → IntFault bytes f → bytes ≡ front ++ rest → IsInt front z → A
at_index bytes front rest z f h whole i = absurd (int_whole front rest z f i (subst (λ (t : List ℕ). IntFault t f) whole h))

-- a value that may be missing has one fault where the value has one
pub one_option : (Faults : List ℕ → Fault → Type 0) → HasOneFault Faults → HasOneFault (OptionFault Faults)
one_option Faults one bytes f g (InIndex h) (InIndex k) = one_int bytes f g h k
one_option Faults one bytes f g (InIndex h) (OtherIndex front rest z whole i zero other e) = at_index bytes front rest z f h whole i
one_option Faults one bytes f g (InIndex h) (InValue front rest inner whole i k e) = at_index bytes front rest (pos 1) f h whole i
one_option Faults one bytes f g (OtherIndex front rest z whole i zero other e) (InIndex h) = at_index bytes front rest z g h whole i
one_option Faults one bytes f g (OtherIndex front rest z whole i zero other e) (OtherIndex front' rest' z' whole' i' zero' other' e') = e ∙ sym e'
one_option Faults one bytes f g (OtherIndex front rest z whole i zero other e) (InValue front' rest' inner whole' i' k e') =
    absurd (other (same_int front front' rest rest' z (pos 1) i i' (sym whole ∙ whole')).1)
one_option Faults one bytes f g (InValue front rest inner whole i k e) (InIndex h) = at_index bytes front rest (pos 1) g h whole i
one_option Faults one bytes f g (InValue front rest inner whole i k e) (OtherIndex front' rest' z whole' i' zero other e') =
    absurd (other (same_int front' front rest' rest z (pos 1) i' i (sym whole' ∙ whole)).1)
one_option Faults one bytes f g (InValue front rest inner whole i k e) (InValue front' rest' inner' whole' i' k' e') =
    let p = sym whole ∙ whole' in
    let s = same_int front front' rest rest' (pos 1) (pos 1) i i' p in
    let r = rest_same front front' rest rest' s.0 p in
    same_shift front front' inner inner' f g s.0 (one rest' inner inner' (subst (λ (t : List ℕ). Faults t inner) r k) k') e e'

one_tail : HasOneFault TailFault
one_tail bytes f g h k = one_of_pair IsFixed FixedFault (OptionFault MetaFault) same_fixed fixed_whole one_fixed (one_option MetaFault one_meta) bytes f g h k

one_told : HasOneFault (PairFault (IsOption IsText) (OptionFault TextFault) TailFault)
one_told bytes f g h k = one_of_pair (IsOption IsText) (OptionFault TextFault) TailFault (same_option IsText same_text) (option_whole IsText TextFault text_whole) (one_option TextFault one_text) one_tail bytes f g h k

-- a request is at fault at one place
pub one_request_fault : OneRequestFault
one_request_fault bytes f g h k = one_of_pair IsFixed FixedFault (PairFault (IsOption IsText) (OptionFault TextFault) TailFault) same_fixed fixed_whole one_fixed one_told bytes f g h k

-- ---- calls

-- a value is at fault, or has bytes after it, at one place
pub one_whole : {V : Type 0} (Spells : List ℕ → V → Type 0) (Faults : List ℕ → Fault → Type 0) → IsPrefixFree Spells → ExcludesFaults Spells Faults → HasOneFault Faults → HasOneFault (WholeFault Spells Faults)
one_whole Spells Faults free whole one bytes f g (inl h) (inl k) = one bytes f g h k
one_whole Spells Faults free whole one bytes f g (inl h) (inr t) = absurd (whole t.front t.rest t.value f t.spelled (subst (λ (x : List ℕ). Faults x f) t.whole h))
one_whole Spells Faults free whole one bytes f g (inr t) (inl k) = absurd (whole t.front t.rest t.value g t.spelled (subst (λ (x : List ℕ). Faults x g) t.whole k))
one_whole Spells Faults free whole one bytes f g (inr t) (inr u) =
    let s = free t.front u.front t.rest u.rest t.value u.value t.spelled u.spelled (sym t.whole ∙ u.whole) in
    t.at ∙ ap (λ (x : List ℕ). Wrong (length x)) s.0 ∙ sym u.at

one_parameter : (name bytes : List ℕ) (f g : Fault) → ParameterFault name bytes f → ParameterFault name bytes g → f ≡ g
one_parameter name bytes f g (OfOne e h) (OfOne e' k) = one_whole IsEvent EventFault same_event event_whole one_event bytes f g h k
one_parameter name bytes f g (OfOne e h) (OfMany e' k) = absurd (other_names (sym e ∙ e'))
one_parameter name bytes f g (OfMany e h) (OfOne e' k) = absurd (other_names (sym e' ∙ e))
one_parameter name bytes f g (OfMany e h) (OfMany e' k) = one_whole IsBatch BatchFault same_batch batch_whole one_batch bytes f g h k

one_head : HasOneFault HeadFault
one_head bytes f g h k = one_of_pair IsMeta MetaFault TextFault same_meta meta_whole one_meta one_text bytes f g h k

-- a call is at fault at one place
pub one_call_fault : OneCallFault
one_call_fault bytes f g (InHead h) (InHead k) = one_head bytes f g h k
one_call_fault bytes f g (InHead h) (InParameter head rest name inner whole named k e) =
    absurd (head_whole head rest name f named (subst (λ (t : List ℕ). HeadFault t f) whole h))
one_call_fault bytes f g (InParameter head rest name inner whole named k e) (InHead h) =
    absurd (head_whole head rest name g named (subst (λ (t : List ℕ). HeadFault t g) whole h))
one_call_fault bytes f g (InParameter head rest name inner whole named h e) (InParameter head' rest' name' inner' whole' named' h' e') =
    let p = sym whole ∙ whole' in
    let s = same_head head head' rest rest' name name' named named' p in
    let r = rest_same head head' rest rest' s.0 p in
    let a = subst (λ (t : List ℕ). ParameterFault t rest inner) s.1 h in
    same_shift head head' inner inner' f g s.0 (one_parameter name' rest' inner inner' (subst (λ (t : List ℕ). ParameterFault name' t inner) r a) h') e e'

-- ---- matches

not_both : {A : Type 0} (b : Bool) → b ≡ true → b ≡ false → A
not_both b p q = absurd cc

same_some : (a b : List ℕ) → Some a ≡ Some b → a ≡ b
same_some a b e = cc

some_none : {A : Type 0} (a : List ℕ) → Some a ≡ None → A
some_none a e = absurd cc

-- a known client's text isn't wanted
pub known_stranger : {A : Type 0} (r : Request) → IsKnown r → IsMatch r Stranger → A
known_stranger r (inl h) s = absurd (s.0 h)
known_stranger r (inr k) s = some_none k.0 (sym k.1 ∙ s.1)

-- a known client's text is of no other protocol
pub known_other : {A : Type 0} (r : Request) → IsKnown r → IsOther r → A
known_other r (inl h) o = absurd (o.0 h)
known_other r (inr k) o =
    let same = same_some k.0 o.1.0 (sym k.1 ∙ o.1.1) in
    not_both (is_accepted k.0) k.2 (ap is_accepted same ∙ o.1.2)

-- the hashes of a request match in one way
pub same_match : (r : Request) (m n : Match) → IsMatch r m → IsMatch r n → m ≡ n
same_match r Both Both p q = refl
same_match r Both Client p q = absurd (q.1 p.1)
same_match r Both Stranger p q = known_stranger r p.0 q
same_match r Client Both p q = absurd (p.1 q.1)
same_match r Client Client p q = refl
same_match r Client Stranger p q = known_stranger r p.0 q
same_match r Stranger Both p q = known_stranger r q.0 p
same_match r Stranger Client p q = known_stranger r q.0 p
same_match r Stranger Stranger p q = refl

-- a request that has a match is not of another protocol
pub match_other : {A : Type 0} (r : Request) (m : Match) → IsMatch r m → IsOther r → A
match_other r Both p o = known_other r p.0 o
match_other r Client p o = known_other r p.0 o
match_other r Stranger p o = some_none o.1.0 (sym o.1.1 ∙ p.1)

-- a request has one match, or its text is of another protocol
pub one_match : OneMatch
one_match r m n p = (same_match r m n p, λ o. match_other r m p o)
