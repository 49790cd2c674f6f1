-- A message is read in one way.
use Rattle.std.proofs.Common.{◌≡◌, ℕ, List, [], ◌∷◌, ◌++◌, length, refl, sym, ap, subst, ◌∙◌, append_assoc, arith, inl, inr}
use Rattle.std.specs.Prelude.{Option, Some, None, pos}
use Rattle.std.proofs.lemmas.List.{append-nil}
use Rattle.event_core.specs.Content.{Content}
use Rattle.avro_binary.specs.Fault.{Fault}
use Rattle.avro_binary.specs.Number.{IsInt, IntFault}
use Rattle.avro_binary.specs.Value.{IsText, TextFault, IsFixed, FixedFault}
use Rattle.avro_binary.specs.Items.{IsMeta, MetaFault}
use Rattle.avro_binary.specs.Event.{IsEvent, EventFault, IsBatch, BatchFault}
use Rattle.avro_binary.specs.Laws.{IsPrefixFree, ExcludesFaults}
use Rattle.avro_binary.proofs.PrefixFree.{same_int, same_text, same_fixed, same_meta, same_event, same_batch, same_natural, regroup, rest_same}
use Rattle.avro_binary.proofs.NoFault.{int_whole, text_whole, fixed_whole, meta_whole, event_whole, batch_whole}
use Rattle.avro_hop.specs.Parts.{IsPair, PairFault, IsOption, OptionFault, InIndex, OtherIndex, InValue, WholeFault}
use Rattle.avro_hop.specs.Handshake.{Request, IsTail, TailFault}
use Rattle.avro_hop.specs.Calls.{append, append_batch, Call, Takes, IsHead, HeadFault, IsOne, Asks, Empty, Strange, One, Many, ParameterFault, OfOne, OfMany, InHead, InParameter}
use Rattle.avro_hop.specs.Laws.{OneRequest, NoRequestFault, OneCall, NoCallFault}

-- bytes of the same two parts are the same
pub whole_same : (a b c d w z : List ℕ) → w ≡ a ++ b → z ≡ c ++ d → a ≡ c → b ≡ d → w ≡ z
whole_same a b c d w z p q e f = cc

-- a front of two parts
parts : (a b w x : List ℕ) → w ≡ a ++ b → w ++ x ≡ a ++ (b ++ x)
parts a b w x e = ap (λ (t : List ℕ). t ++ x) e ∙ append_assoc a b x

-- ---- pairs

-- two values in a row are read in one way where each of them is
pub same_pair : {V W : Type 0} (First : List ℕ → V → Type 0) (Second : List ℕ → W → Type 0) → IsPrefixFree First → IsPrefixFree Second → (a b x y : List ℕ) (v v' : V) (w w' : W) → IsPair First Second a v w → IsPair First Second b v' w' → a ++ x ≡ b ++ y → (a ≡ b) × (v ≡ v') × (w ≡ w')
same_pair First Second free free' a b x y v v' w w' p q e =
    let f = regroup p.front p.back x q.front q.back y a b p.whole q.whole e in
    let s = free p.front q.front (p.back ++ x) (q.back ++ y) v v' p.first q.first f in
    let r = free' p.back q.back x y w w' p.second q.second (rest_same p.front q.front (p.back ++ x) (q.back ++ y) s.0 f) in
    (whole_same p.front p.back q.front q.back a b p.whole q.whole s.0 r.0, s.1, r.1)

-- where two values stand in a row there is no fault
pub pair_whole : {V W : Type 0} (First : List ℕ → V → Type 0) (Second : List ℕ → W → Type 0) (FirstFault SecondFault : List ℕ → Fault → Type 0) → IsPrefixFree First → ExcludesFaults First FirstFault → (a b front rest : List ℕ) (v : V) (f : Fault) → front ≡ a ++ b → First a v → ((g : Fault) → SecondFault (b ++ rest) g → ⊥) → PairFault First FirstFault SecondFault (front ++ rest) f → ⊥
pair_whole First Second FirstFault SecondFault free whole_first a b front rest v f e s none (inl h) = whole_first a (b ++ rest) v f s (subst (λ (t : List ℕ). FirstFault t f) (parts a b front rest e) h)
pair_whole First Second FirstFault SecondFault free whole_first a b front rest v f e s none (inr h) =
    let g = sym (parts a b front rest e) ∙ h.whole in
    let t = free a h.front (b ++ rest) h.rest v h.value s h.spelled g in
    none h.inner (subst (λ (x : List ℕ). SecondFault x h.inner) (sym (rest_same a h.front (b ++ rest) h.rest t.0 g)) h.fault)

-- ---- values that may be missing

-- the index of null is not that of a value
pub zero_one : {A : Type 0} → pos 0 ≡ pos 1 → A
zero_one e = absurd (omega (arith, same_natural 0 1 e))

-- a value that may be missing is read in one way where the value is
pub same_option : {V : Type 0} (Spells : List ℕ → V → Type 0) → IsPrefixFree Spells → IsPrefixFree (IsOption Spells)
same_option Spells free a b x y None None p q e = ((same_int a b x y (pos 0) (pos 0) p q e).0, refl)
same_option Spells free a b x y None (Some w) p q e =
    let f = e ∙ parts q.front q.back b y q.whole in
    zero_one (same_int a q.front x (q.back ++ y) (pos 0) (pos 1) p q.first f).1
same_option Spells free a b x y (Some v) None p q e =
    let f = sym (parts p.front p.back a x p.whole) ∙ e in
    zero_one (sym (same_int p.front b (p.back ++ x) y (pos 1) (pos 0) p.first q f).1)
same_option Spells free a b x y (Some v) (Some w) p q e =
    let s = same_pair IsInt Spells same_int free a b x y (pos 1) (pos 1) v w p q e in
    (s.0, ap Some s.2)

-- where a value that may be missing stands there is no fault
pub option_whole : {V : Type 0} (Spells : List ℕ → V → Type 0) (Faults : List ℕ → Fault → Type 0) → ExcludesFaults Spells Faults → ExcludesFaults (IsOption Spells) (OptionFault Faults)
option_whole Spells Faults whole_value front rest None f p (InIndex h) = int_whole front rest (pos 0) f p h
option_whole Spells Faults whole_value front rest None f p (OtherIndex other more z whole i zero one e) = zero (sym (same_int front other rest more (pos 0) z p i whole).1)
option_whole Spells Faults whole_value front rest None f p (InValue other more inner whole i h e) = zero_one (same_int front other rest more (pos 0) (pos 1) p i whole).1
option_whole Spells Faults whole_value front rest (Some v) f p (InIndex h) = int_whole p.front (p.back ++ rest) (pos 1) f p.first (subst (λ (t : List ℕ). IntFault t f) (parts p.front p.back front rest p.whole) h)
option_whole Spells Faults whole_value front rest (Some v) f p (OtherIndex other more z whole i zero one e) =
    one (sym (same_int p.front other (p.back ++ rest) more (pos 1) z p.first i (sym (parts p.front p.back front rest p.whole) ∙ whole)).1)
option_whole Spells Faults whole_value front rest (Some v) f p (InValue other more inner whole i h e) =
    let g = sym (parts p.front p.back front rest p.whole) ∙ whole in
    let s = same_int p.front other (p.back ++ rest) more (pos 1) (pos 1) p.first i g in
    whole_value p.back rest v inner p.second (subst (λ (t : List ℕ). Faults t inner) (sym (rest_same p.front other (p.back ++ rest) more s.0 g)) h)

-- ---- requests

same_tail : IsPrefixFree IsTail
same_tail a b x y v w p q e =
    let s = same_pair IsFixed (IsOption IsMeta) same_fixed (same_option IsMeta same_meta) a b x y v w p.0 q.0 p.1 q.1 e in
    (s.0, s.1)

tail_whole : ExcludesFaults IsTail TailFault
tail_whole front rest v f p h =
    let i = p.1 in
    pair_whole IsFixed (IsOption IsMeta) FixedFault (OptionFault MetaFault) same_fixed fixed_whole i.front i.back front rest v f i.whole i.first (λ g k. option_whole IsMeta MetaFault meta_whole i.back rest p.0 g i.second k) h

same_told : (r s : Request) → r.hash ≡ s.hash → r.text ≡ s.text → r.server_hash ≡ s.server_hash → r ≡ s
same_told r s p q e = ap (λ (h : List ℕ). record { hash = h; text = r.text; server_hash = r.server_hash }) p ∙ ap (λ (t : Option (List ℕ)). record { hash = s.hash; text = t; server_hash = r.server_hash }) q ∙ ap (λ (h : List ℕ). record { hash = s.hash; text = s.text; server_hash = h }) e

-- no request begins another, and each tells one thing
pub one_request : OneRequest
one_request a b x y r s p q e =
    let f = regroup p.hash_bytes (p.text_bytes ++ p.tail_bytes) x q.hash_bytes (q.text_bytes ++ q.tail_bytes) y a b p.whole q.whole e in
    let h = same_fixed p.hash_bytes q.hash_bytes ((p.text_bytes ++ p.tail_bytes) ++ x) ((q.text_bytes ++ q.tail_bytes) ++ y) r.hash s.hash p.hash q.hash f in
    let g = rest_same p.hash_bytes q.hash_bytes ((p.text_bytes ++ p.tail_bytes) ++ x) ((q.text_bytes ++ q.tail_bytes) ++ y) h.0 f in
    let k = regroup p.text_bytes p.tail_bytes x q.text_bytes q.tail_bytes y (p.text_bytes ++ p.tail_bytes) (q.text_bytes ++ q.tail_bytes) refl refl g in
    let t = same_option IsText same_text p.text_bytes q.text_bytes (p.tail_bytes ++ x) (q.tail_bytes ++ y) r.text s.text p.text q.text k in
    let m = same_tail p.tail_bytes q.tail_bytes x y r.server_hash s.server_hash p.tail q.tail (rest_same p.text_bytes q.text_bytes (p.tail_bytes ++ x) (q.tail_bytes ++ y) t.0 k) in
    let back : p.text_bytes ++ p.tail_bytes ≡ q.text_bytes ++ q.tail_bytes = whole_same p.text_bytes p.tail_bytes q.text_bytes q.tail_bytes (p.text_bytes ++ p.tail_bytes) (q.text_bytes ++ q.tail_bytes) refl refl t.0 m.0 in
    (whole_same p.hash_bytes (p.text_bytes ++ p.tail_bytes) q.hash_bytes (q.text_bytes ++ q.tail_bytes) a b p.whole q.whole h.0 back, same_told r s h.1 t.1 m.1)

-- where a request stands there is no fault, whatever follows
pub no_request_fault : NoRequestFault
no_request_fault front rest r f p h =
    pair_whole IsFixed IsTail FixedFault (PairFault (IsOption IsText) (OptionFault TextFault) TailFault) same_fixed fixed_whole p.hash_bytes (p.text_bytes ++ p.tail_bytes) front rest r.hash f p.whole p.hash
    (λ g k. pair_whole (IsOption IsText) IsTail (OptionFault TextFault) TailFault (same_option IsText same_text) (option_whole IsText TextFault text_whole) p.text_bytes p.tail_bytes (p.text_bytes ++ p.tail_bytes) rest r.text g refl p.text
    (λ i j. tail_whole p.tail_bytes rest r.server_hash i p.tail j) k) h

-- ---- calls

-- no head of a call begins another, and each has one name
pub same_head : IsPrefixFree IsHead
same_head a b x y v w p q e =
    let s = same_pair IsMeta IsText same_meta same_text a b x y p.0 q.0 v w p.1 q.1 e in
    (s.0, s.2)

-- where a call's head stands there is no fault
pub head_whole : ExcludesFaults IsHead HeadFault
head_whole front rest v f p h =
    let i = p.1 in
    pair_whole IsMeta IsText MetaFault TextFault same_meta meta_whole i.front i.back front rest p.0 f i.whole i.first (λ g k. text_whole i.back rest v g i.second k) h

-- the two messages have different names
pub other_names : append ≡ append_batch → ⊥
other_names e = cc

some_append : append ≡ [] → ⊥
some_append e = cc

some_batch : append_batch ≡ [] → ⊥
some_batch e = cc

-- the same bytes
pub same_bytes : {V : Type 0} (Spells : List ℕ → V → Type 0) → IsPrefixFree Spells → (bytes : List ℕ) (v w : V) → Spells bytes v → Spells bytes w → v ≡ w
same_bytes Spells free bytes v w p q = (free bytes bytes [] [] v w p q refl).1

same_one : (bytes : List ℕ) (es fs : List Content) → IsOne bytes es → IsOne bytes fs → es ≡ fs
same_one bytes es fs p q = p.2 ∙ ap (λ (e : Content). e ∷ []) (same_bytes IsEvent same_event bytes p.0 q.0 p.1 q.1) ∙ sym q.2

same_asks : (name bytes : List ℕ) (c d : Call) → Asks name bytes c → Asks name bytes d → c ≡ d
same_asks name bytes c d (Empty e) (Empty e') = refl
same_asks name bytes c d (Empty e) (Strange z o m) = absurd (z e)
same_asks name bytes c d (Empty e) (One es e' i) = absurd (some_append (sym e' ∙ e))
same_asks name bytes c d (Empty e) (Many es e' i) = absurd (some_batch (sym e' ∙ e))
same_asks name bytes c d (Strange z o m) (Empty e') = absurd (z e')
same_asks name bytes c d (Strange z o m) (Strange z' o' m') = refl
same_asks name bytes c d (Strange z o m) (One es e' i) = absurd (o e')
same_asks name bytes c d (Strange z o m) (Many es e' i) = absurd (m e')
same_asks name bytes c d (One es e i) (Empty e') = absurd (some_append (sym e ∙ e'))
same_asks name bytes c d (One es e i) (Strange z o m) = absurd (o e)
same_asks name bytes c d (One es e i) (One fs e' j) = ap Takes (same_one bytes es fs i j)
same_asks name bytes c d (One es e i) (Many fs e' j) = absurd (other_names (sym e ∙ e'))
same_asks name bytes c d (Many es e i) (Empty e') = absurd (some_batch (sym e ∙ e'))
same_asks name bytes c d (Many es e i) (Strange z o m) = absurd (m e)
same_asks name bytes c d (Many es e i) (One fs e' j) = absurd (other_names (sym e' ∙ e))
same_asks name bytes c d (Many es e i) (Many fs e' j) = ap Takes (same_bytes IsBatch same_batch bytes es fs i j)

-- bytes are one call at most
pub one_call_lem : OneCall
one_call_lem bytes c d p q =
    let e = sym p.whole ∙ q.whole in
    let s = same_head p.head q.head p.rest q.rest p.name q.name p.named q.named e in
    let r = rest_same p.head q.head p.rest q.rest s.0 e in
    let a = subst (λ (t : List ℕ). Asks t p.rest c) s.1 p.asks in
    same_asks q.name q.rest c d (subst (λ (t : List ℕ). Asks q.name t c) r a) q.asks

-- a value that all of the bytes are has no fault
pub all_whole : {V : Type 0} (Spells : List ℕ → V → Type 0) (Faults : List ℕ → Fault → Type 0) → IsPrefixFree Spells → ExcludesFaults Spells Faults → (bytes : List ℕ) (v : V) (f : Fault) → Spells bytes v → WholeFault Spells Faults bytes f → ⊥
all_whole Spells Faults free whole_value bytes v f p (inl h) = whole_value bytes [] v f p (subst (λ (t : List ℕ). Faults t f) (sym (append-nil bytes)) h)
all_whole Spells Faults free whole_value bytes v f p (inr h) =
    let e : h.front ++ h.rest ≡ bytes ++ [] = sym h.whole ∙ sym (append-nil bytes) in
    let s = free h.front bytes h.rest [] h.value v h.spelled p e in
    let some = h.some in
    omega (arith, ap length (rest_same h.front bytes h.rest [] s.0 e))

parameter_whole : (name bytes : List ℕ) (c : Call) (f : Fault) → Asks name bytes c → ParameterFault name bytes f → ⊥
parameter_whole name bytes c f (Empty e) (OfOne e' h) = some_append (sym e' ∙ e)
parameter_whole name bytes c f (Empty e) (OfMany e' h) = some_batch (sym e' ∙ e)
parameter_whole name bytes c f (Strange z o m) (OfOne e' h) = o e'
parameter_whole name bytes c f (Strange z o m) (OfMany e' h) = m e'
parameter_whole name bytes c f (One es e i) (OfOne e' h) = all_whole IsEvent EventFault same_event event_whole bytes i.0 f i.1 h
parameter_whole name bytes c f (One es e i) (OfMany e' h) = other_names (sym e ∙ e')
parameter_whole name bytes c f (Many es e i) (OfOne e' h) = other_names (sym e' ∙ e)
parameter_whole name bytes c f (Many es e i) (OfMany e' h) = all_whole IsBatch BatchFault same_batch batch_whole bytes es f i h

-- bytes that are a call have no fault
pub no_call_fault : NoCallFault
no_call_fault bytes c f p (InHead h) = head_whole p.head p.rest p.name f p.named (subst (λ (t : List ℕ). HeadFault t f) p.whole h)
no_call_fault bytes c f p (InParameter head rest name inner whole named h e) =
    let g = sym p.whole ∙ whole in
    let s = same_head p.head head p.rest rest p.name name p.named named g in
    let r = rest_same p.head head p.rest rest s.0 g in
    let a = subst (λ (t : List ℕ). Asks t p.rest c) s.1 p.asks in
    parameter_whole name rest c inner (subst (λ (t : List ℕ). Asks name t c) r a) h
