-- A reply is read in one way.
use Rattle.std.proofs.Common.{◌≡◌, ℕ, ◌++◌, true, false, List, [], ◌∷◌, refl, sym, ap, subst, ◌∙◌, inl, inr}
use Rattle.std.specs.Prelude.{Bool, ℤ, pos, Ok, Err}
use Rattle.avro_binary.specs.Number.{IsInt, IntFault}
use Rattle.avro_binary.specs.Value.{BooleanFault, IsText, TextFault, IsFixed, FixedFault}
use Rattle.avro_binary.specs.Items.{IsMeta, MetaFault}
use Rattle.avro_binary.specs.Laws.{IsPrefixFree, ExcludesFaults, HasOneFault}
use Rattle.avro_binary.proofs.PrefixFree.{same_int, same_boolean, same_text, same_fixed, same_meta}
use Rattle.avro_binary.proofs.NoFault.{int_whole, boolean_whole, text_whole, fixed_whole, meta_whole}
use Rattle.avro_binary.proofs.OneFault.{one_int, one_boolean, one_text, one_fixed, one_meta, one_of_pair}
use Rattle.avro_hop.specs.declared.handshake.Match.TheVariants.{Both, Client}
use Rattle.avro_hop.specs.declared.respond.Status.{Status}
use Rattle.avro_hop.specs.Parts.{IsOption, OptionFault, PairFault, place}
use Rattle.avro_hop.specs.Calls.{status_index, response}
use Rattle.avro_hop.specs.Responses.{Told, match_index, told_of, IsOutcome}
use Rattle.avro_hop.specs.Replies.{EnumFault, InIndex, OtherIndex, IsAgreed, IsStatus, IsAccord, AccordFault, IsNoError, FlagFault, IsTold, ToldFault, IsReply, SpelledFault, OneReply, RepliesAreRead}
use Rattle.avro_hop.proofs.OneReading.{same_pair, pair_whole, same_option, option_whole, all_whole}
use Rattle.avro_hop.proofs.OneFault.{one_option, one_whole}
use Rattle.avro_hop.proofs.Responses.{one_greeting, one_response, same_match, greetings_are_spelled, responses_are_spelled}

-- ---- enums

abbrev AreInts : {E : Type 0} → (List ℕ → E → Type 0) → Type 0
AreInts {E} Is = (bytes : List ℕ) (e : E) → Is bytes e → (z : ℤ) × IsInt bytes z

enum_whole : {E : Type 0} (Is : List ℕ → E → Type 0) → AreInts Is → ExcludesFaults Is (EnumFault Is)
enum_whole Is ints front rest e f p (InIndex h) = let i = ints front e p in int_whole front rest i.0 f i.1 h
enum_whole Is ints front rest e f p (OtherIndex other more z whole i none place) =
    let j = ints front e p in
    let same = (same_int front other rest more j.0 z j.1 i whole).0 in
    none e (subst (λ (t : List ℕ). Is t e) same p)

one_enum : {E : Type 0} (Is : List ℕ → E → Type 0) → HasOneFault (EnumFault Is)
one_enum Is bytes f g (InIndex h) (InIndex k) = one_int bytes f g h k
one_enum Is bytes f g (InIndex h) (OtherIndex front rest z whole i none e) = absurd (int_whole front rest z f i (subst (λ (t : List ℕ). IntFault t f) whole h))
one_enum Is bytes f g (OtherIndex front rest z whole i none e) (InIndex h) = absurd (int_whole front rest z g i (subst (λ (t : List ℕ). IntFault t g) whole h))
one_enum Is bytes f g (OtherIndex front rest z whole i none e) (OtherIndex front' rest' z' whole' i' none' e') = e ∙ sym e'

agreed_ints : AreInts IsAgreed
agreed_ints bytes found p = (pos (match_index found), p.0)

status_ints : AreInts IsStatus
status_ints bytes s p = (pos (status_index s), p)

same_agreed : IsPrefixFree IsAgreed
same_agreed a b x y v w p q e =
    let s = same_int a b x y (pos (match_index v)) (pos (match_index w)) p.0 q.0 e in
    (s.0, same_match v w s.1)

-- ---- the answer to a handshake

same_accord : IsPrefixFree IsAccord
same_accord a b x y v w p q e = one_greeting a b x y v w p.0 q.0 e

accord_whole : ExcludesFaults IsAccord AccordFault
accord_whole front rest told f p h =
    let g = p.0 in
    let behind = g.text_bytes ++ (g.hash_bytes ++ g.meta_bytes) in
    let last = g.hash_bytes ++ g.meta_bytes in
    pair_whole IsAgreed (IsOption IsText) (EnumFault IsAgreed) (PairFault (IsOption IsText) (OptionFault TextFault) (PairFault (IsOption IsFixed) (OptionFault FixedFault) (OptionFault MetaFault))) same_agreed (enum_whole IsAgreed agreed_ints) g.index_bytes behind front rest told.found f g.whole (g.index, p.1)
    (λ i k. pair_whole (IsOption IsText) (IsOption IsFixed) (OptionFault TextFault) (PairFault (IsOption IsFixed) (OptionFault FixedFault) (OptionFault MetaFault)) (same_option IsText same_text) (option_whole IsText TextFault text_whole) g.text_bytes last behind rest told.text i refl g.text_at
    (λ j l. pair_whole (IsOption IsFixed) (IsOption IsMeta) (OptionFault FixedFault) (OptionFault MetaFault) (same_option IsFixed same_fixed) (option_whole IsFixed FixedFault fixed_whole) g.hash_bytes g.meta_bytes last rest told.hash j refl g.hash_at
    (λ m n. option_whole IsMeta MetaFault meta_whole g.meta_bytes rest g.meta m g.meta_at n) l) k) h

one_hash : HasOneFault (PairFault (IsOption IsFixed) (OptionFault FixedFault) (OptionFault MetaFault))
one_hash bytes f g h k = one_of_pair (IsOption IsFixed) (OptionFault FixedFault) (OptionFault MetaFault) (same_option IsFixed same_fixed) (option_whole IsFixed FixedFault fixed_whole) (one_option FixedFault one_fixed) (one_option MetaFault one_meta) bytes f g h k

one_texts : HasOneFault (PairFault (IsOption IsText) (OptionFault TextFault) (PairFault (IsOption IsFixed) (OptionFault FixedFault) (OptionFault MetaFault)))
one_texts bytes f g h k = one_of_pair (IsOption IsText) (OptionFault TextFault) (PairFault (IsOption IsFixed) (OptionFault FixedFault) (OptionFault MetaFault)) (same_option IsText same_text) (option_whole IsText TextFault text_whole) (one_option TextFault one_text) one_hash bytes f g h k

one_accord : HasOneFault AccordFault
one_accord bytes f g h k = one_of_pair IsAgreed (EnumFault IsAgreed) (PairFault (IsOption IsText) (OptionFault TextFault) (PairFault (IsOption IsFixed) (OptionFault FixedFault) (OptionFault MetaFault))) same_agreed (enum_whole IsAgreed agreed_ints) (one_enum IsAgreed) one_texts bytes f g h k

-- ---- responses

same_flag : IsPrefixFree IsNoError
same_flag a b x y v w p q e = same_boolean a b x y v w p.0 q.0 e

flag_differs : {A : Type 0} (a rest more : List ℕ) (error : Bool) → IsNoError a error → a ++ rest ≡ 1 ∷ more → A
flag_differs a rest more true n e = absurd (let f = n.1 in cc)
flag_differs a rest more false n e =
    let g : 0 ∷ rest ≡ 1 ∷ more = sym (ap (λ (t : List ℕ). t ++ rest) n.0) ∙ e in
    absurd cc

flag_whole : ExcludesFaults IsNoError FlagFault
flag_whole front rest error f p (inl h) = boolean_whole front rest error f p.0 h
flag_whole front rest error f p (inr h) = flag_differs front rest h.0 error p h.1

one_flag : HasOneFault FlagFault
one_flag bytes f g (inl h) (inl k) = one_boolean bytes f g h k
one_flag bytes f g (inl h) (inr k) = absurd (boolean_whole (1 ∷ []) k.0 true f refl (subst (λ (t : List ℕ). BooleanFault t f) k.1 h))
one_flag bytes f g (inr h) (inl k) = absurd (boolean_whole (1 ∷ []) h.0 true g refl (subst (λ (t : List ℕ). BooleanFault t g) h.1 k))
one_flag bytes f g (inr h) (inr k) = h.2 ∙ sym k.2

one_status : (s t : Status) → Told s ≡ Told t → s ≡ t
one_status s t e = cc

same_told : IsPrefixFree IsTold
same_told a b x y s t p q e =
    let r = one_response a b x y (Told s) (Told t) p q e in
    (r.0, one_status s t r.1)

told_whole : ExcludesFaults IsTold ToldFault
told_whole front rest s f p h =
    let i = p.1 in
    let o = i.second in
    pair_whole IsMeta IsOutcome MetaFault (PairFault IsNoError FlagFault (EnumFault IsStatus)) same_meta meta_whole i.front i.back front rest p.0 f i.whole i.first
    (λ g k. pair_whole IsNoError IsStatus FlagFault (EnumFault IsStatus) same_flag flag_whole o.front o.back i.back rest false g o.whole (o.first, refl)
    (λ j l. enum_whole IsStatus status_ints o.back rest s j o.second l) k) h

one_behind_meta : HasOneFault (PairFault IsNoError FlagFault (EnumFault IsStatus))
one_behind_meta bytes f g h k = one_of_pair IsNoError FlagFault (EnumFault IsStatus) same_flag flag_whole one_flag (one_enum IsStatus) bytes f g h k

one_told : HasOneFault ToldFault
one_told bytes f g h k = one_of_pair IsMeta MetaFault (PairFault IsNoError FlagFault (EnumFault IsStatus)) same_meta meta_whole one_meta one_behind_meta bytes f g h k

-- ---- replies

same_reply : (first : Bool) → IsPrefixFree (IsReply first)
same_reply true a b x y s t p q e =
    let r = same_pair IsAccord IsTold same_accord same_told a b x y p.0 q.0 s t p.1 q.1 e in
    (r.0, r.2)
same_reply false a b x y s t p q e = same_told a b x y s t p q e

reply_excludes : (first : Bool) → ExcludesFaults (IsReply first) (SpelledFault first)
reply_excludes true front rest s f p h =
    let i = p.1 in
    pair_whole IsAccord IsTold AccordFault ToldFault same_accord accord_whole i.front i.back front rest p.0 f i.whole i.first (λ g k. told_whole i.back rest s g i.second k) h
reply_excludes false front rest s f p h = told_whole front rest s f p h

one_spelled : (first : Bool) → HasOneFault (SpelledFault first)
one_spelled true bytes f g h k = one_of_pair IsAccord AccordFault ToldFault same_accord accord_whole one_accord one_told bytes f g h k
one_spelled false bytes f g h k = one_told bytes f g h k

-- a reply is read in one way
pub one_reply_lem : OneReply
one_reply_lem first bytes (Ok s) (Ok t) p q = ap Ok (same_reply first bytes bytes [] [] s t p q refl).1
one_reply_lem first bytes (Ok s) (Err at) p q = absurd (all_whole (IsReply first) (SpelledFault first) (same_reply first) (reply_excludes first) bytes s q.0 p q.1)
one_reply_lem first bytes (Err at) (Ok t) p q = absurd (all_whole (IsReply first) (SpelledFault first) (same_reply first) (reply_excludes first) bytes t p.0 q p.1)
one_reply_lem first bytes (Err at) (Err other) p q =
    let same = one_whole (IsReply first) (SpelledFault first) (same_reply first) (reply_excludes first) (one_spelled first) bytes p.0 q.0 p.1 q.1 in
    ap Err (p.2 ∙ ap place same ∙ sym q.2)

-- what a server of this agent answers is read as its status
pub replies_are_read : RepliesAreRead
replies_are_read s = (
  (told_of Both, record { front = _; back = response s; whole = refl; first = (greetings_are_spelled Both, λ e. absurd cc); second = responses_are_spelled s }),
  (told_of Client, record { front = _; back = response s; whole = refl; first = (greetings_are_spelled Client, λ e. absurd cc); second = responses_are_spelled s }),
  responses_are_spelled s,
)
