-- Where a value is spelled there is no fault.
use Rattle.std.proofs.Common.{◌≡◌, ℕ, ◌<◌, ◌≤◌, true, false, List, [], ◌∷◌, ◌++◌, length, refl, sym, ap, subst, ◌∙◌, append_assoc, arith, inl, inr}
use Rattle.std.specs.Prelude.{ℤ, pos, negsuc}
use Rattle.std.specs.Str.{IsUtf8}
use Rattle.std.proofs.lemmas.List.{length-append}
use Rattle.avro_binary.specs.Fault.{Fault, Behind}
use Rattle.avro_binary.specs.Number.{IsGroups, IsNumber, zigzag, AllGoOn, NumberFault, GoesOn, TooLong, TooWide, IsInt, IntFault, IsLong, LongFault}
use Rattle.avro_binary.specs.Value.{IsBoolean, BooleanFault, NoByte, OtherByte, IsBytes, BytesFault, InLength, Negative, Cut, IsText, TextFault, InBytes, NotUtf8, IsFixed, FixedFault}
use Rattle.avro_binary.specs.Items.{IsCount, Plain, Sized, CountFault, InCount, InSize, IsItems, Next, Open, Close, ItemsFault, AtItem, AfterItem, AtCount, AfterCount, IsEntry, EntryFault, IsMeta, MetaFault, IsMap, MapFault}
use Rattle.avro_binary.specs.Event.{IsEvent, EventFault, IsBatch, BatchFault}
use Rattle.avro_binary.specs.Laws.{IsPrefixFree, ExcludesFaults}
use Rattle.avro_binary.proofs.Lists.{same_front}
use Rattle.avro_binary.proofs.PrefixFree.{same_head, same_groups, same_long, same_natural, same_count, same_text, same_entry, same_bytes, same_map, same_event, rest_same}

-- where a number is spelled, some byte is its last
pub never_goes_on : (front rest : List ℕ) (n : ℕ) → IsGroups front n → AllGoOn (front ++ rest) → ⊥
never_goes_on [] rest n g h = g
never_goes_on (b ∷ []) rest n g h = omega (arith, g.0, h.0)
never_goes_on (b ∷ c ∷ front) rest n g h = never_goes_on (c ∷ front) rest g.2 g.4 h.1

ends_before : (front rest other more : List ℕ) (n : ℕ) → IsGroups front n → AllGoOn other → front ++ rest ≡ other ++ more → length front ≤ length other → ⊥
ends_before [] rest other more n g h e len = g
ends_before (b ∷ []) rest [] more n g h e len = omega arith
ends_before (b ∷ []) rest (c ∷ other) more n g h e len = omega (arith, g.0, h.0, (same_head b c rest (other ++ more) e).0)
ends_before (b ∷ d ∷ front) rest [] more n g h e len = omega arith
ends_before (b ∷ d ∷ front) rest (c ∷ other) more n g h e len =
    ends_before (d ∷ front) rest other more g.2 g.4 h.1 (same_head b c (d ∷ (front ++ rest)) (other ++ more) e).1 (omega arith)

number_whole : (most max : ℕ) (front rest : List ℕ) (n : ℕ) (f : Fault) → IsNumber most max front n → NumberFault most max (front ++ rest) f → ⊥
number_whole most max front rest n f p (GoesOn all short e) = never_goes_on front rest n p.groups all
number_whole most max front rest n f p (TooLong other more whole all len e) = ends_before front rest other more n p.groups all whole (let s = p.short in omega arith)
number_whole most max front rest n f p (TooWide other more k whole groups short large e) =
    let s = same_groups front other rest more n k p.groups groups whole in
    let fits = p.fits in
    omega (arith, s.1)

-- where an int is spelled there is no fault
pub int_whole : ExcludesFaults IsInt IntFault
int_whole front rest z f p h = number_whole 5 0xffff_ffff front rest (zigzag z) f p h

-- where a long is spelled there is no fault
pub long_whole : ExcludesFaults IsLong LongFault
long_whole front rest z f p h = number_whole 10 0xffff_ffff_ffff_ffff front rest (zigzag z) f p h

boolean_fault : (b : ℕ) (rest : List ℕ) (f : Fault) → b < 2 → BooleanFault (b ∷ rest) f → ⊥
boolean_fault b rest f small (NoByte none e) = absurd cc
boolean_fault b rest f small (OtherByte c more whole large e) = omega (arith, (same_head b c rest more whole).0)

-- where a boolean is spelled there is no fault
pub boolean_whole : ExcludesFaults IsBoolean BooleanFault
boolean_whole front rest true f p h = boolean_fault 1 rest f (omega arith) (subst (λ (t : List ℕ). BooleanFault (t ++ rest) f) p h)
boolean_whole front rest false f p h = boolean_fault 0 rest f (omega arith) (subst (λ (t : List ℕ). BooleanFault (t ++ rest) f) p h)

-- a front of two parts
parts : (a b w x : List ℕ) → w ≡ a ++ b → w ++ x ≡ a ++ (b ++ x)
parts a b w x e = ap (λ (t : List ℕ). t ++ x) e ∙ append_assoc a b x

-- bytes that begin with a long have no fault of a long
pub long_at : (front : List ℕ) (rest : List ℕ) (z : ℤ) (bytes : List ℕ) (f : Fault) → IsLong front z → bytes ≡ front ++ rest → LongFault bytes f → ⊥
long_at front rest z bytes f p e h = long_whole front rest z f p (subst (λ (t : List ℕ). LongFault t f) e h)

-- where bytes are spelled there is no fault
pub bytes_whole : ExcludesFaults IsBytes BytesFault
bytes_whole front rest v f p (InLength h) = long_at p.front (v ++ rest) (pos (length v)) (front ++ rest) f p.counted (parts p.front v front rest p.whole) h
bytes_whole front rest v f p (Negative other more n whole long e) =
    let s = same_long p.front other (v ++ rest) more (pos (length v)) (negsuc n) p.counted long (sym (parts p.front v front rest p.whole) ∙ whole) in
    absurd (let h = s.1 in cc)
bytes_whole front rest v f p (Cut other more n whole long short e) =
    let g = sym (parts p.front v front rest p.whole) ∙ whole in
    let s = same_long p.front other (v ++ rest) more (pos (length v)) (pos n) p.counted long g in
    let r = rest_same p.front other (v ++ rest) more s.0 g in
    omega (arith, same_natural (length v) n s.1, ap length r, length-append v rest)

-- where a text is spelled there is no fault
pub text_whole : ExcludesFaults IsText TextFault
text_whole front rest v f p (InBytes h) = bytes_whole front rest v f p.counted h
text_whole front rest v f p (NotUtf8 other content more whole long not_utf8 e) =
    let c = p.counted in
    let g = sym (parts c.front v front rest c.whole) ∙ whole in
    let s = same_long c.front other (v ++ rest) (content ++ more) (pos (length v)) (pos (length content)) c.counted long g in
    let r = same_front v content rest more (same_natural (length v) (length content) s.1) (rest_same c.front other (v ++ rest) (content ++ more) s.0 g) in
    not_utf8 (subst IsUtf8 r.0 p.utf8)

-- where 16 fixed bytes are spelled there is no fault
pub fixed_whole : ExcludesFaults IsFixed FixedFault
fixed_whole front rest v f p h = omega (arith, h.0, length-append front rest, ap length p.0, p.1)

-- where a block's count is spelled there is no fault
pub count_whole : (front rest : List ℕ) (n : ℕ) (f : Fault) → IsCount front n → CountFault (front ++ rest) f → ⊥
count_whole front rest n f (Plain p) (InCount h) = long_whole front rest (pos n) f p h
count_whole front rest n f (Plain p) (InSize other more k inner whole long h e) =
    let s = same_long front other rest more (pos n) (negsuc k) p long whole in
    absurd (let g = s.1 in cc)
count_whole front rest n f (Sized first back k size whole p q e) (InCount h) = long_at first (back ++ rest) (negsuc k) (front ++ rest) f p (parts first back front rest whole) h
count_whole front rest n f (Sized first back k size whole p q e) (InSize other more k' inner whole' long h e') =
    let g = sym (parts first back front rest whole) ∙ whole' in
    let s = same_long first other (back ++ rest) more (negsuc k) (negsuc k') p long g in
    let r = rest_same first other (back ++ rest) more s.0 g in
    long_at back rest size more inner q (sym r) h

-- where items are spelled there is no fault, if there is none in each item
pub items_whole : {V : Type 0} (Item : List ℕ → V → Type 0) (Faults : List ℕ → Fault → Type 0) → IsPrefixFree Item → ExcludesFaults Item Faults → (j k : ℕ) (front rest bytes : List ℕ) (v : List V) (f : Fault) → j ≡ k → bytes ≡ front ++ rest → IsItems Item j front v → ItemsFault Item Faults k bytes f → ⊥
items_whole {V} Item Faults free whole_item j k front rest bytes v f jk at (Next left all first more value values whole i others) (AtItem left' all' g h) =
    whole_item first (more ++ rest) value f i (subst (λ (t : List ℕ). Faults t f) (at ∙ parts first more front rest whole) h)
items_whole {V} Item Faults free whole_item j k front rest bytes v f jk at (Next left all first more value values whole i others) (AfterItem left' all' first' more' value' g inner whole' i' h e) =
    let p = sym (parts first more front rest whole) ∙ sym at ∙ whole' in
    let s = free first first' (more ++ rest) more' value value' i i' p in
    items_whole Item Faults free whole_item left left' more rest more' values inner (omega arith) (sym (rest_same first first' (more ++ rest) more' s.0 p)) others h
items_whole {V} Item Faults free whole_item j k front rest bytes v f jk at (Next left all first more value values whole i others) (AtCount all' g h) = omega arith
items_whole {V} Item Faults free whole_item j k front rest bytes v f jk at (Next left all first more value values whole i others) (AfterCount n all' first' more' g inner whole' c some h e) = omega arith
items_whole {V} Item Faults free whole_item j k front rest bytes v f jk at (Open n all first more values whole c some others) (AtItem left' all' g h) = omega arith
items_whole {V} Item Faults free whole_item j k front rest bytes v f jk at (Open n all first more values whole c some others) (AfterItem left' all' first' more' value' g inner whole' i' h e) = omega arith
items_whole {V} Item Faults free whole_item j k front rest bytes v f jk at (Open n all first more values whole c some others) (AtCount all' g h) =
    count_whole first (more ++ rest) n f c (subst (λ (t : List ℕ). CountFault t f) (at ∙ parts first more front rest whole) h)
items_whole {V} Item Faults free whole_item j k front rest bytes v f jk at (Open n all first more values whole c some others) (AfterCount n' all' first' more' g inner whole' c' some' h e) =
    let p = sym (parts first more front rest whole) ∙ sym at ∙ whole' in
    let s = same_count first first' (more ++ rest) more' n n' c c' p in
    items_whole Item Faults free whole_item n n' more rest more' v inner s.1 (sym (rest_same first first' (more ++ rest) more' s.0 p)) others h
items_whole {V} Item Faults free whole_item j k front rest bytes v f jk at (Close all c) (AtItem left' all' g h) = omega arith
items_whole {V} Item Faults free whole_item j k front rest bytes v f jk at (Close all c) (AfterItem left' all' first' more' value' g inner whole' i' h e) = omega arith
items_whole {V} Item Faults free whole_item j k front rest bytes v f jk at (Close all c) (AtCount all' g h) =
    count_whole front rest 0 f c (subst (λ (t : List ℕ). CountFault t f) at h)
items_whole {V} Item Faults free whole_item j k front rest bytes v f jk at (Close all c) (AfterCount n' all' first' more' g inner whole' c' some' h e) =
    let s = same_count front first' rest more' 0 n' c c' (sym at ∙ whole') in
    omega (arith, s.1)

-- a value, and after it a fault
behind_whole : {V W : Type 0} (First : List ℕ → V → Type 0) (Second : List ℕ → W → Type 0) (Faults : List ℕ → Fault → Type 0) (a b front rest : List ℕ) (v : V) (w : W) (f : Fault) → IsPrefixFree First → ExcludesFaults Second Faults → front ≡ a ++ b → First a v → Second b w → Behind First Faults (front ++ rest) f → ⊥
behind_whole First Second Faults a b front rest v w f free whole_second whole p q h =
    let g = sym (parts a b front rest whole) ∙ h.whole in
    let s = free a h.front (b ++ rest) h.rest v h.value p h.spelled g in
    whole_second b rest w h.inner q (subst (λ (t : List ℕ). Faults t h.inner) (sym (rest_same a h.front (b ++ rest) h.rest s.0 g)) h.fault)

-- where a key and its value are spelled there is no fault
pub entry_whole : (Spells : List ℕ → List ℕ → Type 0) (Faults : List ℕ → Fault → Type 0) → ExcludesFaults Spells Faults → ExcludesFaults (IsEntry Spells) (EntryFault Faults)
entry_whole Spells Faults whole_value front rest v f p (inl h) = text_whole p.front (p.back ++ rest) v.0 f p.key (subst (λ (t : List ℕ). TextFault t f) (parts p.front p.back front rest p.whole) h)
entry_whole Spells Faults whole_value front rest v f p (inr h) = behind_whole IsText Spells Faults p.front p.back front rest v.0 v.1 f same_text whole_value p.whole p.key p.value h

-- where a map of bytes is spelled there is no fault
pub meta_whole : ExcludesFaults IsMeta MetaFault
meta_whole front rest v f p h = items_whole (IsEntry IsBytes) (EntryFault BytesFault) (same_entry IsBytes same_bytes) (entry_whole IsBytes BytesFault bytes_whole) 0 0 front rest (front ++ rest) v f refl refl p h

-- where a map of texts is spelled there is no fault
pub map_whole : ExcludesFaults IsMap MapFault
map_whole front rest v f p h = items_whole (IsEntry IsText) (EntryFault TextFault) (same_entry IsText same_text) (entry_whole IsText TextFault text_whole) 0 0 front rest (front ++ rest) v f refl refl p h

-- where an event is spelled there is no fault
pub event_whole : ExcludesFaults IsEvent EventFault
event_whole front rest v f p (inl h) = map_whole p.front (p.back ++ rest) p.entries f p.map (subst (λ (t : List ℕ). MapFault t f) (parts p.front p.back front rest p.whole) h)
event_whole front rest v f p (inr h) = behind_whole IsMap IsBytes BytesFault p.front p.back front rest p.entries v.body f same_map bytes_whole p.whole p.map p.body h

-- where a batch is spelled there is no fault
pub batch_whole : ExcludesFaults IsBatch BatchFault
batch_whole front rest v f p h = items_whole IsEvent EventFault same_event event_whole 0 0 front rest (front ++ rest) v f refl refl p h
