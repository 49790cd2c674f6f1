-- Bytes that begin with no value are at fault at one place.
use Rattle.std.proofs.Common.{◌≡◌, ℕ, ◌+◌, ◌<◌, List, ◌++◌, length, refl, sym, ap, subst, ◌∙◌, append_assoc, arith, inl, inr}
use Rattle.std.specs.Prelude.{pos, negsuc, ◌⊎◌}
use Rattle.std.proofs.lemmas.List.{length-append}
use Rattle.avro_binary.specs.Fault.{Fault, Lacks, Wrong, shift, Behind}
use Rattle.avro_binary.specs.Number.{IsGroups, AllGoOn, NumberFault, GoesOn, TooLong, TooWide, IntFault, IsLong, LongFault, max_int, max_long}
use Rattle.avro_binary.specs.Value.{BooleanFault, NoByte, OtherByte, IsBytes, BytesFault, InLength, Negative, Cut, IsText, TextFault, InBytes, NotUtf8, FixedFault}
use Rattle.avro_binary.specs.Items.{CountFault, InCount, InSize, ItemsFault, AtItem, AfterItem, AtCount, AfterCount, IsEntry, EntryFault, MetaFault, IsMap, MapFault}
use Rattle.avro_binary.specs.Event.{IsEvent, EventFault, BatchFault}
use Rattle.avro_binary.specs.Laws.{IsPrefixFree, ExcludesFaults, HasOneFault}
use Rattle.avro_binary.proofs.PrefixFree.{same_long, same_natural, same_count, same_text, same_entry, same_bytes, same_map, same_event, rest_same}
use Rattle.avro_binary.proofs.NoFault.{never_goes_on, long_at, bytes_whole, text_whole, count_whole, entry_whole, map_whole, event_whole}

-- ---- numbers

goes_on_short : {A : Type 0} (most : ℕ) (bytes front rest : List ℕ) → length bytes < most → bytes ≡ front ++ rest → length front ≡ most → A
goes_on_short most bytes front rest short whole len = absurd (omega (arith, ap length whole, length-append front rest))

goes_on_ended : {A : Type 0} (bytes front rest : List ℕ) (n : ℕ) → AllGoOn bytes → bytes ≡ front ++ rest → IsGroups front n → A
goes_on_ended bytes front rest n all whole groups = absurd (never_goes_on front rest n groups (subst (λ (t : List ℕ). AllGoOn t) whole all))

-- a number of any width is at fault at one place
pub one_number : (most max : ℕ) → HasOneFault (NumberFault most max)
one_number most max bytes f g (GoesOn all short e) (GoesOn all' short' e') = e ∙ sym e'
one_number most max bytes f g (GoesOn all short e) (TooLong front rest whole all' len e') = goes_on_short most bytes front rest short whole len
one_number most max bytes f g (GoesOn all short e) (TooWide front rest n whole groups len large e') = goes_on_ended bytes front rest n all whole groups
one_number most max bytes f g (TooLong front rest whole all len e) (GoesOn all' short e') = goes_on_short most bytes front rest short whole len
one_number most max bytes f g (TooLong front rest whole all len e) (TooLong front' rest' whole' all' len' e') = e ∙ sym e'
one_number most max bytes f g (TooLong front rest whole all len e) (TooWide front' rest' n whole' groups len' large e') = e ∙ sym e'
one_number most max bytes f g (TooWide front rest n whole groups len large e) (GoesOn all short e') = goes_on_ended bytes front rest n all whole groups
one_number most max bytes f g (TooWide front rest n whole groups len large e) (TooLong front' rest' whole' all' len' e') = e ∙ sym e'
one_number most max bytes f g (TooWide front rest n whole groups len large e) (TooWide front' rest' n' whole' groups' len' large' e') = e ∙ sym e'

-- an int is at fault at one place
pub one_int : HasOneFault IntFault
one_int bytes f g h k = one_number 5 max_int bytes f g h k

-- a long is at fault at one place
pub one_long : HasOneFault LongFault
one_long bytes f g h k = one_number 10 max_long bytes f g h k

-- ---- values of one or two fields

-- a boolean is at fault at one place
pub one_boolean : HasOneFault BooleanFault
one_boolean bytes f g (NoByte none e) (NoByte none' e') = e ∙ sym e'
one_boolean bytes f g (NoByte none e) (OtherByte b rest whole large e') = absurd (let h = sym none ∙ whole in cc)
one_boolean bytes f g (OtherByte b rest whole large e) (NoByte none e') = absurd (let h = sym none ∙ whole in cc)
one_boolean bytes f g (OtherByte b rest whole large e) (OtherByte b' rest' whole' large' e') = e ∙ sym e'

negative_cut : {A : Type 0} (bytes a b x y : List ℕ) (m n : ℕ) → bytes ≡ a ++ x → bytes ≡ b ++ y → IsLong a (negsuc m) → IsLong b (pos n) → A
negative_cut bytes a b x y m n p q long long' =
    let s = same_long a b x y (negsuc m) (pos n) long long' (sym p ∙ q) in
    absurd (let h = s.1 in cc)

-- bytes after their length are at fault at one place
pub one_bytes : HasOneFault BytesFault
one_bytes bytes f g (InLength h) (InLength k) = one_long bytes f g h k
one_bytes bytes f g (InLength h) (Negative front rest n whole long e) = absurd (long_at front rest (negsuc n) bytes f long whole h)
one_bytes bytes f g (InLength h) (Cut front rest n whole long short e) = absurd (long_at front rest (pos n) bytes f long whole h)
one_bytes bytes f g (Negative front rest n whole long e) (InLength k) = absurd (long_at front rest (negsuc n) bytes g long whole k)
one_bytes bytes f g (Negative front rest n whole long e) (Negative front' rest' n' whole' long' e') = e ∙ sym e'
one_bytes bytes f g (Negative front rest n whole long e) (Cut front' rest' n' whole' long' short e') = negative_cut bytes front front' rest rest' n n' whole whole' long long'
one_bytes bytes f g (Cut front rest n whole long short e) (InLength k) = absurd (long_at front rest (pos n) bytes g long whole k)
one_bytes bytes f g (Cut front rest n whole long short e) (Negative front' rest' n' whole' long' e') = negative_cut bytes front' front rest' rest n' n whole' whole long' long
one_bytes bytes f g (Cut front rest n whole long short e) (Cut front' rest' n' whole' long' short' e') =
    let s = same_long front front' rest rest' (pos n) (pos n') long long' (sym whole ∙ whole') in
    let p = s.0 in
    let q = same_natural n n' s.1 in
    e ∙ ap (λ (t : List ℕ). Lacks (length t) (length t + n)) p ∙ ap (λ (k : ℕ). Lacks (length front') (length front' + k)) q ∙ sym e'

bytes_no_text : {A : Type 0} (bytes front content rest : List ℕ) (f : Fault) → BytesFault bytes f → bytes ≡ front ++ (content ++ rest) → IsLong front (pos (length content)) → A
bytes_no_text bytes front content rest f h whole long =
    absurd (bytes_whole (front ++ content) rest content f (record { front = front; whole = refl; counted = long }) (subst (λ (t : List ℕ). BytesFault t f) (whole ∙ sym (append_assoc front content rest)) h))

-- a text is at fault at one place
pub one_text : HasOneFault TextFault
one_text bytes f g (InBytes h) (InBytes k) = one_bytes bytes f g h k
one_text bytes f g (InBytes h) (NotUtf8 front content rest whole long other e) = bytes_no_text bytes front content rest f h whole long
one_text bytes f g (NotUtf8 front content rest whole long other e) (InBytes k) = bytes_no_text bytes front content rest g k whole long
one_text bytes f g (NotUtf8 front content rest whole long other e) (NotUtf8 front' content' rest' whole' long' other' e') =
    let s = same_long front front' (content ++ rest) (content' ++ rest') (pos (length content)) (pos (length content')) long long' (sym whole ∙ whole') in
    e ∙ ap (λ (t : List ℕ). Wrong (length t)) s.0 ∙ sym e'

-- a fixed value is at fault at one place
pub one_fixed : HasOneFault FixedFault
one_fixed bytes f g h k = h.1 ∙ sym k.1

-- ---- one value after another

-- the same fault after the same front
pub same_shift : (a b : List ℕ) (i j f g : Fault) → a ≡ b → i ≡ j → f ≡ shift (length a) i → g ≡ shift (length b) j → f ≡ g
same_shift a b i j f g p q e e' = e ∙ ap (λ (t : List ℕ). shift (length t) i) p ∙ ap (λ (k : Fault). shift (length b) k) q ∙ sym e'

-- two fields, one after the other, are at fault at one place, if each is
pub one_of_pair : {V : Type 0} (First : List ℕ → V → Type 0) (FirstFault SecondFault : List ℕ → Fault → Type 0) → IsPrefixFree First → ExcludesFaults First FirstFault → HasOneFault FirstFault → HasOneFault SecondFault → (bytes : List ℕ) (f g : Fault) → FirstFault bytes f ⊎ Behind First SecondFault bytes f → FirstFault bytes g ⊎ Behind First SecondFault bytes g → f ≡ g
one_of_pair First FirstFault SecondFault free whole one other bytes f g (inl h) (inl k) = one bytes f g h k
one_of_pair First FirstFault SecondFault free whole one other bytes f g (inl h) (inr k) = absurd (whole k.front k.rest k.value f k.spelled (subst (λ (t : List ℕ). FirstFault t f) k.whole h))
one_of_pair First FirstFault SecondFault free whole one other bytes f g (inr h) (inl k) = absurd (whole h.front h.rest h.value g h.spelled (subst (λ (t : List ℕ). FirstFault t g) h.whole k))
one_of_pair First FirstFault SecondFault free whole one other bytes f g (inr h) (inr k) =
    let e = sym h.whole ∙ k.whole in
    let s = free h.front k.front h.rest k.rest h.value k.value h.spelled k.spelled e in
    let r = rest_same h.front k.front h.rest k.rest s.0 e in
    same_shift h.front k.front h.inner k.inner f g s.0 (other k.rest h.inner k.inner (subst (λ (t : List ℕ). SecondFault t h.inner) r h.fault) k.fault) h.shifted k.shifted

-- ---- items

-- a block's count is at fault at one place
pub one_count : HasOneFault CountFault
one_count bytes f g (InCount h) (InCount k) = one_long bytes f g h k
one_count bytes f g (InCount h) (InSize front rest k inner whole long i e) = absurd (long_at front rest (negsuc k) bytes f long whole h)
one_count bytes f g (InSize front rest k inner whole long i e) (InCount h) = absurd (long_at front rest (negsuc k) bytes g long whole h)
one_count bytes f g (InSize front rest k inner whole long i e) (InSize front' rest' k' inner' whole' long' i' e') =
    let p = sym whole ∙ whole' in
    let s = same_long front front' rest rest' (negsuc k) (negsuc k') long long' p in
    let r = rest_same front front' rest rest' s.0 p in
    same_shift front front' inner inner' f g s.0 (one_long rest' inner inner' (subst (λ (t : List ℕ). LongFault t inner) r i) i') e e'

one_items : {V : Type 0} (Item : List ℕ → V → Type 0) (Faults : List ℕ → Fault → Type 0) → IsPrefixFree Item → ExcludesFaults Item Faults → HasOneFault Faults → (j k : ℕ) (bytes other : List ℕ) (f g : Fault) → j ≡ k → bytes ≡ other → ItemsFault Item Faults j bytes f → ItemsFault Item Faults k other g → f ≡ g
one_items {V} Item Faults free whole_item one j k bytes other f g jk at (AtItem left b f' h) (AtItem left' b' g' h') = one other f g (subst (λ (t : List ℕ). Faults t f) at h) h'
one_items {V} Item Faults free whole_item one j k bytes other f g jk at (AtItem left b f' h) (AfterItem left' b' front rest value g' inner whole i more e) =
    absurd (whole_item front rest value f i (subst (λ (t : List ℕ). Faults t f) (at ∙ whole) h))
one_items {V} Item Faults free whole_item one j k bytes other f g jk at (AtItem left b f' h) (AtCount b' g' h') = absurd (omega arith)
one_items {V} Item Faults free whole_item one j k bytes other f g jk at (AtItem left b f' h) (AfterCount n b' front rest g' inner whole c some more e) = absurd (omega arith)
one_items {V} Item Faults free whole_item one j k bytes other f g jk at (AfterItem left b front rest value f' inner whole i more e) (AtItem left' b' g' h') =
    absurd (whole_item front rest value g i (subst (λ (t : List ℕ). Faults t g) (sym at ∙ whole) h'))
one_items {V} Item Faults free whole_item one j k bytes other f g jk at (AfterItem left b front rest value f' inner whole i more e) (AfterItem left' b' front' rest' value' g' inner' whole' i' more' e') =
    let p = sym whole ∙ at ∙ whole' in
    let s = free front front' rest rest' value value' i i' p in
    let r = rest_same front front' rest rest' s.0 p in
    same_shift front front' inner inner' f g s.0 (one_items Item Faults free whole_item one left left' rest rest' inner inner' (omega arith) r more more') e e'
one_items {V} Item Faults free whole_item one j k bytes other f g jk at (AfterItem left b front rest value f' inner whole i more e) (AtCount b' g' h') = absurd (omega arith)
one_items {V} Item Faults free whole_item one j k bytes other f g jk at (AfterItem left b front rest value f' inner whole i more e) (AfterCount n b' front' rest' g' inner' whole' c some more' e') = absurd (omega arith)
one_items {V} Item Faults free whole_item one j k bytes other f g jk at (AtCount b f' h) (AtItem left' b' g' h') = absurd (omega arith)
one_items {V} Item Faults free whole_item one j k bytes other f g jk at (AtCount b f' h) (AfterItem left' b' front rest value g' inner whole i more e) = absurd (omega arith)
one_items {V} Item Faults free whole_item one j k bytes other f g jk at (AtCount b f' h) (AtCount b' g' h') = one_count other f g (subst (λ (t : List ℕ). CountFault t f) at h) h'
one_items {V} Item Faults free whole_item one j k bytes other f g jk at (AtCount b f' h) (AfterCount n b' front rest g' inner whole c some more e) =
    absurd (count_whole front rest n f c (subst (λ (t : List ℕ). CountFault t f) (at ∙ whole) h))
one_items {V} Item Faults free whole_item one j k bytes other f g jk at (AfterCount n b front rest f' inner whole c some more e) (AtItem left' b' g' h') = absurd (omega arith)
one_items {V} Item Faults free whole_item one j k bytes other f g jk at (AfterCount n b front rest f' inner whole c some more e) (AfterItem left' b' front' rest' value g' inner' whole' i more' e') = absurd (omega arith)
one_items {V} Item Faults free whole_item one j k bytes other f g jk at (AfterCount n b front rest f' inner whole c some more e) (AtCount b' g' h') =
    absurd (count_whole front rest n g c (subst (λ (t : List ℕ). CountFault t g) (sym at ∙ whole) h'))
one_items {V} Item Faults free whole_item one j k bytes other f g jk at (AfterCount n b front rest f' inner whole c some more e) (AfterCount n' b' front' rest' g' inner' whole' c' some' more' e') =
    let p = sym whole ∙ at ∙ whole' in
    let s = same_count front front' rest rest' n n' c c' p in
    let r = rest_same front front' rest rest' s.0 p in
    same_shift front front' inner inner' f g s.0 (one_items Item Faults free whole_item one n n' rest rest' inner inner' s.1 r more more') e e'

one_entry : (Spells : List ℕ → List ℕ → Type 0) (Faults : List ℕ → Fault → Type 0) → HasOneFault Faults → HasOneFault (EntryFault Faults)
one_entry Spells Faults one bytes f g h k = one_of_pair IsText TextFault Faults same_text text_whole one_text one bytes f g h k

-- a map of bytes is at fault at one place
pub one_meta : HasOneFault MetaFault
one_meta bytes f g h k = one_items (IsEntry IsBytes) (EntryFault BytesFault) (same_entry IsBytes same_bytes) (entry_whole IsBytes BytesFault bytes_whole) (one_entry IsBytes BytesFault one_bytes) 0 0 bytes bytes f g refl refl h k

one_map : HasOneFault MapFault
one_map bytes f g h k = one_items (IsEntry IsText) (EntryFault TextFault) (same_entry IsText same_text) (entry_whole IsText TextFault text_whole) (one_entry IsText TextFault one_text) 0 0 bytes bytes f g refl refl h k

-- an event is at fault at one place
pub one_event : HasOneFault EventFault
one_event bytes f g h k = one_of_pair IsMap MapFault BytesFault same_map map_whole one_map one_bytes bytes f g h k

-- a batch is at fault at one place
pub one_batch : HasOneFault BatchFault
one_batch bytes f g h k = one_items IsEvent EventFault same_event event_whole one_event 0 0 bytes bytes f g refl refl h k
