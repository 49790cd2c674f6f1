-- Bytes are read in one way.
use Rattle.std.proofs.Common.{inl, inr, ◌≡◌, ◌≤◌, ◌+◌, ◌++◌, ◌∷◌, [], ℕ, zero, suc, List, length, take, drop, refl, sym, ap, subst, ◌∙◌, arith, append_assoc}
use Rattle.std.specs.Prelude.{codes, flat_map, IsSome}
use Rattle.std.specs.List.{AllByRecursion}
use Rattle.std.proofs.lemmas.List.{drop_at, take_at}
use Rattle.flume_host.specs.Folder.{Files}
use Rattle.flume_host.specs.declared.names.FileName.TheVariants.{Log}
use Rattle.event_core.specs.Numbers.{u32_bytes, u64_bytes}
use Rattle.event_core.proofs.Sizes.{length-u32_bytes, length-u64_bytes}
use Rattle.record_form.specs.declared.record.Pointer.{Pointer}
use Rattle.record_form.specs.Grammar.{u32_of, u64_of}
use Rattle.record_form.proofs.Values.{u32_of-u32_bytes, u64_of-u64_bytes}
use Rattle.checkpoint.specs.declared.place.Next.{Next}
use Rattle.checkpoint.specs.declared.place.Place.{Place}
use Rattle.checkpoint.specs.Text.{CheckText, entry_bytes, live_bytes, pointer_bytes}
use Rattle.checkpoint_reading.specs.Fields.{End, Field, FitsFields, Is32, Is64, IsLive, IsOpenPut, IsOpenTake, IsPlace, IsPut, ListsGive, LiveGive, NumbersGive, Outcome, PlaceGives, PutsGive, TakesGive, head_text, with_live, with_put, with_take}
use Rattle.checkpoint_reading.specs.Laws.{HasOneOutcome}
use Rattle.checkpoint_reading.proofs.Taking.{length_pointer}

-- fronts of one length are one
pub split_front : (p q x y : List ℕ) → length p ≡ length q → p ++ x ≡ q ++ y → (p ≡ q) × (x ≡ y)
split_front p q x y same is = (
  sym (take_at p x (length p) refl) ∙ (ap (λ (l : List ℕ). take (length p) l) is ∙ take_at q y (length p) (sym same)),
  sym (drop_at p x (length p) refl) ∙ (ap (λ (l : List ℕ). drop (length p) l) is ∙ drop_at q y (length p) (sym same)),
)

-- four bytes spell one number
pub one_u32 : (a b : ℕ) (x y : List ℕ) → u32_bytes a ++ x ≡ u32_bytes b ++ y → Is32 a → Is32 b → (a ≡ b) × (x ≡ y)
one_u32 a b x y is fits fits' =
    let both = split_front (u32_bytes a) (u32_bytes b) x y (length-u32_bytes a ∙ sym (length-u32_bytes b)) is in
    (sym (u32_of-u32_bytes a fits) ∙ (ap u32_of both.0 ∙ u32_of-u32_bytes b fits'), both.1)

-- eight bytes spell one number
pub one_u64 : (a b : ℕ) (x y : List ℕ) → u64_bytes a ++ x ≡ u64_bytes b ++ y → Is64 a → Is64 b → (a ≡ b) × (x ≡ y)
one_u64 a b x y is fits fits' =
    let both = split_front (u64_bytes a) (u64_bytes b) x y (length-u64_bytes a ∙ sym (length-u64_bytes b)) is in
    (sym (u64_of-u64_bytes a fits) ∙ (ap u64_of both.0 ∙ u64_of-u64_bytes b fits'), both.1)

abbrev make_pointer : ℕ → ℕ → ℕ → Pointer
make_pointer file at length' = record { file = file; at = at; length = length' }

same_pointer : (a b c d e f : ℕ) → a ≡ d → b ≡ e → c ≡ f → make_pointer a b c ≡ make_pointer d e f
same_pointer a b c d e f one two three = ap (λ (n : ℕ). make_pointer n b c) one ∙ (ap (λ (n : ℕ). make_pointer d n c) two ∙ ap (λ (n : ℕ). make_pointer d e n) three)

-- sixteen bytes spell one pointer
pub one_pointer : (p q : Pointer) (x y : List ℕ) → pointer_bytes p ++ x ≡ pointer_bytes q ++ y → FitsFields p → FitsFields q → (p ≡ q) × (x ≡ y)
one_pointer p q x y is fits fits' =
    let both = split_front (pointer_bytes p) (pointer_bytes q) x y (length_pointer p ∙ sym (length_pointer q)) is in
    let file = one_u32 p.file q.file (u64_bytes p.at ++ u32_bytes p.length) (u64_bytes q.at ++ u32_bytes q.length) both.0 fits.file fits'.file in
    let at = one_u64 p.at q.at (u32_bytes p.length) (u32_bytes q.length) file.1 fits.at fits'.at in
    let long : u32_bytes p.length ++ [] ≡ u32_bytes q.length ++ [] = ap (λ (l : List ℕ). l ++ []) at.1 in
    (same_pointer p.file p.at p.length q.file q.at q.length file.0 at.0 (one_u32 p.length q.length [] [] long fits.length fits'.length).0, both.1)

abbrev pair_of : {A : Type 0} → ℕ → A → ℕ × A
pair_of n a = (n, a)

same_pair : {A : Type 0} (a b : ℕ) (p q : A) → a ≡ b → p ≡ q → pair_of a p ≡ pair_of b q
same_pair {A} a b p q one two = ap (λ (n : ℕ). pair_of n p) one ∙ ap (λ (r : A). pair_of b r) two

-- bytes begin with one event that is left
pub one_live : (l m : ℕ × Pointer) (x y : List ℕ) → live_bytes l ++ x ≡ live_bytes m ++ y → Is64 l.0 → Is64 m.0 → FitsFields l.1 → FitsFields m.1 → (l ≡ m) × (x ≡ y)
one_live l m x y is fits fits' point point' =
    let number = one_u64 l.0 m.0 (pointer_bytes l.1 ++ x) (pointer_bytes m.1 ++ y) (sym (append_assoc (u64_bytes l.0) (pointer_bytes l.1) x) ∙ (is ∙ append_assoc (u64_bytes m.0) (pointer_bytes m.1) y)) fits fits' in
    let pointer = one_pointer l.1 m.1 x y number.1 point point' in
    (same_pair l.0 m.0 l.1 m.1 number.0 pointer.0, pointer.1)

-- lists of as many items
pub one_list : {A : Type 0} (spell : A → List ℕ) (Fits : A → Type 0) → ((a b : A) (x y : List ℕ) → spell a ++ x ≡ spell b ++ y → Fits a → Fits b → (a ≡ b) × (x ≡ y))
    → (ps qs : List A) (x y : List ℕ) → length ps ≡ length qs → flat_map spell ps ++ x ≡ flat_map spell qs ++ y → AllByRecursion Fits ps → AllByRecursion Fits qs → (ps ≡ qs) × (x ≡ y)
one_list spell Fits one [] [] x y many is fits fits' = (refl, is)
one_list spell Fits one [] (b ∷ qs) x y many is fits fits' = absurd (omega (arith, many))
one_list spell Fits one (a ∷ ps) [] x y many is fits fits' = absurd (omega (arith, many))
one_list {A} spell Fits one (a ∷ ps) (b ∷ qs) x y many is fits fits' =
    let first = one a b (flat_map spell ps ++ x) (flat_map spell qs ++ y) (sym (append_assoc (spell a) (flat_map spell ps) x) ∙ (is ∙ append_assoc (spell b) (flat_map spell qs) y)) fits.0 fits'.0 in
    let rest = one_list spell Fits one ps qs x y (omega (arith, many)) first.1 fits.1 fits'.1 in
    (ap (λ (h : A). h ∷ ps) first.0 ∙ ap (λ (l : List A). b ∷ l) rest.0, rest.1)

-- bytes begin with one open transaction
pub one_entry : {A : Type 0} (spell : A → List ℕ) (Fits : A → Type 0) → ((a b : A) (x y : List ℕ) → spell a ++ x ≡ spell b ++ y → Fits a → Fits b → (a ≡ b) × (x ≡ y))
    → (o p : ℕ × List A) (x y : List ℕ) → entry_bytes spell o ++ x ≡ entry_bytes spell p ++ y → Is64 o.0 → Is64 p.0 → Is32 (length o.1) → Is32 (length p.1) → AllByRecursion Fits o.1 → AllByRecursion Fits p.1
    → (o ≡ p) × (x ≡ y)
one_entry {A} spell Fits one o p x y is fits fits' few few' all all' =
    let behind : (ℕ × List A) → List ℕ = λ (e : ℕ × List A). u32_bytes (length e.1) ++ flat_map spell e.1 in
    let number = one_u64 o.0 p.0 (behind o ++ x) (behind p ++ y) (sym (append_assoc (u64_bytes o.0) (behind o) x) ∙ (is ∙ append_assoc (u64_bytes p.0) (behind p) y)) fits fits' in
    let count =
    one_u32 (length o.1) (length p.1) (flat_map spell o.1 ++ x) (flat_map spell p.1 ++ y)
    (sym (append_assoc (u32_bytes (length o.1)) (flat_map spell o.1) x) ∙ (number.1 ∙ append_assoc (u32_bytes (length p.1)) (flat_map spell p.1) y)) few few' in
    let list = one_list spell Fits one o.1 p.1 x y count.0 count.1 all all' in
    (same_pair o.0 p.0 o.1 p.1 number.0 list.0, list.1)

-- a field that is read in one way, with what is after it
field_one : {A : Type 0} (spell : A → List ℕ) (IsRight : A → Type 0) (Behind : Outcome → A → List ℕ → Type 0) (bytes : List ℕ) (one other : Outcome)
    → ((a b : A) (x y : List ℕ) → spell a ++ x ≡ spell b ++ y → IsRight a → IsRight b → (a ≡ b) × (x ≡ y)) → ((a : A) (more : List ℕ) → Behind one a more → Behind other a more → one ≡ other)
    → Field spell IsRight (Behind one) one bytes → Field spell IsRight (Behind other) other bytes → one ≡ other
field_one {A} spell IsRight Behind bytes one other unique behind (inl f) (inl g) =
    let same = unique f.0 g.0 f.1 g.1 (sym f.2 ∙ g.2) f.3 g.3 in
    behind f.0 f.1 f.4 (subst (λ (m : List ℕ). Behind other f.0 m) (sym same.1) (subst (λ (a : A). Behind other a g.1) (sym same.0) g.4))
field_one spell IsRight Behind bytes one other unique behind (inl f) (inr none) = absurd (none.0 f.0 f.1 f.2 f.3)
field_one spell IsRight Behind bytes one other unique behind (inr none) (inl g) = absurd (none.0 g.0 g.1 g.2 g.3)
field_one spell IsRight Behind bytes one other unique behind (inr none) (inr none') = none.1 ∙ sym none'.1

end_one : (c : CheckText) (bytes : List ℕ) (one other : Outcome) → End c one bytes → End c other bytes → one ≡ other
end_one c bytes one other (inl e) (inl f) = e.1 ∙ sym f.1
end_one c bytes one other (inl e) (inr f) = absurd (omega (arith, f.0, ap (λ (l : List ℕ). length l) e.0))
end_one c bytes one other (inr e) (inl f) = absurd (omega (arith, e.0, ap (λ (l : List ℕ). length l) f.0))
end_one c bytes one other (inr e) (inr f) = e.1 ∙ sym f.1

-- what a transaction may put fits its fields
pub puts_fit : (files : Files) (txn : ℕ) (pointers : List Pointer) → AllByRecursion (IsPut files txn) pointers → AllByRecursion FitsFields pointers
puts_fit files txn [] all = tt
puts_fit files txn (p ∷ pointers) all = (all.0.0, puts_fit files txn pointers all.1)

-- so many open takes, and the end, give one outcome
pub takes_one : (c : CheckText) (low n : ℕ) (bytes : List ℕ) (one other : Outcome) → TakesGive one c low n bytes → TakesGive other c low n bytes → one ≡ other
takes_one c low zero bytes one other g h = end_one c bytes one other g h
takes_one c low (suc n) bytes one other g h =
    field_one (entry_bytes u64_bytes) (IsOpenTake c low) (λ o e. TakesGive o (with_take c e) (e.0 + 1) n) bytes one other
    (λ a b x y is right right'. one_entry u64_bytes Is64 one_u64 a b x y is right.entry.fits right'.entry.fits right.entry.count right'.entry.count right.numbers right'.numbers)
    (λ e more i j. takes_one (with_take c e) (e.0 + 1) n more one other i j) g h

-- so do open puts, and what is after them
pub puts_one : (files : Files) (c : CheckText) (low n : ℕ) (bytes : List ℕ) (one other : Outcome) → PutsGive files one c low n bytes → PutsGive files other c low n bytes → one ≡ other
puts_one files c low zero bytes one other g h =
    field_one u32_bytes Is32 (λ o count. TakesGive o c 1 count) bytes one other one_u32 (λ count more i j. takes_one c 1 count more one other i j) g h
puts_one files c low (suc n) bytes one other g h =
    field_one (entry_bytes pointer_bytes) (IsOpenPut files c low) (λ o e. PutsGive files o (with_put c e) (e.0 + 1) n) bytes one other
    (λ a b x y is right right'. one_entry pointer_bytes FitsFields one_pointer a b x y is right.entry.fits right'.entry.fits right.entry.count right'.entry.count (puts_fit files a.0 a.1 right.puts) (puts_fit files b.0 b.1 right'.puts))
    (λ e more i j. puts_one files (with_put c e) (e.0 + 1) n more one other i j) g h

-- and events that are left, and what is after them
pub live_one : (files : Files) (c : CheckText) (low n : ℕ) (bytes : List ℕ) (one other : Outcome) → LiveGive files one c low n bytes → LiveGive files other c low n bytes → one ≡ other
live_one files c low zero bytes one other g h =
    field_one u32_bytes Is32 (λ o count. PutsGive files o c 1 count) bytes one other one_u32 (λ count more i j. puts_one files c 1 count more one other i j) g h
live_one files c low (suc n) bytes one other g h =
    field_one live_bytes (IsLive files c low) (λ o l. LiveGive files o (with_live c l) (l.0 + 1) n) bytes one other
    (λ a b x y is right right'. one_live a b x y is right.fits right'.fits right.pointer right'.pointer)
    (λ l more i j. live_one files (with_live c l) (l.0 + 1) n more one other i j) g h

one_text : (text : List ℕ) (a b x y : List ℕ) → a ++ x ≡ b ++ y → a ≡ text → b ≡ text → (a ≡ b) × (x ≡ y)
one_text text a b x y is one two = split_front a b x y (ap (λ (l : List ℕ). length l) (one ∙ sym two)) is

one_form : (a b : ℕ) (x y : List ℕ) → u32_bytes a ++ x ≡ u32_bytes b ++ y → a ≡ 1 → b ≡ 1 → (a ≡ b) × (x ≡ y)
one_form a b x y is one two = one_u32 a b x y is (omega (arith, one)) (omega (arith, two))

lists_one : (files : Files) (place : Place) (next : Next) (bytes : List ℕ) (one other : Outcome) → ListsGive files one place next bytes → ListsGive files other place next bytes → one ≡ other
lists_one files place next bytes one other g h =
    field_one u32_bytes Is32 (λ o count. LiveGive files o (head_text place next) 0 count) bytes one other one_u32 (λ count more i j. live_one files (head_text place next) 0 count more one other i j) g h

numbers_one : (files : Files) (place : Place) (bytes : List ℕ) (one other : Outcome) → NumbersGive files one place bytes → NumbersGive files other place bytes → one ≡ other
numbers_one files place bytes one other g h =
    field_one u64_bytes Is64 (λ o number. Field u64_bytes (λ txn. (1 ≤ txn) × Is64 txn) (λ txn. ListsGive files o place (record { number = number; txn = txn })) o) bytes one other one_u64
    (λ number more i j.
    field_one u64_bytes (λ txn. (1 ≤ txn) × Is64 txn) (λ o txn. ListsGive files o place (record { number = number; txn = txn })) more one other
    (λ a b x y is right right'. one_u64 a b x y is right.1 right'.1) (λ txn more' k l. lists_one files place (record { number = number; txn = txn }) more' one other k l) i j)
    g h

place_one : (files : Files) (bytes : List ℕ) (one other : Outcome) → PlaceGives files one bytes → PlaceGives files other bytes → one ≡ other
place_one files bytes one other g h =
    field_one u32_bytes (λ file. Is32 file × IsSome (files (Log file)))
    (λ o file. Field u64_bytes (λ at. IsPlace files (record { file = file; at = at })) (λ at. NumbersGive files o (record { file = file; at = at })) o) bytes one other
    (λ a b x y is right right'. one_u32 a b x y is right.0 right'.0)
    (λ file more i j.
    field_one u64_bytes (λ at. IsPlace files (record { file = file; at = at })) (λ o at. NumbersGive files o (record { file = file; at = at })) more one other
    (λ a b x y is right right'. one_u64 a b x y is right.0 right'.0) (λ at more' k l. numbers_one files (record { file = file; at = at }) more' one other k l) i j)
    g h

-- and a whole checkpoint
pub one_outcome : HasOneOutcome
one_outcome files bytes one other g h =
    field_one (λ text. text) (λ text. text ≡ codes "FLUMECHK") (λ o text. Field u32_bytes (λ form. form ≡ 1) (λ form. PlaceGives files o) o) bytes one other (one_text (codes "FLUMECHK"))
    (λ text more i j. field_one u32_bytes (λ form. form ≡ 1) (λ o form. PlaceGives files o) more one other one_form (λ form more' k l. place_one files more' one other k l) i j) g h
