-- How reading goes on, field by field.
use Rattle.std.specs.Prelude.{Err, IfErr, IsSomeAnd, MatchOption, None, Option, Result, Some}
use Rattle.std.proofs.Common.{◌≡◌, ◌<◌, ◌≤◌, ◌++◌, ℕ, List, length, drop, refl, sym, ap, subst, ◌∙◌, arith, length-append}
use Rattle.flume_host.specs.Folder.{Files}
use Rattle.flume_host.specs.Told.{Told, WhereTold}
use Rattle.event_core.specs.Numbers.{u32_bytes, u64_bytes}
use Rattle.event_core.proofs.Sizes.{length-u32_bytes, length-u64_bytes}
use Rattle.checkpoint_reading.specs.Fields.{Bad, Is32, Is64, Outcome, check_file}
use Rattle.checkpoint_reading.specs.Reader.{Faults, Goes, IsSameFile, Reader, rest}
use Rattle.checkpoint_reading.specs.declared.refused.CheckReadRefused.{CheckReadRefused}
use Rattle.checkpoint_reading.specs.declared.refused.CheckReadRefused.TheVariants.{BadCheck, DiskFault, NoMemory}
use Rattle.checkpoint_reading.proofs.Unique.{one_u32, one_u64}

-- a fault at the offset from which the bytes were read
pub faults_here : (told : Option Told) (old : Reader) (Before : Files → Outcome → List ℕ → Type 0) (file at : ℕ) → file ≡ old.number → at ≡ old.at → at ≤ old.size
    → WhereTold told (λ t. Before t.reads (Bad (rest t old)) (rest t old)) → Faults told old Before (BadCheck file at)
faults_here told old Before file at number place within gives =
    (number, within, λ t is. subst (λ (k : ℕ). Before t.reads (Bad (drop k (check_file t.reads old.number))) (rest t old)) (sym place) (gives t is))

-- a fault after is one of the bytes before
pub faults_before : (told later : Option Told) (old mid : Reader) (Before Mid : Files → Outcome → List ℕ → Type 0) (e : CheckReadRefused) → later ≡ told → IsSameFile old mid → Goes told old mid Before Mid → Faults later mid Mid e
    → Faults told old Before e
faults_before told later old mid Before Mid DiskFault same file goes faults = tt
faults_before told later old mid Before Mid NoMemory same file goes faults = tt
faults_before told later old mid Before Mid (BadCheck f at) same file goes faults = (
  faults.0 ∙ file.number,
  subst (λ (k : ℕ). at ≤ k) file.size faults.1,
  λ t is. goes t is (Bad (drop at (check_file t.reads old.number)))
      (subst (λ (k : ℕ). Mid t.reads (Bad (drop at (check_file t.reads k))) (rest t mid)) file.number (faults.2 t (same ∙ is))),
)

-- two steps are one
pub goes_then : (told later : Option Told) (a b c : Reader) (A B C : Files → Outcome → List ℕ → Type 0) → later ≡ told → Goes told a b A B → Goes later b c B C → Goes told a c A C
goes_then told later a b c A B C same one two = λ t is o behind. one t is o (two t (same ∙ is) o behind)

-- a reader stays on its file
pub same_then : (a b c : Reader) → IsSameFile a b → IsSameFile b c → IsSameFile a c
same_then a b c one two = record { number = two.number ∙ one.number; size = two.size ∙ one.size }

-- where fewer bytes are left than a field has, it does not stand there
pub short_u32 : (bytes : List ℕ) → length bytes < 4 → (a : ℕ) (more : List ℕ) → bytes ≡ u32_bytes a ++ more → ⊥
short_u32 bytes short a more is = omega (arith, short, ap (λ (l : List ℕ). length l) is, length-append (u32_bytes a) more, length-u32_bytes a)

-- the same of eight bytes
pub short_u64 : (bytes : List ℕ) → length bytes < 8 → (a : ℕ) (more : List ℕ) → bytes ≡ u64_bytes a ++ more → ⊥
short_u64 bytes short a more is = omega (arith, short, ap (λ (l : List ℕ). length l) is, length-append (u64_bytes a) more, length-u64_bytes a)

-- where a number stands that is not right, no other one does
pub other_u32 : (P : ℕ → Type 0) (bytes behind : List ℕ) (n : ℕ) → Is32 n → bytes ≡ u32_bytes n ++ behind → ((a : ℕ) → P a → Is32 a) → (P n → ⊥) → (a : ℕ) (more : List ℕ) → bytes ≡ u32_bytes a ++ more → P a → ⊥
other_u32 P bytes behind n fits is small wrong a more there right = wrong (subst P (sym (one_u32 n a behind more (sym is ∙ there) fits (small a right)).0) right)

-- the same of eight bytes
pub other_u64 : (P : ℕ → Type 0) (bytes behind : List ℕ) (n : ℕ) → Is64 n → bytes ≡ u64_bytes n ++ behind → ((a : ℕ) → P a → Is64 a) → (P n → ⊥) → (a : ℕ) (more : List ℕ) → bytes ≡ u64_bytes a ++ more → P a → ⊥
other_u64 P bytes behind n fits is small wrong a more there right = wrong (subst P (sym (one_u64 n a behind more (sym is ∙ there) fits (small a right)).0) right)

-- what is said where nothing came next
pub when_none : {A : Type 0} (next : Option A) (P : Type 0) (Q : A → Type 0) → ((a : A) → next ≡ Some a → ⊥) → MatchOption next P Q → P
when_none None P Q none is = is
when_none (Some a) P Q none is = absurd (none a refl)

-- what is said of what came next
pub when_some : {A : Type 0} (next : Option A) (a : A) (P : Type 0) (Q : A → Type 0) → next ≡ Some a → MatchOption next P Q → Q a
when_some {A} next a P Q same is = subst (λ (o : Option A). MatchOption o P Q) same is

-- a place is between a file's header and its end
pub place_within : (file : Option (List ℕ)) (bytes : List ℕ) (offset size : ℕ) → file ≡ Some bytes → size ≡ length bytes → IsSomeAnd file (λ b. (16 ≤ offset) × (offset < length b)) → (16 ≤ offset) × (offset < size)
place_within None bytes offset size same long is = absurd (cc)
place_within (Some b) bytes offset size same long is =
    let e : b ≡ bytes = cc in
    (is.0, omega (arith, is.1, long, ap (λ (l : List ℕ). length l) e))

-- the answer of a call that was handed on
pub err_is : {T : Type 0} (r : Result T CheckReadRefused) (P : CheckReadRefused → Type 0) (y e : CheckReadRefused) → r ≡ Err y → y ≡ e → P e → IfErr r P
err_is {T} r P y e is same p = subst (λ (s : Result T CheckReadRefused). IfErr s P) (sym is) (subst P (sym same) p)

-- a fault at the offset of a reader on its way
pub faults_there : (told : Option Told) (start now : Reader) (Before : Files → Outcome → List ℕ → Type 0) (file at : ℕ) → file ≡ start.number → IsSameFile start now → at ≡ now.at → at ≤ now.size
    → WhereTold told (λ t. Before t.reads (Bad (rest t now)) (rest t start)) → Faults told start Before (BadCheck file at)
faults_there told start now Before file at number same place within gives = (
  number,
  subst (λ (k : ℕ). at ≤ k) same.size within,
  λ t is. subst (λ (k : ℕ). Before t.reads (Bad (drop k (check_file t.reads start.number))) (rest t start)) (sym place)
      (subst (λ (k : ℕ). Before t.reads (Bad (drop now.at (check_file t.reads k))) (rest t start)) same.number (gives t is)),
)
