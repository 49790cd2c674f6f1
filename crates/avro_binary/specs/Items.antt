-- Arrays and maps: blocks of items, and a count of 0.
use Rattle.std.specs.Prelude.{◌≡◌, ℕ, suc, ◌<◌, List, [], ◌∷◌, ◌++◌, length, ℤ, pos, negsuc, ◌⊎◌}
use Rattle.avro_binary.specs.Fault.{Fault, shift, Behind}
use Rattle.avro_binary.specs.Number.{IsLong, LongFault}
use Rattle.avro_binary.specs.Value.{IsBytes, BytesFault, IsText, TextFault}

-- a block's count; a negative one is followed by a size, which says nothing
pub data IsCount (bytes : List ℕ) (n : ℕ) : Type 0 where
  Plain : IsLong bytes (pos n) → IsCount bytes n
  Sized : (front back : List ℕ) (k : ℕ) (size : ℤ) → bytes ≡ front ++ back → IsLong front (negsuc k) → IsLong back size → n ≡ suc k → IsCount bytes n

pub data CountFault (bytes : List ℕ) (f : Fault) : Type 0 where
  InCount : LongFault bytes f → CountFault bytes f
  InSize : (front rest : List ℕ) (k : ℕ) (inner : Fault) → bytes ≡ front ++ rest → IsLong front (negsuc k) → LongFault rest inner → f ≡ shift (length front) inner → CountFault bytes f

-- The items of a block of which so many are left, and of the blocks after it.
pub data IsItems {V : Type 0} (Item : List ℕ → V → Type 0) : ℕ → List ℕ → List V → Type 0 where
  -- an item of the block
  Next : (left : ℕ) (bytes front rest : List ℕ) (value : V) (values : List V) → bytes ≡ front ++ rest → Item front value → IsItems Item left rest values → IsItems Item (suc left) bytes (value ∷ values)
  -- a block begins
  Open : (n : ℕ) (bytes front rest : List ℕ) (values : List V) → bytes ≡ front ++ rest → IsCount front n → 0 < n → IsItems Item n rest values → IsItems Item 0 bytes values
  -- a count of 0 ends them
  Close : (bytes : List ℕ) → IsCount bytes 0 → IsItems Item 0 bytes []

-- the first fault in the block and after it
pub data ItemsFault {V : Type 0} (Item : List ℕ → V → Type 0) (Faults : List ℕ → Fault → Type 0) : ℕ → List ℕ → Fault → Type 0 where
  AtItem : (left : ℕ) (bytes : List ℕ) (f : Fault) → Faults bytes f → ItemsFault Item Faults (suc left) bytes f
  AfterItem : (left : ℕ) (bytes front rest : List ℕ) (value : V) (f inner : Fault) → bytes ≡ front ++ rest → Item front value → ItemsFault Item Faults left rest inner → f ≡ shift (length front) inner → ItemsFault Item Faults (suc left) bytes f
  AtCount : (bytes : List ℕ) (f : Fault) → CountFault bytes f → ItemsFault Item Faults 0 bytes f
  AfterCount : (n : ℕ) (bytes front rest : List ℕ) (f inner : Fault) → bytes ≡ front ++ rest → IsCount front n → 0 < n → ItemsFault Item Faults n rest inner → f ≡ shift (length front) inner → ItemsFault Item Faults 0 bytes f

-- a key, and a value of one kind
pub record IsEntry (Spells : List ℕ → List ℕ → Type 0) (bytes : List ℕ) (entry : List ℕ × List ℕ) : Type 0 where
  pub front : List ℕ
  pub back : List ℕ
  pub whole : bytes ≡ front ++ back
  pub key : IsText front entry.0
  pub value : Spells back entry.1

abbrev pub EntryFault : (List ℕ → Fault → Type 0) → List ℕ → Fault → Type 0
EntryFault Faults bytes f = TextFault bytes f ⊎ Behind IsText Faults bytes f

-- a map of bytes
abbrev pub IsMeta : List ℕ → List (List ℕ × List ℕ) → Type 0
IsMeta bytes entries = IsItems (IsEntry IsBytes) 0 bytes entries

abbrev pub MetaFault : List ℕ → Fault → Type 0
MetaFault bytes f = ItemsFault (IsEntry IsBytes) (EntryFault BytesFault) 0 bytes f

-- a map of texts, with its entries in the order in which they stand
abbrev pub IsMap : List ℕ → List (List ℕ × List ℕ) → Type 0
IsMap bytes entries = IsItems (IsEntry IsText) 0 bytes entries

abbrev pub MapFault : List ℕ → Fault → Type 0
MapFault bytes f = ItemsFault (IsEntry IsText) (EntryFault TextFault) 0 bytes f
