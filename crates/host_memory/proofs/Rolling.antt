-- The files of a folder of rolled files.
use Rattle.std.proofs.Common.{◌≡◌, ◌<◌, ◌∙◌, ap, sym, ℕ, zero, suc, List, [], ◌∷◌, ◌++◌, length, set, get_or, take, refl, arith, string_bytes}
use Rattle.flume_host.specs.Rolled.{RollFile, GrewBy, IsNewName}
use Rattle.host_memory.specs.declared.mem_roll.RolledFile.{RolledFile}
use Rattle.host_memory.specs.Rolls.{file_by, files_by}

-- the files of two lists in one are those of the first and then those of the second
pub files_by-append : (xs ys : List RolledFile) → files_by (xs ++ ys) ≡ files_by xs ++ files_by ys
files_by-append [] ys = refl
files_by-append (x ∷ xs) ys = ap (λ (l : List RollFile). file_by x ∷ l) (files_by-append xs ys)

grew_behind : (first : RollFile) (bytes : List ℕ) (old new : List RollFile) → GrewBy bytes old new → GrewBy bytes (first ∷ old) (first ∷ new)
grew_behind first bytes old new g = record { front = first ∷ g.front; last = g.last; was = ap (λ (l : List RollFile). first ∷ l) g.was; is = ap (λ (l : List RollFile). first ∷ l) g.is }

-- the last file got bytes
pub grew : (files : List RolledFile) (last : ℕ) (was now : RolledFile) (bytes : List ℕ) → suc last ≡ length files → was ≡ get_or files last was → file_by now ≡ record (file_by was) { bytes = was.bytes.items ++ bytes }
    → GrewBy bytes (files_by files) (files_by (set files last now))
grew [] last was now bytes is at file = absurd (omega (arith, is))
grew (x ∷ []) zero was now bytes is at file = record { front = []; last = file_by was; was = ap (λ (f : RolledFile). file_by f ∷ []) (sym at); is = ap (λ (f : RollFile). f ∷ []) file }
grew (x ∷ y ∷ ys) zero was now bytes is at file = absurd (omega (arith, is))
grew (x ∷ xs) (suc last) was now bytes is at file = grew_behind (file_by x) bytes (files_by xs) (files_by (set xs last now)) (grew xs last was now bytes (omega (arith, is)) at file)

-- a name that none of the first files has, nor the next one, none of those has
pub new_more : (files : List RolledFile) (i : ℕ) (d : RolledFile) (name : List ℕ) → i < length files → IsNewName (files_by (take i files)) name → (string_bytes (get_or files i d).name ≡ name → ⊥) → IsNewName (files_by (take (suc i) files)) name
new_more [] i d name below before differs = absurd (omega (arith, below))
new_more (x ∷ xs) zero d name below before differs = (differs, tt)
new_more (x ∷ xs) (suc i) d name below before differs = (before.0, new_more xs i d name (omega (arith, below)) before.1 differs)

-- a name that some file has is not new
pub not_new : (files : List RolledFile) (i : ℕ) (d : RolledFile) (name : List ℕ) → i < length files → string_bytes (get_or files i d).name ≡ name → IsNewName (files_by files) name → ⊥
not_new [] i d name below same new = omega (arith, below)
not_new (x ∷ xs) zero d name below same new = new.0 same
not_new (x ∷ xs) (suc i) d name below same new = not_new xs i d name (omega (arith, below)) same new.1

-- the bytes of a file are as before
pub same_files : (files : List RolledFile) (at : ℕ) (was now : RolledFile) → at < length files → was ≡ get_or files at was → file_by now ≡ file_by was → files_by (set files at now) ≡ files_by files
same_files [] at was now below is same = absurd (omega (arith, below))
same_files (x ∷ xs) zero was now below is same = ap (λ (f : RollFile). f ∷ files_by xs) (same ∙ ap file_by is)
same_files (x ∷ xs) (suc at) was now below is same = ap (λ (l : List RollFile). file_by x ∷ l) (same_files xs at was now (omega (arith, below)) is same)
