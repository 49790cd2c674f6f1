-- The files of a list, by name.
use Rattle.std.proofs.Common.{◌≡◌, ◌<◌, ℕ, suc, List, [], ◌∷◌, ◌++◌, length, set, get_or, take, Option, Some, None, Bool, true, false, not, cond, refl, sym, ◌∙◌, ap}
use Rattle.std.specs.List.{filter}
use Rattle.flume_host.specs.declared.names.FileName.{FileName}
use Rattle.flume_host.specs.Folder.{Files, same_name, with_at}
use Rattle.flume_host.proofs.Images.{same_name_is, same_name_self}
use Rattle.flume_host.proofs.Telling.{some_same}
use Rattle.host_memory.specs.declared.parts.MemFile.{MemFile}
use Rattle.host_memory.specs.Parts.{files_of, place}
use Rattle.host_memory.proofs.Look as look

abbrev name_of : MemFile → FileName
name_of file = file.name

abbrev bytes_of : MemFile → Option (List ℕ)
bytes_of file = Some file.bytes.items

-- where no earlier file has the name and this one has it, it is at this place
pub place_found : (files : List MemFile) (name : FileName) (i : ℕ) (d : MemFile) → i < length files → place (take i files) name ≡ None → same_name name (get_or files i d).name ≡ true → place files name ≡ Some i
place_found = look.place_found same_name same_name_is same_name_self name_of bytes_of None

-- where no earlier file has the name and this one neither, none up to it has
pub place_more : (files : List MemFile) (name : FileName) (i : ℕ) (d : MemFile) → i < length files → place (take i files) name ≡ None → same_name name (get_or files i d).name ≡ false → place (take (suc i) files) name ≡ None
place_more = look.place_more same_name same_name_is same_name_self name_of bytes_of None

-- a name that has no place has no file
pub not_placed : (files : List MemFile) (name : FileName) → place files name ≡ None → files_of files name ≡ None
not_placed = look.not_placed same_name same_name_is same_name_self name_of bytes_of None

pub record Placed (files : List MemFile) (name : FileName) (i : ℕ) : Type 0 where
  pub below : i < length files
  pub found : (d : MemFile) → files_of files name ≡ Some (get_or files i d).bytes.items
  pub named : (d : MemFile) → (get_or files i d).name ≡ name

-- at the place of a name there is its file
pub placed : (files : List MemFile) (name : FileName) (i : ℕ) → place files name ≡ Some i → Placed files name i
placed files name i is = let p = look.placed same_name same_name_is same_name_self name_of bytes_of None files name i is in record { below = p.below; found = p.found; named = p.named }

-- the first file of a name gets other bytes
pub files_of-set : (files : List MemFile) (name : FileName) (i : ℕ) (file : MemFile) → place files name ≡ Some i → file.name ≡ name → (n : FileName) → files_of (set files i file) n ≡ with_at (files_of files) name (Some file.bytes.items) n
files_of-set = look.look-set same_name same_name_is same_name_self name_of bytes_of None

-- a file of a new name
pub files_of-push : (files : List MemFile) (file : MemFile) → place files file.name ≡ None → (n : FileName) → files_of (files ++ file ∷ []) n ≡ with_at (files_of files) file.name (Some file.bytes.items) n
files_of-push = look.look-push same_name same_name_is same_name_self name_of bytes_of None

-- the same files, and one more of the same name and bytes
pub files_of-more : (files copies : List MemFile) (file copy : MemFile) → files_of files ≡ files_of copies → file.name ≡ copy.name → file.bytes.items ≡ copy.bytes.items → files_of (files ++ file ∷ []) ≡ files_of (copies ++ copy ∷ [])
files_of-more files copies file copy same named equal = λ i n. (appended files file n
    ∙ ap (λ (f : Files). or_file (f n) (files_of (file ∷ []) n)) same
    ∙ ap (λ (m : FileName). or_file (files_of copies n) (cond (same_name n m) (Some file.bytes.items) None)) named
    ∙ ap (λ (b : List ℕ). or_file (files_of copies n) (cond (same_name n copy.name) (Some b) None)) equal
    ∙ sym (appended copies copy n)) i
  where
    or_file : Option (List ℕ) → Option (List ℕ) → Option (List ℕ)
    or_file None o = o
    or_file (Some bytes) o = Some bytes

    first : (b : Bool) (x : List ℕ) (rest o later : Option (List ℕ)) → later ≡ or_file rest o → cond b (Some x) later ≡ or_file (cond b (Some x) rest) o
    first true x rest o later is = refl
    first false x rest o later is = is

    appended : (fs : List MemFile) (f : MemFile) (n : FileName) → files_of (fs ++ f ∷ []) n ≡ or_file (files_of fs n) (files_of (f ∷ []) n)
    appended [] f n = refl
    appended (x ∷ xs) f n = first (same_name n x.name) x.bytes.items (files_of xs n) (files_of (f ∷ []) n) (files_of (xs ++ f ∷ []) n) (appended xs f n)

-- a read at the place of a name gives the bytes that its file had
pub place_read : (files : List MemFile) (name : FileName) (was : List ℕ) → files_of files name ≡ Some was → (i : ℕ) (file : MemFile) → place files name ≡ Some i → file ≡ get_or files i file → was ≡ file.bytes.items
place_read files name was had i file is read =
    let found = (placed files name i is).found file in
    let same : Some was ≡ Some (get_or files i file).bytes.items = sym had ∙ found in
    some_same _ _ same ∙ ap (λ (f : MemFile). f.bytes.items) (sym read)

abbrev pub other_than : FileName → MemFile → Bool
other_than name file = not (same_name name file.name)

none_either : (b : Bool) (o : Option (List ℕ)) → o ≡ None → o ≡ cond b None o
none_either true o is = is
none_either false o is = refl

filtered : (b c : Bool) (f : MemFile) (rest gone : List MemFile) (name n : FileName) → b ≡ same_name name f.name → c ≡ same_name n name → files_of rest n ≡ cond c None (files_of gone n) → files_of (cond (not b) (f ∷ rest) rest) n ≡ cond c None (files_of (f ∷ gone) n)
filtered true true f rest gone name n is_b is_c later = later
filtered true false f rest gone name n is_b is_c later =
    let there : f.name ≡ name = sym (same_name_is name f.name (sym is_b)) in
    later ∙ ap (λ (b : Bool). cond b (Some f.bytes.items) (files_of gone n)) (is_c ∙ ap (λ (m : FileName). same_name n m) (sym there))
filtered false true f rest gone name n is_b is_c later =
    let here : n ≡ name = same_name_is n name (sym is_c) in
    ap (λ (b : Bool). cond b (Some f.bytes.items) (files_of rest n)) (ap (λ (m : FileName). same_name m f.name) here ∙ sym is_b) ∙ later
filtered false false f rest gone name n is_b is_c later = ap (λ (o : Option (List ℕ)). cond (same_name n f.name) (Some f.bytes.items) o) later

-- no file of a name is left
pub files_of-filter : (files : List MemFile) (name n : FileName) → files_of (filter (other_than name) files) n ≡ with_at (files_of files) name None n
files_of-filter [] name n = none_either (same_name n name) (files_of [] n) refl
files_of-filter (f ∷ fs) name n = filtered (same_name name f.name) (same_name n name) f (filter (other_than name) fs) fs name n refl refl (files_of-filter fs name n)
