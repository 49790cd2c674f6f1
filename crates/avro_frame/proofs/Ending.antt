-- The length of a pack is put in its place.
use Rattle.std.proofs.Common.{◌≡◌, ℕ, List, [], ◌∷◌, ◌++◌, length, get_or, sym, ap, ◌∙◌, append-nil}
use Rattle.std.specs.Prelude.{slice_set}
use Rattle.std.specs.Int.{w32, to_be_bytes}
use Rattle.avro_frame.specs.Pack.{u32_bytes, begun, pack}

abbrev put : List ℕ → List ℕ → List ℕ
put old l = slice_set (slice_set (slice_set (slice_set old 8 (get_or l 0 0)) 9 (get_or l 1 0)) 10 (get_or l 2 0)) 11 (get_or l 3 0)

in_place : (serial : ℕ) (payload : List ℕ) → put (begun serial ++ payload) (u32_bytes (length payload)) ≡ pack serial (payload ∷ [])
unfolding u32_bytes
in_place serial payload = ap (λ (t : List ℕ). put (begun serial ++ t) (u32_bytes (length payload))) (sym (append-nil payload))

-- four bytes after the first eight are a pack's length
pub ended : (old l : List ℕ) (serial : ℕ) (payload : List ℕ) → l ≡ u32_bytes (length payload) → old ≡ begun serial ++ payload → put old l ≡ pack serial (payload ∷ [])
ended old l serial payload s is = ap (λ (t : List ℕ). put t l) is ∙ ap (λ (t : List ℕ). put (begun serial ++ payload) t) s ∙ in_place serial payload

-- the bytes of an equal number are its four bytes
pub as_bytes : (l : List ℕ) (m n : ℕ) → l ≡ to_be_bytes w32 m → m ≡ n → l ≡ u32_bytes n
unfolding u32_bytes
as_bytes l m n is same = is ∙ ap (λ (k : ℕ). to_be_bytes w32 k) same
