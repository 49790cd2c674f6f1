-- A body is searched as a text or as bytes, and groups become headers one after another.
use Rattle.std.proofs.Common.{◌≡◌, ℕ, ◌+◌, ◌≤◌, Bool, true, false, List, [], ◌∷◌, Option, Some, refl, ap, arith, slice_range, option_map}
use Rattle.std.specs.Str.{IsUtf8, is_utf8}
use Rattle.std.proofs.lemmas.Str.{IsUtf8-from_is_utf8, is_utf8-from_IsUtf8}
use Rattle.event_core.specs.Content.{Header}
use Rattle.regex.specs.Patterns.{Match}
use Rattle.regex.specs.Writes.{group_of}
use Rattle.regex_steps.specs.Extract.{Serializer, extracted, headers_of}

is_not : (b : Bool) → (b ≡ true → ⊥) → b ≡ false
is_not true h = absurd (h refl)
is_not false h = refl

-- the test finds a body to be a text where it is UTF-8
pub is_text : (body : List ℕ) → IsUtf8 body → is_utf8 body ≡ true
is_text body u = is_utf8-from_IsUtf8 body u

-- the test finds no text where a body is not UTF-8
pub no_text : (body : List ℕ) → (IsUtf8 body → ⊥) → is_utf8 body ≡ false
no_text body h = is_not (is_utf8 body) (λ e. h (IsUtf8-from_is_utf8 body e))

-- Groups that match alike from a number on set the same headers.
extracted_alike : (f g : ℕ → Option (List ℕ)) (n : ℕ) (names : List Serializer) (headers : List Header) →
    ((k : ℕ) → n ≤ k → f k ≡ g k) → extracted f n names headers ≡ extracted g n names headers
extracted_alike f g n [] headers same = refl
extracted_alike f g n (name ∷ names) headers same =
    rw (same n (omega arith)) (extracted_alike f g (n + 1) names _ (λ k le. same k (omega arith)))

-- Spans that are those of the match from group 1 on give the headers of the match.
pub headers_of_spans : (body : List ℕ) (m : Match) (span : ℕ → Option (ℕ × ℕ)) (names : List Serializer) (headers : List Header) →
    ((k : ℕ) → 1 ≤ k → span k ≡ group_of m k) →
    extracted (λ n. option_map (λ (s : ℕ × ℕ). slice_range body s.0 s.1) (span n)) 1 names headers ≡ headers_of body names headers (Some m)
headers_of_spans body m span names headers same =
    extracted_alike _ _ 1 names headers (λ k le. ap (option_map (λ (s : ℕ × ℕ). slice_range body s.0 s.1)) (same k le))
