-- Headers as a map's entries, and the length of their bytes.
use Rattle.std.proofs.Common.{◌≡◌, ℕ, ◌+◌, Bool, true, false, cond, List, [], ◌∷◌, length, Some, None, Ordering, refl, sym, ap, ◌∙◌, arith}
use Rattle.std.specs.Prelude.{String}
use Rattle.std.specs.declared.cmp.Ordering.TheVariants.{Less, Equal, Greater}
use Rattle.std.specs.Ordering.{is_eq, match_ordering}
use Rattle.std.specs.Option.{option_map}
use Rattle.std.specs.String.{string_bytes, string_cmp}
use Rattle.std.specs.List.{AllByRecursion, AllZip}
use Rattle.std.specs.List.Sorted.{IsStrictlySortedBy}
use Rattle.std.specs.Map.{keys_of, lookup, remove_entry}
use Rattle.std.specs.BTreeMap.{insert_entry, is_at}
use Rattle.std.specs.Cmp.Lexicographic.{nat_list_cmp_total}
use Rattle.std.proofs.lemmas.Map.{lookup-none}
use Rattle.std.proofs.lemmas.Map.Entries.{none_below_head}
use Rattle.std.proofs.lemmas.Map.Text.{is_eq-slice_cmp}
use Rattle.std.proofs.lemmas.Map.Keys.{sorted_tail}
use Rattle.std.proofs.lemmas.Slice.Eq.{bytes_eq-Decides}
use Rattle.std.proofs.lemmas.List.Sums.{sum_by-cons}
use Rattle.std.proofs.lemmas.Str.{IsUtf8-string_bytes}
use Rattle.event_core.specs.Content.{Header, IsTextHeader, AreHeaders, key_cmp, value_of, with_header, without_header, header_size, headers_size}
use Rattle.event_core.specs.Texts.{pair_bytes, pairs_bytes}

module _ {Y Z : Type 0} where
  -- a look-up by bytes is one among the texts
  pub value_of-pairs : (es : List (String Y × String Z)) (key : List ℕ) → value_of (pairs_bytes es) key ≡ option_map string_bytes (lookup (λ k. is_eq (key_cmp key (string_bytes k))) es)
  value_of-pairs [] key = refl
  value_of-pairs (e ∷ es) key =
      elim (is_eq (key_cmp key (string_bytes e.0))) as (λ b. cond b (Some (string_bytes e.1)) (value_of (pairs_bytes es) key) ≡ option_map string_bytes (cond b (Some e.1) (lookup (λ k. is_eq (key_cmp key (string_bytes k))) es)))
      [ true ↦ refl | false ↦ value_of-pairs es key ]

  -- putting a text into a map puts a header among its bytes
  pub with_header-pairs : (es : List (String Y × String Z)) (k : String Y) (v : String Z) → pairs_bytes (insert_entry string_cmp es k v) ≡ with_header (pairs_bytes es) (string_bytes k) (string_bytes v)
  with_header-pairs [] k v = refl
  with_header-pairs (e ∷ es) k v =
      elim (string_cmp k e.0) as (λ o. pairs_bytes (match_ordering o ((k, v) ∷ e ∷ es) ((e.0, v) ∷ es) (e ∷ insert_entry string_cmp es k v))
      ≡ match_ordering o ((string_bytes k, string_bytes v) ∷ pairs_bytes (e ∷ es)) ((string_bytes e.0, string_bytes v) ∷ pairs_bytes es) (pair_bytes e ∷ with_header (pairs_bytes es) (string_bytes k) (string_bytes v)))
      [ Less ↦ refl | Equal ↦ refl | Greater ↦ ap (λ hs. pair_bytes e ∷ hs) (with_header-pairs es k v) ]

  -- removing a text from a map removes the header of its key
  pub without_header-pairs : (es : List (String Y × String Z)) (key : List ℕ) → pairs_bytes (remove_entry (λ k. is_eq (key_cmp key (string_bytes k))) es) ≡ without_header (pairs_bytes es) key
  without_header-pairs [] key = refl
  without_header-pairs (e ∷ es) key =
      elim (is_eq (key_cmp key (string_bytes e.0))) as (λ b. pairs_bytes (cond b es (e ∷ remove_entry (λ k. is_eq (key_cmp key (string_bytes k))) es)) ≡ cond b (pairs_bytes es) (pair_bytes e ∷ without_header (pairs_bytes es) key))
      [ true ↦ refl | false ↦ ap (λ hs. pair_bytes e ∷ hs) (without_header-pairs es key) ]

  above-pairs : (k : String Y) (es : List (String Y × String Z)) → AllByRecursion (λ q. string_cmp k q ≡ Less) (keys_of es) → AllByRecursion (λ q. key_cmp (string_bytes k) q ≡ Less) (keys_of (pairs_bytes es))
  above-pairs k [] h = tt
  above-pairs k (e ∷ es) h = (h.0, above-pairs k es h.1)

  rising-pairs : (es : List (String Y × String Z)) → IsStrictlySortedBy string_cmp (keys_of es) → IsStrictlySortedBy key_cmp (keys_of (pairs_bytes es))
  unfolding IsStrictlySortedBy
  rising-pairs [] h = tt
  rising-pairs (e ∷ es) h = (above-pairs e.0 es h.0, rising-pairs es h.1)

  texts-pairs : (es : List (String Y × String Z)) → AllByRecursion IsTextHeader (pairs_bytes es)
  texts-pairs [] = tt
  texts-pairs (e ∷ es) = ((IsUtf8-string_bytes e.0, IsUtf8-string_bytes e.1), texts-pairs es)

  -- what a map of texts has are headers
  pub AreHeaders-pairs : (es : List (String Y × String Z)) → IsStrictlySortedBy string_cmp (keys_of es) → AreHeaders (pairs_bytes es)
  AreHeaders-pairs es h = record { rising = rising-pairs es h; texts = texts-pairs es }

  -- clones of texts have their bytes
  pub pairs_bytes-clone : (es fs : List (String Y × String Z)) → AllZip (λ p q. (string_bytes q.0 ≡ string_bytes p.0) × (string_bytes q.1 ≡ string_bytes p.1)) es fs → pairs_bytes fs ≡ pairs_bytes es
  pairs_bytes-clone [] [] h = refl
  pairs_bytes-clone [] (f ∷ fs) h = absurd h
  pairs_bytes-clone (e ∷ es) [] h = absurd h
  pairs_bytes-clone (e ∷ es) (f ∷ fs) h =
      let keys : string_bytes f.0 ≡ string_bytes e.0 = h.0.0 in
      let values : string_bytes f.1 ≡ string_bytes e.1 = h.0.1 in
      let rest : pairs_bytes fs ≡ pairs_bytes es = pairs_bytes-clone es fs h.1 in
      cc

-- keys that compare alike are one
pub same_key : (a b : List ℕ) → key_cmp a b ≡ Equal → a ≡ b
same_key a b h = (bytes_eq-Decides a b).0 (sym (is_eq-slice_cmp a b) ∙ ap is_eq h)

apart_Less : Less ≡ Equal → ⊥
apart_Less h = cc

-- an order that is told to be equal is equal
pub is_eq-Equal : (o : Ordering) → is_eq o ≡ true → o ≡ Equal
is_eq-Equal Less h = cc
is_eq-Equal Equal h = refl
is_eq-Equal Greater h = cc

-- a new key adds its header's bytes
pub headers_size-with_new : (hs : List Header) (k v : List ℕ) → value_of hs k ≡ None → headers_size (with_header hs k v) ≡ headers_size hs + (length k + length v + 8)
headers_size-with_new [] k v h = omega (arith, sum_by-cons header_size (k, v) [])
headers_size-with_new (e ∷ hs) k v h =
    let P : Ordering → Type 0 = λ o. cond (is_eq o) (Some e.1) (value_of hs k) ≡ None → headers_size (match_ordering o ((k, v) ∷ e ∷ hs) ((e.0, v) ∷ hs) (e ∷ with_header hs k v)) ≡ headers_size (e ∷ hs) + (length k + length v + 8) in
    let cases : P (key_cmp k e.0) = elim (key_cmp k e.0) as P [
      | Less ↦ λ none. omega (arith, sum_by-cons header_size (k, v) (e ∷ hs))
      | Equal ↦ λ none. cc
      | Greater ↦ λ none. omega (arith, sum_by-cons header_size e (with_header hs k v), sum_by-cons header_size e hs, headers_size-with_new hs k v none)
    ] in
    cases h

-- an equal key trades its value
pub headers_size-with_old : (hs : List Header) (k v w : List ℕ) → IsStrictlySortedBy key_cmp (keys_of hs) → value_of hs k ≡ Some w → headers_size (with_header hs k v) + length w ≡ headers_size hs + length v
headers_size-with_old [] k v w rising h = cc
headers_size-with_old (e ∷ hs) k v w rising h =
    let P : Ordering → Type 0 = λ o. key_cmp k e.0 ≡ o → cond (is_eq o) (Some e.1) (value_of hs k) ≡ Some w → headers_size (match_ordering o ((k, v) ∷ e ∷ hs) ((e.0, v) ∷ hs) (e ∷ with_header hs k v)) + length w ≡ headers_size (e ∷ hs) + length v in
    let cases : P (key_cmp k e.0) = elim (key_cmp k e.0) as P [
      | Less ↦ λ is found.
          let none : value_of (e ∷ hs) k ≡ None = lookup-none (is_at (key_cmp k)) (e ∷ hs) (none_below_head nat_list_cmp_total k e hs rising is) in
          let same : value_of (e ∷ hs) k ≡ Some w = h in
          cc
      | Equal ↦ λ is found.
          let value : e.1 ≡ w = cc in
          omega (arith, ap length value, sum_by-cons header_size (e.0, v) hs, sum_by-cons header_size e hs)
      | Greater ↦ λ is found. omega (arith, sum_by-cons header_size e (with_header hs k v), sum_by-cons header_size e hs, headers_size-with_old hs k v w (sorted_tail key_cmp e.0 (keys_of hs) rising) found)
    ] in
    cases refl h

-- a removed header takes its bytes along
pub headers_size-without : (hs : List Header) (k w : List ℕ) → value_of hs k ≡ Some w → headers_size (without_header hs k) + (length k + length w + 8) ≡ headers_size hs
headers_size-without [] k w h = cc
headers_size-without (e ∷ hs) k w h =
    let P : Bool → Type 0 = λ b. is_eq (key_cmp k e.0) ≡ b → cond b (Some e.1) (value_of hs k) ≡ Some w → headers_size (cond b hs (e ∷ without_header hs k)) + (length k + length w + 8) ≡ headers_size (e ∷ hs) in
    let cases : P (is_eq (key_cmp k e.0)) = elim (is_eq (key_cmp k e.0)) as P [
      | true ↦ λ is found.
          let key : k ≡ e.0 = same_key k e.0 (is_eq-Equal (key_cmp k e.0) is) in
          let value : e.1 ≡ w = cc in
          omega (arith, ap length key, ap length value, sum_by-cons header_size e hs)
      | false ↦ λ is found. omega (arith, sum_by-cons header_size e (without_header hs k), sum_by-cons header_size e hs, headers_size-without hs k w found)
    ] in
    cases refl h

module _ {Y Z : Type 0} where
  -- how long all headers are with a text under a new key
  pub size-insert_new : (es : List (String Y × String Z)) (k : String Y) (v : String Z) → lookup (is_at (string_cmp k)) es ≡ None → headers_size (pairs_bytes (insert_entry string_cmp es k v)) ≡ headers_size (pairs_bytes es) + (length (string_bytes k) + length (string_bytes v) + 8)
  size-insert_new es k v h = ap headers_size (with_header-pairs es k v) ∙ headers_size-with_new (pairs_bytes es) (string_bytes k) (string_bytes v) (value_of-pairs es (string_bytes k) ∙ ap (option_map string_bytes) h)

  -- how long all headers are where a key's text was replaced
  pub size-insert_old : (es : List (String Y × String Z)) (k : String Y) (v w : String Z) → IsStrictlySortedBy string_cmp (keys_of es) → lookup (is_at (string_cmp k)) es ≡ Some w → headers_size (pairs_bytes (insert_entry string_cmp es k v)) + length (string_bytes w) ≡ headers_size (pairs_bytes es) + length (string_bytes v)
  size-insert_old es k v w rising h = ap (λ hs. headers_size hs + length (string_bytes w)) (with_header-pairs es k v) ∙ headers_size-with_old (pairs_bytes es) (string_bytes k) (string_bytes v) (string_bytes w) (AreHeaders-pairs es rising).rising (value_of-pairs es (string_bytes k) ∙ ap (option_map string_bytes) h)

  -- how long all headers are where a key's text was removed
  pub size-remove : (es : List (String Y × String Z)) (key : List ℕ) (w : String Z) → lookup (λ k. is_eq (key_cmp key (string_bytes k))) es ≡ Some w → headers_size (pairs_bytes (remove_entry (λ k. is_eq (key_cmp key (string_bytes k))) es)) + (length key + length (string_bytes w) + 8) ≡ headers_size (pairs_bytes es)
  size-remove es key w h = ap (λ hs. headers_size hs + (length key + length (string_bytes w) + 8)) (without_header-pairs es key) ∙ headers_size-without (pairs_bytes es) key (string_bytes w) (value_of-pairs es key ∙ ap (option_map string_bytes) h)
