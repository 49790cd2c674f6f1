-- Headers that are made of pairs.
use Rattle.std.proofs.Common.{◌≡◌, ◌≢◌, ℕ, zero, suc, ◌+◌, ◌<◌, Bool, true, false, cond, ◌||◌, List, [], ◌∷◌, ◌++◌, length, take, get_or, Option, Some, None, Ordering, refl, sym, ap, ◌∙◌, subst, arith}
use Rattle.std.specs.declared.cmp.Ordering.TheVariants.{Less, Equal, Greater}
use Rattle.std.specs.Ordering.{is_eq, match_ordering}
use Rattle.std.specs.Prelude.{String}
use Rattle.std.specs.Option.{is_some, option_map, option_copied}
use Rattle.std.specs.String.{string_bytes}
use denote.Ref.{Bor}
use Rattle.std.specs.List.{AllPairs, Contains, insert}
use Rattle.std.specs.List.Sorted.{IsPermutation}
use Rattle.std.specs.Map.{keys_of}
use Rattle.std.proofs.lemmas.List.{map-append, take_more, take-map}
use Rattle.std.proofs.lemmas.Option.{slice_get-map, slice_get_read}
use Rattle.std.proofs.lemmas.List.Quantifiers.{all_pairs_push}
use Rattle.std.proofs.lemmas.Map.Text.{is_eq-slice_cmp}
use Rattle.std.proofs.lemmas.Slice.Eq.{bytes_eq-Decides}
use Rattle.std.proofs.lemmas.List.Sorted.{IsPermutation-insert, IsPermutation-cons, IsPermutation-trans, IsPermutation-append_comm, IsPermutation-refl}
use Rattle.event_core.specs.Content.{Header, HaveDistinctKeys, IsFirstRepeat, key_cmp, value_of, with_header}
use Rattle.event_core.specs.Texts.{pair_bytes, pairs_bytes}
use Rattle.event_core.proofs.HeaderLemmas.{same_key, is_eq-Equal}

-- the headers are these pairs in the order of their keys
pub record HoldsPairs (pairs : List (List ℕ × List ℕ)) (headers : List (List ℕ × List ℕ)) : Type 0 where
  pub same : IsPermutation pairs headers
  pub distinct : HaveDistinctKeys pairs
  pub known : (key : List ℕ) → is_some (value_of headers key) ≡ is_some (value_of pairs key)

-- a new header goes to some place
placed : (hs : List Header) (k v : List ℕ) → value_of hs k ≡ None → (i : ℕ) × (with_header hs k v ≡ insert hs i (k, v))
placed [] k v h = (0, refl)
placed (e ∷ hs) k v h =
    let P : Ordering → Type 0 = λ o. cond (is_eq o) (Some e.1) (value_of hs k) ≡ None → (i : ℕ) × (match_ordering o ((k, v) ∷ e ∷ hs) ((e.0, v) ∷ hs) (e ∷ with_header hs k v) ≡ insert (e ∷ hs) i (k, v)) in
    let cases : P (key_cmp k e.0) = elim (key_cmp k e.0) as P [
      | Less ↦ λ none. (0, refl)
      | Equal ↦ λ none. cc
      | Greater ↦ λ none. let rest = placed hs k v none in (suc rest.0, ap (λ es. e ∷ es) rest.1)
    ] in
    cases h

abbrev no_value : Option (List ℕ)
no_value = None

-- what is known after a header was put
is_some-with_header : (hs : List Header) (k v q : List ℕ) → is_some (value_of (with_header hs k v) q) ≡ (is_eq (key_cmp q k) || is_some (value_of hs q))
is_some-with_header [] k v q = elim (is_eq (key_cmp q k)) as (λ b. is_some (cond b (Some v) no_value) ≡ (b || false)) [ true ↦ refl | false ↦ refl ]
is_some-with_header (e ∷ hs) k v q =
    let P : Ordering → Type 0 = λ o. key_cmp k e.0 ≡ o → is_some (value_of (match_ordering o ((k, v) ∷ e ∷ hs) ((e.0, v) ∷ hs) (e ∷ with_header hs k v)) q) ≡ (is_eq (key_cmp q k) || is_some (value_of (e ∷ hs) q)) in
    let cases : P (key_cmp k e.0) = elim (key_cmp k e.0) as P [
      | Less ↦ λ is. elim (is_eq (key_cmp q k)) as (λ b. is_some (cond b (Some v) (value_of (e ∷ hs) q)) ≡ (b || is_some (value_of (e ∷ hs) q))) [ true ↦ refl | false ↦ refl ]
      | Equal ↦ λ is.
          let key : k ≡ e.0 = same_key k e.0 is in
          subst (λ x. is_some (cond (is_eq (key_cmp q e.0)) (Some v) (value_of hs q)) ≡ (is_eq (key_cmp q x) || is_some (cond (is_eq (key_cmp q e.0)) (Some e.1) (value_of hs q)))) (sym key)
          (elim (is_eq (key_cmp q e.0)) as (λ b. is_some (cond b (Some v) (value_of hs q)) ≡ (b || is_some (cond b (Some e.1) (value_of hs q)))) [ true ↦ refl | false ↦ refl ])
      | Greater ↦ λ is.
          elim (is_eq (key_cmp q e.0)) as (λ b. is_some (cond b (Some e.1) (value_of (with_header hs k v) q)) ≡ (is_eq (key_cmp q k) || is_some (cond b (Some e.1) (value_of hs q)))) [
            | true ↦ elim (is_eq (key_cmp q k)) as (λ b. true ≡ (b || true)) [ true ↦ refl | false ↦ refl ]
            | false ↦ is_some-with_header hs k v q
          ]
    ] in
    cases refl

-- what is known of pairs after one more
is_some-push : (ps : List Header) (p : Header) (q : List ℕ) → is_some (value_of (ps ++ p ∷ []) q) ≡ (is_eq (key_cmp q p.0) || is_some (value_of ps q))
is_some-push [] p q = elim (is_eq (key_cmp q p.0)) as (λ b. is_some (cond b (Some p.1) no_value) ≡ (b || false)) [ true ↦ refl | false ↦ refl ]
is_some-push (e ∷ ps) p q =
    elim (is_eq (key_cmp q e.0)) as (λ b. is_some (cond b (Some e.1) (value_of (ps ++ p ∷ []) q)) ≡ (is_eq (key_cmp q p.0) || is_some (cond b (Some e.1) (value_of ps q)))) [
      | true ↦ elim (is_eq (key_cmp q p.0)) as (λ b. true ≡ (b || true)) [ true ↦ refl | false ↦ refl ]
      | false ↦ is_some-push ps p q
    ]

key_cmp-self : (k : List ℕ) → is_eq (key_cmp k k) ≡ true
key_cmp-self k = is_eq-slice_cmp k k ∙ (bytes_eq-Decides k k).1 refl

-- an absent key is not the first
absent_head : (e : Header) (ps : List Header) (key : List ℕ) → is_some (value_of (e ∷ ps) key) ≡ false → (is_eq (key_cmp key e.0) ≡ false) × (is_some (value_of ps key) ≡ false)
absent_head e ps key h =
    let P : Bool → Type 0 = λ b. is_some (cond b (Some e.1) (value_of ps key)) ≡ false → (b ≡ false) × (is_some (value_of ps key) ≡ false) in
    let cases : P (is_eq (key_cmp key e.0)) = elim (is_eq (key_cmp key e.0)) as P [ true ↦ λ none. cc | false ↦ λ none. (refl, none) ] in
    cases h

-- an absent key is apart from each key
apart : (ps : List Header) (key : List ℕ) → is_some (value_of ps key) ≡ false → (k : ℕ) (d : List ℕ) → k < length (keys_of ps) → get_or (keys_of ps) k d ≢ key
apart [] key h k d within = absurd (omega (arith, within))
apart (e ∷ ps) key h zero d within = λ same.
    let off : is_eq (key_cmp key e.0) ≡ false = (absent_head e ps key h).0 in
    let on : is_eq (key_cmp key e.0) ≡ true = ap (λ k. is_eq (key_cmp key k)) same ∙ key_cmp-self key in
    cc
apart (e ∷ ps) key h (suc k) d within = apart ps key (absent_head e ps key h).1 k d (omega (arith, within))

-- and a known one is among them
pub known_key : (ps : List Header) (key : List ℕ) → is_some (value_of ps key) ≡ true → Contains (keys_of ps) key
known_key [] key h = cc
known_key (e ∷ ps) key h =
    let P : Bool → Type 0 = λ b. is_eq (key_cmp key e.0) ≡ b → is_some (cond b (Some e.1) (value_of ps key)) ≡ true → Contains (keys_of (e ∷ ps)) key in
    let cases : P (is_eq (key_cmp key e.0)) = elim (is_eq (key_cmp key e.0)) as P [
      | true ↦ λ is known. (0, omega arith, sym (same_key key e.0 (is_eq-Equal (key_cmp key e.0) is)))
      | false ↦ λ is known. let rest = known_key ps key known in (suc rest.0, omega (arith, rest.1), rest.2)
    ] in
    cases refl h

none_of : (o : Option (List ℕ)) → is_some o ≡ false → o ≡ None
none_of None h = refl
none_of (Some x) h = cc

-- no pairs make no headers
pub HoldsPairs-nil : HoldsPairs [] []
HoldsPairs-nil = record { same = IsPermutation-refl []; distinct = λ i j d below within. absurd (omega (arith, within)); known = λ key. refl }

-- one more pair, of a new key
pub HoldsPairs-push : (ps hs : List Header) (k v : List ℕ) → HoldsPairs ps hs → is_some (value_of hs k) ≡ false → HoldsPairs (ps ++ (k, v) ∷ []) (with_header hs k v)
HoldsPairs-push ps hs k v holds new =
    let p : Header = (k, v) in
    let place = placed hs k v (none_of (value_of hs k) new) in
    let apart_from : (i : ℕ) (d : List ℕ) → i < length (keys_of ps) → get_or (keys_of ps) i d ≢ k = apart ps k (sym (holds.known k) ∙ new) in
    record {
      same = IsPermutation-trans (ps ++ p ∷ []) (p ∷ ps) (with_header hs k v) (IsPermutation-append_comm ps (p ∷ []))
          (IsPermutation-trans (p ∷ ps) (p ∷ hs) (with_header hs k v) (IsPermutation-cons p ps hs holds.same)
          (subst (IsPermutation (p ∷ hs)) (sym place.1) (IsPermutation-insert hs place.0 p)));
      distinct = subst (AllPairs (λ a b. a ≢ b)) (sym (map-append (λ (h : Header). h.0) ps (p ∷ []))) (all_pairs_push (λ a b. a ≢ b) (keys_of ps) k holds.distinct apart_from);
      known = λ q. is_some-with_header hs k v q ∙ ap (λ b. is_eq (key_cmp q k) || b) (holds.known q) ∙ sym (is_some-push ps p q);
    }

-- the next pair of texts
pub pairs_bytes-more : {Y Z : Type 0} (ps : List (String Y × String Z)) (i : ℕ) (p : String Y × String Z) → i < length ps → p ≡ get_or ps i p → pairs_bytes (take (i + 1) ps) ≡ pairs_bytes (take i ps) ++ pair_bytes p ∷ []
pairs_bytes-more ps i p within is =
    ap pairs_bytes (take_more ps i p within) ∙ map-append pair_bytes (take i ps) (get_or ps i p ∷ []) ∙ ap (λ q. pairs_bytes (take i ps) ++ pair_bytes q ∷ []) (sym is)

-- a pair of texts whose key stands before it
pub first_repeat : {Y Z : Type 0} (ps : List (String Y × String Z)) (hs : List Header) (i : ℕ) (p : String Y × String Z) → HoldsPairs (pairs_bytes (take i ps)) hs → i < length ps → p ≡ get_or ps i p → is_some (value_of hs (string_bytes p.0)) ≡ true → IsFirstRepeat (pairs_bytes ps) (string_bytes p.0)
first_repeat ps hs i p holds within is known =
    let before : take i (pairs_bytes ps) ≡ pairs_bytes (take i ps) = take-map pair_bytes i ps in
    record {
      place = i;
      value = string_bytes p.1;
      repeats = slice_get-map pair_bytes ps i ∙ ap (option_map pair_bytes) (slice_get_read ps (length ps) i p refl within is);
      earlier = subst (λ qs. Contains (keys_of qs) (string_bytes p.0)) (sym before) (known_key (pairs_bytes (take i ps)) (string_bytes p.0) (sym (holds.known (string_bytes p.0)) ∙ known));
      first = subst HaveDistinctKeys (sym before) holds.distinct;
    }

-- a value is there exactly where its copy is
pub is_some-copied : {X : Type 0} (o : Option (Bor X)) → is_some (option_copied o) ≡ is_some o
is_some-copied None = refl
is_some-copied (Some x) = refl
