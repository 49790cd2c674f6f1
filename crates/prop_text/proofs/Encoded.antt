-- The bytes of a character, by how many there are.
use Rattle.std.proofs.Common.{◌≡◌, ℕ, ◌+◌, ◌-◌, ◌*◌, ◌/◌, ◌<◌, ◌≤◌, true, nat_lt, [], ◌∷◌, sym, ◌∙◌, subst, arith, inl, inr, ⊎_elim, ◌⊎◌}
use Rattle.std.proofs.lemmas.Bool.{cond-true, cond-false, cases_lt, cases_eq, lt-ltb, le-ltb}
use Rattle.std.proofs.lemmas.Bool.Decides.{nat_tests}
use Rattle.std.proofs.lemmas.Str.{encode_ascii, IsUtf8-encode}
use Rattle.std.specs.Str.{IsUtf8}
use lib.Utf8.{encode, next, scalar, scalar_cases}

-- a byte that goes on with a character
abbrev pub Follows : ℕ → Type 0
Follows b = (128 ≤ b) × (b < 192)

two : (c : ℕ) → 128 ≤ c → c < 2048 → encode c ≡ (192 + c / 64) ∷ next c ∷ []
unfolding encode
two c l h = cond-false (nat_lt c 128) _ _ (le-ltb c 128 l) ∙ cond-true (nat_lt c 2048) _ _ (lt-ltb c 2048 h)

three : (c : ℕ) → 2048 ≤ c → c < 65536 → encode c ≡ (224 + c / 4096) ∷ next (c / 64) ∷ next c ∷ []
unfolding encode
three c l h = cond-false (nat_lt c 128) _ _ (le-ltb c 128 (omega arith)) ∙ cond-false (nat_lt c 2048) _ _ (le-ltb c 2048 l) ∙ cond-true (nat_lt c 65536) _ _ (lt-ltb c 65536 h)

four : (c : ℕ) → 65536 ≤ c → encode c ≡ (240 + c / 262144) ∷ next (c / 4096) ∷ next (c / 64) ∷ next c ∷ []
unfolding encode
four c l = cond-false (nat_lt c 128) _ _ (le-ltb c 128 (omega arith)) ∙ cond-false (nat_lt c 2048) _ _ (le-ltb c 2048 (omega arith)) ∙ cond-false (nat_lt c 65536) _ _ (le-ltb c 65536 l)

-- a character's bytes
pub data Shape (c : ℕ) : Type 0 where
  of1 : c < 128 → encode c ≡ c ∷ [] → Shape c
  of2 : (a b : ℕ) → 194 ≤ a → a < 224 → Follows b → encode c ≡ a ∷ b ∷ [] → Shape c
  of3 : (a b d : ℕ) → 224 ≤ a → a < 240 → Follows b → Follows d → (a ≡ 224 → 160 ≤ b) → (a ≡ 237 → b < 160) → encode c ≡ a ∷ b ∷ d ∷ [] → Shape c
  of4 : (a b d e : ℕ) → 240 ≤ a → a ≤ 244 → Follows b → Follows d → Follows e → (a ≡ 240 → 144 ≤ b) → (a ≡ 244 → b < 144) → encode c ≡ a ∷ b ∷ d ∷ e ∷ [] → Shape c

follows : (x : ℕ) → Follows (next x)
follows x = (omega arith, omega arith)

-- each character has one to four bytes in these ranges
pub shape : (c : ℕ) → scalar c ≡ true → Shape c
shape c s = by (cases_lt c 128) (cases_lt c 2048) (cases_lt c 65536)
  where
    by : (c < 128) ⊎ (128 ≤ c) → (c < 2048) ⊎ (2048 ≤ c) → (c < 65536) ⊎ (65536 ≤ c) → Shape c
    by (inl h) _ _ = of1 h (encode_ascii c h)
    by (inr l) (inl h) _ = of2 (192 + c / 64) (next c) (omega arith) (omega arith) (follows c) (two c l h)
    by (inr _) (inr l) (inl h) = of3 (224 + c / 4096) (next (c / 64)) (next c) (omega arith) (omega arith) (follows (c / 64)) (follows c) (λ e. omega arith) (λ e. ⊎_elim (λ q. omega arith) (λ q. absurd (omega arith)) (scalar_cases c s)) (three c l h)
    by (inr _) (inr _) (inr l) = let top : c < 1114112 = ⊎_elim (λ q. omega arith) (λ q. q.1) (scalar_cases c s) in of4 (240 + c / 262144) (next (c / 4096)) (next (c / 64)) (next c) (omega arith) (omega arith) (follows (c / 4096)) (follows (c / 64)) (follows c) (λ e. omega arith) (λ e. omega arith) (four c l)

is_scalar : (c : ℕ) → (c < 55296) ⊎ ((57344 ≤ c) × (c < 1114112)) → scalar c ≡ true
is_scalar c (inl h) = grind (arith, nat_tests)
is_scalar c (inr h) = grind (arith, nat_tests)

-- bytes in these ranges are a character
pub utf8_one : (x : ℕ) → x < 128 → IsUtf8 (x ∷ [])
utf8_one x h = subst IsUtf8 (encode_ascii x h) (IsUtf8-encode x (is_scalar x (inl (omega arith))))

-- two bytes in these ranges are a character
pub utf8_two : (x y : ℕ) → 194 ≤ x → x < 224 → Follows y → IsUtf8 (x ∷ y ∷ [])
utf8_two x y l h f =
    let c = (x - 192) * 64 + (y - 128) in
    let p : 192 + c / 64 ≡ x = omega arith in
    let q : next c ≡ y = omega arith in
    subst IsUtf8 (two c (omega arith) (omega arith) ∙ (λ k. p k ∷ q k ∷ [])) (IsUtf8-encode c (is_scalar c (inl (omega arith))))

-- three bytes in these ranges are a character
pub utf8_three : (x y z : ℕ) → 224 ≤ x → x < 240 → Follows y → Follows z → (x ≡ 224 → 160 ≤ y) → (x ≡ 237 → y < 160) → IsUtf8 (x ∷ y ∷ z ∷ [])
utf8_three x y z l h f g e d =
    let c = (x - 224) * 4096 + (y - 128) * 64 + (z - 128) in
    let p : 224 + c / 4096 ≡ x = omega arith in
    let q : next (c / 64) ≡ y = omega arith in
    let r : next c ≡ z = omega arith in
    let least : 2048 ≤ c = ⊎_elim (λ a. let b = e a in omega arith) (λ a. ⊎_elim (λ b. absurd (omega arith)) (λ b. omega arith) (cases_lt x 225)) (cases_eq x 224) in
    let parts : (c < 55296) ⊎ ((57344 ≤ c) × (c < 1114112)) =
    ⊎_elim (λ a. inl (omega arith)) (λ a. ⊎_elim (λ b. inr (omega arith, omega arith)) (λ b. let same : x ≡ 237 = omega arith in let k = d same in inl (omega arith)) (cases_lt 237 x)) (cases_lt x 237) in
    subst IsUtf8 (three c least (omega arith) ∙ (λ k. p k ∷ q k ∷ r k ∷ [])) (IsUtf8-encode c (is_scalar c parts))

-- four bytes in these ranges are a character
pub utf8_four : (x y z w : ℕ) → 240 ≤ x → x ≤ 244 → Follows y → Follows z → Follows w → (x ≡ 240 → 144 ≤ y) → (x ≡ 244 → y < 144) → IsUtf8 (x ∷ y ∷ z ∷ w ∷ [])
utf8_four x y z w l h f g j e d =
    let c = (x - 240) * 262144 + (y - 128) * 4096 + (z - 128) * 64 + (w - 128) in
    let p : 240 + c / 262144 ≡ x = omega arith in
    let q : next (c / 4096) ≡ y = omega arith in
    let m : c / 64 ≡ (x - 240) * 4096 + (y - 128) * 64 + (z - 128) = omega arith in
    let r : next (c / 64) ≡ z = subst (λ (k : ℕ). next k ≡ z) (sym m) (omega arith) in
    let t : next c ≡ w = omega arith in
    let least : 65536 ≤ c = ⊎_elim (λ a. let b = e a in omega arith) (λ a. ⊎_elim (λ b. absurd (omega arith)) (λ b. omega arith) (cases_lt x 241)) (cases_eq x 240) in
    let most : c < 1114112 = ⊎_elim (λ a. let b = d a in omega arith) (λ a. ⊎_elim (λ b. omega arith) (λ b. absurd (omega arith)) (cases_lt x 244)) (cases_eq x 244) in
    subst IsUtf8 (four c least ∙ (λ k. p k ∷ q k ∷ r k ∷ t k ∷ [])) (IsUtf8-encode c (is_scalar c (inr (omega arith, most))))
