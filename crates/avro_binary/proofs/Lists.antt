-- Parts of a list.
use Rattle.std.proofs.Common.{◌≡◌, ℕ, ◌+◌, ◌-◌, List, ◌++◌, length, take, drop, refl, sym, ap, ◌∙◌, arith}
use Rattle.std.proofs.lemmas.List.{take_at, drop_at, take-append-drop, take-take, drop-take, drop-drop, length-take, length-drop}
use Rattle.avro_binary.specs.Reading.{part, IsPart}

-- two lists that are joined alike, with fronts of one length, have the same front and rest
pub same_front : (a b x y : List ℕ) → length a ≡ length b → a ++ x ≡ b ++ y → (a ≡ b) × (x ≡ y)
same_front a b x y len e = (
  sym (take_at a x (length a) refl) ∙ ap (take (length a)) e ∙ take_at b y (length a) (sym len),
  sym (drop_at a x (length a) refl) ∙ ap (drop (length a)) e ∙ drop_at b y (length a) (sym len),
)

-- a part is as long as its offsets are apart
pub length-part : (bytes : List ℕ) (at end : ℕ) → IsPart bytes at end → length (part bytes at end) ≡ end - at
length-part bytes at end p = let l = p.0 in let r = p.1 in omega (arith, length-take (end - at) (drop at bytes), length-drop at bytes)

-- what is left after a part
pub rest_part : (bytes : List ℕ) (at end : ℕ) → IsPart bytes at end → drop at bytes ≡ part bytes at end ++ drop end bytes
rest_part bytes at end p =
    let l = p.0 in
    let e : at + (end - at) ≡ end = omega arith in
    sym (take-append-drop (end - at) (drop at bytes)) ∙ ap (λ (x : List ℕ). part bytes at end ++ x) (drop-drop (end - at) at bytes ∙ ap (λ (n : ℕ). drop n bytes) e)

-- parts that meet
pub join_parts : (bytes : List ℕ) (at mid end : ℕ) → IsPart bytes at mid → IsPart bytes mid end → part bytes at mid ++ part bytes mid end ≡ part bytes at end
join_parts bytes at mid end p q =
    let l = p.0 in
    let r = q.0 in
    let whole : drop at bytes ≡ part bytes at mid ++ drop mid bytes = rest_part bytes at mid p in
    let len : length (part bytes at mid) ≡ mid - at = length-part bytes at mid p in
    let t = take (end - at) (drop at bytes) in
    let front : take (mid - at) t ≡ part bytes at mid = take-take (mid - at) (end - at) (drop at bytes) (omega arith) in
    let back : drop (mid - at) t ≡ part bytes mid end =
    ap (λ (n : ℕ). drop (mid - at) (take n (drop at bytes))) (let e : end - at ≡ (mid - at) + (end - mid) = omega arith in e) ∙ drop-take (mid - at) (end - mid) (drop at bytes) ∙ ap (take (end - mid)) (drop-drop (mid - at) at bytes ∙ ap (λ (n : ℕ). drop n bytes) (let e : at + (mid - at) ≡ mid = omega arith in e)) in
    rw (← front, ← back) (take-append-drop (mid - at) t)
