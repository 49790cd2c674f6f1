-- A stream is cut in one way.
use Rattle.std.proofs.Common.{◌≡◌, ℕ, ◌+◌, ◌^◌, ◌<◌, ◌≤◌, List, [], ◌∷◌, ◌++◌, length, refl, sym, ap, ◌∙◌, append_assoc, arith}
use Rattle.std.specs.List.{flat_map}
use Rattle.std.proofs.lemmas.List.{length-append}
use Rattle.avro_frame.specs.Pack.{u32_bytes, head, buffer, joined, max_bytes, IsPack, Begins, IsPart, InHead, InLength, InBuffer, PassesCount, PassesSize}
use Rattle.avro_frame.proofs.Bytes.{length-u32, same_front, same_number}
use Rattle.avro_frame.proofs.Walk.{length-head}

-- a buffer at the front of both
same_buffer : (b c x y : List ℕ) → length b < 2 ^ 32 → length c < 2 ^ 32 → buffer b ++ x ≡ buffer c ++ y → (b ≡ c) × (x ≡ y)
same_buffer b c x y bl cl e =
    let n = same_number (length b) (length c) (b ++ x) (c ++ y) bl cl (sym (append_assoc (u32_bytes (length b)) b x) ∙ e ∙ append_assoc (u32_bytes (length c)) c y) in
    same_front b c x y n.0 n.1

joined_small : (b : List ℕ) (bs : List (List ℕ)) → length (joined (b ∷ bs)) < 2 ^ 32 → (length b < 2 ^ 32) × (length (joined bs) < 2 ^ 32)
joined_small b bs small = let e = length-append b (joined bs) in (omega arith, omega arith)

-- as many buffers at the front of both
pub same_buffers : (bs cs : List (List ℕ)) (x y : List ℕ) → length bs ≡ length cs → length (joined bs) < 2 ^ 32 → length (joined cs) < 2 ^ 32 → flat_map buffer bs ++ x ≡ flat_map buffer cs ++ y → bs ≡ cs
same_buffers [] [] x y len bl cl e = refl
same_buffers [] (c ∷ cs) x y len bl cl e = absurd (omega arith)
same_buffers (b ∷ bs) [] x y len bl cl e = absurd (omega arith)
same_buffers (b ∷ bs) (c ∷ cs) x y len bl cl e =
    let p = joined_small b bs bl in
    let q = joined_small c cs cl in
    let f = same_buffer b c (flat_map buffer bs ++ x) (flat_map buffer cs ++ y) p.0 q.0 (sym (append_assoc (buffer b) (flat_map buffer bs) x) ∙ e ∙ append_assoc (buffer c) (flat_map buffer cs) y) in
    let g = same_buffers bs cs x y (omega arith) p.1 q.1 f.1 in
    let h = f.0 in
    cc

-- heads at the front of both
pub same_head : (m n j k : ℕ) (x y : List ℕ) → m < 2 ^ 32 → n < 2 ^ 32 → j < 2 ^ 32 → k < 2 ^ 32 → head m j ++ x ≡ head n k ++ y → (m ≡ n) × (j ≡ k) × (x ≡ y)
same_head m n j k x y ml nl jl kl e =
    let f = same_number m n (u32_bytes j ++ x) (u32_bytes k ++ y) ml nl (sym (append_assoc (u32_bytes m) (u32_bytes j) x) ∙ e ∙ append_assoc (u32_bytes n) (u32_bytes k) y) in
    let g = same_number j k x y jl kl f.1 in
    (f.0, g.0, g.1)

-- what stands after a pack's head
pub behind : (a x : List ℕ) (m : ℕ) (p : List ℕ) → (i : IsPack a m p) → a ++ x ≡ head m (length i.buffers) ++ (flat_map buffer i.buffers ++ x)
behind a x m p i = ap (λ (t : List ℕ). t ++ x) i.whole ∙ append_assoc (head m (length i.buffers)) (flat_map buffer i.buffers) x

-- packs at the front of the same bytes are the same
pub one_pack_lem : (a b x y : List ℕ) (m n : ℕ) (p q : List ℕ) → IsPack a m p → IsPack b n q → a ++ x ≡ b ++ y → (a ≡ b) × (m ≡ n) × (p ≡ q)
one_pack_lem a b x y m n p q i j e =
    let i_small : length (joined i.buffers) ≤ max_bytes = rw (← i.joins) i.small in
    let j_small : length (joined j.buffers) ≤ max_bytes = rw (← j.joins) j.small in
    let h = same_head m n (length i.buffers) (length j.buffers) (flat_map buffer i.buffers ++ x) (flat_map buffer j.buffers ++ y) i.serial_fits j.serial_fits (omega (arith, i.few)) (omega (arith, j.few)) (sym (behind a x m p i) ∙ e ∙ behind b y n q j) in
    let s = same_buffers i.buffers j.buffers x y h.1 (omega arith) (omega arith) h.2 in
    let serial = h.0 in
    let pi = i.whole in
    let pj = j.whole in
    let qi = i.joins in
    let qj = j.joins in
    (i.whole ∙ rw (serial, s) (sym j.whole), serial, i.joins ∙ ap joined s ∙ sym j.joins)

-- the first buffer of the longer list that the shorter one lacks
pub lacked : (bs cs : List (List ℕ)) (x y : List ℕ) → length cs < length bs → length (joined bs) < 2 ^ 32 → length (joined cs) < 2 ^ 32 → flat_map buffer bs ++ x ≡ flat_map buffer cs ++ y → (b : List ℕ) × (more : List ℕ) × (y ≡ buffer b ++ more) × (length (joined cs) + length b ≤ length (joined bs))
lacked [] cs x y less bl cl e = absurd (omega arith)
lacked (b ∷ bs) [] x y less bl cl e =
    (b, flat_map buffer bs ++ x, sym e ∙ append_assoc (buffer b) (flat_map buffer bs) x, omega (arith, length-append b (joined bs)))
lacked (b ∷ bs) (c ∷ cs) x y less bl cl e =
    let p = joined_small b bs bl in
    let q = joined_small c cs cl in
    let f = same_buffer b c (flat_map buffer bs ++ x) (flat_map buffer cs ++ y) p.0 q.0 (sym (append_assoc (buffer b) (flat_map buffer bs) x) ∙ e ∙ append_assoc (buffer c) (flat_map buffer cs) y) in
    let r = lacked bs cs x y (omega arith) p.1 q.1 f.1 in
    (r.0, r.1, r.2, omega (arith, r.3, ap length f.0, length-append b (joined bs), length-append c (joined cs)))

-- what stands after the buffers of a front of a pack
lacked_in : (a x : List ℕ) (m : ℕ) (p : List ℕ) (serial count : ℕ) (cs : List (List ℕ)) (rest : List ℕ) → IsPack a m p → Begins (a ++ x) serial count cs rest → (b : List ℕ) × (more : List ℕ) × (rest ≡ buffer b ++ more) × (length (joined cs) + length b ≤ max_bytes)
lacked_in a x m p serial count cs rest i g =
    let i_small : length (joined i.buffers) ≤ max_bytes = rw (← i.joins) i.small in
    let h = same_head m serial (length i.buffers) count (flat_map buffer i.buffers ++ x) (flat_map buffer cs ++ rest) i.serial_fits g.serial_fits (omega (arith, i.few)) (omega (arith, g.few)) (sym (behind a x m p i) ∙ g.whole) in
    let r = lacked i.buffers cs x rest (omega (arith, h.1, g.lacking)) (omega arith) (omega (arith, g.small)) h.2 in
    (r.0, r.1, r.2, omega (arith, r.3))

-- the length in front is that of the buffer there, and its bytes follow
pub same_len : (b more rest : List ℕ) (len : ℕ) → len < 2 ^ 32 → length b ≤ max_bytes → u32_bytes len ++ rest ≡ buffer b ++ more → (len ≡ length b) × (rest ≡ b ++ more)
same_len b more rest len fits small e = same_number len (length b) rest (b ++ more) fits (omega arith) (e ∙ append_assoc (u32_bytes (length b)) b more)

-- what begins with a whole pack isn't a part of one
pub no_part : (a x : List ℕ) (m : ℕ) (p : List ℕ) → IsPack a m p → IsPart (a ++ x) → ⊥
no_part a x m p i (InHead short) =
    omega (arith, ap length (behind a x m p i), length-append (head m (length i.buffers)) (flat_map buffer i.buffers ++ x), length-head m (length i.buffers))
no_part a x m p i (InLength serial count cs rest g short) =
    let r = lacked_in a x m p serial count cs rest i g in
    omega (arith, ap length r.2, length-append (buffer r.0) r.1, length-append (u32_bytes (length r.0)) r.0, length-u32 (length r.0))
no_part a x m p i (InBuffer serial count cs len rest g fits short sum) =
    let r = lacked_in a x m p serial count cs (u32_bytes len ++ rest) i g in
    let s = same_len r.0 r.1 rest len fits (omega (arith, r.3)) r.2 in
    omega (arith, s.0, ap length s.1, length-append r.0 r.1)

-- what begins with a whole pack doesn't pass the limit of buffers
pub no_count : (a x : List ℕ) (m n : ℕ) (p : List ℕ) → IsPack a m p → PassesCount (a ++ x) n → ⊥
no_count a x m n p i g =
    let h = same_head m g.serial (length i.buffers) n (flat_map buffer i.buffers ++ x) g.rest i.serial_fits g.serial_fits (omega (arith, i.few)) g.fits (sym (behind a x m p i) ∙ g.whole) in
    omega (arith, h.1, i.few, g.many)

-- what begins with a whole pack doesn't pass the limit of bytes
pub no_size : (a x : List ℕ) (m n : ℕ) (p : List ℕ) → IsPack a m p → PassesSize (a ++ x) n → ⊥
no_size a x m n p i g =
    let r = lacked_in a x m p g.serial g.count g.buffers (u32_bytes g.len ++ g.rest) i g.begun in
    let s = same_len r.0 r.1 g.rest g.len g.fits (omega (arith, r.3)) r.2 in
    omega (arith, s.0, r.3, g.sum, g.large)
