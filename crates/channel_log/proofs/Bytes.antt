-- What torn writes leave of a file of frames.
use Rattle.std.proofs.Common.{◌≡◌, ◌≢◌, ◌<◌, inl, inr, ℕ, suc, ◌+◌, List, [], ◌∷◌, ◌++◌, length, get_or, take, drop, refl, sym, ◌∙◌, ap, arith, append_assoc, length-append, length-drop, take-append-drop}
use Rattle.std.proofs.lemmas.List.{append-nil, ext_get_or, get_or-take, get_or-drop, length-take-le, get_or_append_left, get_or-append-add, drop_more}
use Rattle.std.specs.List.{AllByRecursion}
use Rattle.flume_host.specs.Folder.{MayBe, stable, touch}
use Rattle.record_form.specs.declared.record.Rec.{Rec}
use Rattle.channel_log.specs.Frames.{IsFrame, header, frame_bytes, opened}
use Rattle.channel_log.specs.Writer.{HasFrames, file_of}

-- after a file that was stable anything may come
pub behind : (was bytes : List ℕ) (n size : ℕ) → n ≡ length was → MayBe (touch n size (stable was)) bytes → bytes ≡ was ++ drop n bytes
behind was bytes n size is may = sym (take-append-drop n bytes) ∙ ap (λ (l : List ℕ). l ++ drop n bytes) front
  where
    size_is : length (take n bytes) ≡ n
    size_is = length-take-le n bytes (omega (arith, is, may.no_shorter))

    front : take n bytes ≡ was
    front = ext_get_or 0 (take n bytes) was (omega (arith, size_is, is)) (λ i below. let under : i < n = omega (arith, below, size_is) in get_or-take n bytes i 0 under ∙ may.same i (omega (arith, under, is)) (inl under, tt))

-- one byte of a file that was stable
pub gate_torn : (front back bytes : List ℕ) (was n : ℕ) → n ≡ length front → MayBe (touch n 1 (stable (front ++ was ∷ back))) bytes → bytes ≡ front ++ get_or bytes n 0 ∷ back
gate_torn front back bytes was n is may =
    sym (take-append-drop n bytes)
    ∙ ap (λ (l : List ℕ). l ++ drop n bytes) before
    ∙ ap (λ (l : List ℕ). front ++ l) (drop_more bytes n 0 (omega (arith, long, size, is)) ∙ ap (λ (l : List ℕ). get_or bytes n 0 ∷ l) after)
  where
    size : length (front ++ was ∷ back) ≡ length front + 1 + length back
    size = omega (arith, length-append front (was ∷ back))

    long : length bytes ≡ length (front ++ was ∷ back)
    long = omega (arith, may.no_shorter, may.no_longer, size, is)

    take_size : length (take n bytes) ≡ n
    take_size = length-take-le n bytes (omega (arith, long, size, is))

    before : take n bytes ≡ front
    before = ext_get_or 0 (take n bytes) front (omega (arith, take_size, is)) (λ i below.
        let under : i < n = omega (arith, below, take_size) in
        get_or-take n bytes i 0 under ∙ may.same i (omega (arith, under, is, size)) (inl under, tt) ∙ get_or_append_left front (was ∷ back) 0 i (omega (arith, under, is)))

    drop_size : length (drop (n + 1) bytes) ≡ length back
    drop_size = omega (arith, length-drop (n + 1) bytes, long, size, is)

    after : drop (n + 1) bytes ≡ back
    after = ext_get_or 0 (drop (n + 1) bytes) back drop_size (λ i below.
        let under : i < length back = omega (arith, below, drop_size) in
        let place : n + 1 + i ≡ length front + suc i = omega (arith, is) in
        get_or-drop (n + 1) bytes i 0
        ∙ may.same (n + 1 + i) (omega (arith, under, is, size)) (inr (omega arith), tt)
        ∙ ap (λ (k : ℕ). get_or (front ++ was ∷ back) k 0) place
        ∙ get_or-append-add front (was ∷ back) (suc i) 0)

-- the bytes of frames and one more at their end
pub opened-push : (frames : List (List Rec)) (frame : List Rec) → opened (frames ++ frame ∷ []) ≡ opened frames ++ 1 ∷ frame_bytes frame
opened-push [] frame = append-nil (1 ∷ frame_bytes frame)
opened-push (f ∷ frames) frame = ap (λ (l : List ℕ). 1 ∷ frame_bytes f ++ l) (opened-push frames frame) ∙ sym (append_assoc (1 ∷ frame_bytes f) (opened frames) (1 ∷ frame_bytes frame))

-- what holds of all and of one more holds of them with that at the end
pub all-push : {A : Type 0} (P : A → Type 0) (xs : List A) (x : A) → AllByRecursion P xs → P x → AllByRecursion P (xs ++ x ∷ [])
all-push P [] x all here = (here, tt)
all-push P (y ∷ xs) x all here = (all.0, all-push P xs x all.1 here)

-- a file whose closed commit byte was opened over a new frame is a file with that frame
pub file-push : (birth number : ℕ) (frames : List (List Rec)) (frame : List Rec) → (header birth number ++ opened frames) ++ 1 ∷ (frame_bytes frame ++ 0 ∷ []) ≡ file_of birth number (frames ++ frame ∷ [])
file-push birth number frames frame =
    sym (append_assoc (header birth number ++ opened frames) (1 ∷ frame_bytes frame) (0 ∷ []))
    ∙ ap (λ (l : List ℕ). l ++ 0 ∷ []) (append_assoc (header birth number) (opened frames) (1 ∷ frame_bytes frame) ∙ ap (λ (l : List ℕ). header birth number ++ l) (sym (opened-push frames frame)))

-- a closed commit byte after frames
pub has_frames : (birth number : ℕ) (frames : List (List Rec)) (bytes : List ℕ) (gate : ℕ) (after : List ℕ) → AllByRecursion IsFrame frames → gate ≢ 1 → bytes ≡ (header birth number ++ opened frames) ++ gate ∷ after → HasFrames birth number frames bytes
has_frames birth number frames bytes gate after each closed is = (
  opened frames ++ gate ∷ after,
  is ∙ append_assoc (header birth number) (opened frames) (gate ∷ after),
  record { each = each; gate = gate; rest = after; split = refl; closed = closed },
)
