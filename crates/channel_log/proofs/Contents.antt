-- A file holds one content.
use Rattle.std.proofs.Common.{◌≡◌, inl, inr, ℕ, List, [], ◌∷◌, ◌++◌, length, get_or, refl, sym, ◌∙◌, ap, subst, arith, append_assoc}
use Rattle.std.specs.List.{AllByRecursion}
use Rattle.std.proofs.lemmas.List.{append_cancel_left, append-nil}
use Rattle.event_core.specs.Numbers.{u16_bytes, u32_bytes}
use Rattle.record_form.specs.declared.record.Rec.{Rec}
use Rattle.record_form.specs.declared.record.Rec.TheVariants.{End}
use Rattle.record_form.specs.Record.{spelling}
use Rattle.channel_log.proofs.ReadOn.{IsSound, agrees, end_agrees}
use Rattle.channel_log.specs.Frames.{IsFrame, IsBirth, Commits, Breaks, Content, Blank, BadHeader, Whole, BadFrame, Holds, HasHeader, header, frame_bytes, opened, record_bytes}

-- no frame's bytes begin those of another
pub one_frame : (f g : List Rec) (x y : List ℕ) → IsFrame f → IsFrame g → frame_bytes f ++ x ≡ frame_bytes g ++ y → f ≡ g
unfolding frame_bytes
one_frame f g x y is is' same =
    let tail = spelling (End (length f)) ++ x in
    let a = agrees f g (length g) tail y is.each is'.each is'.some is'.few (sym (append_assoc (record_bytes f) (spelling (End (length f))) x) ∙ same) in
    let ends : IsSound (End (length f)) = record { fields = is.few; limits = is.some } in
    let e = end_agrees a.more (length g) (length f) x y a.each is'.some is'.few ends a.left in
    sym (a.is ∙ ap (λ (l : List Rec). f ++ l) e.0 ∙ append-nil f)

-- Frames end here: no open commit byte with a frame and a byte after it stands here.
pub record Stops (bytes : List ℕ) : Type 0 where
  pub some : (gate : ℕ) × (rest : List ℕ) × (bytes ≡ gate ∷ rest)
  pub none : (frame : List Rec) (gate : ℕ) (behind : List ℕ) → IsFrame frame → bytes ≡ 1 ∷ (frame_bytes frame ++ gate ∷ behind) → ⊥

-- bytes after frames have a first one
pub first_of : (frames : List (List Rec)) (bytes : List ℕ) → Stops bytes → (gate : ℕ) × (rest : List ℕ) × (opened frames ++ bytes ≡ gate ∷ rest)
first_of [] bytes stops = stops.some
first_of (f ∷ fs) bytes stops = (1, (frame_bytes f ++ opened fs) ++ bytes, refl)

-- the first of some frames, and the others and what follows behind it
pub opened-cons : (f : List Rec) (fs : List (List Rec)) (bytes : List ℕ) → opened (f ∷ fs) ++ bytes ≡ 1 ∷ (frame_bytes f ++ (opened fs ++ bytes))
opened-cons f fs bytes = ap (λ (l : List ℕ). 1 ∷ l) (append_assoc (frame_bytes f) (opened fs) bytes)

no_more : (f : List Rec) (fs : List (List Rec)) (bytes bytes' : List ℕ) → IsFrame f → Stops bytes → Stops bytes' → bytes ≡ opened (f ∷ fs) ++ bytes' → ⊥
no_more f fs bytes bytes' is stops stops' same =
    let n = first_of fs bytes' stops' in
    stops.none f n.0 n.1 is (same ∙ opened-cons f fs bytes' ∙ ap (λ (l : List ℕ). 1 ∷ (frame_bytes f ++ l)) n.2)

-- lists that are the same are so after their first
pub tail_of : (a b : ℕ) (x y : List ℕ) → a ∷ x ≡ b ∷ y → x ≡ y
tail_of a b x y same = cc

-- lists that are the same have the same first
pub head_of : (a b : ℕ) (x y : List ℕ) → a ∷ x ≡ b ∷ y → a ≡ b
head_of a b x y same = cc

-- bytes are split in one way into frames and what stops them
pub one_split : (fs gs : List (List Rec)) (x y : List ℕ) → AllByRecursion IsFrame fs → AllByRecursion IsFrame gs → Stops x → Stops y → opened fs ++ x ≡ opened gs ++ y → (fs ≡ gs) × (x ≡ y)
one_split [] [] x y each each' stops stops' same = (refl, same)
one_split [] (g ∷ gs) x y each each' stops stops' same = absurd (no_more g gs x y each'.0 stops stops' same)
one_split (f ∷ fs) [] x y each each' stops stops' same = absurd (no_more f fs y x each.0 stops' stops (sym same))
one_split (f ∷ fs) (g ∷ gs) x y each each' stops stops' same =
    let inner : frame_bytes f ++ (opened fs ++ x) ≡ frame_bytes g ++ (opened gs ++ y) = tail_of 1 1 (frame_bytes f ++ (opened fs ++ x)) (frame_bytes g ++ (opened gs ++ y)) (sym (opened-cons f fs x) ∙ same ∙ opened-cons g gs y) in
    let one : f ≡ g = one_frame f g (opened fs ++ x) (opened gs ++ y) each.0 each'.0 inner in
    let behind : opened fs ++ x ≡ opened gs ++ y = append_cancel_left (frame_bytes f) (opened fs ++ x) (opened gs ++ y) (inner ∙ ap (λ (h : List Rec). frame_bytes h ++ (opened gs ++ y)) (sym one)) in
    let e = one_split fs gs x y each.1 each'.1 stops stops' behind in
    (ap (λ (h : List Rec). h ∷ fs) one ∙ ap (λ (l : List (List Rec)). g ∷ l) e.0, e.1)

-- a commit byte that is not open stops the frames before it
pub commits_stops : (bytes : List ℕ) (frames : List (List Rec)) (c : Commits bytes frames) → Stops (c.gate ∷ c.rest)
commits_stops bytes frames c = record {
  some = (c.gate, c.rest, refl);
  none = λ frame gate behind is same. c.closed (head_of c.gate 1 c.rest (frame_bytes frame ++ gate ∷ behind) same);
}

-- a frame at fault stops the frames before it
pub breaks_stops : (bytes : List ℕ) (frames : List (List Rec)) (b : Breaks bytes frames) → Stops (1 ∷ b.rest)
breaks_stops bytes frames b = record {
  some = (1, b.rest, refl);
  none = λ frame gate behind is same. b.none frame gate behind is (tail_of 1 1 b.rest (frame_bytes frame ++ gate ∷ behind) same);
}

one_commits : (bytes : List ℕ) (fs gs : List (List Rec)) → Commits bytes fs → Commits bytes gs → fs ≡ gs
one_commits bytes fs gs a b = (one_split fs gs (a.gate ∷ a.rest) (b.gate ∷ b.rest) a.each b.each (commits_stops bytes fs a) (commits_stops bytes gs b) (sym a.split ∙ b.split)).0

one_breaks : (bytes : List ℕ) (fs gs : List (List Rec)) → Breaks bytes fs → Breaks bytes gs → fs ≡ gs
one_breaks bytes fs gs a b = (one_split fs gs (1 ∷ a.rest) (1 ∷ b.rest) a.each b.each (breaks_stops bytes fs a) (breaks_stops bytes gs b) (sym a.split ∙ b.split)).0

not_both : (bytes : List ℕ) (fs gs : List (List Rec)) → Commits bytes fs → Breaks bytes gs → ⊥
not_both bytes fs gs a b =
    let e = one_split fs gs (a.gate ∷ a.rest) (1 ∷ b.rest) a.each b.each (commits_stops bytes fs a) (breaks_stops bytes gs b) (sym a.split ∙ b.split) in
    a.closed (head_of a.gate 1 a.rest b.rest e.1)

-- where the birth stands
birth_at : (birth number : ℕ) (rest : List ℕ) → IsBirth birth → get_or (header birth number ++ rest) 11 0 ≡ birth
unfolding header u16_bytes u32_bytes
birth_at birth number rest (inl one) = subst (λ (b : ℕ). get_or (header b number ++ rest) 11 0 ≡ b) (sym one) refl
birth_at birth number rest (inr two) = subst (λ (b : ℕ). get_or (header b number ++ rest) 11 0 ≡ b) (sym two) refl

-- headers of one number agree
pub one_header : (a b number : ℕ) (bytes x y : List ℕ) → IsBirth a → IsBirth b → bytes ≡ header a number ++ x → bytes ≡ header b number ++ y → (a ≡ b) × (x ≡ y)
one_header a b number bytes x y is is' same same' =
    let one : a ≡ b = sym (birth_at a number x is) ∙ ap (λ (l : List ℕ). get_or l 11 0) (sym same ∙ same') ∙ birth_at b number y is' in
    (one, append_cancel_left (header a number) x y (sym same ∙ same' ∙ ap (λ (n : ℕ). header n number ++ y) (sym one)))

whole_alike : (number : ℕ) (bytes : List ℕ) (a b : ℕ) (fs gs : List (List Rec)) → HasHeader a number bytes (λ rest. Commits rest fs) → HasHeader b number bytes (λ rest. Commits rest gs) → Whole a fs ≡ Whole b gs
whole_alike number bytes a b fs gs h h' =
    let e = one_header a b number bytes h.1.0 h'.1.0 h.0 h'.0 h.1.1 h'.1.1 in
    ap (λ (n : ℕ). Whole n fs) e.0 ∙ ap (Whole b) (one_commits h.1.0 fs gs h.1.2 (subst (λ (l : List ℕ). Commits l gs) (sym e.1) h'.1.2))

broken_alike : (number : ℕ) (bytes : List ℕ) (a b : ℕ) (fs gs : List (List Rec)) → HasHeader a number bytes (λ rest. Breaks rest fs) → HasHeader b number bytes (λ rest. Breaks rest gs) → BadFrame a fs ≡ BadFrame b gs
broken_alike number bytes a b fs gs h h' =
    let e = one_header a b number bytes h.1.0 h'.1.0 h.0 h'.0 h.1.1 h'.1.1 in
    ap (λ (n : ℕ). BadFrame n fs) e.0 ∙ ap (BadFrame b) (one_breaks h.1.0 fs gs h.1.2 (subst (λ (l : List ℕ). Breaks l gs) (sym e.1) h'.1.2))

unlike : (number : ℕ) (bytes : List ℕ) (a b : ℕ) (fs gs : List (List Rec)) → HasHeader a number bytes (λ rest. Commits rest fs) → HasHeader b number bytes (λ rest. Breaks rest gs) → ⊥
unlike number bytes a b fs gs h h' =
    let e = one_header a b number bytes h.1.0 h'.1.0 h.0 h'.0 h.1.1 h'.1.1 in
    not_both h.1.0 fs gs h.1.2 (subst (λ (l : List ℕ). Breaks l gs) (sym e.1) h'.1.2)

-- bytes that hold two contents hold the same one twice
pub one-content : (number : ℕ) (bytes : List ℕ) (a b : Content) → Holds number bytes a → Holds number bytes b → a ≡ b
one-content number bytes Blank Blank h h' = refl
one-content number bytes Blank BadHeader h h' = absurd (omega (arith, h, h'.0))
one-content number bytes Blank (Whole b gs) h h' = absurd (omega (arith, h, h'.0))
one-content number bytes Blank (BadFrame b gs) h h' = absurd (omega (arith, h, h'.0))
one-content number bytes BadHeader Blank h h' = absurd (omega (arith, h', h.0))
one-content number bytes BadHeader BadHeader h h' = refl
one-content number bytes BadHeader (Whole b gs) h h' = absurd (h.1 b (h'.1.0, (h'.1.1.0, h'.1.1.1, tt)))
one-content number bytes BadHeader (BadFrame b gs) h h' = absurd (h.1 b (h'.1.0, (h'.1.1.0, h'.1.1.1, tt)))
one-content number bytes (Whole a fs) Blank h h' = absurd (omega (arith, h', h.0))
one-content number bytes (Whole a fs) BadHeader h h' = absurd (h'.1 a (h.1.0, (h.1.1.0, h.1.1.1, tt)))
one-content number bytes (Whole a fs) (Whole b gs) h h' = whole_alike number bytes a b fs gs h.1 h'.1
one-content number bytes (Whole a fs) (BadFrame b gs) h h' = absurd (unlike number bytes a b fs gs h.1 h'.1)
one-content number bytes (BadFrame a fs) Blank h h' = absurd (omega (arith, h', h.0))
one-content number bytes (BadFrame a fs) BadHeader h h' = absurd (h'.1 a (h.1.0, (h.1.1.0, h.1.1.1, tt)))
one-content number bytes (BadFrame a fs) (Whole b gs) h h' = absurd (unlike number bytes b a gs fs h'.1 h.1)
one-content number bytes (BadFrame a fs) (BadFrame b gs) h h' = broken_alike number bytes a b fs gs h.1 h'.1
