-- Each file holds some content.
use Rattle.std.proofs.Common.{◌⊎◌, inl, inr, ◌≡◌, ◌≢◌, ◌<◌, ◌≤◌, ◌+◌, ◌==◌, true, false, ℕ, zero, suc, List, [], ◌∷◌, ◌++◌, length, take, drop, All, refl, sym, ◌∙◌, ap, subst, arith, append_assoc, length-append, length-drop, take-append-drop}
use Rattle.std.proofs.lemmas.Bool.Decides.{eqb_tells}
use Rattle.std.proofs.lemmas.Bool.{cases_lt}
use Rattle.std.proofs.lemmas.List.{append-nil, append_cancel_left}
use Rattle.std.proofs.lemmas.List.Elements.{All-from_recursion}
use Rattle.event_core.specs.Numbers.{u16_bytes, u32_bytes}
use Rattle.record_form.specs.declared.record.Rec.{Rec}
use Rattle.record_form.specs.declared.record.Read.{Read}
use Rattle.record_form.specs.declared.record.Read.TheVariants.{Whole, Part, Bad}
use Rattle.record_form.specs.Grammar.{read_of, u32_of}
use Rattle.channel_log.specs.declared.scan.Scan.{Scan}
use Rattle.channel_log.specs.declared.scan.Scan.TheVariants as scans
use Rattle.channel_log.specs.Scan.{BeginsFrame, IsScan}
use Rattle.channel_log.specs.Reader.{OpensNone}
use Rattle.channel_log.specs.Frames.{IsFrame, IsBirth, Commits, Breaks, Content, Blank, BadHeader, BadFrame, Holds, HasHeader, header, frame_bytes, opened}
use Rattle.channel_log.specs.Frames as contents
use Rattle.channel_log.proofs.Contents.{one_frame}
use Rattle.channel_log.proofs.LowBytes.{AreLow, IsLowFront, Low, low_frame, low_front, within_front}
use Rattle.channel_log.proofs.ReadOn.{ReadOn, Stands, at_fault, cut_short, ends_at, found_frame, read_more, read_none, some_length, stands, wrong_count}

abbrev Scanned : List ℕ → Type 0
Scanned bytes = (s : Scan) × IsScan s bytes

-- one record more is read, or the frame ends, or there is none
scan_step : (bytes : List ℕ) (at count : ℕ) → All (λ b. b < 256) bytes → ReadOn bytes at count → ((at' count' : ℕ) → ReadOn bytes at' count' → at + 5 ≤ at' → Scanned bytes) → Scanned bytes
scan_step bytes at count all on next = by_read (read_of (drop at bytes)) refl
  where
    by_kind : (kind n : ℕ) → Stands bytes at kind n → ((kind == 6) ≡ true) × (kind ≡ 6) ⊎ ((kind == 6) ≡ false) × (kind ≢ 6) → Scanned bytes
    by_kind kind n here (inl end) = by_count (eqb_tells told count)
      where
        told : ℕ
        told = u32_of (take 4 (drop (at + 1) bytes))

        by_count : ((told == count) ≡ true) × (told ≡ count) ⊎ ((told == count) ≡ false) × (told ≢ count) → Scanned bytes
        by_count (inl same) = (scans.Frame told (at + n), found_frame bytes at count n told on (ends_at bytes at kind n told here end.1 refl) same.1)
        by_count (inr differs) = (scans.Bad, wrong_count bytes at count n told on (ends_at bytes at kind n told here end.1 refl) differs.1)
    by_kind kind n here (inr other) = next (at + n) (count + 1) (read_more bytes at count kind n on here other.1) (omega (arith, here.long, some_length here.rec))

    by_read : (r : Read) → read_of (drop at bytes) ≡ r → Scanned bytes
    by_read (Whole kind n) is = by_kind kind n (stands bytes at kind n on.within all is) (eqb_tells kind 6)
    by_read Part is = (scans.Part, cut_short bytes at count on is)
    by_read (Bad fault) is = (scans.Bad, at_fault bytes at count fault on is)

scan_from : (fuel : ℕ) (bytes : List ℕ) (at count : ℕ) → All (λ b. b < 256) bytes → ReadOn bytes at count → length bytes ≤ at + fuel → Scanned bytes
scan_from zero bytes at count all on enough = scan_step bytes at count all on (λ at' count' on' more. absurd (omega (arith, enough, more, on'.within)))
scan_from (suc fuel) bytes at count all on enough = scan_step bytes at count all on (λ at' count' on' more. scan_from fuel bytes at' count' all on' (omega (arith, enough, more)))

scan_of : (bytes : List ℕ) → AreLow bytes → Scanned bytes
scan_of bytes low = scan_from (length bytes) bytes 0 0 (All-from_recursion Low bytes low) (read_none bytes) (omega arith)

-- A frame stands in front, with a byte after it.
record Fronts (bytes : List ℕ) : Type 0 where
  frame : List Rec
  is : IsFrame frame
  gate : ℕ
  behind : List ℕ
  split : bytes ≡ frame_bytes frame ++ gate ∷ behind

none_in : (bytes front rest : List ℕ) → IsLowFront bytes front rest → (BeginsFrame front → ⊥) → OpensNone bytes
none_in bytes front rest low none frame gate behind is same =
    let w = within_front (frame_bytes frame) (gate ∷ behind) front rest (low_frame frame is) (sym same ∙ low.split) low.ends in
    none (frame, w.0, is, w.1)

whole_in : (bytes front rest : List ℕ) (frame : List Rec) (size : ℕ) → IsLowFront bytes front rest → IsFrame frame → take size front ≡ frame_bytes frame → Fronts bytes ⊎ OpensNone bytes
whole_in bytes front rest frame size low is front_is = by_behind (drop size front ++ rest) all
  where
    all : bytes ≡ frame_bytes frame ++ (drop size front ++ rest)
    all = low.split ∙ ap (λ (l : List ℕ). l ++ rest) (sym (take-append-drop size front)) ∙ (append_assoc (take size front) (drop size front) rest ∙ ap (λ (l : List ℕ). l ++ (drop size front ++ rest)) front_is)

    nothing : (g : ℕ) (b : List ℕ) → [] ≡ g ∷ b → ⊥
    nothing g b is = cc

    by_behind : (behind : List ℕ) → bytes ≡ frame_bytes frame ++ behind → Fronts bytes ⊎ OpensNone bytes
    by_behind (gate ∷ behind) split = inl (record { frame = frame; is = is; gate = gate; behind = behind; split = split })
    by_behind [] split = inr (λ other gate behind is' same.
        let one : frame ≡ other = one_frame frame other [] (gate ∷ behind) is is' (sym split ∙ same) in
        nothing gate behind (append_cancel_left (frame_bytes frame) [] (gate ∷ behind) (sym split ∙ same ∙ ap (λ (f : List Rec). frame_bytes f ++ gate ∷ behind) (sym one))))

-- whether a frame stands in front, with a byte after it
fronts : (bytes : List ℕ) → Fronts bytes ⊎ OpensNone bytes
fronts bytes = from (low_front bytes)
  where
    by_scan : (front rest : List ℕ) → IsLowFront bytes front rest → Scanned front → Fronts bytes ⊎ OpensNone bytes
    by_scan front rest low (scans.Frame count size, is) = whole_in bytes front rest is.0 size low is.1 is.4
    by_scan front rest low (scans.Part, is) = inr (none_in bytes front rest low is.0)
    by_scan front rest low (scans.Bad, is) = inr (none_in bytes front rest low (λ begins. is [] (subst BeginsFrame (sym (append-nil front)) begins)))

    from : ((front : List ℕ) × (rest : List ℕ) × IsLowFront bytes front rest) → Fronts bytes ⊎ OpensNone bytes
    from (front, rest, low) = by_scan front rest low (scan_of front low.low)

-- From a commit byte on, bytes have frames, and then they end or are at fault.
abbrev Framed : List ℕ → Type 0
Framed bytes = ((frames : List (List Rec)) × Commits bytes frames) ⊎ ((frames : List (List Rec)) × Breaks bytes frames)

one_more : (rest : List ℕ) (f : Fronts rest) → Framed (f.gate ∷ f.behind) → Framed (1 ∷ rest)
one_more rest f (inl (frames, c)) = inl (
  f.frame ∷ frames,
  record {
    each = (f.is, c.each);
    gate = c.gate;
    rest = c.rest;
    split = ap (λ (l : List ℕ). 1 ∷ l) (f.split ∙ ap (λ (l : List ℕ). frame_bytes f.frame ++ l) c.split ∙ sym (append_assoc (frame_bytes f.frame) (opened frames) (c.gate ∷ c.rest)));
    closed = c.closed;
  },
)
one_more rest f (inr (frames, b)) = inr (
  f.frame ∷ frames,
  record {
    each = (f.is, b.each);
    rest = b.rest;
    split = ap (λ (l : List ℕ). 1 ∷ l) (f.split ∙ ap (λ (l : List ℕ). frame_bytes f.frame ++ l) b.split ∙ sym (append_assoc (frame_bytes f.frame) (opened frames) (1 ∷ b.rest)));
    none = b.none;
  },
)

-- an open commit byte, and what stands after it
behind_open : (rest : List ℕ) → ((bytes : List ℕ) → 1 ≤ length bytes → length bytes ≤ length rest → Framed bytes) → Framed (1 ∷ rest)
behind_open rest shorter = from (fronts rest)
  where
    from : Fronts rest ⊎ OpensNone rest → Framed (1 ∷ rest)
    from (inl f) = one_more rest f (shorter (f.gate ∷ f.behind) (omega arith) (omega (arith, ap (λ (l : List ℕ). length l) f.split, length-append (frame_bytes f.frame) (f.gate ∷ f.behind))))
    from (inr none) = inr ([], record { each = tt; rest = rest; split = refl; none = none })

framed : (fuel : ℕ) (bytes : List ℕ) → 1 ≤ length bytes → length bytes ≤ fuel → Framed bytes
framed fuel [] some enough = absurd (omega (arith, some))
framed zero (g ∷ rest) some enough = absurd (omega (arith, enough))
framed (suc fuel) (g ∷ rest) some enough = from (eqb_tells g 1) (λ bytes some' fewer. framed fuel bytes some' (omega (arith, fewer, enough)))
  where
    from : ((g == 1) ≡ true) × (g ≡ 1) ⊎ ((g == 1) ≡ false) × (g ≢ 1) → ((bytes : List ℕ) → 1 ≤ length bytes → length bytes ≤ length rest → Framed bytes) → Framed (g ∷ rest)
    from (inl one) shorter = subst (λ (n : ℕ). Framed (n ∷ rest)) (sym one.1) (behind_open rest shorter)
    from (inr closed) shorter = inl ([], record { each = tt; gate = g; rest = rest; split = refl; closed = closed.1 })

-- whether bytes are the same
same_bytes : (a b : List ℕ) → (a ≡ b) ⊎ (a ≡ b → ⊥)
same_bytes [] [] = inl refl
same_bytes [] (y ∷ b) = inr (λ is. absurd (cc))
same_bytes (x ∷ a) [] = inr (λ is. absurd (cc))
same_bytes (x ∷ a) (y ∷ b) = from (eqb_tells x y) (same_bytes a b)
  where
    from : ((x == y) ≡ true) × (x ≡ y) ⊎ ((x == y) ≡ false) × (x ≢ y) → (a ≡ b) ⊎ (a ≡ b → ⊥) → (x ∷ a ≡ y ∷ b) ⊎ (x ∷ a ≡ y ∷ b → ⊥)
    from (inl here) (inl later) = inl (cc (here.1, later))
    from (inl here) (inr differs) = inr (λ is. differs (tails is))
      where
        tails : x ∷ a ≡ y ∷ b → a ≡ b
        tails is = cc
    from (inr differs) later = inr (λ is. differs.1 (heads is))
      where
        heads : x ∷ a ≡ y ∷ b → x ≡ y
        heads is = cc

length-header : (birth number : ℕ) → length (header birth number) ≡ 16
unfolding header u16_bytes u32_bytes
length-header birth number = refl

-- a file with this header
headed : (number birth : ℕ) (bytes : List ℕ) → IsBirth birth → 17 < length bytes → take 16 bytes ≡ header birth number → (content : Content) × Holds number bytes content
headed number birth bytes is long front = from (framed (length bytes) (drop 16 bytes) (omega (arith, length-drop 16 bytes, long)) (omega (arith, length-drop 16 bytes)))
  where
    split : bytes ≡ header birth number ++ drop 16 bytes
    split = sym (take-append-drop 16 bytes) ∙ ap (λ (l : List ℕ). l ++ drop 16 bytes) front

    from : Framed (drop 16 bytes) → (content : Content) × Holds number bytes content
    from (inl (frames, c)) = (contents.Whole birth frames, (long, (is, (drop 16 bytes, split, c))))
    from (inr (frames, b)) = (BadFrame birth frames, (long, (is, (drop 16 bytes, split, b))))

not_headed : (number birth : ℕ) (bytes : List ℕ) → (take 16 bytes ≡ header birth number → ⊥) → HasHeader birth number bytes (λ rest. Unit {0}) → ⊥
not_headed number birth bytes differs has =
    differs (ap (λ (l : List ℕ). take 16 l) has.1.1 ∙ take_front (header birth number) has.1.0 16 (length-header birth number))
  where
    take_front : (xs ys : List ℕ) (n : ℕ) → length xs ≡ n → take n (xs ++ ys) ≡ xs
    take_front xs ys n size = subst (λ (m : ℕ). take m (xs ++ ys) ≡ xs) size (all xs)
      where
        all : (xs : List ℕ) → take (length xs) (xs ++ ys) ≡ xs
        all [] = refl
        all (x ∷ xs) = ap (λ (l : List ℕ). x ∷ l) (all xs)

-- whatever the bytes of a file, it holds some content
pub some_content : (number : ℕ) (bytes : List ℕ) → (content : Content) × Holds number bytes content
some_content number bytes = by_length (cases_lt 17 (length bytes))
  where
    by_header : 17 < length bytes → (take 16 bytes ≡ header 1 number) ⊎ (take 16 bytes ≡ header 1 number → ⊥) → (take 16 bytes ≡ header 2 number) ⊎ (take 16 bytes ≡ header 2 number → ⊥) → (content : Content) × Holds number bytes content
    by_header long (inl one) two = headed number 1 bytes (inl refl) long one
    by_header long (inr differs) (inl two) = headed number 2 bytes (inr refl) long two
    by_header long (inr differs) (inr differs') = (BadHeader, (long, λ birth has. by_birth birth has has.0))
      where
        by_birth : (birth : ℕ) → HasHeader birth number bytes (λ rest. Unit {0}) → IsBirth birth → ⊥
        by_birth birth has (inl is) = not_headed number 1 bytes differs (subst (λ (b : ℕ). HasHeader b number bytes (λ rest. Unit {0})) is has)
        by_birth birth has (inr is) = not_headed number 2 bytes differs' (subst (λ (b : ℕ). HasHeader b number bytes (λ rest. Unit {0})) is has)

    by_length : (17 < length bytes) ⊎ (length bytes ≤ 17) → (content : Content) × Holds number bytes content
    by_length (inl long) = by_header long (same_bytes (take 16 bytes) (header 1 number)) (same_bytes (take 16 bytes) (header 2 number))
    by_length (inr short) = (Blank, short)
