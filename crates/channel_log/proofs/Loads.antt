-- Bytes that were read, against the file.
use Rattle.std.proofs.Common.{◌≡◌, ◌≢◌, ◌<◌, ◌≤◌, ◌⊎◌, inl, inr, ℕ, ◌+◌, ◌-◌, ◌==◌, true, false, List, [], ◌∷◌, ◌++◌, length, take, drop, get_or, append_assoc, take-append-drop, Option, sym, ◌∙◌, ap, subst, arith, length-append, length-drop, ⊎_elim}
use Rattle.std.proofs.lemmas.Bool.{cases_lt}
use Rattle.std.proofs.lemmas.List.{append-nil, append_cancel_left, length-take, drop-drop, drop-take, drop_more, take_all, take_rest}
use Rattle.std.proofs.Math.Seq.{take-add}
use Rattle.flume_host.specs.Told.{Told}
use Rattle.record_form.specs.declared.record.Rec.{Rec}
use Rattle.channel_log.proofs.Contents.{one_frame, head_of}
use Rattle.channel_log.specs.Frames.{IsFrame, frame_bytes}
use Rattle.channel_log.specs.Scan.{BeginsFrame}
use Rattle.channel_log.specs.declared.loading.FrameRefused.{FrameRefused}
use Rattle.channel_log.specs.declared.loading.FrameRefused.TheVariants as refusals
use Rattle.channel_log.specs.Reader.{AfterOpen, HasFile, IsClosed, IsFront, Opens, OpensNone, WhereBad}

-- How far filling has come.
pub record FillsOn (was told : Option Told) (faulty faults number from : ℕ) (old new : List ℕ) (size : ℕ) : Type 0 where
  pub same : told ≡ was
  pub well : faults ≡ faulty
  pub some : 1 ≤ size
  pub items : (bytes : List ℕ) → HasFile was number bytes → IsFront old from bytes → IsFront new from bytes

take_own : (k : ℕ) (d : List ℕ) → take k d ≡ take (length (take k d)) d
take_own k d =
    ⊎_elim
    (λ short. ap (λ (n : ℕ). take n d) (omega (arith, length-take k d, short)))
    (λ long. take_all k d long ∙ sym (take_all (length (take k d)) d (omega (arith, length-take k d, long))))
    (cases_lt k (length d))

-- a piece more
pub front_more : (read more : List ℕ) (from size : ℕ) (bytes : List ℕ) → IsFront read from bytes → more ≡ read ++ take size (drop (from + length read) bytes) → IsFront more from bytes
front_more read more from size bytes front is =
    let d = drop from bytes in
    let next : drop (from + length read) bytes ≡ drop (length read) d = sym (drop-drop (length read) from bytes) in
    let k = length read + size in
    let joined : more ≡ take (length read + size) d = is ∙ ap (λ (l : List ℕ). read ++ take size l) next ∙ ap (λ (l : List ℕ). l ++ take size (drop (length read) d)) front ∙ sym (take-add (length read) size d) in
    joined ∙ take_own k d ∙ ap (λ (l : List ℕ). take (length l) d) (sym joined)

-- where nothing was added, the file ends
pub no_more : (read more : List ℕ) (from size : ℕ) (bytes : List ℕ) → 1 ≤ size → length more ≡ length read → more ≡ read ++ take size (drop (from + length read) bytes) → length bytes ≤ from + length read
no_more read more from size bytes some same is =
    omega (arith, some, same, ap length is, length-append read (take size (drop (from + length read) bytes)), length-take size (drop (from + length read) bytes), length-drop (from + length read) bytes)

-- How far a frame was sought.
pub record SeeksOn (was told : Option Told) (faulty faults number gate start place : ℕ) (old read : List ℕ) (size : ℕ) : Type 0 where
  pub same : told ≡ was
  pub well : faults ≡ faulty
  pub some : 1 ≤ size
  pub within : place ≤ length read
  pub front : (bytes : List ℕ) → HasFile was number bytes → IsFront (drop start old) gate bytes → IsFront (drop place read) gate bytes

-- a frame and a byte after it were read
pub cut_found : (read held : List ℕ) (size : ℕ) (frame : List Rec) → IsFrame frame → take size read ≡ frame_bytes frame → size < length read → held ≡ take size read → Opens read held
cut_found read held size frame is front short same = record {
  frame = frame;
  is = is;
  same = same ∙ front;
  gate = get_or read size 0;
  behind = drop (size + 1) read;
  split = sym (take-append-drop size read) ∙ ap (λ (l : List ℕ). l ++ drop size read) front ∙ ap (λ (l : List ℕ). frame_bytes frame ++ l) (drop_more read size 0 short);
}

-- a frame was read, and nothing after it
pub cut_whole : (read : List ℕ) (size : ℕ) (f : List Rec) → IsFrame f → take size read ≡ frame_bytes f → length read ≤ size → OpensNone read
cut_whole read size f is front long = λ g gate behind is' same.
    let whole : read ≡ frame_bytes f = sym (take_all size read long) ∙ front in
    let both : frame_bytes f ++ [] ≡ frame_bytes g ++ gate ∷ behind = append-nil (frame_bytes f) ∙ sym whole ∙ same in
    let one : f ≡ g = one_frame f g [] (gate ∷ behind) is is' both in
    let rest : [] ≡ gate ∷ behind = append_cancel_left (frame_bytes f) [] (gate ∷ behind) (both ∙ ap (λ (h : List Rec). frame_bytes h ++ gate ∷ behind) (sym one)) in
    cc

-- where no frame begins, none begins with a next commit byte
pub cut_part : (read : List ℕ) → (BeginsFrame read → ⊥) → OpensNone read
cut_part read none = λ frame gate behind is same. none (frame, gate ∷ behind, is, same)

-- bytes that begin no frame, whatever follows, open none either
pub cut_bad : (read : List ℕ) → ((more : List ℕ) → BeginsFrame (read ++ more) → ⊥) → (more : List ℕ) → OpensNone (read ++ more)
cut_bad read none more = cut_part (read ++ more) (none more)

-- the first byte, and what stands after it
pub first_open : (read : List ℕ) → 1 ≤ length read → get_or read 0 0 ≡ 1 → read ≡ 1 ∷ take (length read - 1) (drop 1 read)
first_open [] some one = absurd (omega (arith, some))
first_open (b ∷ l) some one = ap (λ (x : ℕ). x ∷ l) one ∙ ap (λ (t : List ℕ). 1 ∷ t) (sym (take_all (length (b ∷ l) - 1) l (omega arith)))

-- bytes whose first one is not 1 begin with a closed commit byte
pub not_open : (read : List ℕ) → 1 ≤ length read → get_or read 0 0 ≢ 1 → IsClosed read
not_open [] some other = absurd (omega (arith, some))
not_open (b ∷ l) some other = (some, λ o. other (head_of b 1 l o.0 o.1))

-- the part of a slice from a place on
pub rest_of : (xs items : List ℕ) (i : ℕ) → xs ≡ items → take (length xs - i) (drop i xs) ≡ drop i items
rest_of xs items i same = take_rest xs i ∙ ap (drop i) same

-- what follows from a fault's place holds where the fault is
pub bad_maps : (e : FrameRefused) (P Q : ℕ → ℕ → Type 0) → ((file at : ℕ) → P file at → Q file at) → WhereBad e P → WhereBad e Q
bad_maps refusals.DiskFault P Q maps is = tt
bad_maps (refusals.BadLog file at) P Q maps is = maps file at is
bad_maps refusals.NoMemory P Q maps is = tt

-- bytes whose length is not 0 are some
pub some_bytes : (read : List ℕ) → (length read == 0) ≡ false → 1 ≤ length read
some_bytes [] is = let e : true ≡ false = is in cc
some_bytes (b ∷ l) is = omega arith

-- what was read, and the rest of the file
goes_on : (read : List ℕ) (from : ℕ) (bytes : List ℕ) → IsFront read from bytes → drop from bytes ≡ read ++ drop (length read) (drop from bytes)
goes_on read from bytes front = sym (take-append-drop (length read) (drop from bytes)) ∙ ap (λ (l : List ℕ). l ++ drop (length read) (drop from bytes)) (sym front)

opens_more : (bytes held more : List ℕ) → Opens bytes held → Opens (bytes ++ more) held
opens_more bytes held more o = record {
  frame = o.frame;
  is = o.is;
  same = o.same;
  gate = o.gate;
  behind = o.behind ++ more;
  split = ap (λ (l : List ℕ). l ++ more) o.split ∙ append_assoc (frame_bytes o.frame) (o.gate ∷ o.behind) more;
}

-- a frame that was found is one of the file
pub found_after : (read held : List ℕ) (gate : ℕ) (bytes : List ℕ) → IsFront read gate bytes → AfterOpen read (λ rest. Opens rest held) → AfterOpen (drop gate bytes) (λ rest. Opens rest held)
found_after read held gate bytes front a =
    let more = drop (length read) (drop gate bytes) in
    (a.0 ++ more, goes_on read gate bytes front ∙ ap (λ (l : List ℕ). l ++ more) a.1, opens_more a.0 held more a.2)

-- where there is none, whatever follows, the file has none
pub none_after : (read : List ℕ) (gate : ℕ) (bytes : List ℕ) → IsFront read gate bytes → AfterOpen read (λ rest. (more : List ℕ) → OpensNone (rest ++ more)) → AfterOpen (drop gate bytes) OpensNone
none_after read gate bytes front a =
    let more = drop (length read) (drop gate bytes) in
    (a.0 ++ more, goes_on read gate bytes front ∙ ap (λ (l : List ℕ). l ++ more) a.1, a.2 more)

-- where all was read and a frame is not whole, the file has none
pub cut_after : (read : List ℕ) (gate rest : ℕ) (bytes : List ℕ) → IsFront read gate bytes → length bytes ≡ gate + rest → 1 ≤ rest → rest ≤ length read → (read ≡ []) ⊎ AfterOpen read OpensNone → AfterOpen (drop gate bytes) OpensNone
cut_after read gate rest bytes front size some long (inl empty) = absurd (omega (arith, some, long, ap length empty))
cut_after read gate rest bytes front size some long (inr a) =
    let whole : drop gate bytes ≡ read = sym (front ∙ take_all (length read) (drop gate bytes) (omega (arith, size, long, length-drop gate bytes))) in
    (a.0, whole ∙ a.1, a.2)

-- reading on found no more
pub bad_on : (told later : Option Told) (file gate size rest start place len : ℕ) (e : FrameRefused) (old read : List ℕ) → later ≡ told → size ≡ gate + rest → 1 ≤ rest → len ≡ length (drop place read)
    → ((bytes : List ℕ) → HasFile told file bytes → IsFront (drop start old) gate bytes → IsFront (drop place read) gate bytes)
    → (drop place read ≡ []) ⊎ AfterOpen (drop place read) OpensNone
    → WhereBad e (λ f at. (f ≡ file) × (at ≡ gate) × ((bytes : List ℕ) → HasFile later file bytes → length bytes ≡ gate + rest → rest ≤ len))
    → WhereBad e (λ f at. (f ≡ file) × (at ≡ gate) × ((bytes : List ℕ) → HasFile told file bytes → length bytes ≡ size → IsFront (drop start old) gate bytes → AfterOpen (drop gate bytes) OpensNone))
bad_on told later file gate size rest start place len e old read same whole some long front cut bad =
    bad_maps e
    (λ f at. (f ≡ file) × (at ≡ gate) × ((bytes : List ℕ) → HasFile later file bytes → length bytes ≡ gate + rest → rest ≤ len))
    (λ f at. (f ≡ file) × (at ≡ gate) × ((bytes : List ℕ) → HasFile told file bytes → length bytes ≡ size → IsFront (drop start old) gate bytes → AfterOpen (drop gate bytes) OpensNone))
    (λ f at h. (
      h.0,
      h.1,
      λ bytes has is first.
          let there : HasFile later file bytes = subst (λ (o : Option Told). HasFile o file bytes) (sym same) has in
          let all : rest ≤ length (drop place read) = omega (arith, long, h.2 bytes there (is ∙ whole)) in
          cut_after (drop place read) gate rest bytes (front bytes has first) (is ∙ whole) some all cut,
    ))
    bad

-- a commit byte that was read as closed is not open in the file
pub closed_after : (read : List ℕ) (gate : ℕ) (bytes : List ℕ) → IsFront read gate bytes → IsClosed read → AfterOpen (drop gate bytes) (λ rest. Unit {0}) → ⊥
closed_after [] gate bytes front closed o = omega (arith, closed.0)
closed_after (b ∷ l) gate bytes front closed o =
    let more = drop (length (b ∷ l)) (drop gate bytes) in
    closed.1 (l, ap (λ (x : ℕ). x ∷ l) (head_of b 1 (l ++ more) o.0 (sym (goes_on (b ∷ l) gate bytes front) ∙ o.1)), tt)

-- what was read stands in the file from each of its places on
pub front_later : (read : List ℕ) (n from : ℕ) (bytes : List ℕ) → n ≤ length read → IsFront read from bytes → IsFront (drop n read) (from + n) bytes
front_later read n from bytes within front =
    let d = drop from bytes in
    let m = length read - n in
    let size : length (drop n read) ≡ m = length-drop n read in
    let long : length read ≡ n + m = omega (arith, within) in
    let cut : drop n read ≡ take m (drop n d) = ap (drop n) (front ∙ ap (λ (k : ℕ). take k d) long) ∙ drop-take n m d in
    let there : drop n d ≡ drop (from + n) bytes = drop-drop n from bytes in
    cut ∙ ap (take m) there ∙ ap (λ (k : ℕ). take k (drop (from + n) bytes)) (sym size)
