-- Where a reader stands in what it read.
use Rattle.std.proofs.Common.{◌≡◌, ◌≤◌, ◌⊎◌, inl, inr, ℕ, ◌+◌, ◌-◌, false, Option, List, [], length, take, drop, sym, ◌∙◌, ap, subst, arith, length-drop}
use Rattle.std.proofs.lemmas.List.{drop-drop, drop-take, length-take}
use Rattle.flume_host.specs.Told.{Told}
use Rattle.channel_log.specs.declared.loading.FrameRefused.{FrameRefused}
use Rattle.channel_log.proofs.Loads.{bad_maps, front_later}
use Rattle.channel_log.specs.Reader.{AfterOpen, AreRecords, HasFile, IsAhead, IsFrameBytes, IsFront, Opens, OpensAt, OpensNone, Reader, WhereBad}

-- the bytes up to here, from there on
abbrev pub part : ℕ → ℕ → List ℕ → List ℕ
part place stop read = drop place (take stop read)

-- how many bytes there are from a place up to a stop
pub length-part : (place stop : ℕ) (read : List ℕ) → stop ≤ length read → length (part place stop read) ≡ stop - place
length-part place stop read known = omega (arith, known, length-drop place (take stop read), length-take stop read)

-- A frame of so many bytes stands after the commit byte at a place.
pub record Stood (read : List ℕ) (place size : ℕ) : Type 0 where
  pub known : place + 1 + size ≤ length read
  pub long : length (part (place + 1) (place + 1 + size) read) ≡ size
  pub frame : IsFrameBytes (part (place + 1) (place + 1 + size) read)
  pub opens : AfterOpen (drop place read) (λ rest. Opens rest (part (place + 1) (place + 1 + size) read))

-- where a frame was found behind the commit byte at a place, its bytes stand there
pub stood : (read : List ℕ) (place size : ℕ) → AfterOpen (drop place read) (OpensAt size) → Stood read place size
stood read place size a =
    let rest : drop (place + 1) read ≡ a.0 = sym (drop-drop 1 place read) ∙ ap (drop 1) a.1 in
    let held : part (place + 1) (place + 1 + size) read ≡ take size a.0 = drop-take (place + 1) size read ∙ ap (take size) rest in
    let o = a.2.1 in
    record {
      known = omega (arith, a.2.0, ap length a.1, length-drop place read);
      long = omega (arith, a.2.0, ap length held, length-take size a.0);
      frame = (o.frame, o.is, held ∙ o.same);
      opens = (a.0, a.1, subst (λ (h : List ℕ). Opens a.0 h) (sym held) o);
    }

-- what stands after the frame
pub stood_ahead : (read : List ℕ) (place size at : ℕ) (bytes : List ℕ) → Stood read place size → IsFront (drop place read) at bytes → IsFront (drop (place + 1 + size) read) (at + 1 + length (part (place + 1) (place + 1 + size) read)) bytes
stood_ahead read place size at bytes s front =
    let later = front_later (drop place read) (size + 1) at bytes (omega (arith, s.known, length-drop place read)) front in
    let there : drop (size + 1) (drop place read) ≡ drop (place + 1 + size) read = drop-drop (size + 1) place read ∙ ap (λ (k : ℕ). drop k read) (omega arith) in
    let from : at + (size + 1) ≡ at + 1 + length (part (place + 1) (place + 1 + size) read) = omega (arith, s.long) in
    subst (λ (l : List ℕ). IsFront l (at + 1 + length (part (place + 1) (place + 1 + size) read)) bytes) there (subst (λ (n : ℕ). IsFront (drop (size + 1) (drop place read)) n bytes) from later)

-- the reader stands at its frame's end
pub at_end : (place stop : ℕ) (read : List ℕ) → place ≤ stop → stop ≤ length read → part place stop read ≡ [] → place ≡ stop
at_end place stop read within known empty = omega (arith, within, length-part place stop read known, ap length empty)

-- with nothing held, what was read from the place on is a front of the file from the reader's offset on
pub front_there : (r : Reader) (place stop : ℕ) (read bytes : List ℕ) → place ≤ stop → stop ≤ length read → part place stop read ≡ r.held → drop stop read ≡ r.ahead → r.held ≡ [] → IsAhead r bytes → IsFront (drop place read) r.at bytes
front_there r place stop read bytes within known held ahead empty is =
    let there : drop place read ≡ r.ahead = ap (λ (k : ℕ). drop k read) (at_end place stop read within known (held ∙ empty)) ∙ ahead in
    let from : r.at + length r.held ≡ r.at = omega (arith, ap length empty) in
    subst (λ (l : List ℕ). IsFront l r.at bytes) (sym there) (subst (λ (n : ℕ). IsFront r.ahead n bytes) from is)

-- the next place is the stop, or records and an END stand from there up to it
pub ends_or_holds : (read : List ℕ) (next stop : ℕ) → stop ≤ length read → (next ≡ length (take stop read)) ⊎ AreRecords (part next stop read) → (next ≡ stop) ⊎ AreRecords (part next stop read)
ends_or_holds read next stop known (inl end) = inl (omega (arith, end, known, length-take stop read))
ends_or_holds read next stop known (inr are) = inr are

-- the same, of a reader's fields
pub front_here : (told : Option Told) (inside now : Reader) (place stop : ℕ) (read bytes : List ℕ) → inside ≡ now → place ≤ stop → stop ≤ length read → part place stop read ≡ inside.held → drop stop read ≡ inside.ahead → now.held ≡ []
    → HasFile told now.file bytes → IsAhead now bytes → HasFile told inside.file bytes × IsFront (drop place read) inside.at bytes
front_here told inside now place stop read bytes same within known held ahead empty has is =
    let none : inside.held ≡ [] = ap (λ (r : Reader). r.held) same ∙ empty in (
      subst (λ (r : Reader). HasFile told r.file bytes) (sym same) has,
      front_there inside place stop read bytes within known held ahead none (subst (λ (r : Reader). IsAhead r bytes) (sym same) is),
    )

-- a fault found from this place on is the fault of the reader that stands there
pub bad_here : (told : Option Told) (e : FrameRefused) (inside now : Reader) (place stop : ℕ) (read : List ℕ) → inside ≡ now → place ≤ stop → stop ≤ length read → part place stop read ≡ inside.held → drop stop read ≡ inside.ahead → now.held ≡ [] → inside.blank ≡ false
    → WhereBad e (λ f at. (f ≡ inside.file) × (at ≡ inside.at) × ((bytes : List ℕ) → HasFile told inside.file bytes → length bytes ≡ inside.size → IsFront (drop place read) inside.at bytes → AfterOpen (drop inside.at bytes) OpensNone))
    → WhereBad e (λ f at. (f ≡ now.file) × (at ≡ now.at) × (now.blank ≡ false) × ((bytes : List ℕ) → HasFile told now.file bytes → length bytes ≡ now.size → IsAhead now bytes → AfterOpen (drop now.at bytes) OpensNone))
bad_here told e inside now place stop read same within known held ahead empty full bad =
    bad_maps e
    (λ f at. (f ≡ inside.file) × (at ≡ inside.at) × ((bytes : List ℕ) → HasFile told inside.file bytes → length bytes ≡ inside.size → IsFront (drop place read) inside.at bytes → AfterOpen (drop inside.at bytes) OpensNone))
    (λ f at. (f ≡ now.file) × (at ≡ now.at) × (now.blank ≡ false) × ((bytes : List ℕ) → HasFile told now.file bytes → length bytes ≡ now.size → IsAhead now bytes → AfterOpen (drop now.at bytes) OpensNone))
    (λ f at h. (
      h.0 ∙ ap (λ (r : Reader). r.file) same,
      h.1 ∙ ap (λ (r : Reader). r.at) same,
      sym (ap (λ (r : Reader). r.blank) same) ∙ full,
      λ bytes has long is.
          let first = front_here told inside now place stop read bytes same within known held ahead empty has is in
          subst (λ (r : Reader). AfterOpen (drop r.at bytes) OpensNone) same (h.2 bytes first.0 (long ∙ sym (ap (λ (r : Reader). r.size) same)) first.1),
    ))
    bad
