-- Events stand at their pointers, whatever is appended, flushed or read.
use Rattle.std.proofs.Common.{◌⊎◌, inl, inr, ◌≡◌, ◌≢◌, ◌≤◌, ◌+◌, ◌-◌, ◌^◌, ◌++◌, ◌∷◌, [], ℕ, List, Bool, cond, drop, length, length-append, replicate, take, Option, Some, None, Result, Ok, Err, true, false, ◌==◌, refl, sym, ◌∙◌, ap, subst, append_assoc, arith}
use Rattle.std.specs.Prelude.{IsSome, IsErrOf, if◌then◌else◌}
use Rattle.std.proofs.lemmas.Bool.Decides.{eqb_tells}
use Rattle.std.proofs.lemmas.List.{append-nil, drop_at, length-replicate, length-take, take_all, take_at}
use Rattle.flume_host.specs.Folder.{Allows, Entry, settle_entry}
use Rattle.flume_host.specs.Told.{Changes, Told, WhereTold}
use Rattle.flume_host.specs.declared.names.FileName.TheVariants.{Check, Log}
use Rattle.event_core.specs.Content.{Content, size}
use Rattle.record_form.specs.declared.record.Pointer.{Pointer}
use Rattle.record_form.specs.declared.record.Rec.{Rec}
use Rattle.record_form.specs.declared.record.Rec.TheVariants.{End, Put}
use Rattle.record_form.specs.Record.{spelling}
use Rattle.channel_log.specs.Frames.{frame_bytes, opened, record_bytes}
use Rattle.channel_log.specs.Window.{IsBelow, IsPieceOf, Kept}
use Rattle.channel_log.specs.Writer.{Appends, IsAtRest, IsPending, LacksOrHas, Writer}
use Rattle.record_form.specs.Pointers.{PutAt}
use Rattle.channel_log.specs.Pointers.{FoundAt, IsOfLength, IsWaiting, end_of, in_frame, settled_part}
use Rattle.channel_log.specs.declared.pointers.ReadRefused.{ReadRefused}
use Rattle.channel_log.specs.declared.pointers.ReadRefused.TheVariants.{Damaged, NoMemory, ReadFault}
use Rattle.channel_log.proofs.Keeping.{piece_grows}
use Rattle.record_form.proofs.Pointed.{within}
use Rattle.channel_log.proofs.Pointing.{one_event, part-append, put_grows}
use Rattle.channel_face.specs.Machine.{is_some_of}
use Rattle.channel_places.specs.Looks.{Known, StandsIn}
use Rattle.checkpoint_opening.proofs.Growing.{other_log}
use Rattle.channel_laying.specs.Laying.{AreNeeded}
use Rattle.channel_laying.proofs.Needed.{needed_less}
use Rattle.file_channel.specs.Placed.{AreNeeding, AreNotBelow, ArePlaced, IsForgotten, IsStill, IsThere, PutBy, bytes_of, settled_in}
use Rattle.file_channel.specs.Stepped.{ReadsAs}

-- one record more waits

-- events stand at their pointers after a record more was appended
pub placed_appends : (told : Option Told) (w w' : Writer) (rec : Rec) (settled known : Known) → Appends w w' rec → ArePlaced told w settled known → ArePlaced told w' settled known
placed_appends told w w' rec settled known adds are = subst (λ (v : Writer). ArePlaced told v settled known) (sym adds.is) (record {
  long = are.long;
  there = λ t is p event in_known. more t p event (are.there t is p event in_known);
  still = are.still;
  piece = are.piece;
  within = are.within;
  written = are.written;
  needing = are.needing;
})
  where
    grown : Writer
    grown = record w { bytes = w.bytes ++ spelling rec; count = w.count + 1 }

    more : (t : Told) (p : Pointer) (event : Content) → IsThere t w p event → IsThere t grown p event
    more t p event (inl at) = inl at
    more t p event (inr waits) = inr (waits.0, put_grows w.bytes (spelling rec) (in_frame w p) event waits.1)

-- the place of the record that is appended next
abbrev pub next_place : Writer → ℕ → Pointer
next_place w long = record { file = w.file; at = w.gate + 1 + length w.bytes; length = long }

-- a pointer made of the writer's file, its place and a length is the next place
pub place_is : (w : Writer) (file at long n : ℕ) → file ≡ w.file → at ≡ w.gate + 1 + length w.bytes → long ≡ n → ◌≡◌ {A = Pointer} (record { file = file; at = at; length = long }) (next_place w n)
place_is w file at long n file_is at_is long_is = rw (file_is, at_is, long_is) refl

-- a PUT of this transaction stands there, or waits
abbrev pub IsThereBy : Told → Writer → ℕ → Pointer → Content → Type 0
IsThereBy t w txn p event = PutBy (settled_in t w p.file) txn p event ⊎ (IsWaiting w p × PutBy w.bytes txn (in_frame w p) event)

there_by : (t : Told) (w : Writer) (txn : ℕ) (p : Pointer) (event : Content) → IsThereBy t w txn p event → IsThere t w p event
there_by t w txn p event (inl at) = inl at.0
there_by t w txn p event (inr waits) = inr (waits.0, waits.1.0)

-- the PUT that was appended waits at the next place
pub waits_there : (t : Told) (w w' : Writer) (txn : ℕ) (event : Content) → Appends w w' (Put txn event) → IsThereBy t w' txn (next_place w (size event)) event
waits_there t w w' txn event adds = subst (λ (v : Writer). IsThereBy t v txn (next_place w (size event)) event) (sym adds.is) (inr (
  (refl, omega arith),
  (
    record {
      txn = txn;
      before = w.bytes;
      behind = [];
      split = ap (λ (l : List ℕ). w.bytes ++ l) (sym (append-nil (spelling (Put txn event))));
      place = omega arith;
      long = refl;
      fields = adds.framed.fields;
      limits = adds.framed.limits;
    },
    refl,
  ),
))

-- the PUT of an event more
pub placed_put : (told : Option Told) (w w' : Writer) (txn : ℕ) (event : Content) (p : Pointer) (settled known : Known) → Appends w w' (Put txn event) → p ≡ next_place w (size event) → ArePlaced told w settled known → ArePlaced told w' settled ((p, event) ∷ known)
placed_put told w w' txn event p settled known adds is are =
    let before : ArePlaced told w' settled known = placed_appends told w w' (Put txn event) settled known adds are in
    record {
      long = λ q e in_known. long q e in_known;
      there = λ t told_is q e in_known. there t told_is q e (before.there t told_is q e) in_known;
      still = λ t told_is q e in_known other. still t told_is q e (before.still t told_is q e) in_known other;
      piece = λ t told_is. piece t (before.piece t told_is);
      within = λ q e in_settled. inr (are.within q e in_settled);
      written = before.written;
      needing = λ t told_is least laid needs. not_below least (before.needing t told_is least laid needs);
    }
  where
    own_file : p.file ≡ w'.file
    own_file = ap (λ (r : Pointer). r.file) is ∙ sym (ap (λ (v : Writer). v.file) adds.is)

    piece : (t : Told) → IsForgotten w' known ⊎ IsPieceOf w'.kept (settled_in t w') → IsForgotten w' ((p, event) ∷ known) ⊎ IsPieceOf w'.kept (settled_in t w')
    piece t (inr is) = inr is
    piece t (inl (before, none)) = inl (before, other)
      where
        other : (q : Pointer) (e : Content) → StandsIn ((p, event) ∷ known) q e → q.file ≢ w'.kept.file
        other q e (inl same) kept = absurd (omega (arith, before, own_file, ap (λ (k : Pointer × Content). k.0.file) same, kept))
        other q e (inr older) kept = none q e older kept

    not_below : (least : ℕ) → AreNotBelow least w'.file known → AreNotBelow least w'.file ((p, event) ∷ known)
    not_below least was = record { own = was.own; each = each }
      where
        each : (q : Pointer) (e : Content) → StandsIn ((p, event) ∷ known) q e → least ≤ q.file
        each q e (inl same) = subst (λ (k : Pointer × Content). least ≤ k.0.file) same (omega (arith, was.own, own_file))
        each q e (inr older) = was.each q e older

    long : (q : Pointer) (e : Content) → StandsIn ((p, event) ∷ known) q e → size e ≡ q.length
    long q e (inl same) =
        let here : size event ≡ p.length = ap (λ (r : Pointer). r.length) (sym is) in
        subst (λ (k : Pointer × Content). size k.1 ≡ k.0.length) same here
    long q e (inr older) = are.long q e older

    still : (t : Told) → told ≡ Some t → (q : Pointer) (e : Content) → (StandsIn known q e → q.file ≢ w'.file → IsStill t q.file) → StandsIn ((p, event) ∷ known) q e → q.file ≢ w'.file → IsStill t q.file
    still t told_is q e before (inl same) other =
        let own : q.file ≡ w'.file = sym (ap (λ (k : Pointer × Content). k.0.file) same) ∙ (ap (λ (r : Pointer). r.file) is ∙ sym (ap (λ (v : Writer). v.file) adds.is)) in
        absurd (other own)
    still t told_is q e before (inr older) other = before older other

    there : (t : Told) → told ≡ Some t → (q : Pointer) (e : Content) → (StandsIn known q e → IsThere t w' q e) → StandsIn ((p, event) ∷ known) q e → IsThere t w' q e
    there t told_is q e before (inl same) =
        let here : IsThere t w' p event = subst (λ (r : Pointer). IsThere t w' r event) (sym is) (there_by t w' txn (next_place w (size event)) event (waits_there t w w' txn event adds)) in
        subst (λ (k : Pointer × Content). IsThere t w' k.0 k.1) same here
    there t told_is q e before (inr older) = before older

-- from one moment to another, what log files have settled grew, and what waited is there
pub record Grows (t u : Told) (w w' : Writer) : Type 0 where
  pub settled : (file : ℕ) → (more : List ℕ) × (settled_in u w' file ≡ settled_in t w file ++ more)
  pub waited : (p : Pointer) (event : Content) (txn : ℕ) → IsWaiting w p → PutBy w.bytes txn (in_frame w p) event → IsThereBy u w' txn p event
  pub still : (file : ℕ) → file ≢ w'.file → (file ≢ w.file → IsStill t file) → IsStill u file
  pub file : w.file ≤ w'.file
  pub kept : w'.kept ≡ w.kept

-- where nothing was done, nothing grew
pub same_grows : (t : Told) (w : Writer) → Grows t t w w
same_grows t w = record { settled = λ file. ([], sym (append-nil (settled_in t w file))); waited = λ p event txn waits at. inr (waits, at); still = λ file other was. was other; file = omega arith; kept = refl }

-- a frame more

-- the writer's own file is settled up to its closed commit byte
pub end_own : (w : Writer) (file : ℕ) → file ≡ w.file → end_of w file ≡ w.gate
end_own w file is = own (eqb_tells file w.file)
  where
    own : ((file == w.file) ≡ true) × (file ≡ w.file) ⊎ ((file == w.file) ≡ false) × (file ≢ w.file) → end_of w file ≡ w.gate
    own (inl same) = rw same.0 refl
    own (inr other) = absurd (other.1 is)

-- any other file is settled to its end
pub end_other : (w : Writer) (file : ℕ) → file ≢ w.file → end_of w file ≡ 2 ^ 64 - 1
end_other w file isnt = from (eqb_tells file w.file)
  where
    from : ((file == w.file) ≡ true) × (file ≡ w.file) ⊎ ((file == w.file) ≡ false) × (file ≢ w.file) → end_of w file ≡ 2 ^ 64 - 1
    from (inl same) = absurd (isnt same.1)
    from (inr other) = rw other.0 refl

-- what is settled does not wait for a flush
pub not_waiting : (t : Told) (w : Writer) (p : Pointer) (event : Content) → PutAt (settled_in t w p.file) p event → IsWaiting w p → ⊥
not_waiting t w p event at waits =
    omega (arith, within (settled_in t w p.file) p event at, length-take (end_of w p.file) (bytes_of (t.reads (Log p.file))), end_own w p.file waits.0, waits.1)

-- no PUT stands in an empty file
pub no_put : (p : Pointer) (event : Content) → PutAt [] p event → ⊥
no_put p event at = omega (arith, within [] p event at)

-- where nothing waits, what is there is settled
pub is_written : (t : Told) (w : Writer) (p : Pointer) (event : Content) → w.bytes ≡ [] → IsThere t w p event → IsWaiting w p → ⊥
is_written t w p event empty (inl at) waits = not_waiting t w p event at waits
is_written t w p event empty (inr there) waits = no_put (in_frame w p) event (subst (λ (l : List ℕ). PutAt l (in_frame w p) event) empty there.1)

-- what was known is settled once nothing waits
pub placed_grows : (told told' : Option Told) (w w' : Writer) (settled known : Known) → w'.bytes ≡ [] → ((u : Told) → told' ≡ Some u → (t : Told) × (told ≡ Some t) × Grows t u w w') → AreNeeding told' w'.file known → ArePlaced told w settled known → ArePlaced told' w' known known
placed_grows told told' w w' settled known empty grew needing are = record {
  long = are.long;
  there = λ u is p event in_known. let was = grew u is in more was.0 u was.2 p event (are.there was.0 was.1 p event in_known);
  still = λ u is p event in_known other. let was = grew u is in was.2.still p.file other (are.still was.0 was.1 p event in_known);
  piece = λ u is. let was = grew u is in piece was.0 u was.2 (are.piece was.0 was.1);
  within = λ p event in_known. in_known;
  written = λ u is p event in_known. let was = grew u is in is_written u w' p event empty (more was.0 u was.2 p event (are.there was.0 was.1 p event in_known));
  needing = needing;
}
  where
    more : (t u : Told) → Grows t u w w' → (p : Pointer) (event : Content) → IsThere t w p event → IsThere u w' p event
    more t u grows p event (inl at) = inl (subst (λ (l : List ℕ). PutAt l p event) (sym (grows.settled p.file).1) (put_grows (settled_in t w p.file) (grows.settled p.file).0 p event at))
    more t u grows p event (inr waits) = there_by u w' waits.1.txn p event (grows.waited p event waits.1.txn waits.0 (waits.1, refl))

    piece : (t u : Told) → Grows t u w w' → IsForgotten w known ⊎ IsPieceOf w.kept (settled_in t w) → IsForgotten w' known ⊎ IsPieceOf w'.kept (settled_in u w')
    piece t u grows (inl (before, none)) =
        let file : w'.kept.file ≡ w.kept.file = ap (λ (k : Kept). k.file) grows.kept in
        inl (omega (arith, before, file, grows.file), λ p event in_known same. none p event in_known (same ∙ file))
    piece t u grows (inr is) = inr (rw grows.kept (piece_grows w.kept (settled_in t w) (settled_in u w') grows.settled is))

-- where checkpoints stay as they were, no other file is needed
pub needing_still : (told told' : Option Told) (file file' : ℕ) (known : Known) → file ≤ file' → ((u : Told) → told' ≡ Some u → (t : Told) × (told ≡ Some t) × ((n : ℕ) → u.now (Check n) ≡ t.now (Check n))) → AreNeeding told file known → AreNeeding told' file' known
needing_still told told' file file' known more same are u now least laid needs =
    let was = same u now in
    let before : AreNeeded was.0 least laid = needed_less u was.0 least laid (λ folder left n. subst (λ (e : Entry). Allows e (folder (Check n))) (sym (was.2 n)) (left n)) needs in
    let is = are was.0 was.1 least laid before in
    record { own = omega (arith, more, is.own); each = is.each }

-- what the writer's own file has settled are its header and its frames
pub settled_own : (t : Told) (w : Writer) (birth file : ℕ) (frames : List (List Rec)) → file ≡ w.file → IsAtRest t birth w.file w.gate frames → settled_in t w file ≡ settled_part birth w.file frames
settled_own t w birth file frames is rest =
    ap (λ (n : ℕ). take n (bytes_of (t.reads (Log file)))) (end_own w file is)
    ∙ (ap (λ (n : ℕ). take w.gate (bytes_of (t.reads (Log n)))) is
    ∙ (ap (λ (o : Option (List ℕ)). take w.gate (bytes_of o)) rest.reads
    ∙ take_at (settled_part birth w.file frames) (0 ∷ []) w.gate (sym rest.offset)))

-- what waits among the bytes of a frame stands in its file after the frames that were there
shifted : (front bytes more : List ℕ) (txn : ℕ) (p q : Pointer) (event : Content) → PutBy bytes txn q event → q.at + (length front + 1) ≡ p.at → q.length ≡ p.length → PutBy (front ++ (1 ∷ (bytes ++ more))) txn p event
shifted front bytes more txn p q event (at, of) place long = (
  record {
    txn = at.txn;
    before = front ++ (1 ∷ at.before);
    behind = at.behind ++ more;
    split =
        ap (λ (l : List ℕ). front ++ (1 ∷ (l ++ more))) at.split
        ∙ (ap (λ (l : List ℕ). front ++ (1 ∷ l)) (append_assoc at.before (spelling (Put at.txn event) ++ at.behind) more ∙ ap (λ (l : List ℕ). at.before ++ l) (append_assoc (spelling (Put at.txn event)) at.behind more))
        ∙ sym (append_assoc front (1 ∷ at.before) (spelling (Put at.txn event) ++ (at.behind ++ more))));
    place = omega (arith, length-append front (1 ∷ at.before), at.place, place);
    long = at.long ∙ long;
    fields = at.fields;
    limits = at.limits;
  },
  of,
)

opened_one : (records : List Rec) → opened (records ∷ []) ≡ 1 ∷ (record_bytes records ++ spelling (End (length records)))
unfolding frame_bytes
opened_one records = ap (λ (l : List ℕ). 1 ∷ l) (append-nil (record_bytes records ++ spelling (End (length records))))

-- what is settled grows by a flush of one frame
pub frame_grows : (t u : Told) (w w' : Writer) (birth : ℕ) (frames : List (List Rec)) (records : List Rec) → IsAtRest t birth w.file w.gate frames → IsAtRest u birth w.file w'.gate (frames ++ records ∷ []) → IsPending w records
    → Changes (Log w.file) (LacksOrHas birth w.file frames records) 2 t u → w' ≡ record w { gate = w.gate + length w.bytes + 6; started = true; bytes = []; count = 0 } → Grows t u w w'
frame_grows t u w w' birth frames records rest rest' pending changes is = record {
  settled = λ file. grown file (eqb_tells file w.file);
  waited = λ p event txn waits at. inl (waited p event txn waits at);
  still = λ file other was.
      let isnt : file ≢ w.file = λ same. other (same ∙ sym file_is) in
      let others = changes.others (Log file) (other_log file w.file isnt) in
      others.0 ∙ (was isnt ∙ ap settle_entry (sym others.1));
  file = omega (arith, file_is);
  kept = ap (λ (v : Writer). v.kept) is;
}
  where
    file_is : w'.file ≡ w.file
    file_is = ap (λ (v : Writer). v.file) is

    front : List ℕ
    front = settled_part birth w.file frames

    own : (file : ℕ) → file ≡ w.file → settled_in u w' file ≡ front ++ opened (records ∷ [])
    own file same =
        settled_own u w' birth file (frames ++ records ∷ []) (same ∙ sym file_is) (subst (λ (n : ℕ). IsAtRest u birth n w'.gate (frames ++ records ∷ [])) (sym file_is) rest')
        ∙ (ap (λ (n : ℕ). settled_part birth n (frames ++ records ∷ [])) file_is ∙ part-append birth w.file frames (records ∷ []))

    grown : (file : ℕ) → ((file == w.file) ≡ true) × (file ≡ w.file) ⊎ ((file == w.file) ≡ false) × (file ≢ w.file) → (more : List ℕ) × (settled_in u w' file ≡ settled_in t w file ++ more)
    grown file (inl same) = (opened (records ∷ []), own file same.1 ∙ ap (λ (l : List ℕ). l ++ opened (records ∷ [])) (sym (settled_own t w birth file frames same.1 rest)))
    grown file (inr other) =
        let reads = (changes.others (Log file) (other_log file w.file other.1)).1 in
        let after : settled_in u w' file ≡ take (2 ^ 64 - 1) (bytes_of (t.reads (Log file))) =
        ap (λ (n : ℕ). take n (bytes_of (u.reads (Log file)))) (end_other w' file (λ same. other.1 (same ∙ file_is))) ∙ ap (λ (o : Option (List ℕ)). take (2 ^ 64 - 1) (bytes_of o)) reads in
        let before : settled_in t w file ≡ take (2 ^ 64 - 1) (bytes_of (t.reads (Log file))) = ap (λ (n : ℕ). take n (bytes_of (t.reads (Log file)))) (end_other w file other.1) in
        ([], after ∙ (sym before ∙ sym (append-nil (settled_in t w file))))

    waited : (p : Pointer) (event : Content) (txn : ℕ) → IsWaiting w p → PutBy w.bytes txn (in_frame w p) event → PutBy (settled_in u w' p.file) txn p event
    waited p event txn waits at =
        let bytes : List ℕ = front ++ (1 ∷ (w.bytes ++ spelling (End (length records)))) in
        let there : settled_in u w' p.file ≡ bytes =
        own p.file waits.0 ∙ (ap (λ (l : List ℕ). front ++ l) (opened_one records) ∙ ap (λ (l : List ℕ). front ++ (1 ∷ (l ++ spelling (End (length records))))) (sym pending.spelled)) in
        subst (λ (l : List ℕ). PutBy l txn p event) (sym there) (shifted front w.bytes (spelling (End (length records))) txn p (in_frame w p) event at (omega (arith, waits.1, rest.offset)) refl)

-- what is read at a pointer

settled_short : (t : Told) (w : Writer) (p : Pointer) (event : Content) → PutAt (settled_in t w p.file) p event → IsWaiting w p → ⊥
settled_short t w p event at waits =
    let low : settled_in t w p.file ≡ take w.gate (bytes_of (t.reads (Log p.file))) = ap (λ (n : ℕ). take n (bytes_of (t.reads (Log p.file)))) (end_own w p.file waits.0) in
    absurd (omega (arith, within (settled_in t w p.file) p event at, ap (λ (l : List ℕ). length l) low, length-take w.gate (bytes_of (t.reads (Log p.file))), waits.1))

-- the writer's settled part is below the end that it reads to
pub is_below : (t : Told) (w : Writer) (p : Pointer) → IsBelow t p.file (end_of w p.file) (settled_in t w p.file)
is_below t w p bytes is = ap (λ (o : Option (List ℕ)). take (end_of w p.file) (bytes_of o)) (sym is)

-- in some bytes the reader found what there is at the pointer, and the event stands there
record Found (p : Pointer) (event : Content) (r : Result Content ReadRefused) : Type 0 where
  bytes : List ℕ
  at : Pointer
  stands : PutAt bytes at event
  found : FoundAt bytes at r

found_there : (t : Told) (w : Writer) (p : Pointer) (event : Content) (r : Result Content ReadRefused) → IsThere t w p event → (IsWaiting w p → FoundAt w.bytes (in_frame w p) r) → ((IsWaiting w p → ⊥) → FoundAt (settled_in t w p.file) p r) → Found p event r
found_there t w p event r (inl at) waiting settled = record { bytes = settled_in t w p.file; at = p; stands = at; found = settled (λ waits. settled_short t w p event at waits) }
found_there t w p event r (inr waits) waiting settled = record { bytes = w.bytes; at = in_frame w p; stands = waits.1; found = waiting waits.0 }

-- a reader gives the event that stands at the pointer, and finds no damage there
abbrev pub GivesEvent : Content → Result Content ReadRefused → Type 0
GivesEvent event (Ok given) = given ≡ event
GivesEvent event (Err ReadFault) = Unit {0}
GivesEvent event (Err (Damaged kept found)) = ⊥
GivesEvent event (Err NoMemory) = Unit {0}

gives : (p : Pointer) (event : Content) (r : Result Content ReadRefused) → Found p event r → GivesEvent event r
gives p event (Ok given) f = one_event f.bytes f.at given event f.found f.stands
gives p event (Err ReadFault) f = tt
gives p event (Err (Damaged kept found)) f = f.found.0 event f.stands
gives p event (Err NoMemory) f = tt

-- what files have, but that the file of which something is kept has just that

abbrev part_of : Kept → (ℕ → List ℕ) → ℕ → List ℕ
part_of k part n = if n == k.file then replicate k.from 0 ++ k.bytes else part n

part_other : (k : Kept) (part : ℕ → List ℕ) (n : ℕ) → n ≢ k.file → part_of k part n ≡ part n
part_other k part n other = from (eqb_tells n k.file)
  where
    from : ((n == k.file) ≡ true) × (n ≡ k.file) ⊎ ((n == k.file) ≡ false) × (n ≢ k.file) → part_of k part n ≡ part n
    from (inl same) = absurd (other same.1)
    from (inr isnt) = ap (λ (b : Bool). cond b (replicate k.from 0 ++ k.bytes) (part n)) isnt.0

part_own : (k : Kept) (part : ℕ → List ℕ) → part_of k part k.file ≡ replicate k.from 0 ++ k.bytes
part_own k part = from (eqb_tells k.file k.file)
  where
    from : ((k.file == k.file) ≡ true) × (k.file ≡ k.file) ⊎ ((k.file == k.file) ≡ false) × (k.file ≢ k.file) → part_of k part k.file ≡ replicate k.from 0 ++ k.bytes
    from (inl same) = ap (λ (b : Bool). cond b (replicate k.from 0 ++ k.bytes) (part k.file)) same.0
    from (inr isnt) = absurd (isnt.1 refl)

part_piece : (k : Kept) (part : ℕ → List ℕ) → IsPieceOf k (part_of k part)
part_piece k part =
    let there : drop k.from (part_of k part k.file) ≡ k.bytes = ap (λ (l : List ℕ). drop k.from l) (part_own k part) ∙ drop_at (replicate k.from 0) k.bytes k.from (length-replicate k.from 0) in
    sym (ap (λ (l : List ℕ). take (length k.bytes) l) there ∙ take_all (length k.bytes) k.bytes (omega arith))

-- a reading at the pointer gives the event, from the file, from what waits or from what is kept
pub reads_event : (t : Told) (w : Writer) (p : Pointer) (event : Content) (known : Known) (r : Result Content ReadRefused) → StandsIn known p event → IsForgotten w known ⊎ IsPieceOf w.kept (settled_in t w) → IsThere t w p event → (IsWaiting w p → FoundAt w.bytes (in_frame w p) r × (IsErrOf r ReadFault → ⊥))
    → ((part : ℕ → List ℕ) → IsPieceOf w.kept part → IsBelow t p.file (end_of w p.file) (part p.file) → (IsWaiting w p → ⊥) → FoundAt (part p.file) p r) → GivesEvent event r
reads_event t w p event known r in_known piece there waiting settled = gives p event r (found there)
  where
    elsewhere : IsForgotten w known ⊎ IsPieceOf w.kept (settled_in t w) → (IsWaiting w p → ⊥) → FoundAt (settled_in t w p.file) p r
    elsewhere (inr is) isnt = settled (settled_in t w) is (is_below t w p) isnt
    elsewhere (inl forgotten) isnt =
        let part = part_of w.kept (settled_in t w) in
        let same : part p.file ≡ settled_in t w p.file = part_other w.kept (settled_in t w) p.file (forgotten.1 p event in_known) in
        subst (λ (l : List ℕ). FoundAt l p r) same
        (settled part (part_piece w.kept (settled_in t w)) (subst (λ (l : List ℕ). IsBelow t p.file (end_of w p.file) l) (sym same) (is_below t w p)) isnt)

    found : IsThere t w p event → Found p event r
    found (inl at) = found_there t w p event r (inl at) (λ waits. (waiting waits).0) (elsewhere piece)
    found (inr waits) = found_there t w p event r (inr waits) (λ waits'. (waiting waits').0) (λ isnt. absurd (isnt waits.0))

-- where the disk doesn't show its contents, an event of the pointer's length is read, or damage
pub reads_as : (told : Option Told) (w : Writer) (p : Pointer) (event : Content) (settled known : Known) (r : Result Content ReadRefused) → ArePlaced told w settled known → StandsIn known p event → IsOfLength p.length r → (IsWaiting w p → FoundAt w.bytes (in_frame w p) r × (IsErrOf r ReadFault → ⊥))
    → WhereTold told (λ t. (part : ℕ → List ℕ) → IsPieceOf w.kept part → IsBelow t p.file (end_of w p.file) (part p.file) → (IsWaiting w p → ⊥) → FoundAt (part p.file) p r) → ReadsAs (is_some_of told) event r
reads_as told w p event settled known r are in_known long waiting there = from told refl
  where
    silent : (r : Result Content ReadRefused) → IsOfLength p.length r → ReadsAs false event r
    silent (Ok given) of_length = of_length ∙ sym (are.long p event in_known)
    silent (Err ReadFault) of_length = tt
    silent (Err (Damaged kept found)) of_length = refl
    silent (Err NoMemory) of_length = tt

    exact : (r : Result Content ReadRefused) → GivesEvent event r → ReadsAs true event r
    exact (Ok given) is = ap (λ (e : Content). Some e) is
    exact (Err ReadFault) is = tt
    exact (Err (Damaged kept found)) is = absurd is
    exact (Err NoMemory) is = tt

    from : (o : Option Told) → told ≡ o → ReadsAs (is_some_of told) event r
    from None is = subst (λ (v : Option Told). ReadsAs (is_some_of v) event r) (sym is) (silent r long)
    from (Some t) is =
        subst (λ (v : Option Told). ReadsAs (is_some_of v) event r) (sym is)
        (exact r (reads_event t w p event known r in_known (are.piece t is) (are.there t is p event in_known) waiting (there t is)))

-- reading leaves events where they stand
pub placed_reads : (told told' : Option Told) (w w' : Writer) (p : Pointer) (event : Content) (settled known : Known) → StandsIn known p event → told' ≡ told → w' ≡ record w { kept = w'.kept }
    → WhereTold told (λ t. (part : ℕ → List ℕ) → IsPieceOf w.kept part → IsBelow t p.file (end_of w p.file) (part p.file) → IsPieceOf w'.kept part) → ArePlaced told w settled known → ArePlaced told' w' settled known
placed_reads told told' w w' p event settled known in_known same is kept are = rw same (subst (λ (v : Writer). ArePlaced told v settled known) (sym is) (record {
  long = are.long;
  there = are.there;
  still = are.still;
  piece = λ t told_is. piece t told_is (are.piece t told_is);
  within = are.within;
  written = are.written;
  needing = are.needing;
}))
  where
    piece : (t : Told) → told ≡ Some t → IsForgotten w known ⊎ IsPieceOf w.kept (settled_in t w) → IsForgotten (record w { kept = w'.kept }) known ⊎ IsPieceOf w'.kept (settled_in t w)
    piece t told_is (inr whole) = inr (kept t told_is (settled_in t w) whole (is_below t w p))
    piece t told_is (inl (before, none)) = from (eqb_tells w'.kept.file w.kept.file)
      where
        part : ℕ → List ℕ
        part = part_of w.kept (settled_in t w)

        there : part p.file ≡ settled_in t w p.file
        there = part_other w.kept (settled_in t w) p.file (none p event in_known)

        now : IsPieceOf w'.kept part
        now = kept t told_is part (part_piece w.kept (settled_in t w)) (subst (λ (l : List ℕ). IsBelow t p.file (end_of w p.file) l) (sym there) (is_below t w p))

        from : ((w'.kept.file == w.kept.file) ≡ true) × (w'.kept.file ≡ w.kept.file) ⊎ ((w'.kept.file == w.kept.file) ≡ false) × (w'.kept.file ≢ w.kept.file) → IsForgotten (record w { kept = w'.kept }) known ⊎ IsPieceOf w'.kept (settled_in t w)
        from (inl same_one) = inl (omega (arith, before, same_one.1), λ q e stands is_it. none q e stands (is_it ∙ same_one.1))
        from (inr other) = inr (subst (λ (l : List ℕ). w'.kept.bytes ≡ take (length w'.kept.bytes) (drop w'.kept.from l)) (part_other w.kept (settled_in t w) w'.kept.file other.1) now)

-- the file of a pointer is there

some_file : (o : Option (List ℕ)) (n : ℕ) (p : Pointer) (event : Content) → PutAt (take n (bytes_of o)) p event → IsSome o
some_file None n p event at = let none : List ℕ = [] in absurd (omega (arith, within (take n none) p event at, length-take n none))
some_file (Some bytes) n p event at = refl

-- where the writer's own file is there, so is the file of any event that is there
pub file_there : (t : Told) (w : Writer) (p : Pointer) (event : Content) → IsSome (t.reads (Log w.file)) → IsThere t w p event → IsSome (t.reads (Log p.file))
file_there t w p event own (inl at) = some_file (t.reads (Log p.file)) (end_of w p.file) p event at
file_there t w p event own (inr waits) = subst (λ (n : ℕ). IsSome (t.reads (Log n))) (sym waits.0.0) own
