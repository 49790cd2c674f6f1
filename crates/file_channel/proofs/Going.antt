-- Events stand at their pointers where the log goes on in a next file, and those that wait for a flush were moved there.
use Rattle.std.proofs.Common.{◌⊎◌, inl, inr, ◌≡◌, ◌≢◌, ◌<◌, ◌≤◌, ◌+◌, ◌-◌, ◌^◌, ◌++◌, ◌∷◌, [], ℕ, List, length, length-append, append-nil, map, nat_le, take, Option, Some, None, Bool, true, false, ◌==◌, cond, refl, sym, ◌∙◌, ap, subst, arith}
use Rattle.std.specs.Prelude.{option_map}
use Rattle.std.proofs.Math.Seq.{take-nil}
use Rattle.std.proofs.lemmas.Bool.Decides.{eqb_tells, nat_tests}
use Rattle.std.proofs.lemmas.List.{take_all}
use Rattle.std.specs.List.{AllByRecursion}
use Rattle.flume_host.specs.Folder.{Allows, Entry, settle_entry}
use Rattle.flume_host.specs.Told.{Changes, Tells, Told}
use Rattle.flume_host.specs.declared.names.FileName.TheVariants.{Check, Log}
use Rattle.flume_host.proofs.Telling.{back}
use Rattle.event_core.specs.Content.{Content, size}
use Rattle.record_form.specs.declared.record.Pointer.{Pointer}
use Rattle.record_form.specs.declared.record.Rec.{Rec}
use Rattle.open_table.specs.Tables.{Listed, Open, Puts, Table, Takes, is_behind, moved, moved_open, moved_pointer, open_at, puts_of}
use Rattle.channel_log.specs.Frames.{header, opened}
use Rattle.record_form.specs.Pointers.{PutAt}
use Rattle.channel_log.specs.Pointers.{IsWaiting, end_of, settled_part}
use Rattle.channel_log.specs.Window.{IsPieceOf}
use Rattle.channel_log.specs.Writer.{IsBlank, Writer, file_of}
use Rattle.channel_log.proofs.Keeping.{piece_grows}
use Rattle.channel_log.proofs.Pointing.{put_grows}
use Rattle.channel_face.specs.Machine.{State}
use Rattle.channel_places.specs.Looks.{Known, Looks, Moves, StandsIn, pointers_of}
use Rattle.channel_places.proofs.Moved.{all_moved, known_moved}
use Rattle.channel_places.proofs.Opening.{grows_behind, grows_front}
use Rattle.channel_writing.specs.Written.{IsLogged, OnDisk, Waits}
use Rattle.checkpoint_opening.proofs.Growing.{other_log}
use Rattle.channel_laying.specs.Laying.{AreNeeded}
use Rattle.channel_laying.proofs.Needed.{needed_less}
use Rattle.file_channel.specs.Placed.{AreNotBelow, ArePlaced, AreOwn, IsForgotten, IsOwn, IsStateOf, IsStill, IsThere, Logged, PutBy, bytes_of, settled_in}
use Rattle.file_channel.proofs.Owning.{by_grows}
use Rattle.file_channel.proofs.Placing.{end_other, no_put, not_waiting, settled_own}
use Rattle.file_channel.proofs.Replaying.{in_either}

-- the writer of the next file
abbrev next_of : Writer → Writer
next_of w = record w { file = w.file + 1; gate = 16; started = false }

-- where a pointer goes
abbrev gone : Writer → Pointer → Pointer
gone w p = moved_pointer w.file (w.gate + 1) (w.file + 1) 17 p

behind_is : (file at : ℕ) (p : Pointer) → is_behind file at p ≡ true → (p.file ≡ file) × (at ≤ p.at)
behind_is file at p is = from (eqb_tells p.file file)
  where
    differ : false ≡ true → ⊥
    differ same = cc

    from : ((p.file == file) ≡ true) × (p.file ≡ file) ⊎ ((p.file == file) ≡ false) × (p.file ≢ file) → (p.file ≡ file) × (at ≤ p.at)
    from (inl same) = (same.1, let there : nat_le at p.at ≡ true = sym (ap (λ (b : Bool). cond b (nat_le at p.at) false) same.0) ∙ is in grind (arith, there, nat_tests))
    from (inr other) = absurd (differ (sym (ap (λ (b : Bool). cond b (nat_le at p.at) false) other.0) ∙ is))

is_there_behind : (file at : ℕ) (p : Pointer) → p.file ≡ file → at ≤ p.at → is_behind file at p ≡ true
is_there_behind file at p same past = from (eqb_tells p.file file)
  where
    here : nat_le at p.at ≡ true
    here = grind (arith, past, nat_tests)

    from : ((p.file == file) ≡ true) × (p.file ≡ file) ⊎ ((p.file == file) ≡ false) × (p.file ≢ file) → is_behind file at p ≡ true
    from (inl is) = ap (λ (b : Bool). cond b (nat_le at p.at) false) is.0 ∙ here
    from (inr other) = absurd (other.1 same)

-- a pointer that waits goes as far after the beginning of the next file's frame
goes : (w : Writer) (p : Pointer) → IsWaiting w p → gone w p ≡ record { file = w.file + 1; at = 17 + (p.at - (w.gate + 1)); length = p.length }
goes w p waits = ap (λ (b : Bool). cond b (record p { file = w.file + 1; at = 17 + (p.at - (w.gate + 1)) }) p) (is_there_behind w.file (w.gate + 1) p waits.0 (omega (arith, waits.1)))

-- one that does not wait stays
stays : (w : Writer) (p : Pointer) → (IsWaiting w p → ⊥) → gone w p ≡ p
stays w p isnt = from (is_behind w.file (w.gate + 1) p) refl
  where
    from : (b : Bool) → is_behind w.file (w.gate + 1) p ≡ b → gone w p ≡ p
    from true is = let both = behind_is w.file (w.gate + 1) p is in absurd (isnt (both.0, omega (arith, both.1)))
    from false is = ap (λ (b : Bool). cond b (record p { file = w.file + 1; at = 17 + (p.at - (w.gate + 1)) }) p) is

gone_length : (w : Writer) (p : Pointer) → (gone w p).length ≡ p.length
gone_length w p = from (is_behind w.file (w.gate + 1) p)
  where
    from : (b : Bool) → (cond b (record p { file = w.file + 1; at = 17 + (p.at - (w.gate + 1)) }) p).length ≡ p.length
    from true = refl
    from false = refl

gone_file : (w : Writer) (p : Pointer) → ((gone w p).file ≡ p.file) ⊎ ((gone w p).file ≡ w.file + 1)
gone_file w p = from (is_behind w.file (w.gate + 1) p)
  where
    from : (b : Bool) → let q = cond b (record p { file = w.file + 1; at = 17 + (p.at - (w.gate + 1)) }) p in (q.file ≡ p.file) ⊎ (q.file ≡ w.file + 1)
    from true = inr refl
    from false = inl refl

gone_low : (w : Writer) (p : Pointer) (least : ℕ) → least ≤ p.file → least ≤ w.file + 1 → least ≤ (gone w p).file
gone_low w p least low later = from (is_behind w.file (w.gate + 1) p)
  where
    from : (b : Bool) → least ≤ (cond b (record p { file = w.file + 1; at = 17 + (p.at - (w.gate + 1)) }) p).file
    from true = later
    from false = low

-- the pointer that went there
was_gone : (f : Pointer → Pointer) (known : Known) (q : Pointer) (event : Content) → StandsIn (map (λ (k : Pointer × Content). (f k.0, k.1)) known) q event → (p : Pointer) × StandsIn known p event × (q ≡ f p)
was_gone f [] q event stands = absurd stands
was_gone f (k ∷ known) q event (inl same) = (k.0, inl (ap (λ (x : Pointer × Content). let pair : Pointer × Content = (k.0, x.1) in pair) same), sym (ap (λ (x : Pointer × Content). x.0) same))
was_gone f (k ∷ known) q event (inr older) = let was = was_gone f known q event older in (was.0, inr was.1, was.2)

module _ (t u : Told) (w : Writer) (s : State) (records : List Rec) (disk : OnDisk t w s records) (changes : Changes (Log (w.file + 1)) IsBlank 1 t u) (low : w.gate < 2 ^ 63) where
  same_file : (n : ℕ) → n ≢ w.file + 1 → u.reads (Log n) ≡ t.reads (Log n)
  same_file n other = (changes.others (Log n) (other_log n (w.file + 1) other)).1

  -- nothing was settled in the next file
  none_there : (n : ℕ) → n ≡ w.file + 1 → settled_in t w n ≡ []
  none_there n is = ap (λ (o : Option (List ℕ)). take (end_of w n) (bytes_of o)) (disk.none n (omega (arith, is))) ∙ take-nil (end_of w n)

  -- what is settled of each file grew
  grown : (n : ℕ) → (more : List ℕ) × (settled_in u (next_of w) n ≡ settled_in t w n ++ more)
  grown n = from (eqb_tells n w.file) (eqb_tells n (w.file + 1))
    where
      bytes : List ℕ
      bytes = file_of disk.birth w.file disk.frames

      long : length bytes ≤ 2 ^ 64 - 1
      long = omega (arith, length-append (header disk.birth w.file ++ opened disk.frames) (0 ∷ []), disk.rest.offset, low)

      own : n ≡ w.file → settled_in u (next_of w) n ≡ settled_part disk.birth w.file disk.frames ++ 0 ∷ []
      own is =
          ap (λ (m : ℕ). take m (bytes_of (u.reads (Log n)))) (end_other (next_of w) n (λ same. absurd (omega (arith, is, same))))
          ∙ (ap (λ (o : Option (List ℕ)). take (2 ^ 64 - 1) (bytes_of o)) (same_file n (λ same. absurd (omega (arith, is, same))) ∙ (ap (λ (m : ℕ). t.reads (Log m)) is ∙ disk.rest.reads))
          ∙ take_all (2 ^ 64 - 1) bytes long)

      from : ((n == w.file) ≡ true) × (n ≡ w.file) ⊎ ((n == w.file) ≡ false) × (n ≢ w.file) → ((n == w.file + 1) ≡ true) × (n ≡ w.file + 1) ⊎ ((n == w.file + 1) ≡ false) × (n ≢ w.file + 1)
          → (more : List ℕ) × (settled_in u (next_of w) n ≡ settled_in t w n ++ more)
      from (inl here) next = (0 ∷ [], own here.1 ∙ sym (ap (λ (l : List ℕ). l ++ 0 ∷ []) (settled_own t w disk.birth n disk.frames here.1 disk.rest)))
      from (inr other) (inl next) = (settled_in u (next_of w) n, sym (ap (λ (l : List ℕ). l ++ settled_in u (next_of w) n) (none_there n next.1)))
      from (inr other) (inr apart) = (
        [],
        ap (λ (m : ℕ). take m (bytes_of (u.reads (Log n)))) (end_other (next_of w) n apart.1)
            ∙ (ap (λ (o : Option (List ℕ)). take (2 ^ 64 - 1) (bytes_of o)) (same_file n apart.1)
            ∙ (sym (ap (λ (m : ℕ). take m (bytes_of (t.reads (Log n)))) (end_other w n other.1))
            ∙ sym (append-nil (settled_in t w n)))),
      )

  settled_still : (p : Pointer) (event : Content) → PutAt (settled_in t w p.file) p event → PutAt (settled_in u (next_of w) p.file) p event
  settled_still p event at = subst (λ (l : List ℕ). PutAt l p event) (sym (grown p.file).1) (put_grows (settled_in t w p.file) (grown p.file).0 p event at)

  -- an event is there where its pointer went
  there_still : (p : Pointer) (event : Content) → IsThere t w p event → IsThere u (next_of w) (gone w p) event
  there_still p event (inl at) = subst (λ (q : Pointer). IsThere u (next_of w) q event) (sym (stays w p (not_waiting t w p event at))) (inl (settled_still p event at))
  there_still p event (inr (waits, put)) =
      subst (λ (q : Pointer). IsThere u (next_of w) q event) (sym (goes w p waits))
      (inr (
        (refl, omega arith),
        record { txn = put.txn; before = put.before; behind = put.behind; split = put.split; place = omega (arith, put.place); long = put.long; fields = put.fields; limits = put.limits },
      ))

  -- and one of its transaction's own
  own_still : (txn : ℕ) (p : Pointer) → IsOwn t w txn p → IsOwn u (next_of w) txn (gone w p)
  own_still txn p (event, inl at) =
      subst (λ (q : Pointer). IsOwn u (next_of w) txn q) (sym (stays w p (not_waiting t w p event at.0)))
      (event, inl (subst (λ (l : List ℕ). PutBy l txn p event) (sym (grown p.file).1) (by_grows (settled_in t w p.file) (grown p.file).0 txn p event at)))
  own_still txn p (event, inr (waits, (put, of))) =
      subst (λ (q : Pointer). IsOwn u (next_of w) txn q) (sym (goes w p waits)) (
        event,
        inr (
          (refl, omega arith),
          (record { txn = put.txn; before = put.before; behind = put.behind; split = put.split; place = omega (arith, put.place); long = put.long; fields = put.fields; limits = put.limits }, of),
        ),
      )

  own_each : (txn : ℕ) (ps : List Pointer) → AllByRecursion (λ p. IsOwn t w txn p) ps → AllByRecursion (λ p. IsOwn u (next_of w) txn p) (map (gone w) ps)
  own_each txn [] all = tt
  own_each txn (p ∷ ps) all = (own_still txn p all.0, own_each txn ps all.1)

  own_all : (txn : ℕ) (o : Option Open) → AllByRecursion (λ p. IsOwn t w txn p) (pointers_of o) → AllByRecursion (λ p. IsOwn u (next_of w) txn p) (pointers_of (option_map (moved_open w.file (w.gate + 1) (w.file + 1) 17) o))
  own_all txn None all = tt
  own_all txn (Some o) all = of_list o.listed all
    where
      of_list : (listed : Listed) → AllByRecursion (λ p. IsOwn t w txn p) (puts_of listed) → AllByRecursion (λ p. IsOwn u (next_of w) txn p) (puts_of (moved w.file (w.gate + 1) (w.file + 1) 17 listed))
      of_list (Takes numbers) all = tt
      of_list (Puts pointers) all = own_each txn pointers all

  -- what does not wait stays where it is
  sure_still : (p : Pointer) (event : Content) → (IsWaiting w p → ⊥) → IsThere t w p event → IsThere u (next_of w) p event
  sure_still p event isnt (inl at) = inl (settled_still p event at)
  sure_still p event isnt (inr waits) = absurd (isnt waits.0)

  -- and does not wait in the next file
  sure_written : (p : Pointer) (event : Content) → (IsWaiting w p → ⊥) → IsThere t w p event → IsWaiting (next_of w) p → ⊥
  sure_written p event isnt (inl at) waits = no_put p event (subst (λ (l : List ℕ). PutAt l p event) (none_there p.file waits.0) at)
  sure_written p event isnt (inr there) waits = absurd (isnt there.0)

  -- another file than the next one is still
  still_there : (n : ℕ) → n ≢ w.file + 1 → (n ≢ w.file → IsStill t n) → IsStill u n
  still_there n other was = (changes.others (Log n) (other_log n (w.file + 1) other)).0 ∙ (before (eqb_tells n w.file) ∙ ap settle_entry (sym (same_file n other)))
    where
      before : ((n == w.file) ≡ true) × (n ≡ w.file) ⊎ ((n == w.file) ≡ false) × (n ≢ w.file) → IsStill t n
      before (inl own) = subst (λ (m : ℕ). IsStill t m) (sym own.1) (disk.rest.durable ∙ ap settle_entry (sym disk.rest.reads))
      before (inr isnt) = was isnt.1

  -- and so is the file to which a pointer went
  gone_still : (p : Pointer) (event : Content) → IsThere t w p event → (gone w p).file ≢ w.file + 1 → (p.file ≢ w.file → IsStill t p.file) → IsStill u (gone w p).file
  gone_still p event (inl at) other was =
      let same : gone w p ≡ p = stays w p (not_waiting t w p event at) in
      subst (λ (q : Pointer). IsStill u q.file) (sym same) (still_there p.file (subst (λ (q : Pointer). q.file ≢ w.file + 1) same other) was)
  gone_still p event (inr waits) other was = absurd (other (ap (λ (q : Pointer). q.file) (goes w p waits.0)))

  -- what is kept of a reading is still a piece of its file
  pub piece_still : IsPieceOf w.kept (settled_in t w) → IsPieceOf w.kept (settled_in u (next_of w))
  piece_still piece = piece_grows w.kept (settled_in t w) (settled_in u (next_of w)) grown piece

-- what is known then: where each pointer went, and what is settled
abbrev pub known_then : Writer → Known → Known → Known
known_then w settled known = known_moved w.file (w.gate + 1) (w.file + 1) 17 known ++ settled

placed_next : (told told' : Option Told) (w : Writer) (s : State) (settled known : Known) → w.gate < 2 ^ 63 → Waits told w s → Tells told told' (Changes (Log (w.file + 1)) IsBlank 1) → ArePlaced told w settled known → ArePlaced told' (next_of w) settled (known_then w settled known)
placed_next told told' w s settled known low waits changes are = record {
  long = λ q event in_more. long q event (in_either moved settled q event in_more);
  there = λ u is q event in_more. there u is q event (in_either moved settled q event in_more);
  still = λ u is q event in_more other. still u is q event other (in_either moved settled q event in_more);
  piece = λ u is. let b = was u is in piece b.0 u b.1 b.2 (are.piece b.0 b.1);
  within = λ p event sure. grows_behind moved settled p event sure;
  written = λ u is p event sure in_next.
      let b = was u is in
      sure_written b.0 u w s waits.records (waits.disk b.0 b.1) b.2 low p event (are.written b.0 b.1 p event sure) (are.there b.0 b.1 p event (are.within p event sure)) in_next;
  needing = λ u is least laid needs.
      let b = was u is in
      let before : AreNeeded b.0 least laid = needed_less u b.0 least laid (λ folder left n. subst (λ (e : Entry). Allows e (folder (Check n))) (sym (b.2.others (Check n) refl).0) (left n)) needs in
      not_below least (are.needing b.0 b.1 least laid before);
}
  where
    moved : Known
    moved = known_moved w.file (w.gate + 1) (w.file + 1) 17 known

    was : (u : Told) → told' ≡ Some u → (t : Told) × (told ≡ Some t) × Changes (Log (w.file + 1)) IsBlank 1 t u
    was u is = back told told' (Changes (Log (w.file + 1)) IsBlank 1) changes u is

    piece : (t u : Told) → told ≡ Some t → Changes (Log (w.file + 1)) IsBlank 1 t u → IsForgotten w known ⊎ IsPieceOf w.kept (settled_in t w) → IsForgotten (next_of w) (known_then w settled known) ⊎ IsPieceOf w.kept (settled_in u (next_of w))
    piece t u told_is blank (inl (before, none)) = inl (omega (arith, before), λ q event in_more same. other q event (in_either moved settled q event in_more) same)
      where
        other : (q : Pointer) (event : Content) → StandsIn moved q event ⊎ StandsIn settled q event → q.file ≢ w.kept.file
        other q event (inl there) same =
            let p = was_gone (gone w) known q event there in
            by (gone_file w p.0) (sym (ap (λ (x : Pointer). x.file) p.2) ∙ same) (none p.0 event p.1)
          where
            by : {n m : ℕ} → (n ≡ m) ⊎ (n ≡ w.file + 1) → n ≡ w.kept.file → (m ≢ w.kept.file) → ⊥
            by (inl is) at isnt = isnt (sym is ∙ at)
            by (inr is) at isnt = absurd (omega (arith, before, is, at))
        other q event (inr sure) same = none q event (are.within q event sure) same
    piece t u told_is blank (inr is) = inr (piece_still t u w s waits.records (waits.disk t told_is) blank low is)

    not_below : (least : ℕ) → AreNotBelow least w.file known → AreNotBelow least (w.file + 1) (known_then w settled known)
    not_below least below = record { own = omega (arith, below.own); each = λ q event in_more. each q event (in_either moved settled q event in_more) }
      where
        each : (q : Pointer) (event : Content) → StandsIn moved q event ⊎ StandsIn settled q event → least ≤ q.file
        each q event (inl there) =
            let p = was_gone (gone w) known q event there in
            subst (λ (x : Pointer). least ≤ x.file) (sym p.2) (gone_low w p.0 least (below.each p.0 event p.1) (omega (arith, below.own)))
        each q event (inr sure) = below.each q event (are.within q event sure)

    long : (q : Pointer) (event : Content) → StandsIn moved q event ⊎ StandsIn settled q event → size event ≡ q.length
    long q event (inl there) =
        let p = was_gone (gone w) known q event there in
        are.long p.0 event p.1 ∙ (sym (gone_length w p.0) ∙ ap (λ (x : Pointer). x.length) (sym p.2))
    long q event (inr sure) = are.long q event (are.within q event sure)

    still : (u : Told) → told' ≡ Some u → (q : Pointer) (event : Content) → q.file ≢ w.file + 1 → StandsIn moved q event ⊎ StandsIn settled q event → IsStill u q.file
    still u is q event other (inl in_moved) =
        let b = was u is in
        let p = was_gone (gone w) known q event in_moved in
        subst (λ (x : Pointer). IsStill u x.file) (sym p.2)
        (gone_still b.0 u w s waits.records (waits.disk b.0 b.1) b.2 low p.0 event (are.there b.0 b.1 p.0 event p.1) (subst (λ (x : Pointer). x.file ≢ w.file + 1) p.2 other) (are.still b.0 b.1 p.0 event p.1))
    still u is q event other (inr sure) =
        let b = was u is in
        still_there b.0 u w s waits.records (waits.disk b.0 b.1) b.2 low q.file other (are.still b.0 b.1 q event (are.within q event sure))

    there : (u : Told) → told' ≡ Some u → (q : Pointer) (event : Content) → StandsIn moved q event ⊎ StandsIn settled q event → IsThere u (next_of w) q event
    there u is q event (inl in_moved) =
        let b = was u is in
        let p = was_gone (gone w) known q event in_moved in
        subst (λ (x : Pointer). IsThere u (next_of w) x event) (sym p.2)
        (there_still b.0 u w s waits.records (waits.disk b.0 b.1) b.2 low p.0 event (are.there b.0 b.1 p.0 event p.1))
    there u is q event (inr sure) =
        let b = was u is in
        sure_still b.0 u w s waits.records (waits.disk b.0 b.1) b.2 low q event (are.written b.0 b.1 q event sure) (are.there b.0 b.1 q event (are.within q event sure))

abbrev AreMoved : Writer → Table → Table → Type 0
AreMoved w old new = (txn : ℕ) → open_at new txn ≡ option_map (moved_open w.file (w.gate + 1) (w.file + 1) 17) (open_at old txn)

own_next : (told told' : Option Told) (w : Writer) (s : State) (old new : Table) → w.gate < 2 ^ 63 → Waits told w s → Tells told told' (Changes (Log (w.file + 1)) IsBlank 1) → AreMoved w old new → AreOwn told w old → AreOwn told' (next_of w) new
own_next told told' w s old new low waits changes moved own u is txn =
    let b = back told told' (Changes (Log (w.file + 1)) IsBlank 1) changes u is in
    subst (λ (o : Option Open). AllByRecursion (λ p. IsOwn u (next_of w) txn p) (pointers_of o)) (sym (moved txn))
    (own_all b.0 u w s waits.records (waits.disk b.0 b.1) b.2 low txn (open_at old txn) (own b.0 b.1 txn))

-- the channel goes on
pub goes_on_state : (told told' : Option Told) (old new : Logged) (s : State) → IsStateOf told old s → s.broken ≡ false → old.log.gate < 2 ^ 63 → Tells told told' (Changes (Log (old.log.file + 1)) IsBlank 1) → new.log ≡ record old.log { file = old.log.file + 1; gate = 16; started = false }
    → ((settled known more : Known) → Looks settled known old.places s → Moves old.log.file (old.log.gate + 1) (old.log.file + 1) 17 known more → Looks settled more new.places s) → AreMoved old.log old.places.opened new.places.opened → IsLogged told' new.log new.busy s → IsStateOf told' new s
goes_on_state told told' old new s is still low changes log_is places moved log =
    let more : Known = known_then old.log is.settled is.known in
    record {
      settled = is.settled;
      known = more;
      looks = places is.settled is.known more is.looks
          (λ p event stands. grows_front (known_moved old.log.file (old.log.gate + 1) (old.log.file + 1) 17 is.known) is.settled (gone old.log p) event (all_moved old.log.file (old.log.gate + 1) (old.log.file + 1) 17 is.known p event stands));
      placed = λ _. subst (λ (v : Writer). ArePlaced told' v is.settled more) (sym log_is) (placed_next told told' old.log s is.settled is.known low ((is.whole.logged still).waits still) changes (is.placed still));
      owned = λ _.
          subst (λ (v : Writer). AreOwn told' v new.places.opened) (sym log_is)
          (own_next told told' old.log s old.places.opened new.places.opened low ((is.whole.logged still).waits still) changes moved (is.owned still));
      whole = record {
        logged = λ _. log;
        left = λ broken. differ (sym broken ∙ still);
        sound = is.whole.sound;
        kind = is.whole.kind;
      };
    }
  where
    differ : {A : Type 0} → true ≡ false → A
    differ same = absurd (cc)
