-- The calls by which a checkpoint's file is made.
use Rattle.std.proofs.Common.{◌⊎◌, inl, inr, ◌≡◌, ◌≤◌, ℕ, suc, ◌+◌, List, [], ◌∷◌, ◌++◌, length, get_or, drop, Option, Some, None, Result, Ok, Err, refl, sym, ap, ◌∙◌, arith}
use Rattle.std.specs.Prelude.{IsSomeAnd, OnOk}
use Rattle.std.specs.List.{AllByRecursion}
use Rattle.std.proofs.lemmas.Bool.{cases_eq}
use Rattle.std.proofs.lemmas.List.{append-nil, drop_all, length-append, take_all}
use Rattle.std.proofs.lemmas.Grind.{same_number_lists}
use Rattle.flume_host.proofs.Images.{stable_only}
use Rattle.flume_host.specs.declared.names.Failed.{Failed}
use Rattle.flume_host.specs.declared.names.FileName.TheVariants.{Check}
use Rattle.flume_host.specs.Folder.{Allows, Gone, IsClear, IsImage, MayBe, There, Unsure, over, stable, touch}
use Rattle.flume_host.specs.Told.{Changes, Does, Leads, Make, On, Sync, Tells, Told, WhereTold, Write}
use Rattle.flume_host.proofs.OneFile.{At, all_done, at_after, changes_on, changes_start}
use Rattle.flume_host.proofs.Telling.{back, follows, tells_more, tells_same}
use Rattle.checkpoint.proofs.Joining.{changes_then}
use Rattle.checkpoint.specs.Files.{IsBegun, IsKept, IsSoFar, IsUnused, IsWritten, Spool}
use Rattle.checkpoint.specs.Newest.{IsPassed, IsPassedFile}

abbrev pub Law : Option Told → Type 0
Law o = WhereTold o (λ t. IsImage t.now t.reads)

-- the commit byte is not among what was touched
clear_front : (touched : List (ℕ × ℕ)) → AllByRecursion (λ range. 1 ≤ range.0) touched → IsClear touched 0
clear_front [] behind = tt
clear_front (range ∷ touched) behind = (inl (omega (arith, behind.0)), clear_front touched behind.1)

closed_bytes : (touched : List (ℕ × ℕ)) (longest : ℕ) (bytes : List ℕ) → AllByRecursion (λ range. 1 ≤ range.0) touched → MayBe (record { kept = 0 ∷ []; touched = touched; longest = longest }) bytes → IsPassed bytes
closed_bytes touched longest bytes behind may =
    let zero : get_or bytes 0 0 ≡ 0 = may.same 0 (omega arith) (clear_front touched behind) in
    inr (λ one. omega (arith, zero, one))

closed_file : (touched : List (ℕ × ℕ)) (longest : ℕ) (file : Option (List ℕ)) → AllByRecursion (λ range. 1 ≤ range.0) touched → Allows (There (record { kept = 0 ∷ []; touched = touched; longest = longest })) file → IsPassedFile file
closed_file touched longest None behind may = tt
closed_file touched longest (Some bytes) behind may = closed_bytes touched longest bytes behind may

-- a piece more

module _ (number : ℕ) (o0 o1 : Option Told) (law : Law o0) where
  written_at : (t : Told) (text : List ℕ) (w : IsWritten t number text) → At t (Check number) (Some (0 ∷ text)) (There (record { kept = 0 ∷ []; touched = w.touched; longest = w.longest }))
  written_at t text w = record { reads = w.reads; left = w.left }

  at_rest : (t : Told) (text : List ℕ) → IsWritten t number text → Changes (Check number) IsPassedFile 0 t t
  at_rest t text w = changes_start t (Check number) IsPassedFile _ _ (written_at t text w) (λ file. closed_file w.touched w.longest file w.behind)

  -- where a piece goes there is a file, which reaches up to it
  pub piece_place : (at : ℕ) (piece : List ℕ) → WhereTold o0 (λ t. (text : List ℕ) × IsSoFar t number at piece text) → WhereTold o0 (λ t. (was : List ℕ) × (t.reads (Check number) ≡ Some was) × (at ≤ length was))
  piece_place at piece is t told = let s = (is t told).1 in (0 ∷ s.front, s.written.reads, omega (arith, s.at_is))

  -- a crash while a piece is written leaves a file that is passed over
  pub piece_moment : (at : ℕ) (piece : List ℕ) (r : Result (Unit {0}) Failed) → WhereTold o0 (λ t. (text : List ℕ) × IsSoFar t number at piece text) → Does (On (Check number) (Write at piece)) r o0 o1
      → Tells o0 o1 (Changes (Check number) IsPassedFile 0)
  piece_moment at piece r is does = tells_more o0 o1 (Leads (On (Check number) (Write at piece)) r) (Changes (Check number) IsPassedFile 0) (λ t u i0 i1 leads.
      let s = (is t i0).1 in
      let w = s.written in
      changes_on (Write at piece) r t t u (Check number) IsPassedFile 0 _ _ (written_at t s.front w) (law t i0) tt (at_rest t s.front w) leads
      (λ file. closed_file ((at, at + length piece) ∷ w.touched) _ file (omega (arith, s.at_is), w.behind))) does

  grown : (at : ℕ) (text piece : List ℕ) → at ≡ length text + 1 → over (0 ∷ text) at piece ≡ 0 ∷ (text ++ piece)
  grown at text piece is =
      ap (λ (l : List ℕ). l ++ piece ++ drop (at + length piece) (0 ∷ text)) (take_all at (0 ∷ text) (omega (arith, is)))
      ∙ (ap (λ (l : List ℕ). (0 ∷ text) ++ piece ++ l) (drop_all (at + length piece) (0 ∷ text) (omega (arith, is))) ∙ append-nil (0 ∷ (text ++ piece)))

  added : (at : ℕ) (piece text : List ℕ) (t u : Told) → IsWritten t number text → at ≡ length text + 1 → Leads (On (Check number) (Write at piece)) all_done t u → IsWritten u number (text ++ piece)
  added at piece text t u w place leads =
      let a = at_after (Write at piece) t u (Check number) _ _ (written_at t text w) leads in
      record {
        touched = (at, at + length piece) ∷ w.touched;
        longest = _;
        behind = (omega (arith, place), w.behind);
        reads = a.reads ∙ ap (λ (l : List ℕ). Some l) (grown at text piece place);
        left = a.left;
      }

  -- what waited is written
  pub piece_added : (at : ℕ) (piece text : List ℕ) → Does (On (Check number) (Write at piece)) all_done o0 o1 → WhereTold o0 (λ t. IsSoFar t number at piece text) → WhereTold o1 (λ t. IsSoFar t number (at + length piece) [] text)
  piece_added at piece text does is u told =
      let b = back o0 o1 (Leads (On (Check number) (Write at piece)) all_done) does u told in
      let s = is b.0 b.1 in
      record {
        front = s.front ++ piece;
        written = added at piece s.front b.0 u s.written s.at_is b.2;
        at_is = omega (arith, s.at_is, length-append s.front piece);
        text_is = s.text_is ∙ sym (append-nil (s.front ++ piece));
      }

  -- a crash while the text is synced leaves a file that is passed over, with one sync at most
  pub seal_moment : (r : Result (Unit {0}) Failed) → WhereTold o0 (λ t. (text : List ℕ) × IsWritten t number text) → Does (On (Check number) Sync) r o0 o1 → Tells o0 o1 (Changes (Check number) IsPassedFile 1)
  seal_moment r is does = tells_more o0 o1 (Leads (On (Check number) Sync) r) (Changes (Check number) IsPassedFile 1) (λ t u i0 i1 leads.
      let w = (is t i0).1 in
      changes_on Sync r t t u (Check number) IsPassedFile 0 _ _ (written_at t (is t i0).0 w) (law t i0) tt (at_rest t (is t i0).0 w) leads (λ file. closed_file w.touched w.longest file w.behind)) does

  -- after a sync that succeeded no crash leaves other bytes than the closed commit byte and the text
  pub sealed : (text : List ℕ) → Does (On (Check number) Sync) all_done o0 o1 → WhereTold o0 (λ t. IsWritten t number text) → WhereTold o1 (λ t. IsKept t number (0 ∷ text))
  sealed text does is u told =
      let b = back o0 o1 (Leads (On (Check number) Sync) all_done) does u told in
      let a = at_after Sync b.0 u (Check number) _ _ (written_at b.0 text (is b.0 b.1)) b.2 in
      record { reads = a.reads; left = a.left }

  -- where the sync succeeded, the file is kept
  pub sealed_if : (r : Result (Unit {0}) Failed) → Does (On (Check number) Sync) r o0 o1 → OnOk r ((text : List ℕ) → WhereTold o0 (λ t. IsWritten t number text) → WhereTold o1 (λ t. IsKept t number (0 ∷ text)))
  sealed_if (Ok tt) does = λ text is. sealed text does is
  sealed_if (Err e) does = tt

-- one run of these calls after another

-- two runs of calls in which a crash leaves the file passed over are one such run
pub passes_on : (number a b n : ℕ) (o0 o1 o2 : Option Told) → a + b ≤ n → Tells o0 o1 (Changes (Check number) IsPassedFile a) → Tells o1 o2 (Changes (Check number) IsPassedFile b) → Tells o0 o2 (Changes (Check number) IsPassedFile n)
passes_on number a b n o0 o1 o2 less first second =
    follows o0 o1 o2 (Changes (Check number) IsPassedFile a) (Changes (Check number) IsPassedFile b) (Changes (Check number) IsPassedFile n) (λ t u v i0 i1 i2 p q.
    let c = changes_then t u v (Check number) IsPassedFile a b p q in
    record { images = c.images; others = c.others; syncs = omega (arith, less, c.syncs) }) first second

-- a call that leaves the disk alone
pub rests : (number : ℕ) (s : Spool) → Law s.told → IsBegun number s → Tells s.told s.told (Changes (Check number) IsPassedFile 0)
rests number s law is = tells_same s.told (Changes (Check number) IsPassedFile 0) (λ t told. let f = (is t told).1 in at_rest number s.told s.told law t f.front f.written)

-- what a success brings also brings what follows from it
pub ok_then : (A B : Type 0) (r : Result (Unit {0}) Failed) → (A → B) → OnOk r A → OnOk r B
ok_then A B (Ok x) more a = more a
ok_then A B (Err e) more a = tt

-- the three calls that make a file

module _ (number : ℕ) where
  unmade : (file : Option (List ℕ)) → Allows Gone file → IsPassedFile file
  unmade None is = tt
  unmade (Some bytes) bad = absurd bad

  under_making : (file : Option (List ℕ)) → Allows (Unsure (stable [])) file → IsPassedFile file
  under_making None is = tt
  under_making (Some bytes) may = inl (omega (arith, may.no_longer))

  under_writing : (file : Option (List ℕ)) → Allows (There (touch 0 1 (stable []))) file → IsPassedFile file
  under_writing None bad = tt
  under_writing (Some bytes) may = inl (omega (arith, may.no_longer))

  abbrev pub Makes : Told → Told → Type 0
  Makes t u = Changes (Check number) IsPassedFile 1 t u

  record So (n : ℕ) (Stands : Told → Type 0) (t u : Told) : Type 0 where
    since : Changes (Check number) IsPassedFile n t u
    stands : Stands u

  abbrev Made : Told → Type 0
  Made u = At u (Check number) (Some []) (There (stable []))

  abbrev First : Told → Type 0
  First u = At u (Check number) (Some (0 ∷ [])) (There (touch 0 1 (stable [])))

  more : (t u : Told) → Changes (Check number) IsPassedFile 0 t u → Makes t u
  more t u since = record { images = since.images; others = since.others; syncs = omega (arith, since.syncs) }

  module _ (o0 o1 : Option Told) (unused : IsUnused o0 number) (law : Law o0) where
    at : (t : Told) → o0 ≡ Some t → At t (Check number) None Gone
    at t is = record { reads = (unused t is).0; left = (unused t is).1 }

    making : (r : Result (Unit {0}) Failed) (t u : Told) → o0 ≡ Some t → Leads (On (Check number) Make) r t u → Changes (Check number) IsPassedFile 0 t u
    making r t u is leads = changes_on Make r t t u (Check number) IsPassedFile 0 None Gone (at t is) (law t is) refl (changes_start t (Check number) IsPassedFile None Gone (at t is) unmade) leads under_making

    -- a crash while the file is made leaves none, or one that is passed over
    pub make1 : (r : Result (Unit {0}) Failed) → Does (On (Check number) Make) r o0 o1 → Tells o0 o1 Makes
    make1 r does = tells_more o0 o1 (Leads (On (Check number) Make) r) Makes (λ t u i0 i1 leads. more t u (making r t u i0 leads)) does

    made : Does (On (Check number) Make) all_done o0 o1 → Tells o0 o1 (So 0 Made)
    made does = tells_more o0 o1 (Leads (On (Check number) Make) all_done) (So 0 Made) (λ t u i0 i1 leads. record { since = making all_done t u i0 leads; stands = at_after Make t u (Check number) None Gone (at t i0) leads }) does

    module _ (o2 : Option Told) (law1 : Law o1) (does1 : Does (On (Check number) Make) all_done o0 o1) where
      writing : (r : Result (Unit {0}) Failed) (t u v : Told) → o1 ≡ Some u → So 0 Made t u → Leads (On (Check number) (Write 0 (0 ∷ []))) r u v → Changes (Check number) IsPassedFile 0 t v
      writing r t u v is so leads = changes_on (Write 0 (0 ∷ [])) r t u v (Check number) IsPassedFile 0 _ _ so.stands (law1 u is) tt so.since leads under_writing

      -- a crash up to the write of the closed commit byte leaves no file, or one that is passed over
      pub make2 : (r : Result (Unit {0}) Failed) → Does (On (Check number) (Write 0 (0 ∷ []))) r o1 o2 → Tells o0 o2 Makes
      make2 r does = follows o0 o1 o2 (So 0 Made) (Leads (On (Check number) (Write 0 (0 ∷ []))) r) Makes (λ t u v i0 i1 i2 so leads. more t v (writing r t u v i1 so leads)) (made does1) does

      first : Does (On (Check number) (Write 0 (0 ∷ []))) all_done o1 o2 → Tells o0 o2 (So 0 First)
      first does =
          follows o0 o1 o2 (So 0 Made) (Leads (On (Check number) (Write 0 (0 ∷ []))) all_done) (So 0 First)
          (λ t u v i0 i1 i2 so leads. record { since = writing all_done t u v i1 so leads; stands = at_after (Write 0 (0 ∷ [])) u v (Check number) _ _ so.stands leads }) (made does1) does

      module _ (o3 : Option Told) (law2 : Law o2) (does2 : Does (On (Check number) (Write 0 (0 ∷ []))) all_done o1 o2) where
        -- a crash up to the sync of the closed commit byte leaves no file, or one that is passed over
        pub make3 : (r : Result (Unit {0}) Failed) → Does (On (Check number) Sync) r o2 o3 → Tells o0 o3 Makes
        make3 r does =
            follows o0 o2 o3 (So 0 First) (Leads (On (Check number) Sync) r) Makes
            (λ t u v i0 i1 i2 so leads. changes_on Sync r t u v (Check number) IsPassedFile 0 _ _ so.stands (law2 u i1) tt so.since leads under_writing) (first does2) does

        -- after the three calls the file has its closed commit byte and no text yet
        pub made_closed : Does (On (Check number) Sync) all_done o2 o3 → WhereTold o3 (λ t. IsWritten t number [])
        made_closed does u is =
            let s = back o2 o3 (Leads (On (Check number) Sync) all_done) does u is in
            let b = back o0 o2 (So 0 First) (first does2) s.0 s.1 in
            let last = at_after Sync s.0 u (Check number) _ _ b.2.stands s.2 in
            record { touched = []; longest = 1; behind = tt; reads = last.reads; left = last.left }

-- the two calls that open the commit byte

torn : (text bytes : List ℕ) → MayBe (touch 0 1 (stable (0 ∷ text))) bytes → IsPassed bytes ⊎ (bytes ≡ 1 ∷ text)
torn text [] may = absurd (omega (arith, may.no_shorter))
torn text (b ∷ bytes) may =
    let same : bytes ≡ text = same_number_lists bytes text (omega (arith, may.no_shorter, may.no_longer)) (λ k less. may.same (suc k) (omega (arith, less, may.no_longer)) (inr (omega arith), tt)) in
    elim (cases_eq b 1) [
      | inl open_gate ↦ inr (ap (λ (x : ℕ). x ∷ bytes) open_gate ∙ ap (λ (l : List ℕ). 1 ∷ l) same)
      | inr shut ↦ inl (inr shut)
    ]

module _ (number : ℕ) (text : List ℕ) where
  abbrev pub Either : Option (List ℕ) → Type 0
  Either file = IsSomeAnd file (λ bytes. IsPassed bytes ⊎ (bytes ≡ 1 ∷ text))

  under_opening : (file : Option (List ℕ)) → Allows (There (touch 0 1 (stable (0 ∷ text)))) file → Either file
  under_opening None bad = bad
  under_opening (Some bytes) may = torn text bytes may

  still_shut : (file : Option (List ℕ)) → Allows (There (stable (0 ∷ text))) file → Either file
  still_shut None bad = bad
  still_shut (Some bytes) may = inl (inr (λ one. omega (arith, one, ap (λ (l : List ℕ). get_or l 0 0) (stable_only (0 ∷ text) bytes may))))

  abbrev pub OpensGate : Told → Told → Type 0
  OpensGate t u = Changes (Check number) Either 1 t u

  record Sofar (Stands : Told → Type 0) (t u : Told) : Type 0 where
    since : Changes (Check number) Either 0 t u
    stands : Stands u

  abbrev Opened : Told → Type 0
  Opened u = At u (Check number) (Some (1 ∷ text)) (There (touch 0 1 (stable (0 ∷ text))))

  module _ (o0 o1 : Option Told) (kept : WhereTold o0 (λ t. IsKept t number (0 ∷ text))) (law : Law o0) where
    kept_at : (t : Told) → o0 ≡ Some t → At t (Check number) (Some (0 ∷ text)) (There (stable (0 ∷ text)))
    kept_at t is = record { reads = (kept t is).reads; left = (kept t is).left }

    opening : (r : Result (Unit {0}) Failed) (t u : Told) → o0 ≡ Some t → Leads (On (Check number) (Write 0 (1 ∷ []))) r t u → Changes (Check number) Either 0 t u
    opening r t u is leads = changes_on (Write 0 (1 ∷ [])) r t t u (Check number) Either 0 _ _ (kept_at t is) (law t is) tt (changes_start t (Check number) Either _ _ (kept_at t is) still_shut) leads under_opening

    -- a crash while the commit byte is opened leaves the file passed over, or open with its text
    pub open1 : (r : Result (Unit {0}) Failed) → Does (On (Check number) (Write 0 (1 ∷ []))) r o0 o1 → Tells o0 o1 OpensGate
    open1 r does = tells_more o0 o1 (Leads (On (Check number) (Write 0 (1 ∷ []))) r) OpensGate (λ t u i0 i1 leads. let c = opening r t u i0 leads in record { images = c.images; others = c.others; syncs = omega (arith, c.syncs) }) does

    written1 : Does (On (Check number) (Write 0 (1 ∷ []))) all_done o0 o1 → Tells o0 o1 (Sofar Opened)
    written1 does = tells_more o0 o1 (Leads (On (Check number) (Write 0 (1 ∷ []))) all_done) (Sofar Opened) (λ t u i0 i1 leads. record { since = opening all_done t u i0 leads; stands = at_after (Write 0 (1 ∷ [])) t u (Check number) _ _ (kept_at t i0) leads }) does

    module _ (o2 : Option Told) (law1 : Law o1) (does1 : Does (On (Check number) (Write 0 (1 ∷ []))) all_done o0 o1) where
      -- a crash up to the sync of the open commit byte leaves the file passed over, or open with its text
      pub open2 : (r : Result (Unit {0}) Failed) → Does (On (Check number) Sync) r o1 o2 → Tells o0 o2 OpensGate
      open2 r does =
          follows o0 o1 o2 (Sofar Opened) (Leads (On (Check number) Sync) r) OpensGate
          (λ t u v i0 i1 i2 so leads. changes_on Sync r t u v (Check number) Either 0 _ _ so.stands (law1 u i1) tt so.since leads under_opening) (written1 does1) does

      -- after the sync the commit byte is open before the text, and no crash leaves other bytes
      pub gate_opened : Does (On (Check number) Sync) all_done o1 o2 → WhereTold o2 (λ t. IsKept t number (1 ∷ text))
      gate_opened does u is =
          let s = back o1 o2 (Leads (On (Check number) Sync) all_done) does u is in
          let b = back o0 o1 (Sofar Opened) (written1 does1) s.0 s.1 in
          let last = at_after Sync s.0 u (Check number) _ _ b.2.stands s.2 in
          record { reads = last.reads; left = last.left }
