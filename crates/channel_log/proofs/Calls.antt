-- The four calls of a flush, over what the disk shows.
use Rattle.std.proofs.Common.{◌≡◌, ◌≢◌, ◌≤◌, ◌⊎◌, inl, inr, ℕ, ◌+◌, List, [], ◌∷◌, ◌++◌, length, get_or, drop, Option, Some, None, IsSomeAnd, Result, sym, ◌∙◌, ap, subst, arith, append_assoc, length-append}
use Rattle.std.proofs.lemmas.List.{append-nil, take_all, take_at, drop_all, drop_at}
use Rattle.std.proofs.lemmas.Bool.{cases_eq}
use Rattle.flume_host.specs.declared.names.Failed.{Failed}
use Rattle.flume_host.specs.declared.names.FileName.TheVariants.{Log}
use Rattle.flume_host.specs.Folder.{FileState, There, Allows, MayBe, IsImage, stable, touch, over}
use Rattle.flume_host.specs.Told.{Told, WhereTold, Tells, Does, On, Write, Sync, Leads, Changes}
use Rattle.flume_host.proofs.Images.{stable_only}
use Rattle.flume_host.proofs.OneFile.{At, all_done, at_after, changes_start, changes_on}
use Rattle.flume_host.proofs.Telling.{back, follows, tells_more}
use Rattle.record_form.specs.declared.record.Rec.{Rec}
use Rattle.channel_log.specs.Frames.{IsFrame, frame_bytes, header, opened}
use Rattle.channel_log.specs.Writer.{HasFrames, IsAtRest, IsReady, LacksOrHas, file_of}
use Rattle.channel_log.proofs.Bytes.{all-push, behind, file-push, gate_torn, has_frames, opened-push}

module _ (birth number at : ℕ) (frames : List (List Rec)) (frame : List Rec) (is_frame : IsFrame frame) (piece : List ℕ) (is_piece : piece ≡ frame_bytes frame ++ 0 ∷ []) where
  abbrev front : List ℕ
  front = header birth number ++ opened frames

  abbrev before : List ℕ
  before = file_of birth number frames

  -- the file with the frame after its closed commit byte
  abbrev staged : List ℕ
  staged = front ++ 0 ∷ (frame_bytes frame ++ 0 ∷ [])

  abbrev Either : List ℕ → Type 0
  Either bytes = HasFrames birth number frames bytes ⊎ HasFrames birth number (frames ++ frame ∷ []) bytes

  module _ (t : Told) (rest : IsAtRest t birth number at frames) where
    size : length before ≡ at + 1
    size = omega (arith, rest.offset, length-append front (0 ∷ []))

    -- the frame goes after the commit byte
    pub ready_place : (bytes : List ℕ) × (t.reads (Log number) ≡ Some bytes) × (at + 1 ≤ length bytes)
    ready_place = (before, rest.reads, omega (arith, size))

    old : (bytes : List ℕ) (gate : ℕ) (after : List ℕ) → gate ≢ 1 → bytes ≡ front ++ gate ∷ after → Either bytes
    old bytes gate after closed is = inl (has_frames birth number frames bytes gate after rest.each closed is)

    new : (bytes : List ℕ) → bytes ≡ front ++ 1 ∷ (frame_bytes frame ++ 0 ∷ []) → Either bytes
    new bytes is = inr (has_frames birth number (frames ++ frame ∷ []) bytes 0 [] (all-push IsFrame frames frame rest.each is_frame) (omega arith) (is ∙ file-push birth number frames frame))

    -- at first, and while the frame is written after
    kept : (s : FileState) → ((bytes : List ℕ) → MayBe s bytes → Either bytes) → (file : Option (List ℕ)) → Allows (There s) file → IsSomeAnd file Either
    kept s each None bad = bad
    kept s each (Some bytes) may = each bytes may

    is_old : (bytes : List ℕ) → MayBe (stable before) bytes → Either bytes
    is_old bytes may = old bytes 0 [] (omega arith) (stable_only before bytes may)

    is_behind : (bytes : List ℕ) → MayBe (touch (at + 1) (length piece) (stable before)) bytes → Either bytes
    is_behind bytes may = old bytes 0 (drop (at + 1) bytes) (omega arith) (behind before bytes (at + 1) (length piece) (sym size) may ∙ append_assoc front (0 ∷ []) (drop (at + 1) bytes))

    -- while the commit byte is opened
    is_torn : (bytes : List ℕ) → MayBe (touch at 1 (stable staged)) bytes → Either bytes
    is_torn bytes may =
        let is = gate_torn front (frame_bytes frame ++ 0 ∷ []) bytes 0 at rest.offset may in
        elim (cases_eq (get_or bytes at 0) 1) [
          | inl open_gate ↦ new bytes (is ∙ ap (λ (g : ℕ). front ++ g ∷ (frame_bytes frame ++ 0 ∷ [])) open_gate)
          | inr shut ↦ old bytes (get_or bytes at 0) (frame_bytes frame ++ 0 ∷ []) shut is
        ]

    written_behind : over before (at + 1) piece ≡ staged
    written_behind =
        ap (λ (l : List ℕ). l ++ piece ++ drop (at + 1 + length piece) before) (take_all (at + 1) before (omega (arith, size)))
        ∙ ap (λ (l : List ℕ). before ++ piece ++ l) (drop_all (at + 1 + length piece) before (omega (arith, size)))
        ∙ append-nil (before ++ piece)
        ∙ append_assoc front (0 ∷ []) piece
        ∙ ap (λ (l : List ℕ). front ++ 0 ∷ l) is_piece

    written_gate : over staged at (1 ∷ []) ≡ file_of birth number (frames ++ frame ∷ [])
    written_gate =
        ap (λ (l : List ℕ). l ++ (1 ∷ []) ++ drop (at + 1) staged) (take_at front (0 ∷ (frame_bytes frame ++ 0 ∷ [])) at (sym rest.offset))
        ∙ ap (λ (l : List ℕ). front ++ (1 ∷ []) ++ l) (ap (λ (l : List ℕ). drop (at + 1) l) (sym (append_assoc front (0 ∷ []) (frame_bytes frame ++ 0 ∷ []))) ∙ drop_at before (frame_bytes frame ++ 0 ∷ []) (at + 1) size)
        ∙ append_assoc front (1 ∷ []) (frame_bytes frame ++ 0 ∷ [])
        ∙ file-push birth number frames frame

    abbrev P : Option (List ℕ) → Type 0
    P file = LacksOrHas birth number frames frame file

    abbrev Reads : Told → Type 0
    Reads u = IsImage u.now u.reads

    abbrev Place0 : Told → Type 0
    Place0 u = At u (Log number) (Some before) (There (stable before))

    abbrev Place1 : Told → Type 0
    Place1 u = At u (Log number) (Some staged) (There (touch (at + 1) (length piece) (stable before)))

    abbrev Place2 : Told → Type 0
    Place2 u = At u (Log number) (Some staged) (There (stable staged))

    abbrev Place3 : Told → Type 0
    Place3 u = At u (Log number) (Some (file_of birth number (frames ++ frame ∷ []))) (There (touch at 1 (stable staged)))

    at0 : Place0 t
    at0 = record { reads = rest.reads; left = rest.durable }

    -- the frame is written
    first : (r : Result (Unit {0}) Failed) (u : Told) → Reads t → Leads (On (Log number) (Write (at + 1) piece)) r t u → Changes (Log number) P 0 t u
    first r u reads leads = changes_on (Write (at + 1) piece) r t t u (Log number) P 0 _ _ at0 reads tt (changes_start t (Log number) P _ _ at0 (kept _ is_old)) leads (kept _ is_behind)

    at1 : (u : Told) → Leads (On (Log number) (Write (at + 1) piece)) all_done t u → Place1 u
    at1 u leads = subst (λ (b : List ℕ). At u (Log number) (Some b) (There (touch (at + 1) (length piece) (stable before)))) written_behind (at_after (Write (at + 1) piece) t u (Log number) _ _ at0 leads)

    -- and synced
    second : (r : Result (Unit {0}) Failed) (u v : Told) → Reads u → Place1 u → Changes (Log number) P 0 t u → Leads (On (Log number) Sync) r u v → Changes (Log number) P 1 t v
    second r u v reads place so_far leads = changes_on Sync r t u v (Log number) P 0 _ _ place reads tt so_far leads (kept _ is_behind)

    at2 : (u v : Told) → Place1 u → Leads (On (Log number) Sync) all_done u v → Place2 v
    at2 u v place leads = at_after Sync u v (Log number) _ _ place leads

    -- the commit byte is opened
    third : (r : Result (Unit {0}) Failed) (u v : Told) → Reads u → Place2 u → Changes (Log number) P 1 t u → Leads (On (Log number) (Write at (1 ∷ []))) r u v → Changes (Log number) P 1 t v
    third r u v reads place so_far leads = changes_on (Write at (1 ∷ [])) r t u v (Log number) P 1 _ _ place reads tt so_far leads (kept _ is_torn)

    at3 : (u v : Told) → Place2 u → Leads (On (Log number) (Write at (1 ∷ []))) all_done u v → Place3 v
    at3 u v place leads = subst (λ (b : List ℕ). At v (Log number) (Some b) (There (touch at 1 (stable staged)))) written_gate (at_after (Write at (1 ∷ [])) u v (Log number) _ _ place leads)

    -- and synced
    fourth : (r : Result (Unit {0}) Failed) (u v : Told) → Reads u → Place3 u → Changes (Log number) P 1 t u → Leads (On (Log number) Sync) r u v → Changes (Log number) P 2 t v
    fourth r u v reads place so_far leads = changes_on Sync r t u v (Log number) P 1 _ _ place reads tt so_far leads (kept _ is_torn)

    at4 : (u v : Told) → Place3 u → Leads (On (Log number) Sync) all_done u v → IsAtRest v birth number (at + length piece) (frames ++ frame ∷ [])
    at4 u v place leads =
        let last = at_after Sync u v (Log number) _ _ place leads in
        record {
          each = all-push IsFrame frames frame rest.each is_frame;
          offset = omega (arith, rest.offset, ap length is_piece, ap length (opened-push frames frame), length-append (frame_bytes frame) (0 ∷ []), length-append (opened frames) (1 ∷ frame_bytes frame), length-append (header birth number) (opened frames), length-append (header birth number) (opened (frames ++ frame ∷ [])));
          reads = last.reads;
          durable = last.left;
        }

  abbrev pub Since : ℕ → Told → Told → Type 0
  Since n t u = Changes (Log number) (λ file. LacksOrHas birth number frames frame file) n t u

  -- so far, and where the calls stand
  record So (n : ℕ) (Place : (t : Told) → IsAtRest t birth number at frames → Told → Type 0) (t u : Told) : Type 0 where
    rest : IsAtRest t birth number at frames
    since : Since n t u
    place : Place t rest u

  more : (n : ℕ) (t u : Told) → n ≤ 2 → Since n t u → Since 2 t u
  more n t u le since = record { images = since.images; others = since.others; syncs = omega (arith, le, since.syncs) }

  abbrev pub Law : Option Told → Type 0
  Law o = WhereTold o (λ t. IsImage t.now t.reads)

  module _ (o0 o1 : Option Told) (ready : IsReady o0 birth number at frames) (law : Law o0) where
    -- however the write of the frame ends, a crash leaves the old frames, or these and the new one
    pub exit1 : (r : Result (Unit {0}) Failed) → Does (On (Log number) (Write (at + 1) piece)) r o0 o1 → Tells o0 o1 (Since 2)
    exit1 r does = tells_more o0 o1 (Leads (On (Log number) (Write (at + 1) piece)) r) (Since 2) (λ t u i0 i1 leads. more 0 t u (omega arith) (first t (ready t i0) r u (law t i0) leads)) does

    after1 : Does (On (Log number) (Write (at + 1) piece)) all_done o0 o1 → Tells o0 o1 (So 0 Place1)
    after1 does = tells_more o0 o1 (Leads (On (Log number) (Write (at + 1) piece)) all_done) (So 0 Place1) (λ t u i0 i1 leads. record { rest = ready t i0; since = first t (ready t i0) all_done u (law t i0) leads; place = at1 t (ready t i0) u leads }) does

    module _ (o2 : Option Told) (law1 : Law o1) (does1 : Does (On (Log number) (Write (at + 1) piece)) all_done o0 o1) where
      -- so it is however the sync of the frame ends
      pub exit2 : (r : Result (Unit {0}) Failed) → Does (On (Log number) Sync) r o1 o2 → Tells o0 o2 (Since 2)
      exit2 r does = follows o0 o1 o2 (So 0 Place1) (Leads (On (Log number) Sync) r) (Since 2) (λ t u v i0 i1 i2 so leads. more 1 t v (omega arith) (second t so.rest r u v (law1 u i1) so.place so.since leads)) (after1 does1) does

      after2 : Does (On (Log number) Sync) all_done o1 o2 → Tells o0 o2 (So 1 Place2)
      after2 does =
          follows o0 o1 o2 (So 0 Place1) (Leads (On (Log number) Sync) all_done) (So 1 Place2)
          (λ t u v i0 i1 i2 so leads. record { rest = so.rest; since = second t so.rest all_done u v (law1 u i1) so.place so.since leads; place = at2 t so.rest u v so.place leads }) (after1 does1) does

      module _ (o3 : Option Told) (law2 : Law o2) (does2 : Does (On (Log number) Sync) all_done o1 o2) where
        -- before the commit byte is opened, the file reaches to it
        pub place2 : WhereTold o2 (λ u. (bytes : List ℕ) × (u.reads (Log number) ≡ Some bytes) × (at ≤ length bytes))
        place2 u is =
            let b = back o0 o2 (So 1 Place2) (after2 does2) u is in
            (staged, b.2.place.reads, omega (arith, b.2.rest.offset, length-append front (0 ∷ (frame_bytes frame ++ 0 ∷ []))))

        -- so it is however the write that opens the commit byte ends
        pub exit3 : (r : Result (Unit {0}) Failed) → Does (On (Log number) (Write at (1 ∷ []))) r o2 o3 → Tells o0 o3 (Since 2)
        exit3 r does = follows o0 o2 o3 (So 1 Place2) (Leads (On (Log number) (Write at (1 ∷ []))) r) (Since 2) (λ t u v i0 i1 i2 so leads. more 1 t v (omega arith) (third t so.rest r u v (law2 u i1) so.place so.since leads)) (after2 does2) does

        after3 : Does (On (Log number) (Write at (1 ∷ []))) all_done o2 o3 → Tells o0 o3 (So 1 Place3)
        after3 does =
            follows o0 o2 o3 (So 1 Place2) (Leads (On (Log number) (Write at (1 ∷ []))) all_done) (So 1 Place3)
            (λ t u v i0 i1 i2 so leads. record { rest = so.rest; since = third t so.rest all_done u v (law2 u i1) so.place so.since leads; place = at3 t so.rest u v so.place leads }) (after2 does2) does

        module _ (o4 : Option Told) (law3 : Law o3) (does3 : Does (On (Log number) (Write at (1 ∷ []))) all_done o2 o3) where
          -- so it is however the last sync ends
          pub exit4 : (r : Result (Unit {0}) Failed) → Does (On (Log number) Sync) r o3 o4 → Tells o0 o4 (Since 2)
          exit4 r does = follows o0 o3 o4 (So 1 Place3) (Leads (On (Log number) Sync) r) (Since 2) (λ t u v i0 i1 i2 so leads. fourth t so.rest r u v (law3 u i1) so.place so.since leads) (after3 does3) does

          -- after all four calls the file is at rest with the new frame
          pub flushed : Does (On (Log number) Sync) all_done o3 o4 → IsReady o4 birth number (at + length piece) (frames ++ frame ∷ [])
          flushed does u is =
              let s = back o3 o4 (Leads (On (Log number) Sync) all_done) does u is in
              let b = back o0 o3 (So 1 Place3) (after3 does3) s.0 s.1 in
              at4 b.0 b.2.rest s.0 u b.2.place s.2
