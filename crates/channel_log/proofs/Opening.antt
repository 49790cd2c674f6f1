-- The three calls that make a log file.
use Rattle.std.proofs.Common.{◌≡◌, ◌≤◌, ℕ, ◌+◌, List, [], ◌∷◌, ◌++◌, length, Option, Some, None, Result, refl, sym, ap, subst, ◌∙◌, arith, length-append}
use Rattle.std.proofs.lemmas.List.{append-nil, drop_all}
use Rattle.flume_host.specs.declared.names.Failed.{Failed}
use Rattle.flume_host.specs.declared.names.FileName.TheVariants.{Log}
use Rattle.flume_host.specs.Folder.{Gone, There, Unsure, Allows, IsImage, over, stable, touch}
use Rattle.flume_host.specs.Told.{Told, WhereTold, Tells, Does, On, Make, Write, Sync, Leads, Changes}
use Rattle.flume_host.proofs.OneFile.{At, all_done, at_after, changes_start, changes_on}
use Rattle.flume_host.proofs.Telling.{back, follows, tells_more, tells_same}
use Rattle.event_core.specs.Numbers.{u16_bytes, u32_bytes}
use Rattle.channel_log.specs.Frames.{header}
use Rattle.channel_log.specs.Writer.{IsBlank, IsReady, IsUnused, file_of}

-- a header has 16 bytes
pub length-header : (birth number : ℕ) → length (header birth number) ≡ 16
unfolding header u16_bytes u32_bytes
length-header birth number = refl

module _ (birth number : ℕ) (text : List ℕ) (is_text : text ≡ header birth number ++ 0 ∷ []) where
  size : length text ≡ 17
  size = ap length is_text ∙ length-append (header birth number) (0 ∷ []) ∙ ap (λ n. n + 1) (length-header birth number)

  unmade : (file : Option (List ℕ)) → Allows Gone file → IsBlank file
  unmade None is = tt
  unmade (Some bytes) bad = absurd bad

  under_making : (file : Option (List ℕ)) → Allows (Unsure (stable [])) file → IsBlank file
  under_making None is = tt
  under_making (Some bytes) may = omega (arith, may.no_longer)

  under_writing : (file : Option (List ℕ)) → Allows (There (touch 0 (length text) (stable []))) file → IsBlank file
  under_writing None bad = absurd bad
  under_writing (Some bytes) may = omega (arith, may.no_longer, size)

  abbrev pub Opens : Told → Told → Type 0
  Opens t u = Changes (Log number) IsBlank 1 t u

  -- so far, and where the calls stand
  record So (n : ℕ) (Place : Told → Type 0) (t u : Told) : Type 0 where
    since : Changes (Log number) IsBlank n t u
    place : Place u

  abbrev Made : Told → Type 0
  Made u = At u (Log number) (Some []) (There (stable []))

  abbrev Written : Told → Type 0
  Written u = At u (Log number) (Some text) (There (touch 0 (length text) (stable [])))

  more : (t u : Told) → Changes (Log number) IsBlank 0 t u → Opens t u
  more t u since = record { images = since.images; others = since.others; syncs = omega (arith, since.syncs) }

  whole : over [] 0 text ≡ text
  whole = ap (λ (l : List ℕ). text ++ l) (drop_all (0 + length text) [] (omega arith)) ∙ append-nil text

  abbrev pub Law : Option Told → Type 0
  Law o = WhereTold o (λ t. IsImage t.now t.reads)

  module _ (o0 o1 : Option Told) (unused : IsUnused o0 number) (law : Law o0) where
    at : (t : Told) → o0 ≡ Some t → At t (Log number) None Gone
    at t is = record { reads = (unused t is).0; left = (unused t is).1 }

    making : (r : Result (Unit {0}) Failed) (t u : Told) → o0 ≡ Some t → Leads (On (Log number) Make) r t u → Changes (Log number) IsBlank 0 t u
    making r t u is leads = changes_on Make r t t u (Log number) IsBlank 0 None Gone (at t is) (law t is) refl (changes_start t (Log number) IsBlank None Gone (at t is) unmade) leads under_making

    -- however the make ends, a crash leaves no such file, or one that counts as empty
    pub open1 : (r : Result (Unit {0}) Failed) → Does (On (Log number) Make) r o0 o1 → Tells o0 o1 Opens
    open1 r does = tells_more o0 o1 (Leads (On (Log number) Make) r) Opens (λ t u i0 i1 leads. more t u (making r t u i0 leads)) does

    made : Does (On (Log number) Make) all_done o0 o1 → Tells o0 o1 (So 0 Made)
    made does = tells_more o0 o1 (Leads (On (Log number) Make) all_done) (So 0 Made) (λ t u i0 i1 leads. record { since = making all_done t u i0 leads; place = at_after Make t u (Log number) None Gone (at t i0) leads }) does

    module _ (o2 : Option Told) (law1 : Law o1) (does1 : Does (On (Log number) Make) all_done o0 o1) where
      writing : (r : Result (Unit {0}) Failed) (t u v : Told) → o1 ≡ Some u → So 0 Made t u → Leads (On (Log number) (Write 0 text)) r u v → Changes (Log number) IsBlank 0 t v
      writing r t u v is so leads = changes_on (Write 0 text) r t u v (Log number) IsBlank 0 _ _ so.place (law1 u is) tt so.since leads under_writing

      -- after the make the file is there and can be written
      pub place1 : WhereTold o1 (λ u. (bytes : List ℕ) × (u.reads (Log number) ≡ Some bytes) × (0 ≤ length bytes))
      place1 u is = let b = back o0 o1 (So 0 Made) (made does1) u is in ([], b.2.place.reads, omega arith)

      -- so it is however the write of the header ends
      pub open2 : (r : Result (Unit {0}) Failed) → Does (On (Log number) (Write 0 text)) r o1 o2 → Tells o0 o2 Opens
      open2 r does = follows o0 o1 o2 (So 0 Made) (Leads (On (Log number) (Write 0 text)) r) Opens (λ t u v i0 i1 i2 so leads. more t v (writing r t u v i1 so leads)) (made does1) does

      written : Does (On (Log number) (Write 0 text)) all_done o1 o2 → Tells o0 o2 (So 0 Written)
      written does =
          follows o0 o1 o2 (So 0 Made) (Leads (On (Log number) (Write 0 text)) all_done) (So 0 Written)
          (λ t u v i0 i1 i2 so leads. record {
            since = writing all_done t u v i1 so leads;
            place = subst (λ (b : List ℕ). At v (Log number) (Some b) (There (touch 0 (length text) (stable [])))) whole (at_after (Write 0 text) u v (Log number) _ _ so.place leads);
          }) (made does1) does

      module _ (o3 : Option Told) (law2 : Law o2) (does2 : Does (On (Log number) (Write 0 text)) all_done o1 o2) where
        -- after the write of the header the file is there and can be synced
        pub place2 : WhereTold o2 (λ u. (bytes : List ℕ) × (u.reads (Log number) ≡ Some bytes))
        place2 u is = let b = back o0 o2 (So 0 Written) (written does2) u is in (text, b.2.place.reads)

        -- so it is however the sync ends
        pub open3 : (r : Result (Unit {0}) Failed) → Does (On (Log number) Sync) r o2 o3 → Tells o0 o3 Opens
        open3 r does =
            follows o0 o2 o3 (So 0 Written) (Leads (On (Log number) Sync) r) Opens
            (λ t u v i0 i1 i2 so leads. changes_on Sync r t u v (Log number) IsBlank 0 _ _ so.place (law2 u i1) tt so.since leads under_writing) (written does2) does

        -- after all three calls the file is at rest with its header and no frames
        pub begun : Does (On (Log number) Sync) all_done o2 o3 → IsReady o3 birth number 16 []
        begun does u is =
            let s = back o2 o3 (Leads (On (Log number) Sync) all_done) does u is in
            let b = back o0 o2 (So 0 Written) (written does2) s.0 s.1 in
            let last = at_after Sync s.0 u (Log number) _ _ b.2.place s.2 in
            let same : text ≡ file_of birth number [] = is_text ∙ ap (λ x. x ++ 0 ∷ []) (sym (append-nil (header birth number))) in
            record {
              each = tt;
              offset = sym (ap length (append-nil (header birth number)) ∙ length-header birth number);
              reads = last.reads ∙ ap (λ (x : List ℕ). Some x) same;
              durable = last.left ∙ ap (λ (x : List ℕ). There (stable x)) same;
            }

-- nothing was called
pub unopened : (number : ℕ) (told : Option Told) → IsUnused told number → Tells told told (Changes (Log number) IsBlank 1)
unopened number told unused = tells_same told _ (λ t is.
    let at : At t (Log number) None Gone = record { reads = (unused t is).0; left = (unused t is).1 } in
    let start = changes_start t (Log number) IsBlank None Gone at none in
    record { images = start.images; others = start.others; syncs = omega arith })
  where
    none : (file : Option (List ℕ)) → Allows Gone file → IsBlank file
    none None is = tt
    none (Some bytes) bad = absurd bad
