-- Headers that are written one after another.
use Rattle.std.proofs.Common.{◌≡◌, ◌<◌, ◌≤◌, ◌+◌, ◌^◌, ◌++◌, ◌∷◌, [], ℕ, List, sym, ap, ◌∙◌, arith, append_assoc}
use Rattle.std.specs.List.{flat_map}
use Rattle.std.proofs.lemmas.Grind.{flat_map-append}
use Rattle.std.proofs.lemmas.List.Concat.{flat_map-cons}
use Rattle.std.proofs.lemmas.List.Sums.{sum_by-cons}
use Rattle.std.proofs.lemmas.List.{append-nil}
use Rattle.event_core.specs.Content.{Header, counted_bytes, header_bytes, header_size, headers_size}

-- some headers are written and the rest has room
pub record Writes (start into : List ℕ) (was_len len was_room room : ℕ) (all done rest : List (List ℕ × List ℕ)) : Type 0 where
  pub whole : done ++ rest ≡ all
  pub items : into ≡ start ++ flat_map header_bytes done
  pub sizes : len + headers_size rest ≡ was_len + headers_size all
  pub fits : len + headers_size rest ≤ room
  pub kept : was_room ≤ room
  pub short : headers_size rest < 2 ^ 32

-- the next header is written, and the rest still has room
pub one_more : (start into next : List ℕ) (was_len len len' was_room room room' : ℕ) (all done rest : List Header) (h : Header) → Writes start into was_len len was_room room all done (h ∷ rest)
    → next ≡ (into ++ counted_bytes h.0) ++ counted_bytes h.1 → len' ≡ len + header_size h → room ≤ room' → Writes start next was_len len' was_room room' all (done ++ h ∷ []) rest
one_more start into next was_len len len' was_room room room' all done rest h w is longer more =
    let size : headers_size (h ∷ rest) ≡ header_size h + headers_size rest = sum_by-cons header_size h rest in
    let bytes : flat_map header_bytes (done ++ h ∷ []) ≡ flat_map header_bytes done ++ header_bytes h = flat_map-append header_bytes done (h ∷ []) ∙ ap (λ b. flat_map header_bytes done ++ b) (flat_map-cons header_bytes h [] ∙ append-nil (header_bytes h)) in
    record {
      whole = append_assoc done (h ∷ []) rest ∙ w.whole;
      items = is ∙ append_assoc into (counted_bytes h.0) (counted_bytes h.1) ∙ ap (λ i. i ++ header_bytes h) w.items ∙ append_assoc start (flat_map header_bytes done) (header_bytes h) ∙ ap (λ b. start ++ b) (sym bytes);
      sizes = omega (arith, w.sizes, size, longer);
      fits = omega (arith, w.fits, size, longer, more);
      kept = omega (arith, w.kept, more);
      short = omega (arith, w.short, size);
    }
