-- What is counted of a run, batch by batch.
use Rattle.std.proofs.Common.{◌≡◌, ◌+◌, ◌++◌, ◌∷◌, [], ℕ, suc, List, length, length-append, flat_map, Bool, true, false, not, if◌then◌else◌, refl, sym, ◌∙◌, ap, subst, arith, zero-add}
use Rattle.std.specs.List.{sum_by}
use Rattle.std.proofs.lemmas.List.{append-nil}
use Rattle.std.proofs.lemmas.List.Concat.{flat_map-append}
use Rattle.std.proofs.lemmas.List.Sums.{sum_by-append}
use Rattle.event_core.specs.Content.{Content}
use Rattle.md5.specs.Md5.{Holds}
use Rattle.load_gen.specs.Counted.{Feeds, IsCounted, Tells}
use Rattle.load_gen.specs.Runs.{goes_back, kept_from, lines}
use Rattle.load_gen.specs.declared.tally.Tally.{Tally}

-- what one batch more adds
abbrev added : Bool → List Content → List (List Content)
added true events = []
added false events = events ∷ []

kept_first : (b : Bool) (k : ℕ) (taken : List Content) (takes more : List (List Content)) (events : List Content) → kept_from (suc k) (takes ++ events ∷ []) ≡ kept_from (suc k) takes ++ more
    → (if b then kept_from (suc k) (takes ++ events ∷ []) else taken ∷ kept_from (suc k) (takes ++ events ∷ [])) ≡ (if b then kept_from (suc k) takes else taken ∷ kept_from (suc k) takes) ++ more
kept_first true k taken takes more events is = is
kept_first false k taken takes more events is = ap (λ (l : List (List Content)). taken ∷ l) is

kept_one : (b : Bool) (events : List Content) → (if b then [] else events ∷ []) ≡ added b events
kept_one true events = refl
kept_one false events = refl

kept_push : (k : ℕ) (takes : List (List Content)) (events : List Content) → kept_from k (takes ++ events ∷ []) ≡ kept_from k takes ++ added (goes_back (k + length takes + 1)) events
kept_push k [] events = kept_one (goes_back (k + 1)) events ∙ ap (λ (n : ℕ). added (goes_back (n + 1)) events) (omega arith)
kept_push k (taken ∷ takes) events = kept_first (goes_back (k + 1)) k taken takes (added (goes_back (k + suc (length takes) + 1)) events) events (kept_push (suc k) takes events ∙ ap (λ (n : ℕ). kept_from (suc k) takes ++ added (goes_back (n + 1)) events) (omega arith))

-- the next batch is counted
counts : (back : Bool) (takes : List (List Content)) (events : List Content) (old mid new : Tally) (count : ℕ) → Tells takes old → kept_from 0 (takes ++ events ∷ []) ≡ kept_from 0 takes ++ added back events → count ≡ length events → Feeds (not back) events old mid
    → IsCounted (not back) count mid new → Tells (takes ++ events ∷ []) new
counts true takes events old mid new count t is n f c =
    let same : kept_from 0 (takes ++ events ∷ []) ≡ kept_from 0 takes = is ∙ append-nil (kept_from 0 takes) in
    record {
      batches = c.batches ∙ ap (λ (m : ℕ). m + 1) (f.0.batches ∙ t.batches) ∙ sym (length-append takes (events ∷ []));
      committed = c.committed ∙ f.0.committed ∙ t.committed ∙ ap length (sym same);
      taken = c.taken ∙ f.0.taken ∙ t.taken ∙ ap (sum_by length) (sym same);
      digest = subst (λ d. Holds d (flat_map lines (kept_from 0 (takes ++ events ∷ [])))) (sym c.digest) (subst (Holds mid.digest) (append-nil (flat_map lines (kept_from 0 takes)) ∙ ap (flat_map lines) (sym same)) (f.1 (flat_map lines (kept_from 0 takes)) t.digest));
    }
counts false takes events old mid new count t is n f c = record {
  batches = c.batches ∙ ap (λ (m : ℕ). m + 1) (f.0.batches ∙ t.batches) ∙ sym (length-append takes (events ∷ []));
  committed = c.committed ∙ ap (λ (m : ℕ). m + 1) (f.0.committed ∙ t.committed) ∙ sym (ap length is ∙ length-append (kept_from 0 takes) (events ∷ []));
  taken = c.taken ∙ (λ i. (f.0.taken ∙ t.taken) i + n i) ∙ sym (ap (sum_by length) is ∙ sum_by-append length (kept_from 0 takes) (events ∷ []) ∙ ap (λ (m : ℕ). sum_by length (kept_from 0 takes) + m) (zero-add (length events)));
  digest = subst (λ d. Holds d (flat_map lines (kept_from 0 (takes ++ events ∷ [])))) (sym c.digest) (subst (Holds mid.digest) digest (f.1 (flat_map lines (kept_from 0 takes)) t.digest));
}
  where
    digest : flat_map lines (kept_from 0 takes) ++ lines events ≡ flat_map lines (kept_from 0 (takes ++ events ∷ []))
    digest = sym (ap (flat_map lines) is ∙ flat_map-append lines (kept_from 0 takes) (events ∷ []) ∙ ap (λ (l : List ℕ). flat_map lines (kept_from 0 takes) ++ l) (append-nil (lines events)))

-- so it is counted, whether it is kept or not
pub counts_batch : (kept : Bool) (takes : List (List Content)) (events : List Content) (old mid new : Tally) (count : ℕ) → kept ≡ not (goes_back (old.batches + 1)) → Tells takes old → count ≡ length events → Feeds kept events old mid → IsCounted kept count mid new → Tells (takes ++ events ∷ []) new
counts_batch kept takes events old mid new count is t n f c =
    let back = goes_back (old.batches + 1) in
    let push : kept_from 0 (takes ++ events ∷ []) ≡ kept_from 0 takes ++ added back events = kept_push 0 takes events ∙ ap (λ (m : ℕ). kept_from 0 takes ++ added (goes_back (m + 1)) events) (zero-add (length takes) ∙ sym t.batches) in
    counts back takes events old mid new count t push n (subst (λ (b : Bool). Feeds b events old mid) is f) (subst (λ (b : Bool). IsCounted b count mid new) is c)
