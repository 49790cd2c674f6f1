-- Drafts of the session workers of sources, in order.
use Rattle.std.proofs.Common.{◌≡◌, ◌∙◌, ◌<◌, ◌≤◌, ◌+◌, ℕ, suc, All, List, [], ◌∷◌, ◌++◌, length, get_or, map, replicate, take, refl, sym, ap, subst, arith, append_assoc}
use Rattle.std.proofs.lemmas.List.{append-nil, get_or_default, map-append, take_all, take_more}
use Rattle.std.proofs.lemmas.List.Elements.{All-nil}
use Rattle.std.proofs.lemmas.List.Concat.{flat_map-append}
use Rattle.selectors.specs.Choices.{places_below}
use Rattle.agent_plan.specs.declared.plan.SourcePlan.{SourcePlan}
use Rattle.source_put.specs.declared.chain.HostNames.{HostNames}
use Rattle.agent_outside.specs.Ends.{places_by}
use Rattle.agent_outside.proofs.Placing.{places_next, replicate_more}
use Rattle.agent_drafts.specs.declared.draft.SourceDraft.{SourceDraft}
use Rattle.agent_drafts.specs.Drafts.{AreDrafts, IsDraft, IsDraftAt, objects_at, turns_by}

-- the source at a place
pub draft_there : {B : Type 0} (sources : List SourcePlan) (objects own : List B) (names : List HostNames) (at : ℕ) (source : SourcePlan) (name : HostNames) (draft : SourceDraft B)
    → at < length sources → at < length names → source ≡ get_or sources at source → name ≡ get_or names at name → own ≡ objects_at sources at objects → draft.source ≡ at
    → IsDraft source own name draft → IsDraftAt sources objects names draft
draft_there {B} sources objects own names at source name draft below few found called mine same is = record {
  there = subst (λ (n : ℕ). n < length sources) (sym same) below;
  is = λ s n. subst (λ (x : SourcePlan × List B × HostNames). IsDraft x.0 x.1 x.2 draft)
      (λ i. (
        (found ∙ get_or_default sources at source s below ∙ ap (λ (k : ℕ). get_or sources k s) (sym same)) i,
        (mine ∙ ap (λ (k : ℕ). objects_at sources k objects) (sym same)) i,
        (called ∙ get_or_default names at name n few ∙ ap (λ (k : ℕ). get_or names k n) (sym same)) i,
      )) is;
}

module _ {A : Type 0} (seen : A → ℕ) (before drafts after : List A) (made : A) (is : after ≡ drafts ++ made ∷ []) where
  -- one more of a source
  pub order_more : (at n : ℕ) → seen made ≡ at → map seen drafts ≡ map seen before ++ replicate n at → map seen after ≡ map seen before ++ replicate (n + 1) at
  order_more at n same front =
      ap (map seen) is ∙ map-append seen drafts (made ∷ []) ∙ (λ i. front i ++ same i ∷ [])
      ∙ append_assoc (map seen before) (replicate n at) (at ∷ []) ∙ ap (λ (l : List ℕ). map seen before ++ l) (sym (replicate_more n at))

  -- one more draft of a source has the next place among its own
  pub turns_more : (n : ℕ) → seen made ≡ n → map seen drafts ≡ map seen before ++ places_below n → map seen after ≡ map seen before ++ places_below (n + 1)
  turns_more n same front =
      let next : suc n ≡ n + 1 = omega arith in
      ap (map seen) is ∙ map-append seen drafts (made ∷ []) ∙ (λ i. front i ++ same i ∷ [])
      ∙ append_assoc (map seen before) (places_below n) (n ∷ []) ∙ ap (λ (k : ℕ). map seen before ++ places_below k) next

-- one source more
pub turns_next : (many : SourcePlan → ℕ) (sources : List SourcePlan) (i : ℕ) (d : SourcePlan) → i < length sources
    → turns_by many (take (i + 1) sources) ≡ turns_by many (take i sources) ++ places_below (many (get_or sources i d))
turns_next many sources i d below =
    let source = get_or sources i d in
    ap (turns_by many) (take_more sources i d below)
    ∙ flat_map-append (λ (s : SourcePlan). places_below (many s)) (take i sources) (source ∷ [])
    ∙ ap (λ (l : List ℕ). turns_by many (take i sources) ++ l) (append-nil (places_below (many source)))

-- drafts of so many session workers of each source before a place
pub record AreDraftsTo {B : Type 0} (many : SourcePlan → ℕ) (sources : List SourcePlan) (at : ℕ) (objects : List B) (names : List HostNames) (drafts : List (SourceDraft B)) : Type 0 where
  pub order : map (λ (d : SourceDraft B). d.source) drafts ≡ places_by many 0 (take at sources)
  pub turns : map (λ (d : SourceDraft B). d.place) drafts ≡ turns_by many (take at sources)
  pub each : All (IsDraftAt sources objects names) drafts

module _ {B : Type 0} (many : SourcePlan → ℕ) (sources : List SourcePlan) (objects : List B) (names : List HostNames) where
  -- all drafts of a source are made, and the next source follows
  pub drafts_next : (at count : ℕ) (d : SourcePlan) (drafts after : List (SourceDraft B)) → at < length sources → count ≡ many (get_or sources at d) → AreDraftsTo many sources at objects names drafts
      → map (λ (d : SourceDraft B). d.source) after ≡ map (λ (d : SourceDraft B). d.source) drafts ++ replicate count at
      → map (λ (d : SourceDraft B). d.place) after ≡ map (λ (d : SourceDraft B). d.place) drafts ++ places_below count
      → All (IsDraftAt sources objects names) after → AreDraftsTo many sources (at + 1) objects names after
  drafts_next at count d drafts after below same are order turns each = record {
    order = order ∙ (λ i. are.order i ++ replicate (same i) at) ∙ sym (places_next many sources at d below);
    turns = turns ∙ (λ i. are.turns i ++ places_below (same i)) ∙ sym (turns_next many sources at d below);
    each = each;
  }

  -- past the last source, all drafts are made
  pub all_drafts : (at : ℕ) (drafts : List (SourceDraft B)) → length sources ≤ at → AreDraftsTo many sources at objects names drafts → AreDrafts many sources objects names drafts
  all_drafts at drafts past are =
      let all = take_all at sources past in
      record { order = are.order ∙ ap (places_by many 0) all; turns = are.turns ∙ ap (turns_by many) all; each = are.each }

  -- before the first source there are no drafts
  pub no_drafts : (drafts : List (SourceDraft B)) → drafts ≡ [] → AreDraftsTo many sources 0 objects names drafts
  no_drafts drafts none = subst (AreDraftsTo many sources 0 objects names) (sym none) (record { order = refl; turns = refl; each = All-nil (IsDraftAt sources objects names) })
