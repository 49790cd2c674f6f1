-- A draft has what its worker asks for.
use Rattle.std.proofs.Common.{◌≡◌, ◌<◌, ◌≤◌, ℕ, List, [], ◌∷◌, All, length, get_or, map, sym, ap, subst, arith}
use Rattle.std.proofs.lemmas.List.Elements.{All-cons, All-head, All-map, All-nil, All-tail}
use Rattle.source_worker.specs.Workers.{HasLimit}
use Rattle.source_worker.specs.declared.ends.SessionRules.{SessionRules}
use Rattle.selectors.specs.declared.selector.Selector.{Selector}
use Rattle.selectors.specs.declared.selector.Selector.TheVariants.{Replicating, Multiplexing}
use Rattle.source_put.specs.Accepts.{NamesBelow}
use Rattle.source_put.specs.declared.chain.HostNames.{HostNames}
use Rattle.agent_plan.specs.Values.{seen_pair}
use Rattle.agent_plan.specs.declared.plan.SourcePlan.{SourcePlan}
use Rattle.agent_plan.specs.declared.plan.SourceKind.{SourceKind}
use Rattle.agent_plan.specs.declared.plan.SourceKind.TheVariants.{Netcat, Avro, Stdin}
use Rattle.plan_laws.specs.Limits.{IsSourceLimited}
use Rattle.plan_laws.specs.Names.{IsWithin}
use Rattle.agent_drafts.specs.declared.draft.SourceDraft.{SourceDraft}
use Rattle.agent_drafts.specs.Copies.{IsSameSelector}
use Rattle.agent_drafts.specs.Drafts.{AreRules, IsDraft, IsDraftAt, objects_at}
use Rattle.agent_drafts.specs.Fits.{IsFit}

-- ---- what is true of what is seen of each item

unmapped : {A V : Type 0} (seen : A → V) (P : V → Type 0) (xs : List A) → All P (map seen xs) → All (λ x. P (seen x)) xs
unmapped seen P [] all = All-nil (λ x. P (seen x))
unmapped seen P (x ∷ xs) all =
    All-cons (λ x. P (seen x)) x xs (All-head P (seen x) (map seen xs) all) (unmapped seen P xs (All-tail P (seen x) (map seen xs) all))

same_each : {A V : Type 0} (seen : A → V) (P : V → Type 0) (xs ys : List A) → map seen ys ≡ map seen xs → All (λ x. P (seen x)) xs → All (λ y. P (seen y)) ys
same_each seen P xs ys same all = unmapped seen P ys (subst (All P) (sym same) (All-map P seen xs all))

-- ---- selectors

same_named : (s t : Selector) (count : ℕ) → IsSameSelector s t → NamesBelow s count → NamesBelow t count
same_named (Replicating channels optional) (Replicating other copies) count is named =
    (subst (λ (n : ℕ). n ≤ count) (sym is.0) named.0, subst (All (λ (n : ℕ). n < count)) (sym is.1) named.1)
same_named (Replicating channels optional) (Multiplexing header mapping default others) count is named = absurd is
same_named (Multiplexing header mapping default others) (Replicating channels optional) count is named = absurd is
same_named (Multiplexing header mapping default optional) (Multiplexing copy maps rest others) count is named =
    let P = λ (pair : List ℕ × List ℕ). All (λ (n : ℕ). n < count) pair.1 in (
      same_each seen_pair P mapping.items maps.items is.1 named.0,
      subst (All (λ (n : ℕ). n < count)) (sym is.2) named.1,
      same_each seen_pair P optional.items others.items is.3 named.2,
    )

-- ---- rules

limited : (kind : SourceKind) (rules : SessionRules) → AreRules kind rules → IsSourceLimited kind → HasLimit rules
limited (Netcat bind port max_line ack threads) rules is limits = subst HasLimit (sym is) (let low = limits.1.0 in omega arith, limits.1.1)
limited (Avro bind port threads) rules is limits = subst HasLimit (sym is) tt
limited (Stdin max_line ack) rules is limits = subst HasLimit (sym is) (let low = limits.0 in omega arith, limits.1)

-- ---- drafts

module _ {B : Type 0} (count : ℕ) (draft : SourceDraft B) where
  fits : (source : SourcePlan) (own : List B) (names : HostNames) → IsDraft source own names draft → IsWithin count source → IsSourceLimited source.kind → IsFit count draft
  fits source own names is within limits = record {
    max = limited source.kind draft.rules is.rules limits;
    few = is.few;
    there = subst (All (λ (n : ℕ). n < count)) (sym is.channels) within.0;
    named = subst (NamesBelow draft.selector) (sym (ap length is.channels)) (same_named source.selector draft.selector (length source.channels.items) is.selector within.1);
  }

  -- a draft of any source within its limits has what its worker asks for
  pub fits_at : (sources : List SourcePlan) (objects : List B) (names : List HostNames) → IsDraftAt sources objects names draft → All (IsWithin count) sources → All (λ (s : SourcePlan). IsSourceLimited s.kind) sources → IsFit count draft
  fits_at [] objects names is within limits = absurd (omega (arith, is.there))
  fits_at (s ∷ sources) objects names is within limits =
      fits (get_or (s ∷ sources) draft.source s) (objects_at (s ∷ sources) draft.source objects) (get_or names draft.source draft.host) (is.is s draft.host) (within draft.source s is.there) (limits draft.source s is.there)
