-- Drafts of the workers of standard input take lines.
use Rattle.std.proofs.Common.{◌+◌, ◌<◌, ℕ, List, [], ◌∷◌, ◌++◌, All, length, get_or, map, replicate, sym, subst, arith, append_assoc}
use Rattle.std.proofs.lemmas.List.{length-append}
use Rattle.std.proofs.lemmas.List.Elements.{All-append, All-cons, All-head, All-nil, All-replicate, All-tail}
use Rattle.agent_plan.specs.declared.plan.SourcePlan.{SourcePlan}
use Rattle.agent_plan.specs.declared.plan.SourceKind.{SourceKind}
use Rattle.agent_plan.specs.declared.plan.SourceKind.TheVariants.{Netcat, Avro, Stdin}
use Rattle.source_put.specs.declared.chain.HostNames.{HostNames}
use Rattle.source_worker.specs.declared.ends.SessionRules.{SessionRules}
use Rattle.agent_outside.specs.Ends.{places_by}
use Rattle.agent_drafts.specs.declared.draft.SourceDraft.{SourceDraft}
use Rattle.agent_drafts.specs.Drafts.{AreDrafts, AreRules, IsDraftAt, TakesLines, inputs_by, inputs_of}

-- sources of this kind take lines
abbrev TakesOnlyLines : SourceKind → Type 0
TakesOnlyLines kind = (rules : SessionRules) → AreRules kind rules → TakesLines rules

-- the source at this place does
abbrev IsInput : List SourcePlan → ℕ → Type 0
IsInput sources place = (source : SourcePlan) → TakesOnlyLines (get_or sources place source).kind

own_input : (kind : SourceKind) (P : ℕ → Type 0) (place : ℕ) → (TakesOnlyLines kind → P place) → All P (replicate (inputs_by kind) place)
own_input (Netcat bind port max_line ack threads) P place is = All-nil P
own_input (Avro bind port threads) P place is = All-nil P
own_input (Stdin max_line ack) P place is = All-replicate P 1 place (is (λ rules are. subst TakesLines (sym are) tt))

input_after : (front sources : List SourcePlan) (source : SourcePlan) → TakesOnlyLines source.kind → IsInput (front ++ source ∷ sources) (length front)
input_after [] sources source takes = λ other. takes
input_after (s ∷ front) sources source takes = input_after front sources source takes

each_input : (front sources : List SourcePlan) → All (IsInput (front ++ sources)) (places_by inputs_of (length front) sources)
each_input front [] = All-nil (IsInput (front ++ []))
each_input front (source ∷ sources) =
    let all = front ++ source ∷ sources in
    All-append (IsInput all) (replicate (inputs_of source) (length front)) (places_by inputs_of (length front + 1) sources)
    (own_input source.kind (IsInput all) (length front) (λ takes. input_after front sources source takes))
    (subst (λ (x : List SourcePlan × ℕ). All (IsInput x.0) (places_by inputs_of x.1 sources)) (λ i. (append_assoc front (source ∷ []) sources i, length-append front (source ∷ []) i)) (each_input (front ++ source ∷ []) sources))

module _ {B : Type 0} (sources : List SourcePlan) (objects : List B) (names : List HostNames) where
  one_lined : (draft : SourceDraft B) → IsInput sources draft.source → IsDraftAt sources objects names draft → TakesLines draft.rules
  one_lined draft input is = by sources input is.there (λ s. (is.is s draft.host).rules)
    where
      by : (ss : List SourcePlan) → IsInput ss draft.source → draft.source < length ss → ((s : SourcePlan) → AreRules (get_or ss draft.source s).kind draft.rules) → TakesLines draft.rules
      by [] input there rules = absurd (omega arith)
      by (s ∷ ss) input there rules = input s draft.rules (rules s)

  each_lined : (drafts : List (SourceDraft B)) → All (IsInput sources) (map (λ (d : SourceDraft B). d.source) drafts) → All (IsDraftAt sources objects names) drafts
      → All (λ (d : SourceDraft B). TakesLines d.rules) drafts
  each_lined [] inputs are = All-nil (λ (d : SourceDraft B). TakesLines d.rules)
  each_lined (draft ∷ drafts) inputs are =
      let rest = map (λ (d : SourceDraft B). d.source) drafts in
      All-cons (λ (d : SourceDraft B). TakesLines d.rules) draft drafts
      (one_lined draft (All-head (IsInput sources) draft.source rest inputs) (All-head (IsDraftAt sources objects names) draft drafts are))
      (each_lined drafts (All-tail (IsInput sources) draft.source rest inputs) (All-tail (IsDraftAt sources objects names) draft drafts are))

  -- each draft of a worker of standard input takes lines
  pub lined : (drafts : List (SourceDraft B)) → AreDrafts inputs_of sources objects names drafts → All (λ (d : SourceDraft B). TakesLines d.rules) drafts
  lined drafts are = each_lined drafts (subst (All (IsInput sources)) (sym are.order) (each_input [] sources)) are.each
