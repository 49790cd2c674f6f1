-- One source of a plan at most reads standard input.
use Rattle.std.proofs.Common.{◌≡◌, ◌∙◌, ◌+◌, ◌++◌, ◌||◌, ◌&&◌, ◌⊎◌, inl, inr, ℕ, suc, Bool, true, false, not, cond, List, [], ◌∷◌, All, Option, Some, None, codes, map, get_or, flat_map, max, replicate, refl, sym, ap, subst, true≢false, arith, bytes_eq}
use Rattle.std.proofs.lemmas.Bool.{false≢true}
use Rattle.std.proofs.lemmas.List.Elements.{All-head}
use Rattle.std.proofs.lemmas.Slice.Eq.{bytes_eq-Decides}
use Rattle.prop_text.specs.Pairs.{Pair}
use Rattle.prop_text.specs.Winners.{lookup}
use Rattle.channel_face.specs.Machine.{or_else}
use Rattle.agent_plan.specs.declared.plan.Plan.{Plan}
use Rattle.agent_plan.specs.declared.plan.SourceKind.{SourceKind}
use Rattle.agent_plan.specs.declared.plan.SourceKind.TheVariants.{Avro, Netcat, Stdin}
use Rattle.agent_plan.specs.declared.plan.SourcePlan.{SourcePlan}
use Rattle.agent_plan.specs.Values.{IsSourceKind, Match, SourceNamed, text_at, text_of}
use Rattle.plan_judging.specs.Agents as agents
use Rattle.plan_judging.specs.Agents.{source_claims, source_named, step_claims}
use Rattle.plan_judging.specs.Candidates.{each, nothing, ◌⊕◌}
use Rattle.plan_judging.specs.Claims.{Wish, clash, clashes, listener, source_wish}
use Rattle.plan_judging.specs.Components.{front_of, names_in, selector, source_by_kind, steps}
use Rattle.plan_judging.specs.Rows.{is_type, judged_pair, names_row, of_kind, one_fault, row, when}
use Rattle.plan_judging.specs.declared.claims.Claimed.TheVariants.{Input}
use Rattle.plan_judging.specs.declared.findings.FaultKind.TheVariants.{Clash, UnknownType}
use Rattle.plan_judging.specs.declared.rules.Rule.TheVariants as rules
use Rattle.plan_laws.proofs.Names.{Clean, both_clean}
use Rattle.source_put.specs.declared.chain.HostNames.{HostNames}
use Rattle.source_worker.specs.declared.ends.SessionRules.{SessionRules}
use Rattle.agent_outside.specs.Ends.{places_by}
use Rattle.agent_drafts.specs.Drafts.{AreDrafts, AreRules, IsDraftAt, inputs_by, inputs_of}
use Rattle.agent_drafts.specs.declared.draft.SourceDraft.{SourceDraft}
use Rattle.agent_run.specs.Causes.{limit_of, line_limit}
use Rattle.run_opening.specs.Prepared.{IsPlanned}
use Rattle.run_opening.specs.declared.seats.Seat.{Seat}
use Rattle.agent_run.proofs.Apart.{Whole, both_whole, clashes_back, each_back, plan_clear}
use Rattle.agent_run.proofs.Course.{there}
use Rattle.agent_run.proofs.Reasons.{OneSeat, most_of}

-- ---- what a source of standard input claims

abbrev input_claim : ℕ → Wish
input_claim line = record { what = Input; text = []; number = 0; line = line }

-- it claims standard input, and what its interceptors do
record ClaimsInput (claims : List Wish) : Type 0 where
  line : ℕ
  rest : List Wish
  is : claims ≡ input_claim line ∷ rest

kind_known : (netcat avro stdin : Bool) (line : ℕ) → Clean (of_kind line (when (not (netcat || avro || stdin)) UnknownType)) → netcat ≡ false → avro ≡ false → stdin ≡ true
kind_known true avro stdin line clean not_netcat not_avro = absurd (true≢false not_netcat)
kind_known false true stdin line clean not_netcat not_avro = absurd (true≢false not_avro)
kind_known false false true line clean not_netcat not_avro = refl
kind_known false false false line clean not_netcat not_avro = absurd (cc)

claim_by_type : (netcat avro stdin : Bool) (listens : List Wish) (line : ℕ) (more : List Wish) → netcat ≡ false → avro ≡ false → stdin ≡ true
    → ClaimsInput (cond (netcat || avro) listens (cond stdin (input_claim line ∷ []) []) ++ more)
claim_by_type true avro stdin listens line more not_netcat not_avro is = absurd (true≢false not_netcat)
claim_by_type false true stdin listens line more not_netcat not_avro is = absurd (true≢false not_avro)
claim_by_type false false true listens line more not_netcat not_avro is = record { line = line; rest = more; is = refl }
claim_by_type false false false listens line more not_netcat not_avro is = absurd (false≢true is)

claims_input : (pairs : List Pair) (at : List ℕ) (more : List Wish) (o : Option Pair) → Clean (judged_pair true (at ++ codes "type") rules.SourceKind o) → Whole (judged_pair true (at ++ codes "type") rules.SourceKind o)
    → is_type (codes "netcat") (text_of o) ≡ false → is_type (codes "avro") (text_of o) ≡ false → ClaimsInput (source_wish pairs at o ++ more)
claims_input pairs at more None clean whole not_netcat not_avro = absurd (cc)
claims_input pairs at more (Some p) clean whole not_netcat not_avro =
    let is = kind_known (is_type (codes "netcat") p.value) (is_type (codes "avro") p.value) (is_type (codes "stdin") p.value) p.line clean not_netcat not_avro in
    claim_by_type (is_type (codes "netcat") p.value) (is_type (codes "avro") p.value) (is_type (codes "stdin") p.value)
    (listener (lookup (at ++ codes "bind") pairs) (lookup (at ++ codes "port") pairs)) p.line more not_netcat not_avro is

no_clash : (m n : ℕ) → Clean (clash (input_claim m) (input_claim n)) → ⊥
no_clash m n clean = by (bytes_eq [] []) ((bytes_eq-Decides [] []).1 refl) clean
  where
    by : (b : Bool) → b ≡ true → Clean (cond (true && b && true) (one_fault (max m n) Clash) nothing) → ⊥
    by true is faults = cc
    by false is faults = false≢true is

-- a source of standard input is neither of the other kinds
not_others : (pairs : List Pair) (at text : List ℕ) (kind : SourceKind) (max : ℕ) → limit_of kind ≡ Some max → IsSourceKind pairs at text kind → (is_type (codes "netcat") text ≡ false) × (is_type (codes "avro") text ≡ false)
not_others pairs at text (Netcat bind port max_line ack threads) max limit is = absurd (cc)
not_others pairs at text (Avro bind port threads) max limit is = absurd (cc)
not_others pairs at text (Stdin max_line ack) max limit is = (is.0, is.1)

-- no source after one that reads standard input does
abbrev pub IsLone : List SourcePlan → Type 0
IsLone [] = Unit {0}
IsLone (s ∷ ss) = ((max : ℕ) → limit_of s.kind ≡ Some max → line_limit ss ≡ None) × IsLone ss

-- the limit of a kind, or none
limit_known : (kind : SourceKind) → (limit_of kind ≡ None) ⊎ ((max : ℕ) × (limit_of kind ≡ Some max))
limit_known (Netcat bind port max_line ack threads) = inl refl
limit_known (Avro bind port threads) = inl refl
limit_known (Stdin max_line ack) = inr (max_line, refl)

module _ (pairs : List Pair) (agent : List ℕ) (channels : List (List ℕ)) where
  abbrev Claims : List (List ℕ) → List Wish
  Claims names = flat_map (source_claims pairs agent) names

  claim_of : (name : List ℕ) (s : SourcePlan) (max : ℕ) → Clean (source_named pairs agent channels name) → Whole (source_named pairs agent channels name) → SourceNamed pairs agent channels name s
      → limit_of s.kind ≡ Some max → ClaimsInput (source_claims pairs agent name)
  claim_of name s max clean whole is limit =
      let at = front_of agent (codes ".sources.") name in
      let o = lookup (at ++ codes "type") pairs in
      let a = row pairs at true (codes "type") rules.SourceKind in
      let b = names_row pairs at (codes "channels") channels in
      let c = steps pairs at in
      let d = selector pairs (at ++ codes "selector.") (names_in pairs (at ++ codes "channels")) in
      let e = source_by_kind pairs at o in
      let clean_type = (both_clean a b (both_clean (a ⊕ b) c (both_clean (a ⊕ b ⊕ c) d (both_clean (a ⊕ b ⊕ c ⊕ d) e clean).0).0).0).0 in
      let whole_type = (both_whole a b (both_whole (a ⊕ b) c (both_whole (a ⊕ b ⊕ c) d (both_whole (a ⊕ b ⊕ c ⊕ d) e whole).0).0).0).0 in
      let others = not_others pairs at (text_at pairs (at ++ codes "type")) s.kind max limit is.kind in
      claims_input pairs at (flat_map (step_claims pairs at) (names_in pairs (at ++ codes "interceptors"))) o clean_type whole_type others.0 others.1

  -- none of these sources reads what is claimed before
  none_later : (line : ℕ) (names : List (List ℕ)) (ss : List SourcePlan) → Clean (each (source_named pairs agent channels) names) → Whole (each (source_named pairs agent channels) names)
      → Match (SourceNamed pairs agent channels) names ss → Clean (each (clash (input_claim line)) (Claims names)) → line_limit ss ≡ None
  none_later line names [] clean whole are apart = refl
  none_later line [] (s ∷ ss) clean whole are apart = absurd are
  none_later line (name ∷ names) (s ∷ ss) clean whole are apart =
      let clear = both_clean (source_named pairs agent channels name) (each (source_named pairs agent channels) names) clean in
      let full = both_whole (source_named pairs agent channels name) (each (source_named pairs agent channels) names) whole in
      let parts = each_back (clash (input_claim line)) (source_claims pairs agent name) (Claims names) apart in
      let rest = none_later line names ss clear.1 full.1 are.1 parts.1 in
      elim (limit_known s.kind) [
        | inl none ↦ ap (λ (l : Option ℕ). or_else l (line_limit ss)) none ∙ rest
        | inr some ↦
            let claim = claim_of name s some.0 clear.0 full.0 are.0 some.1 in
            let one = subst (λ (l : List Wish). Clean (each (clash (input_claim line)) l)) claim.is parts.0 in
            absurd (no_clash line claim.line (both_clean (clash (input_claim line) (input_claim claim.line)) (each (clash (input_claim line)) claim.rest) one).0)
      ]

  all_lone : (names : List (List ℕ)) (ss : List SourcePlan) → Clean (each (source_named pairs agent channels) names) → Whole (each (source_named pairs agent channels) names)
      → Match (SourceNamed pairs agent channels) names ss → Clean (clashes (Claims names)) → IsLone ss
  all_lone names [] clean whole are apart = tt
  all_lone [] (s ∷ ss) clean whole are apart = absurd are
  all_lone (name ∷ names) (s ∷ ss) clean whole are apart =
      let clear = both_clean (source_named pairs agent channels name) (each (source_named pairs agent channels) names) clean in
      let full = both_whole (source_named pairs agent channels name) (each (source_named pairs agent channels) names) whole in (
        λ max limit.
            let claim = claim_of name s max clear.0 full.0 are.0 limit in
            let all = subst (λ (l : List Wish). Clean (clashes (l ++ Claims names))) claim.is apart in
            let one = both_clean (each (clash (input_claim claim.line)) (claim.rest ++ Claims names)) (clashes (claim.rest ++ Claims names)) all in
            none_later claim.line names ss clear.1 full.1 are.1 (each_back (clash (input_claim claim.line)) claim.rest (Claims names) one.0).1,
        all_lone names ss clear.1 full.1 are.1 (clashes_back (source_claims pairs agent name) (Claims names) apart).1,
      )

-- one source of a plan at most reads standard input
pub plan_lone : (plan : Plan) → IsPlanned plan → IsLone plan.sources.items
plan_lone plan planned =
    let clear = plan_clear planned.0 planned.1 plan planned.2 in
    all_lone planned.0 planned.1 (agents.channels planned.0 planned.1) (agents.sources planned.0 planned.1) plan.sources.items clear.sources clear.sources_whole planned.2.2.sources clear.source_claims

-- ---- the worker of lines of that source

-- the places of the sources that read standard input, by the limit of lines
abbrev Inputs : ℕ → List SourcePlan → Option ℕ → List ℕ → Type 0
Inputs place ss limit places =
    ((limit ≡ None) × (places ≡ [])) ⊎ ((i most : ℕ) × (places ≡ (place + i) ∷ []) × (limit ≡ Some most) × ((s : SourcePlan) → limit_of (get_or ss i s).kind ≡ Some most))

inputs_later : (place : ℕ) (x : SourcePlan) (ss : List SourcePlan) (limit : Option ℕ) (places : List ℕ) → Inputs (place + 1) ss limit places → Inputs place (x ∷ ss) limit places
inputs_later place x ss limit places (inl none) = inl none
inputs_later place x ss limit places (inr (i, most, are, is, at)) =
    let same : (place + 1) + i ≡ place + suc i = omega arith in
    inr (suc i, most, are ∙ ap (λ (n : ℕ). n ∷ []) same, is, at)

inputs_here : (place most : ℕ) (x : SourcePlan) (ss : List SourcePlan) (places : List ℕ) → limit_of x.kind ≡ Some most → line_limit ss ≡ None → Inputs (place + 1) ss (line_limit ss) places
    → Inputs place (x ∷ ss) (Some most) (place ∷ places)
inputs_here place most x ss places here none (inl (is, gone)) =
    let same : place ≡ place + 0 = omega arith in
    inr (0, most, (λ j. same j ∷ gone j), refl, λ s. here)
inputs_here place most x ss places here none (inr (i, other, are, is, at)) = absurd (let e : None ≡ Some other = sym none ∙ is in cc)

inputs_one : (place : ℕ) (kind : SourceKind) (x : SourcePlan) (ss : List SourcePlan) → x.kind ≡ kind → ((most : ℕ) → limit_of kind ≡ Some most → line_limit ss ≡ None)
    → Inputs (place + 1) ss (line_limit ss) (places_by inputs_of (place + 1) ss)
    → Inputs place (x ∷ ss) (or_else (limit_of kind) (line_limit ss)) (replicate (inputs_by kind) place ++ places_by inputs_of (place + 1) ss)
inputs_one place (Netcat bind port max_line ack threads) x ss is alone rest = inputs_later place x ss (line_limit ss) (places_by inputs_of (place + 1) ss) rest
inputs_one place (Avro bind port threads) x ss is alone rest = inputs_later place x ss (line_limit ss) (places_by inputs_of (place + 1) ss) rest
inputs_one place (Stdin max_line ack) x ss is alone rest =
    inputs_here place max_line x ss (places_by inputs_of (place + 1) ss) (ap (λ (k : SourceKind). limit_of k) is) (alone max_line refl) rest

inputs_at : (place : ℕ) (ss : List SourcePlan) → IsLone ss → Inputs place ss (line_limit ss) (places_by inputs_of place ss)
inputs_at place [] lone = inl (refl, refl)
inputs_at place (x ∷ ss) lone = inputs_one place x.kind x ss refl lone.0 (inputs_at (place + 1) ss lone.1)

rules_max : (kind : SourceKind) (rules : SessionRules) (most : ℕ) → limit_of kind ≡ Some most → AreRules kind rules → most_of rules ≡ Some most
rules_max (Netcat bind port max_line ack threads) rules most limit are = absurd (cc)
rules_max (Avro bind port threads) rules most limit are = absurd (cc)
rules_max (Stdin max_line ack) rules most limit are = ap most_of are ∙ limit

module _ {K C : Type 0} where
  abbrev draft_of : Seat K C → SourceDraft K
  draft_of seat = seat.draft

  abbrev sources_of : List (Seat K C) → List ℕ
  sources_of seats = map (λ (draft : SourceDraft K). draft.source) (map draft_of seats)

  no_seats : (seats : List (Seat K C)) → sources_of seats ≡ [] → seats ≡ []
  no_seats [] is = refl
  no_seats (s ∷ seats) is = absurd (cc)

  one_seat : (seats : List (Seat K C)) (n : ℕ) → sources_of seats ≡ n ∷ [] → (seat : Seat K C) × (seats ≡ seat ∷ []) × (seat.draft.source ≡ n)
  one_seat [] n is = absurd (cc)
  one_seat (s ∷ []) n is = (s, refl, let e : s.draft.source ≡ n = cc in e)
  one_seat (s ∷ t ∷ seats) n is = absurd (cc)

  -- a plan's drafts of workers of lines: one with the limit of its source, or none
  pub seats_of : (sources : List SourcePlan) (given : List K) (names : List HostNames) (seats : List (Seat K C)) → IsLone sources → AreDrafts inputs_of sources given names (map draft_of seats) → OneSeat (line_limit sources) seats
  seats_of sources given names seats lone are = by (inputs_at 0 sources lone)
    where
      by : Inputs 0 sources (line_limit sources) (places_by inputs_of 0 sources) → OneSeat (line_limit sources) seats
      by (inl (limit, none)) = inl (limit, no_seats seats (are.order ∙ none))
      by (inr (i, most, places, limit, at)) =
          let same : 0 + i ≡ i = omega arith in
          let one = one_seat seats i (are.order ∙ places ∙ ap (λ (n : ℕ). n ∷ []) same) in
          let draft = one.0.draft in
          let is : IsDraftAt sources given names draft =
          All-head (IsDraftAt sources given names) draft [] (subst (λ (l : List (Seat K C)). All (IsDraftAt sources given names) (map draft_of l)) one.1 are.each) in
          let s = there sources draft.source is.there in
          let kind : limit_of (get_or sources draft.source s).kind ≡ Some most = ap (λ (n : ℕ). limit_of (get_or sources n s).kind) one.2 ∙ at s in
          let rule = rules_max (get_or sources draft.source s).kind draft.rules most kind (is.is s draft.host).rules in
          inr (one.0, one.1, limit ∙ sym rule)
