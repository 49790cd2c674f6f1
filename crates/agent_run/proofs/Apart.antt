-- No two channels of a plan are in one folder.
use Rattle.std.proofs.Common.{◌≡◌, ◌∙◌, ◌<◌, ◌++◌, ◌||◌, ◌&&◌, ℕ, zero, suc, Bool, true, false, not, cond, List, [], ◌∷◌, Option, Some, None, Ok, codes, length, get_or, flat_map, max, refl, sym, ap, subst, true≢false, arith, string_bytes, bytes_eq}
use Rattle.std.proofs.lemmas.Bool.{false≢true}
use Rattle.std.proofs.lemmas.Slice.Eq.{bytes_eq-Decides}
use Rattle.prop_text.specs.Pairs.{Pair}
use Rattle.prop_text.specs.Winners.{lookup}
use Rattle.agent_plan.specs.declared.plan.ChannelKind.{ChannelKind}
use Rattle.agent_plan.specs.declared.plan.ChannelKind.TheVariants.{File, Memory}
use Rattle.agent_plan.specs.declared.plan.ChannelPlan.{ChannelPlan}
use Rattle.agent_plan.specs.declared.plan.Plan.{Plan}
use Rattle.agent_plan.specs.Faults.{candidates, first_fault, least_missing}
use Rattle.agent_plan.specs.Laws.{IsFirst, IsLeast}
use Rattle.agent_plan.specs.Patterns.{asked_of, bad_ones}
use Rattle.agent_plan.specs.Plans.{Plans}
use Rattle.agent_plan.specs.Values.{ChannelNamed, IsChannelKind, Match, text_at, text_of}
use Rattle.agent_plan.proofs.First.{first_is_first, least_is_least}
use Rattle.plan_judging.specs.Agents as agents
use Rattle.plan_judging.specs.Agents.{candidates_of, channel_claims, channel_named, claims_of, components_of, group_claims, group_named, lists, sink_claims, sink_named, source_claims, source_named}
use Rattle.plan_judging.specs.Candidates.{Candidates, Seen, each, nothing, ◌⊕◌}
use Rattle.plan_judging.specs.Claims.{Wish, channel_wish, clash, clashes, folder_wish}
use Rattle.plan_judging.specs.Components.{channel, channel_by_kind, file_channel, front_of, memory_channel}
use Rattle.plan_judging.specs.Rows.{is_type, judged_pair, of_kind, one_fault, row, when}
use Rattle.plan_judging.specs.declared.claims.Claimed.TheVariants.{Folder}
use Rattle.plan_judging.specs.declared.findings.FaultKind.TheVariants.{Clash, UnknownType}
use Rattle.plan_judging.specs.declared.rules.Rule.TheVariants as rules
use Rattle.plan_laws.proofs.Names.{Clean, both_clean, none_of}
use Rattle.agent_run.specs.FoldersTold.{FoldersAreApart, folder_of}
use Rattle.run_opening.specs.Prepared.{IsPlanned}

-- no key is missing
abbrev pub Whole : Candidates → Type 0
Whole c = c.missing ≡ []

-- where two together lack no key, neither of them does
pub both_whole : (a b : Candidates) → Whole (a ⊕ b) → Whole a × Whole b
unfolding ◌⊕◌
both_whole a b h = none_of a.missing b.missing h

-- ---- what a channel in a folder claims

abbrev folder_claim : List ℕ → ℕ → Wish
folder_claim folder line = record { what = Folder; text = folder; number = 0; line = line }

-- a component claims this folder alone
record ClaimsOnly (claims : List Wish) (folder : List ℕ) : Type 0 where
  line : ℕ
  is : claims ≡ folder_claim folder line ∷ []

claim_there : (o : Option Pair) (key : List ℕ) → Whole (judged_pair true key rules.OneFolder o) → ClaimsOnly (folder_wish o) (text_of o)
claim_there None key whole = absurd (cc)
claim_there (Some p) key whole = record { line = p.line; is = refl }

kind_known : (memory file : Bool) (line : ℕ) → Clean (of_kind line (when (not (memory || file)) UnknownType)) → memory ≡ false → file ≡ true
kind_known true file line clean not_memory = absurd (true≢false not_memory)
kind_known false true line clean not_memory = refl
kind_known false false line clean not_memory = absurd (cc)

claim_by_type : (file : Bool) (claims : List Wish) (folder : List ℕ) → file ≡ true → ClaimsOnly claims folder → ClaimsOnly (cond file claims []) folder
claim_by_type true claims folder is claimed = claimed
claim_by_type false claims folder is claimed = absurd (false≢true is)

whole_by_type : (memory file : Bool) (a b c : Candidates) → memory ≡ false → file ≡ true → Whole (cond memory a (cond file b c)) → Whole b
whole_by_type true file a b c not_memory is whole = absurd (true≢false not_memory)
whole_by_type false true a b c not_memory is whole = whole
whole_by_type false false a b c not_memory is whole = absurd (false≢true is)

module _ (pairs : List Pair) (at : List ℕ) where
  dirs_whole : Whole (file_channel pairs at) → Whole (row pairs at true (codes "dataDirs") rules.OneFolder)
  dirs_whole whole =
      let a = row pairs at true (codes "dataDirs") rules.OneFolder in
      let b = row pairs at false (codes "capacity") (rules.Number 1 10000000) in
      let c = row pairs at false (codes "transactionCapacity") (rules.Number 1 100000) in
      let d = row pairs at false (codes "checkpointInterval") (rules.Number 1000 86400000) in
      let e = row pairs at false (codes "maxFileSize") (rules.Number 4096 2146435071) in
      let f = row pairs at false (codes "checkpointOnClose") rules.Truth in
      let g = row pairs at false (codes "useDualCheckpoints") rules.False in
      let six = both_whole (a ⊕ b ⊕ c ⊕ d ⊕ e ⊕ f) g whole in
      let five = both_whole (a ⊕ b ⊕ c ⊕ d ⊕ e) f six.0 in
      let four = both_whole (a ⊕ b ⊕ c ⊕ d) e five.0 in
      let three = both_whole (a ⊕ b ⊕ c) d four.0 in
      let two = both_whole (a ⊕ b) c three.0 in
      (both_whole a b two.0).0

  claims_folder : (o : Option Pair) → Clean (judged_pair true (at ++ codes "type") rules.ChannelKind o) → Whole (judged_pair true (at ++ codes "type") rules.ChannelKind o)
      → Whole (channel_by_kind pairs at o) → is_type (codes "memory") (text_of o) ≡ false → ClaimsOnly (channel_wish pairs at o) (text_at pairs (at ++ codes "dataDirs"))
  claims_folder None clean whole keys not_memory = absurd (cc)
  claims_folder (Some p) clean whole keys not_memory =
      let memory = is_type (codes "memory") p.value in
      let file = is_type (codes "file") p.value in
      let is = kind_known memory file p.line clean not_memory in
      let dirs = dirs_whole (whole_by_type memory file (memory_channel pairs at) (file_channel pairs at) nothing not_memory is keys) in
      claim_by_type file (folder_wish (lookup (at ++ codes "dataDirs") pairs)) (text_at pairs (at ++ codes "dataDirs")) is
      (claim_there (lookup (at ++ codes "dataDirs") pairs) (at ++ codes "dataDirs") dirs)

  channel_claim : (c : ChannelPlan) (kind : ChannelKind) (path : List ℕ) → Clean (channel pairs at) → Whole (channel pairs at) → IsChannelKind pairs at (text_at pairs (at ++ codes "type")) c kind
      → folder_of kind ≡ Some path → ClaimsOnly (channel_wish pairs at (lookup (at ++ codes "type") pairs)) path
  channel_claim c Memory path clean whole is named = absurd (cc)
  channel_claim c (File folder max_file interval on_close) path clean whole is named =
      let o = lookup (at ++ codes "type") pairs in
      let of_type = row pairs at true (codes "type") rules.ChannelKind in
      let of_keys = channel_by_kind pairs at o in
      let same : string_bytes folder ≡ path = cc in
      subst (ClaimsOnly (channel_wish pairs at o)) (sym is.1 ∙ same)
      (claims_folder o (both_clean of_type of_keys clean).0 (both_whole of_type of_keys whole).0 (both_whole of_type of_keys whole).1 is.0)

-- ---- claims that clash

no_clash : (path : List ℕ) (m n : ℕ) → Clean (clash (folder_claim path m) (folder_claim path n)) → ⊥
no_clash path m n clean = by (bytes_eq path path) ((bytes_eq-Decides path path).1 refl) clean
  where
    by : (b : Bool) → b ≡ true → Clean (cond (true && b && true) (one_fault (max m n) Clash) nothing) → ⊥
    by true is faults = cc
    by false is faults = false≢true is

both_again : (x y : Candidates) → Clean x → Clean y → Clean (x ⊕ y)
unfolding ◌⊕◌
both_again x y p q = (λ i. p i ++ y.faults) ∙ q

-- where nothing is at fault with the claims of two lists together, nothing is with those of either
pub each_back : (f : Wish → Candidates) (a b : List Wish) → Clean (each f (a ++ b)) → Clean (each f a) × Clean (each f b)
each_back f [] b clean = (refl, clean)
each_back f (w ∷ a) b clean =
    let parts = both_clean (f w) (each f (a ++ b)) clean in
    let rest = each_back f a b parts.1 in
    (both_again (f w) (each f a) parts.0 rest.0, rest.1)

-- where no two claims of two lists together clash, no two of either list do
pub clashes_back : (a b : List Wish) → Clean (clashes (a ++ b)) → Clean (clashes a) × Clean (clashes b)
clashes_back [] b clean = (refl, clean)
clashes_back (w ∷ a) b clean =
    let parts = both_clean (each (clash w) (a ++ b)) (clashes (a ++ b)) clean in
    let rest = clashes_back a b parts.1 in
    (both_again (each (clash w) a) (clashes a) (each_back (clash w) a b parts.0).0 rest.0, rest.1)

module _ (pairs : List Pair) (agent : List ℕ) where
  -- the channel of this name
  abbrev At : List ℕ → List ℕ
  At name = front_of agent (codes ".channels.") name

  abbrev Claims : List (List ℕ) → List Wish
  Claims names = flat_map (channel_claims pairs agent) names

  claim_of : (name : List ℕ) (c : ChannelPlan) (path : List ℕ) → Clean (channel_named pairs agent name) → Whole (channel_named pairs agent name) → ChannelNamed pairs agent name c
      → folder_of c.kind ≡ Some path → ClaimsOnly (channel_claims pairs agent name) path
  claim_of name c path clean whole is named = channel_claim pairs (At name) c c.kind path clean whole is.kind named

  -- none of these channels is in a folder that is claimed before
  none_later : (path : List ℕ) (line : ℕ) (names : List (List ℕ)) (cs : List ChannelPlan) → Clean (each (channel_named pairs agent) names) → Whole (each (channel_named pairs agent) names)
      → Match (ChannelNamed pairs agent) names cs → Clean (each (clash (folder_claim path line)) (Claims names))
      → (j : ℕ) (d : ChannelPlan) → j < length cs → folder_of (get_or cs j d).kind ≡ Some path → ⊥
  none_later path line names [] clean whole are apart j d below named = omega (arith, below)
  none_later path line [] (c ∷ cs) clean whole are apart j d below named = are
  none_later path line (name ∷ names) (c ∷ cs) clean whole are apart zero d below named =
      let clear = both_clean (channel_named pairs agent name) (each (channel_named pairs agent) names) clean in
      let full = both_whole (channel_named pairs agent name) (each (channel_named pairs agent) names) whole in
      let claim = claim_of name c path clear.0 full.0 are.0 named in
      let here = (each_back (clash (folder_claim path line)) (channel_claims pairs agent name) (Claims names) apart).0 in
      let one = subst (λ (l : List Wish). Clean (each (clash (folder_claim path line)) l)) claim.is here in
      no_clash path line claim.line (both_clean (clash (folder_claim path line) (folder_claim path claim.line)) nothing one).0
  none_later path line (name ∷ names) (c ∷ cs) clean whole are apart (suc j) d below named =
      let clear = both_clean (channel_named pairs agent name) (each (channel_named pairs agent) names) clean in
      let full = both_whole (channel_named pairs agent name) (each (channel_named pairs agent) names) whole in
      none_later path line names cs clear.1 full.1 are.1 (each_back (clash (folder_claim path line)) (channel_claims pairs agent name) (Claims names) apart).1 j d (omega (arith, below)) named

  none_twice : (names : List (List ℕ)) (cs : List ChannelPlan) → Clean (each (channel_named pairs agent) names) → Whole (each (channel_named pairs agent) names)
      → Match (ChannelNamed pairs agent) names cs → Clean (clashes (Claims names))
      → (i j : ℕ) (d : ChannelPlan) (path : List ℕ) → i < j → j < length cs → folder_of (get_or cs i d).kind ≡ Some path → folder_of (get_or cs j d).kind ≡ Some path → ⊥
  none_twice names [] clean whole are apart i j d path less below first second = omega (arith, below)
  none_twice [] (c ∷ cs) clean whole are apart i j d path less below first second = are
  none_twice (name ∷ names) (c ∷ cs) clean whole are apart i zero d path less below first second = omega (arith, less)
  none_twice (name ∷ names) (c ∷ cs) clean whole are apart zero (suc j) d path less below first second =
      let clear = both_clean (channel_named pairs agent name) (each (channel_named pairs agent) names) clean in
      let full = both_whole (channel_named pairs agent name) (each (channel_named pairs agent) names) whole in
      let claim = claim_of name c path clear.0 full.0 are.0 first in
      let all = subst (λ (l : List Wish). Clean (clashes (l ++ Claims names))) claim.is apart in
      let one = both_clean (each (clash (folder_claim path claim.line)) (Claims names)) (clashes (Claims names)) all in
      none_later path claim.line names cs clear.1 full.1 are.1 one.0 j d (omega (arith, below)) second
  none_twice (name ∷ names) (c ∷ cs) clean whole are apart (suc i) (suc j) d path less below first second =
      let clear = both_clean (channel_named pairs agent name) (each (channel_named pairs agent) names) clean in
      let full = both_whole (channel_named pairs agent name) (each (channel_named pairs agent) names) whole in
      none_twice names cs clear.1 full.1 are.1 (clashes_back (channel_claims pairs agent name) (Claims names) apart).1 i j d path (omega (arith, less)) (omega (arith, below)) first second

  -- nothing is at fault in the sources and the channels of a plan, and no two of each claim the same
  pub record IsClear : Type 0 where
    pub sources : Clean (each (source_named pairs agent (agents.channels pairs agent)) (agents.sources pairs agent))
    pub sources_whole : Whole (each (source_named pairs agent (agents.channels pairs agent)) (agents.sources pairs agent))
    pub channels : Clean (each (channel_named pairs agent) (agents.channels pairs agent))
    pub channels_whole : Whole (each (channel_named pairs agent) (agents.channels pairs agent))
    pub source_claims : Clean (clashes (flat_map (source_claims pairs agent) (agents.sources pairs agent)))
    pub channel_claims : Clean (clashes (Claims (agents.channels pairs agent)))

  -- no source or channel of a plan that was made is at fault, and no two of either claim the same
  pub plan_clear : (plan : Plan) → Plans pairs agent (Ok plan) → IsClear
  plan_clear plan (is, (s, found, right), made) =
      let sources = agents.sources pairs agent in
      let channels = agents.channels pairs agent in
      let sinks = agents.sinks pairs agent in
      let groups = agents.groups pairs agent in
      let of_lists = lists pairs (agent ++ codes ".") in
      let components = components_of pairs agent sources channels sinks groups in
      let of_claims = clashes (claims_of pairs agent sources channels sinks groups) in
      let bad = bad_ones (asked_of pairs agent sources) found.verdicts in
      let all = candidates pairs agent found.verdicts in
      let none : first_fault pairs agent found.verdicts ≡ None = sym (ap (λ (x : Seen). x.fault) found.is) ∙ right.0 in
      let here : least_missing pairs agent found.verdicts ≡ None = sym (ap (λ (x : Seen). x.missing) found.is) ∙ right.1 in
      let clean : Clean all = subst (IsFirst all.faults) none (first_is_first all.faults) in
      let whole : Whole all = subst (IsLeast all.missing) here (least_is_least all.missing) in
      let six = both_clean (candidates_of pairs agent sources channels sinks groups) bad clean in
      let five = both_clean (of_lists ⊕ components) of_claims six.0 in
      let six' = both_whole (candidates_of pairs agent sources channels sinks groups) bad whole in
      let five' = both_whole (of_lists ⊕ components) of_claims six'.0 in
      let of_sources = each (source_named pairs agent channels) sources in
      let of_channels = each (channel_named pairs agent) channels in
      let of_sinks = each (sink_named pairs agent channels) sinks in
      let of_groups = each (group_named pairs agent sinks) groups in
      let three = both_clean (of_sources ⊕ of_channels ⊕ of_sinks) of_groups (both_clean of_lists components five.0).1 in
      let two = both_clean of_sources of_channels (both_clean (of_sources ⊕ of_channels) of_sinks three.0).0 in
      let three' = both_whole (of_sources ⊕ of_channels ⊕ of_sinks) of_groups (both_whole of_lists components five'.0).1 in
      let two' = both_whole of_sources of_channels (both_whole (of_sources ⊕ of_channels) of_sinks three'.0).0 in
      let first = flat_map (source_claims pairs agent) sources in
      let third = flat_map (sink_claims pairs agent) sinks in
      let fourth = flat_map (group_claims pairs agent) groups in
      let front = (clashes_back ((first ++ Claims channels) ++ third) fourth five.1).0 in
      let claims = clashes_back first (Claims channels) (clashes_back (first ++ Claims channels) third front).0 in
      record { sources = two.0; sources_whole = two'.0; channels = two.1; channels_whole = two'.1; source_claims = claims.0; channel_claims = claims.1 }

  -- so it is of a plan
  pub plan_apart : (plan : Plan) → Plans pairs agent (Ok plan) → FoldersAreApart plan.channels.items
  plan_apart plan is =
      let clear = plan_clear plan is in
      none_twice (agents.channels pairs agent) plan.channels.items clear.channels clear.channels_whole is.2.channels clear.channel_claims

-- no two channels of a plan that some properties text may have are in one folder
pub folders_apart : (plan : Plan) → IsPlanned plan → FoldersAreApart plan.channels.items
folders_apart plan planned = plan_apart planned.0 planned.1 plan planned.2
