-- Each transaction of a planned channel may have a put.
use Rattle.std.proofs.Common.{◌≡◌, ◌<◌, ◌≤◌, ◌&&◌, ◌⊎◌, ◌++◌, inl, inr, ℕ, List, [], ◌∷◌, All, Bool, true, false, cond, nat_le, Option, Some, None, codes, length, sym, subst, arith}
use Rattle.std.specs.Prelude.{option_and_then, unwrap_or}
use Rattle.std.specs.List.{AllByRecursion}
use Rattle.std.proofs.lemmas.Bool.Decides.{leb_tells}
use Rattle.std.proofs.lemmas.List.Elements.{All-from_recursion}
use Rattle.prop_text.specs.Pairs.{Pair}
use Rattle.prop_text.specs.Winners.{lookup}
use Rattle.plan_judging.specs.Components.{front_of}
use Rattle.plan_judging.specs.Words.{decimal}
use Rattle.agent_plan.specs.declared.plan.ChannelKind.{ChannelKind}
use Rattle.agent_plan.specs.declared.plan.ChannelKind.TheVariants.{File, Memory}
use Rattle.agent_plan.specs.declared.plan.ChannelPlan.{ChannelPlan}
use Rattle.agent_plan.specs.declared.plan.Plan.{Plan}
use Rattle.agent_plan.specs.Values.{ChannelNamed, IsChannelKind, Match, number_of, text_at}
use Rattle.channel_wishes.specs.declared.wish.ChannelWish.{ChannelWish}
use Rattle.run_opening.specs.Prepared.{IsPlanned}
use Rattle.run_opening.specs.Wishes.{AreWishes}

tt_ff : true ≡ false → ⊥
tt_ff is = cc

-- a number within limits is no less than the lower one
within_low : (low high default : ℕ) (o : Option ℕ) → low ≤ default
    → low ≤ unwrap_or (option_and_then (λ (n : ℕ). cond (nat_le low n && nat_le n high) (Some n) None) o) default
within_low low high default None least = least
within_low low high default (Some n) least = by (nat_le low n) (nat_le n high) (leb_tells low n)
  where
    by : (a b : Bool) → ((a ≡ true) × (low ≤ n)) ⊎ ((a ≡ false) × (n < low)) → low ≤ unwrap_or (cond (a && b) (Some n) None) default
    by true true (inl is) = is.1
    by true true (inr isnt) = absurd (tt_ff isnt.0)
    by true false is = least
    by false b is = least

number_low : (low high default : ℕ) (o : Option Pair) → low ≤ default → low ≤ number_of low high default o
number_low low high default None least = least
number_low low high default (Some p) least = within_low low high default (decimal p.value) least

kind_some : (pairs : List Pair) (at type : List ℕ) (c : ChannelPlan) (kind : ChannelKind) → IsChannelKind pairs at type c kind → 1 ≤ c.txn_capacity
kind_some pairs at type c Memory is =
    subst (λ (n : ℕ). 1 ≤ n) (sym is.2) (number_low 1 100000 100 (lookup (at ++ codes "transactionCapacity") pairs) (omega arith))
kind_some pairs at type c (File folder max_file interval on_close) is =
    subst (λ (n : ℕ). 1 ≤ n) (sym is.3) (number_low 1 100000 10000 (lookup (at ++ codes "transactionCapacity") pairs) (omega arith))

all_some : (pairs : List Pair) (agent : List ℕ) (names : List (List ℕ)) (cs : List ChannelPlan) → Match (ChannelNamed pairs agent) names cs → AllByRecursion (λ (c : ChannelPlan). 1 ≤ c.txn_capacity) cs
all_some pairs agent [] [] are = tt
all_some pairs agent [] (c ∷ cs) are = absurd are
all_some pairs agent (name ∷ names) [] are = absurd are
all_some pairs agent (name ∷ names) (c ∷ cs) are =
    (let at = front_of agent (codes ".channels.") name in kind_some pairs at (text_at pairs (at ++ codes "type")) c c.kind are.0.kind, all_some pairs agent names cs are.1)

-- so is each of a plan
pub plan_some : (plan : Plan) → IsPlanned plan → All (λ (c : ChannelPlan). 1 ≤ c.txn_capacity) plan.channels.items
plan_some plan planned =
    All-from_recursion (λ (c : ChannelPlan). 1 ≤ c.txn_capacity) plan.channels.items (all_some planned.0 planned.1 _ plan.channels.items planned.2.2.channels)

first_of : (plans : List ChannelPlan) (place : ℕ) → place < length plans → ChannelPlan
first_of [] place below = absurd (omega (arith, below))
first_of (plan ∷ plans) place below = plan

-- and of what is wanted for it
pub wishes_some : (uses : List ℕ) (plan : Plan) (wishes : List ChannelWish) → IsPlanned plan → AreWishes uses plan.channels.items wishes → All (λ (wish : ChannelWish). 1 ≤ wish.limits.txn_capacity) wishes
wishes_some uses plan wishes planned wanted place wish below =
    let low : place < length plan.channels.items = let e = wanted.many in omega (arith, below, e) in
    let one = first_of plan.channels.items place low in
    let same = (wanted.each place one wish low).0.txn_capacity in
    let some = plan_some plan planned place one low in
    omega (arith, same, some)
