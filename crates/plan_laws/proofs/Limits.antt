-- The numbers of a plan are within limits.
use Rattle.std.proofs.Common.{◌⊎◌, inl, inr, ◌≡◌, ◌<◌, ◌≤◌, ℕ, true, false, ◌&&◌, cond, nat_le, unwrap_or, option_and_then, List, [], ◌∷◌, ◌++◌, All, Option, Some, None, Ok, codes, sym, subst, arith}
use Rattle.std.proofs.lemmas.Bool.Decides.{leb_tells}
use Rattle.std.proofs.lemmas.List.Elements.{All-nil, All-cons}
use Rattle.prop_text.specs.Pairs.{Pair}
use Rattle.prop_text.specs.Winners.{lookup}
use Rattle.plan_judging.specs.Words.{decimal}
use Rattle.plan_judging.specs.Components.{front_of}
use Rattle.plan_judging.specs.Agents as agents
use Rattle.agent_plan.specs.declared.plan.Plan.{Plan}
use Rattle.agent_plan.specs.declared.plan.SourcePlan.{SourcePlan}
use Rattle.agent_plan.specs.declared.plan.SourceKind.{SourceKind}
use Rattle.agent_plan.specs.declared.plan.SourceKind.TheVariants.{Netcat, Avro, Stdin}
use Rattle.agent_plan.specs.declared.plan.ChannelPlan.{ChannelPlan}
use Rattle.agent_plan.specs.declared.plan.ChannelKind.{ChannelKind}
use Rattle.agent_plan.specs.declared.plan.ChannelKind.TheVariants.{Memory, File}
use Rattle.agent_plan.specs.declared.plan.SinkPlan.{SinkPlan}
use Rattle.agent_plan.specs.declared.plan.SinkKind.{SinkKind}
use Rattle.agent_plan.specs.declared.plan.SinkKind.TheVariants.{Null, Roll, Avro as Avro', Plugin}
use Rattle.agent_plan.specs.Values.{Match, IsSourceKind, IsChannelKind, IsSinkKind, SourceNamed, ChannelNamed, SinkNamed, number_of, number_at, text_at}
use Rattle.agent_plan.specs.Plans.{Plans}
use Rattle.plan_laws.specs.Limits.{IsFromTo, IsSourceLimited, IsKindLimited, IsChannelLimited, IsLimited}

module _ (low high default : ℕ) (least : low ≤ default) (most : default ≤ high) where
  read_within : (n : ℕ) → IsFromTo low high (unwrap_or (cond (nat_le low n && nat_le n high) (Some n) None) default)
  read_within n = from (leb_tells low n) (leb_tells n high)
    where
      from : ((nat_le low n ≡ true) × (low ≤ n)) ⊎ ((nat_le low n ≡ false) × (n < low)) → ((nat_le n high ≡ true) × (n ≤ high)) ⊎ ((nat_le n high ≡ false) × (high < n))
          → IsFromTo low high (unwrap_or (cond (nat_le low n && nat_le n high) (Some n) None) default)
      from (inl above) (inl below) = rw (above.0, below.0) (above.1, below.1)
      from (inl above) (inr beyond) = rw (above.0, beyond.0) (least, most)
      from (inr under) other = rw under.0 (least, most)

  text_within : (o : Option ℕ) → IsFromTo low high (unwrap_or (option_and_then (λ n. cond (nat_le low n && nat_le n high) (Some n) None) o) default)
  text_within None = (least, most)
  text_within (Some n) = read_within n

  -- a number of a text, or the default, is within limits
  number_within : (o : Option Pair) → IsFromTo low high (number_of low high default o)
  number_within None = (least, most)
  number_within (Some p) = text_within (decimal p.value)

  is_within : (pairs : List Pair) (key : List ℕ) (n : ℕ) → n ≡ number_at pairs low high default key → IsFromTo low high n
  is_within pairs key n same = subst (IsFromTo low high) (sym same) (number_within (lookup key pairs))

-- what is true of each component by its values
each_named : {A : Type 0} (R : List ℕ → A → Type 0) (P : A → Type 0) → ((name : List ℕ) (x : A) → R name x → P x) → (names : List (List ℕ)) (xs : List A) → Match R names xs → All P xs
each_named R P says names [] are = All-nil P
each_named R P says [] (x ∷ xs) are = absurd are
each_named R P says (name ∷ names) (x ∷ xs) are = All-cons P x xs (says name x are.0) (each_named R P says names xs are.1)

module _ (pairs : List Pair) where
  port_within : (key : List ℕ) (n : ℕ) → n ≡ number_at pairs 1 65535 1 key → IsFromTo 1 65535 n
  port_within key n = is_within 1 65535 1 (omega arith) (omega arith) pairs key n

  line_within : (key : List ℕ) (n : ℕ) → n ≡ number_at pairs 1 1048568 512 key → IsFromTo 1 1048568 n
  line_within key n = is_within 1 1048568 512 (omega arith) (omega arith) pairs key n

  threads_within : (key : List ℕ) (n : ℕ) → n ≡ number_at pairs 1 64 4 key → IsFromTo 1 64 n
  threads_within key n = is_within 1 64 4 (omega arith) (omega arith) pairs key n

  batch_within : (key : List ℕ) (n : ℕ) → n ≡ number_at pairs 1 10000 100 key → IsFromTo 1 10000 n
  batch_within key n = is_within 1 10000 100 (omega arith) (omega arith) pairs key n

  source_limited : (at type : List ℕ) (kind : SourceKind) → IsSourceKind pairs at type kind → IsSourceLimited kind
  source_limited at type (Netcat bind port max_line ack threads) is =
      (port_within (at ++ codes "port") port is.2, line_within (at ++ codes "max-line-length") max_line is.3, threads_within (at ++ codes "threads") threads is.5)
  source_limited at type (Avro bind port threads) is = (port_within (at ++ codes "port") port is.3, threads_within (at ++ codes "threads") threads is.4)
  source_limited at type (Stdin max_line ack) is = line_within (at ++ codes "max-line-length") max_line is.2

  channel_limited : (at type : List ℕ) (c : ChannelPlan) (kind : ChannelKind) → IsChannelKind pairs at type c kind
      → IsFromTo 1 10000000 c.capacity × IsFromTo 1 100000 c.txn_capacity × IsKindLimited kind
  channel_limited at type c Memory is = (
    is_within 1 10000000 100 (omega arith) (omega arith) pairs (at ++ codes "capacity") c.capacity is.1,
    is_within 1 100000 100 (omega arith) (omega arith) pairs (at ++ codes "transactionCapacity") c.txn_capacity is.2,
    tt,
  )
  channel_limited at type c (File folder max_file interval on_close) is = (
    is_within 1 10000000 1000000 (omega arith) (omega arith) pairs (at ++ codes "capacity") c.capacity is.2,
    is_within 1 100000 10000 (omega arith) (omega arith) pairs (at ++ codes "transactionCapacity") c.txn_capacity is.3,
    (
      is_within 4096 2146435071 2146435071 (omega arith) (omega arith) pairs (at ++ codes "maxFileSize") max_file is.4,
      is_within 1000 86400000 30000 (omega arith) (omega arith) pairs (at ++ codes "checkpointInterval") interval is.5,
    ),
  )

  sink_limited : (at type : List ℕ) (s : SinkPlan) (kind : SinkKind) → IsSinkKind pairs at type s kind → IsFromTo 1 10000 s.batch
  sink_limited at type s (Avro' host port) is = batch_within (at ++ codes "batch-size") s.batch is.3
  sink_limited at type s (Roll folder interval) is = batch_within (at ++ codes "sink.batchSize") s.batch is.4
  sink_limited at type s (Plugin name) is = subst (IsFromTo 1 10000) (sym is.4) (omega arith, omega arith)
  sink_limited at type s Null is = batch_within (at ++ codes "batchSize") s.batch is.3

-- The numbers of a plan that is answered.
pub numbers_limited : (pairs : List Pair) (agent : List ℕ) (plan : Plan) → Plans pairs agent (Ok plan) → IsLimited plan
numbers_limited pairs agent plan (is, seen, made) = record {
  sources = each_named (SourceNamed pairs agent (agents.channels pairs agent)) (λ (s : SourcePlan). IsSourceLimited s.kind)
      (λ name s named. source_limited pairs (front_of agent (codes ".sources.") name) (text_at pairs (front_of agent (codes ".sources.") name ++ codes "type")) s.kind named.kind) (agents.sources pairs agent) plan.sources.items made.sources;
  channels = each_named (ChannelNamed pairs agent) IsChannelLimited
      (λ name c named. channel_limited pairs (front_of agent (codes ".channels.") name) (text_at pairs (front_of agent (codes ".channels.") name ++ codes "type")) c c.kind named.kind) (agents.channels pairs agent) plan.channels.items made.channels;
  sinks = each_named (SinkNamed pairs agent (agents.channels pairs agent)) (λ (s : SinkPlan). IsFromTo 1 10000 s.batch)
      (λ name s named. sink_limited pairs (front_of agent (codes ".sinks.") name) (text_at pairs (front_of agent (codes ".sinks.") name ++ codes "type")) s s.kind named.kind) (agents.sinks pairs agent) plan.sinks.items made.sinks;
}
