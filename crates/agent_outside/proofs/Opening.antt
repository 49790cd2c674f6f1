-- The sinks of an agent are opened one after the other.
use Rattle.std.proofs.Common.{◌≡◌, ◌∙◌, ◌<◌, ◌+◌, ◌⊎◌, inl, inr, ℕ, List, [], ◌∷◌, ◌++◌, length, get_or, take, Option, sym, ap, subst}
use Rattle.std.proofs.lemmas.List.{append-nil, take_more}
use Rattle.std.proofs.lemmas.List.Concat.{flat_map-append}
use Rattle.flume_host.specs.HandedOut.{HandedOut}
use Rattle.flume_host.specs.HostState.{Folders, HostState}
use Rattle.flume_host.specs.Listens.{Endpoint}
use Rattle.flume_host.specs.Rolled.{Rolled}
use Rattle.flume_host.specs.declared.names.NameRefused.{NameRefused}
use Rattle.agent_plan.specs.declared.plan.SinkPlan.{SinkPlan}
use Rattle.agent_sinks.specs.declared.sink.AgentSink.{AgentSink}
use Rattle.avro_ends.specs.Dialing.{DialTold}
use Rattle.agent_outside.specs.Backs.{RollBack, RollsBack, RollsOut, Reopened}
use Rattle.agent_outside.specs.Dials.{DialersBack, DialsOpened, DialsRefused, dial_of, dials_back, dials_of}
use Rattle.agent_outside.specs.Sinks.{SinkAdded, SinkUnopened, SinksOpened, SinksRefused, back_of, backs_of, folder_of, folders_of}
use Rattle.agent_outside.proofs.Backing.{out_marks, out_none, out_then, reopened_then}
use Rattle.agent_outside.proofs.Dialing.{dials_refused}
use Rattle.agent_outside.proofs.Ordering.{are_later, are_more, are_paths, backs_more, new_more}

module _ {R A B : Type 0} (rolled : R → Option Rolled) (faults : R → ℕ) (dial : DialTold A) (plans : List SinkPlan) where
  -- before a sink is opened, the folders are as they were
  pub none_opened : (f : Folders) → SinksOpened {R = R} {A = A} {B = B} rolled faults plans f f []
  none_opened f = record { are = tt; made = tt; out = out_none f }

  -- one more
  pub opened_more : (object : Option B) (all : Option HandedOut) (f g h : Folders) (sinks after : List (AgentSink R A B)) (d : SinkPlan) → length sinks < length plans → SinksOpened rolled faults plans f g sinks
      → SinkAdded rolled faults dial (get_or plans (length sinks) d) object all g h sinks after → SinksOpened rolled faults plans f h after
  opened_more object all f g h sinks after d below opened added =
      let kind = (get_or plans (length sinks) d).kind in
      let later = are_later g h (out_marks (back_of rolled kind added.sink) g h added.out) plans sinks opened.are in
      let out = subst (λ (l : List RollBack). RollsOut l f h) (sym (backs_more rolled plans sinks added.sink d below)) (out_then (backs_of rolled plans sinks) (back_of rolled kind added.sink) f g h opened.out added.out) in
      subst (SinksOpened rolled faults plans f h) (sym added.is) (record {
        are = are_more h plans sinks added.sink d below later added.of;
        made = new_more faults plans sinks added.sink d below opened.made added.made;
        out = out;
      })

  -- the next one was refused, and all came back
  pub refused_at : (refused : NameRefused) (f g h k : Folders) (s t u v : HostState) (sinks : List (AgentSink R A B)) (d : SinkPlan) → length sinks < length plans → SinksOpened rolled faults plans f g sinks
      → DialsOpened dial plans s t sinks → SinkUnopened (get_or plans (length sinks) d) refused g h t u → RollsBack (backs_of rolled plans sinks) h k → DialersBack (dials_back dial plans sinks) u v
      → SinksRefused plans refused f k s v
  refused_at refused f g h k s t u v sinks d below opened dialed unopened back came = which unopened.which
    where
      first : List SinkPlan
      first = take (length sinks) plans

      folders : Reopened (folders_of (first ++ unopened.plans)) f k
      folders = subst (λ (l : List (List ℕ)). Reopened l f k)
          (ap (λ (l : List (List ℕ)). l ++ folders_of unopened.plans) (are_paths rolled g plans sinks opened.are) ∙ sym (flat_map-append (λ (plan : SinkPlan). folder_of plan.kind) first unopened.plans))
          (reopened_then (backs_of rolled plans sinks) (folders_of unopened.plans) f g h k opened.out unopened.folders back)

      dials : DialsRefused refused (dials_of (first ++ unopened.plans)) s v
      dials = subst (λ (l : List Endpoint). DialsRefused refused l s v) (sym (flat_map-append (λ (plan : SinkPlan). dial_of plan.kind) first unopened.plans))
          (dials_refused dial plans g refused (dials_of unopened.plans) s t u v sinks opened.are dialed unopened.dials came)

      these : (n : ℕ) → first ++ unopened.plans ≡ take n plans → SinksRefused plans refused f k s v
      these n is = record {
        sinks = n;
        folders = subst (λ (l : List SinkPlan). Reopened (folders_of l) f k) is folders;
        dials = subst (λ (l : List SinkPlan). DialsRefused refused (dials_of l) s v) is dials;
      }

      which : (unopened.plans ≡ []) ⊎ (unopened.plans ≡ get_or plans (length sinks) d ∷ []) → SinksRefused plans refused f k s v
      which (inl none) = these (length sinks) (ap (λ (l : List SinkPlan). first ++ l) none ∙ append-nil first)
      which (inr one) = these (length sinks + 1) (ap (λ (l : List SinkPlan). first ++ l) one ∙ sym (take_more plans (length sinks) d below))
