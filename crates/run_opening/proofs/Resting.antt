-- What a run still has after its workers, and what it has room for.
use Rattle.std.proofs.Common.{◌≡◌, ◌∙◌, ◌≤◌, ◌+◌, ◌++◌, ℕ, Bool, suc, List, [], ◌∷◌, Option, String, length, map, refl, sym, ap, subst, arith}
use Rattle.std.proofs.lemmas.List.{length-map}
use Rattle.std.specs.Prelude.{string_bytes}
use Rattle.std.specs.Vec.{vec_capacity}
use Rattle.std.specs.declared.alloc.Global.{Global}
use Rattle.std.specs.declared.vec.Vec.{Vec}
use Rattle.channel_face.specs.declared.replies.Counts.{Counts}
use Rattle.agent_end.specs.declared.draining.ChannelDrain.{ChannelDrain}
use Rattle.agent_plan.specs.declared.plan.ChannelPlan.{ChannelPlan}
use Rattle.grouped_sinks.specs.declared.row.SinkRow.{SinkRow}
use Rattle.agent_plan.specs.declared.plan.SourcePlan.{SourcePlan}
use Rattle.flume_host.specs.HostState.{Folders}
use Rattle.flume_host.specs.Listens.{Endpoint}
use Rattle.shared_channel.specs.Passes.{Known}
use Rattle.two_channels.specs.Shares.{pass_of}
use Rattle.two_channels.specs.declared.shared.EitherClosed.{EitherClosed}
use Rattle.two_channels.specs.declared.shared.EitherClosed.TheVariants as closed
use Rattle.two_channels.specs.declared.shared.EitherShared.{EitherShared}
use Rattle.channel_wishes.specs.Places.{AreClosedOf, AreOfWishes, AreOut, IsOfPlace}
use Rattle.channel_wishes.specs.declared.opened.OpenedChannel.{OpenedChannel}
use Rattle.channel_wishes.specs.declared.wish.ChannelPlace.{ChannelPlace}
use Rattle.channel_wishes.specs.declared.wish.ChannelPlace.TheVariants.{Memory, Folder}
use Rattle.channel_wishes.specs.declared.wish.ChannelWish.{ChannelWish}
use Rattle.channel_wishes.specs.Opened.{ClosedFit}
use Rattle.run_settling.specs.Draining.{AreDrained}
use Rattle.run_opening.specs.Lists.{IsEmptyFor, NamesOf}
use Rattle.run_opening.specs.Opening.{CanBeManned, IsManned}
use Rattle.run_opening.specs.Outside.{AreFrom}
use Rattle.run_opening.specs.declared.labels.ChannelLabel.{ChannelLabel}
use Rattle.run_opening.specs.declared.opening.Manned.{Manned}
use Rattle.run_opening.specs.declared.opening.Opening.{Opening}
use Rattle.run_opening.specs.declared.channel_end.ChannelEnd.{ChannelEnd}
use Rattle.run_opening.proofs.Crewing.{freshly}
use Rattle.run_opening.proofs.Fresh.{fresh_many}

module _ {A B : Type 0} (f g : Folders) (same : g.disk_opened ≡ f.disk_opened) where
  of_place_later : (place : ChannelPlace) (c : EitherClosed A B) → IsOfPlace f place c → IsOfPlace g place c
  of_place_later Memory (closed.Disk c) is = absurd is
  of_place_later Memory (closed.Memory c) is = tt
  of_place_later (Folder path) (closed.Disk c) is = ap (λ (opened : List ℕ → Bool). opened (string_bytes path)) same ∙ is
  of_place_later (Folder path) (closed.Memory c) is = absurd is

  -- closed channels of these wishes are so as long as the folders of disks are
  pub of_wishes_later : (wishes : List ChannelWish) (cs : List (EitherClosed A B)) → AreOfWishes f wishes cs → AreOfWishes g wishes cs
  of_wishes_later [] [] is = tt
  of_wishes_later [] (c ∷ cs) is = absurd is
  of_wishes_later (wish ∷ wishes) [] is = absurd is
  of_wishes_later (wish ∷ wishes) (c ∷ cs) is = (of_place_later wish.place c is.0, of_wishes_later wishes cs is.1)

-- as many sinks as drained their channels
pub drained_many : {W S : Type 0} (Drained : W → List Known → ChannelDrain → S → List Known → Type 0) (ws : List W) (old : List Known) (ends : List ChannelDrain) (backs : List S) (new : List Known)
    → AreDrained Drained ws old ends backs new → length backs ≡ length ws
drained_many Drained [] old [] [] new all = refl
drained_many Drained [] old [] (b ∷ backs) new all = absurd all
drained_many Drained [] old (e ∷ ends) backs new all = absurd all
drained_many Drained (w ∷ ws) old [] backs new all = absurd all
drained_many Drained (w ∷ ws) old (e ∷ ends) [] new all = absurd all
drained_many Drained (w ∷ ws) old (e ∷ ends) (b ∷ backs) new all = ap suc (drained_many Drained ws all.0 ends backs new all.2)

-- as many closed channels as shared ones
pub closed_many : {A B : Type 0} (ss : List (EitherShared A B)) (cs : List (EitherClosed A B)) → AreClosedOf ss cs → length cs ≡ length ss
closed_many [] [] all = refl
closed_many [] (c ∷ cs) all = absurd all
closed_many (s ∷ ss) [] all = absurd all
closed_many (s ∷ ss) (c ∷ cs) all = ap suc (closed_many ss cs all.1)

-- as many listeners as places of their sources
pub from_many : {N : Type 0} (endpoint : N → Option Endpoint) (sources : List SourcePlan) (places : List ℕ) (listeners : List N) → AreFrom endpoint sources places listeners → length listeners ≡ length places
from_many endpoint sources [] [] all = refl
from_many endpoint sources [] (l ∷ listeners) all = absurd all
from_many endpoint sources (p ∷ places) [] all = absurd all
from_many endpoint sources (p ∷ places) (l ∷ listeners) all = ap suc (from_many endpoint sources places listeners all.1)

module _ {A B S N I O C K : Type 0} (plans : List SinkRow) (o : Opening A B S N I O C K) (m : Manned A B S N I O C K) (can : CanBeManned plans o) (is : IsManned plans o m) where
  -- as many shared channels as were wanted
  pub shares_many : length m.crew.shares.items ≡ length o.prepared.wishes.items
  shares_many =
      ap length is.shares ∙ length-map o.opened.items (λ (c : OpenedChannel A B). c.share)
      ∙ fresh_many o.prepared.wishes.items o.opened.items (freshly o.prepared.wishes.items o.opened.items can.opened)

  -- as many passes are at home as channels were wished for
  pub homes_many : length m.crew.homes.items ≡ length o.prepared.wishes.items
  homes_many = is.homes.as_many ∙ shares_many

  -- what is closed of the shared channels is of what was wanted
  pub closed_of_wishes : ClosedFit A B → (folders : Folders) (ends : List (EitherClosed A B)) → AreClosedOf m.crew.shares.items ends → AreOut folders o.prepared.wishes.items → AreOfWishes folders m.wishes.items ends
  closed_of_wishes fit folders ends all out =
      subst (λ (w : Vec ChannelWish Global). AreOfWishes folders w.items ends) (sym is.wishes)
      (fit o.prepared.wishes.items o.opened.items ends folders can.opened.0 can.opened.1 can.opened.2
      (subst (λ (s : List (EitherShared A B)). AreClosedOf s ends) is.shares all) out)

  -- there is room for their passes
  pub passes_fit : (ends : List (EitherClosed A B)) → AreClosedOf m.crew.shares.items ends → length m.passes.items + length ends ≤ vec_capacity m.passes
  passes_fit ends all =
      subst (λ (p : Vec Known Global). length p.items + length ends ≤ vec_capacity p) (sym is.passes)
      (let none = ap length can.channels.passes.0 in let fits = can.channels.passes.1 in let many = closed_many m.crew.shares.items ends all in let shared = shares_many in omega (arith, none, fits, many, shared))

  -- those are then the passes of the channels that were closed
  pub only_passes : (ends : List (EitherClosed A B)) (passes : List Known) → passes ≡ m.passes.items ++ map (λ (c : EitherClosed A B). pass_of c) ends
      → passes ≡ map (λ (c : EitherClosed A B). pass_of c) ends
  only_passes ends passes are =
      are ∙ ap (λ (l : List Known). l ++ map (λ (c : EitherClosed A B). pass_of c) ends) (ap (λ (v : Vec Known Global). v.items) is.passes ∙ can.channels.passes.0)

  labels_long : length m.labels.items ≡ length o.prepared.wishes.items
  labels_long = ap (λ (v : Vec ChannelLabel Global). length v.items) is.labels ∙ can.labels

  -- there is a label for each of them
  pub labels_fit : (ends : List (EitherClosed A B)) (passes : List Known) → AreClosedOf m.crew.shares.items ends
      → passes ≡ m.passes.items ++ map (λ (c : EitherClosed A B). pass_of c) ends → length m.labels.items ≡ length passes
  labels_fit ends passes all are =
      labels_long ∙ sym shares_many ∙ sym (closed_many m.crew.shares.items ends all) ∙ sym (length-map ends (λ (c : EitherClosed A B). pass_of c)) ∙ sym (ap length (only_passes ends passes are))

  -- and there is room for the channels with their passes
  pub ends_fit : IsEmptyFor (length m.labels.items) m.ends
  ends_fit =
      subst (λ (v : Vec ChannelEnd Global). IsEmptyFor (length m.labels.items) v) (sym is.ends)
      (can.channels.ends.0, subst (λ (n : ℕ). n ≤ vec_capacity o.channels.ends) (sym labels_long) can.channels.ends.1)

-- as many entries as channels
pub names_many : (plans : List ChannelPlan) (report : List (String Global × Counts)) → NamesOf plans report → length report ≡ length plans
names_many plans report names =
    sym (length-map report (λ (entry : String Global × Counts). string_bytes entry.0)) ∙ ap length names ∙ length-map plans (λ (plan : ChannelPlan). string_bytes plan.name)
