-- Passes that are dealt have numbers of their own.
use Rattle.std.proofs.Common.{◌≡◌, ◌∙◌, ◌<◌, ◌≤◌, ◌+◌, ◌++◌, ℕ, suc, List, [], ◌∷◌, flat_map, length, length-append, get_or, set, refl, sym, ap, subst, arith}
use mathlib.Core.Logic.{dite}
use native.Mathlib.Decide.{ℕ_discrete}
use Rattle.std.specs.List.{AllByRecursion}
use Rattle.std.proofs.lemmas.List.{get_or-set_other, get_or-set_same, get_or_append_left, get_or_push}
use Rattle.std.proofs.lemmas.List.Elements.{All-from_recursion}
use Rattle.shared_channel.specs.Passes.{Known}
use Rattle.keep_worker.specs.declared.worker.KeepWorker.{KeepWorker}
use Rattle.sink_worker.specs.declared.worker.SinkWorker.{SinkWorker}
use Rattle.source_worker.specs.declared.worker.ListenWorker.{ListenWorker}
use Rattle.line_worker.specs.declared.worker.LineWorker.{LineWorker}
use Rattle.grouped_sinks.specs.declared.row.SinkRow.{SinkRow}
use Rattle.channel_wishes.specs.declared.opened.OpenedChannel.{OpenedChannel}
use Rattle.channel_wishes.specs.declared.wish.ChannelWish.{ChannelWish}
use Rattle.run_tracks.specs.Deals.{Deals, DealsEach, Draws, hand_at}
use Rattle.run_tracks.specs.Dealt.{Owner}
use Rattle.run_tracks.proofs.Handing.{one_left}
use Rattle.run_staff.specs.Alone.{AllDiffer, AreAlone, Differ, IsAway}
use Rattle.run_opening.specs.Assembled.{IsStaff}
use Rattle.run_staff.specs.Jobs.{owners_at, owners_of}
use Rattle.run_opening.specs.Staff.{keep_channels, keep_ports, line_channels, line_ports, listen_channels, listen_ports, sink_channels, sink_ports}
use Rattle.run_opening.specs.declared.assemble.Parts.{Parts}
use Rattle.run_staff.specs.declared.workers.Workers.{Workers}
use Rattle.run_opening.proofs.Fresh.{AreFresh, AreInOrder, hands, home_numbered, home_there, homes, in_order}

-- the worker's number is above those that are left, and was among those before
record IsBetween (old new : List (List Known)) (o : Owner) : Type 0 where
  more : length (hand_at new o.place) < o.number
  most : o.number ≤ length (hand_at old o.place)

-- These workers got their passes: what is left is in order, and no two have one number in one channel.
record WereDealt (old : List (List Known)) (owners : List Owner) (new : List (List Known)) : Type 0 where
  order : AreInOrder new
  fewer : (place : ℕ) → length (hand_at new place) ≤ length (hand_at old place)
  between : AllByRecursion (IsBetween old new) owners
  apart : AllDiffer owners

none_dealt : (hands' : List (List Known)) → AreInOrder hands' → WereDealt hands' [] hands'
none_dealt hands' order = record { order = order; fewer = λ place. omega arith; between = tt; apart = tt }

-- ---- one pass

module _ (old new : List (List Known)) (at : ℕ) (pass : Known) (d : Draws old at pass new) (order : AreInOrder old) where
  -- one more was there before
  pub many_before : length (hand_at old at) ≡ length d.rest + 1
  many_before = ap length d.last ∙ length-append d.rest (pass ∷ [])

  left_here : (place : ℕ) → place ≡ at → hand_at new place ≡ d.rest
  left_here place same = ap (λ (n : List (List Known)). hand_at n place) d.left ∙ ap (λ (k : ℕ). get_or (set old at d.rest) k []) same ∙ get_or-set_same old at d.rest [] d.there

  left_there : (place : ℕ) → (place ≡ at → ⊥) → hand_at new place ≡ hand_at old place
  left_there place other = ap (λ (n : List (List Known)). hand_at n place) d.left ∙ get_or-set_other old at place d.rest [] other

  -- the last of a channel's passes has the highest number
  pub last_number : pass.number ≡ suc (length d.rest)
  last_number =
      let in_hand = order at (length d.rest) pass (omega (arith, many_before)) in
      ap (λ (p : Known). p.number) (sym (get_or_push d.rest pass pass (length d.rest) refl))
      ∙ ap (λ (l : List Known). (get_or l (length d.rest) pass).number) (sym d.last) ∙ in_hand

  -- what is left is in order
  pub order_left : AreInOrder new
  order_left place i e below = dite (ℕ_discrete place at)
      (λ same.
      let left = left_here place same in
      let low : i < length d.rest = omega (arith, below, ap length left) in
      ap (λ (l : List Known). (get_or l i e).number) left
      ∙ ap (λ (p : Known). p.number) (sym (get_or_append_left d.rest (pass ∷ []) e i low))
      ∙ ap (λ (l : List Known). (get_or l i e).number) (sym d.last)
      ∙ order at i e (omega (arith, low, many_before)))
      (λ other.
      let left = left_there place other in
      ap (λ (l : List Known). (get_or l i e).number) left ∙ order place i e (omega (arith, below, ap length left)))

  one_dealt : WereDealt old (record { place = at; number = pass.number } ∷ []) new
  one_dealt = record {
    order = order_left;
    fewer = λ place. let one = one_left old new at pass d place in omega (arith, one);
    between = (
      record { more = omega (arith, last_number, ap length (left_here at refl)); most = omega (arith, last_number, many_before) },
      tt,
    );
    apart = (tt, tt);
  }

-- ---- one after the other

module _ (a b c : List (List Known)) where
  between_later : (os : List Owner) → ((place : ℕ) → length (hand_at c place) ≤ length (hand_at b place)) → AllByRecursion (IsBetween a b) os → AllByRecursion (IsBetween a c) os
  between_later [] fewer all = tt
  between_later (o ∷ os) fewer all = (
    record { more = let l = fewer o.place in let m = all.0.more in omega (arith, l, m); most = all.0.most },
    between_later os fewer all.1,
  )

  between_both : (os ps : List Owner) → ((place : ℕ) → length (hand_at b place) ≤ length (hand_at a place)) → AllByRecursion (IsBetween a c) os → AllByRecursion (IsBetween b c) ps
      → AllByRecursion (IsBetween a c) (os ++ ps)
  between_both [] [] fewer all others = tt
  between_both [] (p ∷ ps) fewer all others = (
    record { more = others.0.more; most = let l = fewer p.place in let m = others.0.most in omega (arith, l, m) },
    between_both [] ps fewer all others.1,
  )
  between_both (o ∷ os) ps fewer all others = (all.0, between_both os ps fewer all.1 others)

  -- what was dealt later has a lower number
  differ_later : (o : Owner) (os ps : List Owner) → IsBetween a b o → AllByRecursion (Differ o) os → AllByRecursion (IsBetween b c) ps → AllByRecursion (Differ o) (os ++ ps)
  differ_later o [] [] is all others = tt
  differ_later o [] (p ∷ ps) is all others = (
    λ place number.
        let low : p.number ≤ length (hand_at b o.place) = subst (λ (k : ℕ). p.number ≤ length (hand_at b k)) place others.0.most in
        let high = is.more in
        absurd (omega (arith, low, high, number)),
    differ_later o [] ps is all others.1,
  )
  differ_later o (q ∷ os) ps is all others = (all.0, differ_later o os ps is all.1 others)

  differ_both : (os ps : List Owner) → AllByRecursion (IsBetween a b) os → AllDiffer os → AllByRecursion (IsBetween b c) ps → AllDiffer ps → AllDiffer (os ++ ps)
  differ_both [] ps is apart others apart' = apart'
  differ_both (o ∷ os) ps is apart others apart' = (differ_later o os ps is.0 apart.0 others, differ_both os ps is.1 apart.1 others apart')

  dealt_then : (os ps : List Owner) → WereDealt a os b → WereDealt b ps c → WereDealt a (os ++ ps) c
  dealt_then os ps f g = record {
    order = g.order;
    fewer = λ place. let l = f.fewer place in let m = g.fewer place in omega (arith, l, m);
    between = between_both os ps f.fewer (between_later os g.fewer f.between) g.between;
    apart = differ_both os ps f.between f.apart g.between g.apart;
  }

-- ---- each worker

deals_alone : (hands' : List (List Known)) (places : List ℕ) (passes : List Known) (new : List (List Known)) → Deals hands' places passes new → AreInOrder hands'
    → WereDealt hands' (owners_at places passes) new
deals_alone hands' [] [] new is order = subst (WereDealt hands' []) (sym is) (none_dealt hands' order)
deals_alone hands' [] (p ∷ passes) new is order = absurd is
deals_alone hands' (at ∷ places) [] new is order = absurd is
deals_alone hands' (at ∷ places) (pass ∷ passes) new is order =
    let one = one_dealt hands' is.0 at pass is.1 order in
    dealt_then hands' is.0 new (record { place = at; number = pass.number } ∷ []) (owners_at places passes) one (deals_alone is.0 places passes new is.2 one.order)

module _ {J : Type 0} (channels : J → List ℕ) (ports : J → List Known) where
  each_alone : (hands' : List (List Known)) (jobs : List J) (new : List (List Known)) → DealsEach channels ports hands' jobs new → AreInOrder hands'
      → WereDealt hands' (flat_map (λ (j : J). owners_at (channels j) (ports j)) jobs) new
  each_alone hands' [] new is order = subst (WereDealt hands' []) (sym is) (none_dealt hands' order)
  each_alone hands' (job ∷ jobs) new is order =
      let one = deals_alone hands' (channels job) (ports job) is.0 is.1 order in
      dealt_then hands' is.0 new (owners_at (channels job) (ports job)) (flat_map (λ (j : J). owners_at (channels j) (ports j)) jobs) one (each_alone is.0 jobs new is.2 one.order)

module _ {S N I O C K : Type 0} (plans : List SinkRow) (parts : Parts S N I O C K) (hands' : List (List Known)) (jobs : Workers Known S N I O C K)
    (staff : IsStaff plans parts hands' jobs) (order : AreInOrder hands') where
  staff_dealt : WereDealt hands' (owners_of jobs) staff.last
  staff_dealt =
      let z : List Owner = flat_map (λ (k : KeepWorker Known C). owners_at (keep_channels k) (keep_ports k)) jobs.keepers.items in
      let a : List Owner = flat_map (λ (s : SinkWorker Known S C). owners_at (sink_channels s) (sink_ports s)) jobs.sinks.items in
      let b : List Owner = flat_map (λ (l : ListenWorker Known N C K). owners_at (listen_channels l) (listen_ports l)) jobs.listeners.items in
      let c : List Owner = flat_map (λ (l : LineWorker Known I O C K). owners_at (line_channels l) (line_ports l)) jobs.lines.items in
      let zero = each_alone keep_channels keep_ports hands' jobs.keepers.items staff.behind_keepers staff.deals_keepers order in
      let one = each_alone sink_channels sink_ports staff.behind_keepers jobs.sinks.items staff.behind_sinks staff.deals_sinks zero.order in
      let two = each_alone listen_channels listen_ports staff.behind_sinks jobs.listeners.items staff.behind_listeners staff.deals_listeners one.order in
      let three = each_alone line_channels line_ports staff.behind_listeners jobs.lines.items staff.last staff.deals_lines two.order in
      dealt_then hands' staff.behind_keepers staff.last z (a ++ (b ++ c)) zero
      (dealt_then staff.behind_keepers staff.behind_sinks staff.last a (b ++ c) one (dealt_then staff.behind_sinks staff.behind_listeners staff.last b c two three))

-- ---- the passes of channels that were opened

module _ {A B : Type 0} (wishes : List ChannelWish) (cs : List (OpenedChannel A B)) (fresh : AreFresh wishes cs) (last : List (List Known)) where
  away_one : (o : Owner) → IsBetween (hands wishes cs fresh) last o → IsAway (homes wishes cs fresh) o
  away_one o is =
      let more = is.more in
      let most = is.most in
      let there : o.place < length (homes wishes cs fresh) = home_there wishes cs fresh o.place (omega (arith, more, most)) in
      record {
        there = there;
        below = λ d. let passes = (home_numbered wishes cs fresh o.place d there).1 in omega (arith, passes, most);
        other = λ d same. let first = (home_numbered wishes cs fresh o.place d there).0 in omega (arith, first, same, more);
      }

  away_all : (os : List Owner) → AllByRecursion (IsBetween (hands wishes cs fresh) last) os → AllByRecursion (IsAway (homes wishes cs fresh)) os
  away_all [] all = tt
  away_all (o ∷ os) all = (away_one o all.0, away_all os all.1)

-- no worker has the number of another or of the pass at home
pub are_alone : {A B S N I O C K : Type 0} (wishes : List ChannelWish) (cs : List (OpenedChannel A B)) (fresh : AreFresh wishes cs) (plans : List SinkRow) (parts : Parts S N I O C K)
    (jobs : Workers Known S N I O C K) → IsStaff plans parts (hands wishes cs fresh) jobs → AreAlone (homes wishes cs fresh) (owners_of jobs)
are_alone wishes cs fresh plans parts jobs staff =
    let dealt = staff_dealt plans parts (hands wishes cs fresh) jobs staff (in_order wishes cs fresh) in
    record {
      away = All-from_recursion (IsAway (homes wishes cs fresh)) (owners_of jobs) (away_all wishes cs fresh staff.last (owners_of jobs) dealt.between);
      apart = dealt.apart;
    }
