-- Passes that are dealt have numbers that go down to 1.
use Rattle.std.proofs.Common.{◌≡◌, ◌∙◌, ◌==◌, ◌+◌, ◌++◌, ℕ, true, List, [], ◌∷◌, flat_map, length, refl, sym, ap, subst, eq-eqb, arith}
use Rattle.std.proofs.lemmas.List.{append-nil}
use Rattle.std.proofs.lemmas.List.{append_assoc}
use Rattle.shared_channel.specs.Passes.{Known}
use Rattle.grouped_sinks.specs.declared.row.SinkRow.{SinkRow}
use Rattle.run_tracks.specs.Deals.{Deals, DealsEach, count_of, hand_at}
use Rattle.run_tracks.specs.Dealt.{Owner}
use Rattle.run_tracks.proofs.Handing.{count_joined, one_left}
use Rattle.run_opening.specs.Assembled.{IsStaff}
use Rattle.run_opening.specs.Labels.{numbered}
use Rattle.run_opening.specs.Prepared.{uses_of}
use Rattle.run_staff.specs.Jobs.{owners_at, owners_of}
use Rattle.run_opening.specs.Staff.{keep_channels, keep_ports, line_channels, line_ports, listen_channels, listen_ports, sink_channels, sink_ports}
use Rattle.run_opening.specs.declared.assemble.Parts.{Parts}
use Rattle.run_staff.specs.declared.workers.Workers.{Workers}
use Rattle.run_opening.proofs.Alone.{last_number, many_before, order_left}
use Rattle.run_opening.proofs.Fresh.{AreInOrder}
use Rattle.run_opening.proofs.Staffing.{keeps_places, line_places, listen_places, sinks_places}

one_here : (n : ℕ) → count_of n (n ∷ []) ≡ 1
one_here n = let is : (n == n) ≡ true = eq-eqb n n refl in rw is refl

-- the numbers of passes that are dealt for these places, where others follow
abbrev numbered_before : List ℕ → List ℕ → List Owner
numbered_before more [] = []
numbered_before more (place ∷ places) = record { place = place; number = count_of place (places ++ more) + 1 } ∷ numbered_before more places

-- those of two lists of places, one after the other
two_parts : (more a b : List ℕ) → numbered_before more (a ++ b) ≡ numbered_before (b ++ more) a ++ numbered_before more b
two_parts more [] b = refl
two_parts more (p ∷ a) b =
    λ i. record { place = p; number = count_of p (append_assoc a b more i) + 1 } ∷ two_parts more a b i

-- where none follow
none_follow : (places : List ℕ) → numbered_before [] places ≡ numbered places
none_follow [] = refl
none_follow (p ∷ places) = λ i. record { place = p; number = count_of p (append-nil places i) + 1 } ∷ none_follow places i

-- as many passes are left of each channel as it is among these places
abbrev Left : List (List Known) → List ℕ → Type 0
Left hands places = (place : ℕ) → length (hand_at hands place) ≡ count_of place places

-- these owners are numbered so, and as many are left as the others use
record WereNumbered (owners : List Owner) (places more : List ℕ) (new : List (List Known)) : Type 0 where
  numbers : owners ≡ numbered_before more places
  order : AreInOrder new
  left : Left new more

deals_numbered : (hands : List (List Known)) (places more : List ℕ) (passes : List Known) (new : List (List Known)) → Deals hands places passes new → AreInOrder hands → Left hands (places ++ more)
    → WereNumbered (owners_at places passes) places more new
deals_numbered hands [] more [] new is order left =
    record { numbers = refl; order = subst AreInOrder (sym is) order; left = subst (λ (h : List (List Known)). Left h more) (sym is) left }
deals_numbered hands [] more (p ∷ passes) new is order left = absurd is
deals_numbered hands (at ∷ places) more [] new is order left = absurd is
deals_numbered hands (at ∷ places) more (pass ∷ passes) new is order left =
    let d = is.1 in
    let others = places ++ more in
    let rest = deals_numbered is.0 places more passes new is.2 (order_left hands is.0 at pass d order) (λ place.
    let before = left place in
    let gone = one_left hands is.0 at pass d place in
    let parts = count_joined place (at ∷ []) others in
    omega (arith, before, gone, parts)) in
    let here : pass.number ≡ count_of at others + 1 =
    let last = last_number hands is.0 at pass d order in
    let many = many_before hands is.0 at pass d order in
    let all = left at in
    let one = one_here at in
    let parts = count_joined at (at ∷ []) others in
    omega (arith, last, many, all, one, parts) in
    record {
      numbers = λ i. record { place = at; number = here i } ∷ rest.numbers i;
      order = rest.order;
      left = rest.left;
    }

module _ {J : Type 0} (channels : J → List ℕ) (ports : J → List Known) where
  each_numbered : (hands : List (List Known)) (jobs : List J) (more : List ℕ) (new : List (List Known)) → DealsEach channels ports hands jobs new → AreInOrder hands
      → Left hands (flat_map channels jobs ++ more)
      → WereNumbered (flat_map (λ (j : J). owners_at (channels j) (ports j)) jobs) (flat_map channels jobs) more new
  each_numbered hands [] more new is order left =
      record { numbers = refl; order = subst AreInOrder (sym is) order; left = subst (λ (h : List (List Known)). Left h more) (sym is) left }
  each_numbered hands (job ∷ jobs) more new is order left =
      let a = channels job in
      let b = flat_map channels jobs in
      let first = deals_numbered hands a (b ++ more) (ports job) is.0 is.1 order (subst (Left hands) (append_assoc a b more) left) in
      let rest = each_numbered is.0 jobs more new is.2 first.order first.left in
      record {
        numbers = (λ i. first.numbers i ++ rest.numbers i) ∙ sym (two_parts more a b);
        order = rest.order;
        left = rest.left;
      }

module _ {S N I O C K : Type 0} (plans : List SinkRow) (parts : Parts S N I O C K) (hands : List (List Known)) (jobs : Workers Known S N I O C K)
    (staff : IsStaff plans parts hands jobs) (order : AreInOrder hands) (left : Left hands (uses_of parts.keepers.items plans parts.listeners.items parts.lines.items)) where
  -- the workers' passes have the numbers of their uses
  pub staff_numbered : owners_of jobs ≡ numbered (uses_of parts.keepers.items plans parts.listeners.items parts.lines.items)
  staff_numbered =
      let z = flat_map keep_channels jobs.keepers.items in
      let a = flat_map sink_channels jobs.sinks.items in
      let b = flat_map listen_channels jobs.listeners.items in
      let c = flat_map line_channels jobs.lines.items in
      let same : uses_of parts.keepers.items plans parts.listeners.items parts.lines.items ≡ z ++ (a ++ (b ++ c)) =
      λ i. sym (keeps_places parts.keepers.items jobs.keepers.items staff.keepers) i ++ (sym (sinks_places plans jobs.sinks.items staff.sinks) i
      ++ (sym (listen_places parts.listeners.items jobs.listeners.items staff.listeners) i ++ sym (line_places parts.lines.items jobs.lines.items staff.lines) i)) in
      let all : Left hands (z ++ (a ++ (b ++ (c ++ [])))) =
      subst (λ (l : List ℕ). Left hands (z ++ (a ++ (b ++ l)))) (sym (append-nil c)) (subst (Left hands) same left) in
      let zero = each_numbered keep_channels keep_ports hands jobs.keepers.items (a ++ (b ++ (c ++ []))) staff.behind_keepers staff.deals_keepers order all in
      let one = each_numbered sink_channels sink_ports staff.behind_keepers jobs.sinks.items (b ++ (c ++ [])) staff.behind_sinks staff.deals_sinks zero.order zero.left in
      let two = each_numbered listen_channels listen_ports staff.behind_sinks jobs.listeners.items (c ++ []) staff.behind_listeners staff.deals_listeners one.order one.left in
      let three = each_numbered line_channels line_ports staff.behind_listeners jobs.lines.items [] staff.last staff.deals_lines two.order two.left in
      let behind : numbered_before (b ++ (c ++ [])) a ++ (numbered_before (c ++ []) b ++ numbered_before [] c) ≡ numbered_before [] (a ++ (b ++ c)) =
      (λ i. numbered_before (sym (append_assoc b c []) i) a ++ sym (two_parts [] b c) i) ∙ sym (two_parts [] a (b ++ c)) in
      let more : a ++ (b ++ (c ++ [])) ≡ (a ++ (b ++ c)) ++ [] =
      ap (λ (l : List ℕ). a ++ l) (sym (append_assoc b c [])) ∙ sym (append_assoc a (b ++ c) []) in
      (λ i. zero.numbers i ++ (one.numbers i ++ (two.numbers i ++ three.numbers i)))
      ∙ (λ i. numbered_before (more i) z ++ behind i)
      ∙ sym (two_parts [] z (a ++ (b ++ c)))
      ∙ none_follow (z ++ (a ++ (b ++ c)))
      ∙ ap numbered (sym same)
