-- Passes that are dealt to workers one after the other.
use Rattle.std.proofs.Common.{◌≡◌, ◌∙◌, ◌+◌, ℕ, List, [], ◌∷◌, ◌++◌, append-nil, length, map, flat_map, refl, sym, ap, subst, arith}
use Rattle.std.proofs.lemmas.List.{map-append}
use Rattle.std.proofs.lemmas.Grind.{flat_map-append}
use Rattle.std.specs.declared.alloc.Global.{Global}
use Rattle.std.specs.declared.vec.Vec.{Vec}
use Rattle.keep_worker.specs.declared.worker.KeepWorker.{KeepWorker}
use Rattle.line_worker.specs.declared.worker.LineWorker.{LineWorker}
use Rattle.source_worker.specs.declared.worker.ListenWorker.{ListenWorker}
use Rattle.run_opening.specs.declared.seats.KeepSeat.{KeepSeat}
use Rattle.run_opening.specs.declared.seats.Seat.{Seat}
use Rattle.grouped_sinks.specs.declared.row.SinkRow.{SinkRow}
use Rattle.shared_channel.specs.Passes.{Known}
use Rattle.sink_worker.specs.declared.worker.SinkWorker.{SinkWorker}
use Rattle.run_opening.specs.Staff.{IsKeepOf, IsLineOf, IsListenOf, IsSinkOf, keep_channels, keep_ports, line_channels, line_ports, listen_channels, listen_ports, seat_channels, sink_channels, sink_ports}
use Rattle.run_tracks.specs.Deals.{Deals, DealsEach, Suffice, count_of, hand_at}
use Rattle.run_tracks.specs.Places.{Zips}
use Rattle.run_tracks.proofs.Handing.{one_left, count_joined}

flat_map_one : {A B : Type 0} (f : A → List B) (a : A) → flat_map f (a ∷ []) ≡ f a
flat_map_one f a = append-nil (f a)

module _ {J : Type 0} (channels : J → List ℕ) (ports : J → List Known) where
  -- one more worker gets its passes
  pub deals_last : (hands : List (List Known)) (jobs : List J) (job : J) (mid new : List (List Known)) → DealsEach channels ports hands jobs mid
      → Deals mid (channels job) (ports job) new → DealsEach channels ports hands (jobs ++ job ∷ []) new
  deals_last hands [] job mid new each one = (new, subst (λ (h : List (List Known)). Deals h (channels job) (ports job) new) each one, refl)
  deals_last hands (j ∷ jobs) job mid new each one = (each.0, each.1, deals_last each.0 jobs job mid new each.2 one)

-- each channel has so many fewer passes left as it was among the places
pub dealt_left : (hands : List (List Known)) (places : List ℕ) (passes : List Known) (new : List (List Known)) → Deals hands places passes new
    → (place : ℕ) → length (hand_at hands place) ≡ length (hand_at new place) + count_of place places
dealt_left hands [] [] new is place = let e = ap (λ (h : List (List Known)). length (hand_at h place)) is in omega (arith, e)
dealt_left hands [] (p ∷ passes) new is place = absurd is
dealt_left hands (at ∷ places) [] new is place = absurd is
dealt_left hands (at ∷ places) (pass ∷ passes) new is place =
    let one = one_left hands is.0 at pass is.1 place in
    let rest = dealt_left is.0 places passes new is.2 place in
    let sum = count_joined place (at ∷ []) places in
    omega (arith, one, rest, sum)

module _ {J : Type 0} (channels : J → List ℕ) (ports : J → List Known) where
  -- how many passes of each channel are left once some were dealt
  pub each_left : (hands : List (List Known)) (jobs : List J) (new : List (List Known)) → DealsEach channels ports hands jobs new
      → (place : ℕ) → length (hand_at hands place) ≡ length (hand_at new place) + count_of place (flat_map channels jobs)
  each_left hands [] new is place = let e = ap (λ (h : List (List Known)). length (hand_at h place)) is in omega (arith, e)
  each_left hands (job ∷ jobs) new is place =
      let one = dealt_left hands (channels job) (ports job) is.0 is.1 place in
      let rest = each_left is.0 jobs new is.2 place in
      let sum = count_joined place (channels job) (flat_map channels jobs) in
      omega (arith, one, rest, sum)

-- as many passes as places
pub deals_many : (hands : List (List Known)) (places : List ℕ) (passes : List Known) (new : List (List Known)) → Deals hands places passes new → length passes ≡ length places
deals_many hands [] [] new is = refl
deals_many hands [] (p ∷ passes) new is = absurd is
deals_many hands (at ∷ places) [] new is = absurd is
deals_many hands (at ∷ places) (pass ∷ passes) new is = let rest = deals_many is.0 places passes new is.2 in omega (arith, rest)

-- Where a list of places is in two parts, what suffices for both suffices for the first, and what is left for the second.
pub suffice_front : (hands : List (List Known)) (front back : List ℕ) → Suffice hands (front ++ back) → Suffice hands front
suffice_front hands front back enough = λ place. let e = enough place in let sum = count_joined place front back in omega (arith, e, sum)

-- where passes suffice for all, those left by the first suffice for the others
pub suffice_back : (hands mid : List (List Known)) (front back : List ℕ) → Suffice hands (front ++ back)
    → ((place : ℕ) → length (hand_at hands place) ≡ length (hand_at mid place) + count_of place front) → Suffice mid back
suffice_back hands mid front back enough left = λ place.
    let e = enough place in let l = left place in let sum = count_joined place front back in omega (arith, e, l, sum)

-- the passes that were put into a list without any
pub ports_dealt : (hands new : List (List Known)) (places channels : List ℕ) (before ports : List Known) → places ≡ channels → before ≡ []
    → (passes : List Known) × (ports ≡ before ++ passes) × Deals hands places passes new → Deals hands channels ports new × (length ports ≡ length channels)
ports_dealt hands new places channels before ports same none (passes, is, deals) =
    let all : ports ≡ passes = is ∙ ap (λ (l : List Known). l ++ passes) none in
    let dealt : Deals hands channels ports new = subst (λ (x : List ℕ × List Known). Deals hands x.0 x.1 new) (λ i. (same i, sym all i)) deals in
    (dealt, deals_many hands channels ports new dealt)

-- the places of channels that are kept, the last of them apart
pub last_keep : {C : Type 0} (hands : List (List Known)) (seats front : List (KeepSeat C)) (seat : KeepSeat C) → seats ≡ front ++ seat ∷ []
    → Suffice hands (map (λ (s : KeepSeat C). s.channel) seats) → Suffice hands (map (λ (s : KeepSeat C). s.channel) front ++ seat.channel ∷ [])
last_keep {C} hands seats front seat same enough =
    subst (Suffice hands) (ap (map (λ (s : KeepSeat C). s.channel)) same ∙ map-append (λ (s : KeepSeat C). s.channel) front (seat ∷ [])) enough

-- the workers that keep channels use the channels of their seats
pub keeps_places : {C : Type 0} (seats : List (KeepSeat C)) (jobs : List (KeepWorker Known C)) → Zips IsKeepOf seats jobs → flat_map keep_channels jobs ≡ map (λ (s : KeepSeat C). s.channel) seats
keeps_places [] [] of = refl
keeps_places [] (job ∷ jobs) of = absurd of
keeps_places (seat ∷ seats) [] of = absurd of
keeps_places (seat ∷ seats) (job ∷ jobs) of = λ i. of.0.channel i ∷ keeps_places seats jobs of.1 i

-- what is left for the last of them
pub keeps_left : {C : Type 0} (hands mid : List (List Known)) (seats front : List (KeepSeat C)) (seat : KeepSeat C) (jobs : List (KeepWorker Known C)) → seats ≡ front ++ seat ∷ []
    → Suffice hands (map (λ (s : KeepSeat C). s.channel) seats) → Zips IsKeepOf front jobs → DealsEach keep_channels keep_ports hands jobs mid → Suffice mid (seat.channel ∷ [])
keeps_left {C} hands mid seats front seat jobs same enough of dealt =
    suffice_back hands mid (map (λ (s : KeepSeat C). s.channel) front) (seat.channel ∷ []) (last_keep hands seats front seat same enough)
    (λ place. each_left keep_channels keep_ports hands jobs mid dealt place ∙ ap (λ (l : List ℕ). length (hand_at mid place) + count_of place l) (keeps_places front jobs of))

-- the places of the sinks of a plan, the last of them apart
pub last_plan : (hands : List (List Known)) (plans front : List SinkRow) (plan : SinkRow) → plans ≡ front ++ plan ∷ [] → Suffice hands (map (λ (p : SinkRow). p.channel) plans)
    → Suffice hands (map (λ (p : SinkRow). p.channel) front ++ plan.channel ∷ [])
last_plan hands plans front plan same enough =
    subst (Suffice hands) (ap (map (λ (p : SinkRow). p.channel)) same ∙ map-append (λ (p : SinkRow). p.channel) front (plan ∷ [])) enough

-- the workers of sinks use the channels of their plans
pub sinks_places : {S C : Type 0} (plans : List SinkRow) (jobs : List (SinkWorker Known S C)) → Zips IsSinkOf plans jobs → flat_map sink_channels jobs ≡ map (λ (p : SinkRow). p.channel) plans
sinks_places [] [] of = refl
sinks_places [] (job ∷ jobs) of = absurd of
sinks_places (plan ∷ plans) [] of = absurd of
sinks_places (plan ∷ plans) (job ∷ jobs) of = λ i. of.0.channel i ∷ sinks_places plans jobs of.1 i

-- what is left for the last sink
pub sinks_left : {S C : Type 0} (hands mid : List (List Known)) (plans front : List SinkRow) (plan : SinkRow) (jobs : List (SinkWorker Known S C)) → plans ≡ front ++ plan ∷ []
    → Suffice hands (map (λ (p : SinkRow). p.channel) plans) → Zips IsSinkOf front jobs → DealsEach sink_channels sink_ports hands jobs mid → Suffice mid (plan.channel ∷ [])
sinks_left hands mid plans front plan jobs same enough of dealt =
    suffice_back hands mid (map (λ (p : SinkRow). p.channel) front) (plan.channel ∷ []) (last_plan hands plans front plan same enough)
    (λ place. each_left sink_channels sink_ports hands jobs mid dealt place ∙ ap (λ (l : List ℕ). length (hand_at mid place) + count_of place l) (sinks_places front jobs of))

-- the places of the channels of workers, those of the last apart
pub last_seat : {K C : Type 0} (hands : List (List Known)) (seats front : List (Seat K C)) (seat : Seat K C) → seats ≡ front ++ seat ∷ [] → Suffice hands (flat_map seat_channels seats)
    → Suffice hands (flat_map seat_channels front ++ seat_channels seat)
last_seat hands seats front seat same enough =
    subst (Suffice hands)
    (ap (flat_map seat_channels) same ∙ flat_map-append seat_channels front (seat ∷ []) ∙ ap (λ (l : List ℕ). flat_map seat_channels front ++ l) (flat_map_one seat_channels seat))
    enough

-- the workers of listeners use the channels of their sources
pub listen_places : {N K C : Type 0} (seats : List (Seat K C)) (jobs : List (ListenWorker Known N C K)) → Zips IsListenOf seats jobs → flat_map listen_channels jobs ≡ flat_map seat_channels seats
listen_places [] [] of = refl
listen_places [] (job ∷ jobs) of = absurd of
listen_places (seat ∷ seats) [] of = absurd of
listen_places (seat ∷ seats) (job ∷ jobs) of =
    λ i. (ap (λ (v : Vec ℕ Global). v.items) of.0.channels) i ++ listen_places seats jobs of.1 i

-- the workers of lines use the channels of their sources
pub line_places : {I O K C : Type 0} (seats : List (Seat K C)) (jobs : List (LineWorker Known I O C K)) → Zips IsLineOf seats jobs → flat_map line_channels jobs ≡ flat_map seat_channels seats
line_places [] [] of = refl
line_places [] (job ∷ jobs) of = absurd of
line_places (seat ∷ seats) [] of = absurd of
line_places (seat ∷ seats) (job ∷ jobs) of =
    λ i. (ap (λ (v : Vec ℕ Global). v.items) of.0.channels) i ++ line_places seats jobs of.1 i

-- what is left for the last of them
pub listeners_left : {N K C : Type 0} (hands mid : List (List Known)) (seats front : List (Seat K C)) (seat : Seat K C) (jobs : List (ListenWorker Known N C K)) → seats ≡ front ++ seat ∷ []
    → Suffice hands (flat_map seat_channels seats) → Zips IsListenOf front jobs → DealsEach listen_channels listen_ports hands jobs mid → Suffice mid (seat_channels seat)
listeners_left hands mid seats front seat jobs same enough of dealt =
    suffice_back hands mid (flat_map seat_channels front) (seat_channels seat) (last_seat hands seats front seat same enough)
    (λ place. each_left listen_channels listen_ports hands jobs mid dealt place ∙ ap (λ (l : List ℕ). length (hand_at mid place) + count_of place l) (listen_places front jobs of))

-- the passes left by the other workers of lines suffice for the last one
pub lines_left : {I O K C : Type 0} (hands mid : List (List Known)) (seats front : List (Seat K C)) (seat : Seat K C) (jobs : List (LineWorker Known I O C K)) → seats ≡ front ++ seat ∷ []
    → Suffice hands (flat_map seat_channels seats) → Zips IsLineOf front jobs → DealsEach line_channels line_ports hands jobs mid → Suffice mid (seat_channels seat)
lines_left hands mid seats front seat jobs same enough of dealt =
    suffice_back hands mid (flat_map seat_channels front) (seat_channels seat) (last_seat hands seats front seat same enough)
    (λ place. each_left line_channels line_ports hands jobs mid dealt place ∙ ap (λ (l : List ℕ). length (hand_at mid place) + count_of place l) (line_places front jobs of))
