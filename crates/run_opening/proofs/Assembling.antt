-- The passes of a run are dealt to the workers of its channels, its sinks, its listeners and its workers of lines.
use Rattle.std.proofs.Common.{◌≡◌, ◌∙◌, ◌++◌, ◌+◌, ℕ, List, [], ◌∷◌, length, map, flat_map, refl, ap, arith}
use Rattle.grouped_sinks.specs.declared.row.SinkRow.{SinkRow}
use Rattle.keep_worker.specs.declared.worker.KeepWorker.{KeepWorker}
use Rattle.line_worker.specs.declared.worker.LineWorker.{LineWorker}
use Rattle.shared_channel.specs.Passes.{Known}
use Rattle.sink_worker.specs.declared.worker.SinkWorker.{SinkWorker}
use Rattle.source_worker.specs.declared.worker.ListenWorker.{ListenWorker}
use Rattle.run_tracks.specs.Deals.{DealsEach, Suffice, count_of, hand_at}
use Rattle.run_tracks.specs.Places.{Zips}
use Rattle.run_tracks.proofs.Handing.{count_joined}
use Rattle.run_opening.specs.Prepared.{uses_of}
use Rattle.run_opening.specs.Staff.{IsKeepOf, IsLineOf, IsListenOf, IsSinkOf, keep_channels, keep_ports, line_channels, line_ports, listen_channels, listen_ports, seat_channels, sink_channels, sink_ports}
use Rattle.run_opening.specs.declared.seats.KeepSeat.{KeepSeat}
use Rattle.run_opening.specs.declared.seats.Seat.{Seat}
use Rattle.run_opening.proofs.Staffing.{each_left, keeps_places, line_places, listen_places, sinks_places, suffice_back, suffice_front}

is_none : (l : List Known) → length l ≡ 0 → l ≡ []
is_none [] none = refl
is_none (p ∷ l) none = absurd (omega (arith, none))

abbrev channels_of : List SinkRow → List ℕ
channels_of plans = map (λ (p : SinkRow). p.channel) plans

abbrev kept_channels : {C : Type 0} → List (KeepSeat C) → List ℕ
kept_channels {C} seats = map (λ (s : KeepSeat C). s.channel) seats

module _ {K C : Type 0} (keepers : List (KeepSeat C)) (plans : List SinkRow) (listeners lines : List (Seat K C)) (hands : List (List Known))
    (undealt : (place : ℕ) → length (hand_at hands place) ≡ count_of place (uses_of keepers plans listeners lines)) where
  abbrev others : List ℕ
  others = flat_map seat_channels listeners ++ flat_map seat_channels lines

  abbrev behind : List ℕ
  behind = channels_of plans ++ others

  all_enough : Suffice hands (kept_channels keepers ++ behind)
  all_enough place = let u : length (hand_at hands place) ≡ count_of place (kept_channels keepers ++ behind) = undealt place in omega (arith, u)

  -- there are passes enough for the workers that keep channels
  pub keepers_enough : Suffice hands (kept_channels keepers)
  keepers_enough = suffice_front hands (kept_channels keepers) behind all_enough

  module _ (kept : List (KeepWorker Known C)) (zeroth : List (List Known)) (of_kept : Zips IsKeepOf keepers kept)
      (dealt_kept : DealsEach keep_channels keep_ports hands kept zeroth) where
    behind_keepers : (place : ℕ) → length (hand_at hands place) ≡ length (hand_at zeroth place) + count_of place (kept_channels keepers)
    behind_keepers place =
        each_left keep_channels keep_ports hands kept zeroth dealt_kept place
        ∙ ap (λ (l : List ℕ). length (hand_at zeroth place) + count_of place l) (keeps_places keepers kept of_kept)

    behind_enough : Suffice zeroth behind
    behind_enough = suffice_back hands zeroth (kept_channels keepers) behind all_enough behind_keepers

    -- after those, there are passes enough for the sinks
    pub sinks_enough : Suffice zeroth (channels_of plans)
    sinks_enough = suffice_front zeroth (channels_of plans) others behind_enough

    module _ {S : Type 0} (sinks : List (SinkWorker Known S C)) (first : List (List Known)) (of : Zips IsSinkOf plans sinks)
        (dealt : DealsEach sink_channels sink_ports zeroth sinks first) where
      behind_sinks : (place : ℕ) → length (hand_at zeroth place) ≡ length (hand_at first place) + count_of place (channels_of plans)
      behind_sinks place =
          each_left sink_channels sink_ports zeroth sinks first dealt place
          ∙ ap (λ (l : List ℕ). length (hand_at first place) + count_of place l) (sinks_places plans sinks of)

      others_enough : Suffice first others
      others_enough = suffice_back zeroth first (channels_of plans) others behind_enough behind_sinks

      -- after the sinks, there are passes enough for the listeners
      pub listeners_enough : Suffice first (flat_map seat_channels listeners)
      listeners_enough = suffice_front first (flat_map seat_channels listeners) (flat_map seat_channels lines) others_enough

      module _ {N : Type 0} (hearers : List (ListenWorker Known N C K)) (second : List (List Known)) (of' : Zips IsListenOf listeners hearers)
          (dealt' : DealsEach listen_channels listen_ports first hearers second) where
        behind_listeners : (place : ℕ) → length (hand_at first place) ≡ length (hand_at second place) + count_of place (flat_map seat_channels listeners)
        behind_listeners place =
            each_left listen_channels listen_ports first hearers second dealt' place
            ∙ ap (λ (l : List ℕ). length (hand_at second place) + count_of place l) (listen_places listeners hearers of')

        -- after the listeners, there are passes enough for the workers of lines
        pub lines_enough : Suffice second (flat_map seat_channels lines)
        lines_enough = suffice_back first second (flat_map seat_channels listeners) (flat_map seat_channels lines) others_enough behind_listeners

        module _ {I O : Type 0} (readers : List (LineWorker Known I O C K)) (third : List (List Known)) (of'' : Zips IsLineOf lines readers)
            (dealt'' : DealsEach line_channels line_ports second readers third) where
          -- after all workers, no pass is left to be dealt
          pub none_left : (place : ℕ) → hand_at third place ≡ []
          none_left place =
              let last = each_left line_channels line_ports second readers third dealt'' place
              ∙ ap (λ (l : List ℕ). length (hand_at third place) + count_of place l) (line_places lines readers of'') in
              let a : length (hand_at hands place) ≡ count_of place (kept_channels keepers ++ behind) = undealt place in
              let k = behind_keepers place in
              let b = behind_sinks place in
              let c = behind_listeners place in
              let d = count_joined place (kept_channels keepers) behind in
              let e = count_joined place (channels_of plans) others in
              let f = count_joined place (flat_map seat_channels listeners) (flat_map seat_channels lines) in
              is_none (hand_at third place) (omega (arith, last, a, k, b, c, d, e, f))
