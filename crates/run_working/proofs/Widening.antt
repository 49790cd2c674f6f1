-- Rounds in a track are rounds in one with a longer history.
use Rattle.std.proofs.Common.{◌≡◌, ◌∙◌, ◌++◌, ℕ, List, [], ◌∷◌, length, Bool, true, false, Result, sym, ap, subst}
use mathlib.Core.List.{IsPrefix}
use Rattle.channel_face.specs.Faces.{Own}
use Rattle.channel_face.specs.History.{Step}
use Rattle.channel_face.specs.Machine.{State}
use Rattle.channel_face.specs.declared.replies.OpenCause.{OpenCause}
use Rattle.sink_runner.specs.declared.turn.Turn.{Turn}
use Rattle.sink_worker.specs.Answers.{needs_mend}
use Rattle.sink_worker.specs.Rounds.{MendsIf, Rounds, Taking, Told}
use Rattle.run_tracks.specs.Tracks.{Mended, Stood, Track, Turned}
use Rattle.run_tracks.proofs.Homing.{prefix_then}
use Rattle.run_tracks.proofs.Moving.{mend, turned}
use Rattle.run_tracks.proofs.Tracking.{prefix_short}

module _ (whole : List Step) where
  -- the track in this history
  abbrev pub wider : Track → Track
  wider t = record t { whole = whole }

  stood_wider : (t : Track) → IsPrefix t.whole whole → (own : List Own) (s : State) → Stood t own s → Stood (wider t) own s
  stood_wider t begins own s (front, within, calls, at) = (front, prefix_then front t.whole whole within begins, calls, at)

  module _ {S : Type 0} (sink : Told S) (most : ℕ) (D : Type 0) where
    abbrev pub widely : Taking Track S → Taking Track S
    widely a = record { from = wider a.from; sink = a.sink; moments = a.moments }

    turned_wider : (a b : Taking Track S) (turn : Turn) → IsPrefix a.from.whole whole → Turned sink most a turn b → Turned sink most (widely a) turn (widely b)
    turned_wider a b turn begins (moment, more, next, counts, calls, run) = (
      moment,
      more,
      next,
      counts,
      ap wider calls,
      turned (Stood a.from) (Stood (wider a.from)) (length a.from.whole) (length whole) (prefix_short a.from.whole whole begins) sink.delivers most moment a.sink turn b.sink a.from.own a.from.own more
          (λ x s seen. stood_wider a.from begins (a.from.own ++ x) s seen) run,
    )

    mended_wider : (a b : Taking Track S) (result : Result Bool OpenCause) → IsPrefix a.from.whole whole → Mended D a result b → Mended D (widely a) result (widely b)
    mended_wider a b result begins (more, same, calls, did) = (
      more,
      λ i. record { from = wider b.from; sink = (same i).sink; moments = (same i).moments },
      ap wider calls,
      mend (Stood a.from) (Stood (wider a.from)) (length a.from.whole) (length whole) (prefix_short a.from.whole whole begins) D D (λ x. x) (λ x. x) result a.from.own a.from.own more
          (λ x s seen. stood_wider a.from begins (a.from.own ++ x) s seen) did,
    )

    if_wider : (due : Bool) (a b : Taking Track S) → IsPrefix a.from.whole whole → MendsIf (Mended D) due a b → MendsIf (Mended D) due (widely a) (widely b)
    if_wider true a b begins (result, once) = (result, mended_wider a b result begins once)
    if_wider false a b begins none = ap widely none

    if_whole : (due : Bool) (a b : Taking Track S) → MendsIf (Mended D) due a b → b.from.whole ≡ a.from.whole
    if_whole true a b (result, once) = ap (λ (t : Track). t.whole) once.2
    if_whole false a b none = ap (λ (x : Taking Track S). x.from.whole) none

    -- rounds in a track's history are rounds in any history that it begins
    pub rounds_wider : (turns : List Turn) (a b : Taking Track S) → IsPrefix a.from.whole whole → Rounds (Turned sink most) (Mended D) turns a b → Rounds (Turned sink most) (Mended D) turns (widely a) (widely b)
    rounds_wider [] a b begins none = ap widely none
    rounds_wider (turn ∷ turns) a b begins (next, (between, one, due), others) =
        let here : between.from.whole ≡ a.from.whole = ap (λ (t : Track). t.whole) one.4 in
        let there : next.from.whole ≡ a.from.whole = if_whole (needs_mend turn) between next due ∙ here in (
          widely next,
          (widely between, turned_wider a between turn begins one, if_wider (needs_mend turn) between next (subst (λ (l : List Step). IsPrefix l whole) (sym here) begins) due),
          rounds_wider turns next b (subst (λ (l : List Step). IsPrefix l whole) (sym there) begins) others,
        )
