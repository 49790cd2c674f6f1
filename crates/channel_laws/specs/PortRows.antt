-- The worked history of two callers, as the pass of each has seen it.
use Rattle.std.specs.Prelude.{◌≡◌, ℕ, List, [], ◌∷◌, Ok, Bool, true, false}
use Rattle.event_core.specs.Content.{Content}
use Rattle.channel_face.specs.Machine.{State, puts_of}
use Rattle.channel_face.specs.History.{Step, opening, StandsFor}
use Rattle.channel_face.specs.Faces.{IsPutBatch}
use Rattle.channel_lock.specs.Views.{View, nothing}
use Rattle.shared_channel.specs.Ports.{owned, Saw, SawAll}
use Rattle.channel_laws.specs.Rows.{start, token, history, own_of_first, own_of_second}
use Rattle.channel_laws.specs.Ports.{OthersKeep}

-- the pass of two with this number, which has seen this much
abbrev pub pass : ℕ → List Step → View
pass number seen = record { base = start; passes = 2; turn = false; seen = seen; live = true; numbers = number ∷ []; one = nothing; other = nothing; deals = false; dealt = 0 }

abbrev pub always : State → Bool
always s = true

-- All that the law of ports asks for holds of both, over the definition of a channel, which no crate implements as such; the pass's own calls are those by hand.
pub record TwoPortsOneFlush (e f : Content) : Type 0 where
  pub first_saw : SawAll StandsFor always (pass 0 (history e f))
  pub second_saw : SawAll StandsFor always (pass 1 (history e f))
  pub first_owned : owned (pass 0 (history e f)) ≡ own_of_first e f
  pub second_owned : owned (pass 1 (history e f)) ≡ own_of_second e f
  pub first : IsPutBatch (Saw StandsFor (pass 0 (history e f))) 7 (e ∷ []) (Ok 0) [] (own_of_first e f)
  pub second : IsPutBatch (Saw StandsFor (pass 1 (history e f))) 7 (f ∷ []) (Ok 1) [] (own_of_second e f)
  pub first_alone : OthersKeep (0 ∷ []) (λ s. puts_of s (token 1)) (opening start) (history e f)
  pub second_alone : OthersKeep (1 ∷ []) (λ s. puts_of s (token 2)) (opening start) (history e f)
