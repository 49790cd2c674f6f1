use Rattle.std.proofs.Common.{refl, ℕ, true, false, ◌≡◌}
use Rattle.event_core.specs.Content.{Content}
use Rattle.channel_face.specs.Machine.{State}
use Rattle.channel_face.specs.History.{opening, StandsFor, state_after}
use Rattle.shared_channel.specs.Ports.{Saw, SawAll}
use Rattle.channel_laws.specs.Rows.{start, history, own_of_first}
use Rattle.channel_laws.proofs.Worked.{run, first, second}
use Rattle.channel_laws.specs.PortRows.{pass, always}
use Rattle.channel_laws.proofs.rows.two_ports_and_one_flush.Goals as goal

abbrev last : Content → Content → State
last e f = state_after (opening start) (history e f)

saw_all : (number : ℕ) (e f : Content) → SawAll StandsFor always (pass number (history e f))
saw_all number e f = (last e f, record { calls = (history e f, (run e f, refl, refl), refl); run = run e f; same = refl })

first_left : (e f : Content) → Saw StandsFor (pass 0 (history e f)) (own_of_first e f) (last e f)
first_left e f = record { channel = last e f; calls = (history e f, (run e f, refl, refl), refl); own_all = refl; state = refl }

own : {A : Type 0} → true ≡ false → A
own h = let e : true ≡ false = h in cc

pub returns : goal.returns
returns g = λ e f. record {
  first_saw = saw_all 0 e f;
  second_saw = saw_all 1 e f;
  first_owned = refl;
  second_owned = refl;
  first = first (Saw StandsFor (pass 0 (history e f))) e f (first_left e f);
  second = second (Saw StandsFor (pass 1 (history e f))) e f;
  first_alone = (own, ((λ _. refl), (own, ((λ _. refl), (own, ((λ _. refl), ((λ _. refl), tt)))))));
  second_alone = ((λ _. refl), (own, ((λ _. refl), (own, ((λ _. refl), (own, (own, tt)))))));
}
