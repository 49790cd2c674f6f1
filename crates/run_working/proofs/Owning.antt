-- Passes that took others in keep their own numbers, and sinks whose passes came home.
use Rattle.std.proofs.Common.{◌≡◌, ◌<◌, ℕ, List, [], ◌∷◌, true, length, get_or, sym, subst, arith}
use Rattle.shared_channel.specs.Passes.{Known}
use Rattle.sink_worker.specs.declared.worker.SinkWorker.{SinkWorker}
use Rattle.channel_lock.specs.Calls.{has}
use Rattle.run_tracks.proofs.Homing.{has_numbers}
use Rattle.run_settling.specs.Draining.{IsSinkHome, OwnIsKept}
use Rattle.run_working.specs.Ends.{IsSinkEnded}
use Rattle.run_settling.specs.declared.at_home.AtHome.{AtHome}

-- passes at home that took others in have their own numbers still
pub own_kept : OwnIsKept
own_kept old new took own = λ place d below.
    let low : place < length old = let e = took.as_many in omega (arith, below, e) in
    subst (λ (n : ℕ). has (get_or new place d).view.numbers n ≡ true) (sym (took.number place d low)) ((took.each place d low).numbers (get_or old place d).number (own place d low))

-- where a sink's pass has one number, that is at home with it
pub ended_home : {F S C : Type 0} (pass : F → Known) (homes : List Known) (w : SinkWorker F S C) (back : SinkWorker AtHome S C)
    → (pass w.port).view.numbers ≡ (pass w.port).number ∷ [] → IsSinkEnded pass homes w back → IsSinkHome homes back
ended_home pass homes w back one gone = subst (λ (x : ℕ × ℕ). (x.0 < length homes) × ((d : Known) → has (get_or homes x.0 d).view.numbers x.1 ≡ true)) (λ i. (sym gone.channel i, sym gone.number i))
    (gone.took.0, λ d. has_numbers (get_or homes w.channel d) (pass w.port) (pass w.port).number (gone.took.1 d) one)
