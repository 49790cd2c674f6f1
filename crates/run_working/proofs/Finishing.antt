-- The passes at home of a run go on from the join of its workers until its channels are closed.
use Rattle.std.proofs.Common.{◌≡◌, ◌∙◌, ◌<◌, ℕ, zero, suc, List, [], ◌∷◌, Bool, Option, String, length, map, true, get_or, refl, sym, ap, subst, arith}
use Rattle.std.specs.declared.alloc.Global.{Global}
use mathlib.Core.List.{IsPrefix}
use Rattle.channel_face.specs.History.{Opening, Step}
use Rattle.channel_face.specs.Machine.{State}
use Rattle.channel_face.specs.declared.replies.Counts.{Counts}
use Rattle.shared_channel.specs.Passes.{Known}
use Rattle.sink_worker.specs.Rounds.{Told}
use Rattle.sink_worker.specs.declared.worker.SinkWorker.{SinkWorker}
use Rattle.channel_lock.specs.Calls.{calls_by, has}
use Rattle.channel_lock.specs.Views.{View}
use Rattle.channel_lock.proofs.Histories.{begins_self}
use Rattle.two_channels.specs.Shares.{pass_of}
use Rattle.two_channels.specs.declared.shared.EitherClosed.{EitherClosed}
use Rattle.two_channels.specs.declared.shared.EitherShared.{EitherShared}
use Rattle.run_tracks.specs.Closes.{AreClosed, IsClosed}
use Rattle.run_tracks.specs.Dealt.{HasNumber}
use Rattle.run_tracks.specs.Stops.{IsKept, IsMended}
use Rattle.run_settling.specs.Draining.{EachGoesOn, GoesOn, IsDrainedAt}
use Rattle.run_settling.specs.Settling.{AreSettled}
use Rattle.run_working.specs.Wholes.{IsSilent, StaysSilent}
use Rattle.run_settling.specs.declared.at_home.AtHome.{AtHome}
use Rattle.run_settling.specs.declared.settling.Settled.{Settled}
use Rattle.run_settling.proofs.Chaining.{each_goes_then}
use Rattle.run_working.proofs.Silence.{silent_then}
use Rattle.run_working.proofs.Stopping.{counts_silent, keeps_silent, mends_silent}

-- a member of a list that has one
one_of : {X : Type 0} (xs : List X) (place : ℕ) → place < length xs → X
one_of [] place below = absurd (omega (arith, below))
one_of (x ∷ xs) place below = x

module _ {A B : Type 0} (disk : A → Opening → List Step → Type 0) (tells : A → Bool) (memory : B → Opening → List Step → Type 0) (tells' : B → Bool) where
  -- a pass whose channel was closed has seen what it had
  closed_one : (share : EitherShared A B) (home : Known) (end : EitherClosed A B) → IsClosed disk tells memory tells' share home end → GoesOn home (pass_of end) × ((n : ℕ) → IsSilent n home (pass_of end))
  closed_one share home end is =
      let base = ap (λ (v : View). v.base) is.view in
      let begins : IsPrefix home.view.seen (pass_of end).view.seen = subst (λ (l : List Step). IsPrefix home.view.seen l) (sym (ap (λ (v : View). v.seen) is.view)) (begins_self home.view.seen) in (
        record { table = is.table; number = is.number; base = base; passes = ap (λ (v : View). v.passes) is.view; numbers = ap (λ (v : View). v.numbers) is.view; begins = begins },
        λ n. record { base = base; begins = begins; calls = ap (λ (v : View). calls_by (n ∷ []) v.seen) is.view },
      )

  record AreLeft (shares : List (EitherShared A B)) (homes ends : List Known) : Type 0 where
    as_many : length ends ≡ length homes
    shared : length shares ≡ length homes
    each : (place : ℕ) (d : Known) → place < length homes
        → GoesOn (get_or homes place d) (get_or ends place d) × ((n : ℕ) → IsSilent n (get_or homes place d) (get_or ends place d))

  one_more : (share : EitherShared A B) (shares : List (EitherShared A B)) (home : Known) (homes : List Known) (end : Known) (ends : List Known)
      → GoesOn home end × ((n : ℕ) → IsSilent n home end) → AreLeft shares homes ends → AreLeft (share ∷ shares) (home ∷ homes) (end ∷ ends)
  one_more share shares home homes end ends one left = record { as_many = ap suc left.as_many; shared = ap suc left.shared; each = here }
    where
      here : (place : ℕ) (d : Known) → place < length (home ∷ homes)
          → GoesOn (get_or (home ∷ homes) place d) (get_or (end ∷ ends) place d) × ((n : ℕ) → IsSilent n (get_or (home ∷ homes) place d) (get_or (end ∷ ends) place d))
      here zero d below = one
      here (suc place) d below = left.each place d (omega (arith, below))

  closed_left : (shares : List (EitherShared A B)) (homes : List Known) (ends : List (EitherClosed A B)) → AreClosed (IsClosed disk tells memory tells') shares homes ends
      → AreLeft shares homes (map pass_of ends)
  closed_left [] [] [] all = record { as_many = refl; shared = refl; each = λ place d below. absurd (omega (arith, below)) }
  closed_left [] [] (end ∷ ends) all = absurd all
  closed_left [] (home ∷ homes) ends all = absurd all
  closed_left (share ∷ shares) [] ends all = absurd all
  closed_left (share ∷ shares) (home ∷ homes) [] all = absurd all
  closed_left (share ∷ shares) (home ∷ homes) (end ∷ ends) all =
      one_more share shares home homes (pass_of end) (map pass_of ends) (closed_one share home end all.0) (closed_left shares homes ends all.1)

module _ {A B S C : Type 0} (sink : Told S) (moments : C → Option (ℕ → ℕ)) (disk : A → Opening → List Step → Type 0) (tells : A → Bool) (moment : A → ℕ)
    (laid : A → State → Type 0) (pruned : A → Type 0) (memory : B → Opening → List Step → Type 0) (tells' : B → Bool) (shares : List (EitherShared A B)) (homes : List Known) (workers : List (SinkWorker AtHome S C))
    (closes : List Bool) (names : List (String Global × Counts)) (settled : Settled S A B)
    (is : AreSettled (IsDrainedAt sink moments) (IsKept disk tells moment laid pruned) (IsMended disk tells moment) (IsClosed disk tells memory tells') shares homes workers closes names settled)
    (named : length names ≡ length homes) where
  abbrev pub finals : List Known
  finals = map pass_of settled.closed.items

  left : AreLeft disk tells memory tells' shares is.counted finals
  left = closed_left disk tells memory tells' shares is.counted settled.closed.items is.closed

  -- there is a share, and a name, for each
  share_at : (place : ℕ) → place < length homes → EitherShared A B
  share_at place below =
      let a = left.shared in let b = is.counts.as_many in let c = is.mends.as_many in let k = is.keeps.as_many in let d = is.goes_on.as_many in
      one_of shares place (omega (arith, a, b, c, k, d, below))

  was_home : (place : ℕ) → place < length is.drained → place < length homes
  was_home place below = let d = is.goes_on.as_many in omega (arith, d, below)

  was_drained : (place : ℕ) → place < length is.kept → place < length is.drained
  was_drained place below = let k = is.keeps.as_many in omega (arith, k, below)

  was_kept : (place : ℕ) → place < length is.mended → place < length is.kept
  was_kept place below = let c = is.mends.as_many in omega (arith, c, below)

  kept_on : EachGoesOn is.drained is.kept
  kept_on = record {
    as_many = is.keeps.as_many;
    each = λ place d below.
        (keeps_silent A B disk tells moment laid pruned (share_at place (was_home place below)) shares closes is.drained is.kept is.keeps).0.each place d below;
  }

  mended_on : EachGoesOn is.kept is.mended
  mended_on = record {
    as_many = is.mends.as_many;
    each = λ place d below.
        let low = was_home place (was_drained place below) in
        (mends_silent A B disk tells moment (share_at place low) shares is.kept is.mended settled.mends.items is.mends).0.each place d below;
  }

  counted_on : EachGoesOn is.mended is.counted
  counted_on = record {
    as_many = is.counts.as_many;
    each = λ place d below.
        let low = was_home place (was_drained place (was_kept place below)) in
        (counts_silent (one_of names place (omega (arith, named, low))) is.mended is.counted names settled.report.items is.counts).0.each place d below;
  }

  closed_on : EachGoesOn is.counted finals
  closed_on = record { as_many = left.as_many; each = λ place d below. (left.each place d below).0 }

  -- the passes at home go on from after the drainings until the channels are closed
  pub behind_on : EachGoesOn is.drained finals
  behind_on =
      each_goes_then is.drained is.kept finals kept_on
      (each_goes_then is.kept is.mended finals mended_on (each_goes_then is.mended is.counted finals counted_on closed_on))

  -- the passes at home go on from the join of the workers until the channels are closed
  pub all_on : EachGoesOn homes finals
  all_on = each_goes_then homes is.drained finals is.goes_on behind_on

  -- after the drainings no call was made with a number that the pass at home has but does not carry
  pub behind_silent : (place n : ℕ) → place < length homes → HasNumber homes place n → ((d : Known) → (get_or homes place d).number ≡ n → ⊥) → StaysSilent place n is.drained finals
  behind_silent place n below mine other d =
      let in_drained : place < length is.drained = let e = is.goes_on.as_many in omega (arith, below, e) in
      let in_kept : place < length is.kept = let e = is.keeps.as_many in omega (arith, in_drained, e) in
      let in_mended : place < length is.mended = let e = is.mends.as_many in omega (arith, in_kept, e) in
      let in_counted : place < length is.counted = let e = is.counts.as_many in omega (arith, in_mended, e) in
      let has_it : HasNumber is.drained place n = λ e. subst (λ (l : List ℕ). has l n ≡ true) (sym (is.goes_on.each place e below).numbers) (mine e) in
      let carries : (e : Known) → (get_or is.drained place e).number ≡ n → ⊥ = λ e same. other e (sym (is.goes_on.each place e below).number ∙ same) in
      let has_still : HasNumber is.kept place n = λ e. subst (λ (l : List ℕ). has l n ≡ true) (sym (kept_on.each place e in_drained).numbers) (has_it e) in
      let carries_still : (e : Known) → (get_or is.kept place e).number ≡ n → ⊥ = λ e same. carries e (sym (kept_on.each place e in_drained).number ∙ same) in
      let kept = (keeps_silent A B disk tells moment laid pruned (share_at place below) shares closes is.drained is.kept is.keeps).1 place n in_drained has_it carries d in
      let mended = (mends_silent A B disk tells moment (share_at place below) shares is.kept is.mended settled.mends.items is.mends).1 place n in_kept has_still carries_still d in
      let counted = (counts_silent (one_of names place (omega (arith, named, below))) is.mended is.counted names settled.report.items is.counts).1 place n in_mended d in
      let closed = (left.each place d in_counted).1 n in
      silent_then n (get_or is.drained place d) (get_or is.kept place d) (get_or finals place d) kept
      (silent_then n (get_or is.kept place d) (get_or is.mended place d) (get_or finals place d) mended
      (silent_then n (get_or is.mended place d) (get_or is.counted place d) (get_or finals place d) counted closed))
