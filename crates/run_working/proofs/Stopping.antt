-- Passes at home that go on while channels are kept, mended and counted.
use Rattle.std.proofs.Common.{◌≡◌, ◌<◌, ℕ, List, Bool, Ok, false, length, get_or, refl, sym, subst}
use Rattle.channel_face.specs.History.{Opening, Step}
use Rattle.channel_face.specs.Machine.{State}
use Rattle.shared_channel.specs.Passes.{Known}
use Rattle.shared_channel.specs.Ports.{Later}
use Rattle.channel_lock.specs.Views.{saw}
use Rattle.channel_lock.proofs.Histories.{begins_self}
use Rattle.run_settling.specs.Draining.{GoesOn, under}
use Rattle.run_working.specs.Wholes.{CountsAreSilent, IsSilent, KeepsAreSilent, MendsAreSilent}
use Rattle.run_settling.proofs.GoingOn.{kept_go_on, kept_later, mended_go_on}
use Rattle.run_working.proofs.Silence.{silent_under}

-- so it is with the number that it carries
later_under : (p q : Known) → Later p q → Later (under p.number p) (under p.number q)
later_under p q later = subst (λ (k : Known). Later p k) (λ i. record q { number = later.number i }) later

-- keeping channels at the stop is silent of each number but the one that the pass at home carries
pub keeps_silent : (A B : Type 0) (disk : A → Opening → List Step → Type 0) (tells : A → Bool) (moment : A → ℕ) (laid : A → State → Type 0) (pruned : A → Type 0)
    → KeepsAreSilent A B disk tells moment laid pruned
keeps_silent A B disk tells moment laid pruned share shares closes old new did =
    let later : (place : ℕ) (d : Known) → place < length old → Later (get_or old place d) (get_or new place d) =
    λ place d below. kept_later disk tells moment laid pruned (get_or shares place share) (get_or closes place false) (get_or old place d) (get_or new place d) (did.each place share false d d below) in (
      kept_go_on A B disk tells moment laid pruned share shares closes old new did,
      λ place n below mine other d. silent_under n (get_or old place d).number (get_or old place d) (get_or new place d) (mine d) (other d) (later_under (get_or old place d) (get_or new place d) (later place d below)),
    )

-- mending channels at the stop is silent of each number but the one that the pass at home carries
pub mends_silent : (A B : Type 0) (disk : A → Opening → List Step → Type 0) (tells : A → Bool) (moment : A → ℕ) → MendsAreSilent A B disk tells moment
mends_silent A B disk tells moment share shares old new answers did = (
  mended_go_on A B disk tells moment share shares old new answers did,
  λ place n below mine other d. silent_under n (get_or old place d).number (get_or old place d) (get_or new place d) (mine d) (other d) (later_under (get_or old place d) (get_or new place d) (did.each place share d d (Ok false) below).later),
)

counted : (p q : Known) → q ≡ record p { view = saw p.view p.view.seen } → GoesOn p q × ((n : ℕ) → IsSilent n p q)
counted p q is = subst (λ (k : Known). GoesOn p k × ((n : ℕ) → IsSilent n p k)) (sym is) (
  record { table = refl; number = refl; base = refl; passes = refl; numbers = refl; begins = begins_self p.view.seen },
  λ n. record { base = refl; begins = begins_self p.view.seen; calls = refl },
)

-- counting channels is silent of each number
pub counts_silent : CountsAreSilent
counts_silent named old new before after did = (
  record { as_many = did.as_many; each = λ place d below. (counted (get_or old place d) (get_or new place d) (did.each place d d named named below).pass).0 },
  λ place n below d. (counted (get_or old place d) (get_or new place d) (did.each place d d named named below).pass).1 n,
)
