-- Workers whose ports kept the channels and the numbers of their passes.
use Rattle.std.proofs.Common.{◌≡◌, ◌∙◌, ℕ, List, [], ◌∷◌, All, flat_map, get_or, refl, sym, subst}
use Rattle.std.proofs.lemmas.List.Elements.{All-append, All-cons, All-head, All-nil, All-tail}
use Rattle.atomic_table.specs.Seated.{TableId}
use Rattle.shared_channel.specs.Passes.{Known}
use Rattle.shared_channel.specs.Ports.{Later}
use Rattle.run_tracks.specs.Dealt.{HasNumber, Owner}
use Rattle.run_tracks.specs.Places.{AreAt, TookEach, Zips}
use Rattle.run_tracks.specs.Told.{IsNew}
use Rattle.run_tracks.proofs.Homing.{has_numbers}
use Rattle.run_staff.specs.Jobs.{owners_at}

-- a pass of the same channel with the same numbers
pub record Same (p q : Known) : Type 0 where
  pub table : q.table_id ≡ p.table_id
  pub numbers : q.view.numbers ≡ p.view.numbers

-- a pass is of its own channel and has its own numbers
pub same_self : (p : Known) → Same p p
same_self p = record { table = refl; numbers = refl }

-- after calls a pass is of the same channel and has the same numbers
pub same_later : (p q : Known) → Later p q → Same p q
same_later p q later = record { table = later.table; numbers = later.numbers }

module _ {F : Type 0} (pass : F → Known) where
  -- the ports of these passes
  abbrev pub AreSame : List Known → List F → Type 0
  AreSame passes ports = Zips (λ p port. Same p (pass port)) passes ports

  -- they are of the same channels
  pub same_at : {Z : Type 0} (table : Z → TableId) (shares : List Z) (places : List ℕ) (passes : List Known) (ports : List F)
      → AreSame passes ports → AreAt table shares (λ p. p) places passes → AreAt table shares pass places ports
  same_at table shares [] [] [] same at = tt
  same_at table shares [] [] (port ∷ ports) same at = absurd same
  same_at table shares [] (p ∷ passes) ports same at = absurd at
  same_at table shares (place ∷ places) [] ports same at = absurd at
  same_at table shares (place ∷ places) (p ∷ passes) [] same at = absurd same
  same_at table shares (place ∷ places) (p ∷ passes) (port ∷ ports) same at =
      (record { below = at.0.below; here = λ d. same.0.table ∙ at.0.here d }, same_at table shares places passes ports same.1 at.1)

  -- where they were taken in, their numbers are at home
  pub same_owned : (homes : List Known) (places : List ℕ) (passes : List Known) (ports : List F)
      → AreSame passes ports → All IsNew passes → TookEach homes pass places ports
      → All (λ o. HasNumber homes o.place o.number) (owners_at places passes)
  same_owned homes [] passes ports same new took = All-nil (λ (o : Owner). HasNumber homes o.place o.number)
  same_owned homes (place ∷ places) [] ports same new took = All-nil (λ (o : Owner). HasNumber homes o.place o.number)
  same_owned homes (place ∷ places) (p ∷ passes) [] same new took = absurd same
  same_owned homes (place ∷ places) (p ∷ passes) (port ∷ ports) same new took =
      All-cons (λ (o : Owner). HasNumber homes o.place o.number) (record { place = place; number = p.number }) (owners_at places passes)
      (λ d. has_numbers (get_or homes place d) (pass port) p.number (took.0.1 d) (same.0.numbers ∙ (All-head IsNew p passes new).0))
      (same_owned homes places passes ports same.1 (All-tail IsNew p passes new) took.1)

  -- workers of one kind, before they got their ports and after their run
  module _ {J W : Type 0} (places : J → List ℕ) (passes : J → List Known) (channels : W → List ℕ) (ports : W → List F) where
    pub record IsSameWorker (job : J) (w : W) : Type 0 where
      pub channels' : channels w ≡ places job
      pub ports' : AreSame (passes job) (ports w)

    -- after their run, workers of one kind have ports of their channels
    pub kind_at : {Z : Type 0} (table : Z → TableId) (shares : List Z) (jobs : List J) (ws : List W) → Zips IsSameWorker jobs ws
        → All (λ job. AreAt table shares (λ p. p) (places job) (passes job)) jobs → All (λ w. AreAt table shares pass (channels w) (ports w)) ws
    kind_at table shares [] [] same at = All-nil (λ (w : W). AreAt table shares pass (channels w) (ports w))
    kind_at table shares [] (w ∷ ws) same at = absurd same
    kind_at table shares (job ∷ jobs) [] same at = absurd same
    kind_at table shares (job ∷ jobs) (w ∷ ws) same at =
        let P = λ (job : J). AreAt table shares (λ p. p) (places job) (passes job) in
        All-cons (λ (w : W). AreAt table shares pass (channels w) (ports w)) w ws
        (subst (λ (cs : List ℕ). AreAt table shares pass cs (ports w)) (sym same.0.channels') (same_at table shares (places job) (passes job) (ports w) same.0.ports' (All-head P job jobs at)))
        (kind_at table shares jobs ws same.1 (All-tail P job jobs at))

    -- the numbers of their passes are at home, where each came back with something
    pub kind_owned : {E : Type 0} (Ended : W → E → Type 0) (homes : List Known) → ((w : W) (e : E) → Ended w e → TookEach homes pass (channels w) (ports w))
        → (jobs : List J) (ws : List W) (es : List E) → Zips IsSameWorker jobs ws → All (λ job. All IsNew (passes job)) jobs → Zips Ended ws es
        → All (λ o. HasNumber homes o.place o.number) (flat_map (λ job. owners_at (places job) (passes job)) jobs)
    kind_owned Ended homes took [] ws es same new ended = All-nil (λ (o : Owner). HasNumber homes o.place o.number)
    kind_owned Ended homes took (job ∷ jobs) [] es same new ended = absurd same
    kind_owned Ended homes took (job ∷ jobs) (w ∷ ws) [] same new ended = absurd ended
    kind_owned Ended homes took (job ∷ jobs) (w ∷ ws) (e ∷ es) same new ended =
        All-append (λ (o : Owner). HasNumber homes o.place o.number) (owners_at (places job) (passes job)) (flat_map (λ job. owners_at (places job) (passes job)) jobs)
        (same_owned homes (places job) (passes job) (ports w) same.0.ports' (All-head (λ (job : J). All IsNew (passes job)) job jobs new)
        (subst (λ (cs : List ℕ). TookEach homes pass cs (ports w)) same.0.channels' (took w e ended.0)))
        (kind_owned Ended homes took jobs ws es same.1 (All-tail (λ (job : J). All IsNew (passes job)) job jobs new) ended.1)

    -- the same of workers of which nothing else comes back
    pub kind_took : (Ended : W → Type 0) (homes : List Known) → ((w : W) → Ended w → TookEach homes pass (channels w) (ports w))
        → (jobs : List J) (ws : List W) → Zips IsSameWorker jobs ws → All (λ job. All IsNew (passes job)) jobs → All Ended ws
        → All (λ o. HasNumber homes o.place o.number) (flat_map (λ job. owners_at (places job) (passes job)) jobs)
    kind_took Ended homes took jobs ws same new ended =
        kind_owned (λ (w : W) (e : W). Ended w) homes (λ w e is. took w is) jobs ws ws same new (beside ws ended)
      where
        beside : (ws : List W) → All Ended ws → Zips (λ (w : W) (e : W). Ended w) ws ws
        beside [] all = tt
        beside (w ∷ ws) all = (All-head Ended w ws all, beside ws (All-tail Ended w ws all))
