-- What the workers of sources are made of.
use Rattle.std.proofs.Common.{◌≡◌, ℕ, List, [], ◌∷◌, All, map, refl, sym, ap, subst}
use Rattle.std.proofs.lemmas.List.Elements.{All-cons, All-head, All-nil, All-tail}
use Rattle.agent_drafts.specs.declared.draft.SourceDraft.{SourceDraft}
use Rattle.run_opening.specs.Prepared.{IsSeat}
use Rattle.run_opening.specs.Staff.{IsRoomy}
use Rattle.run_opening.specs.declared.seats.Seat.{Seat}

-- the sources of the drafts are those of the seats
pub draft_sources : {K C : Type 0} (seats : List (Seat K C)) → map (λ (seat : Seat K C). seat.draft.source) seats ≡ map (λ (draft : SourceDraft K). draft.source) (map (λ (seat : Seat K C). seat.draft) seats)
draft_sources [] = refl
draft_sources (seat ∷ seats) = ap (λ (l : List ℕ). seat.draft.source ∷ l) (draft_sources seats)

-- a draft that has what it asks for, and room: so has its seat
seats_each : {K C : Type 0} (count : ℕ) (Is : SourceDraft K → Type 0) → ((seat : Seat K C) → Is seat.draft → IsRoomy seat → IsSeat count seat)
    → (seats : List (Seat K C)) → All Is (map (λ (seat : Seat K C). seat.draft) seats) → All IsRoomy seats → All (IsSeat count) seats
seats_each count Is f [] all roomy = All-nil (IsSeat count)
seats_each {K} {C} count Is f (seat ∷ seats) all roomy =
    let drafts = map (λ (seat : Seat K C). seat.draft) seats in
    All-cons (IsSeat count) seat seats (f seat (All-head Is seat.draft drafts all) (All-head IsRoomy seat seats roomy))
    (seats_each count Is f seats (All-tail Is seat.draft drafts all) (All-tail IsRoomy seat seats roomy))

-- drafts that are fit, with room for their passes, are all that the workers need
pub are_seats : {K C : Type 0} (count : ℕ) (Is : SourceDraft K → Type 0) → ((seat : Seat K C) → Is seat.draft → IsRoomy seat → IsSeat count seat)
    → (drafts : List (SourceDraft K)) (seats : List (Seat K C)) → map (λ (seat : Seat K C). seat.draft) seats ≡ drafts → All Is drafts → All IsRoomy seats → All (IsSeat count) seats
are_seats count Is f drafts seats are all roomy = seats_each count Is f seats (subst (λ (l : List (SourceDraft _)). All Is l) (sym are) all) roomy

-- what is true of the drafts
lined_each : {K C : Type 0} (Is : SourceDraft K → Type 0) (seats : List (Seat K C)) → All Is (map (λ (seat : Seat K C). seat.draft) seats) → All (λ (seat : Seat K C). Is seat.draft) seats
lined_each {K} {C} Is [] all = All-nil (λ (seat : Seat K C). Is seat.draft)
lined_each {K} {C} Is (seat ∷ seats) all =
    let drafts = map (λ (seat : Seat K C). seat.draft) seats in
    All-cons (λ (seat : Seat K C). Is seat.draft) seat seats (All-head Is seat.draft drafts all) (lined_each Is seats (All-tail Is seat.draft drafts all))

-- what is true of each draft is true of that of each seat
pub are_lined : {K C : Type 0} (Is : SourceDraft K → Type 0) (drafts : List (SourceDraft K)) (seats : List (Seat K C)) → map (λ (seat : Seat K C). seat.draft) seats ≡ drafts → All Is drafts
    → All (λ (seat : Seat K C). Is seat.draft) seats
are_lined Is drafts seats are all = lined_each Is seats (subst (λ (l : List (SourceDraft _)). All Is l) (sym are) all)
