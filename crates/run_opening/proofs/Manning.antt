-- What a run needs for its workers, in parts.
use Rattle.std.proofs.Common.{◌≡◌, ◌∙◌, ◌≤◌, ℕ, List, [], ◌∷◌, All, None, sym, ap, subst, arith}
use Rattle.std.specs.List.{AllByRecursion}
use Rattle.std.proofs.lemmas.List.Elements.{All-from_recursion, recursion_from_All}
use Rattle.flume_host.specs.HostState.{HostState}
use Rattle.agent_drafts.specs.Fits.{IsFit}
use Rattle.run_opening.specs.Assembled.{AreFit}
use Rattle.run_opening.specs.Prepared.{IsSeat}
use Rattle.run_opening.specs.Staff.{IsRoomy}
use Rattle.run_opening.specs.Streams.{IsButTaken}
use Rattle.run_opening.specs.declared.assemble.Parts.{Parts}
use Rattle.run_opening.specs.declared.seats.Seat.{Seat}

halves : {X : Type 0} (P Q : X → Type 0) (xs : List X) → AllByRecursion (λ (x : X). P x × Q x) xs → AllByRecursion P xs × AllByRecursion Q xs
halves P Q [] all = (tt, tt)
halves P Q (x ∷ xs) all = let rest = halves P Q xs all.1 in ((all.0.0, rest.0), (all.0.1, rest.1))

-- workers of sources that have all they ask for fit the channels
pub seats_fit : {K C : Type 0} (count : ℕ) (seats : List (Seat K C)) → All (IsSeat count) seats → All (λ (s : Seat K C). IsFit count s.draft) seats
seats_fit {K} {C} count seats all =
    All-from_recursion (λ (s : Seat K C). IsFit count s.draft) seats (halves (λ (s : Seat K C). IsFit count s.draft) (λ (s : Seat K C). IsRoomy s) seats (recursion_from_All (λ (s : Seat K C). IsSeat count s) seats all)).0

-- workers of sources that have all they ask for have room for their passes
pub seats_roomy : {K C : Type 0} (count : ℕ) (seats : List (Seat K C)) → All (IsSeat count) seats → All IsRoomy seats
seats_roomy {K} {C} count seats all =
    All-from_recursion (λ (s : Seat K C). IsRoomy s) seats (halves (λ (s : Seat K C). IsFit count s.draft) (λ (s : Seat K C). IsRoomy s) seats (recursion_from_All (λ (s : Seat K C). IsSeat count s) seats all)).1

-- room for as many is enough
pub room_for : (a b room : ℕ) → a ≡ b → b ≤ room → a ≤ room
room_for a b room same fits = omega (arith, same, fits)

-- standard input is handed out too
pub taken_more : (a b c : HostState) → IsButTaken a b → c ≡ record b { input = None } → IsButTaken a c
taken_more a b c first last =
    last ∙ ap (λ (s : HostState). record s { input = None }) first
    ∙ (λ i. record a {
      input = sym (ap (λ (s : HostState). s.input) last) i;
      output = sym (ap (λ (s : HostState). s.output) last) i;
      handed = sym (ap (λ (s : HostState). s.handed) last) i;
    })

-- the workers of sources fit as many channels as were prepared for
pub parts_fit : {S N I O C K : Type 0} (a b : ℕ) (parts : Parts S N I O C K) → b ≡ a → All (IsSeat a) parts.listeners.items → All (IsSeat a) parts.lines.items → AreFit b parts
parts_fit a b parts same listeners lines =
    subst (λ (n : ℕ). AreFit n parts) (sym same)
    (record { listeners = seats_fit a parts.listeners.items listeners; lines = seats_fit a parts.lines.items lines })
