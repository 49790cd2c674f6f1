use Rattle.std.proofs.Common.{◌≡◌, ◌∙◌, ℕ, List, [], ◌∷◌, ◌++◌, refl, sym, ap, subst, append_assoc, rules}
use Rattle.std.proofs.lemmas.List.{append-nil}
use Rattle.shared_channel.specs.Passes.{Known}
use Rattle.run_tracks.specs.Homes.{IsAt, StayElsewhere, TookAt}
use Rattle.run_tracks.specs.Places.{Zips, TookEach}
use Rattle.run_tracks.proofs.Homing.{each_took_self, each_took_then, took_each_later, zips-append, zips_none}
use Rattle.run_tracks.proofs.bring.end_ports.Goals as goal

pub loop-port-init : goal.loop-port-init
loop-port-init g c = record {
  homes = c.requires.homes;
  kept = each_took_self c.args.homes.now;
  at = c.requires.ports;
  rest = ([], [], sym (append-nil c.args.channels.items), sym (append-nil c.args.ports.items), tt, λ i d apart. refl);
}

pub bring_home-requires-clause-pass : goal.bring_home-requires-clause-pass
bring_home-requires-clause-pass g c =
    let R = λ (place : ℕ) (port : g.row.F.Denot). IsAt g.S.Joins.table c.args.shares.now place (g.F.Carries.pass port) in
    let z = zips-append R c.pop-in-Some.new.self.items c.pop.new.self.items c.in-Some-pop.place c.in-Some.port
    (subst (λ (x : List ℕ × List g.row.F.Denot). Zips R x.0 x.1) (λ i. (c.in-Some-pop.ensures.items i, c.in-Some.ensures.items i)) c.loop-port.invariant.at) in
    subst (λ (p : Known). IsAt g.S.Joins.table c.args.shares.now c.in-Some-pop.place p) (sym c.into_pass.ensures) z.1

pub loop-port-preserved : goal.loop-port-preserved
loop-port-preserved g c =
    let inv = c.loop-port.invariant in
    let place = c.in-Some-pop.place in
    let port = c.in-Some.port in
    let places = c.pop-in-Some.new.self.items in
    let left = c.pop.new.self.items in
    let cs = inv.rest.0 in
    let ps = inv.rest.1 in
    let new = c.bring_home.new.homes in
    let R = λ (place : ℕ) (port : g.row.F.Denot). IsAt g.S.Joins.table c.args.shares.now place (g.F.Carries.pass port) in
    let z = zips-append R places left place port (subst (λ (x : List ℕ × List g.row.F.Denot). Zips R x.0 x.1) (λ i. (c.in-Some-pop.ensures.items i, c.in-Some.ensures.items i)) inv.at) in
    record {
      homes = c.bring_home.ensures.homes;
      kept = each_took_then c.args.homes.now c.loop-port.homes new inv.kept c.bring_home.ensures.kept;
      at = z.0;
      rest = (
        place ∷ cs,
        port ∷ ps,
        inv.rest.2 ∙ ap (λ (l : List ℕ). l ++ cs) c.in-Some-pop.ensures.items ∙ append_assoc places (place ∷ []) cs,
        inv.rest.3 ∙ ap (λ (l : List g.row.F.Denot). l ++ ps) c.in-Some.ensures.items ∙ append_assoc left (port ∷ []) ps,
        (subst (λ (p : Known). TookAt new place p) c.into_pass.ensures c.bring_home.ensures.took, took_each_later g.F.Carries.pass c.loop-port.homes new cs ps c.bring_home.ensures.kept inv.rest.4),
        λ i d apart. c.bring_home.ensures.others i d (apart.0, tt) ∙ inv.rest.5 i d apart.1,
      );
    }

pub returns-clause-took : goal.returns-clause-took
returns-clause-took g c =
    let inv = c.loop-port.invariant in
    let none : c.loop-port.left.items ≡ [] = search rules in
    let nowhere : c.loop-port.places.items ≡ [] = zips_none (λ (place : ℕ) (port : g.row.F.Denot). IsAt g.S.Joins.table c.args.shares.now place (g.F.Carries.pass port)) c.loop-port.places.items c.loop-port.left.items inv.at none in
    subst (λ (x : List ℕ × List g.row.F.Denot). TookEach c.loop-port.homes g.F.Carries.pass x.0 x.1)
    (λ i. (sym (inv.rest.2 ∙ ap (λ (l : List ℕ). l ++ inv.rest.0) nowhere) i, sym (inv.rest.3 ∙ ap (λ (l : List g.row.F.Denot). l ++ inv.rest.1) none) i)) inv.rest.4

pub returns-clause-others : goal.returns-clause-others
returns-clause-others g c =
    let inv = c.loop-port.invariant in
    let none : c.loop-port.left.items ≡ [] = search rules in
    let nowhere : c.loop-port.places.items ≡ [] = zips_none (λ (place : ℕ) (port : g.row.F.Denot). IsAt g.S.Joins.table c.args.shares.now place (g.F.Carries.pass port)) c.loop-port.places.items c.loop-port.left.items inv.at none in
    subst (λ (places : List ℕ). StayElsewhere places c.args.homes.now c.loop-port.homes) (sym (inv.rest.2 ∙ ap (λ (l : List ℕ). l ++ inv.rest.0) nowhere)) inv.rest.5
