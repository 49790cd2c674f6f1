use Rattle.std.proofs.Common.{rules, ◌≡◌, ◌∙◌, ◌<◌, ◌≤◌, ◌+◌, ℕ, List, [], ◌∷◌, length, take, get_or, sym, ap, subst, arith}
use Rattle.std.proofs.lemmas.List.{get_or_default, length-append, length-take-le}
use Rattle.std.specs.Vec.{vec_capacity}
use Rattle.shared_channel.specs.Passes.{Known}
use Rattle.two_channels.specs.Ports.{pass_of}
use Rattle.two_channels.specs.Shares.{IsPortOf, table_of}
use Rattle.two_channels.specs.declared.port.EitherPort.{EitherPort}
use Rattle.two_channels.specs.declared.shared.EitherShared.{EitherShared}
use Rattle.run_tracks.specs.Homes.{IsAt}
use Rattle.run_tracks.specs.Places.{Zips}
use Rattle.run_tracks.proofs.Homing.{zips_join, zips_last, zips_length, zips_none, zips_push}
use Rattle.run_tracks.proofs.open.+open_ports.Goals as goal

pub slice_bounds-open_ports-end : goal.slice_bounds-open_ports-end
slice_bounds-open_ports-end g t c =
    let R = λ (place : ℕ) (pass : Known). IsAt (table_of {A = g.row.A.Denot} {B = g.row.B.Denot}) c.args.shares.now place pass in
    let z = zips_last R c.args.places.now c.pop.new.self.items c.in-Some.pass 0 (subst (λ (l : List Known). Zips R c.args.places.now l) c.in-Some.ensures.items c.requires.at) in
    let low : c.len-last.result ≤ length c.args.places.now = let e = c.len-last.ensures in let l = z.0 in omega arith in
    sym (length-take-le c.len-last.result c.args.places.now low)

pub open_ports-requires : goal.open_ports-requires
open_ports-requires g t c κs within =
    let last : c.len-last.result ≡ length c.pop.new.self.items = search rules in
    let R = λ (place : ℕ) (pass : Known). IsAt (table_of {A = g.row.A.Denot} {B = g.row.B.Denot}) c.args.shares.now place pass in
    let z = zips_last R c.args.places.now c.pop.new.self.items c.in-Some.pass 0 (subst (λ (l : List Known). Zips R c.args.places.now l) c.in-Some.ensures.items c.requires.at) in
    let e : length c.args.passes.items ≡ length c.pop.new.self.items + 1 = ap length c.in-Some.ensures.items ∙ length-append c.pop.new.self.items (c.in-Some.pass ∷ []) in
    let at : Zips R (take c.len-last.result c.args.places.now) c.pop.new.self.items = subst (λ (n : ℕ). Zips R (take n c.args.places.now) c.pop.new.self.items) (sym last) z.1.0 in
    let room : length c.pop.new.self.items ≤ vec_capacity c.args.ports.now = let r = c.requires.room in omega arith in
    let d = c.decreases in
    (omega arith, (within.0, (within.1.0, (within.1.1, (at, (c.requires.none, room))))))

pub bounds-places-last : goal.bounds-places-last
bounds-places-last g t c =
    let R = λ (place : ℕ) (pass : Known). IsAt (table_of {A = g.row.A.Denot} {B = g.row.B.Denot}) c.args.shares.now place pass in
    let z = zips_last R c.args.places.now c.pop.new.self.items c.in-Some.pass 0 (subst (λ (l : List Known). Zips R c.args.places.now l) c.in-Some.ensures.items c.requires.at) in
    let e = c.len-last.ensures in let l = z.0 in omega arith

pub bounds-shares-places : goal.bounds-shares-places
bounds-shares-places g t c =
    let last : c.len-last.result ≡ length c.pop.new.self.items = search rules in
    let R = λ (place : ℕ) (pass : Known). IsAt (table_of {A = g.row.A.Denot} {B = g.row.B.Denot}) c.args.shares.now place pass in
    let z = zips_last R c.args.places.now c.pop.new.self.items c.in-Some.pass 0 (subst (λ (l : List Known). Zips R c.args.places.now l) c.in-Some.ensures.items c.requires.at) in
    subst (λ (n : ℕ). get_or c.args.places.now n 0 < length c.args.shares.now) (sym last) z.1.1.below

pub port-requires : goal.port-requires
port-requires g t c =
    let last : c.len-last.result ≡ length c.pop.new.self.items = search rules in
    let R = λ (place : ℕ) (pass : Known). IsAt (table_of {A = g.row.A.Denot} {B = g.row.B.Denot}) c.args.shares.now place pass in
    let z = zips_last R c.args.places.now c.pop.new.self.items c.in-Some.pass 0 (subst (λ (l : List Known). Zips R c.args.places.now l) c.in-Some.ensures.items c.requires.at) in
    let share = c.index-shares-places in
    (subst (λ (n : ℕ). c.in-Some.pass.table_id ≡ table_of (get_or c.args.shares.now (get_or c.args.places.now n 0) share.result)) (sym last) (z.1.1.here share.result)) ∙ ap (table_of {A = g.row.A.Denot} {B = g.row.B.Denot}) (sym share.is)

pub returns-clause-ports : goal.returns-clause-ports
returns-clause-ports g t c =
    let R = λ (pass : Known) (port : EitherPort g.row.R.Denot g.row.A.Denot g.row.B.Denot). pass_of port ≡ pass in
    subst (λ (x : List Known × List (EitherPort g.row.R.Denot g.row.A.Denot g.row.B.Denot)). Zips R x.0 x.1) (λ i. (sym c.in-Some.ensures.items i, sym c.push_reserved.ensures.items i))
    (zips_push R c.pop.new.self.items c.open_ports.new.ports.items c.in-Some.pass _ c.open_ports.ensures.ports c.port.ensures.pass)

pub returns-in_default-clause-kinds : goal.returns-in_default-clause-kinds
returns-in_default-clause-kinds g t c =
    let S = EitherShared g.row.A.Denot g.row.B.Denot in
    let P = EitherPort g.row.R.Denot g.row.A.Denot g.row.B.Denot in
    let K = λ (place : ℕ) (port : P). (d : S) → IsPortOf (get_or c.args.shares.now place d) port in
    let R = λ (place : ℕ) (pass : Known). IsAt (table_of {A = g.row.A.Denot} {B = g.row.B.Denot}) c.args.shares.now place pass in
    let none : c.args.passes.items ≡ [] = search rules in
    let nowhere : c.args.places.now ≡ [] = zips_none R c.args.places.now c.args.passes.items c.requires.at none in
    subst (λ (x : List ℕ × List P). Zips K x.0 x.1) (λ i. (sym nowhere i, sym c.requires.none i)) tt

pub returns-clause-kinds : goal.returns-clause-kinds
returns-clause-kinds g t c =
    let S = EitherShared g.row.A.Denot g.row.B.Denot in
    let P = EitherPort g.row.R.Denot g.row.A.Denot g.row.B.Denot in
    let K = λ (place : ℕ) (port : P). (d : S) → IsPortOf (get_or c.args.shares.now place d) port in
    let passes = c.pop.new.self.items in
    let ports = c.open_ports.new.ports.items in
    let places = c.args.places.now in
    let R = λ (place : ℕ) (pass : Known). IsAt (table_of {A = g.row.A.Denot} {B = g.row.B.Denot}) c.args.shares.now place pass in
    let z = zips_last R places passes c.in-Some.pass 0 (subst (λ (l : List Known). Zips R places l) c.in-Some.ensures.items c.requires.at) in
    let many : length passes ≡ length ports = zips_length (λ (pass : Known) (port : P). pass_of port ≡ pass) passes ports c.open_ports.ensures.ports in
    let count : c.len-last.result ≡ length passes = search rules in
    let last : c.len-last.result ≡ length ports = count ∙ many in
    let all : length places ≡ length ports + 1 =
    zips_length R places c.args.passes.items c.requires.at ∙ ap length c.in-Some.ensures.items ∙ length-append passes (c.in-Some.pass ∷ []) ∙ ap (λ (n : ℕ). n + 1) many in
    let front : Zips K (take (length ports) places) ports = subst (λ (n : ℕ). Zips K (take n places) ports) last c.open_ports.ensures.kinds in
    let share = c.index-shares-places in
    let below : get_or places (length passes) 0 < length c.args.shares.now = z.1.1.below in
    let one : K (get_or places (length ports) 0) c.port.result = λ d.
    subst (λ (n : ℕ). IsPortOf (get_or c.args.shares.now (get_or places n 0) d) c.port.result) many
    (subst (λ (s : S). IsPortOf s c.port.result)
    (share.is ∙ ap (λ (n : ℕ). get_or c.args.shares.now (get_or places n 0) share.result) (last ∙ sym many) ∙ get_or_default c.args.shares.now (get_or places (length passes) 0) share.result d below) c.port.ensures.kind) in
    subst (λ (l : List P). Zips K places l) (sym c.push_reserved.ensures.items) (zips_join K places ports c.port.result 0 all front one)

pub push_reserved-requires : goal.push_reserved-requires
push_reserved-requires g t c =
    let many : length c.pop.new.self.items ≡ length c.open_ports.new.ports.items = zips_length (λ (pass : Known) (port : EitherPort g.row.R.Denot g.row.A.Denot g.row.B.Denot). pass_of port ≡ pass) c.pop.new.self.items c.open_ports.new.ports.items c.open_ports.ensures.ports in
    let e : length c.args.passes.items ≡ length c.pop.new.self.items + 1 = ap length c.in-Some.ensures.items ∙ length-append c.pop.new.self.items (c.in-Some.pass ∷ []) in
    let room = c.requires.room in
    let kept = c.open_ports.ensures.room in
    first_of (omega arith, search (rules, arith))
