use Rattle.std.proofs.Common.{◌≡◌, ◌∙◌, List, Option, Some, None, IfSome, IsSome, Bor, refl, ap, sym, arith}
use Rattle.std.specs.Option.{option_copied}
use Rattle.host_memory.specs.declared.named.Named.{Named}
use Rattle.host_memory.specs.declared.mem_roll.MemRoll.{MemRoll}
use Rattle.flume_host.specs.Rolled.{Rolled}
use Rattle.host_memory.specs.Words.{rolled_in, no_files}
use Rattle.host_memory.specs.Folders.{roll_of, place_in, rolled_home}
use Rattle.host_memory.proofs.Paths.{placed}
use Rattle.host_memory.proofs.mem_host.MemHost.roll.Goals as goal

home : (disk : Option (Bor MemRoll)) (told : Option Rolled) → told ≡ rolled_home (option_copied disk) → IfSome disk (λ d. rolled_in d.now ≡ told)
home None told is = tt
home (Some d) told is = sym is

at_home : (disk : Option (Bor MemRoll)) (told : Option Rolled) → told ≡ rolled_home (option_copied disk) → IsSome told → IsSome disk
at_home None None is tells = absurd (not_none tells)
  where
    not_none : IsSome {T = Rolled} None → ⊥
    not_none has = cc
at_home None (Some t) is tells = cc
at_home (Some d) told is tells = refl

place : (c : goal.In-Some) → place_in c.args.self.now.rolls.items c.args.path.now ≡ Some c.in-Some.index
place c = ap (λ (l : List (Named MemRoll)). place_in l c.args.path.now) (sym c.deref.ensures.value) ∙ sym c.place_of.ensures ∙ c.in-Some.is

pub index-requires : goal.index-requires
index-requires c = omega (arith, (placed rolled_home (Some no_files) c.args.self.now.rolls.items c.args.path.now c.in-Some.index (place c)).below, c.args.self.now.rolls.ok.0)

tells : (c : goal.After-as_ref) → roll_of c.args.self.now.rolls.items c.args.path.now ≡ rolled_home (option_copied c.as_ref.result)
tells c =
    let is = ap (λ (l : List (Named MemRoll)). place_in l c.args.path.now) (sym c.deref.ensures.value) ∙ sym c.place_of.ensures ∙ c.in-Some.is in
    (placed rolled_home (Some no_files) c.args.self.now.rolls.items c.args.path.now c.in-Some.index is).found c.index.result.now
    ∙ ap (λ (n : Named MemRoll). rolled_home n.object) (sym c.index.ensures) ∙ ap (λ (d : Option MemRoll). rolled_home d) (sym c.as_ref.ensures.value)

pub returns-in-Some-clause-told : goal.returns-in-Some-clause-told
returns-in-Some-clause-told c = home c.as_ref.result (roll_of c.args.self.now.rolls.items c.args.path.now) (tells c)

pub returns-in-Some-clause-there : goal.returns-in-Some-clause-there
returns-in-Some-clause-there c has is_told = at_home c.as_ref.result (roll_of c.args.self.now.rolls.items c.args.path.now) (tells c) is_told
