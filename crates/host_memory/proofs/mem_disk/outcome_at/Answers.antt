use Rattle.std.proofs.Common.{◌≡◌, ◌∙◌, sym, subst, add-one, arith, get_or, List, None}
use Rattle.std.proofs.lemmas.Bool.{eq-eqb, ne_eqb}
use Rattle.std.proofs.lemmas.List.{take_all}
use Rattle.host_memory.specs.declared.mem_disk.DiskFault.{DiskFault}
use Rattle.host_memory.specs.declared.parts.Part.TheVariants.{Nothing}
use Rattle.host_memory.proofs.Listed.{found, more, place, unlisted}
use Rattle.host_memory.proofs.mem_disk.outcome_at.Goals as goal

pub returns-then-call-faults : goal.returns-then-call-faults
returns-then-call-faults c =
    let is = eq-eqb c.args.call (get_or c.args.faults.now c.loop-i.i (record { call = 0; part = Nothing })).call c.if-call-faults.true in
    c.cut_at.ensures ∙ sym (found c.args.faults.now c.args.call c.loop-i.i (record { call = 0; part = Nothing }) (omega arith) c.loop-i.invariant is)

pub loop-i-preserved : goal.loop-i-preserved
loop-i-preserved c =
    let isnt = ne_eqb c.args.call (get_or c.args.faults.now c.loop-i.i (record { call = 0; part = Nothing })).call c.if-call-faults.false in
    rw add-one (more c.args.faults.now c.args.call c.loop-i.i (record { call = 0; part = Nothing }) (omega arith) c.loop-i.invariant isnt)

pub returns : goal.returns
returns c =
    let P : List DiskFault → Type 0 = λ l. place l c.args.call ≡ None in
    sym (unlisted c.args.faults.now c.args.call (subst P (take_all c.loop-i.i c.args.faults.now (omega arith)) c.loop-i.invariant))
