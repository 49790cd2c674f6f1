use Rattle.std.proofs.Common.{◌+◌, [], ℕ, List, subst, sym, ap, ◌∙◌}
use Rattle.std.proofs.lemmas.List.{append-nil}
use Rattle.checkpoint.specs.Files.{IsBegun, IsSoFar, Holds}
use Rattle.checkpoint.proofs.Laying.{piece_added, piece_moment}
use Rattle.checkpoint.proofs.writing.pass_on.Goals as goal

pub returns-in_err-write_at-clause-any_moment : goal.returns-in_err-write_at-clause-any_moment
returns-in_err-write_at-clause-any_moment g c =
    let law = g.met.D.Disk.reads_are_left in
    piece_moment c.args.number _ _ (λ t is. law c.args.disk.now t is) c.args.at c.as_slice.result.now c.write_at.result
    (subst (λ (p : List ℕ). IsBegun c.args.number (record { told = g.D.Disk.told c.args.disk.now; at = c.args.at; buffer = p })) (sym c.as_slice.ensures.value) c.requires) c.write_at.ensures.done

pub returns-clause-any_moment : goal.returns-clause-any_moment
returns-clause-any_moment g c =
    let law = g.met.D.Disk.reads_are_left in
    piece_moment c.args.number _ _ (λ t is. law c.args.disk.now t is) c.args.at c.as_slice.result.now c.write_at.result
    (subst (λ (p : List ℕ). IsBegun c.args.number (record { told = g.D.Disk.told c.args.disk.now; at = c.args.at; buffer = p })) (sym c.as_slice.ensures.value) c.requires) c.write_at.ensures.done

pub returns-clause-same : goal.returns-clause-same
returns-clause-same g c = λ text holds t told.
    let law = g.met.D.Disk.reads_are_left in
    let held : Holds c.args.number (record { told = g.D.Disk.told c.args.disk.now; at = c.args.at; buffer = c.as_slice.result.now }) text =
    subst (λ (p : List ℕ). Holds c.args.number (record { told = g.D.Disk.told c.args.disk.now; at = c.args.at; buffer = p }) text) (sym c.as_slice.ensures.value) holds in
    let passed = piece_added c.args.number _ _ (λ t is. law c.args.disk.now t is) c.args.at c.as_slice.result.now text c.in_ok-write_at.ensures.done held t told in
    subst (λ (l : List ℕ). IsSoFar t c.args.number (c.args.at + c.len.result) [] l) (sym (append-nil text))
    (subst (λ (n : ℕ). IsSoFar t c.args.number n [] text) (ap (λ (k : ℕ). c.args.at + k) (c.as_slice.ensures.len ∙ sym c.len.ensures)) passed)
