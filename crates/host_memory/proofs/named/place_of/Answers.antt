use Rattle.std.proofs.Common.{◌≡◌, ◌∙◌, ap, sym, true, false, get_or, add-one, arith, bytes_eq, string_bytes, List, ℕ}
use Rattle.host_memory.proofs.Paths.{place_found, place_more}
use Rattle.host_memory.proofs.named.place_of.Goals as goal

pub returns-then-eq : goal.returns-then-eq
returns-then-eq g c =
    let same : bytes_eq c.args.path.now (string_bytes (get_or c.args.objects.now c.loop-i.i c.index-objects-i.result).path) ≡ true = ap (λ (b : List ℕ). bytes_eq c.args.path.now b) (sym c.as_str.ensures.value) ∙ sym c.eq.ensures ∙ c.if-eq.true in
    sym (place_found c.args.objects.now c.args.path.now c.loop-i.i c.index-objects-i.result (omega arith) c.loop-i.invariant same)

pub loop-i-preserved : goal.loop-i-preserved
loop-i-preserved g c =
    let other : bytes_eq c.args.path.now (string_bytes (get_or c.args.objects.now c.loop-i.i c.index-objects-i.result).path) ≡ false = ap (λ (b : List ℕ). bytes_eq c.args.path.now b) (sym c.as_str.ensures.value) ∙ sym c.eq.ensures ∙ c.if-eq.false in
    rw add-one (place_more c.args.objects.now c.args.path.now c.loop-i.i c.index-objects-i.result (omega arith) c.loop-i.invariant other)
