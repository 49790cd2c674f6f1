use Rattle.std.proofs.Common.{◌≡◌, [], List, ap, arith, length, map, refl, subst, sym}
use Rattle.open_table.specs.Tables.{Listed, Table, listed_of, open_at}
use Rattle.open_table.specs.declared.table.Ended.{Ended}
use Rattle.channel_face.specs.History.{Opening, opening}
use Rattle.channel_face.specs.declared.replies.Kind.TheVariants.{File}
use Rattle.channel_places.specs.Ends.{one_if_staged}
use Rattle.channel_places.specs.Looks.{IsWithinRoom, puts_in}
use Rattle.channel_places.proofs.Looking.{opened_looks}
use Rattle.channel_places.proofs.places.Held.open.Goals as goal

pub invariant_of-result : goal.invariant_of-result
invariant_of-result c =
    let r = c.requires.left in
    let o : Opening = record {
      rules = record { kind = File; limits = c.args.limits };
      base = record { items = r.1; first = c.args.first };
      txn = c.args.txn;
      faults = 0;
      from = 0;
      tells = Rattle.std.proofs.Common.true;
    } in
    let staged : map listed_of c.new-2.result.items ≡ [] = ap (λ (l : List Ended). map listed_of l) c.new-2.ensures.items in
    let ends = c.new-3.ensures.items in
    record {
      settled = r.0;
      known = r.0;
      state = opening o;
      looks = opened_looks r.0 r.0 _ o c.in-Ok.ensures staged refl (ap (λ l. record { rules = o.rules; first = c.args.first; txn = c.args.txn; broken = Rattle.std.proofs.Common.false; life = 1; frame = 1; ends = l }) ends) r.2 r.3;
      open_are = sym (ap (λ (t : Table). length t) c.in-Ok.ensures);
      open_few = omega arith;
      lists = λ txn. subst (λ (t : Table). IsWithinRoom (open_at t txn)) (sym c.in-Ok.ensures) tt;
      staged_puts_are = sym (ap (λ (l : List Listed). puts_in l) staged);
      slots_are = c.requires.slots;
      few = omega (arith, c.requires.slots);
      within = omega (arith, c.requires.slots, c.requires.room, ap (λ (l : List Listed). puts_in l) staged);
      below = c.requires.below;
      numbers = omega (arith, c.ranges.first.fits);
      fits = omega (arith, ap (λ (l : List Listed). length l) staged);
      frames = omega (arith, c.requires.txn, ap (λ (l : List Listed). one_if_staged l) staged, ap (λ (t : Table). length t) c.in-Ok.ensures);
    }
