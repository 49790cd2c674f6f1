use Rattle.std.proofs.Common.{[], arith}
use Rattle.checkpoint.specs.Files.{spool}
use Rattle.checkpoint.specs.Text.{check_bytes}
use Rattle.checkpoint.proofs.Laying.{passes_on}
use Rattle.checkpoint.proofs.Spooling.{begun_on, begun_written, head_spooled, text_written}
use Rattle.checkpoint.proofs.writing.write_all.Goals as goal

pub returns-in_err-puts_at-clause-any_moment : goal.returns-in_err-puts_at-clause-any_moment
returns-in_err-puts_at-clause-any_moment g c = passes_on c.args.number 1 0 2 _ _ _ (omega arith) c.make_closed.ensures.any_moment c.add_live.ensures.any_moment

pub returns-in_err-takes_at-clause-any_moment : goal.returns-in_err-takes_at-clause-any_moment
returns-in_err-takes_at-clause-any_moment g c =
    passes_on c.args.number 1 0 2 _ _ _ (omega arith) c.make_closed.ensures.any_moment (passes_on c.args.number 0 0 0 _ _ _ (omega arith) c.add_live.ensures.any_moment c.add_entries.ensures.any_moment)

pub returns-in_err-end-clause-any_moment : goal.returns-in_err-end-clause-any_moment
returns-in_err-end-clause-any_moment g c =
    passes_on c.args.number 1 0 2 _ _ _ (omega arith) c.make_closed.ensures.any_moment
    (passes_on c.args.number 0 0 0 _ _ _ (omega arith) c.add_live.ensures.any_moment (passes_on c.args.number 0 0 0 _ _ _ (omega arith) c.add_entries.ensures.any_moment c.add_entries-2.ensures.any_moment))

pub returns-in_err-pass_on-clause-any_moment : goal.returns-in_err-pass_on-clause-any_moment
returns-in_err-pass_on-clause-any_moment g c =
    passes_on c.args.number 1 0 2 _ _ _ (omega arith) c.make_closed.ensures.any_moment
    (passes_on c.args.number 0 0 0 _ _ _ (omega arith) c.add_live.ensures.any_moment
    (passes_on c.args.number 0 0 0 _ _ _ (omega arith) c.add_entries.ensures.any_moment (passes_on c.args.number 0 0 0 _ _ _ (omega arith) c.add_entries-2.ensures.any_moment c.pass_on.ensures.any_moment)))

pub seal-requires : goal.seal-requires
seal-requires g c =
    begun_written c.args.number (spool (g.D.Disk.told c.pass_on.new.disk) c.in_ok-pass_on.field-0 [])
    (begun_on c.args.number _ _ _ _ c.pass_on.ensures.any_moment c.in_ok-pass_on.ensures.same c.in_ok-end.ensures.begun)

pub returns-in_err-seal-clause-any_moment : goal.returns-in_err-seal-clause-any_moment
returns-in_err-seal-clause-any_moment g c =
    passes_on c.args.number 1 1 2 _ _ _ (omega arith) c.make_closed.ensures.any_moment
    (passes_on c.args.number 0 1 1 _ _ _ (omega arith) c.add_live.ensures.any_moment
    (passes_on c.args.number 0 1 1 _ _ _ (omega arith) c.add_entries.ensures.any_moment
    (passes_on c.args.number 0 1 1 _ _ _ (omega arith) c.add_entries-2.ensures.any_moment (passes_on c.args.number 0 1 1 _ _ _ (omega arith) c.pass_on.ensures.any_moment c.seal.ensures.any_moment))))

pub returns-clause-any_moment : goal.returns-clause-any_moment
returns-clause-any_moment g c =
    passes_on c.args.number 1 1 2 _ _ _ (omega arith) c.make_closed.ensures.any_moment
    (passes_on c.args.number 0 1 1 _ _ _ (omega arith) c.add_live.ensures.any_moment
    (passes_on c.args.number 0 1 1 _ _ _ (omega arith) c.add_entries.ensures.any_moment
    (passes_on c.args.number 0 1 1 _ _ _ (omega arith) c.add_entries-2.ensures.any_moment (passes_on c.args.number 0 1 1 _ _ _ (omega arith) c.pass_on.ensures.any_moment c.seal.ensures.any_moment))))

pub returns-clause-laid : goal.returns-clause-laid
returns-clause-laid g c = λ text says rise few puts_fit takes_fit.
    c.in_ok-seal.ensures.sealed (check_bytes text)
    (text_written c.args.number c.in_ok-pass_on.field-0 (g.D.Disk.told c.pass_on.new.disk) _ _ _ _ c.args.place c.args.next c.args.ring.now c.args.table.now text says rise few
    (head_spooled c.args.number _ _ _ _ c.in_ok-make_closed.ensures.made c.requires.empty c.put_head.ensures.items)
    c.in_ok-puts_at.ensures.added (c.in_ok-takes_at.ensures.added text.puts says.puts puts_fit) (c.in_ok-end.ensures.added text.takes says.takes takes_fit) c.in_ok-pass_on.ensures.same)
