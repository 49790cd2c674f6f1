use Rattle.std.proofs.Common.{◌≡◌, ◌++◌, ◌∷◌, [], Bool, true, cond, is_ok, ap, sym, ◌∙◌, arith}
use Rattle.host_memory.proofs.Replay.{quiet_push, pushed}
use Rattle.host_memory.proofs.store.Store.note.Goals as goal

pub invariant_of-self : goal.invariant_of-self
invariant_of-self c = record {
  agrees = c.args.self.now.agrees ∙ sym (quiet_push c.args.self.now.first.items c.args.self.now.calls.items c.push.new.self.items c.args.change c.args.outcome (is_ok c.push.result) c.requires c.push.ensures.items);
}

pub returns-clause-done : goal.returns-clause-done
returns-clause-done c =
    let calls = c.args.self.now.calls.items in
    let more = calls ++ record { change = c.args.change; outcome = c.args.outcome } ∷ [] in
    let ok : is_ok c.push.result ≡ true = grind (arith, c.is_err.ensures, c.if-is_err.false) in
    pushed c.args.self.now.first.items calls c.push.new.self.items c.args.change c.args.outcome (c.push.ensures.items ∙ ap (λ (b : Bool). cond b more calls) ok)
