use Rattle.std.proofs.Common.{sym, true≢false}
use Rattle.agent_channels.proofs.InOrder.{opened_out, refuses_first}
use Rattle.agent_channels.proofs.several.open_channels.Goals as goal

pub returns-in-Ok-add_all-clause-out : goal.returns-in-Ok-add_all-clause-out
returns-in-Ok-add_all-clause-out g c = opened_out c.args.wishes.now c.add_all.new.channels.items _ _ c.in-Ok-add_all.ensures.opened

pub returns-in-Err-clause-refused : goal.returns-in-Err-clause-refused
returns-in-Err-clause-refused g c = refuses_first c.args.wishes.now _ (λ none. true≢false (sym (c.in-Err.ensures.succeeds none)))
