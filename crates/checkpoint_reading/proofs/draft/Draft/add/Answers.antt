use Rattle.std.proofs.Common.{Option, subst, sym}
use Rattle.open_table.specs.Tables.{MayAdd, Open}
use Rattle.checkpoint_reading.proofs.Listing.{list_some, listing_more, lists_more, may_add}
use Rattle.checkpoint_reading.proofs.draft.Draft.add.Goals as goal

pub widen-requires : goal.widen-requires
widen-requires c = list_some c.args.item _ c.requires

pub add-requires : goal.add-requires
add-requires c = subst (λ (o : Option Open). MayAdd c.args.item o) (sym c.in_ok-widen.ensures.wider.here_is) (may_add c.args.item _ c.requires)

pub returns-clause-added : goal.returns-clause-added
returns-clause-added c = λ base listed lists. lists_more c.args.item c.args.txn listed base _ _ _ c.in_ok-widen.ensures.wider c.widen.ensures.count c.add.ensures.added c.add.ensures.count lists

pub returns-clause-here : goal.returns-clause-here
returns-clause-here c = λ listed here. listing_more c.args.item c.args.txn listed _ _ _ c.in_ok-widen.ensures.wider c.add.ensures.added here
