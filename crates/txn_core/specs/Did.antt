-- What a transaction did, as a journal's entry.
use Rattle.event_core.specs.declared.journal.Entry.{Entry}
use Rattle.event_core.specs.declared.journal.Entry.TheVariants.{Puts, Takes}
use Rattle.txn_core.specs.declared.opened.Did.{Did}

abbrev pub entry_of_did : Did → Entry
entry_of_did (Did.Puts events) = Puts events.items
entry_of_did (Did.Takes numbers) = Takes numbers.items
