use Rattle.log_tests.proofs.places.put.Goals as goal

pub put-requires : goal.put-requires
put-requires c = c.in-None.ensures.may (record { file = 1; at = c.args.at; length = 9 })
