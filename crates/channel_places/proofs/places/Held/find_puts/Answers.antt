use Rattle.std.proofs.Common.{◌≡◌, ◌∙◌, ℕ, arith, subst, sym, true}
use Rattle.open_table.specs.Tables.{is_open, open_at}
use Rattle.channel_places.specs.Looks.{Looks, Places}
use Rattle.channel_places.specs.View.{places_of}
use Rattle.channel_places.proofs.Putting.{puts_found}
use Rattle.channel_places.proofs.places.Held.find_puts.Goals as goal

pub returns-clause-found : goal.returns-clause-found
returns-clause-found c = λ settled known s looks.
    let p : Places = places_of c.self.inside in
    let here : Looks settled known p s = subst (λ (q : Places). Looks settled known q s) (sym c.self.view_is) looks in
    puts_found settled known p s c.args.txn.now c.puts.result.now here
    (omega (arith, c.life.ensures, c.if-life-self.false))
    (subst (λ (n : ℕ). is_open true (open_at p.opened n) ≡ true) c.number.ensures (sym c.has.ensures ∙ c.if-not-has.false))
    (rw (← c.number-2.ensures) c.puts.ensures)
