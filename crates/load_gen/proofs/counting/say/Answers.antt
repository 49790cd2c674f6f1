use Rattle.std.proofs.Common.{◌≡◌, ◌++◌, ◌∙◌, List, ℕ, ap, codes, decimal, string_bytes}
use Rattle.load_gen.proofs.counting.say.Goals as goal

abbrev first : ℕ → ℕ → ℕ → List ℕ
first n batches committed = codes "events " ++ (decimal n ++ (codes "\nbatches " ++ (decimal batches ++ (codes "\ncommitted takes " ++ (decimal committed ++ codes "\n")))))

abbrev rest : ℕ → ℕ → List ℕ → List ℕ
rest taken left digest = codes "taken " ++ (decimal taken ++ (codes "\nleft " ++ (decimal left ++ (codes "\ndigest " ++ (digest ++ codes "\n")))))

pub returns : goal.returns
returns c =
    let front : string_bytes c.in_ok-front.front ≡ first c.args.n c.args.batches c.args.committed = c.in_ok-front.ensures.ok in
    let text : string_bytes c.in_ok-text.text ≡ string_bytes c.in_ok-front.front ++ rest c.args.taken c.args.left c.args.digest.now = c.in_ok-text.ensures.ok in
    text ∙ ap (λ (l : List ℕ). l ++ rest c.args.taken c.args.left c.args.digest.now) front
