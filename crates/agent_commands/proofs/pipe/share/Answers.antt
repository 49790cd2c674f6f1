use contract.BorrowLft.{◌⊑◌, ⊑_meet, ⊑_static}
use Rattle.std.proofs.Common.{◌∙◌, ◌++◌, [], ℕ, List, get_or, length, sym, ap}
use Rattle.shared_channel.specs.Passes.{Known}
use Rattle.agent_commands.proofs.pipe.share.Goals as goal

-- what outlives the parts of a type outlives the type: its parts are five times the disk's
in_parts : (κ L : List ℕ) → κ ⊑ L → κ ⊑ (L ++ []) ++ (((L ++ []) ++ (((L ++ []) ++ (((L ++ []) ++ (L ++ [])) ++ [])) ++ [])) ++ [])
in_parts κ L one =
    let l = ⊑_meet κ L [] one (⊑_static κ) in
    let more = λ (k : List ℕ) (q : κ ⊑ k). ⊑_meet κ ((L ++ []) ++ k) [] (⊑_meet κ (L ++ []) k l q) (⊑_static κ) in
    ⊑_meet κ (L ++ []) _ l (more _ (more _ (more _ l)))

pub new-requires : goal.new-requires
new-requires g c κs within = (first_of (assumption (in_parts κs.0 g.row.D.lives within), search (⊑_meet, ⊑_static, within)), c.requires.1.0)

pub only-requires : goal.only-requires
only-requires g c = ap length c.in-Ok.ensures.shared

pub returns-in-Ok-clause-table : goal.returns-in-Ok-clause-table
returns-in-Ok-clause-table g c = ap (λ (l : List Known). (get_or l 0 c.only.result).table_id) (sym c.only.ensures ∙ c.in-Ok.ensures.shared)

pub returns-in-Ok-clause-first : goal.returns-in-Ok-clause-first
returns-in-Ok-clause-first g c = record {
  start = g.start;
  fresh = ap (λ (l : List Known). get_or l 0 c.only.result) (sym c.only.ensures ∙ c.in-Ok.ensures.shared);
  begins = c.requires.1.1.0;
  faults_then = c.requires.1.1.1;
}

pub returns-in-Ok-clause-base : goal.returns-in-Ok-clause-base
returns-in-Ok-clause-base g c = ap (λ (l : List Known). (get_or l 0 c.only.result).view.base) (sym c.only.ensures ∙ c.in-Ok.ensures.shared)
