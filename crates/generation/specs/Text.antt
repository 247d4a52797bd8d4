-- The text of a summary: seven lines, each a word and what it says.
use Rattle.std.specs.Prelude.{ℕ, List, [], ◌∷◌, ◌++◌, codes, decimal}
use Rattle.ratio_checker.specs.declared.finding.Finding.{Finding}
use Rattle.ratio_checker.specs.declared.finding.Finding.TheVariants.{Yes, No}
use Rattle.generation.specs.declared.lines.Summary.{Summary}

abbrev pub answer_word : Finding → List ℕ
answer_word Yes = codes "yes"
answer_word (No link rule place) = codes "no"

-- the network, and the ratio in millionths
abbrev pub first_lines : Summary → List ℕ
first_lines s =
    codes "nodes " ++ (decimal s.nodes ++ (codes "\nlinks " ++ (decimal s.links ++ (codes "\npairs " ++ (decimal s.pairs
    ++ (codes "\nratio " ++ (decimal s.ratio ++ 10 ∷ [])))))))

-- the answer, and the traffic
abbrev pub last_lines : Summary → List ℕ
last_lines s =
    codes "answer " ++ (answer_word s.finding ++ (codes "\noffered " ++ (decimal s.offered ++ (codes "\ndelivered "
    ++ (decimal s.delivered ++ 10 ∷ [])))))

abbrev pub summary_lines : Summary → List ℕ
summary_lines s = first_lines s ++ last_lines s
