-- What `gen` answers: the summary of the network that the seed draws. No file is read.
use Rattle.std.specs.Prelude.{◌≡◌, ◌≤◌, ℕ, List, Option, Some, None, ◌&&◌, nat_le, if◌then◌else◌}
use Rattle.generation.specs.Summary.{IsSummary, ProvesRatio}
use Rattle.command_frame.specs.Reading.{Answers, answers}
use Rattle.command_frame.specs.Table.{Entry}
use Rattle.command_files.specs.DecimalNumber.{decimal_number}

-- 2 to 64 nodes, and a seed
abbrev pub nodes_and_seed : Option ℕ → Option ℕ → Option (ℕ × ℕ)
nodes_and_seed None seed = None
nodes_and_seed (Some n) None = None
nodes_and_seed (Some n) (Some s) = if nat_le 2 n && nat_le n 64 then Some (n, s) else None

abbrev pub drawn_of : List ℕ → List ℕ → Option (ℕ × ℕ)
drawn_of nodes seed = nodes_and_seed (decimal_number nodes) (decimal_number seed)

-- its ratio is proved
abbrev pub summary_of : ℕ → ℕ → Answers
summary_of n seed = record {
  status = λ status. status ≡ 0;
  text = λ status text. (status ≡ 0) × IsSummary n seed text;
  proves = ProvesRatio n seed;
}

-- `gen NODES SEED` writes a summary of 2 to 64 nodes
abbrev pub generate_entry : ℕ → ℕ → Entry
generate_entry n seed = record {
  reading = answers (summary_of n seed);
  may_answer = λ status text. status ≡ 0;
  has_one_text = ⊥;
  in_range = (2 ≤ n) × (n ≤ 64);
}
