-- What each link is asked to carry in a step and what it carries, as text.
use Rattle.std.specs.Prelude.{ℕ, Bool, List, [], ◌∷◌, ◌++◌, codes, decimal, flat_map, slice_index, if◌then◌else◌}
use Rattle.std.specs.List.{join_with_byte, range_with_len}
use Rattle.te_model.specs.declared.network.Network.{Network}
use Rattle.te_model.specs.Marks.{is_marked}
use Rattle.te_model.specs.Network.{link_count, tail_of, head_of, capacity_of, name_at}
use Rattle.flow_sim.specs.Asked.{all_asked_units}
use Rattle.series_simulation.specs.declared.step_row.SimulatedStep.{SimulatedStep}
use Rattle.series_simulation.specs.Simulation.{utilisation_on}

abbrev pub yes_or_no : Bool → List ℕ
yes_or_no answer = if answer then codes "yes" else codes "no"

abbrev pub links_header : List ℕ
links_header = codes "scheme,link,source,target,capacity,failed,asked,carried,asked_parts,carried_parts\n"

-- the line of link e, whose fields are as the header names them: of each link so much is asked and carried, in units and then in
-- millionths of the capacity, rounded up
abbrev pub link_use_line : Network → List Bool → List ℕ → List ℕ → List ℕ → ℕ → List ℕ
link_use_line net failed asked carried word e =
    join_with_byte 44 (word ∷ decimal e ∷ name_at net (tail_of net e) ∷ name_at net (head_of net e) ∷ decimal (capacity_of net e)
    ∷ yes_or_no (is_marked failed e) ∷ decimal (slice_index asked e) ∷ decimal (slice_index carried e)
    ∷ decimal (utilisation_on net asked e) ∷ decimal (utilisation_on net carried e) ∷ [])
    ++ 10 ∷ []

-- a line for each link, ascending: asked is what the step's rates ask of it, whichever links are full or have failed
abbrev pub link_use_lines : Network → List Bool → List ℕ → List ℕ → SimulatedStep → List ℕ
link_use_lines net failed demand word step =
    flat_map (link_use_line net failed (all_asked_units net step.rates.routes demand) step.row.result.carried word) (range_with_len 0 (link_count net))
