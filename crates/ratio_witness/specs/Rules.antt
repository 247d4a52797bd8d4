-- The rules U1 to U6 of a witness, and the first that fails.
use Rattle.std.specs.Prelude.{◌≡◌, ℕ, ◌^◌, Bool, ◌&&◌, ◌||◌, List, [], ◌∷◌, length, Option, None, nat_le, nat_lt, ◌==◌, slice_index, slice_index_or, sum_by}
use Rattle.std.specs.List.{list_all}
use Rattle.te_model.specs.declared.certificate.Head.{Head}
use Rattle.te_model.specs.declared.certificate.RuleFault.{RuleFault}
use Rattle.te_model.specs.declared.route.PathShare.{PathShare}
use Rattle.te_model.specs.declared.units.TheConstants.{SHARE_UNIT}
use Rattle.te_model.specs.Counting.{first_some}
use Rattle.te_model.specs.Path.{is_path, source_of, destination_of}
use Rattle.te_model.specs.Validity.{Rule, paths_ascend, faults_from}
use Rattle.ratio_witness.specs.declared.witness.Witness.{Witness}

-- the demand of pair p
abbrev pub demand_of : Witness → ℕ → ℕ
demand_of w p = slice_index w.demand.demand p

-- the rival's paths of pair p
abbrev pub rival_paths : Witness → ℕ → List PathShare
rival_paths w p = slice_index_or w.rival p []

-- U1
abbrev pub has_bound : Witness → Bool
has_bound w = nat_lt w.bound (10 ^ 19)

-- U2
abbrev pub has_scale : Witness → Bool
has_scale w = nat_le w.x (2 ^ 36) && nat_le 1 w.y && nat_le w.y (2 ^ 36)

-- U3
abbrev pub has_small_demand : Witness → ℕ → Bool
has_small_demand w p = nat_le (demand_of w p) (2 ^ 32)

-- U4: a pair with a demand has a path
abbrev pub is_carried : Witness → ℕ → Bool
is_carried w p = demand_of w p == 0 || nat_le 1 (length (rival_paths w p))

-- U5: paths of the network, which strictly ascend
abbrev pub has_sound_rival : Head → Witness → ℕ → Bool
has_sound_rival h w p =
    list_all (λ s. is_path h.network (source_of h.routes p) (destination_of h.routes p) s.links) (rival_paths w p)
    && paths_ascend (rival_paths w p)

-- U6: weights of at least 1 that sum to one million, where there is a path
abbrev pub has_whole_rival : Witness → ℕ → Bool
has_whole_rival w p =
    length (rival_paths w p) == 0
    || (list_all (λ s. nat_le 1 s.weight) (rival_paths w p) && sum_by (λ s. s.weight) (rival_paths w p) == SHARE_UNIT)

-- U1 to U6, in the order of their numbers
abbrev pub witness_rules : Head → Witness → List Rule
witness_rules h w =
    let pairs = length h.routes in
    record { places = 1; holds = λ place. has_bound w }
    ∷ record { places = 1; holds = λ place. has_scale w }
    ∷ record { places = pairs; holds = has_small_demand w }
    ∷ record { places = pairs; holds = is_carried w }
    ∷ record { places = pairs; holds = has_sound_rival h w }
    ∷ record { places = pairs; holds = has_whole_rival w }
    ∷ []

-- the failing rule of the least number, at its least place
abbrev pub witness_fault : Head → Witness → Option RuleFault
witness_fault h w = first_some (faults_from 1 (witness_rules h w))

-- each rule holds
abbrev pub KeepsRules : Head → Witness → Type 0
KeepsRules h w = witness_fault h w ≡ None
