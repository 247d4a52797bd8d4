-- A link number that is too wide for its field is refused by the same rule, at the same pair, as the greatest number that the
-- field holds.
use Rattle.std.proofs.Common.{◌≡◌, ℕ, ◌-◌, ◌^◌, ◌≤◌, Bool, true, ◌&&◌, ◌||◌, List, [], ◌∷◌, length, map, slice_index, Option, refl, sym, ap, ◌∙◌, arith, nat_le, ◌==◌, sum, sum_by}
use Rattle.std.specs.List.{list_all}
use Rattle.std.proofs.Math.ListN.{get_or-map}
use Rattle.std.proofs.lemmas.Bool.{and_parts}
use Rattle.std.proofs.lemmas.List.{length-map}
use Rattle.std.proofs.lemmas.List.Sums.{sum-map}
use Rattle.te_model.specs.declared.certificate.Head.{Head}
use Rattle.te_model.specs.declared.certificate.RuleFault.{RuleFault}
use Rattle.te_model.specs.declared.network.Network.{Network}
use Rattle.te_model.specs.declared.route.PathShare.{PathShare}
use Rattle.te_model.specs.Network.{link_count}
use Rattle.te_model.specs.Path.{chains, is_distinct, is_path, nodes_visited, source_of, destination_of}
use Rattle.te_model.specs.Counting.{first_some, unless}
use Rattle.te_model.specs.Validity.{fault_at, paths_ascend, rule_fault}
use Rattle.te_model.proofs.Searches.{first_below-same}
use Rattle.cert_text.specs.Kept.{keep_path}
use Rattle.cert_text.proofs.KeptRules.{bounded_same, chained_whole, map_whole, path_test_kept, widest}
use Rattle.ratio_witness.specs.declared.witness.Witness.{Witness}
use Rattle.ratio_witness.specs.Rules.{has_bound, has_scale, has_small_demand, has_sound_rival, has_whole_rival, is_carried, rival_paths, witness_fault, KeepsRules}
use Rattle.ratio_witness.specs.Text.{keep_witness}
use Rattle.ratio_witness.proofs.KeptRules.{rules_kept}

path_whole : (net : Network) (s t : ℕ) (path : PathShare) → link_count net ≤ widest → is_path net s t path.links ≡ true → keep_path path ≡ path
path_whole net s t path le is =
    ap (λ (ks : List ℕ). record { links = ks; weight = path.weight })
    (chained_whole net t le path.links s (and_parts (chains net s t path.links) (is_distinct (nodes_visited net s path.links)) is).0)

pub paths_test_kept : (net : Network) (s t : ℕ) (paths : List PathShare) → link_count net ≤ widest →
    list_all (λ q. is_path net s t q.links) (map keep_path paths) ≡ list_all (λ q. is_path net s t q.links) paths
paths_test_kept net s t [] le = refl
paths_test_kept net s t (p ∷ ps) le = rw (path_test_kept net s t p.links le, paths_test_kept net s t ps le) refl

pub paths_whole : (net : Network) (s t : ℕ) (paths : List PathShare) → link_count net ≤ widest → list_all (λ q. is_path net s t q.links) paths ≡ true →
    map keep_path paths ≡ paths
paths_whole net s t [] le all = refl
paths_whole net s t (p ∷ ps) le all =
    let both = and_parts (is_path net s t p.links) (list_all (λ q. is_path net s t q.links) ps) all in
    rw (path_whole net s t p le both.0, paths_whole net s t ps le both.1) refl

-- U5 comes out the same
sound_kept : (net : Network) (s t : ℕ) (paths : List PathShare) → link_count net ≤ widest →
    (list_all (λ q. is_path net s t q.links) (map keep_path paths) && paths_ascend (map keep_path paths))
    ≡ (list_all (λ q. is_path net s t q.links) paths && paths_ascend paths)
sound_kept net s t paths le =
    bounded_same (list_all (λ q. is_path net s t q.links) (map keep_path paths)) (list_all (λ q. is_path net s t q.links) paths) (paths_ascend (map keep_path paths)) (paths_ascend paths)
    (paths_test_kept net s t paths le) (λ all. ap paths_ascend (paths_whole net s t paths le all))

-- weights are kept, and how many paths there are
weighted_kept : (paths : List PathShare) → list_all (λ s. nat_le 1 s.weight) (map keep_path paths) ≡ list_all (λ s. nat_le 1 s.weight) paths
weighted_kept [] = refl
weighted_kept (p ∷ ps) = ap (λ (b : Bool). nat_le 1 p.weight && b) (weighted_kept ps)

weights_kept : (paths : List PathShare) → map (λ s. s.weight) (map keep_path paths) ≡ map (λ s. s.weight) paths
weights_kept [] = refl
weights_kept (p ∷ ps) = ap (λ (ns : List ℕ). p.weight ∷ ns) (weights_kept ps)

sum_kept : (paths : List PathShare) → sum_by (λ s. s.weight) (map keep_path paths) ≡ sum_by (λ s. s.weight) paths
sum_kept paths =
    let weight : PathShare → ℕ = λ s. s.weight in
    sym (sum-map weight (map keep_path paths)) ∙ ap sum (weights_kept paths) ∙ sum-map weight paths

pub rival_kept : (w : Witness) (p : ℕ) → rival_paths (keep_witness w) p ≡ map keep_path (rival_paths w p)
rival_kept w p = get_or-map (map keep_path) w.rival p []

pub sound_rival_kept : (h : Head) (w : Witness) (p : ℕ) → link_count h.network ≤ widest → has_sound_rival h (keep_witness w) p ≡ has_sound_rival h w p
sound_rival_kept h w p le =
    let test : PathShare → Bool = λ s. is_path h.network (source_of h.routes p) (destination_of h.routes p) s.links in
    ap (λ (paths : List PathShare). list_all test paths && paths_ascend paths) (rival_kept w p)
    ∙ sound_kept h.network (source_of h.routes p) (destination_of h.routes p) (rival_paths w p) le

carried_kept : (w : Witness) (p : ℕ) → is_carried (keep_witness w) p ≡ is_carried w p
carried_kept w p =
    ap (λ (paths : List PathShare). slice_index w.demand.demand p == 0 || nat_le 1 (length paths)) (rival_kept w p)
    ∙ ap (λ n. slice_index w.demand.demand p == 0 || nat_le 1 n) (length-map (rival_paths w p) keep_path)

whole_kept : (w : Witness) (p : ℕ) → has_whole_rival (keep_witness w) p ≡ has_whole_rival w p
whole_kept w p =
    let paths = rival_paths w p in
    ap (λ (ps : List PathShare). length ps == 0 || (list_all (λ s. nat_le 1 s.weight) ps && sum_by (λ s. s.weight) ps == 1000000)) (rival_kept w p)
    ∙ ap (λ n. n == 0 || (list_all (λ s. nat_le 1 s.weight) (map keep_path paths) && sum_by (λ s. s.weight) (map keep_path paths) == 1000000)) (length-map paths keep_path)
    ∙ ap (λ b. length paths == 0 || (b && sum_by (λ s. s.weight) (map keep_path paths) == 1000000)) (weighted_kept paths)
    ∙ ap (λ n. length paths == 0 || (list_all (λ s. nat_le 1 s.weight) paths && n == 1000000)) (sum_kept paths)

rule_same : (r n : ℕ) (f g : ℕ → Bool) → ((k : ℕ) → f k ≡ g k) → rule_fault r n f ≡ rule_fault r n g
rule_same r n f g each = first_below-same n (λ k. unless (f k) (fault_at r k)) (λ k. unless (g k) (fault_at r k)) (λ k below. ap (λ b. unless b (fault_at r k)) (each k))

pub witness_fault_kept : (h : Head) (w : Witness) → link_count h.network ≤ widest → witness_fault h (keep_witness w) ≡ witness_fault h w
witness_fault_kept h w le =
    let n = length h.routes in
    let one = rule_fault 1 1 (λ place. has_bound w) in
    let two = rule_fault 2 1 (λ place. has_scale w) in
    let three = rule_fault 3 n (has_small_demand w) in
    let five = rule_fault 5 n (has_sound_rival h w) in
    let last = rule_fault 6 n (has_whole_rival (keep_witness w)) in
    ap (λ (o : Option RuleFault). first_some (one ∷ two ∷ three ∷ o ∷ rule_fault 5 n (has_sound_rival h (keep_witness w)) ∷ last ∷ []))
    (rule_same 4 n (is_carried (keep_witness w)) (is_carried w) (carried_kept w))
    ∙ ap (λ (o : Option RuleFault). first_some (one ∷ two ∷ three ∷ rule_fault 4 n (is_carried w) ∷ o ∷ last ∷ []))
    (rule_same 5 n (has_sound_rival h (keep_witness w)) (has_sound_rival h w) (λ p. sound_rival_kept h w p le))
    ∙ ap (λ (o : Option RuleFault). first_some (one ∷ two ∷ three ∷ rule_fault 4 n (is_carried w) ∷ five ∷ o ∷ []))
    (rule_same 6 n (has_whole_rival (keep_witness w)) (has_whole_rival w) (whole_kept w))

-- of a witness that keeps its rules all is kept
pub witness_whole : (h : Head) (w : Witness) → link_count h.network ≤ widest → length w.rival ≡ length h.routes → KeepsRules h w → keep_witness w ≡ w
witness_whole h w le count keeps =
    let kept = rules_kept h w keeps in
    let rival : map (map keep_path) w.rival ≡ w.rival = map_whole (map keep_path) w.rival [] (λ p below.
    let test : PathShare → Bool = λ s. is_path h.network (source_of h.routes p) (destination_of h.routes p) s.links in
    let sound = and_parts (list_all test (rival_paths w p)) (paths_ascend (rival_paths w p)) (kept.sound p (omega (arith, below, count))) in
    paths_whole h.network (source_of h.routes p) (destination_of h.routes p) (rival_paths w p) le sound.0) in
    λ i. record { bound = w.bound; x = w.x; y = w.y; demand = w.demand; rival = rival i }
