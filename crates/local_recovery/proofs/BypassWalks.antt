-- Walks that are led round failed links, and the paths that they leave.
use Rattle.std.proofs.Common.{◌≡◌, ℕ, zero, suc, ◌+◌, ◌<◌, ◌≤◌, Bool, true, false, Option, Some, None, List, [], ◌∷◌, ◌++◌, length, map, take, All, arith, refl, ap, sym, ◌∙◌, subst, length-append}
use Rattle.std.specs.Prelude.{IsTrue, MatchBool, slice_index_or}
use Rattle.std.proofs.lemmas.Bool.{and_parts, eq-eqb}
use Rattle.std.proofs.lemmas.List.{append-nil, append_assoc, get_or-map, length-map, take_more}
use Rattle.std.proofs.lemmas.List.Elements.{All-get_or, All-nil, All-cons, All-head, All-tail, All-append}
use Rattle.std.proofs.lemmas.List.Sums.{sum_by-append, sum_by-cons}
use Rattle.te_model.specs.declared.network.Network.{Network}
use Rattle.te_model.specs.declared.route.PathShare.{PathShare}
use Rattle.te_model.specs.Network.{link_count, tail_of, head_of}
use Rattle.te_model.specs.Path.{chains, is_path, nodes_visited, is_distinct}
use Rattle.te_model.proofs.Chains.{chain_from, chains-append, first_link, walk_links}
use Rattle.shortest_path.specs.Costs.{costs_of}
use Rattle.shortest_path.specs.Least.{IsLeastWalk, links_of}
use Rattle.te_model.specs.declared.route.Path.{Path}
use Rattle.shortest_path.proofs.Walks.{chains_of_walk}
use Rattle.routing.specs.Loops.{end_of}
use Rattle.routing.specs.Split.{total_weight}
use Rattle.routing.proofs.Cutting.{chains_to_end, cut_is_path}
use Rattle.local_recovery.specs.Recovery.{is_marked, open_links, bypass_path_at, IsBypassPath, AreBypassPaths, JoinEnds, join_walks, walk_over, IsBypassPart, AreParts}

link_chains : (net : Network) (h : ℕ) → h < link_count net → chains net (tail_of net h) (head_of net h) (h ∷ []) ≡ true
link_chains net h below = chain_from net (tail_of net h) (head_of net h) h [] below refl (eq-eqb (head_of net h) (head_of net h) refl)

some_same : {A : Type 0} (x y : A) → Some x ≡ Some y → x ≡ y
some_same x y e = cc

bypass_path_leads : (net : Network) (failed : List Bool) (h : ℕ) (walk : List ℕ) (b : Bool) → h < link_count net →
    MatchBool b (IsLeastWalk net (costs_of net) (open_links failed) (tail_of net h) (head_of net h) (Some walk)) (Some walk ≡ Some (h ∷ [])) →
    chains net (tail_of net h) (head_of net h) walk ≡ true
bypass_path_leads net failed h walk true below is = chains_of_walk net (open_links failed) (tail_of net h) (head_of net h) walk is.0
bypass_path_leads net failed h walk false below is =
    subst (λ w. chains net (tail_of net h) (head_of net h) w ≡ true) (sym (some_same walk (h ∷ []) is)) (link_chains net h below)

-- the bypass path of a link leads from its tail to its head
pub bypass_paths_lead : (net : Network) (failed : List Bool) (bypass_paths : List (Option (List ℕ))) → AreBypassPaths net failed bypass_paths → JoinEnds net bypass_paths
bypass_paths_lead net failed bypass_paths are = record {
  count = are.count;
  each = λ h walk below is.
      bypass_path_leads net failed h walk (is_marked failed h) below (subst (IsBypassPath net failed h) is (are.each h below));
}

joined_parts : (a b : Option (List ℕ)) (w : List ℕ) → join_walks a b ≡ Some w →
    (x : List ℕ) × (y : List ℕ) × (a ≡ Some x) × (b ≡ Some y) × (w ≡ x ++ y)
joined_parts None b w e = cc
joined_parts (Some x) None w e = cc
joined_parts (Some x) (Some y) w e = (x, y, refl, refl, cc)

-- the walk over the bypass paths of the links of a chain chains too
pub walk_chains : (net : Network) (bypass_paths : List (Option (List ℕ))) (s t : ℕ) (links walk : List ℕ) → JoinEnds net bypass_paths →
    chains net s t links ≡ true → walk_over bypass_paths links ≡ Some walk → chains net s t walk ≡ true
walk_chains net bypass_paths s t [] walk lead chain is = subst (λ w. chains net s t w ≡ true) (some_same [] walk is) chain
walk_chains net bypass_paths s t (h ∷ hs) walk lead chain is =
    let link = first_link net s t h hs chain in
    let parts = joined_parts (bypass_path_at bypass_paths h) (walk_over bypass_paths hs) walk is in
    let x = parts.0 in
    let y = parts.1 in
    let first = lead.each h x link.inside parts.2 in
    let rest = walk_chains net bypass_paths (head_of net h) t hs y lead link.rest parts.3 in
    subst (λ w. chains net s t w ≡ true) (sym parts.4)
    (subst (λ (v : ℕ). chains net v t (x ++ y) ≡ true) link.from (chains-append net (tail_of net h) (head_of net h) t x y first rest))

joined-assoc : (a b c : Option (List ℕ)) → join_walks (join_walks a b) c ≡ join_walks a (join_walks b c)
joined-assoc None b c = refl
joined-assoc (Some x) None c = refl
joined-assoc (Some x) (Some y) None = refl
joined-assoc (Some x) (Some y) (Some z) = ap Some (append_assoc x y z)

joined-none : (r : Option (List ℕ)) → join_walks (Some []) r ≡ r
joined-none None = refl
joined-none (Some x) = refl

joined_to_none : (a : Option (List ℕ)) → join_walks a None ≡ None
joined_to_none None = refl
joined_to_none (Some x) = refl

walk_over-append : (bypass_paths : List (Option (List ℕ))) (xs ys : List ℕ) →
    walk_over bypass_paths (xs ++ ys) ≡ join_walks (walk_over bypass_paths xs) (walk_over bypass_paths ys)
walk_over-append bypass_paths [] ys = sym (joined-none (walk_over bypass_paths ys))
walk_over-append bypass_paths (x ∷ xs) ys =
    ap (join_walks (bypass_path_at bypass_paths x)) (walk_over-append bypass_paths xs ys)
    ∙ sym (joined-assoc (bypass_path_at bypass_paths x) (walk_over bypass_paths xs) (walk_over bypass_paths ys))

-- one link more
pub walk_over_more : (bypass_paths : List (Option (List ℕ))) (xs : List ℕ) (h : ℕ) (walk more : List ℕ) →
    walk_over bypass_paths xs ≡ Some walk → bypass_path_at bypass_paths h ≡ Some more → walk_over bypass_paths (xs ++ h ∷ []) ≡ Some (walk ++ more)
walk_over_more bypass_paths xs h walk more before here =
    walk_over-append bypass_paths xs (h ∷ [])
    ∙ (ap (λ r. join_walks r (join_walks (bypass_path_at bypass_paths h) (Some []))) before
    ∙ (ap (λ r. join_walks (Some walk) (join_walks r (Some []))) here ∙ ap (λ w. Some (walk ++ w)) (append-nil more)))

-- no walk where one of the links has no bypass path
pub walk_over_none : (bypass_paths : List (Option (List ℕ))) (xs : List ℕ) (i : ℕ) → i < length xs →
    bypass_path_at bypass_paths (slice_index_or xs i 0) ≡ None → walk_over bypass_paths xs ≡ None
walk_over_none bypass_paths [] i below none = absurd (omega arith)
walk_over_none bypass_paths (x ∷ xs) zero below none = ap (λ r. join_walks r (walk_over bypass_paths xs)) none
walk_over_none bypass_paths (x ∷ xs) (suc i) below none =
    ap (join_walks (bypass_path_at bypass_paths x)) (walk_over_none bypass_paths xs i (omega arith) none) ∙ joined_to_none (bypass_path_at bypass_paths x)

-- one path more
pub AreParts_more : (net : Network) (bypass_paths : List (Option (List ℕ))) (s : ℕ) (xs parts : List PathShare) (x : PathShare) (part : List PathShare) →
    AreParts net bypass_paths s xs parts → IsBypassPart net s x.weight (walk_over bypass_paths x.links) part → AreParts net bypass_paths s (xs ++ x ∷ []) (parts ++ part)
AreParts_more net bypass_paths s [] parts x part are is = (part, [], is, refl, ap (λ ps. ps ++ part) are ∙ sym (append-nil part))
AreParts_more net bypass_paths s (y ∷ ys) parts x part are is =
    let first = are.0 in
    let rest = are.1 in (
      first,
      rest ++ part,
      are.2,
      AreParts_more net bypass_paths s ys rest x part are.3 is,
      ap (λ ps. ps ++ part) are.4 ∙ append_assoc first rest part,
    )

abbrev pub IsPathOf : Network → ℕ → ℕ → PathShare → Type 0
IsPathOf net s t x = IsTrue (is_path net s t x.links)

part_path : (net : Network) (s t weight : ℕ) (walk : Option (List ℕ)) (part : List PathShare) →
    ((w : List ℕ) → walk ≡ Some w → chains net s t w ≡ true) → IsBypassPart net s weight walk part → All (IsPathOf net s t) part
part_path net s t weight None part chain is = subst (All (IsPathOf net s t)) (sym is) (All-nil (IsPathOf net s t))
part_path net s t weight (Some w) part chain is =
    subst (All (IsPathOf net s t)) (sym is.2)
    (All-cons (IsPathOf net s t) (record { links = is.0; weight = weight }) [] (cut_is_path net s t w is.0 (chain w refl) is.1) (All-nil (IsPathOf net s t)))

-- the parts are paths between the same nodes
pub parts_paths : (net : Network) (bypass_paths : List (Option (List ℕ))) (s t : ℕ) (xs parts : List PathShare) → JoinEnds net bypass_paths →
    All (IsPathOf net s t) xs → AreParts net bypass_paths s xs parts → All (IsPathOf net s t) parts
parts_paths net bypass_paths s t [] parts lead paths are = subst (All (IsPathOf net s t)) (sym are) (All-nil (IsPathOf net s t))
parts_paths net bypass_paths s t (x ∷ xs) parts lead paths are =
    let chain = (and_parts (chains net s t x.links) (is_distinct (nodes_visited net s x.links)) (All-head (IsPathOf net s t) x xs paths)).0 in
    subst (All (IsPathOf net s t)) (sym are.4)
    (All-append (IsPathOf net s t) are.0 are.1
    (part_path net s t x.weight (walk_over bypass_paths x.links) are.0 (λ w is. walk_chains net bypass_paths s t x.links w lead chain is) are.2)
    (parts_paths net bypass_paths s t xs are.1 lead (All-tail (IsPathOf net s t) x xs paths) are.3))

part_small : (net : Network) (s weight : ℕ) (walk : Option (List ℕ)) (part : List PathShare) → IsBypassPart net s weight walk part →
    (length part ≤ 1) × (total_weight part ≤ weight) × (1 ≤ weight → All (λ (x : PathShare). 1 ≤ x.weight) part)
part_small net s weight None part is =
    (omega (arith, ap length is), omega (arith, ap total_weight is, none), λ some. subst (All (λ (x : PathShare). 1 ≤ x.weight)) (sym is) (All-nil _))
  where
    none : total_weight [] ≡ 0
    none = refl
part_small net s weight (Some w) part is =
    let one : PathShare = record { links = is.0; weight = weight } in (
      omega (arith, ap length is.2),
      omega (arith, ap total_weight is.2, sum_by-cons (λ (x : PathShare). x.weight) one [], none),
      λ some. subst (All (λ (x : PathShare). 1 ≤ x.weight)) (sym is.2) (All-cons (λ (x : PathShare). 1 ≤ x.weight) one [] some (All-nil _)),
    )
  where
    none : total_weight [] ≡ 0
    none = refl

-- there are no more parts than paths, and they weigh no more
pub parts_small : (net : Network) (bypass_paths : List (Option (List ℕ))) (s : ℕ) (xs parts : List PathShare) → AreParts net bypass_paths s xs parts →
    All (λ (x : PathShare). 1 ≤ x.weight) xs →
    (length parts ≤ length xs) × (total_weight parts ≤ total_weight xs) × All (λ (x : PathShare). 1 ≤ x.weight) parts
parts_small net bypass_paths s [] parts are some =
    (omega (arith, ap length are), omega (arith, ap total_weight are), subst (All (λ (x : PathShare). 1 ≤ x.weight)) (sym are) (All-nil _))
parts_small net bypass_paths s (x ∷ xs) parts are some =
    let here = part_small net s x.weight (walk_over bypass_paths x.links) are.0 are.2 in
    let rest = parts_small net bypass_paths s xs are.1 are.3 (All-tail (λ (y : PathShare). 1 ≤ y.weight) x xs some) in (
      omega (arith, ap length are.4, length-append are.0 are.1, here.0, rest.0),
      omega (arith, ap total_weight are.4, sum_by-append (λ (y : PathShare). y.weight) are.0 are.1, sum_by-cons (λ (y : PathShare). y.weight) x xs, here.1, rest.1),
      subst (All (λ (y : PathShare). 1 ≤ y.weight)) (sym are.4)
          (All-append (λ (y : PathShare). 1 ≤ y.weight) are.0 are.1 (here.2 (All-head (λ (y : PathShare). 1 ≤ y.weight) x xs some)) rest.2),
    )

-- the bypass path of the link that is read
pub stand_read : (bypass_paths : List (Option Path)) (links : List ℕ) (i : ℕ) (o : Option Path) → i < length links → All (λ h. h < length bypass_paths) links →
    o ≡ slice_index_or bypass_paths (slice_index_or links i 0) o → bypass_path_at (map links_of bypass_paths) (slice_index_or links i 0) ≡ links_of o
stand_read bypass_paths links i o below inside is =
    get_or-map links_of bypass_paths (slice_index_or links i 0) o None (All-get_or (λ (h : ℕ). h < length bypass_paths) links i 0 below inside) ∙ ap links_of (sym is)

-- the item that a loop reads has what each item has
pub item_has : {X : Type 0} (P : X → Type 0) (xs held : List X) (i : ℕ) (x : X) → held ≡ xs → i < length held → x ≡ slice_index_or held i x →
    All P xs → P x
item_has P xs held i x same below is all = subst P (sym is) (All-get_or P held i x below (subst (All P) (sym same) all))

-- the links of a path, which may have bypass paths
pub links_stand : (net : Network) (s t : ℕ) (bypass_paths : List (Option Path)) (x : PathShare) (links : List ℕ) → JoinEnds net (map links_of bypass_paths) →
    IsPathOf net s t x → links ≡ x.links → All (λ h. h < length bypass_paths) links
links_stand net s t bypass_paths x links lead path same =
    let chain = (and_parts (chains net s t x.links) (is_distinct (nodes_visited net s x.links)) path).0 in
    let count : link_count net ≡ length bypass_paths = sym lead.count ∙ length-map bypass_paths links_of in
    subst (λ (n : ℕ). All (λ h. h < n) links) count
    (subst (All (λ h. h < link_count net)) (sym same) (walk_links net s t x.links chain))

-- the walk over the bypass paths of the links of a path leads to its end
pub walk_ready : (net : Network) (s t : ℕ) (bypass_paths : List (Option (List ℕ))) (x : PathShare) (walk : List ℕ) → JoinEnds net bypass_paths →
    IsPathOf net s t x → walk_over bypass_paths x.links ≡ Some walk → chains net s (end_of net s walk) walk ≡ true
walk_ready net s t bypass_paths x walk lead path is =
    let chain = (and_parts (chains net s t x.links) (is_distinct (nodes_visited net s x.links)) path).0 in
    chains_to_end net s t walk (walk_chains net bypass_paths s t x.links walk lead chain is)

-- the parts with those of the next path
pub parts_next : (net : Network) (bypass_paths : List (Option (List ℕ))) (s : ℕ) (paths held : List PathShare) (i : ℕ) (x : PathShare)
    (old new part : List PathShare) → held ≡ paths → i < length held → x ≡ slice_index_or held i x → AreParts net bypass_paths s (take i paths) old →
    IsBypassPart net s x.weight (walk_over bypass_paths x.links) part → new ≡ old ++ part → AreParts net bypass_paths s (take (i + 1) paths) new
parts_next net bypass_paths s paths held i x old new part same below is before here made =
    let lent : i < length paths = subst (λ ys. i < length ys) same below in
    let read : slice_index_or paths i x ≡ x = ap (λ ys. slice_index_or ys i x) (sym same) ∙ sym is in
    subst (λ ys. AreParts net bypass_paths s ys new) (sym (take_more paths i x lent ∙ ap (λ y. take i paths ++ y ∷ []) read))
    (subst (AreParts net bypass_paths s (take i paths ++ x ∷ [])) (sym made) (AreParts_more net bypass_paths s (take i paths) old x part before here))
