-- What a decomposition of an acyclic flow gives.
use Rattle.std.proofs.Common.{◌≡◌, inl, inr, ℕ, ◌+◌, ◌-◌, ◌*◌, ◌<◌, ◌≤◌, Bool, true, false, List, [], ◌∷◌, ◌++◌, length, arith, refl, ap, sym, ◌∙◌, subst, ◌==◌, append_assoc, append-nil, All, IsTrue}
use Rattle.std.specs.Prelude.{if◌then◌else◌, nat_lt, ◌&&◌}
use Rattle.std.proofs.Math.Nat.{mul-le-mul_left}
use Rattle.std.proofs.lemmas.Bool.{and_from, cases_lt, cases_order, eq-eqb, eqb-true, lt-ltb, ltb-true, or_cases, or_left, or_right, false≢true}
use Rattle.std.proofs.lemmas.List.Elements.{All-cons, All-nil}
use Rattle.std.proofs.lemmas.List.Sums.{sum_by-cons}
use Rattle.te_model.specs.declared.network.Network.{Network}
use Rattle.te_model.specs.declared.route.Pair.{Pair}
use Rattle.te_model.specs.declared.route.PathShare.{PathShare}
use Rattle.te_model.specs.declared.units.TheConstants.{SHARE_UNIT}
use Rattle.te_model.specs.Counting.{sum_below, count_below}
use Rattle.te_model.specs.Network.{node_count, link_count, tail_of, head_of}
use Rattle.te_model.specs.Path.{has_number, is_path, weight_on, amount_on}
use Rattle.te_model.specs.PathRouting.{IsPathSplit}
use Rattle.te_model.specs.Flow.{IsFlow}
use Rattle.te_model.specs.Laws.{LinksJoinNodes}
use Rattle.te_model.specs.Validity.{list_below, paths_ascend}
use Rattle.te_model.proofs.Counts.{count_below-lt, count_below-bound}
use Rattle.te_model.proofs.FlowLaw.{flow_law}
use Rattle.te_model.proofs.Shares.{path_flow, weights_flow, flow_same}
use Rattle.te_model.proofs.Sums.{sum_below-same, sum_below-le, sum_below-add, sum_below-term}
use Rattle.te_model.proofs.Tests.{all_to_tests}
use Rattle.routing.specs.Decomposition.{IsNumbering, IsAcyclicFlow, IsLowestPath, IsTakenOff, IsDecomposition}
use Rattle.routing.specs.Split.{total_weight}
use Rattle.te_model.proofs.Conditionals.{if_true, if_other}
use Rattle.te_model.proofs.Conditionals.{if_split}
use Rattle.routing.proofs.LowestPaths.{lowest_chains, lowest_distinct, lowest_flows, lowest_is_path, lowest_rises_more}

-- less flow has the same numbering
less_numbering : (net : Network) (flow left number : ℕ → ℕ) → ((h : ℕ) → h < link_count net → left h ≤ flow h) → IsNumbering net flow number →
    IsNumbering net left number
less_numbering net flow left number less numbers = record {
  below = numbers.below;
  rises = λ h inside some. numbers.rises h inside (omega (arith, less h inside, some));
}

-- along an acyclic flow the numbers rise by the flow at least
climbs : (net : Network) (flow number : ℕ → ℕ) → IsNumbering net flow number →
    sum_below (link_count net) (λ h. flow h * number (tail_of net h)) + sum_below (link_count net) flow
    ≤ sum_below (link_count net) (λ h. flow h * number (head_of net h))
climbs net flow number numbers =
    let m = link_count net in
    let apart = sum_below-add m (λ h. flow h * number (tail_of net h)) flow in
    let each = sum_below-le m (λ h. flow h * number (tail_of net h) + flow h) (λ h. flow h * number (head_of net h)) (λ h inside. step h inside) in
    omega (arith, apart, each)
  where
    step : (h : ℕ) → h < link_count net → flow h * number (tail_of net h) + flow h ≤ flow h * number (head_of net h)
    step h inside = elim (cases_lt 0 (flow h)) [
      | inl some ↦ let more = mul-le-mul_left (flow h) (numbers.rises h inside some) in omega (arith, more)
      | inr none ↦ let e : flow h ≡ 0 = omega arith in rw e (omega arith)
    ]

-- an acyclic flow of no amount is none
pub no_amount : (net : Network) (flow : ℕ → ℕ) (s t : ℕ) → LinksJoinNodes net → s < node_count net → t < node_count net →
    IsAcyclicFlow net flow 0 s t → (h : ℕ) → h < link_count net → flow h ≡ 0
no_amount net flow s t ends s_in t_in is h inside =
    let number = is.acyclic.0 in
    let law = flow_law net flow 0 s t number (λ h below. (ends h below).0) (λ h below. (ends h below).1) s_in t_in is.balance in
    omega (arith, law, climbs net flow number is.acyclic.1, sum_below-term (link_count net) h flow inside)

gain : (a k x y : ℕ) → x < y → 1 ≤ k → a * x + (a + k) * y ≤ a * y + (a + k) * x → ⊥
gain a k x y lt some le = let more = mul-le-mul_left k lt in omega (arith, more, le, some)

gain-le : (a w x y : ℕ) → x < y → a * x + w * y ≤ a * y + w * x → w ≤ a
gain-le a w x y lt le = elim (cases_lt a w) [
  | inl more ↦
      let e : w ≡ a + (w - a) = omega arith in
      absurd (gain a (w - a) x y lt (omega arith) (subst (λ w. a * x + w * y ≤ a * y + w * x) e le))
  | inr ge ↦ ge
]

-- the flow is what is left and what the path takes, by any worth of links
worth_apart : (net : Network) (flow left off worth : ℕ → ℕ) → ((h : ℕ) → h < link_count net → flow h ≡ left h + off h) →
    sum_below (link_count net) (λ h. flow h * worth h)
    ≡ sum_below (link_count net) (λ h. left h * worth h) + sum_below (link_count net) (λ h. off h * worth h)
worth_apart net flow left off worth apart =
    sum_below-same (link_count net) (λ h. flow h * worth h) (λ h. left h * worth h + off h * worth h)
    (λ h inside. ap (λ x. x * worth h) (apart h inside) ∙ omega arith)
    ∙ sum_below-add (link_count net) (λ h. left h * worth h) (λ h. off h * worth h)

-- .. and at any node
node_apart : (net : Network) (flow left off end' : ℕ → ℕ) (v : ℕ) → ((h : ℕ) → h < link_count net → flow h ≡ left h + off h) →
    sum_below (link_count net) (λ h. if end' h == v then flow h else 0)
    ≡ sum_below (link_count net) (λ h. if end' h == v then left h else 0) + sum_below (link_count net) (λ h. if end' h == v then off h else 0)
node_apart net flow left off end' v apart =
    sum_below-same (link_count net) (λ h. if end' h == v then flow h else 0)
    (λ h. (if end' h == v then left h else 0) + (if end' h == v then off h else 0))
    (λ h inside. if_split (end' h == v) (flow h) (left h) (off h) (apart h inside))
    ∙ sum_below-add (link_count net) (λ h. if end' h == v then left h else 0) (λ h. if end' h == v then off h else 0)

-- a path's flow
taken_flow : (net : Network) (flow number : ℕ → ℕ) (s t w : ℕ) (path : List ℕ) → IsNumbering net flow number → IsLowestPath net flow s t path →
    IsFlow net (amount_on path w) w s t
taken_flow net flow number s t w path numbers is =
    path_flow net w s t path (lowest_chains net flow s t path is) (lowest_distinct net flow number s t path numbers is)

-- no path takes more than the amount
pub taken-le : (net : Network) (flow left : ℕ → ℕ) (amount s t : ℕ) (p : PathShare) → LinksJoinNodes net → s < node_count net → t < node_count net → (s ≡ t → ⊥) →
    IsAcyclicFlow net flow amount s t → IsTakenOff net s t flow p left → p.weight ≤ amount
taken-le net flow left amount s t p ends s_in t_in apart is off =
    let number = is.acyclic.0 in
    let numbers = is.acyclic.1 in
    let w = p.weight in
    let takes = amount_on p.links w in
    let tails = λ (h : ℕ) (below : h < link_count net). (ends h below).0 in
    let heads = λ (h : ℕ) (below : h < link_count net). (ends h below).1 in
    let law = flow_law net flow amount s t number tails heads s_in t_in is.balance in
    let law' = flow_law net takes w s t number tails heads s_in t_in (taken_flow net flow number s t w p.links numbers off.path) in
    let at_heads = worth_apart net flow left takes (λ h. number (head_of net h)) off.rest in
    let at_tails = worth_apart net flow left takes (λ h. number (tail_of net h)) off.rest in
    let left_numbers = less_numbering net flow left number (λ h inside. omega (arith, off.rest h inside)) numbers in
    let rises = climbs net left number left_numbers in
    gain-le amount w (number s) (number t) (lowest_rises_more net flow number s t p.links numbers off.path apart)
    (omega (arith, law, law', at_heads, at_tails, rises))

-- what is left is an acyclic flow of the amount that is left
pub left_flow : (net : Network) (flow left : ℕ → ℕ) (amount s t : ℕ) (p : PathShare) → p.weight ≤ amount →
    IsAcyclicFlow net flow amount s t → IsTakenOff net s t flow p left → IsAcyclicFlow net left (amount - p.weight) s t
left_flow net flow left amount s t p fits is off = record {
  balance = λ v inside.
      let takes = amount_on p.links p.weight in
      let off_flow = taken_flow net flow is.acyclic.0 s t p.weight p.links is.acyclic.1 off.path in
      let out = node_apart net flow left takes (tail_of net) v off.rest in
      let into = node_apart net flow left takes (head_of net) v off.rest in
      let whole : amount ≡ (amount - p.weight) + p.weight = omega arith in
      let source = if_split (s == v) amount (amount - p.weight) p.weight whole in
      let target = if_split (t == v) amount (amount - p.weight) p.weight whole in
      omega (arith, is.balance v inside, off_flow v inside, out, into, source, target);
  acyclic = (is.acyclic.0, less_numbering net flow left is.acyclic.0 (λ h inside. omega (arith, off.rest h inside)) is.acyclic.1);
}

-- the paths taken off so far, and what is left
pub record DecomposedSoFar (net : Network) (s t : ℕ) (flow : ℕ → ℕ) (amount : ℕ) (left : ℕ → ℕ) (count : ℕ) (paths : List PathShare) : Type 0 where
  pub size : count ≡ link_count net
  pub is : IsAcyclicFlow net left amount s t
  pub extends : (more : List PathShare) → IsDecomposition net s t left more → IsDecomposition net s t flow (paths ++ more)

pub decomposed_more : (net : Network) (s t : ℕ) (flow : ℕ → ℕ) (amount : ℕ) (left left' : ℕ → ℕ) (count count' : ℕ) (paths : List PathShare) (p : PathShare) →
    DecomposedSoFar net s t flow amount left count paths → count' ≡ count → p.weight ≤ amount → IsTakenOff net s t left p left' →
    DecomposedSoFar net s t flow (amount - p.weight) left' count' (paths ++ p ∷ [])
decomposed_more net s t flow amount left left' count count' paths p far same fits off = record {
  size = same ∙ far.size;
  is = left_flow net left left' amount s t p fits far.is off;
  extends = λ more rest. subst (IsDecomposition net s t flow) (sym (append_assoc paths (p ∷ []) more)) (far.extends (p ∷ more) (left', off, rest));
}

-- no flow is left
pub decomposed : (net : Network) (s t : ℕ) (flow : ℕ → ℕ) (amount : ℕ) (left : ℕ → ℕ) (count : ℕ) (paths : List PathShare) →
    LinksJoinNodes net → s < node_count net → t < node_count net → DecomposedSoFar net s t flow amount left count paths → amount ≡ 0 →
    IsDecomposition net s t flow paths
decomposed net s t flow amount left count paths ends s_in t_in far none =
    subst (IsDecomposition net s t flow) (append-nil paths)
    (far.extends [] (no_amount net left s t ends s_in t_in (subst (λ a. IsAcyclicFlow net left a s t) none far.is)))

-- the paths are paths of the network
sound_paths : (net : Network) (s t : ℕ) (flow number : ℕ → ℕ) (paths : List PathShare) → IsNumbering net flow number → IsDecomposition net s t flow paths →
    All (λ p. IsTrue (is_path net s t p.links)) paths
sound_paths net s t flow number [] numbers none = All-nil (λ (p : PathShare). IsTrue (is_path net s t p.links))
sound_paths net s t flow number (p ∷ ps) numbers (left, off, rest) =
    All-cons (λ (p : PathShare). IsTrue (is_path net s t p.links)) p ps (lowest_is_path net flow number s t p.links numbers off.path)
    (sound_paths net s t left number ps (less_numbering net flow left number (λ h inside. omega (arith, off.rest h inside)) numbers) rest)

-- a link of the path that it uses up
used_up : (net : Network) (s t : ℕ) (flow left : ℕ → ℕ) (p : PathShare) → IsTakenOff net s t flow p left →
    (h : ℕ) × (has_number p.links h ≡ true) × (h < link_count net) × (0 < flow h) × (flow h ≡ p.weight) × (left h ≡ 0)
used_up net s t flow left p off =
    let (h, used, all) = off.weight.reached in
    let on = lowest_flows net flow s t h p.links off.path used in
    let takes : amount_on p.links p.weight h ≡ p.weight = if_true (has_number p.links h) p.weight used in
    (h, used, on.0, on.1, all, omega (arith, off.rest h on.0, all, takes))

pub taken-some : (net : Network) (s t : ℕ) (flow left : ℕ → ℕ) (p : PathShare) → IsTakenOff net s t flow p left → 1 ≤ p.weight
taken-some net s t flow left p off = let (h, used, inside, some, all, none) = used_up net s t flow left p off in omega (arith, some, all)

positive : (net : Network) (s t : ℕ) (flow : ℕ → ℕ) (paths : List PathShare) → IsDecomposition net s t flow paths → All (λ p. 1 ≤ p.weight) paths
positive net s t flow [] none = All-nil (λ (p : PathShare). 1 ≤ p.weight)
positive net s t flow (p ∷ ps) (left, off, rest) =
    All-cons (λ (p : PathShare). 1 ≤ p.weight) p ps (taken-some net s t flow left p off) (positive net s t left ps rest)

-- their shares are the flow
pub decomposition_shares : (net : Network) (s t : ℕ) (flow : ℕ → ℕ) (paths : List PathShare) → IsDecomposition net s t flow paths →
    (h : ℕ) → h < link_count net → weight_on paths h ≡ flow h
decomposition_shares net s t flow [] none h inside = sym (none h inside)
decomposition_shares net s t flow (p ∷ ps) (left, off, rest) h inside =
    omega (
      arith,
      sum_by-cons (λ (q : PathShare). if has_number q.links h then q.weight else 0) p ps,
      decomposition_shares net s t left ps rest h inside,
      off.rest h inside,
    )

-- a flow has one amount
one_amount : (net : Network) (flow : ℕ → ℕ) (a b s t : ℕ) → IsFlow net flow a s t → IsFlow net flow b s t → s < node_count net → (s ≡ t → ⊥) → a ≡ b
one_amount net flow a b s t one two inside apart =
    omega (
      arith,
      one s inside,
      two s inside,
      if_true (s == s) a (eq-eqb s s refl),
      if_true (s == s) b (eq-eqb s s refl),
      if_other t s a (λ e. apart (sym e)),
      if_other t s b (λ e. apart (sym e)),
    )

-- each path uses a link up
few_paths : (net : Network) (s t : ℕ) (flow : ℕ → ℕ) (paths : List PathShare) → IsDecomposition net s t flow paths →
    length paths ≤ count_below (link_count net) (λ h. nat_lt 0 (flow h))
few_paths net s t flow [] none = omega arith
few_paths net s t flow (p ∷ ps) (left, off, rest) =
    let (h, used, inside, some, all, none) = used_up net s t flow left p off in
    let fewer = count_below-lt (link_count net) (λ h. nat_lt 0 (left h)) (λ h. nat_lt 0 (flow h)) h inside
    (ap (λ x. nat_lt 0 x) none) (lt-ltb 0 (flow h) some)
    (λ k k_in more. lt-ltb 0 (flow k) (omega (arith, ltb-true 0 (left k) more, off.rest k k_in)))
    in
    omega (arith, fewer, few_paths net s t left ps rest)

pub decomposition_few : (net : Network) (s t : ℕ) (flow : ℕ → ℕ) (paths : List PathShare) → IsDecomposition net s t flow paths → length paths ≤ link_count net
decomposition_few net s t flow paths is =
    omega (arith, few_paths net s t flow paths is, count_below-bound (link_count net) (λ h. nat_lt 0 (flow h)))

-- the lowest path of less flow, in which a link of the first one is used up, comes later
later_path : (net : Network) (flow left : ℕ → ℕ) (v t h : ℕ) (xs ys : List ℕ) → ((h : ℕ) → h < link_count net → left h ≤ flow h) →
    IsLowestPath net flow v t xs → IsLowestPath net left v t ys → has_number xs h ≡ true → left h ≡ 0 → list_below xs ys ≡ true
later_path net flow left v t h [] ys less one two used none = absurd (false≢true used)
later_path net flow left v t h (x ∷ xs) [] less (apart, link, rest) e used none = absurd (apart e)
later_path net flow left v t h (x ∷ xs) (y ∷ ys) less (apart, link, rest) (apart', link', rest') used none = elim (cases_order x y) [
  | inl e ↦
      or_right (nat_lt x y) (x == y && list_below xs ys)
      (and_from (x == y) (list_below xs ys) (eq-eqb x y e)
      (later_path net flow left (head_of net x) t h xs ys less rest (subst (λ k. IsLowestPath net left (head_of net k) t ys) (sym e) rest') (inside e) none))
  | inr other ↦ elim other [
    | inl lt ↦ or_left (nat_lt x y) (x == y && list_below xs ys) (lt-ltb x y lt)
    | inr gt ↦ absurd (omega (arith, link.lowest y gt link'.leaves, less y link'.inside, link'.some))
  ]
]
  where
    inside : x ≡ y → has_number xs h ≡ true
    inside e = elim (or_cases (x == h) (has_number xs h) used) [
      | inl here ↦
          let at : left y ≡ 0 = subst (λ k. left k ≡ 0) (sym (eqb-true x h here) ∙ e) none in
          absurd (omega (arith, at, link'.some))
      | inr later ↦ later
    ]

-- so the paths strictly ascend
ascending : (net : Network) (s t : ℕ) (flow : ℕ → ℕ) (paths : List PathShare) → IsDecomposition net s t flow paths → paths_ascend paths ≡ true
ascending net s t flow [] none = refl
ascending net s t flow (p ∷ []) is = refl
ascending net s t flow (p ∷ q ∷ ps) (left, off, (left', off', rest)) =
    let (h, used, inside, some, all, none) = used_up net s t flow left p off in
    and_from (list_below p.links q.links) (paths_ascend (q ∷ ps))
    (later_path net flow left s t h p.links q.links (λ h inside. omega (arith, off.rest h inside)) off.path off'.path used none)
    (ascending net s t left (q ∷ ps) (left', off', rest))

-- a decomposition splits the pair's demand
pub decomposition_splits : (net : Network) (pair : Pair) (flow : ℕ → ℕ) (paths : List PathShare) → pair.src < node_count net → (pair.src ≡ pair.dst → ⊥) →
    IsAcyclicFlow net flow SHARE_UNIT pair.src pair.dst → IsDecomposition net pair.src pair.dst flow paths →
    IsPathSplit net (record { pair = pair; paths = paths })
decomposition_splits net pair flow paths inside apart is made =
    let s = pair.src in
    let t = pair.dst in
    let sound = sound_paths net s t flow is.acyclic.0 paths is.acyclic.1 made in
    let tests = all_to_tests (λ (p : PathShare). is_path net s t p.links) (λ (p : PathShare). IsTrue (is_path net s t p.links)) (λ p e. e) paths sound in
    let shares = flow_same net (weight_on paths) flow (total_weight paths) s t (λ h below. sym (decomposition_shares net s t flow paths made h below))
    (weights_flow net s t paths tests)
    in
    record {
      paths = sound;
      distinct = ascending net s t flow paths made;
      weights = positive net s t flow paths made;
      whole = one_amount net flow (total_weight paths) SHARE_UNIT s t shares is.balance inside apart;
    }
