-- The flow while next links still wait for their parts, those of the farthest nodes going first.
use Rattle.std.proofs.Common.{◌≡◌, ◌⊎◌, inl, inr, ℕ, ◌+◌, ◌<◌, ◌≤◌, Bool, true, false, List, [], ◌∷◌, ◌++◌, Option, Some, length, take, arith, refl, ap, sym, ◌∙◌, subst, set, slice_index, replicate, ◌==◌, All}
use Rattle.std.specs.Prelude.{if◌then◌else◌}
use Rattle.std.specs.List.Sorted.{IsNonDecreasingBy, IsPermutation}
use Rattle.std.proofs.Math.Seq.{take-append_seam}
use Rattle.std.proofs.lemmas.Bool.{cases_Bool, cases_eq, eq-eqb, eqb-true, false≢true}
use Rattle.std.proofs.lemmas.List.{get_or-set_other, get_or-set_same, get_or_append_left, get_or_push, get_or-replicate, length-set, length-replicate, length_push}
use Rattle.std.proofs.lemmas.List.Elements.{All-get_or, All-take}
use Rattle.std.proofs.lemmas.List.Sorted.{All-permutation, IsNonDecreasingBy-take, sum_by-IsPermutation}
use Rattle.te_model.specs.declared.network.Network.{Network}
use Rattle.te_model.specs.declared.units.TheConstants.{SHARE_UNIT}
use Rattle.te_model.specs.Network.{node_count, link_count, tail_of, head_of, cost_of}
use Rattle.te_model.specs.Flow.{amount_at}
use Rattle.te_model.specs.Laws.{LinksJoinNodes}
use Rattle.te_model.proofs.Sums.{sum_below-same}
use Rattle.te_model.proofs.Conditionals.{if_other, if_true, if_zero, if_false, if_le-self}
use Rattle.shortest_path.specs.Graph.{distance_at}
use Rattle.ecmp_split.specs.declared.next.NextLink.{NextLink}
use Rattle.ecmp_split.specs.Equal.{is_next, next_count, next_place, next_part, equal_part, arrivals_at}
use Rattle.ecmp_split.specs.Next.{IsNextLink, AreNextLinks, times}
use Rattle.ecmp_split.proofs.Collecting.{times_push, one_same, one_other}
use Rattle.ecmp_split.proofs.CostsTo.{counted_at_tail, next_parts}
use Rattle.ecmp_split.proofs.NodeSums.{end_none, few_units, next_part-kept, next_part-none}
use Rattle.ecmp_split.proofs.Parts.{sum_below-except}

pub record IsWaiting (waiting : List NextLink) (flow : ℕ → ℕ) (h : ℕ) : Type 0 where
  pub once : times h waiting ≡ 1
  pub none : flow h ≡ 0

-- the link has its part, and no link of a farther node waits
pub record IsServed (net : Network) (sums : List (Option ℕ)) (s : ℕ) (waiting : List NextLink) (flow : ℕ → ℕ) (h : ℕ) : Type 0 where
  pub gone : times h waiting ≡ 0
  pub part : flow h ≡ next_part net sums flow s h
  pub farther : (d : ℕ) → is_next net sums h ≡ true → distance_at sums (tail_of net h) ≡ Some d → All (λ x. x.cost ≤ d) waiting

pub record SharedSoFar (net : Network) (sums : List (Option ℕ)) (s : ℕ) (waiting : List NextLink) (flow : ℕ → ℕ) : Type 0 where
  pub each : All (IsNextLink net sums) waiting
  pub rises : IsNonDecreasingBy (λ x. x.cost) waiting
  pub state : (h : ℕ) → h < link_count net → IsWaiting waiting flow h ⊎ IsServed net sums s waiting flow h

-- .. in lists
pub record IsSharing (net : Network) (sums : List (Option ℕ)) (s : ℕ) (waiting : List NextLink) (flow arrived : List ℕ) : Type 0 where
  pub shared : SharedSoFar net sums s waiting (slice_index flow)
  pub flow_size : length flow ≡ link_count net
  pub arrived_size : length arrived ≡ node_count net
  pub arrived_is : (v : ℕ) → v < node_count net → slice_index arrived v ≡ arrivals_at net (slice_index flow) s v
  pub few : (v : ℕ) → v < node_count net → arrivals_at net (slice_index flow) s v ≤ SHARE_UNIT

-- what arrives where only the flow of one link has changed, and that link leads elsewhere
arriving_kept : (net : Network) (f g : ℕ → ℕ) (s k v : ℕ) → ((h : ℕ) → (h ≡ k → ⊥) → g h ≡ f h) → (head_of net k ≡ v → ⊥) →
    arrivals_at net g s v ≡ arrivals_at net f s v
arriving_kept net f g s k v same apart =
    ap (λ x. x + amount_at s SHARE_UNIT v)
    (sum_below-same (link_count net) (λ h. if head_of net h == v then g h else 0) (λ h. if head_of net h == v then f h else 0)
    (λ h inside. go h (head_of net h == v) refl))
  where
    go : (h : ℕ) (b : Bool) → (head_of net h == v) ≡ b → (if b then g h else 0) ≡ (if b then f h else 0)
    go h true e = same h (λ is. apart (ap (head_of net) (sym is) ∙ eqb-true (head_of net h) v e))
    go h false e = refl

-- .. and where it leads
arriving_more : (net : Network) (f g : ℕ → ℕ) (s k v : ℕ) → k < link_count net → ((h : ℕ) → (h ≡ k → ⊥) → g h ≡ f h) → f k ≡ 0 →
    arrivals_at net g s v ≡ arrivals_at net f s v + (if head_of net k == v then g k else 0)
arriving_more net f g s k v inside same none =
    let apart = sum_below-except (link_count net) k (λ h. if head_of net h == v then g h else 0) (λ h. if head_of net h == v then f h else 0) inside
    (λ h h_in other. ap (λ x. if head_of net h == v then x else 0) (same h other))
    in
    omega (arith, apart, if_zero (head_of net k == v) (f k) none)

-- a next link does not lead to a node that is as far as its tail
leads_nearer : (net : Network) (sums : List (Option ℕ)) (x : NextLink) (v d : ℕ) → IsNextLink net sums x → 1 ≤ cost_of net x.link →
    distance_at sums v ≡ Some d → x.cost ≤ d → head_of net x.link ≡ v → ⊥
leads_nearer net sums x v d is some at far e =
    let (y, to, from) = next_parts net sums x.link is.next in
    let cost : x.cost ≡ cost_of net x.link + y = cc (sym is.cost ∙ from) in
    let same : y ≡ d = cc (sym to ∙ (ap (distance_at sums) e ∙ at)) in
    omega (arith, cost, same, far, some)

front : (rest : List NextLink) (x : NextLink) → take (length rest) (rest ++ x ∷ []) ≡ rest
front rest x = take-append_seam rest (x ∷ [])

all_front : (P : NextLink → Type 0) (rest : List NextLink) (x : NextLink) → All P (rest ++ x ∷ []) → All P rest
all_front P rest x all = subst (All P) (front rest x) (All-take P (length rest) (rest ++ x ∷ []) all)

all_last : (P : NextLink → Type 0) (rest : List NextLink) (x : NextLink) → All P (rest ++ x ∷ []) → P x
all_last P rest x all =
    subst P (get_or_push rest x x (length rest) refl) (All-get_or P (rest ++ x ∷ []) (length rest) x (omega (arith, length_push rest x)) all)

-- the last link to wait is of a farthest node
last_farthest : (rest : List NextLink) (x : NextLink) → IsNonDecreasingBy (λ y. y.cost) (rest ++ x ∷ []) → All (λ y. y.cost ≤ x.cost) rest
last_farthest rest x rises k d below =
    let le = rises k (length rest) d (omega (arith, below)) (omega (arith, length_push rest x)) in
    let left = ap (λ (y : NextLink). y.cost) (get_or_append_left rest (x ∷ []) d k below) in
    let last = ap (λ (y : NextLink). y.cost) (get_or_push rest x d (length rest) refl) in
    omega (arith, le, left, last)

-- the last link that waits gets its part
pub shared_more : (net : Network) (sums : List (Option ℕ)) (s : ℕ) (rest : List NextLink) (x : NextLink) (f g : ℕ → ℕ) →
    ((h : ℕ) → h < link_count net → 1 ≤ cost_of net h) → SharedSoFar net sums s (rest ++ x ∷ []) f →
    ((h : ℕ) → (h ≡ x.link → ⊥) → g h ≡ f h) →
    g x.link ≡ equal_part (arrivals_at net f s (tail_of net x.link)) (next_count net sums (tail_of net x.link)) x.place → SharedSoFar net sums s rest g
shared_more net sums s rest x f g costs far same part = record {
  each = all_front (IsNextLink net sums) rest x far.each;
  rises = subst (IsNonDecreasingBy (λ (y : NextLink). y.cost)) (front rest x)
      (IsNonDecreasingBy-take (λ (y : NextLink). y.cost) (length rest) (rest ++ x ∷ []) far.rises);
  state = λ h inside. elim (cases_eq h x.link) [
    | inl e ↦ inr (subst (IsServed net sums s rest g) (sym e) served)
    | inr other ↦ elim (far.state h inside) [
      | inl waits ↦ inl (record { once = omega (arith, waits.once, times_push h rest x, one_other x.link h (λ e. other (sym e))); none = same h other ∙ waits.none })
      | inr was ↦ inr (kept h inside other was)
    ]
  ];
}
  where
    is : IsNextLink net sums x
    is = all_last (IsNextLink net sums) rest x far.each

    once : times x.link rest ≡ 0
    once = elim (far.state x.link is.inside) [
      | inl waits ↦ omega (arith, waits.once, times_push x.link rest x, one_same x.link x.link refl)
      | inr was ↦ absurd (omega (arith, was.gone, times_push x.link rest x, one_same x.link x.link refl))
    ]

    served : IsServed net sums s rest g x.link
    served = record {
      gone = once;
      part =
          let kept = arriving_kept net f g s x.link (tail_of net x.link) same
          (leads_nearer net sums x (tail_of net x.link) x.cost is (costs x.link is.inside) is.cost (omega arith))
          in
          let here : next_part net sums f s x.link ≡ equal_part (arrivals_at net f s (tail_of net x.link)) (next_count net sums (tail_of net x.link)) (next_place net sums x.link) =
          if_true (is_next net sums x.link) (equal_part (arrivals_at net f s (tail_of net x.link)) (next_count net sums (tail_of net x.link)) (next_place net sums x.link)) is.next
          in
          let placed = ap (equal_part (arrivals_at net f s (tail_of net x.link)) (next_count net sums (tail_of net x.link))) is.place in
          part ∙ (placed ∙ (sym here ∙ sym (next_part-kept net sums f g s x.link kept)));
      farther = λ d next at. subst (λ c. All (λ (y : NextLink). y.cost ≤ c) rest) (cc (sym is.cost ∙ at)) (last_farthest rest x far.rises);
    }

    kept : (h : ℕ) → h < link_count net → (h ≡ x.link → ⊥) → IsServed net sums s (rest ++ x ∷ []) f h → IsServed net sums s rest g h
    kept h inside other was = record {
      gone = omega (arith, was.gone, times_push h rest x);
      part = same h other ∙ (was.part ∙ elim (cases_Bool (is_next net sums h)) [
        | inl next ↦
            let (y, to, from) = next_parts net sums h next in
            let far_x = all_last (λ (z : NextLink). z.cost ≤ cost_of net h + y) rest x (was.farther (cost_of net h + y) next from) in
            sym (next_part-kept net sums f g s h (arriving_kept net f g s x.link (tail_of net h) same
            (leads_nearer net sums x (tail_of net h) (cost_of net h + y) is (costs x.link is.inside) from far_x)))
        | inr misses ↦ next_part-none net sums f s h misses ∙ sym (next_part-none net sums g s h misses)
      ]);
      farther = λ d next at. all_front (λ (y : NextLink). y.cost ≤ d) rest x (was.farther d next at);
    }

pub parts_le : (net : Network) (sums : List (Option ℕ)) (s : ℕ) (waiting : List NextLink) (flow : ℕ → ℕ) → SharedSoFar net sums s waiting flow →
    (h : ℕ) → h < link_count net → flow h ≤ next_part net sums flow s h
parts_le net sums s waiting flow far h inside = elim (far.state h inside) [
  | inl waits ↦ omega (arith, waits.none)
  | inr served ↦ omega (arith, served.part)
]

-- nothing has left the node to which the last link leads
not_left : (net : Network) (sums : List (Option ℕ)) (s : ℕ) (rest : List NextLink) (x : NextLink) (flow : ℕ → ℕ) →
    ((h : ℕ) → h < link_count net → 1 ≤ cost_of net h) → SharedSoFar net sums s (rest ++ x ∷ []) flow →
    (h : ℕ) → h < link_count net → tail_of net h ≡ head_of net x.link → flow h ≡ 0
not_left net sums s rest x flow costs far h inside from =
    let is = all_last (IsNextLink net sums) rest x far.each in
    elim (far.state h inside) [
      | inl waits ↦ waits.none
      | inr was ↦ was.part ∙ elim (cases_Bool (is_next net sums h)) [
        | inl next ↦
            let (y, to, at) = next_parts net sums h next in
            let far_x = all_last (λ (z : NextLink). z.cost ≤ cost_of net h + y) rest x (was.farther (cost_of net h + y) next at) in
            absurd (leads_nearer net sums x (tail_of net h) (cost_of net h + y) is (costs x.link is.inside) at far_x (sym from))
        | inr misses ↦ next_part-none net sums flow s h misses
      ]
    ]

last_waits : (net : Network) (sums : List (Option ℕ)) (s : ℕ) (rest : List NextLink) (x : NextLink) (flow : ℕ → ℕ) → x.link < link_count net →
    SharedSoFar net sums s (rest ++ x ∷ []) flow → flow x.link ≡ 0
last_waits net sums s rest x flow inside far = elim (far.state x.link inside) [
  | inl waits ↦ waits.none
  | inr was ↦ absurd (omega (arith, was.gone, times_push x.link rest x, one_same x.link x.link refl))
]

last_is : (net : Network) (sums : List (Option ℕ)) (s : ℕ) (rest : List NextLink) (x : NextLink) (flow arrived : List ℕ) →
    IsSharing net sums s (rest ++ x ∷ []) flow arrived → IsNextLink net sums x
last_is net sums s rest x flow arrived far = all_last (IsNextLink net sums) rest x far.shared.each

pub sharing_more : (net : Network) (sums : List (Option ℕ)) (s : ℕ) (rest : List NextLink) (x : NextLink) (flow arrived : List ℕ) (part : ℕ) →
    LinksJoinNodes net → s < node_count net → ((h : ℕ) → h < link_count net → 1 ≤ cost_of net h) → IsSharing net sums s (rest ++ x ∷ []) flow arrived →
    part ≡ equal_part (slice_index arrived (tail_of net x.link)) (next_count net sums (tail_of net x.link)) x.place →
    IsSharing net sums s rest (set flow x.link part) (set arrived (head_of net x.link) (slice_index arrived (head_of net x.link) + part))
sharing_more net sums s rest x flow arrived part ends s_in costs far is_part =
    let is = last_is net sums s rest x flow arrived far in
    let head = head_of net x.link in
    let f = slice_index flow in
    let g = slice_index (set flow x.link part) in
    let total = slice_index arrived head + part in
    let here : g x.link ≡ part = get_or-set_same flow x.link part 0 (omega (arith, far.flow_size, is.inside)) in
    let same : (h : ℕ) → (h ≡ x.link → ⊥) → g h ≡ f h = λ h other. get_or-set_other flow x.link h part 0 other in
    let from : slice_index arrived (tail_of net x.link) ≡ arrivals_at net f s (tail_of net x.link) = far.arrived_is (tail_of net x.link) (ends x.link is.inside).0 in
    let gets : g x.link ≡ equal_part (arrivals_at net f s (tail_of net x.link)) (next_count net sums (tail_of net x.link)) x.place =
    here ∙ (is_part ∙ ap (λ a. equal_part a (next_count net sums (tail_of net x.link)) x.place) from)
    in
    let shared : SharedSoFar net sums s rest g = shared_more net sums s rest x f g costs far.shared same gets in
    let more : (v : ℕ) → arrivals_at net g s v ≡ arrivals_at net f s v + (if head == v then g x.link else 0) =
    λ v. arriving_more net f g s x.link v is.inside same (last_waits net sums s rest x f is.inside far.shared)
    in
    let kept : (v : ℕ) → (v ≡ head → ⊥) → arrivals_at net g s v ≡ arrivals_at net f s v = λ v ne. arriving_kept net f g s x.link v same (λ e. ne (sym e)) in
    record {
      shared = shared;
      flow_size = length-set flow x.link part ∙ far.flow_size;
      arrived_size = length-set arrived head total ∙ far.arrived_size;
      arrived_is = λ v inside. elim (cases_eq v head) [
        | inl e ↦
            let at = get_or-set_same arrived head total 0 (omega (arith, far.arrived_size, (ends x.link is.inside).1)) in
            let new = ap (slice_index (set arrived head total)) e in
            let old = ap (slice_index arrived) e in
            omega (arith, at, new, old, far.arrived_is v inside, more v, if_true (head == v) (g x.link) (eq-eqb head v (sym e)), here)
        | inr ne ↦ get_or-set_other arrived head v total 0 ne ∙ (far.arrived_is v inside ∙ sym (kept v ne))
      ];
      few = λ v inside. elim (cases_eq v head) [
        | inl e ↦
            few_units net sums g s v ends s_in inside (parts_le net sums s rest g shared)
            (end_none net g (tail_of net) v (λ h h_in to. none_left v h h_in (to ∙ e) (g h) (same h)))
        | inr ne ↦ omega (arith, kept v ne, far.few v inside)
      ];
    }
  where
    none_left : (v h : ℕ) → h < link_count net → tail_of net h ≡ head_of net x.link → (y : ℕ) → ((h ≡ x.link → ⊥) → y ≡ slice_index flow h) → y ≡ 0
    none_left v h h_in to y same = elim (cases_eq h x.link) [
      | inl e ↦
          let is = last_is net sums s rest x flow arrived far in
          absurd (leads_nearer net sums x (tail_of net x.link) x.cost is (costs x.link is.inside) is.cost (omega arith) (sym to ∙ ap (tail_of net) e))
      | inr other ↦ same other ∙ not_left net sums s rest x (slice_index flow) costs far.shared h h_in to
    ]

-- what the code needs to know of the last link that waits
pub record IsLast (net : Network) (sums : List (Option ℕ)) (s : ℕ) (rest : List NextLink) (x : NextLink) (flow arrived counts : List ℕ) : Type 0 where
  pub far : IsSharing net sums s (rest ++ x ∷ []) flow arrived
  pub in_flow : x.link < length flow
  pub tail_arrived : tail_of net x.link < length arrived
  pub head_arrived : head_of net x.link < length arrived
  pub tail_counted : tail_of net x.link < length counts
  pub count : slice_index counts (tail_of net x.link) ≡ next_count net sums (tail_of net x.link)
  pub some : 0 < slice_index counts (tail_of net x.link)
  pub units : slice_index arrived (tail_of net x.link) ≤ SHARE_UNIT
  pub old : slice_index arrived (head_of net x.link) ≤ SHARE_UNIT

pub last_waiting : (net : Network) (sums : List (Option ℕ)) (s : ℕ) (waiting rest : List NextLink) (x : NextLink) (flow arrived counts : List ℕ) (list : List NextLink) →
    LinksJoinNodes net → IsSharing net sums s waiting flow arrived → waiting ≡ rest ++ x ∷ [] → AreNextLinks net sums list counts →
    IsLast net sums s rest x flow arrived counts
last_waiting net sums s waiting rest x flow arrived counts list ends sharing split are =
    let far = subst (λ (l : List NextLink). IsSharing net sums s l flow arrived) split sharing in
    let is = last_is net sums s rest x flow arrived far in
    let tail_in = (ends x.link is.inside).0 in
    let head_in = (ends x.link is.inside).1 in
    let count = are.counts_are (tail_of net x.link) tail_in in
    record {
      far = far;
      in_flow = omega (arith, far.flow_size, is.inside);
      tail_arrived = omega (arith, far.arrived_size, tail_in);
      head_arrived = omega (arith, far.arrived_size, head_in);
      tail_counted = omega (arith, are.size, tail_in);
      count = count;
      some = omega (arith, count, counted_at_tail net sums x.link is.inside is.next);
      units = omega (arith, far.arrived_is (tail_of net x.link) tail_in, far.few (tail_of net x.link) tail_in);
      old = omega (arith, far.arrived_is (head_of net x.link) head_in, far.few (head_of net x.link) head_in);
    }

pub sharing_start : (net : Network) (sums : List (Option ℕ)) (s : ℕ) (waiting : List NextLink) (counts : List ℕ) (n m : ℕ) → s < node_count net →
    AreNextLinks net sums waiting counts → IsNonDecreasingBy (λ x. x.cost) waiting → n ≡ node_count net → m ≡ link_count net →
    IsSharing net sums s waiting (replicate m 0) (set (replicate n 0) s SHARE_UNIT)
sharing_start net sums s waiting counts n m s_in are rises is_n is_m =
    let none : (h : ℕ) → h < link_count net → slice_index (replicate m 0) h ≡ 0 = λ h inside. get_or-replicate m h 0 0 (omega (arith, is_m, inside)) in
    let nothing : (v : ℕ) → arrivals_at net (slice_index (replicate m 0)) s v ≡ amount_at s SHARE_UNIT v =
    λ v. omega (arith, end_none net (slice_index (replicate m 0)) (head_of net) v (λ h inside to. none h inside))
    in
    record {
      shared = record {
        each = are.each;
        rises = rises;
        state = λ h inside. elim (cases_Bool (is_next net sums h)) [
          | inl next ↦ inl (record { once = are.once h inside ∙ if_true (is_next net sums h) 1 next; none = none h inside })
          | inr misses ↦ inr (record {
            gone = are.once h inside ∙ if_false (is_next net sums h) 1 misses;
            part = none h inside ∙ sym (next_part-none net sums (slice_index (replicate m 0)) s h misses);
            farther = λ d next at. absurd (false≢true (sym misses ∙ next));
          })
        ];
      };
      flow_size = length-replicate m 0 ∙ is_m;
      arrived_size = length-set (replicate n 0) s SHARE_UNIT ∙ (length-replicate n 0 ∙ is_n);
      arrived_is = λ v inside. elim (cases_eq v s) [
        | inl e ↦
            let at = get_or-set_same (replicate n 0) s SHARE_UNIT 0 (omega (arith, length-replicate {A = ℕ} n 0, is_n, s_in)) in
            ap (slice_index (set (replicate n 0) s SHARE_UNIT)) e ∙ (at ∙ (sym (if_true (s == v) SHARE_UNIT (eq-eqb s v (sym e))) ∙ sym (nothing v)))
        | inr ne ↦
            let zero = get_or-replicate n v 0 0 (omega (arith, is_n, inside)) in
            get_or-set_other (replicate n 0) s v SHARE_UNIT 0 ne ∙ (zero ∙ (sym (if_other s v SHARE_UNIT (λ e. ne (sym e))) ∙ sym (nothing v)))
      ];
      few = λ v inside. omega (arith, nothing v, if_le-self (s == v) SHARE_UNIT);
    }

-- the next links in another order
pub links_moved : (net : Network) (sums : List (Option ℕ)) (list moved : List NextLink) (counts : List ℕ) → IsPermutation list moved →
    AreNextLinks net sums list counts → AreNextLinks net sums moved counts
links_moved net sums list moved counts order are = record {
  each = All-permutation (IsNextLink net sums) list moved order are.each;
  once = λ h inside. sum_by-IsPermutation (λ (x : NextLink). if x.link == h then 1 else 0) list moved order ∙ are.once h inside;
  size = are.size;
  counts_are = are.counts_are;
}

pub sharing_end : (net : Network) (sums : List (Option ℕ)) (s : ℕ) (waiting : List NextLink) (flow arrived : List ℕ) → IsSharing net sums s waiting flow arrived →
    waiting ≡ [] → (h : ℕ) → h < link_count net → slice_index flow h ≡ next_part net sums (slice_index flow) s h
sharing_end net sums s waiting flow arrived far none h inside = elim (far.shared.state h inside) [
  | inl waits ↦ let empty : times h waiting ≡ 0 = ap (times h) none in absurd (omega (arith, waits.once, empty))
  | inr served ↦ served.part
]
