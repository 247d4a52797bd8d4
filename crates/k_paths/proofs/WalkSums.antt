-- Sums that are lowered link by link, and that are the least once no link lowers one.
use Rattle.std.proofs.Common.{inl, inr, ◌≡◌, ℕ, ◌+◌, ◌*◌, ◌<◌, ◌≤◌, Bool, true, false, List, [], ◌∷◌, Option, Some, None, length, set, take, arith, ap, sym, ◌∙◌, subst, slice_index}
use Rattle.std.specs.Prelude.{All, MatchOption}
use Rattle.std.proofs.lemmas.Bool.{cases_eq, cases_lt}
use Rattle.std.proofs.lemmas.List.{length-set, get_or_past, get_or-set_same, get_or-set_other}
use Rattle.std.proofs.lemmas.List.Elements.{All-more, All-nil}
use Rattle.te_model.specs.declared.network.Network.{Network}
use Rattle.te_model.specs.declared.limits.TheConstants.{FORMAT_2}
use Rattle.te_model.specs.Network.{node_count, link_count, tail_of, head_of}
use Rattle.shortest_path.specs.Graph.{AtMost, distance_at}
use Rattle.shortest_path.specs.Least.{AreLeastSums}
use Rattle.shortest_path.specs.Links.{is_open, Walk}
use Rattle.shortest_path.specs.Paths.{sum_along}
use Rattle.shortest_path.proofs.Relaxing.{at_most-some, at_most-is}
use Rattle.k_paths.specs.Sums.{AreWalkSums, IsTaut}

-- the sums after the first i links of a list, from the old ones
pub record LoweredSoFar (net : Network) (costs : List ℕ) (marks : List Bool) (among : List ℕ) (t i : ℕ) (fell : Bool) (old sums : List (Option ℕ)) : Type 0 where
  pub are : (n : ℕ) → AreWalkSums net costs marks t n old → AreWalkSums net costs marks t (n + 65535 * i) sums
  pub falls : (v x : ℕ) → AtMost (distance_at old v) x → AtMost (distance_at sums v) x
  pub taut : fell ≡ false → All (IsTaut net costs marks sums) (take i among)

pub lowered_skip : (net : Network) (costs : List ℕ) (marks : List Bool) (among : List ℕ) (t i : ℕ) (fell : Bool) (old sums : List (Option ℕ)) →
    LoweredSoFar net costs marks among t i fell old sums → i < length among → IsTaut net costs marks sums (slice_index among i) →
    LoweredSoFar net costs marks among t (i + 1) fell old sums
lowered_skip net costs marks among t i fell old sums so inside taut = record {
  are = λ n were.
      let now = so.are n were in
      record {
        count = now.count;
        start = now.start;
        reached = now.reached;
        small = λ v d is. omega (arith, now.small v d is);
      };
  falls = so.falls;
  taut = λ e. All-more (IsTaut net costs marks sums) among i 0 inside (so.taut e) taut;
}

pub some_is : (o : Option ℕ) (x y : ℕ) → o ≡ Some x → o ≡ Some y → y ≡ x
some_is o x y one two = let both : Some y ≡ Some x = sym two ∙ one in cc

pub lowered_more : (net : Network) (costs : List ℕ) (marks : List Bool) (among : List ℕ) (t i h y : ℕ) (fell : Bool) (old sums : List (Option ℕ)) →
    LoweredSoFar net costs marks among t i fell old sums → h < link_count net → tail_of net h < node_count net → slice_index costs h ≤ 65535 →
    is_open marks h ≡ true → distance_at sums (head_of net h) ≡ Some y →
    (AtMost (distance_at sums (tail_of net h)) (slice_index costs h + y) → ⊥) →
    LoweredSoFar net costs marks among t (i + 1) true old (set sums (tail_of net h) (Some (slice_index costs h + y)))
lowered_more net costs marks among t i h y fell old sums so inside tail_in small_cost open_h at_head above =
    let u = tail_of net h in
    let d = slice_index costs h + y in
    let new = set sums u (Some d) in
    record {
      are = λ n were.
          let now = so.are n were in
          let same : distance_at new u ≡ Some d = get_or-set_same sums u (Some d) None (omega (arith, now.count, tail_in)) in
          let other : (v : ℕ) → (v ≡ u → ⊥) → distance_at new v ≡ distance_at sums v = λ v ne. get_or-set_other sums u v (Some d) None ne in
          record {
            count = length-set sums u (Some d) ∙ now.count;
            start = elim (cases_eq t u) [
              | inl e ↦
                  let (z, is_z, le) = at_most-some (distance_at sums t) 0 now.start in
                  absurd (above (at_most-is (distance_at sums u) d z (subst (λ v. distance_at sums v ≡ Some z) e is_z) (omega (arith, le))))
              | inr ne ↦ subst (λ o. AtMost o 0) (sym (other t ne)) now.start
            ];
            reached = λ v x is. elim (cases_eq v u) [
              | inl e ↦
                  let x_is : x ≡ d = some_is (distance_at new u) d x same (subst (λ w. distance_at new w ≡ Some x) e is) in
                  let (links, walk, sum) = now.reached (head_of net h) y at_head in
                  (h ∷ links, (inside, sym e, open_h, walk), omega (arith, sum, x_is))
              | inr ne ↦ now.reached v x (sym (other v ne) ∙ is)
            ];
            small = λ v x is. elim (cases_eq v u) [
              | inl e ↦
                  let x_is : x ≡ d = some_is (distance_at new u) d x same (subst (λ w. distance_at new w ≡ Some x) e is) in
                  omega (arith, x_is, small_cost, now.small (head_of net h) y at_head)
              | inr ne ↦ omega (arith, now.small v x (sym (other v ne) ∙ is))
            ];
          };
      falls = λ v x low. elim (cases_eq v u) [
        | inl e ↦
            let same : distance_at new u ≡ Some d = get_or-set_same sums u (Some d) None (known_inside u x (subst (λ w. AtMost (distance_at sums w) x) e (so.falls v x low))) in
            subst (λ w. AtMost (distance_at new w) x) (sym e)
            (at_most-is (distance_at new u) x d same (lesser (distance_at sums u) x (subst (λ w. AtMost (distance_at sums w) x) e (so.falls v x low)) above))
        | inr ne ↦ subst (λ o. AtMost o x) (sym (get_or-set_other sums u v (Some d) None ne)) (so.falls v x low)
      ];
      taut = λ never. cc;
    }
  where
    lesser : (o : Option ℕ) (x : ℕ) → AtMost o x → (AtMost o (slice_index costs h + y) → ⊥) → slice_index costs h + y ≤ x
    lesser None x at not_at = absurd at
    lesser (Some z) x at not_at = elim (cases_lt x (slice_index costs h + y)) [
      | inl lt ↦ absurd (not_at (omega (arith, at, lt)))
      | inr ge ↦ ge
    ]

    known_inside : (u x : ℕ) → AtMost (distance_at sums u) x → u < length sums
    known_inside u x at = elim (cases_lt u (length sums)) [
      | inl lt ↦ lt
      | inr past ↦ absurd (subst (λ o. AtMost o x) (get_or_past sums u None past) at)
    ]

pub lowered_none : (net : Network) (costs : List ℕ) (marks : List Bool) (among : List ℕ) (t : ℕ) (fell : Bool) (sums : List (Option ℕ)) →
    LoweredSoFar net costs marks among t 0 fell sums sums
lowered_none net costs marks among t fell sums = record {
  are = λ n were. let e : n ≡ n + 65535 * 0 = omega arith in subst (λ m. AreWalkSums net costs marks t m sums) e were;
  falls = λ v x low. low;
  taut = λ e. All-nil (IsTaut net costs marks sums);
}

pub lowered_sums : (net : Network) (costs : List ℕ) (marks : List Bool) (among : List ℕ) (t i : ℕ) (fell : Bool) (old sums : List (Option ℕ)) →
    LoweredSoFar net costs marks among t i fell old sums → i ≤ FORMAT_2.links → (n : ℕ) → AreWalkSums net costs marks t n old → AreWalkSums net costs marks t (n + 65535 * FORMAT_2.links) sums
lowered_sums net costs marks among t i fell old sums so few n were =
    let now = so.are n were in
    record {
      count = now.count;
      start = now.start;
      reached = now.reached;
      small = λ v d is. omega (arith, few, now.small v d is);
    }

pub sums_within : (net : Network) (costs : List ℕ) (marks : List Bool) (t n m : ℕ) (sums : List (Option ℕ)) → AreWalkSums net costs marks t n sums → n ≤ m →
    AreWalkSums net costs marks t m sums
sums_within net costs marks t n m sums are le = record {
  count = are.count;
  start = are.start;
  reached = are.reached;
  small = λ v d is. omega (arith, le, are.small v d is);
}

pub none_case : {X : Type 0} (o : Option X) (P : Type 0) (Q : X → Type 0) → MatchOption o P Q → o ≡ None → P
none_case None P Q is none = is
none_case (Some x) P Q is none = cc

-- no walk leads to a lesser sum where no link does
below_of_taut : (net : Network) (costs : List ℕ) (marks : List Bool) (t limit : ℕ) (sums : List (Option ℕ)) → AreWalkSums net costs marks t limit sums →
    ((h : ℕ) → h < link_count net → IsTaut net costs marks sums h) →
    (v : ℕ) (links : List ℕ) → Walk net marks v t links → AtMost (distance_at sums v) (sum_along costs links)
below_of_taut net costs marks t limit sums are taut v [] walk = subst (λ u. AtMost (distance_at sums u) 0) (sym walk) are.start
below_of_taut net costs marks t limit sums are taut v (h ∷ hs) (below, starts, open_h, walk) =
    let (y, is_y, le) = at_most-some (distance_at sums (head_of net h)) (sum_along costs hs) (below_of_taut net costs marks t limit sums are taut (head_of net h) hs walk) in
    let (x, is_x, le_x) = at_most-some (distance_at sums (tail_of net h)) (slice_index costs h + y) (taut h below open_h y is_y) in
    at_most-is (distance_at sums v) (slice_index costs h + sum_along costs hs) x (ap (distance_at sums) (sym starts) ∙ is_x) (omega (arith, le, le_x))

pub least_of_taut : (net : Network) (costs : List ℕ) (marks : List Bool) (t limit : ℕ) (sums : List (Option ℕ)) → AreWalkSums net costs marks t limit sums →
    ((h : ℕ) → h < link_count net → IsTaut net costs marks sums h) → AreLeastSums net costs marks t sums
least_of_taut net costs marks t limit sums are taut = record {
  count = are.count;
  reached = are.reached;
  below = below_of_taut net costs marks t limit sums are taut;
}
