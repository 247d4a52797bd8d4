-- Destinations are marked pair by pair, and the least ways to them are made node by node.
use Rattle.std.proofs.Common.{◌≡◌, inl, inr, ℕ, ◌+◌, ◌<◌, Bool, true, false, List, [], ◌∷◌, ◌++◌, length, set, get_or, arith, ap, sym, ◌∙◌, subst}
use Rattle.std.proofs.lemmas.Bool.{cases_eq, cases_lt}
use Rattle.std.proofs.lemmas.List.{get_or-set_other, get_or-set_same, get_or_read, length-set}
use Rattle.te_model.specs.declared.network.Network.{Network}
use Rattle.te_model.specs.declared.route.Pair.{Pair}
use Rattle.te_model.specs.Marks.{is_marked}
use Rattle.te_model.specs.Network.{node_count}
use Rattle.te_model.proofs.Choices.{pushed_count, pushed_each}
use Rattle.scheme.specs.Reach.{ArePairsOf, IsPairOf, no_pair, pair_at}
use Rattle.mcf_lengths.specs.declared.paths.LeastWays.{LeastWays}
use Rattle.mcf_lengths.specs.Ways.{AreLeastWays, AreWaysToward, MarksDestinations, no_ways}

-- the destinations of the first p pairs are marked
pub record MarkedSoFar (net : Network) (pairs : List Pair) (p : ℕ) (marks : List Bool) : Type 0 where
  pub count : length marks ≡ node_count net
  pub each : (q : ℕ) → q < p → is_marked marks (pair_at pairs q).dst ≡ true

-- the destination of the next pair is marked
pub marked_more : (net : Network) (pairs : List Pair) (p : ℕ) (marks : List Bool) (pair : Pair) → MarkedSoFar net pairs p marks → pair ≡ pair_at pairs p →
    IsPairOf net (pair_at pairs p) → MarkedSoFar net pairs (p + 1) (set marks pair.dst true)
marked_more net pairs p marks pair far at is =
    let inside : pair.dst < length marks = omega (arith, ap (λ (x : Pair). x.dst) at, is.dst_inside, far.count) in
    record {
      count = length-set marks pair.dst true ∙ far.count;
      each = λ q below.
          let v = (pair_at pairs q).dst in
          elim (cases_eq v pair.dst) [
            | inl same ↦ subst (λ u. is_marked (set marks pair.dst true) u ≡ true) (sym same) (get_or-set_same marks pair.dst true false inside)
            | inr other ↦
                get_or-set_other marks pair.dst v true false other
                ∙ elim (cases_lt q p) [
                  | inl lt ↦ far.each q lt
                  | inr ge ↦
                      let last : q ≡ p = omega (arith, ge, below) in
                      absurd (other (ap (λ k. (pair_at pairs k).dst) last ∙ ap (λ (x : Pair). x.dst) (sym at)))
                ]
          ];
    }

-- the least ways to the first v nodes
pub record WaysSoFar (net : Network) (lengths : List ℕ) (marks : List Bool) (v : ℕ) (ways : List LeastWays) : Type 0 where
  pub count : length ways ≡ v
  pub each : (u : ℕ) → u < v → is_marked marks u ≡ true → AreLeastWays net lengths u (get_or ways u no_ways)

pub ways_more : (net : Network) (lengths : List ℕ) (marks : List Bool) (v : ℕ) (ways : List LeastWays) (to : LeastWays) →
    WaysSoFar net lengths marks v ways → (is_marked marks v ≡ true → AreLeastWays net lengths v to) → WaysSoFar net lengths marks (v + 1) (ways ++ to ∷ [])
ways_more net lengths marks v ways to far here = record {
  count = pushed_count ways to v far.count;
  each = pushed_each (λ u (w : LeastWays). is_marked marks u ≡ true → AreLeastWays net lengths u w) ways to no_ways v far.count far.each here;
}

pub ways_done : (net : Network) (lengths : List ℕ) (marks : List Bool) (v : ℕ) (ways : List LeastWays) → WaysSoFar net lengths marks v ways → v ≡ node_count net →
    AreWaysToward net lengths marks ways
ways_done net lengths marks v ways far done = record { count = far.count ∙ done; each = λ u below. far.each u (omega (arith, done, below)) }

-- what is read at the destination of pair p are the least ways there
pub ways_read : (net : Network) (lengths : List ℕ) (pairs : List Pair) (marks : List Bool) (ways : List LeastWays) (p : ℕ) (pair : Pair) (to : LeastWays) →
    AreWaysToward net lengths marks ways → ArePairsOf net pairs → MarksDestinations net pairs marks → p < length pairs → pair ≡ pair_at pairs p →
    to ≡ get_or ways pair.dst to → AreLeastWays net lengths pair.dst to
ways_read net lengths pairs marks ways p pair to are ends marked below at read =
    let dst : pair.dst ≡ (pair_at pairs p).dst = ap (λ (x : Pair). x.dst) at in
    let inside : pair.dst < node_count net = omega (arith, dst, (ends.each p no_pair below).dst_inside) in
    let same = get_or_read ways pair.dst to (omega (arith, inside, are.count)) read no_ways in
    subst (AreLeastWays net lengths pair.dst) (sym same) (are.each pair.dst inside (subst (λ v. is_marked marks v ≡ true) (sym dst) (marked.each p below)))
