-- One place more in the splitting of a class, and one candidate more in the next round.
use Rattle.std.proofs.Common.{◌⊎◌, inl, inr, ◌≡◌, ℕ, ◌+◌, ◌<◌, ◌≤◌, List, [], ◌∷◌, ◌++◌, length, take, arith, sym, ◌∙◌, subst}
use Rattle.std.specs.List.{Contains}
use Rattle.std.proofs.lemmas.Bool.{cases_lt}
use Rattle.std.proofs.lemmas.List.Elements.{All-push, Contains-push_cases, Contains-append_left, Contains-push}
use Rattle.te_model.specs.declared.network.Network.{Network}
use Rattle.shortest_path.specs.declared.ways.Ways.{Ways}
use Rattle.shortest_path.specs.Ways.{AreWays}
use Rattle.k_paths.specs.declared.candidate.Candidate.{Candidate}
use Rattle.k_paths.specs.declared.candidate.BoundedClass.{BoundedClass}
use Rattle.k_paths.specs.Classes.{InClass, excluded_at}
use Rattle.shortest_path.specs.Costs.{costs_of, IsBefore}
use Rattle.k_paths.specs.Search.{IsOf, IsWithin, IsBounded, IsLeastCandidate, IsPartOf, SplitsBelow, Splits, AreFirst, AreLeastCandidates, IsPathSearch, IsDueSearch}
use Rattle.k_paths.proofs.Bounds.{before_bounded}
use Rattle.k_paths.proofs.Ordering.{below-trans, below-cases, below-irrefl}
use Rattle.k_paths.proofs.Deviating.{leaves_somewhere, leaves_inside}

pub splits_start : (net : Network) (s : ℕ) (ways : Ways) (c : Candidate) (old : List BoundedClass) → SplitsBelow net s ways c c.fixed old old
splits_start net s ways c old = record {
  kept = λ d has. has;
  added = λ d has. inl has;
  cover = λ j le below q in'. absurd (omega (arith, le, below));
}

pub splits_none : (net : Network) (s : ℕ) (ways : Ways) (c : Candidate) (i : ℕ) (old new : List BoundedClass) → SplitsBelow net s ways c i old new →
    ((q : List ℕ) → InClass net s ways.dst (take i c.links) (excluded_at c.links c.fixed c.excluded i) q → ⊥) → SplitsBelow net s ways c (i + 1) old new
splits_none net s ways c i old new so none = record {
  kept = so.kept;
  added = so.added;
  cover = λ j le below q in'. elim (cases_lt j i) [
    | inl lt ↦ so.cover j le lt q in'
    | inr ge ↦ let e : j ≡ i = omega arith in
        absurd (none q (subst (λ k. InClass net s ways.dst (take k c.links) (excluded_at c.links c.fixed c.excluded k) q) e in'))
  ];
}

pub splits_some : (net : Network) (s : ℕ) (ways : Ways) (c : Candidate) (i : ℕ) (old new : List BoundedClass) (d : BoundedClass) → SplitsBelow net s ways c i old new →
    IsLeastCandidate net s ways.dst c → c.fixed ≤ i → i < length c.links →
    IsBounded net s ways d → d.prefix ≡ take i c.links → d.excluded ≡ excluded_at c.links c.fixed c.excluded i →
    SplitsBelow net s ways c (i + 1) old (new ++ d ∷ [])
splits_some net s ways c i old new d so least le below bounded begins bars =
    let t = ways.dst in
    let of_place : (q : List ℕ) → IsWithin net s t d q → InClass net s t (take i c.links) (excluded_at c.links c.fixed c.excluded i) q =
    λ q in'. subst (λ b. InClass net s t (take i c.links) b q) bars (subst (λ p. InClass net s t p d.excluded q) begins in')
    in
    let of_class : (q : List ℕ) → InClass net s t (take i c.links) (excluded_at c.links c.fixed c.excluded i) q → IsWithin net s t d q =
    λ q in'. subst (λ p. InClass net s t p d.excluded q) (sym begins) (subst (λ b. InClass net s t (take i c.links) b q) (sym bars) in')
    in
    let part : IsPartOf net s ways c d = record {
      bounded = bounded;
      inside = λ q in'. (leaves_inside net s t c.links c.fixed c.excluded i q least le below (of_place q in')).0;
      other = λ q in'. (leaves_inside net s t c.links c.fixed c.excluded i q least le below (of_place q in')).1;
    }
    in
    record {
      kept = λ e has. Contains-append_left new (d ∷ []) e (so.kept e has);
      added = λ e has. elim (Contains-push_cases new d e has) [
        | inl was ↦ so.added e was
        | inr is ↦ inr (subst (λ x. IsPartOf net s ways c x) is part)
      ];
      cover = λ j le_j below_j q in'. elim (cases_lt j i) [
        | inl lt ↦ let (e, has, of_e) = so.cover j le_j lt q in' in (e, Contains-append_left new (d ∷ []) e has, of_e)
        | inr ge ↦
            let e : j ≡ i = omega arith in
            (d, Contains-push new d, of_class q (subst (λ k. InClass net s t (take k c.links) (excluded_at c.links c.fixed c.excluded k) q) e in'))
      ];
    }

pub splits_end : (net : Network) (s : ℕ) (ways : Ways) (c : Candidate) (i : ℕ) (old new : List BoundedClass) → SplitsBelow net s ways c i old new →
    IsLeastCandidate net s ways.dst c → length c.links ≤ i → Splits net s ways c old new
splits_end net s ways c i old new so least past = record {
  kept = so.kept;
  added = so.added;
  cover = λ q of_c ne.
      let (j, le, below, in') = leaves_somewhere net s ways.dst c.links c.fixed c.excluded q least of_c ne in
      so.cover j le (omega arith) q in';
}

-- a candidate of the next round is one of this round, and its paths come after the best
pub record IsNext (net : Network) (s t : ℕ) (best : List ℕ) (old : List Candidate) (d : Candidate) : Type 0 where
  pub had : Contains old d
  pub after : (q : List ℕ) → IsOf net s t d q → IsBefore net best q

-- a class of the best candidate of this round, of which the best path is none
pub record IsNextPart (net : Network) (s : ℕ) (ways : Ways) (best : List ℕ) (old : List Candidate) (d : BoundedClass) : Type 0 where
  pub bounded : IsBounded net s ways d
  pub parent : Candidate
  pub had : Contains old parent
  pub inside : (q : List ℕ) → IsWithin net s ways.dst d q → IsOf net s ways.dst parent q
  pub after : (q : List ℕ) → IsWithin net s ways.dst d q → IsBefore net best q

pub record NextSoFar (net : Network) (s : ℕ) (ways : Ways) (best : List ℕ) (old rest next : List Candidate) (was bounded : List BoundedClass) : Type 0 where
  pub still : (c : Candidate) → Contains rest c → Contains old c
  pub each : (d : Candidate) → Contains next d → IsNext net s ways.dst best old d
  pub kept : (d : BoundedClass) → Contains was d → Contains bounded d
  pub parts : (d : BoundedClass) → Contains bounded d → Contains was d ⊎ IsNextPart net s ways best old d
  pub cover : (c : Candidate) → Contains old c → (q : List ℕ) → IsOf net s ways.dst c q →
      (q ≡ best) ⊎ (Contains rest c ⊎ (((d : Candidate) × Contains next d × IsOf net s ways.dst d q) ⊎ ((d : BoundedClass) × Contains bounded d × IsWithin net s ways.dst d q)))

pub next_start : (net : Network) (s : ℕ) (ways : Ways) (best : List ℕ) (old : List Candidate) (was : List BoundedClass) →
    NextSoFar net s ways best old old [] was was
next_start net s ways best old was = record {
  still = λ c has. has;
  each = λ d has. absurd (omega (arith, has.1));
  kept = λ d has. has;
  parts = λ d has. inl has;
  cover = λ c has q of_c. inr (inl has);
}

pub next_kept : (net : Network) (s : ℕ) (ways : Ways) (best : List ℕ) (old rest : List Candidate) (c : Candidate) (next : List Candidate) (was bounded : List BoundedClass) →
    AreLeastCandidates net s ways.dst old → AreFirst net best old → NextSoFar net s ways best old (rest ++ c ∷ []) next was bounded →
    (c.links ≡ best → ⊥) → NextSoFar net s ways best old rest (next ++ c ∷ []) was bounded
next_kept net s ways best old rest c next was bounded least first so ne =
    let had : Contains old c = so.still c (Contains-push rest c) in
    let best_first : IsBefore net best c.links = elim (first c had) [ inl e ↦ absurd (ne e) | inr below ↦ below ] in
    let mine : IsNext net s ways.dst best old c = record {
      had = had;
      after = λ q of_c. elim ((least c had).least q of_c) [
        | inl e ↦ subst (λ l. IsBefore net best l) (sym e) best_first
        | inr below ↦ below-trans (costs_of net) best c.links q best_first below
      ];
    }
    in
    record {
      still = λ d has. so.still d (Contains-append_left rest (c ∷ []) d has);
      each = λ d has. elim (Contains-push_cases next c d has) [
        | inl before ↦ so.each d before
        | inr is ↦ subst (λ x. IsNext net s ways.dst best old x) is mine
      ];
      kept = so.kept;
      parts = so.parts;
      cover = λ d had_d q of_d. elim (so.cover d had_d q of_d) [
        | inl e ↦ inl e
        | inr other ↦ elim other [
          | inl in_rest ↦ elim (Contains-push_cases rest c d in_rest) [
            | inl later ↦ inr (inl later)
            | inr is ↦ inr (inr (inl (c, Contains-push next c, subst (λ x. IsOf net s ways.dst x q) (sym is) of_d)))
          ]
          | inr there ↦ elim there [
            | inl (e, has_e, of_e) ↦ inr (inr (inl (e, Contains-append_left next (c ∷ []) e has_e, of_e)))
            | inr part ↦ inr (inr (inr part))
          ]
        ]
      ];
    }

pub next_split : (net : Network) (s : ℕ) (ways : Ways) (best : List ℕ) (old rest : List Candidate) (c : Candidate) (next : List Candidate) (was bounded new : List BoundedClass) →
    AreLeastCandidates net s ways.dst old → NextSoFar net s ways best old (rest ++ c ∷ []) next was bounded →
    c.links ≡ best → Splits net s ways c bounded new → NextSoFar net s ways best old rest next was new
next_split net s ways best old rest c next was bounded new least so is split =
    let had : Contains old c = so.still c (Contains-push rest c) in
    record {
      still = λ d has. so.still d (Contains-append_left rest (c ∷ []) d has);
      each = so.each;
      kept = λ d has. split.kept d (so.kept d has);
      parts = λ d has. elim (split.added d has) [
        | inl before ↦ so.parts d before
        | inr part ↦ inr (record {
          bounded = part.bounded;
          parent = c;
          had = had;
          inside = part.inside;
          after = λ q of_d. elim ((least c had).least q (part.inside q of_d)) [
            | inl e ↦ absurd (part.other q of_d e)
            | inr below ↦ subst (λ l. IsBefore net l q) is below
          ];
        })
      ];
      cover = λ d had_d q of_d. elim (so.cover d had_d q of_d) [
        | inl e ↦ inl e
        | inr other ↦ elim other [
          | inl in_rest ↦ elim (Contains-push_cases rest c d in_rest) [
            | inl later ↦ inr (inl later)
            | inr same ↦ elim (below-cases (costs_of net) q best) [
              | inl e ↦ inl e
              | inr apart ↦ inr (inr (inr (split.cover q (subst (λ x. IsOf net s ways.dst x q) (sym same) of_d) (λ e.
                  let at_best : q ≡ best = e ∙ is in
                  elim apart [
                    | inl lt ↦ below-irrefl (costs_of net) best (subst (λ l. IsBefore net l best) at_best lt)
                    | inr gt ↦ below-irrefl (costs_of net) best (subst (λ l. IsBefore net best l) at_best gt)
                  ]))))
            ]
          ]
          | inr there ↦ elim there [
            | inl candidate ↦ inr (inr (inl candidate))
            | inr (e, has_e, of_e) ↦ inr (inr (inr (e, split.kept e has_e, of_e)))
          ]
        ]
      ];
    }

pub next_end : (net : Network) (s : ℕ) (ways : Ways) (best : List ℕ) (old next : List Candidate) (was bounded : List BoundedClass) → AreWays net ways →
    AreFirst net best old → NextSoFar net s ways best old [] next was bounded →
    (found : List (List ℕ)) → IsDueSearch net s ways found old was → IsPathSearch net s ways (found ++ best ∷ []) next bounded
next_end net s ways best old next was bounded are first so found (search', behind) = record {
  least = λ d has. search'.least d (so.each d has).had;
  bounds = λ d has. elim (so.parts d has) [ inl before ↦ search'.bounds d before | inr part ↦ part.bounded ];
  after = λ d has q of_d.
      let is = so.each d has in
      All-push (λ f. IsBefore net f q) found best (search'.after d is.had q of_d) (is.after q of_d);
  later = λ d has q of_d. elim (so.parts d has) [
    | inl before ↦ All-push (λ f. IsBefore net f q) found best (search'.later d before q of_d)
        (before_bounded net s ways best old was d q are first behind before (search'.bounds d before) of_d)
    | inr part ↦ All-push (λ f. IsBefore net f q) found best (search'.after part.parent part.had q (part.inside q of_d)) (part.after q of_d)
  ];
  cover = λ q path. elim (search'.cover q path) [
    | inl in_found ↦ inl (Contains-append_left found (best ∷ []) q in_found)
    | inr open' ↦ elim open' [
      | inl (c, has, of_c) ↦ elim (so.cover c has q of_c) [
        | inl e ↦ inl (subst (λ l. Contains (found ++ best ∷ []) l) (sym e) (Contains-push found best))
        | inr other ↦ elim other [
          | inl none ↦ absurd (omega (arith, none.1))
          | inr there ↦ inr there
        ]
      ]
      | inr (d, has, of_d) ↦ inr (inr (d, so.kept d has, of_d))
    ]
  ];
}
