-- The greatest utilisation of one link more.
use Rattle.std.proofs.Common.{inl, inr, ◌≡◌, ℕ, ◌+◌, ◌-◌, ◌*◌, ◌<◌, ◌≤◌, arith, subst, sym}
use Rattle.std.proofs.lemmas.Bool.{cases_lt}
use Rattle.std.proofs.lemmas.Nat.{mul-le}
use Rattle.te_model.specs.declared.network.Network.{Network}
use Rattle.te_model.specs.Network.{capacity_of}
use Rattle.local_search.specs.Loads.{IsPeakBelow}

-- the number is the load over the capacity, rounded up
pub record IsUtilisation (net : Network) (load : ℕ → ℕ) (n parts : ℕ) : Type 0 where
  pub enough : load n ≤ parts * capacity_of net n
  pub least : (q : ℕ) → load n ≤ q * capacity_of net n → parts ≤ q

within_more : (net : Network) (load : ℕ → ℕ) (n link x parts y : ℕ) → IsPeakBelow net load n link x → IsUtilisation net load n parts → x ≤ y → parts ≤ y →
    (e : ℕ) → e < n + 1 → load e ≤ y * capacity_of net e
within_more net load n link x parts y peak is le le' e below = elim (cases_lt e n) [
  | inl lt ↦ omega (arith, peak.within e lt, mul-le x (capacity_of net e) y (capacity_of net e) le (omega arith))
  | inr ge ↦
      let same : e ≡ n = omega arith in
      subst (λ h. load h ≤ y * capacity_of net h) (sym same)
      (let here : load n ≤ y * capacity_of net n = omega (arith, is.enough, mul-le parts (capacity_of net n) y (capacity_of net n) le' (omega arith)) in here)
]

-- a link of greater utilisation
pub peak_new : (net : Network) (load : ℕ → ℕ) (n link x parts : ℕ) → IsPeakBelow net load n link x → IsUtilisation net load n parts → x < parts →
    IsPeakBelow net load (n + 1) n parts
peak_new net load n link x parts peak is more = record {
  within = within_more net load n link x parts parts peak is (omega arith) (omega arith);
  reached = λ some. (
    omega arith,
    elim (cases_lt ((parts - 1) * capacity_of net n) (load n)) [
      | inl lt ↦ lt
      | inr ge ↦ absurd (omega (arith, some, is.least (parts - 1) ge))
    ],
  );
}

-- a link of no greater utilisation
pub peak_same : (net : Network) (load : ℕ → ℕ) (n link x parts : ℕ) → IsPeakBelow net load n link x → IsUtilisation net load n parts → parts ≤ x →
    IsPeakBelow net load (n + 1) link x
peak_same net load n link x parts peak is less = record {
  within = within_more net load n link x parts x peak is (omega arith) less;
  reached = λ some. let (inside, over) = peak.reached some in (omega (arith, inside), over);
}
