-- What a row says, by the tests that it passes.
use Rattle.std.proofs.Common.{ℕ, ◌^◌, ◌≡◌, ◌≢◌, ◌∙◌, refl, List, [], ◌∷◌, length, Bool, true, false, ◌&&◌, not, Result, Ok, Err, if◌then◌else◌}
use Rattle.std.specs.Str.{bytes_eq}
use Rattle.te_model.specs.Network.{is_name}
use Rattle.csv_records.specs.Field.{is_number_within, digits_from}
use Rattle.topology.specs.declared.fault.TopologyFault.{TopologyFault}
use Rattle.topology.specs.declared.fault.TopologyFault.TheVariants as fault
use Rattle.topology.specs.Topology.{Entry, link_entry, entry_of_fields}

pub no-four : (row : ℕ) (xs : List (List ℕ)) → length xs ≢ 4 → link_entry row xs ≡ Err (fault.Fields row)
unfolding link_entry
no-four row [] n = refl
no-four row (a ∷ []) n = refl
no-four row (a ∷ b ∷ []) n = refl
no-four row (a ∷ b ∷ c ∷ []) n = refl
no-four row (a ∷ b ∷ c ∷ d ∷ []) n = absurd (n refl)
no-four row (a ∷ b ∷ c ∷ d ∷ e ∷ rest) n = refl

pub four-fields : (row : ℕ) (xs : List (List ℕ)) (s t c k : List ℕ) (r : Result Entry TopologyFault) → xs ≡ s ∷ t ∷ c ∷ k ∷ [] → entry_of_fields row s t c k ≡ r → link_entry row xs ≡ r
unfolding link_entry
four-fields row xs s t c k r e h = rw e h

named : {R : Type 0} (a b : Bool) (p q : R) → a ≡ true → b ≡ true → (if not (a && b) then p else q) ≡ q
named a b p q e f = rw (e, f) refl

unnamed-left : {R : Type 0} (a b : Bool) (p q : R) → a ≡ false → (if not (a && b) then p else q) ≡ p
unnamed-left a b p q e = rw e refl

unnamed-right : {R : Type 0} (a b : Bool) (p q : R) → b ≡ false → (if not (a && b) then p else q) ≡ p
unnamed-right true b p q e = rw e refl
unnamed-right false b p q e = refl

module _ (row : ℕ) (s t c k : List ℕ) where
  pub bad-source : is_name s ≡ false → entry_of_fields row s t c k ≡ Err (fault.Name row)
  bad-source h = unnamed-left (is_name s) (is_name t) _ _ h

  pub bad-target : is_name t ≡ false → entry_of_fields row s t c k ≡ Err (fault.Name row)
  bad-target h = unnamed-right (is_name s) (is_name t) _ _ h

  module _ (source : is_name s ≡ true) (target : is_name t ≡ true) where
    pub bad-capacity : is_number_within 1 (2 ^ 32) c ≡ false → entry_of_fields row s t c k ≡ Err (fault.Number row)
    bad-capacity h = named (is_name s) (is_name t) _ _ source target ∙ unnamed-left (is_number_within 1 (2 ^ 32) c) (is_number_within 1 65535 k) _ _ h

    pub bad-cost : is_number_within 1 65535 k ≡ false → entry_of_fields row s t c k ≡ Err (fault.Number row)
    bad-cost h = named (is_name s) (is_name t) _ _ source target ∙ unnamed-right (is_number_within 1 (2 ^ 32) c) (is_number_within 1 65535 k) _ _ h

    module _ (capacity : is_number_within 1 (2 ^ 32) c ≡ true) (cost : is_number_within 1 65535 k ≡ true) where
      pub same-names : bytes_eq s t ≡ true → entry_of_fields row s t c k ≡ Err (fault.SelfLink row)
      same-names h = named (is_name s) (is_name t) _ _ source target ∙ named (is_number_within 1 (2 ^ 32) c) (is_number_within 1 65535 k) _ _ capacity cost ∙ rw h refl

      pub good : bytes_eq s t ≡ false → entry_of_fields row s t c k ≡ Ok (record { source = s; target = t; capacity = digits_from 0 c; cost = digits_from 0 k })
      good h = named (is_name s) (is_name t) _ _ source target ∙ named (is_number_within 1 (2 ^ 32) c) (is_number_within 1 65535 k) _ _ capacity cost ∙ rw h refl
