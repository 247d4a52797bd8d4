-- The choice of the best bracket, one after another.
use Rattle.std.proofs.Common.{◌≡◌, ℕ, ◌+◌, ◌*◌, ◌/◌, ◌<◌, ◌≤◌, Bool, true, false, List, [], ◌∷◌, ◌++◌, length, take, get_or, arith, refl, ap, sym, subst, ◌∙◌, nat_lt, le_of_lt, le_trans}
use Rattle.std.specs.Prelude.{All, max, if◌then◌else◌}
use Rattle.std.specs.List.{Contains}
use Rattle.std.proofs.lemmas.Bool.{ltb-true, ltb-false}
use Rattle.std.proofs.lemmas.List.{take_all, take_more}
use Rattle.std.proofs.lemmas.List.Elements.{All-nil, All-cons, All-push, All-weaker, Contains-push, Contains-append_left}
use Rattle.te_model.specs.declared.network.Network.{Network}
use Rattle.te_model.specs.declared.certificate.Row.{Row}
use Rattle.te_model.specs.declared.bracket.Bracket.{Bracket}
use Rattle.te_model.specs.declared.units.TheConstants.{RATIO_UNIT}
use Rattle.scheme.specs.Low.{HasLow}
use Rattle.te_model.specs.Inequalities.{capacity_by}
use Rattle.dual_bounds.specs.Dual.{unit_lengths, demand_by, IsBoundOf}
use Rattle.dual_bounds.specs.Choice.{low_under, low_of, IsBestOf, IsNotAbove}
use Rattle.dual_bounds.proofs.Sizes.{demand_same, greater_quotient, above_through}

-- lengths make one distance for each of the n pairs
abbrev pub IsUnique : ℕ → (List ℕ → (ℕ → ℕ) → Type 0) → Type 0
IsUnique n makes =
    (lengths : List ℕ) (d e : ℕ → ℕ) → makes lengths d → makes lengths e → (p : ℕ) → p < n → d p ≡ e p

-- The best bracket of the lengths that came so far, the first of them lengths of 1. `keeps` says which rows it has.
pub record IsChoice (net : Network) (n : ℕ) (demand : List ℕ) (most : ℕ) (makes : List ℕ → (ℕ → ℕ) → Type 0) (keeps : List ℕ → List Row → Type 0)
    (came : List (List ℕ)) (b : Bracket) : Type 0 where
  pub bound : IsBoundOf net n demand most makes b
  pub rows_are : keeps b.lengths b.rows
  pub low : HasLow b
  pub hops : ℕ → ℕ
  pub hops_are : makes (unit_lengths net) hops
  pub above : b.low_den * demand_by n demand hops ≤ b.low_num * max 1 (capacity_by net (unit_lengths net))
  pub chosen : Contains came b.lengths
  pub greatest : All (IsNotAbove net n demand makes b) came

up_to_same : (a b : ℕ) → a ≡ b → a ≤ b
up_to_same a b same = omega (arith, same)

-- whatever distances its lengths make, they give the bound of the bracket
low_is : (net : Network) (n : ℕ) (demand : List ℕ) (most : ℕ) (makes : List ℕ → (ℕ → ℕ) → Type 0) (b : Bracket) (distance : ℕ → ℕ) → IsUnique n makes →
    IsBoundOf net n demand most makes b → makes b.lengths distance → low_under net n demand b.lengths distance ≡ low_of b
low_is net n demand most makes b distance unique of made =
    let den = max 1 (capacity_by net b.lengths) in
    let num : demand_by n demand distance ≡ b.low_num =
    demand_same n demand distance of.distance (unique b.lengths distance of.distance made of.made) ∙ sym of.bound.low_num_is
    in
    ap (λ x. x * RATIO_UNIT / den) num ∙ ap (λ y. b.low_num * RATIO_UNIT / y) (sym of.bound.low_den_is)

pub choice_first : (net : Network) (n : ℕ) (demand : List ℕ) (most : ℕ) (makes : List ℕ → (ℕ → ℕ) → Type 0) (keeps : List ℕ → List Row → Type 0) (b : Bracket) →
    IsUnique n makes → b.lengths ≡ unit_lengths net → IsBoundOf net n demand most makes b → keeps b.lengths b.rows → HasLow b →
    IsChoice net n demand most makes keeps (unit_lengths net ∷ []) b
choice_first net n demand most makes keeps b unique unit of rows low =
    record {
      bound = of;
      rows_are = rows;
      low = low;
      hops = of.distance;
      hops_are = subst (λ (l : List ℕ). makes l of.distance) unit of.made;
      above =
          let den : b.low_den ≡ max 1 (capacity_by net (unit_lengths net)) = of.bound.low_den_is ∙ ap (λ (l : List ℕ). max 1 (capacity_by net l)) unit in
          let left : b.low_den * demand_by n demand of.distance ≡ b.low_den * b.low_num = ap (λ x. b.low_den * x) (sym of.bound.low_num_is) in
          let right : b.low_num * max 1 (capacity_by net (unit_lengths net)) ≡ b.low_num * b.low_den = ap (λ x. b.low_num * x) (sym den) in
          omega (arith, left, right);
      chosen = (0, omega arith, sym unit);
      greatest = All-cons (IsNotAbove net n demand makes b) (unit_lengths net) []
          (subst (IsNotAbove net n demand makes b) unit (λ distance made. up_to_same (low_under net n demand b.lengths distance) (low_of b) (low_is net n demand most makes b distance unique of made)))
          (All-nil (IsNotAbove net n demand makes b));
    }

choice_push : (net : Network) (n : ℕ) (demand : List ℕ) (most : ℕ) (makes : List ℕ → (ℕ → ℕ) → Type 0) (keeps : List ℕ → List Row → Type 0)
    (came : List (List ℕ)) (best other : Bracket) → IsUnique n makes → IsChoice net n demand most makes keeps came best →
    IsBoundOf net n demand most makes other → keeps other.lengths other.rows → HasLow other →
    IsChoice net n demand most makes keeps (came ++ other.lengths ∷ []) (if nat_lt (low_of best) (low_of other) then other else best)
choice_push net n demand most makes keeps came best other unique choice of rows low = go (nat_lt (low_of best) (low_of other)) refl
  where
    go : (t : Bool) → nat_lt (low_of best) (low_of other) ≡ t →
        IsChoice net n demand most makes keeps (came ++ other.lengths ∷ []) (if t then other else best)
    go true is =
        let greater : low_of best < low_of other = ltb-true (low_of best) (low_of other) is in
        let over = greater_quotient best.low_num best.low_den other.low_num other.low_den RATIO_UNIT choice.low.0 low.0 (omega arith) greater in
        record {
          bound = of;
          rows_are = rows;
          low = low;
          hops = choice.hops;
          hops_are = choice.hops_are;
          above = above_through best.low_num best.low_den other.low_num other.low_den (demand_by n demand choice.hops) (max 1 (capacity_by net (unit_lengths net)))
              choice.low.0 choice.above over;
          chosen = Contains-push came other.lengths;
          greatest = All-push (IsNotAbove net n demand makes other) came other.lengths
              (All-weaker (IsNotAbove net n demand makes best) (IsNotAbove net n demand makes other)
              (λ lengths up distance made. le_trans (up distance made) (le_of_lt greater))
              came choice.greatest)
              (λ distance made. up_to_same (low_under net n demand other.lengths distance) (low_of other) (low_is net n demand most makes other distance unique of made));
        }
    go false is =
        let least : low_of other ≤ low_of best = ltb-false (low_of best) (low_of other) is in
        record {
          bound = choice.bound;
          rows_are = choice.rows_are;
          low = choice.low;
          hops = choice.hops;
          hops_are = choice.hops_are;
          above = choice.above;
          chosen = Contains-append_left came (other.lengths ∷ []) best.lengths choice.chosen;
          greatest = All-push (IsNotAbove net n demand makes best) came other.lengths choice.greatest
              (λ distance made. le_trans
              (up_to_same (low_under net n demand other.lengths distance) (low_of other) (low_is net n demand most makes other distance unique of made)) least);
        }

-- with the next of those that are offered
pub choice_more : (net : Network) (n : ℕ) (demand : List ℕ) (most : ℕ) (makes : List ℕ → (ℕ → ℕ) → Type 0) (keeps : List ℕ → List Row → Type 0)
    (offered : List (List ℕ)) (i : ℕ) (best other next : Bracket) → IsUnique n makes → i < length offered → other.lengths ≡ get_or offered i [] →
    IsChoice net n demand most makes keeps (unit_lengths net ∷ take i offered) best →
    IsBoundOf net n demand most makes other → keeps other.lengths other.rows → HasLow other →
    next ≡ (if nat_lt (low_of best) (low_of other) then other else best) →
    IsChoice net n demand most makes keeps (unit_lengths net ∷ take (i + 1) offered) next
choice_more net n demand most makes keeps offered i best other next unique below same choice of rows low is =
    let more : (unit_lengths net ∷ take i offered) ++ other.lengths ∷ [] ≡ unit_lengths net ∷ take (i + 1) offered =
    ap (λ (l : List ℕ). unit_lengths net ∷ (take i offered ++ l ∷ [])) same ∙ ap (λ (ls : List (List ℕ)). unit_lengths net ∷ ls) (sym (take_more offered i [] below))
    in
    subst (IsChoice net n demand most makes keeps (unit_lengths net ∷ take (i + 1) offered)) (sym is)
    (subst (λ (came : List (List ℕ)). IsChoice net n demand most makes keeps came (if nat_lt (low_of best) (low_of other) then other else best)) more
    (choice_push net n demand most makes keeps (unit_lengths net ∷ take i offered) best other unique choice of rows low))

-- when all have come
pub choice_best : (net : Network) (n : ℕ) (demand : List ℕ) (most : ℕ) (makes : List ℕ → (ℕ → ℕ) → Type 0) (keeps : List ℕ → List Row → Type 0)
    (offered : List (List ℕ)) (i : ℕ) (b : Bracket) → length offered ≤ i →
    IsChoice net n demand most makes keeps (unit_lengths net ∷ take i offered) b → IsBestOf net n demand makes offered b
choice_best net n demand most makes keeps offered i b all choice =
    subst (λ (ls : List (List ℕ)). IsBestOf net n demand makes ls b) (take_all i offered all) (record { chosen = choice.chosen; greatest = choice.greatest })
