-- Laws of links that serve their queues.
use Rattle.std.proofs.Common.{◌≡◌, ℕ, suc, ◌+◌, ◌-◌, ◌<◌, ◌≤◌, Bool, true, false, List, [], ◌∷◌, length, map, sum, slice_index, arith, refl, ap, sym, ◌∙◌, subst, inl, inr}
use Rattle.std.specs.Prelude.{slice_index_or}
use Rattle.std.proofs.lemmas.Bool.{cases_lt}
use Rattle.std.proofs.lemmas.List.FromFn.{length-map-range_with_len}
use Rattle.flow_sim.specs.declared.state.State.{State}
use Rattle.flow_sim.specs.Fair.{fair}
use Rattle.flow_sim.specs.Serving.{Flow, flow_at, flow_served, link_serves, served_by, IsAbsent, HasShape, IsServed, AreApart}

pub map-same : (xs : List ℕ) (f g : ℕ → ℕ) → ((i : ℕ) → i < length xs → f (slice_index xs i) ≡ g (slice_index xs i)) → map f xs ≡ map g xs
map-same [] f g each = refl
map-same (x ∷ xs) f g each =
    let first : f x ≡ g x = each 0 (omega arith) in
    rw (first, map-same xs f g (λ i below. each (suc i) (omega arith))) refl

-- Where a round stands once the links below e have served their queues.
pub record IsHalfway (failed : List Bool) (queues : List (List ℕ)) (e : ℕ) (before now : State) : Type 0 where
  pub served : (d : ℕ) → d < e → IsServed (slice_index_or failed d false) d (slice_index_or queues d []) before now
  pub others : (f : ℕ) → ((d : ℕ) → d < e → IsAbsent (slice_index_or queues d []) f) → flow_at now f ≡ flow_at before f
  pub other_links : (d : ℕ) → e ≤ d → slice_index now.left.items d ≡ slice_index before.left.items d

-- the flows of a later queue stand as before
pub untouched : (failed : List Bool) (queues : List (List ℕ)) (flows e : ℕ) (before now : State) → AreApart flows queues →
    IsHalfway failed queues e before now → (i : ℕ) → i < length (slice_index_or queues e []) →
    flow_at now (slice_index (slice_index_or queues e []) i) ≡ flow_at before (slice_index (slice_index_or queues e []) i)
untouched failed queues flows e before now apart so i inside =
    so.others (slice_index (slice_index_or queues e []) i) (λ d below j j_inside same.
    let one : d ≡ e = apart.apart d e j i j_inside inside same in omega arith)

-- so the same arrives
pub same_arrivals : (failed : List Bool) (queues : List (List ℕ)) (flows e : ℕ) (before now : State) → AreApart flows queues →
    IsHalfway failed queues e before now →
    map (slice_index now.units.items) (slice_index_or queues e []) ≡ map (slice_index before.units.items) (slice_index_or queues e [])
same_arrivals failed queues flows e before now apart so =
    map-same (slice_index_or queues e []) (slice_index now.units.items) (slice_index before.units.items)
    (λ i inside. ap (λ (w : Flow). w.units) (untouched failed queues flows e before now apart so i inside))

-- a link more
pub halfway_more : (failed : List Bool) (queues : List (List ℕ)) (flows e : ℕ) (before now next : State) → AreApart flows queues →
    IsHalfway failed queues e before now → IsServed (slice_index_or failed e false) e (slice_index_or queues e []) now next →
    ((f : ℕ) → IsAbsent (slice_index_or queues e []) f → flow_at next f ≡ flow_at now f) →
    ((d : ℕ) → (d ≡ e → ⊥) → slice_index next.left.items d ≡ slice_index now.left.items d) →
    IsHalfway failed queues (e + 1) before next
halfway_more failed queues flows e before now next apart so more others other_links =
    let queue = slice_index_or queues e [] in
    let mark = slice_index_or failed e false in
    let shares : served_by mark e queue now ≡ served_by mark e queue before =
    rw (same_arrivals failed queues flows e before now apart so, so.other_links e (omega arith)) refl in
    record {
      served = λ d below. elim (cases_lt d e) [
        | inl lt ↦ earlier d lt
        | inr ge ↦
            let one : d ≡ e = omega arith in
            subst (λ k. IsServed (slice_index_or failed k false) k (slice_index_or queues k []) before next) (sym one) (record {
              served = λ i inside.
                  more.served i inside
                  ∙ (ap (λ w. flow_served mark w (slice_index (served_by mark e queue now) i)) (untouched failed queues flows e before now apart so i inside)
                  ∙ ap (λ xs. flow_served mark (flow_at before (slice_index queue i)) (slice_index xs i)) shares);
              left = more.left
                  ∙ (ap (λ x. x - sum (served_by mark e queue now)) (so.other_links e (omega arith))
                  ∙ ap (λ xs. slice_index before.left.items e - sum xs) shares);
            })
      ];
      others = λ f absent. others f (absent e (omega arith)) ∙ so.others f (λ d below. absent d (omega arith));
      other_links = λ d past. other_links d (λ is. omega arith) ∙ so.other_links d (omega arith);
    }
  where
    earlier : (d : ℕ) → d < e → IsServed (slice_index_or failed d false) d (slice_index_or queues d []) before next
    earlier d lt =
        let old = so.served d lt in
        record {
          served = λ i inside.
              others (slice_index (slice_index_or queues d []) i)
              (λ j j_inside same. let one : e ≡ d = apart.apart e d j i j_inside inside same in omega arith)
              ∙ old.served i inside;
          left = other_links d (λ is. omega arith) ∙ old.left;
        }

pub then_shape : (flows links : ℕ) (before after : State) → HasShape flows links before →
    HasShape (length before.units.items) (length before.left.items) after → HasShape flows links after
then_shape flows links before after has more = record {
  units = more.units ∙ has.units;
  lost_full = more.lost_full ∙ has.units;
  lost_failed = more.lost_failed ∙ has.units;
  left = more.left ∙ has.left;
}

pub serves_length : (failed : Bool) (left : ℕ) (arrivals : List ℕ) → length (link_serves failed left arrivals) ≡ length arrivals
serves_length true left arrivals = length-map-range_with_len (λ i. 0) 0 (length arrivals)
serves_length false left arrivals = length-map-range_with_len (fair left (length arrivals) (slice_index arrivals)) 0 (length arrivals)
