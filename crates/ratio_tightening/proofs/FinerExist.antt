-- Each block has a finer form.
use Rattle.std.proofs.Common.{◌≡◌, ℕ, ◌-◌, ◌*◌, Bool, true, false, List, length, map, inl, inr, refl, slice_index}
use Rattle.te_model.specs.declared.certificate.Block.{Block}
use Rattle.best_blocks.proofs.Growing.{values_exist}
use Rattle.ratio_tightening.specs.Finer.{has_small_a, twice_row, twice_within, with_twice_scale, IsFinerForm, IsTwiceExcess}

excess_exists : (xs ys : List ℕ) → (new : List ℕ) × IsTwiceExcess xs ys new
excess_exists xs ys =
    let (new, values) = values_exist (length xs) (λ p. twice_within (slice_index xs p - slice_index ys p)) in
    (new, record { count = values.count; each = values.each })

pub finer_exists : (old : Block) → (new : Block) × IsFinerForm old new
finer_exists old = go (has_small_a old) refl
  where
    go : (small : Bool) → has_small_a old ≡ small → (new : Block) × IsFinerForm old new
    go true is = (with_twice_scale old, inl (is, refl))
    go false is =
        let (plus, plus_is) = excess_exists old.plus old.minus in
        let (minus, minus_is) = excess_exists old.minus old.plus in (
          record {
            link = old.link;
            a = old.a;
            b = 2 * old.b;
            weights = map twice_within old.weights;
            rows = map twice_row old.rows;
            plus = plus;
            minus = minus;
          },
          inr (
            is,
            record { link_is = refl; a_is = refl; b_is = refl; weights_are = refl; rows_are = refl; plus_is = plus_is; minus_is = minus_is },
          ),
        )
