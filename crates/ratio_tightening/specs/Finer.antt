-- A block in finer form: the same need by numbers twice as great, so that less of them is lost where a best block is rounded.
use Rattle.std.specs.Prelude.{◌≡◌, ℕ, ◌-◌, ◌*◌, ◌^◌, ◌<◌, ◌⊎◌, Bool, false, ◌&&◌, IsTrue, List, length, map, min, nat_lt, slice_index}
use Rattle.te_model.specs.declared.certificate.Block.{Block}
use Rattle.te_model.specs.declared.certificate.Row.{Row}
use Rattle.te_model.specs.declared.units.TheConstants.{SHARE_UNIT}

-- twice the number, and at most 2^36
abbrev pub twice_within : ℕ → ℕ
twice_within x = 2 * min x (2 ^ 35)

-- the same of each potential of a row
abbrev pub twice_row : Row → Row
twice_row r = record { source = r.source; potential = map twice_within r.potential }

-- the same of what each number is above the other of its pair
pub record IsTwiceExcess (numbers others new : List ℕ) : Type 0 where
  pub count : length new ≡ length numbers
  pub each : (p : ℕ) → p < length numbers → slice_index new p ≡ twice_within (slice_index numbers p - slice_index others p)

-- twice the weights, the potentials and b, and twice what is added beyond what is taken back, or the other way round
pub record IsDoubled (old new : Block) : Type 0 where
  pub link_is : new.link ≡ old.link
  pub a_is : new.a ≡ old.a
  pub b_is : new.b ≡ 2 * old.b
  pub weights_are : new.weights ≡ map twice_within old.weights
  pub rows_are : new.rows ≡ map twice_row old.rows
  pub plus_is : IsTwiceExcess old.plus old.minus new.plus
  pub minus_is : IsTwiceExcess old.minus old.plus new.minus

-- twice a and b, and the same weights
abbrev pub with_twice_scale : Block → Block
with_twice_scale block = record {
  link = block.link;
  a = 2 * block.a;
  b = 2 * block.b;
  weights = block.weights;
  rows = block.rows;
  plus = block.plus;
  minus = block.minus;
}

-- whether there are numbers of what is added, and a is below one million, so that these may have no room to double
abbrev pub has_small_a : Block → Bool
has_small_a block = nat_lt 0 (length block.plus) && nat_lt block.a SHARE_UNIT

-- a and b are doubled while a is small, and else the weights and b
abbrev pub IsFinerForm : Block → Block → Type 0
IsFinerForm old new = (IsTrue (has_small_a old) × (new ≡ with_twice_scale old)) ⊎ ((has_small_a old ≡ false) × IsDoubled old new)
