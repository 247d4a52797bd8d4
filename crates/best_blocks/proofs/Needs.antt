-- The least number of units that is enough is the need.
use Rattle.std.proofs.Common.{◌≡◌, ℕ, ◌*◌, ◌≤◌, List, [], ◌∷◌, ◌++◌, max, arith, subst, sym}
use Rattle.std.specs.Prelude.{IsTrue}
use Rattle.std.proofs.lemmas.Bool.{leb-true, le-leb}
use Rattle.std.proofs.lemmas.List.Elements.{All-nil, All-push, All-weaker}
use Rattle.std.proofs.Math.Nat.{mul-le-mul_left}
use Rattle.te_model.specs.declared.network.Network.{Network}
use Rattle.te_model.specs.declared.certificate.Block.{Block}
use Rattle.te_model.specs.declared.units.TheConstants.{RATIO_UNIT, SHARE_UNIT}
use Rattle.te_model.specs.Network.{capacity_of}
use Rattle.te_model.specs.Inequalities.{weighted_capacity, pays_weights}
use Rattle.best_blocks.specs.Need.{need_of, IsNeed, IsGreatestNeed}
use Rattle.te_model.proofs.Quotients.{quotient_up-enough, quotient_up-least}
use Rattle.te_model.proofs.Sizes.{unit_positive}
use Rattle.best_blocks.proofs.Pushed.{all_front, all_last}

-- what the numbers of a block need is its need
pub is_need : (net : Network) (block : Block) (q : ℕ) → 1 ≤ block.b → 1 ≤ capacity_of net block.link → q ≡ need_of net block → IsNeed net block q
is_need net block q some_b some_c is = subst (IsNeed net block) (sym is) (record {
  enough = le-leb _ _ (swap _ _ _ (quotient_up-enough cost unit some));
  least = λ ratio pays. quotient_up-least cost unit ratio some (swap_back _ _ _ (leb-true _ _ pays));
})
  where
    cost : ℕ
    cost = block.a * RATIO_UNIT * weighted_capacity net block

    unit : ℕ
    unit = block.b * SHARE_UNIT * capacity_of net block.link

    some : 1 ≤ unit
    some = unit_positive block.b (capacity_of net block.link) some_b some_c

    swap : (x y k : ℕ) → x ≤ k * y → x ≤ y * k
    swap x y k h = omega (arith, h)

    swap_back : (x y k : ℕ) → x ≤ y * k → x ≤ k * y
    swap_back x y k h = omega (arith, h)

-- what a ratio pays for, a greater one pays for
pub pays_more : (net : Network) (block : Block) (r s : ℕ) → r ≤ s → IsTrue (pays_weights net block r) → IsTrue (pays_weights net block s)
pays_more net block r s less pays =
    let paid = leb-true _ _ pays in
    let more : block.b * SHARE_UNIT * capacity_of net block.link * r ≤ block.b * SHARE_UNIT * capacity_of net block.link * s =
    mul-le-mul_left (block.b * SHARE_UNIT * capacity_of net block.link) less
    in
    le-leb _ _ (omega (arith, paid, more))

pub no_need : (net : Network) → IsGreatestNeed net [] 0
no_need net = record { enough = All-nil (λ b. IsTrue (pays_weights net b 0)); least = λ ratio pays. omega arith }

pub greater_need : (net : Network) (blocks : List Block) (block : Block) (most need : ℕ) → IsGreatestNeed net blocks most → IsNeed net block need →
    IsGreatestNeed net (blocks ++ block ∷ []) (max most need)
greater_need net blocks block most need greatest is = record {
  enough = All-push (λ b. IsTrue (pays_weights net b (max most need))) blocks block
      (All-weaker (λ b. IsTrue (pays_weights net b most)) (λ b. IsTrue (pays_weights net b (max most need)))
      (λ b pays. pays_more net b most (max most need) (omega arith) pays) blocks greatest.enough)
      (pays_more net block need (max most need) (omega arith) is.enough);
  least = λ ratio pays.
      let first = greatest.least ratio (all_front (λ b. IsTrue (pays_weights net b ratio)) blocks block pays) in
      let last = is.least ratio (all_last (λ b. IsTrue (pays_weights net b ratio)) blocks block pays) in
      omega (arith, first, last);
}
