-- The same routing on other capacities: a certificate with the capacities and costs of another network of the same links.
use Rattle.std.specs.Prelude.{ℕ, ◌^◌, Bool, List, length, nat_lt}
use Rattle.te_model.specs.declared.certificate.Block.{Block}
use Rattle.te_model.specs.declared.certificate.Certificate.{Certificate}
use Rattle.te_model.specs.declared.network.Network.{Network}
use Rattle.te_model.specs.Counting.{greatest_below}
use Rattle.te_model.specs.Validity.{block_at}
use Rattle.best_blocks.specs.Need.{need_of}

-- the greatest need of the blocks on the network, or 0 where there are none
abbrev pub greatest_need : Network → List Block → ℕ
greatest_need net blocks = greatest_below (length blocks) (λ k. need_of net (block_at blocks k))

-- whether a file can spell it: a ratio is below 10^19
abbrev pub has_ratio_on : Certificate → Network → Bool
has_ratio_on c net = nat_lt (greatest_need net c.blocks) (10 ^ 19)

-- the capacities and costs of the network, the same routing, set and blocks, and the greatest need of the blocks there as the ratio
abbrev pub repriced : Certificate → Network → Certificate
repriced c net = record {
  head = record {
    format = c.head.format;
    network = net;
    routes = c.head.routes;
    set = c.head.set;
    ratio = greatest_need net c.blocks;
  };
  blocks = c.blocks;
}
