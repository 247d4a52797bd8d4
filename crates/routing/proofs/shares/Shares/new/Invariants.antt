use Rattle.std.proofs.Common.{◌≡◌, ℕ, ◌<◌, All, length, take}
use Rattle.te_model.specs.Network.{link_count}
use Rattle.te_model.specs.Path.{share}
use Rattle.routing.specs.Shares.{share_in, shares_on, IsShareList}
use Rattle.routing.proofs.shares.Shares.new.Given as goal

abbrev pub invariant-loop-p : goal.invariant-loop-p
invariant-loop-p l = record {
  count : length l.table.items ≡ link_count l.net;
  order : All (IsShareList l.p) l.table.items;
  sums : (e q : ℕ) → e < link_count l.net → share_in (shares_on l.table.items e) q ≡ share (take l.p l.routing.routes) q e;
}
