-- The parts of a certificate of either format fit a window.
use Rattle.std.proofs.Common.{ℕ, ◌≤◌, Bool, true, false, cond, sym, subst, arith, lit≤, eqb}
use Rattle.te_model.specs.declared.limits.Limits.{Limits}
use Rattle.te_model.specs.declared.limits.TheConstants.{FORMAT_1, FORMAT_2}
use Rattle.block_reader.specs.Sizes.{network_size, pair_size, set_size}
use Rattle.block_reader.specs.Parts.{IsFormat}

-- a fact of the limits of each format is one of the limits of any
of_formats : (P : Limits → Type 0) → P FORMAT_1 → P FORMAT_2 → (limits : Limits) → IsFormat limits → P limits
of_formats P first second limits is = subst P (sym is.1) (either (eqb is.0 2))
  where
    either : (t : Bool) → P (cond t FORMAT_2 FORMAT_1)
    either true = second
    either false = first

pub network_fits : (limits : Limits) → IsFormat limits → network_size limits ≤ 1310720
network_fits limits is = of_formats (λ l. network_size l ≤ 1310720) (lit≤ tt) (lit≤ tt) limits is

pub pair_fits : (limits : Limits) → IsFormat limits → pair_size limits ≤ 1310720
pair_fits limits is = of_formats (λ l. pair_size l ≤ 1310720) (lit≤ tt) (lit≤ tt) limits is

pub few_pairs : (limits : Limits) → IsFormat limits → limits.pairs ≤ 16256
few_pairs limits is = of_formats (λ l. l.pairs ≤ 16256) (lit≤ tt) (lit≤ tt) limits is

pub few_nodes : (limits : Limits) → IsFormat limits → limits.nodes ≤ 128
few_nodes limits is = of_formats (λ l. l.nodes ≤ 128) (lit≤ tt) (lit≤ tt) limits is

pub few_links : (limits : Limits) → IsFormat limits → limits.links ≤ 1024
few_links limits is = of_formats (λ l. l.links ≤ 1024) (lit≤ tt) (lit≤ tt) limits is

pub few_paths : (limits : Limits) → IsFormat limits → limits.paths ≤ 32
few_paths limits is = of_formats (λ l. l.paths ≤ 32) (lit≤ tt) (lit≤ tt) limits is

pub set_fits : (limits : Limits) (pairs : ℕ) → IsFormat limits → pairs ≤ limits.pairs → set_size pairs ≤ 1310720
set_fits limits pairs is few = omega (arith, few, few_pairs limits is)
