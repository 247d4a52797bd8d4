use Rattle.std.proofs.Common.{ℕ, ◌<◌, ◌≤◌, slice_index}
use Rattle.te_model.specs.Network.{capacity_of}
use Rattle.fault_rates.proofs.maker.fits.Given as goal

abbrev pub invariant-loop-e : goal.invariant-loop-e
invariant-loop-e l =
    (h : ℕ) → h < l.e → slice_index l.sums h ≤ capacity_of l.net h
