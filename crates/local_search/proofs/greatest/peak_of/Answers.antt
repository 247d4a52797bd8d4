use Rattle.std.proofs.Common.{◌≡◌, ℕ, ◌+◌, ◌*◌, ◌<◌, ◌≤◌, List, length, get_or, slice_index, arith, ap, sym, ◌∙◌, subst}
use Rattle.te_model.specs.declared.network.Link.{Link}
use Rattle.te_model.specs.Network.{capacity_of, link_count, no_link}
use Rattle.local_search.specs.declared.greatest.Peak.{Peak}
use Rattle.local_search.specs.Loads.{IsPeakBelow}
use Rattle.local_search.proofs.Peaks.{IsUtilisation, peak_new, peak_same}
use Rattle.te_model.proofs.WellFormed.{capacities_positive}
use Rattle.local_search.proofs.greatest.peak_of.Goals as goal
use Rattle.local_search.proofs.greatest.peak_of.Goals.{then-parts-peak, else-parts-peak}

pub ceil_div-parts-requires : goal.ceil_div-parts-requires
ceil_div-parts-requires c =
    let net = c.args.net.now in
    let h = c.loop-h.h in
    let inside : h < link_count net = omega (arith, c.loop-h-test.true, ap (λ (ls : List Link). length ls) c.as_slice-links.ensures) in
    let is : c.from.result ≡ capacity_of net h = c.from.ensures ∙ ap (λ (ls : List Link). (get_or ls h no_link).capacity) c.as_slice-links.ensures in
    omega (arith, is, capacities_positive net c.requires.network h inside)

pub loop-h-preserved : goal.loop-h-preserved
loop-h-preserved c =
    let net = c.args.net.now in
    let load : ℕ → ℕ = slice_index c.args.loads.now in
    let h = c.loop-h.h in
    let parts = c.ceil_div-parts.result in
    let is : c.from.result ≡ capacity_of net h = c.from.ensures ∙ ap (λ (ls : List Link). (get_or ls h no_link).capacity) c.as_slice-links.ensures in
    let utilisation : IsUtilisation net load h parts = record {
      enough = subst (λ n. load h ≤ parts * n) is c.ceil_div-parts.ensures.enough;
      least = λ q le. c.ceil_div-parts.ensures.least q (subst (λ n. load h ≤ q * n) (sym is) le);
    }
    in
    let peak = c.loop-h.peak in
    elim c.if-parts-peak.branch [
      | then-parts-peak w ↦
          subst (λ (p : Peak). IsPeakBelow net load (h + 1) p.link p.parts) (sym w.peak-is)
          (peak_new net load h peak.link peak.parts parts c.loop-h.invariant utilisation w.if-parts-peak.true)
      | else-parts-peak w ↦
          subst (λ (p : Peak). IsPeakBelow net load (h + 1) p.link p.parts) (sym w.peak-is)
          (peak_same net load h peak.link peak.parts parts c.loop-h.invariant utilisation w.if-parts-peak.false)
    ]
