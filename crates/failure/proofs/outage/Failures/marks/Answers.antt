use Rattle.std.proofs.Common.{◌≡◌, List, Bool, false, length, replicate, arith, ap, ◌∙◌, rules}
use Rattle.std.specs.List.{list_any}
use Rattle.std.proofs.lemmas.List.{length-replicate}
use Rattle.std.proofs.lemmas.List.FromFn.{fill_by_all}
use Rattle.te_model.specs.declared.network.Link.{Link}
use Rattle.te_model.specs.Network.{link_count}
use Rattle.te_model.proofs.Lists.{written_whole}
use Rattle.failure.specs.declared.outage.Outage.{Outage}
use Rattle.failure.specs.Failed.{has_failed, is_during}
use Rattle.failure.proofs.outage.Failures.marks.Goals as goal

pub returns : goal.returns
returns c =
    let links = c.as_slice.result.now in
    let clear : c.in_ok-marks.marks.items ≡ replicate (length links) false = search rules in
    let whole : length c.in_ok-marks.marks.items ≡ link_count c.args.net.now =
    ap (λ (l : List Bool). length l) clear ∙ (length-replicate {A = Bool} (length links) false ∙ ap (λ (ls : List Link). length ls) c.as_slice.ensures)
    in
    let lent : length c.deref_mut.result.now ≡ length c.in_ok-marks.marks.items = ap (λ (l : List Bool). length l) c.deref_mut.ensures.value in
    let kept : length c.mark.new.marks ≡ length c.in_ok-marks.marks.items = c.mark.auto.marks ∙ lent in
    rw (written_whole c.in_ok-marks.marks.len c.mark.new.marks c.in_ok-marks.marks.items kept c.in_ok-marks.marks.ok.0)
    (fill_by_all (has_failed c.args.self.now c.args.step) c.mark.new.marks (link_count c.args.net.now) false (kept ∙ whole) (λ e below.
    c.mark.ensures e (omega (arith, below, whole, lent)) ∙ ap (λ (os : List Outage). list_any (is_during c.args.step e) os) c.as_slice-2.ensures))
