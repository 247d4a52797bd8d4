use Rattle.std.proofs.Common.{◌≡◌, ◌<◌, List, [], ℕ, Option, length, get_or, arith, ap, ◌∙◌}
use Rattle.std.proofs.lemmas.List.{get_or_read}
use Rattle.te_model.proofs.Lists.{written_whole}
use Rattle.best_blocks.specs.Rows.{distances_from}
use Rattle.ratio_certificate.proofs.response.turn.Goals as goal

pub last_links-requires : goal.last_links-requires
last_links-requires c =
    let rows = c.as_slice.result.now in
    let from = c.args.from in
    let inside : from < length rows = omega (arith, c.requires.row.0, ap (λ (rs : List (List (Option ℕ))). length rs) c.as_slice.ensures) in
    let at : c.index-as_slice-from.result ≡ get_or rows from [] = get_or_read rows from c.index-as_slice-from.result inside c.index-as_slice-from.is [] in
    let row = c.as_slice-row.ensures ∙ at ∙ ap (λ (rs : List (List (Option ℕ))). distances_from rs from) c.as_slice.ensures in
    record {
      network = c.requires.network;
      weights = ap (λ (ws : List ℕ). length ws) c.as_slice-then-ways-from.ensures ∙ c.requires.weights;
      distances = ap (λ (r : List (Option ℕ)). length r) row ∙ c.requires.row.1;
      room = ap (λ (ls : List (Option ℕ)). length ls) c.deref_mut.ensures.value ∙ c.requires.ways.count;
    }

pub returns-then-ways-from : goal.returns-then-ways-from
returns-then-ways-from c =
    let new = c.last_links.new.lasts in
    let old = c.args.ways.now.lasts.items in
    let kept : length new ≡ length old = c.last_links.auto.lasts ∙ ap (λ (ls : List (Option ℕ)). length ls) c.deref_mut.ensures.value in
    rw (written_whole c.args.ways.now.lasts.len new old kept c.args.ways.now.lasts.ok.0) c.last_links.ensures
