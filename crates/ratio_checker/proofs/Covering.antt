-- A pair's share is covered by what is read of its source's row.
use Rattle.std.proofs.Common.{◌≡◌, ℕ, ◌∙◌, List, slice_index, ap, sym}
use Rattle.te_model.specs.declared.certificate.Block.{Block}
use Rattle.te_model.specs.declared.route.PairRoutes.{PairRoutes}
use Rattle.te_model.specs.Certificate.{potential, row_of}
use Rattle.te_model.specs.Inequalities.{covers_share}
use Rattle.te_model.specs.Path.{destination_of, routes_at, share, source_of}
use Rattle.ratio_checker.specs.Uncovered.{covers_by}

pub covers_by-is : (block : Block) (routes : List PairRoutes) (p amount distance : ℕ) (r : PairRoutes) (potentials : List ℕ) → routes_at routes p ≡ r →
    amount ≡ share routes p block.link → potentials ≡ (row_of block.rows r.pair.src).potential → distance ≡ slice_index potentials r.pair.dst →
    covers_by block p amount distance ≡ covers_share routes block p
covers_by-is block routes p amount distance r potentials at shared row read =
    let far : distance ≡ potential block (source_of routes p) (destination_of routes p) =
    read ∙ ap (λ xs. slice_index xs r.pair.dst) row ∙ ap (λ t. potential block t.pair.src t.pair.dst) (sym at)
    in
    ap (λ s. covers_by block p s distance) shared ∙ ap (covers_by block p (share routes p block.link)) far
