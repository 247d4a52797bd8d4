-- What was drawn, published, judged and simulated makes a summary.
use Rattle.std.proofs.Common.{ℕ, ◌≡◌, ◌∙◌, refl, sym, ap, subst, List, length, sum_by}
use Rattle.te_model.specs.declared.certificate.Certificate.{Certificate}
use Rattle.te_model.specs.declared.network.Network.{Network}
use Rattle.te_model.specs.declared.route.Pair.{Pair}
use Rattle.te_model.specs.Inequalities.{first_failure}
use Rattle.te_model.specs.Network.{link_count, node_count}
use Rattle.te_model.specs.Text.{Spells}
use Rattle.te_model.specs.Validity.{IsValid}
use Rattle.te_model.proofs.Failures.{none_from_holds}
use Rattle.random_network.specs.Drawn.{network_of}
use Rattle.random_network.proofs.Formed.{nodes_are}
use Rattle.traffic_matrix.specs.declared.traffic.Traffic.{Traffic}
use Rattle.traffic_matrix.specs.Traffic.{known_traffic}
use Rattle.traffic_matrix.specs.Gravity.{every_pair, gravity_of}
use Rattle.ratio_checker.specs.declared.finding.Finding.{Finding}
use Rattle.ratio_checker.specs.declared.finding.Finding.TheVariants.{Yes}
use Rattle.ratio_checker.specs.Finding.{finding_of}
use Rattle.series_simulation.specs.declared.step_row.StepRow.{StepRow}
use Rattle.generation.specs.declared.lines.Summary.{Summary}
use Rattle.generation.specs.Summary.{AreDrawnRows, AreLeastRows, IsDrawnFile, IsJudgedDraw, IsSummary, IsTotal, summary_text}
use Rattle.generation.specs.Text.{summary_lines}

-- a drawn file spells its certificate
pub drawn_spells : (seed : ℕ) (net : Network) (pairs : List Pair) (file bytes : List ℕ) (is : IsDrawnFile seed net pairs file) → bytes ≡ file →
    Spells bytes is.made.certificate
drawn_spells seed net pairs file bytes is same = (is.made.made.valid, same ∙ is.made.text_is)

-- what is read of it is valid
pub drawn_valid : (seed : ℕ) (net : Network) (pairs : List Pair) (file bytes : List ℕ) (read : Certificate) → IsDrawnFile seed net pairs file →
    bytes ≡ file → ((c : Certificate) → Spells bytes c → read ≡ c) → IsValid read
drawn_valid seed net pairs file bytes read is same reads =
    subst IsValid (sym (reads is.made.certificate (drawn_spells seed net pairs file bytes is same))) is.made.made.valid

-- what is read of it and judged has its ratio, and the verdict is yes
pub judged_draw : (seed : ℕ) (net : Network) (pairs : List Pair) (file bytes : List ℕ) (read : Certificate) (ratio : ℕ) (finding : Finding) →
    IsDrawnFile seed net pairs file → bytes ≡ file → ((c : Certificate) → Spells bytes c → read ≡ c) → ratio ≡ read.head.ratio →
    finding ≡ finding_of (first_failure read) → IsJudgedDraw seed net pairs ratio finding
judged_draw seed net pairs file bytes read ratio finding is same reads ratio_of found =
    let certificate = is.made.certificate in
    let back : read ≡ certificate = reads certificate (drawn_spells seed net pairs file bytes is same) in
    record {
      file = file;
      published = is;
      ratio_is = ratio_of ∙ ap (λ (c : Certificate). c.head.ratio) back;
      yes = found ∙ ap (λ (c : Certificate). finding_of (first_failure c)) back ∙ ap finding_of (none_from_holds certificate is.made.made.holds);
    }

-- equal numbers have equal lines
same_lines : (s : Summary) (net : Network) (pairs ratio : ℕ) (rows : List StepRow) → s.nodes ≡ node_count net → s.links ≡ link_count net → s.pairs ≡ pairs →
    s.ratio ≡ ratio → s.finding ≡ Yes → s.offered ≡ sum_by (λ (row : StepRow). row.result.offered) rows →
    s.delivered ≡ sum_by (λ (row : StepRow). row.result.delivered) rows → summary_lines s ≡ summary_text net pairs ratio rows
same_lines s net pairs ratio rows nodes links of_pairs of_ratio found offered delivered = rw (nodes, links, of_pairs, of_ratio, found, offered, delivered) refl

-- the network and the traffic of a run
module _ (n seed : ℕ) (net : Network) (traffic : Traffic) (drawn : net ≡ network_of n seed)
    (gravity : traffic ≡ known_traffic (gravity_of (node_count net) seed 3)) where
  nodes : node_count net ≡ n
  nodes = ap node_count drawn ∙ nodes_are n seed

  traffic_is : traffic ≡ known_traffic (gravity_of n seed 3)
  traffic_is = gravity ∙ ap (λ (m : ℕ). known_traffic (gravity_of m seed 3)) nodes

  pairs_are : traffic.sent.pairs.list ≡ every_pair n
  pairs_are = ap (λ (t : Traffic). t.sent.pairs.list) traffic_is

  judged : (ratio : ℕ) (finding : Finding) → IsJudgedDraw seed net traffic.sent.pairs.list ratio finding → IsJudgedDraw seed (network_of n seed) (every_pair n) ratio finding
  judged ratio finding is =
      subst (λ (pairs : List Pair). IsJudgedDraw seed (network_of n seed) pairs ratio finding) pairs_are
      (subst (λ (w : Network). IsJudgedDraw seed w traffic.sent.pairs.list ratio finding) drawn is)

  driven : (rows : List StepRow) → AreLeastRows net traffic rows → AreDrawnRows n seed rows
  driven rows are =
      subst (λ (t : Traffic). AreLeastRows (network_of n seed) t rows) traffic_is
      (subst (λ (w : Network). AreLeastRows w traffic rows) drawn are)

  -- the lines of what was counted, judged and added up
  pub summed : (s : Summary) (text : List ℕ) → IsJudgedDraw seed net traffic.sent.pairs.list s.ratio s.finding → IsTotal net traffic s.offered s.delivered →
      s.nodes ≡ node_count net → s.links ≡ link_count net → s.pairs ≡ length traffic.sent.pairs.list → text ≡ summary_lines s → IsSummary n seed text
  summed s text of_draw total nodes_of links_of pairs_of lines =
      let at = judged s.ratio s.finding of_draw in
      let count : s.nodes ≡ node_count (network_of n seed) = nodes_of ∙ ap node_count drawn in
      let links : s.links ≡ link_count (network_of n seed) = links_of ∙ ap link_count drawn in
      let pairs : s.pairs ≡ length (every_pair n) = pairs_of ∙ ap (λ (ps : List Pair). length ps) pairs_are in
      record {
        file = at.file;
        published = at.published;
        rows = total.rows;
        driven = driven total.rows total.driven;
        text_is = lines ∙ same_lines s (network_of n seed) (length (every_pair n)) at.published.made.certificate.head.ratio total.rows count links pairs
            at.ratio_is at.yes total.offered_is total.delivered_is;
      }
