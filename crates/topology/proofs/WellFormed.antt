-- What a network keeps while links are added, and that it is then well formed.
use Rattle.std.proofs.Common.{ℕ, ◌≤◌, ◌<◌, ◌≡◌, ◌≢◌, List, [], length, All, true, not, arith}
use Rattle.std.specs.Prelude.{slice_index_or, bytes_eq}
use Rattle.std.proofs.lemmas.Bool.{false_from_ne_true, not_from_false}
use Rattle.std.proofs.lemmas.Slice.Eq.{bytes_eq-Decides}
use Rattle.te_model.specs.declared.network.Network.{Network}
use Rattle.te_model.specs.declared.limits.TheConstants.{MAX_LINKS, MAX_NODES}
use Rattle.te_model.specs.Network.{is_name, is_new_name, is_well_formed, node_count, name_at, no_link}
use Rattle.te_model.proofs.Searches.{all_below_from}
use Rattle.te_model.proofs.SoundLinks.{IsLink, sound_link}
use Rattle.te_model.proofs.Tests.{all_to_tests}
use Rattle.te_model.proofs.WellFormed.{well_formed_from}

-- no two names are equal
abbrev pub AreDistinct : List (List ℕ) → Type 0
AreDistinct names = (i j : ℕ) → i < j → j < length names → slice_index_or names i [] ≢ slice_index_or names j []

-- distinct names of the spelling, and links between them, within the limits
pub record WellFormed (net : Network) : Type 0 where
  pub names : All (λ n. is_name n ≡ true) net.names
  pub distinct : AreDistinct net.names
  pub links : All (IsLink (length net.names)) net.links
  pub few_nodes : length net.names ≤ MAX_NODES
  pub few_links : length net.links ≤ MAX_LINKS

new-name : (net : Network) → AreDistinct net.names → (v : ℕ) → v < node_count net → is_new_name net v ≡ true
new-name net distinct v low =
    all_below_from v (λ u. not (bytes_eq (name_at net u) (name_at net v)))
    (λ u below. not_from_false (bytes_eq (name_at net u) (name_at net v))
    (false_from_ne_true (bytes_eq (name_at net u) (name_at net v))
    (λ same. distinct u v below low ((bytes_eq-Decides (name_at net u) (name_at net v)).0 same))))

-- a network that has a link is well formed by the test
pub well-formed : (net : Network) → WellFormed net → 0 < length net.links → is_well_formed net ≡ true
well-formed net w some =
    let first = w.links 0 no_link some in
    let tail = first.tail in
    let head = first.head in
    let differ = first.differ in
    well_formed_from net (record {
      two_nodes = omega arith;
      nodes = w.few_nodes;
      links = w.few_links;
      names = all_to_tests is_name (λ n. is_name n ≡ true) (λ n is. is) net.names w.names;
      new_names = new-name net w.distinct;
      sound_links = λ h low. sound_link net h (w.links h no_link low);
    })
