-- Lines that are written field by field, and one after another.
use Rattle.std.proofs.Common.{◌≡◌, ℕ, ◌+◌, Bool, List, [], ◌∷◌, ◌++◌, append_assoc, slice_index, ap, sym, ◌∙◌}
use Rattle.std.specs.Prelude.{decimal, fold}
use Rattle.std.specs.List.{flat_map, join_with_byte, range_with_len}
use Rattle.te_model.specs.declared.network.Network.{Network}
use Rattle.te_model.specs.declared.route.PathShare.{PathShare}
use Rattle.te_model.specs.Marks.{is_marked}
use Rattle.te_model.specs.Network.{capacity_of, head_of, name_at, tail_of}
use Rattle.te_model.specs.Text.{numbers}
use Rattle.cert_text.specs.Pieces.{with_space}
use Rattle.series_simulation.specs.Simulation.{utilisation_on}
use Rattle.experiment.proofs.JoinedFields.{after, joined}
use Rattle.step_detail.specs.Links.{link_use_line, yes_or_no}
use Rattle.step_detail.specs.Paths.{weighted_path_line}

-- the fields of a line after its first, and its end
pub line_put : (text word : List ℕ) (fields : List (List ℕ)) →
    fold after (text ++ word) fields ++ 10 ∷ [] ≡ text ++ (join_with_byte 44 (word ∷ fields) ++ 10 ∷ [])
line_put text word fields = ap (λ (u : List ℕ). u ++ 10 ∷ []) (joined text word fields) ∙ append_assoc text (join_with_byte 44 (word ∷ fields)) (10 ∷ [])

-- a line of a link, from its fields
pub link_put : (net : Network) (failed : List Bool) (asked carried word : List ℕ) (e : ℕ) (text source target answer : List ℕ)
    (capacity wants has wanted had : ℕ) → source ≡ name_at net (tail_of net e) → target ≡ name_at net (head_of net e) → capacity ≡ capacity_of net e →
    answer ≡ yes_or_no (is_marked failed e) → wants ≡ slice_index asked e → has ≡ slice_index carried e → wanted ≡ utilisation_on net asked e →
    had ≡ utilisation_on net carried e →
    after (after (after (after (after (after (after (after (after (text ++ word) (decimal e)) source) target) (decimal capacity)) answer) (decimal wants))
    (decimal has)) (decimal wanted)) (decimal had) ++ 10 ∷ []
    ≡ text ++ link_use_line net failed asked carried word e
link_put net failed asked carried word e text source target answer capacity wants has wanted had a b c d f g h i =
    rw (a, b, c, d, f, g, h, i) (line_put text word (decimal e ∷ name_at net (tail_of net e) ∷ name_at net (head_of net e) ∷ decimal (capacity_of net e)
    ∷ yes_or_no (is_marked failed e) ∷ decimal (slice_index asked e) ∷ decimal (slice_index carried e)
    ∷ decimal (utilisation_on net asked e) ∷ decimal (utilisation_on net carried e) ∷ []))

-- a line of a path, whose links are written behind the comma
pub path_put : (text word source target links : List ℕ) (path : PathShare) (weight : ℕ) → weight ≡ path.weight → links ≡ path.links →
    ((after (after (after (text ++ word) source) target) (decimal weight) ++ 44 ∷ []) ++ numbers links) ++ 10 ∷ []
    ≡ text ++ weighted_path_line word source target path
path_put text word source target links path weight a b =
    rw (a, b) (ap (λ (u : List ℕ). u ++ 10 ∷ [])
    (append_assoc (after (after (after (text ++ word) source) target) (decimal path.weight)) (44 ∷ []) (numbers path.links))
    ∙ line_put text word (source ∷ target ∷ decimal path.weight ∷ numbers path.links ∷ []))
