-- A candidate that is read from a list.
use Rattle.std.proofs.Common.{◌≡◌, ◌<◌, ℕ, List, length, get_or, ap}
use Rattle.std.proofs.lemmas.List.{get_or_read}
use Rattle.k_paths.specs.declared.candidate.Candidate.{Candidate}
use Rattle.k_paths.specs.Search.{candidate_links, no_candidate}

-- its links are those at its place
pub links_read : (cs : List Candidate) (i : ℕ) (c : Candidate) → i < length cs → c ≡ get_or cs i c → c.links ≡ candidate_links cs i
links_read cs i c below is = ap (λ (d : Candidate). d.links) (get_or_read cs i c below is no_candidate)
