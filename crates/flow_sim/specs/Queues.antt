-- The queues of a step: for each round and each link the flows that ask the link in the round.
use Rattle.std.specs.Prelude.{ℕ, ◌≡◌, ◌<◌, ◌+◌, Bool, ◌&&◌, List, [], ◌++◌, length, map, slice_index, slice_index_or, nat_lt, ◌==◌}
use Rattle.te_model.specs.declared.route.PathShare.{PathShare}
use Rattle.flow_sim.specs.Asking.{numbers_below}
use Rattle.routing.specs.Merge.{no_path}

-- the queues of round r
abbrev pub queues_in : List (List (List ℕ)) → ℕ → List (List ℕ)
queues_in rounds r = slice_index_or rounds r []

-- the queue of link e in round r
abbrev pub queue_at : List (List (List ℕ)) → ℕ → ℕ → List ℕ
queue_at rounds r e = slice_index_or (queues_in rounds r) e []

-- whether link e is the r-th hop of the path
abbrev pub asks : PathShare → ℕ → ℕ → Bool
asks path r e = nat_lt r (length path.links) && slice_index path.links r == e

-- the numbers of those paths whose r-th hop is link e
abbrev pub asking_of : List PathShare → ℕ → ℕ → List ℕ
asking_of paths r e = numbers_below (length paths) (λ i. asks (slice_index_or paths i no_path) r e)

-- each link of the path has a queue in its round
abbrev pub HasRoom : List (List (List ℕ)) → PathShare → Type 0
HasRoom rounds path = (r : ℕ) → r < length path.links → slice_index path.links r < length (queues_in rounds r)

-- as many queues in as many rounds
pub record AreAlike (old new : List (List (List ℕ))) : Type 0 where
  pub rounds : length new ≡ length old
  pub queues : (r : ℕ) → length (queues_in new r) ≡ length (queues_in old r)

-- the flows with these paths, numbered from the first, came to stand at the ends of their queues
pub record AreAdded (first : ℕ) (paths : List PathShare) (old new : List (List (List ℕ))) : Type 0 where
  pub alike : AreAlike old new
  pub added : (r e : ℕ) → e < length (queues_in old r) → queue_at new r e ≡ queue_at old r e ++ map (λ i. first + i) (asking_of paths r e)

-- the queues of flows with these paths: in each round one for each link, where those flows stand whose hop it is
pub record AreQueues (paths : List PathShare) (links : ℕ) (rounds : List (List (List ℕ))) : Type 0 where
  pub queues : (r : ℕ) → r < length rounds → length (queues_in rounds r) ≡ links
  pub asking : (r e : ℕ) → e < length (queues_in rounds r) → queue_at rounds r e ≡ asking_of paths r e
