-- How such numbers are sought: ways over which more can be sent, and what falls with each step.
use Rattle.std.specs.Prelude.{◌≡◌, ℕ, ◌+◌, ◌-◌, ◌^◌, ◌<◌, ◌≤◌, ◌==◌, ◌⊎◌, if◌then◌else◌, true, false, min, Bool, List, Option, Some, None, length, slice_index}
use Rattle.te_model.specs.Counting.{sum_below}
use Rattle.te_model.specs.declared.units.TheConstants.{SHARE_UNIT}
use Rattle.cover_search.specs.declared.reach.Reached.{Reached}
use Rattle.cover_search.specs.declared.transport.EndShare.{EndShare}
use Rattle.cover_search.specs.declared.transport.Transport.{Transport}
use Rattle.cover_search.specs.Transport.{IsSettled, IsTight, IsTransport, cover_amount, destination_at, received_at, sent_at, source_at}

-- more, or less, at one place
abbrev pub added_at : (ℕ → ℕ) → ℕ → ℕ → ℕ → ℕ
added_at f place amount i = if i == place then f i + amount else f i

abbrev pub taken_at : (ℕ → ℕ) → ℕ → ℕ → ℕ → ℕ
taken_at f place amount i = if i == place then f i - amount else f i

abbrev pub put_at : (ℕ → ℕ) → ℕ → ℕ → ℕ → ℕ
put_at f place value i = if i == place then value else f i

-- the amounts of the same hose go over other shares, under the same numbers
pub record IsMoved (shares : List EndShare) (old new : Transport) : Type 0 where
  pub transport : IsTransport shares new
  pub tails : new.tails ≡ old.tails
  pub heads : new.heads ≡ old.heads
  pub sent : (i : ℕ) → sent_at shares new i ≡ sent_at shares old i
  pub received : (i : ℕ) → received_at shares new i ≡ received_at shares old i

-- of nodes: those from which, or at which, no way leads to an end
abbrev pub unreached_below : ℕ → (ℕ → ℕ) → ℕ
unreached_below n order = sum_below n (λ i. if order i == 0 then 1 else 0)

abbrev pub unreached_count : Transport → Reached → ℕ
unreached_count t r = unreached_below (length t.tails) (slice_index r.sources) + unreached_below (length t.tails) (slice_index r.destinations)

-- share k leads on from source i
pub record IsOnward (shares : List EndShare) (t : Transport) (r : Reached) (i k : ℕ) : Type 0 where
  pub share : k < length shares
  pub source : source_at shares k ≡ i
  pub tight : IsTight shares t k
  pub some : 0 < slice_index r.destinations (destination_at shares k)
  pub less : slice_index r.destinations (destination_at shares k) < slice_index r.sources i

-- share k leads back from destination i
pub record IsBack (shares : List EndShare) (r : Reached) (i k : ℕ) : Type 0 where
  pub share : k < length shares
  pub destination : destination_at shares k ≡ i
  pub some : 0 < slice_index r.sources (source_at shares k)
  pub less : slice_index r.sources (source_at shares k) < slice_index r.destinations i

-- Ways to the ends: a source with number 1 has the tail 0; one with a greater number has a tight share to a destination of a smaller one. A
-- destination with a number above 1 has a share from a source of a smaller one.
pub record AreWays (shares : List EndShare) (t : Transport) (r : Reached) : Type 0 where
  pub sources : length r.sources ≡ length t.tails
  pub destinations : length r.destinations ≡ length t.tails
  pub forward : length r.forward ≡ length t.tails
  pub backward : length r.backward ≡ length t.tails
  pub ended : (i : ℕ) → slice_index r.sources i ≡ 1 → slice_index t.tails i ≡ 0
  pub tailed : (i : ℕ) → 1 < slice_index r.sources i → 0 < slice_index t.tails i
  pub onward : (i : ℕ) → 1 < slice_index r.sources i → IsOnward shares t r i (slice_index r.forward i)
  pub back : (i : ℕ) → 1 < slice_index r.destinations i → IsBack shares r i (slice_index r.backward i)

-- what the ways go over is there: room at the ends, and an amount on the shares that lead back from destinations with a number below m
pub record AreOpen (t : Transport) (r : Reached) (m : ℕ) : Type 0 where
  pub room : (i : ℕ) → slice_index r.destinations i ≡ 1 → 0 < slice_index t.unreceived i
  pub amount : (i : ℕ) → 1 < slice_index r.destinations i → slice_index r.destinations i < m → 0 < slice_index t.demand (slice_index r.backward i)

-- the ends have numbers
pub record HaveEnds (t : Transport) (r : Reached) : Type 0 where
  pub zero : (i : ℕ) → i < length t.tails → slice_index t.tails i ≡ 0 → 0 < slice_index r.sources i
  pub room : (i : ℕ) → 0 < slice_index t.unreceived i → 0 < slice_index r.destinations i

-- no way leads on over share k to its source, or back over it to its destination, that has no number yet
abbrev pub IsOnwardAt : List EndShare → Transport → Reached → ℕ → Type 0
IsOnwardAt shares t r k = IsTight shares t k → 0 < slice_index r.destinations (destination_at shares k) → 0 < slice_index r.sources (source_at shares k)

abbrev pub IsBackAt : List EndShare → Transport → Reached → ℕ → Type 0
IsBackAt shares t r k = 0 < slice_index t.demand k → 0 < slice_index r.sources (source_at shares k) → 0 < slice_index r.destinations (destination_at shares k)

abbrev pub IsClosedAt : List EndShare → Transport → Reached → ℕ → Type 0
IsClosedAt shares t r k = IsOnwardAt shares t r k × IsBackAt shares t r k

abbrev pub IsClosed : List EndShare → Transport → Reached → Type 0
IsClosed shares t r = (k : ℕ) → k < length shares → IsClosedAt shares t r k

-- what is known while ways are sought
pub record IsReaching (shares : List EndShare) (t : Transport) (r : Reached) : Type 0 where
  pub ways : AreWays shares t r
  pub are_open : (m : ℕ) → AreOpen t r m
  pub ends : HaveEnds t r
  pub last : (i : ℕ) → (slice_index r.sources i ≤ r.last) × (slice_index r.destinations i ≤ r.last)
  pub first : 1 ≤ r.last
  pub few : r.last + unreached_count t r ≤ 2 ^ 34

-- what sources with a tail above 0 may send beside what they send
abbrev pub open_amount : Transport → ℕ
open_amount t = sum_below (length t.tails) (λ i. if slice_index t.tails i == 0 then 0 else slice_index t.unsent i)

-- a source that may, where there is one
abbrev pub IsOpenSource : Transport → Option ℕ → Type 0
IsOpenSource t None = IsSettled t
IsOpenSource t (Some i) = (i < length t.tails) × (0 < slice_index t.tails i) × (0 < slice_index t.unsent i)

-- share k leads from a source without a way to a destination with one
abbrev pub IsBoundary : List EndShare → Reached → ℕ → Type 0
IsBoundary shares r k = (slice_index r.sources (source_at shares k) ≡ 0) × (0 < slice_index r.destinations (destination_at shares k))

-- the numbers of the nodes without a way are lowered, or raised to one million at most
abbrev pub lowered_where : List ℕ → ℕ → (ℕ → ℕ) → ℕ → ℕ
lowered_where orders by f i = if slice_index orders i == 0 then f i - by else f i

abbrev pub raised_where : List ℕ → ℕ → (ℕ → ℕ) → ℕ → ℕ
raised_where orders by f i = if slice_index orders i == 0 then min (f i + by) SHARE_UNIT else f i

-- lower tails and greater heads, under which the same is sent
pub record IsLowered (shares : List EndShare) (old : Transport) (r : Reached) (new : Transport) : Type 0 where
  pub transport : IsTransport shares new
  pub demand : new.demand ≡ old.demand
  pub unsent : new.unsent ≡ old.unsent
  pub unreceived : new.unreceived ≡ old.unreceived
  pub count : length new.tails ≡ length old.tails
  pub fall : (i : ℕ) → slice_index new.tails i ≤ slice_index old.tails i
  pub less : (i : ℕ) → i < length old.tails → slice_index r.sources i ≡ 0 → slice_index new.tails i < slice_index old.tails i

-- the same hose, and less to come
pub record IsImproved (shares : List EndShare) (old new : Transport) : Type 0 where
  pub transport : IsTransport shares new
  pub count : length new.tails ≡ length old.tails
  pub sent : (i : ℕ) → sent_at shares new i ≡ sent_at shares old i
  pub received : (i : ℕ) → received_at shares new i ≡ received_at shares old i
  pub less : cover_amount shares new + open_amount new < cover_amount shares old + open_amount old

-- where the way of what a source may still send goes on
abbrev pub GoesOn : List EndShare → Transport → Reached → ℕ → Transport → Option ℕ → Type 0
GoesOn shares old r source new None = open_amount new < open_amount old
GoesOn shares old r source new (Some next) =
    (open_amount new < open_amount old) ⊎ ((0 < slice_index new.tails next) × (0 < slice_index new.unsent next) × AreOpen new r (slice_index r.sources next))

-- it is improved, or no source was open
abbrev pub IsImprovedWhere : Bool → List EndShare → Transport → Transport → Type 0
IsImprovedWhere true shares old new = IsImproved shares old new
IsImprovedWhere false shares old new = (new ≡ old) × IsSettled old
