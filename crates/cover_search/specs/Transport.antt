-- Numbers that cover shares, and amounts over the shares that they cover with nothing to spare (the transportation problem and its dual;
-- Kuhn, 1955; Ford and Fulkerson, 1956).
use Rattle.std.specs.Prelude.{◌≡◌, ℕ, ◌+◌, ◌-◌, ◌*◌, ◌^◌, ◌<◌, ◌≤◌, ◌==◌, if◌then◌else◌, List, All, length, slice_index, slice_index_or}
use Rattle.te_model.specs.Counting.{sum_below}
use Rattle.te_model.specs.declared.units.TheConstants.{SHARE_UNIT}
use Rattle.cover_search.specs.declared.transport.EndShare.{EndShare}
use Rattle.cover_search.specs.declared.transport.Transport.{Transport}

-- share k of the list
abbrev pub end_share : List EndShare → ℕ → EndShare
end_share shares k = slice_index_or shares k (record { source = 0; destination = 0; share = 0 })

abbrev pub source_at : List EndShare → ℕ → ℕ
source_at shares k = (end_share shares k).source

abbrev pub destination_at : List EndShare → ℕ → ℕ
destination_at shares k = (end_share shares k).destination

abbrev pub share_at : List EndShare → ℕ → ℕ
share_at shares k = (end_share shares k).share

-- shares of pairs that join two of so many nodes
abbrev pub AreEndShares : ℕ → List EndShare → Type 0
AreEndShares nodes shares = All (λ s. (s.source < nodes) × (s.destination < nodes) × (s.share ≤ SHARE_UNIT)) shares

-- what goes over the shares whose end this is
abbrev pub end_amount : List EndShare → (ℕ → ℕ) → (ℕ → ℕ) → ℕ → ℕ
end_amount shares end' demand i = sum_below (length shares) (λ k. if end' k == i then demand k else 0)

-- what node i sends, and may send beside that
abbrev pub sent_at : List EndShare → Transport → ℕ → ℕ
sent_at shares t i = end_amount shares (source_at shares) (slice_index t.demand) i + slice_index t.unsent i

-- what it receives, and may receive beside that
abbrev pub received_at : List EndShare → Transport → ℕ → ℕ
received_at shares t i = end_amount shares (destination_at shares) (slice_index t.demand) i + slice_index t.unreceived i

-- what the numbers of its ends are above the share
abbrev pub slack_of : Transport → EndShare → ℕ
slack_of t ends = (slice_index t.tails ends.source + slice_index t.heads ends.destination) - ends.share

abbrev pub IsTight : List EndShare → Transport → ℕ → Type 0
IsTight shares t k = slack_of t (end_share shares k) ≡ 0

-- one number of each kind for each node
pub record HasCounts (shares : List EndShare) (t : Transport) : Type 0 where
  pub heads : length t.heads ≡ length t.tails
  pub demand : length t.demand ≡ length shares
  pub unsent : length t.unsent ≡ length t.tails
  pub unreceived : length t.unreceived ≡ length t.tails

-- The numbers cover; what goes over a share goes where they cover it with nothing to spare; and where a head is above 0, nothing is
-- left to be received.
pub record IsTransport (shares : List EndShare) (t : Transport) : Type 0 where
  pub counts : HasCounts shares t
  pub few_nodes : length t.tails ≤ 2 ^ 32
  pub ends : AreEndShares (length t.tails) shares
  pub tails : (i : ℕ) → slice_index t.tails i ≤ SHARE_UNIT
  pub heads : (i : ℕ) → slice_index t.heads i ≤ SHARE_UNIT
  pub sent : (i : ℕ) → sent_at shares t i ≤ 2 ^ 32
  pub received : (i : ℕ) → received_at shares t i ≤ 2 ^ 32
  pub covers : (k : ℕ) → k < length shares → share_at shares k ≤ slice_index t.tails (source_at shares k) + slice_index t.heads (destination_at shares k)
  pub tight : (k : ℕ) → k < length shares → 0 < slice_index t.demand k → IsTight shares t k
  pub spent : (i : ℕ) → 0 < slice_index t.heads i → slice_index t.unreceived i ≡ 0

-- what the numbers come to by what is sent and received, and may be beside that
abbrev pub cover_amount : List EndShare → Transport → ℕ
cover_amount shares t = sum_below (length t.tails) (λ i. sent_at shares t i * slice_index t.tails i + received_at shares t i * slice_index t.heads i)

-- what the shares come to by what goes over them
abbrev pub shares_amount : List EndShare → Transport → ℕ
shares_amount shares t = sum_below (length shares) (λ k. slice_index t.demand k * share_at shares k)

-- no source with a tail above 0 may send more
abbrev pub IsSettled : Transport → Type 0
IsSettled t = (i : ℕ) → 0 < slice_index t.tails i → slice_index t.unsent i ≡ 0

-- the hose of so many nodes, and nothing left to send where a tail is above 0
pub record IsLeastTransport (shares : List EndShare) (nodes : ℕ) (sent received : ℕ → ℕ) (t : Transport) : Type 0 where
  pub transport : IsTransport shares t
  pub count : length t.tails ≡ nodes
  pub sends : (i : ℕ) → sent_at shares t i ≡ sent i
  pub receives : (i : ℕ) → received_at shares t i ≡ received i
  pub settled : IsSettled t

-- Where nothing is left to be sent by a tail above 0, the numbers come to what the shares come to by what goes over them.
abbrev pub SettledCoversComeToAmounts : Type 0
SettledCoversComeToAmounts = (shares : List EndShare) (t : Transport) → IsTransport shares t → IsSettled t → cover_amount shares t ≡ shares_amount shares t
