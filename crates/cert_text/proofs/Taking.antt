-- A loop that reads a list, item by item.
use Rattle.std.proofs.Common.{◌≡◌, ℕ, ◌-◌, ◌+◌, ◌≤◌, ◌<◌, List, [], ◌∷◌, ◌++◌, Result, Ok, Err}
use Rattle.cert_text.specs.Listed.{IsListOf}
use Rattle.cert_text.specs.declared.fault.Stop.{Stop}
use Rattle.cert_text.specs.declared.cursor.Cursor.{Ghosts}
use Rattle.cert_text.specs.declared.reader.Reader.{Reader}
use Rattle.cert_text.specs.Place.{Place, Reads, with_front}
use Rattle.cert_text.specs.Reading.{read_many}
use Rattle.cert_text.specs.Takes.{Takes}
use Rattle.cert_text.proofs.Loop.{goes_on, ends, is_done, listed_more}

-- what is read in all is front, and so many items after it
abbrev pub StillReads : {X : Type 0} → (Place → Result (X × Place) ℕ) → List X → ℕ → Place → Result (List X × Place) ℕ → Type 0
StillReads item front left p total = with_front front (read_many left item p) ≡ total

pub took_one : {C : Type 0} {cursor : Ghosts C} {X : Type 0} (item : Place → Result (X × Place) ℕ) (total : Place → Result (List X × Place) ℕ) (front : List X) (count i : ℕ) (n : X) (old mid new : Reader C cursor) → i < count
    → Takes old mid (StillReads item front (count - i)) total → Takes mid new (Reads (Ok n)) item → Takes old new (StillReads item (front ++ n ∷ []) (count - (i + 1))) total
took_one item total front count i n old mid new lt so_far one = record {
  told = λ t. so_far.told (one.told t);
  reads = λ t. goes_on item front count i _ n _ _ lt (one.reads t) (so_far.reads (one.told t));
}

-- front is the first i of the items to read, and all of its items fit
pub record HasTaken {C : Type 0} {cursor : Ghosts C} {X : Type 0} (Fits : X → Type 0) (item : Place → Result (X × Place) ℕ) (count i : ℕ) (front : List X) (old new : Reader C cursor) : Type 0 where
  pub fits : IsListOf i Fits front
  pub takes : Takes old new (StillReads item front (count - i)) (read_many count item)

pub one_more : {C : Type 0} {cursor : Ghosts C} {X : Type 0} {Fits : X → Type 0} {item : Place → Result (X × Place) ℕ} {count i : ℕ} {front : List X} {old mid : Reader C cursor} (new : Reader C cursor) (n : X) → HasTaken Fits item count i front old mid → i < count
    → Fits n → Takes mid new (Reads (Ok n)) item → HasTaken Fits item count (i + 1) (front ++ n ∷ []) old new
one_more {Fits = Fits} {item = item} {count = count} {i = i} {front = front} {old = old} {mid = mid} new n so_far lt fits one = record {
  fits = listed_more Fits front n i so_far.fits fits;
  takes = took_one item (read_many count item) front count i n old mid new lt so_far.takes one;
}

pub no_more : {C : Type 0} {cursor : Ghosts C} {X : Type 0} {Fits : X → Type 0} {item : Place → Result (X × Place) ℕ} {count i : ℕ} {front : List X} {old mid : Reader C cursor} (new : Reader C cursor) (e : Stop) → HasTaken Fits item count i front old mid → i < count
    → Takes mid new (Reads {X = X} (Err e)) item → Takes old new (Reads {X = List X} (Err e)) (read_many count item)
no_more {item = item} {count = count} {i = i} {front = front} new e so_far lt one = record {
  told = λ t. so_far.takes.told (one.told t);
  reads = λ t. ends item e front count i _ _ lt (one.reads t) (so_far.takes.reads (one.told t));
}

pub all_taken : {C : Type 0} {cursor : Ghosts C} {X : Type 0} {Fits : X → Type 0} {item : Place → Result (X × Place) ℕ} {count i : ℕ} {front : List X} {old new : Reader C cursor} → HasTaken Fits item count i front old new → count ≤ i
    → Takes old new (Reads (Ok front)) (read_many count item)
all_taken {item = item} {count = count} {i = i} {front = front} so_far le = record {
  told = so_far.takes.told;
  reads = λ t. is_done item front count i _ _ le (so_far.takes.reads t);
}
