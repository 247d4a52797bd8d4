-- One step: flows that ask their links hop by hop, in rounds.
use Rattle.std.specs.Prelude.{ℕ, zero, suc, ◌-◌, Bool, nat_lt, ◌==◌, if◌then◌else◌}
use Rattle.te_model.specs.Counting.{sum_below}
use Rattle.flow_sim.specs.Fair.{fair}

-- What a step is of: flows, each of them the units of one path of one pair, in order of pair and path; and links.
pub record Setting : Type 0 where
  pub flows : ℕ
  pub pair : ℕ → ℕ
  pub start : ℕ → ℕ
  -- hop f r: the link that flow f asks in round r, or a number that is no link's after its last hop
  pub hop : ℕ → ℕ → ℕ
  pub rounds : ℕ
  pub links : ℕ
  pub capacity : ℕ → ℕ
  pub has_failed : ℕ → Bool

-- the units that each flow still has, and what each link has left
pub record Moment : Type 0 where
  pub units : ℕ → ℕ
  pub left : ℕ → ℕ

-- what the flows ask of link e in round r: the units of those whose hop it is
abbrev pub arrivals : Setting → Moment → ℕ → ℕ → ℕ → ℕ
arrivals s now r e f = if s.hop f r == e then now.units f else 0

-- what link e serves of flow f's arrivals: nothing if it has failed, and else its fair share of what the link has left
abbrev pub service_of : Setting → Moment → ℕ → ℕ → ℕ → ℕ
service_of s now r e f = if s.has_failed e then 0 else fair (now.left e) s.flows (arrivals s now r e) f

-- the units that flow f has after round r: those that its link served, or all of them after its last hop
abbrev pub units_passed_on : Setting → Moment → ℕ → ℕ → ℕ
units_passed_on s now r f = if nat_lt (s.hop f r) s.links then service_of s now r (s.hop f r) f else now.units f

-- all that link e serves in round r
abbrev pub used_capacity : Setting → Moment → ℕ → ℕ → ℕ
used_capacity s now r e = sum_below s.flows (service_of s now r e)

abbrev pub after_round : Setting → ℕ → Moment → Moment
after_round s r now = record { units = units_passed_on s now r; left = λ e. now.left e - used_capacity s now r e }

-- how things stand before round r
abbrev pub before_round : Setting → ℕ → Moment
before_round s zero = record { units = s.start; left = s.capacity }
before_round s (suc r) = after_round s r (before_round s r)

abbrev pub units : Setting → ℕ → ℕ → ℕ
units s f r = (before_round s r).units f

-- what flow f loses in round r
abbrev pub loss : Setting → ℕ → ℕ → ℕ
loss s f r = units s f r - units s f (suc r)

abbrev pub delivery : Setting → ℕ → ℕ
delivery s f = units s f s.rounds

-- what flow f lost on failed links in the rounds before round n
abbrev pub lost_failed_before : Setting → ℕ → ℕ → ℕ
lost_failed_before s f n = sum_below n (λ r. if s.has_failed (s.hop f r) then loss s f r else 0)

-- what flow f lost on full links in the rounds before round n
abbrev pub lost_full_before : Setting → ℕ → ℕ → ℕ
lost_full_before s f n = sum_below n (λ r. if s.has_failed (s.hop f r) then 0 else loss s f r)

abbrev pub lost_failed : Setting → ℕ → ℕ
lost_failed s f = lost_failed_before s f s.rounds

abbrev pub lost_full : Setting → ℕ → ℕ
lost_full s f = lost_full_before s f s.rounds

-- all that link e serves in the step
abbrev pub link_traffic : Setting → ℕ → ℕ
link_traffic s e = sum_below s.rounds (λ r. used_capacity s (before_round s r) r e)

-- an amount of each flow, over the flows of pair p
abbrev pub over_pair : Setting → (ℕ → ℕ) → ℕ → ℕ
over_pair s amount p = sum_below s.flows (λ f. if s.pair f == p then amount f else 0)
