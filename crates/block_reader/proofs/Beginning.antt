-- The parts of what stands before the blocks, one after another.
use Rattle.std.proofs.Common.{◌≡◌, ◌∙◌, ℕ, ◌≤◌, List, length, Result, Ok, Err, true, sym, ap, subst, arith}
use Rattle.te_ports.specs.Record.{Pass}
use Rattle.std.specs.Prelude.{codes}
use Rattle.std.proofs.lemmas.Bool.Decides.{nat_tests}
use Rattle.te_model.specs.declared.certificate.Head.{Head}
use Rattle.te_model.specs.declared.demand.DemandSet.{DemandSet}
use Rattle.te_model.specs.declared.limits.Limits.{Limits}
use Rattle.te_model.specs.declared.network.Network.{Network}
use Rattle.te_model.specs.declared.route.PairRoutes.{PairRoutes}
use Rattle.te_model.specs.Formats.{limits_of}
use Rattle.te_model.specs.Shape.{is_count}
use Rattle.cert_text.specs.Place.{Place, ◌>>=◌}
use Rattle.cert_text.specs.Reading.{narrow_number, read_many}
use Rattle.cert_text.specs.Halves.{read_format_and_head}
use Rattle.cert_text.specs.Fits.{FitsHead}
use Rattle.cert_text.specs.Grammar.{read_counted, read_network, read_pair, read_routes, read_set, read_ratio, read_head, read_format}
use Rattle.cert_text.proofs.Halves.{own_limits}
use Rattle.block_reader.specs.declared.lines.Lines.{Lines}
use Rattle.block_reader.specs.declared.stream_fault.StreamFault.{StreamFault}
use Rattle.block_reader.specs.Answers.{Gives, AnswersPart}
use Rattle.block_reader.proofs.Answering.{answers_then, answers_err, done_gives}

abbrev Gave : Type 0
Gave = Pass

pub few_of_count : (low high n : ℕ) → is_count low high n ≡ true → n ≤ high
few_of_count low high n within = grind (arith, nat_tests)

-- ---- the pairs

pub routes_from_count : (g0 g1 g2 : Gave) (l0 l1 l2 : Lines) (limits : Limits) (count : ℕ) (r : Result (List PairRoutes) StreamFault) →
    Gives g0 g1 l0 l1 (read_counted (codes "pairs ") 0 limits.pairs) count → AnswersPart g1 g2 l1 l2 (read_many count (read_pair limits narrow_number)) r → AnswersPart g0 g2 l0 l2 (read_routes limits narrow_number) r
unfolding read_routes
routes_from_count g0 g1 g2 l0 l1 l2 limits count r first next =
    answers_then g0 g1 g2 l0 l1 l2 (read_counted (codes "pairs ") 0 limits.pairs) (λ n p. read_many n (read_pair limits narrow_number) p) count r first next

pub routes_stop : (g0 g1 : Gave) (l0 l1 : Lines) (limits : Limits) (fault : StreamFault) →
    AnswersPart {X = ℕ} g0 g1 l0 l1 (read_counted (codes "pairs ") 0 limits.pairs) (Err fault) → AnswersPart {X = List PairRoutes} g0 g1 l0 l1 (read_routes limits narrow_number) (Err fault)
unfolding read_routes
routes_stop g0 g1 l0 l1 limits fault stopped = answers_err g0 g1 l0 l1 (read_counted (codes "pairs ") 0 limits.pairs) (λ n p. read_many n (read_pair limits narrow_number) p) fault stopped

-- ---- the head

abbrev pub head_of : Limits → Network → List PairRoutes → DemandSet → ℕ → Head
head_of limits network routes set ratio = record { format = limits.format; network = network; routes = routes; set = set; ratio = ratio }

abbrev pub after_set : Limits → Network → List PairRoutes → DemandSet → Place → Result (Head × Place) ℕ
after_set limits network routes set p = read_ratio p >>= λ ratio. Ok (head_of limits network routes set ratio.0, ratio.1)

abbrev pub after_routes : Limits → Network → List PairRoutes → Place → Result (Head × Place) ℕ
after_routes limits network routes p = read_set limits (length routes) p >>= λ set. after_set limits network routes set.0 set.1

abbrev pub after_network : Limits → Network → Place → Result (Head × Place) ℕ
after_network limits network p = read_routes limits narrow_number p >>= λ routes. after_routes limits network routes.0 routes.1

pub head_stops : (g0 g1 : Gave) (l0 l1 : Lines) (limits : Limits) (fault : StreamFault) →
    AnswersPart {X = Network} g0 g1 l0 l1 (read_network limits narrow_number) (Err fault) → AnswersPart {X = Head} g0 g1 l0 l1 (read_head limits narrow_number) (Err fault)
unfolding read_head
head_stops g0 g1 l0 l1 limits fault stopped = answers_err g0 g1 l0 l1 (read_network limits narrow_number) (after_network limits) fault stopped

pub head_from_network : (g0 g1 g2 : Gave) (l0 l1 l2 : Lines) (limits : Limits) (network : Network) (r : Result Head StreamFault) →
    Gives g0 g1 l0 l1 (read_network limits narrow_number) network → AnswersPart g1 g2 l1 l2 (after_network limits network) r → AnswersPart g0 g2 l0 l2 (read_head limits narrow_number) r
unfolding read_head
head_from_network g0 g1 g2 l0 l1 l2 limits network r first next = answers_then g0 g1 g2 l0 l1 l2 (read_network limits narrow_number) (after_network limits) network r first next

pub after_network_stops : (g0 g1 : Gave) (l0 l1 : Lines) (limits : Limits) (network : Network) (fault : StreamFault) →
    AnswersPart {X = List PairRoutes} g0 g1 l0 l1 (read_routes limits narrow_number) (Err fault) → AnswersPart {X = Head} g0 g1 l0 l1 (after_network limits network) (Err fault)
after_network_stops g0 g1 l0 l1 limits network fault stopped = answers_err g0 g1 l0 l1 (read_routes limits narrow_number) (after_routes limits network) fault stopped

pub head_from_routes : (g0 g1 g2 : Gave) (l0 l1 l2 : Lines) (limits : Limits) (network : Network) (routes : List PairRoutes) (r : Result Head StreamFault) →
    Gives g0 g1 l0 l1 (read_routes limits narrow_number) routes → AnswersPart g1 g2 l1 l2 (after_routes limits network routes) r → AnswersPart g0 g2 l0 l2 (after_network limits network) r
head_from_routes g0 g1 g2 l0 l1 l2 limits network routes r first next = answers_then g0 g1 g2 l0 l1 l2 (read_routes limits narrow_number) (after_routes limits network) routes r first next

pub after_routes_stops : (g0 g1 : Gave) (l0 l1 : Lines) (limits : Limits) (network : Network) (lent routes : List PairRoutes) (fault : StreamFault) → lent ≡ routes →
    AnswersPart {X = DemandSet} g0 g1 l0 l1 (read_set limits (length lent)) (Err fault) → AnswersPart {X = Head} g0 g1 l0 l1 (after_routes limits network routes) (Err fault)
after_routes_stops g0 g1 l0 l1 limits network lent routes fault same stopped =
    answers_err g0 g1 l0 l1 (read_set limits (length routes)) (after_set limits network routes) fault
    (subst (λ (rs : List PairRoutes). AnswersPart {X = DemandSet} g0 g1 l0 l1 (read_set limits (length rs)) (Err fault)) same stopped)

pub head_from_set : (g0 g1 g2 : Gave) (l0 l1 l2 : Lines) (limits : Limits) (network : Network) (lent routes : List PairRoutes) (set : DemandSet) (r : Result Head StreamFault) → lent ≡ routes →
    Gives g0 g1 l0 l1 (read_set limits (length lent)) set → AnswersPart g1 g2 l1 l2 (after_set limits network routes set) r → AnswersPart g0 g2 l0 l2 (after_routes limits network routes) r
head_from_set g0 g1 g2 l0 l1 l2 limits network lent routes set r same first next =
    answers_then g0 g1 g2 l0 l1 l2 (read_set limits (length routes)) (after_set limits network routes) set r
    (subst (λ (rs : List PairRoutes). Gives g0 g1 l0 l1 (read_set limits (length rs)) set) same first) next

pub after_set_stops : (g0 g1 : Gave) (l0 l1 : Lines) (limits : Limits) (network : Network) (routes : List PairRoutes) (set : DemandSet) (fault : StreamFault) →
    AnswersPart {X = ℕ} g0 g1 l0 l1 read_ratio (Err fault) → AnswersPart {X = Head} g0 g1 l0 l1 (after_set limits network routes set) (Err fault)
after_set_stops g0 g1 l0 l1 limits network routes set fault stopped = answers_err g0 g1 l0 l1 read_ratio (λ ratio p. Ok (head_of limits network routes set ratio, p)) fault stopped

pub head_from_ratio : (g0 g1 : Gave) (l0 l1 : Lines) (limits : Limits) (network : Network) (routes : List PairRoutes) (set : DemandSet) (ratio : ℕ) →
    Gives g0 g1 l0 l1 read_ratio ratio → AnswersPart g0 g1 l0 l1 (after_set limits network routes set) (Ok (head_of limits network routes set ratio))
head_from_ratio g0 g1 l0 l1 limits network routes set ratio first =
    answers_then g0 g1 g1 l0 l1 l1 read_ratio (λ ratio p. Ok (head_of limits network routes set ratio, p)) ratio (Ok (head_of limits network routes set ratio)) first
    (done_gives g1 l1 (head_of limits network routes set ratio))

-- ---- the first line and the head

pub format_stops : (g0 g1 : Gave) (l0 l1 : Lines) (fault : StreamFault) →
    AnswersPart {X = ℕ} g0 g1 l0 l1 read_format (Err fault) → AnswersPart {X = Head} g0 g1 l0 l1 (read_format_and_head narrow_number) (Err fault)
unfolding read_format_and_head
format_stops g0 g1 l0 l1 fault stopped = answers_err g0 g1 l0 l1 read_format (λ format p. read_head (limits_of format) narrow_number p) fault stopped

pub head_from_format : (g0 g1 g2 : Gave) (l0 l1 l2 : Lines) (limits : Limits) (format : ℕ) (r : Result Head StreamFault) → limits ≡ limits_of format →
    Gives g0 g1 l0 l1 read_format format → AnswersPart g1 g2 l1 l2 (read_head limits narrow_number) r → AnswersPart g0 g2 l0 l2 (read_format_and_head narrow_number) r
unfolding read_format_and_head
head_from_format g0 g1 g2 l0 l1 l2 limits format r same first next =
    answers_then g0 g1 g2 l0 l1 l2 read_format (λ format p. read_head (limits_of format) narrow_number p) format r first
    (subst (λ (l : Limits). AnswersPart g1 g2 l1 l2 (read_head l narrow_number) r) same next)

-- a head within the limits of a format has these by its own
pub fits_own : (limits : Limits) (format : ℕ) (head : Head) → limits ≡ limits_of format → FitsHead limits head → FitsHead (limits_of head.format) head
fits_own limits format head same fits =
    let own : limits ≡ limits_of head.format = same ∙ sym (own_limits format) ∙ ap (λ (l : Limits). limits_of l.format) (sym same) ∙ ap limits_of (sym fits.format) in
    subst (λ (l : Limits). FitsHead l head) own fits
