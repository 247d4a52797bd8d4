-- What `reprice` answers of a certificate and a topology of its links: one text, and a file to which `check` says yes.
use Rattle.std.proofs.Common.{◌≡◌, ◌⊎◌, ℕ, Bool, true, false, cond, not, List, [], Option, Some, None, Result, Ok, Err, inl, inr, refl, sym, ap, ◌∙◌, subst, arith}
use Rattle.te_model.specs.declared.certificate.Certificate.{Certificate}
use Rattle.te_model.specs.declared.network.Network.{Network}
use Rattle.te_model.specs.Feasible.{first_infeasibility}
use Rattle.te_model.specs.Inequalities.{LinkFailure}
use Rattle.link_bounds.specs.SameLinks.{has_same_links}
use Rattle.te_model.specs.Text.{Spells, text as text_of}
use Rattle.te_model.proofs.FeasibleBlocks.{feasible_or_fails}
use Rattle.te_model.proofs.Oblivious.{holds_is_oblivious}
use Rattle.link_bounds.proofs.SameLinks.{same_links_decided}
use Rattle.text_size.proofs.ValidSizes.{fits_file}
use Rattle.topology.specs.Topology.{topology_of}
use Rattle.topology.specs.declared.fault.TopologyFault.{TopologyFault}
use Rattle.topology.proofs.SoundLemmas.{topologies_are_formed}
use Rattle.link_bounds.specs.Laws.{CanReprice}
use Rattle.link_bounds.specs.Repriced.{has_ratio_on, repriced}
use Rattle.link_bounds.proofs.RepricedHolds.{failures_kept, repriced_holds}
use Rattle.link_bounds.proofs.RepricedValid.{repriced_valid}
use Rattle.command_frame.specs.Files.{told_files}
use Rattle.command_frame.specs.Reading.{Means}
use Rattle.command_frame.specs.Sound.{IsSound}
use Rattle.command_frame.specs.Table.{IsSoundEntry}
use Rattle.command_files.specs.declared.reasons.CapacityReason.{CapacityReason}
use Rattle.command_files.specs.declared.reasons.CapacityReason.TheVariants.{OtherLinks, GreatRatio}
use Rattle.command_files.specs.CapacityFile.{capacity_reason, priced_network, priced_topology}
use Rattle.command_files.specs.Check.{IsAnsweredYes, no_line, yes_line, check_entry, check_network_entry}
use Rattle.command_files.specs.InputFile.{in_words}
use Rattle.certificate_commands.specs.Reprice.{IsRepricedProof, IsRepricing, reprice_entry, repricing_of}
use Rattle.command_files.specs.TopologyFile.{topology_reason}
use Rattle.certificate_commands.proofs.Bounding.{infeasible_none, infeasible_once}
use Rattle.command_files.proofs.Regular.{certificates_regular, inputs_regular}

-- what passes both tests
pub record IsPriced (c : Certificate) (net : Network) : Type 0 where
  pub same : has_same_links c.head.network net ≡ true
  pub small : has_ratio_on c net ≡ true

priced : (c : Certificate) (net out : Network) → priced_network c net ≡ Ok out → (net ≡ out) × IsPriced c net
priced c net out is = by (has_same_links c.head.network net) (has_ratio_on c net) refl refl is
  where
    by : (same small : Bool) → has_same_links c.head.network net ≡ same → has_ratio_on c net ≡ small →
        cond (not same) (Err OtherLinks) (cond small (Ok net) (Err GreatRatio)) ≡ Ok out → (net ≡ out) × IsPriced c net
    by true true s r e = (cc, record { same = s; small = r })
    by true false s r e = absurd cc
    by false small s r e = absurd cc

-- a topology that gives a network for the certificate is a topology of that network, on which the certificate can be repriced
pub record GivesNetwork (c : Certificate) (bytes : List ℕ) (net : Network) : Type 0 where
  pub topology : topology_of bytes ≡ Ok net
  pub can : CanReprice c net

pub gives_network : (c : Certificate) (bytes : List ℕ) (net : Network) → in_words capacity_reason (priced_topology c (topology_of bytes)) ≡ Ok net →
    GivesNetwork c bytes net
gives_network c bytes net is = by (topology_of bytes) refl is
  where
    unworded : (r : Result Network CapacityReason) → in_words capacity_reason r ≡ Ok net → r ≡ Ok net
    unworded (Ok value) e = let same : value ≡ net = cc in ap Ok same
    unworded (Err fault) e = absurd cc

    by : (r : Result Network TopologyFault) → topology_of bytes ≡ r → in_words capacity_reason (priced_topology c r) ≡ Ok net → GivesNetwork c bytes net
    by (Ok read) made e =
        let both = priced c read net (unworded (priced_network c read) e) in
        let topology : topology_of bytes ≡ Ok net = made ∙ ap Ok both.0 in
        let is_priced = subst (IsPriced c) both.0 both.1 in
        record {
          topology = topology;
          can = record { formed = (topologies_are_formed bytes net topology).0; same = (same_links_decided c.head.network net).0 is_priced.same; small = is_priced.small };
        }
    by (Err fault) made e = absurd cc

-- one answer
answer_once : (c : Certificate) (net : Network) (s t : ℕ) (a b : List ℕ) → IsRepricing c net s a → IsRepricing c net t b → (s ≡ t) × (a ≡ b)
answer_once c net s t a b (inl x) (inl y) = (x.0 ∙ sym y.0, x.2 ∙ sym y.2)
answer_once c net s t a b (inl x) (inr y) = absurd (infeasible_none c b x.1 y.1)
answer_once c net s t a b (inr x) (inl y) = absurd (infeasible_none c a y.1 x.1)
answer_once c net s t a b (inr x) (inr y) = (x.0 ∙ sym y.0, infeasible_once c a b x.1 y.1)

answer_some : (c : Certificate) (net : Network) → (s : ℕ) × (text : List ℕ) × IsRepricing c net s text
answer_some c net = go (first_infeasibility c) refl
  where
    go : (o : Option LinkFailure) → first_infeasibility c ≡ o → (s : ℕ) × (text : List ℕ) × IsRepricing c net s text
    go None is = (0, text_of (repriced c net), inl (refl, is, refl))
    go (Some f) is = (1, no_line f.link f.rule f.place, inr (refl, record { failure = f; fails = is; line_is = refl }))

-- the file proves its ratio
file_proves : (bytes : List ℕ) (c : Certificate) (net : Network) (text : List ℕ) → Spells bytes c → CanReprice c net → first_infeasibility c ≡ None →
    text ≡ text_of (repriced c net) → IsRepricedProof c net text
file_proves bytes c net text spells can none is =
    let valid = repriced_valid c net spells.0 can in
    let holds = repriced_holds c net spells.0 can ((feasible_or_fails c).0 none) in
    record { spelled = (valid, is); proof = record { holds = holds; ratio = holds_is_oblivious (repriced c net) valid holds } }

answer_proves : (bytes : List ℕ) (c : Certificate) (net : Network) (text : List ℕ) → Spells bytes c → CanReprice c net → IsRepricing c net 0 text →
    IsRepricedProof c net text
answer_proves bytes c net text spells can (inl x) = file_proves bytes c net text spells can x.1 x.2
answer_proves bytes c net text spells can (inr x) = absurd (omega (arith, x.0))

-- so `check` says yes
answered : (bytes : List ℕ) (c : Certificate) (net : Network) (text : List ℕ) → Spells bytes c → CanReprice c net → first_infeasibility c ≡ None →
    text ≡ text_of (repriced c net) → IsAnsweredYes text
answered bytes c net text spells can none is =
    let made = file_proves bytes c net text spells can none is in
    let fits = fits_file text (repriced c net) made.spelled in
    record {
      fits = fits;
      certificate = repriced c net;
      spelled = made.spelled;
      proof = made.proof;
      answer = λ file. inr (
        repriced c net,
        [],
        (text, refl, fits, made.spelled),
        (inl (refl, record { holds = failures_kept c net spells.0 can ∙ none; line_is = refl }), tt),
      );
    }

answer_form : (bytes : List ℕ) (c : Certificate) (net : Network) (s : ℕ) (text : List ℕ) → Spells bytes c → CanReprice c net → IsRepricing c net s text →
    ((s ≡ 0) × IsAnsweredYes text) ⊎ (s ≡ 1)
answer_form bytes c net s text spells can (inl x) = inl (x.0, answered bytes c net text spells can x.1 x.2)
answer_form bytes c net s text spells can (inr x) = inr x.0

answer_three : (c : Certificate) (net : Network) (text : List ℕ) → IsRepricing c net 3 text → ⊥
answer_three c net text (inl x) = omega (arith, x.0)
answer_three c net text (inr x) = omega (arith, x.0)

repricing_sound : (bytes : List ℕ) (c : Certificate) (net : Network) → Spells bytes c → CanReprice c net →
    IsSound (λ s text. ((s ≡ 0) × IsAnsweredYes text) ⊎ (s ≡ 1)) (repricing_of c net)
repricing_sound bytes c net spells can = record {
  once = λ s t p q. (answer_once c net s t p.0 q.0 p.1 q.1).0;
  some = let is = answer_some c net in (is.0, (is.1, is.2));
  of_text = λ s text is. (text, is);
  proves = λ text is. answer_proves bytes c net text spells can is;
  form = λ s text is. answer_form bytes c net s text spells can is;
  accepted = λ text is. answer_three c net text is;
}

pub reprice_is_sound : (file topology : List ℕ) → IsSoundEntry (reprice_entry file topology)
reprice_is_sound file topology = record {
  regular = (certificates_regular, λ c. (inputs_regular capacity_reason (λ bytes. priced_topology c (topology_of bytes)), λ net. tt));
  sound = λ bytes c spells rows net makes. repricing_sound bytes c net spells (gives_network c rows net makes).can;
  one_text = λ is bytes c spells rows net makes s t x y p q. (answer_once c net s t x y p q).1;
  some_text = λ is bytes c spells rows net makes. answer_some c net;
}

-- What `reprice` wrote of told files is answered yes, alone and of the topology.
pub yes_alone : (content : List ℕ → Option (List ℕ)) (file topology made text : List ℕ) → content made ≡ Some text →
    Means (reprice_entry file topology).reading (told_files content) 0 text → (line : List ℕ) × Means (check_entry made).reading (told_files content) 0 line
yes_alone content file topology made text at (inl (three, now, refused, ended)) = absurd (omega (arith, three))
yes_alone content file topology made text at (inr (c, now, gave, inl (three, then, refused, ended))) = absurd (omega (arith, three))
yes_alone content file topology made text at (inr (c, now, (bytes, told_as, few, spells), inr (net, then, (rows, told_rows, short, makes), (inr x, ended)))) =
    absurd (omega (arith, x.0))
yes_alone content file topology made text at (inr (c, now, (bytes, told_as, few, spells), inr (net, then, (rows, told_rows, short, makes), (inl x, ended)))) =
    let is = answered bytes c net text spells (gives_network c rows net makes).can x.1 x.2 in
    let can = (gives_network c rows net makes).can in (
      yes_line (repriced c net).head.ratio c.head.set,
      inr (
        repriced c net,
        [],
        (text, at, is.fits, (file_proves bytes c net text spells can x.1 x.2).spelled),
        (inl (refl, record { holds = failures_kept c net spells.0 can ∙ x.1; line_is = refl }), tt),
      ),
    )

pub yes_of_topology : (content : List ℕ → Option (List ℕ)) (file topology made text : List ℕ) → content made ≡ Some text →
    Means (reprice_entry file topology).reading (told_files content) 0 text →
    (line : List ℕ) × Means (check_network_entry made topology).reading (told_files content) 0 line
yes_of_topology content file topology made text at (inl (three, now, refused, ended)) = absurd (omega (arith, three))
yes_of_topology content file topology made text at (inr (c, now, gave, inl (three, then, refused, ended))) = absurd (omega (arith, three))
yes_of_topology content file topology made text at (inr (c, now, (bytes, told_as, few, spells), inr (net, then, (rows, told_rows, short, makes), (inr x, ended)))) =
    absurd (omega (arith, x.0))
yes_of_topology content file topology made text at (inr (c, now, (bytes, told_as, few, spells), inr (net, then, (rows, told_rows, short, makes), (inl x, ended)))) =
    let given = gives_network c rows net makes in
    let spelled = (file_proves bytes c net text spells given.can x.1 x.2).spelled in (
      yes_line (repriced c net).head.ratio c.head.set,
      inr (
        repriced c net,
        [],
        (text, at, fits_file text (repriced c net) spelled, spelled),
        inr (
          net,
          [],
          (rows, told_rows, short, ap (in_words topology_reason) given.topology),
          (inl (refl, inl (refl, record { holds = failures_kept c net spells.0 given.can ∙ x.1; line_is = refl })), tt),
        ),
      ),
    )
