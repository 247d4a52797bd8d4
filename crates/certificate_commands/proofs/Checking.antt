-- What `check` answers of a certificate, alone and of a network: one text, and a yes is a proof.
use Rattle.std.proofs.Common.{◌≡◌, ◌≤◌, ◌⊎◌, ℕ, List, Option, Some, None, inl, inr, refl, sym, ap, ◌∙◌, arith}
use Rattle.te_model.specs.declared.certificate.Certificate.{Certificate}
use Rattle.te_model.specs.declared.network.Network.{Network}
use Rattle.te_model.specs.Inequalities.{LinkFailure, first_failure}
use Rattle.te_model.specs.Text.{Spells}
use Rattle.te_model.proofs.SameNetworks.{same_or_not}
use Rattle.te_model.proofs.Failures.{holds_from_none}
use Rattle.te_model.proofs.Oblivious.{holds_is_oblivious}
use Rattle.topology.specs.Topology.{topology_of}
use Rattle.update_plan.specs.Answer.{no_network_line}
use Rattle.command_frame.specs.Sound.{IsSound}
use Rattle.command_frame.specs.Table.{IsSoundEntry}
use Rattle.command_files.specs.TopologyFile.{topology_reason}
use Rattle.command_files.specs.Check.{IsVerdict, IsNetworkVerdict, IsProof, yes_line, no_line, verdict_on, network_verdict_on, check_entry, check_network_entry}
use Rattle.command_files.proofs.Regular.{certificates_regular, inputs_regular}

pub failure_once : (o : Option LinkFailure) (f g : LinkFailure) → o ≡ Some f → o ≡ Some g → f ≡ g
failure_once o f g ef eg = cc

pub no_failure : (o : Option LinkFailure) (f : LinkFailure) → o ≡ None → o ≡ Some f → ⊥
no_failure o f none some = cc

-- a certificate has one answer
verdict_once : (c : Certificate) (s t : ℕ) (a b : List ℕ) → IsVerdict c s a → IsVerdict c t b → (s ≡ t) × (a ≡ b)
verdict_once c s t a b (inl x) (inl y) = (x.0 ∙ sym y.0, x.1.line_is ∙ sym y.1.line_is)
verdict_once c s t a b (inl x) (inr y) = absurd (no_failure (first_failure c) y.1.failure x.1.holds y.1.fails)
verdict_once c s t a b (inr x) (inl y) = absurd (no_failure (first_failure c) x.1.failure y.1.holds x.1.fails)
verdict_once c s t a b (inr x) (inr y) =
    (x.0 ∙ sym y.0, x.1.line_is ∙ ap (λ f. no_line f.link f.rule f.place) (failure_once (first_failure c) x.1.failure y.1.failure x.1.fails y.1.fails) ∙ sym y.1.line_is)

-- and one of a network
network_verdict_once : (c : Certificate) (n : Network) (s t : ℕ) (a b : List ℕ) → IsNetworkVerdict c n s a → IsNetworkVerdict c n t b → (s ≡ t) × (a ≡ b)
network_verdict_once c n s t a b (inl x) (inl y) = verdict_once c s t a b x.1 y.1
network_verdict_once c n s t a b (inl x) (inr y) = absurd (y.0 x.0)
network_verdict_once c n s t a b (inr x) (inl y) = absurd (x.0 y.0)
network_verdict_once c n s t a b (inr x) (inr y) = (x.1 ∙ sym y.1, x.2 ∙ sym y.2)

-- there is one
verdict_some : (c : Certificate) → (s : ℕ) × (text : List ℕ) × IsVerdict c s text
verdict_some c = go (first_failure c) refl
  where
    go : (o : Option LinkFailure) → first_failure c ≡ o → (s : ℕ) × (text : List ℕ) × IsVerdict c s text
    go None is = (0, yes_line c.head.ratio c.head.set, inl (refl, record { holds = is; line_is = refl }))
    go (Some f) is = (1, no_line f.link f.rule f.place, inr (refl, record { failure = f; fails = is; line_is = refl }))

network_verdict_some : (c : Certificate) (n : Network) → (s : ℕ) × (text : List ℕ) × IsNetworkVerdict c n s text
network_verdict_some c n = go (same_or_not c.head.network n) (verdict_some c)
  where
    go : (c.head.network ≡ n) ⊎ ¬ (c.head.network ≡ n) → (s : ℕ) × (text : List ℕ) × IsVerdict c s text → (s : ℕ) × (text : List ℕ) × IsNetworkVerdict c n s text
    go (inl same) verdict = (verdict.0, verdict.1, inl (same, verdict.2))
    go (inr differs) verdict = (1, no_network_line, inr (differs, refl, refl))

-- a yes is a proof
verdict_proves : (bytes : List ℕ) (c : Certificate) (text : List ℕ) → Spells bytes c → IsVerdict c 0 text → IsProof c
verdict_proves bytes c text spells (inl x) =
    let holds = holds_from_none c x.1.holds in
    record { holds = holds; ratio = holds_is_oblivious c spells.0 holds }
verdict_proves bytes c text spells (inr x) = absurd (omega (arith, x.0))

network_verdict_proves : (bytes : List ℕ) (c : Certificate) (n : Network) (text : List ℕ) → Spells bytes c → IsNetworkVerdict c n 0 text →
    (c.head.network ≡ n) × IsProof c
network_verdict_proves bytes c n text spells (inl x) = (x.0, verdict_proves bytes c text spells x.1)
network_verdict_proves bytes c n text spells (inr x) = absurd (omega (arith, x.1))

verdict_small : (c : Certificate) (s : ℕ) (text : List ℕ) → IsVerdict c s text → s ≤ 1
verdict_small c s text (inl x) = omega (arith, x.0)
verdict_small c s text (inr x) = omega (arith, x.0)

network_verdict_small : (c : Certificate) (n : Network) (s : ℕ) (text : List ℕ) → IsNetworkVerdict c n s text → s ≤ 1
network_verdict_small c n s text (inl x) = verdict_small c s text x.1
network_verdict_small c n s text (inr x) = omega (arith, x.1)

verdict_sound : (bytes : List ℕ) (c : Certificate) → Spells bytes c → IsSound (λ s text. s ≤ 1) (verdict_on c)
verdict_sound bytes c spells = record {
  once = λ s t p q. (verdict_once c s t p.0 q.0 p.1 q.1).0;
  some = let is = verdict_some c in (is.0, (is.1, is.2));
  of_text = λ s text is. (text, is);
  proves = λ text is. verdict_proves bytes c text spells is;
  form = λ s text is. verdict_small c s text is;
  accepted = λ text is. let small = verdict_small c 3 text is in omega arith;
}

network_verdict_sound : (bytes : List ℕ) (c : Certificate) (n : Network) → Spells bytes c → IsSound (λ s text. s ≤ 1) (network_verdict_on c n)
network_verdict_sound bytes c n spells = record {
  once = λ s t p q. (network_verdict_once c n s t p.0 q.0 p.1 q.1).0;
  some = let is = network_verdict_some c n in (is.0, (is.1, is.2));
  of_text = λ s text is. (text, is);
  proves = λ text is. network_verdict_proves bytes c n text spells is;
  form = λ s text is. network_verdict_small c n s text is;
  accepted = λ text is. let small = network_verdict_small c n 3 text is in omega arith;
}

pub check_is_sound : (file : List ℕ) → IsSoundEntry (check_entry file)
check_is_sound file = record {
  regular = (certificates_regular, λ c. tt);
  sound = λ bytes c spells. verdict_sound bytes c spells;
  one_text = λ is bytes c spells s t x y p q. (verdict_once c s t x y p q).1;
  some_text = λ is bytes c spells. verdict_some c;
}

pub check_network_is_sound : (file topology : List ℕ) → IsSoundEntry (check_network_entry file topology)
check_network_is_sound file topology = record {
  regular = (certificates_regular, λ c. (inputs_regular topology_reason topology_of, λ n. tt));
  sound = λ bytes c spells rows n makes. network_verdict_sound bytes c n spells;
  one_text = λ is bytes c spells rows n makes s t x y p q. (network_verdict_once c n s t x y p q).1;
  some_text = λ is bytes c spells rows n makes. network_verdict_some c n;
}
