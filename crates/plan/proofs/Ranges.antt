-- What the bytes of a plan say is in range.
use Rattle.std.proofs.Common.{ℕ, ◌-◌, ◌^◌, ◌≡◌, ◌≢◌, refl, subst, List, [], Bool, true, false, Option, Some, None, IfSome, IfOk, Result, Ok, Err, arith, if◌then◌else◌}
use Rattle.std.proofs.lemmas.Bool.{false≢true}
use Rattle.serde_json.specs.Data.{Data, Members}
use Rattle.serde_json.specs.Find.{get, as_object}
use Rattle.plan.specs.declared.experiment.Experiment.{Experiment}
use Rattle.plan.specs.declared.scheme_name.SchemeName.TheVariants as scheme
use Rattle.plan.specs.declared.recovery.Recovery.TheVariants as recovery
use Rattle.plan.specs.declared.key.Key.{Key}
use Rattle.plan.specs.declared.key.Key.TheVariants as key
use Rattle.plan.specs.declared.fault.PlanFault.{PlanFault}
use Rattle.plan.specs.declared.fault.PlanFault.TheVariants as fault
use Rattle.plan.specs.declared.reader.Files.{Files}
use Rattle.plan.specs.declared.reader.Choices.{Choices}
use Rattle.plan.specs.declared.reader.Counts.{Counts}
use Rattle.plan.specs.Words.{key_word, is_oblivious}
use Rattle.plan.specs.Values.{text_value, number_within, margin_of, envelope_value, recovery_of, publish_of, schemes_of}
use Rattle.plan.specs.Plan.{with_value, json_of, knows_all, required_value, optional, some_of, optional_name, files_of, default_schemes, choices_of, count_of_key, numbers_of, envelope_at, experiment_of, plan_of_object, plan_of_known_keys, plan_of_value, plan_of, InRange}
use Rattle.plan.specs.Laws.{PlansAreInRange}
use Rattle.plan.proofs.ValueRanges.{given, text-range, IsBetween, number-range, IsMargin, margin-range, envelope-range, publish-range, AreFew, schemes-range}

-- what comes after a value
after : {A B : Type 0} (r : Result A PlanFault) (next : A → Result B PlanFault) (P : A → Type 0) (Q : B → Type 0)
    → IfOk r P → ((x : A) → P x → IfOk (next x) Q) → IfOk (with_value r next) Q
after (Ok x) next P Q p f = f x p
after (Err e) next P Q p f = tt

-- what needs nothing of the value before it
after-any : {A B : Type 0} (r : Result A PlanFault) (next : A → Result B PlanFault) (Q : B → Type 0)
    → ((x : A) → IfOk (next x) Q) → IfOk (with_value r next) Q
after-any (Ok x) next Q f = f x
after-any (Err e) next Q f = tt

-- a value, or its default
either : {A : Type 0} (default : A) (reading : Data → Result A PlanFault) (o : Option Data) (P : A → Type 0)
    → P default → ((d : Data) → IfOk (reading d) P) → IfOk (optional default reading o) P
either default reading None P p f = p
either default reading (Some d) P p f = f d

some-range : {A : Type 0} (r : Result A PlanFault) (P : A → Type 0) → IfOk r P → IfOk (some_of r) (λ o. IfSome o P)
some-range (Ok x) P p = p
some-range (Err e) P p = tt

abbrev IsFilled : List ℕ → Type 0
IsFilled text = text ≢ []

record AreFiles (f : Files) : Type 0 where
  topology : IsFilled f.topology
  matrices : IsFilled f.matrices
  failures : IfSome f.failures IsFilled
  predictions : IfSome f.predictions IsFilled

name-range : (k : Key) (d : Data) → IfOk (optional_name k d) (λ o. IfSome o IsFilled)
name-range k d =
    either None (λ v. some_of (text_value k v)) (get (key_word k) d) (λ o. IfSome o IsFilled) tt
    (λ v. some-range (text_value k v) IsFilled (text-range k v))

files-range : (topology matrices d : Data) → IfOk (files_of topology matrices d) AreFiles
unfolding files_of
files-range topology matrices d =
    after (text_value key.Topology topology) _ IsFilled AreFiles (text-range key.Topology topology)
    (λ t filled. after (text_value key.Matrices matrices) _ IsFilled AreFiles (text-range key.Matrices matrices)
    (λ m named. after (optional_name key.Failures d) _ (λ o. IfSome o IsFilled) AreFiles (name-range key.Failures d)
    (λ f some. after (optional_name key.Predictions d) _ (λ o. IfSome o IsFilled) AreFiles (name-range key.Predictions d)
    (λ p also. record { topology = filled; matrices = named; failures = some; predictions = also }))))

record AreChoices (c : Choices) : Type 0 where
  schemes : AreFew c.schemes
  publish : is_oblivious c.publish ≡ true
  margin : IfSome c.margin IsMargin

few-schemes : (d : Data) → IfOk (optional default_schemes schemes_of (get (key_word key.Schemes) d)) AreFew
few-schemes d = either default_schemes schemes_of (get (key_word key.Schemes) d) AreFew (omega arith, omega arith) schemes-range

published : (d : Data) → IfOk (optional scheme.Racke publish_of (get (key_word key.Publish) d)) (λ s. is_oblivious s ≡ true)
published d = either scheme.Racke publish_of (get (key_word key.Publish) d) (λ s. is_oblivious s ≡ true) refl publish-range

margin-there : (d : Data) → IfOk (optional None (λ v. some_of (margin_of v)) (get (key_word key.Margin) d)) (λ o. IfSome o IsMargin)
margin-there d =
    either None (λ v. some_of (margin_of v)) (get (key_word key.Margin) d) (λ o. IfSome o IsMargin) tt
    (λ v. some-range (margin_of v) IsMargin (margin-range v))

choices-range : (d : Data) → IfOk (choices_of d) AreChoices
unfolding choices_of
choices-range d =
    after (optional default_schemes schemes_of (get (key_word key.Schemes) d)) _ AreFew AreChoices (few-schemes d)
    (λ s few. after-any (optional recovery.Keep recovery_of (get (key_word key.Recovery) d)) _ AreChoices
    (λ r. after (optional scheme.Racke publish_of (get (key_word key.Publish) d)) _ (λ s. is_oblivious s ≡ true) AreChoices (published d)
    (λ p oblivious. after (optional None (λ v. some_of (margin_of v)) (get (key_word key.Margin) d)) _ (λ o. IfSome o IsMargin) AreChoices (margin-there d)
    (λ m margin. record { schemes = few; publish = oblivious; margin = margin }))))

record AreCounts (n : Counts) : Type 0 where
  k : IsBetween 1 32 n.k
  budget : IsBetween 1 32 n.budget
  trees : IsBetween 1 16 n.trees
  seeds : IsBetween 1 64 n.seeds

count-range : (k : Key) (default low high : ℕ) (d : Data) → IsBetween low high default → IfOk (count_of_key k default low high d) (IsBetween low high)
count-range k default low high d is =
    either default (number_within k low high) (get (key_word k) d) (IsBetween low high) is (number-range k low high)

counts-range : (d : Data) → IfOk (numbers_of d) AreCounts
unfolding numbers_of
counts-range d =
    after (count_of_key key.K 4 1 32 d) _ (IsBetween 1 32) AreCounts (count-range key.K 4 1 32 d (omega arith, omega arith))
    (λ k paths. after (count_of_key key.Budget 4 1 32 d) _ (IsBetween 1 32) AreCounts (count-range key.Budget 4 1 32 d (omega arith, omega arith))
    (λ b budget. after (count_of_key key.Trees 8 1 16 d) _ (IsBetween 1 16) AreCounts (count-range key.Trees 8 1 16 d (omega arith, omega arith))
    (λ t trees. after-any (count_of_key key.Seed 0 0 (2 ^ 64 - 1) d) _ AreCounts
    (λ s. after (count_of_key key.Seeds 1 1 64 d) _ (IsBetween 1 64) AreCounts (count-range key.Seeds 1 1 64 d (omega arith, omega arith))
    (λ m seeds. record { k = paths; budget = budget; trees = trees; seeds = seeds })))))

envelope-at-range : (margin : Option (ℕ × ℕ)) (d : Data) → IfOk (envelope_at margin d) (λ asked. asked ≡ true → margin ≡ None)
envelope-at-range margin d =
    either false (envelope_value margin) (get (key_word key.Envelope) d) (λ asked. asked ≡ true → margin ≡ None)
    (λ h. absurd (false≢true h)) (envelope-range margin)

parts-range : (f : Files) (c : Choices) (n : Counts) (e : Bool) → AreFiles f → AreChoices c → AreCounts n → (e ≡ true → c.margin ≡ None) → InRange (experiment_of f c n e)
parts-range f c n e files choices counts alone = record {
  topology = files.topology;
  matrices = files.matrices;
  failures = files.failures;
  predictions = files.predictions;
  some_scheme = choices.schemes.0;
  few_schemes = choices.schemes.1;
  publish = choices.publish;
  margin = choices.margin;
  k_low = counts.k.0;
  k_high = counts.k.1;
  budget_low = counts.budget.0;
  budget_high = counts.budget.1;
  trees_low = counts.trees.0;
  trees_high = counts.trees.1;
  seeds_low = counts.seeds.0;
  seeds_high = counts.seeds.1;
  envelope = alone;
}

object-range : (d : Data) → IfOk (plan_of_object d) InRange
unfolding plan_of_object
object-range d =
    after-any (required_value key.Topology d) _ InRange
    (λ topology. after-any (required_value key.Matrices d) _ InRange
    (λ matrices. after (files_of topology matrices d) _ AreFiles InRange (files-range topology matrices d)
    (λ f files. after (choices_of d) _ AreChoices InRange (choices-range d)
    (λ c choices. after (numbers_of d) _ AreCounts InRange (counts-range d)
    (λ n counts. after (envelope_at c.margin d) _ (λ asked. asked ≡ true → c.margin ≡ None) InRange (envelope-at-range c.margin d)
    (λ e alone. parts-range f c n e files choices counts alone))))))

known-range : (d : Data) (ms : Members) → IfOk (plan_of_known_keys d ms) InRange
known-range d ms = go (knows_all ms)
  where
    go : (b : Bool) → IfOk (if b then plan_of_object d else Err fault.UnknownKey) InRange
    go true = object-range d
    go false = tt

plan-range : (bytes : List ℕ) → IfOk (plan_of bytes) InRange
plan-range bytes =
    given fault.NotJson plan_of_value (json_of bytes) InRange
    (λ d. given (fault.Kind key.Plan) (plan_of_known_keys d) (as_object d) InRange (known-range d))

pub plans_are_in_range : PlansAreInRange
plans_are_in_range bytes plan h = subst (λ (r : Result Experiment PlanFault). IfOk r InRange) h (plan-range bytes)
