-- What a plan says: one JSON object (RFC 8259) with known keys.
use Rattle.std.specs.Prelude.{ℕ, ◌^◌, ◌-◌, ◌≤◌, ◌≡◌, ◌≢◌, List, [], ◌∷◌, length, Bool, true, false, ◌&&◌, Option, Some, None, IfSome, Result, Ok, Err, ◌==◌, if◌then◌else◌}
use Rattle.std.specs.Str.Lossy.{utf8_valid_len}
use Rattle.serde_json.specs.Data.{Data, Members, no_members, member}
use Rattle.serde_json.specs.Find.{get, as_object}
use Rattle.serde_json.specs.Read.{read}
use Rattle.plan.specs.declared.experiment.Experiment.{Experiment}
use Rattle.plan.specs.declared.scheme_name.SchemeName.{SchemeName}
use Rattle.plan.specs.declared.scheme_name.SchemeName.TheVariants as scheme
use Rattle.plan.specs.declared.recovery.Recovery.TheVariants as recovery
use Rattle.plan.specs.declared.key.Key.{Key}
use Rattle.plan.specs.declared.key.Key.TheVariants as key
use Rattle.plan.specs.declared.fault.PlanFault.{PlanFault}
use Rattle.plan.specs.declared.fault.PlanFault.TheVariants as fault
use Rattle.plan.specs.declared.reader.Files.{Files}
use Rattle.plan.specs.declared.reader.Choices.{Choices}
use Rattle.plan.specs.declared.reader.Counts.{Counts}
use Rattle.plan.specs.Words.{key_word, is_key, is_oblivious}
use Rattle.plan.specs.Values.{given_or, text_value, number_within, margin_of, envelope_value, recovery_of, publish_of, schemes_of}

abbrev pub with_value : {A B : Type 0} → Result A PlanFault → (A → Result B PlanFault) → Result B PlanFault
with_value (Ok x) next = next x
with_value (Err e) next = Err e

-- the value of a file, which is none where the bytes are no UTF-8 or no JSON
abbrev pub json_of : List ℕ → Option Data
json_of bytes = if utf8_valid_len bytes == length bytes then read bytes else None

abbrev pub knows_all : Members → Bool
knows_all no_members = true
knows_all (member k d ms) = is_key k && knows_all ms

-- the value of a key that must be there
abbrev pub required_value : Key → Data → Result Data PlanFault
required_value k d = given_or (fault.Missing k) Ok (get (key_word k) d)

-- what the value of a key says, or what stands where there is none
abbrev pub optional : {A : Type 0} → A → (Data → Result A PlanFault) → Option Data → Result A PlanFault
optional default reading None = Ok default
optional default reading (Some d) = reading d

abbrev pub some_of : {A : Type 0} → Result A PlanFault → Result (Option A) PlanFault
some_of (Ok x) = Ok (Some x)
some_of (Err e) = Err e

-- the name of a file that may be left out
abbrev pub optional_name : Key → Data → Result (Option (List ℕ)) PlanFault
optional_name k d = optional None (λ v. some_of (text_value k v)) (get (key_word k) d)

unfoldable pub files_of : Data → Data → Data → Result Files PlanFault
files_of topology matrices d =
    with_value (text_value key.Topology topology) (λ t.
    with_value (text_value key.Matrices matrices) (λ m.
    with_value (optional_name key.Failures d) (λ f.
    with_value (optional_name key.Predictions d) (λ p.
    Ok (record { topology = t; matrices = m; failures = f; predictions = p })))))

-- what a plan without a list of schemes compares
abbrev pub default_schemes : List SchemeName
default_schemes = scheme.Spf ∷ scheme.Ecmp ∷ scheme.Ksp ∷ scheme.Mcf ∷ scheme.Racke ∷ scheme.Smore ∷ []

unfoldable pub choices_of : Data → Result Choices PlanFault
choices_of d =
    with_value (optional default_schemes schemes_of (get (key_word key.Schemes) d)) (λ s.
    with_value (optional recovery.Keep recovery_of (get (key_word key.Recovery) d)) (λ r.
    with_value (optional scheme.Racke publish_of (get (key_word key.Publish) d)) (λ p.
    with_value (optional None (λ v. some_of (margin_of v)) (get (key_word key.Margin) d)) (λ m.
    Ok (record { schemes = s; recovery = r; publish = p; margin = m })))))

-- a number with a default
abbrev pub count_of_key : Key → ℕ → ℕ → ℕ → Data → Result ℕ PlanFault
count_of_key k default low high d = optional default (number_within k low high) (get (key_word k) d)

unfoldable pub numbers_of : Data → Result Counts PlanFault
numbers_of d =
    with_value (count_of_key key.K 4 1 32 d) (λ k.
    with_value (count_of_key key.Budget 4 1 32 d) (λ b.
    with_value (count_of_key key.Trees 8 1 16 d) (λ t.
    with_value (count_of_key key.Seed 0 0 (2 ^ 64 - 1) d) (λ s.
    with_value (count_of_key key.Seeds 1 1 64 d) (λ m.
    Ok (record { k = k; budget = b; trees = t; seed = s; seeds = m }))))))

-- whether the published set is the envelope of the matrices, beside this margin
abbrev pub envelope_at : Option (ℕ × ℕ) → Data → Result Bool PlanFault
envelope_at margin d = optional false (envelope_value margin) (get (key_word key.Envelope) d)

abbrev pub experiment_of : Files → Choices → Counts → Bool → Experiment
experiment_of f c n e = record {
  topology = f.topology;
  matrices = f.matrices;
  failures = f.failures;
  predictions = f.predictions;
  schemes = c.schemes;
  recovery = c.recovery;
  publish = c.publish;
  margin = c.margin;
  k = n.k;
  budget = n.budget;
  trees = n.trees;
  seed = n.seed;
  seeds = n.seeds;
  envelope = e;
}

-- what an object with known keys says
unfoldable pub plan_of_object : Data → Result Experiment PlanFault
plan_of_object d =
    with_value (required_value key.Topology d) (λ topology.
    with_value (required_value key.Matrices d) (λ matrices.
    with_value (files_of topology matrices d) (λ f.
    with_value (choices_of d) (λ c.
    with_value (numbers_of d) (λ n.
    with_value (envelope_at c.margin d) (λ e.
    Ok (experiment_of f c n e)))))))

abbrev pub plan_of_known_keys : Data → Members → Result Experiment PlanFault
plan_of_known_keys d ms = if knows_all ms then plan_of_object d else Err fault.UnknownKey

abbrev pub plan_of_value : Data → Result Experiment PlanFault
plan_of_value d = given_or (fault.Kind key.Plan) (plan_of_known_keys d) (as_object d)

-- what the bytes of a plan file say, or the first fault
abbrev pub plan_of : List ℕ → Result Experiment PlanFault
plan_of bytes = given_or fault.NotJson plan_of_value (json_of bytes)

-- file names that are not empty, 1 to 16 schemes, a published scheme that is oblivious, numbers in their ranges, and no envelope beside
-- a margin
pub record InRange (x : Experiment) : Type 0 where
  pub topology : x.topology ≢ []
  pub matrices : x.matrices ≢ []
  pub failures : IfSome x.failures (λ name. name ≢ [])
  pub predictions : IfSome x.predictions (λ name. name ≢ [])
  pub some_scheme : 1 ≤ length x.schemes
  pub few_schemes : length x.schemes ≤ 16
  pub publish : is_oblivious x.publish ≡ true
  pub margin : IfSome x.margin (λ m. (1 ≤ m.1) × (m.1 ≤ m.0) × (m.0 ≤ 1000))
  pub k_low : 1 ≤ x.k
  pub k_high : x.k ≤ 32
  pub budget_low : 1 ≤ x.budget
  pub budget_high : x.budget ≤ 32
  pub trees_low : 1 ≤ x.trees
  pub trees_high : x.trees ≤ 16
  pub seeds_low : 1 ≤ x.seeds
  pub seeds_high : x.seeds ≤ 64
  pub envelope : x.envelope ≡ true → x.margin ≡ None
