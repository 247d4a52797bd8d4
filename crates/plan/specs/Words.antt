-- The words of a plan.
use Rattle.std.specs.Prelude.{ℕ, List, Bool, true, false, ◌||◌, Option, Some, None, codes, if◌then◌else◌}
use Rattle.std.specs.Str.{bytes_eq}
use Rattle.plan.specs.declared.scheme_name.SchemeName.{SchemeName}
use Rattle.plan.specs.declared.scheme_name.SchemeName.TheVariants as scheme
use Rattle.plan.specs.declared.recovery.Recovery.{Recovery}
use Rattle.plan.specs.declared.recovery.Recovery.TheVariants as recovery
use Rattle.plan.specs.declared.key.Key.{Key}
use Rattle.plan.specs.declared.key.Key.TheVariants as key

-- a scheme as a plan names it
abbrev pub scheme_word : SchemeName → List ℕ
scheme_word scheme.Spf = codes "spf"
scheme_word scheme.Ecmp = codes "ecmp"
scheme_word scheme.Ksp = codes "ksp"
scheme_word scheme.Mcf = codes "mcf"
scheme_word scheme.Racke = codes "racke"
scheme_word scheme.Smore = codes "smore"
scheme_word scheme.Valiant = codes "valiant"
scheme_word scheme.Robust = codes "robust"

-- the scheme that is named so
abbrev pub scheme_named : List ℕ → Option SchemeName
scheme_named text =
    if bytes_eq text (scheme_word scheme.Spf) then Some scheme.Spf
    else if bytes_eq text (scheme_word scheme.Ecmp) then Some scheme.Ecmp
    else if bytes_eq text (scheme_word scheme.Ksp) then Some scheme.Ksp
    else if bytes_eq text (scheme_word scheme.Mcf) then Some scheme.Mcf
    else if bytes_eq text (scheme_word scheme.Racke) then Some scheme.Racke
    else if bytes_eq text (scheme_word scheme.Smore) then Some scheme.Smore
    else if bytes_eq text (scheme_word scheme.Valiant) then Some scheme.Valiant
    else if bytes_eq text (scheme_word scheme.Robust) then Some scheme.Robust
    else None

-- the schemes that draw from the seed
abbrev pub draws : SchemeName → Bool
draws scheme.Spf = false
draws scheme.Ecmp = false
draws scheme.Ksp = false
draws scheme.Mcf = false
draws scheme.Racke = true
draws scheme.Smore = true
draws scheme.Valiant = false
draws scheme.Robust = false

-- the schemes whose routing is the same for every matrix
abbrev pub is_oblivious : SchemeName → Bool
is_oblivious scheme.Spf = true
is_oblivious scheme.Ecmp = true
is_oblivious scheme.Ksp = true
is_oblivious scheme.Mcf = false
is_oblivious scheme.Racke = true
is_oblivious scheme.Smore = false
is_oblivious scheme.Valiant = true
is_oblivious scheme.Robust = true

-- the recovery of a word
abbrev pub recovery_named : List ℕ → Option Recovery
recovery_named text =
    if bytes_eq text (codes "none") then Some recovery.Keep
    else if bytes_eq text (codes "scale") then Some recovery.Scale
    else if bytes_eq text (codes "bypass") then Some recovery.Bypass
    else if bytes_eq text (codes "reroute") then Some recovery.Reroute
    else if bytes_eq text (codes "adapt") then Some recovery.Adapt
    else None

-- a key as it stands in a plan
abbrev pub key_word : Key → List ℕ
key_word key.Plan = codes "plan"
key_word key.Topology = codes "topology"
key_word key.Matrices = codes "matrices"
key_word key.Failures = codes "failures"
key_word key.Predictions = codes "predictions"
key_word key.Schemes = codes "schemes"
key_word key.Recovery = codes "recovery"
key_word key.Publish = codes "publish"
key_word key.Margin = codes "margin"
key_word key.K = codes "k"
key_word key.Budget = codes "budget"
key_word key.Trees = codes "trees"
key_word key.Seed = codes "seed"
key_word key.Seeds = codes "seeds"
key_word key.Envelope = codes "envelope"

-- a key of names: of files, of schemes or of a recovery
abbrev pub is_name_key : List ℕ → Bool
is_name_key text =
    bytes_eq text (codes "topology") || bytes_eq text (codes "matrices") || bytes_eq text (codes "failures")
    || bytes_eq text (codes "predictions")
    || bytes_eq text (codes "schemes") || bytes_eq text (codes "recovery") || bytes_eq text (codes "publish")

-- a key of a count, or of the set of matrices that is certified
abbrev pub is_count_or_set_key : List ℕ → Bool
is_count_or_set_key text =
    bytes_eq text (codes "margin") || bytes_eq text (codes "k") || bytes_eq text (codes "budget")
    || bytes_eq text (codes "trees") || bytes_eq text (codes "seed") || bytes_eq text (codes "seeds") || bytes_eq text (codes "envelope")

-- a key that a plan may have
abbrev pub is_key : List ℕ → Bool
is_key text = is_name_key text || is_count_or_set_key text
