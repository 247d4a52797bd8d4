-- The clauses of `run` for the words of the arguments.
use Rattle.std.proofs.Common.{◌≡◌, ◌⊎◌, ℕ, List, [], map, drop, inl, subst, string_bytes, Result, IfOk, IfErr}
use Rattle.std.proofs.lemmas.Result.{IfOk-weaker, IfErr-weaker}
use Rattle.std.specs.declared.string.String.{String}
use Rattle.std.specs.declared.alloc.Global.{Global}
use Rattle.te_ports.specs.Shown.{Shown}
use Rattle.command_frame.specs.Table.{TableOf}
use Rattle.command_frame.specs.Run.{Change}
use Rattle.command_frame.specs.Clauses.{RunOf, HasNoMemoryForWords}

abbrev Strings : Type 0
Strings = List (String Global)

run_of_equal : {Command : Type 0} (table : TableOf Command) (given words : Strings) (old new : Shown) (result : ℕ) (out err : Change) → given ≡ words →
    RunOf table (map string_bytes given) old new result out err → RunOf table (map string_bytes words) old new result out err
run_of_equal table given words old new result out err same runs = subst (λ (strings : Strings). RunOf table (map string_bytes strings) old new result out err) same runs

-- the words are those after the first argument
pub run_of_given : {A E Command : Type 0} (table : TableOf Command) (args : Result A E) (strings : A → Strings) (words : Strings) (old new : Shown) (result : ℕ) (out err : Change) →
    IfOk args (λ given. words ≡ drop 1 (strings given)) → RunOf table (map string_bytes words) old new result out err →
    IfOk args (λ given. RunOf table (map string_bytes (drop 1 (strings given))) old new result out err ⊎ HasNoMemoryForWords old new result out err)
run_of_given table args strings words old new result out err are runs =
    IfOk-weaker args _ _ (λ given same. inl (run_of_equal table words (drop 1 (strings given)) old new result out err same runs)) are

-- there are none, where the arguments are no text
pub run_of_none : {A E Command : Type 0} (table : TableOf Command) (args : Result A E) (P : E → Type 0) (words : Strings) (old new : Shown) (result : ℕ) (out err : Change) →
    IfErr args (λ fault. P fault → words ≡ []) → RunOf table (map string_bytes words) old new result out err →
    IfErr args (λ fault. P fault → RunOf table [] old new result out err)
run_of_none table args P words old new result out err are runs =
    IfErr-weaker args _ _ (λ fault none is. run_of_equal table words [] old new result out err (none is) runs) are
