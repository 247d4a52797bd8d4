-- What calls that read do to a depot, one after another.
use Rattle.std.proofs.Common.{◌≡◌, ◌≢◌, ◌≤◌, ◌∙◌, ℕ, List, Result, Ok, Err, refl, ap, subst, arith}
use Rattle.te_ports.specs.Ports.{Rose}
use Rattle.te_ports.proofs.Giving.{adds_none, adds_then}
use Rattle.block_reader.specs.declared.stream_fault.StreamFault.{StreamFault}
use Rattle.block_reader.specs.declared.stream_fault.StreamFault.TheVariants.{Failed, Memory}
use Rattle.te_ports.specs.Shown.{Shown}
use Rattle.block_reader.specs.Depots.{ReadsNamed}

pub reads_then : {A B : Type 0} (d0 d1 d2 : Shown) (name : List ℕ) (x : A) (r : Result B StreamFault) → ReadsNamed d0 d1 name (Ok x) → ReadsNamed d1 d2 name r → ReadsNamed d0 d2 name r
reads_then d0 d1 d2 name x r first next =
    let same : d1.faults ≡ d0.faults = first.steady (λ e. cc) in record {
      failed = λ e. subst (λ f. Rose (f name) (d2.faults name)) same (next.failed e);
      steady = λ e. next.steady e ∙ same;
      later = λ other. omega (arith, first.later other, next.later other);
      added = adds_then d0.content d1.content d0.gave d1.gave d2.gave first.content first.added next.added;
      content = next.content ∙ first.content;
    }

pub reads_as : {A B : Type 0} (d0 d1 : Shown) (name : List ℕ) (x : A) (y : B) → ReadsNamed d0 d1 name (Ok x) → ReadsNamed d0 d1 name (Ok y)
reads_as d0 d1 name x y r = record {
  failed = λ e. absurd cc;
  steady = λ e. r.steady (λ f. cc);
  later = r.later;
  added = r.added;
  content = r.content;
}

err_along : {A B : Type 0} (f t : StreamFault) → ◌≡◌ {A = Result A StreamFault} (Err f) (Err t) → ◌≡◌ {A = Result B StreamFault} (Err f) (Err t)
err_along f t e = let same : f ≡ t = cc in ap (λ x. Err x) same

pub reads_err : {A B : Type 0} (d0 d1 : Shown) (name : List ℕ) (fault : StreamFault) → ReadsNamed {A = A} d0 d1 name (Err fault) → ReadsNamed {A = B} d0 d1 name (Err fault)
reads_err {A} {B} d0 d1 name fault r = record {
  failed = λ e. r.failed (err_along {A = B} {B = A} fault Failed e);
  steady = λ e. r.steady (λ f. e (err_along {A = A} {B = B} fault Failed f));
  later = r.later;
  added = r.added;
  content = r.content;
}

pub reads_none : {A : Type 0} (d : Shown) (name : List ℕ) (r : Result A StreamFault) → r ≢ Err Failed → ReadsNamed d d name r
reads_none d name r ok = record {
  failed = λ e. absurd (ok e);
  steady = λ e. refl;
  later = λ other. omega arith;
  added = adds_none d.content d.gave d.gave refl;
  content = refl;
}

pub reads_start : (d : Shown) (name : List ℕ) → ReadsNamed {A = Unit {0}} d d name (Ok tt)
reads_start d name = reads_none {A = Unit {0}} d name (Ok tt) (λ e. cc)

-- memory was short, and nothing was read
pub reads_short : {A : Type 0} (d : Shown) (name : List ℕ) (fault : StreamFault) → fault ≡ Memory → ReadsNamed {A = A} d d name (Err fault)
reads_short {A} d name fault is = reads_none {A = A} d name (Err fault) (λ e. cc)

pub ok_sound : {A : Type 0} (x : A) → ◌≢◌ {A = Result A StreamFault} (Ok x) (Err Failed)
ok_sound x e = cc

pub at_most_itself : (a : ℕ) → a ≤ a
at_most_itself a = omega arith
