-- What is found of a certificate: the table of the needs of its links, or which of the first three inequalities fails first.
use Rattle.std.specs.Prelude.{◌≡◌, Some, None}
use Rattle.te_model.specs.declared.certificate.Certificate.{Certificate}
use Rattle.te_model.specs.Feasible.{first_infeasibility}
use Rattle.link_bounds.specs.Table.{bounds_text}
use Rattle.link_bounds.specs.declared.bounds.Bounds.{Bounds}
use Rattle.link_bounds.specs.declared.bounds.Bounds.TheVariants.{Table, Infeasible}

-- a table is that of a certificate of which I1 to I3 hold, and else the first of them that fails is named
abbrev pub AreBoundsOf : Certificate → Bounds → Type 0
AreBoundsOf certificate (Table text) = (first_infeasibility certificate ≡ None) × (text.items ≡ bounds_text certificate)
AreBoundsOf certificate (Infeasible link rule place) =
    first_infeasibility certificate ≡ Some (record { link = link; rule = rule; place = place })
