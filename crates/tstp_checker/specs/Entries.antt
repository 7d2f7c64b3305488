-- Annotated formulas that are lent.
use Rattle.std.specs.Prelude.{Bool}
use Rattle.tptp_tree.specs.Shape.{formula_of}
use Rattle.tptp_tree.specs.Entries.{AnnotatedTree}
use Rattle.clausal_form.specs.DerivationLine.{same_entry}
use Rattle.tstp_checker.specs.declared.entries.Entry.{Entry}

abbrev pub entry_meant : Entry → AnnotatedTree
entry_meant e = record { name = (e.name).now; role = e.role; is_clause = e.clause; formula = formula_of (e.formula).now }

abbrev pub same_meant : Entry → Entry → Bool
same_meant a b = same_entry (entry_meant a) (entry_meant b)
