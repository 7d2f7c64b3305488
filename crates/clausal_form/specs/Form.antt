-- The clausal form that a value of the program stands for.
use Rattle.std.specs.Prelude.{map}
use Rattle.fol_base.specs.Literal.{clause_of}
use Rattle.signature.specs.Form.{ClausalForm}
use Rattle.clausal_form.specs.declared.finished.Clausal.{Clausal}

abbrev pub form_of : Clausal → ClausalForm
form_of c = record { symbols = c.signature; clauses = map clause_of c.clauses; origins = c.origins }
