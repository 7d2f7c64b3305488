-- The program's forms in the words of the definitions.
use Rattle.tptp_tree.specs.Causes.{Form, typed, role_form, number_form, distinct_form, dollar_form}
use Rattle.tptp_reader.specs.declared.cause.Form.{Form as ToldForm}
use Rattle.tptp_reader.specs.declared.cause.Form.TheVariants.{Typed, RoleForm, Number, Distinct, Dollar}

-- a form that is left out
abbrev pub form_of : ToldForm → Form
form_of Typed = typed
form_of RoleForm = role_form
form_of Number = number_form
form_of Distinct = distinct_form
form_of Dollar = dollar_form
