-- The program's answers on a line, against the verdict.
use Rattle.std.specs.Prelude.{◌≡◌, ℕ, Bool, false, not, List, Result, Ok, Err, is_some, bytes_eq, if◌then◌else◌}
use Rattle.std.specs.List.{list_any, list_all, position_or_len}
use Rattle.fol_base.specs.Literal.{clause_of}
use Rattle.fol_base.specs.declared.clause.Clause.{Clause}
use Rattle.tptp_source.specs.General.{GeneralTree}
use Rattle.tptp_source.specs.Sources.{component_source}
use Rattle.kernel_steps.specs.Conclusion.{Verdict, concludes}
use Rattle.kernel_steps.specs.declared.step.Step.{Step}
use Rattle.kernel_steps.specs.declared.step.Line.{Line}
use Rattle.clausal_form.specs.DerivationSteps.{component_kind}
use Rattle.clausal_form.specs.DerivationLine.{LineTree, NamedLine, Taken, names_with}
use Rattle.clausal_form.specs.DerivationParts.{Setting, line_kind, items_of, parent_places, parents_of, line_clause, line_bindings}
use Rattle.clausal_form.specs.DerivationCauses.{order, unknown_parent, fault, concluded, has_new_symbol, is_old_name, LineVerdict, refused, taken}
use Rattle.tstp_checker.specs.Causes.{cause_meant}
use Rattle.tstp_lines.specs.declared.parts.LineParts.{LineParts}
use Rattle.tstp_checker.specs.declared.refusal.Refusal.{Refusal}
use Rattle.tstp_checker.specs.declared.refusal.Refusal.TheVariants.{Cause, NoMemory}

-- the line, or the cause for which it is refused; out of memory is free
abbrev pub IsVerdict : LineVerdict → Result Line Refusal → Type 0
IsVerdict v (Ok line) = v ≡ taken line
IsVerdict v (Err (Cause cause)) = v ≡ refused (cause_meant cause)
IsVerdict v (Err NoMemory) = Unit {0}

-- a statement of an answer, which holds unless the answer is out of memory
abbrev pub IfAnswered : {X : Type 0} → Result X Refusal → Type 0 → Type 0
IfAnswered (Ok x) P = P
IfAnswered (Err (Cause cause)) P = P
IfAnswered (Err NoMemory) P = Unit {0}

-- a verdict that is given only after the tests of the line's name and its parents' names
abbrev pub with_names_asked : Taken → LineTree → LineVerdict → LineVerdict
with_names_asked e t v =
    if list_any (λ (l : NamedLine). bytes_eq (t.entry).name l.name) e.lines then refused order
    else if not (list_all is_some (parent_places e t)) then refused unknown_parent
    else v

-- the places of the parents, or the cause for which the line is refused before its source is asked
abbrev pub AreParents : Taken → LineTree → Result (List ℕ) Refusal → Type 0
AreParents e t (Ok places) = ((v : LineVerdict) → with_names_asked e t v ≡ v) × (places ≡ parents_of e t)
AreParents e t (Err (Cause cause)) = (v : LineVerdict) → with_names_asked e t v ≡ refused (cause_meant cause)
AreParents e t (Err NoMemory) = Unit {0}

-- the parts are those of the line
pub record ArePartsOf (s : Setting) (e : Taken) (t : LineTree) (parts : LineParts) : Type 0 where
  pub clause : clause_of parts.clause ≡ line_clause s e t
  pub bindings : parts.bindings ≡ line_bindings s e t
  pub new_symbol : parts.has_new_symbol ≡ has_new_symbol s e t

-- a clause line that introduces no name, with its items, the places of its parents, and its parts
pub record IsClauseLine (s : Setting) (e : Taken) (t : LineTree) (items : List GeneralTree) (parents : List ℕ) (parts : LineParts) : Type 0 where
  pub its_items : items_of t.source ≡ items
  pub its_parents : parents_of e t ≡ parents
  pub its_parts : ArePartsOf s e t parts
  pub no_old_name : is_old_name s e (line_kind t) ≡ false

-- A component line among lines, of a name that is introduced by now: the number of the name, and whether it can't be a new one.
pub record IsComponentLine (s : Setting) (e now : Taken) (t : LineTree) (number : ℕ) (is_old : Bool) : Type 0 where
  pub name : List ℕ
  pub source : t.source ≡ component_source name
  pub lines : e.lines ≡ now.lines
  pub introduced : names_with e.introduced (component_kind name) ≡ now.introduced
  pub its_number : position_or_len (bytes_eq name) e.introduced ≡ number
  pub old : is_old_name s e (component_kind name) ≡ is_old

-- the conclusion, or the cause
abbrev pub IsConcluded : Step → Verdict → Result Clause Refusal → Type 0
IsConcluded step v (Ok clause) = v ≡ concludes (clause_of clause)
IsConcluded step v (Err (Cause cause)) = concluded step v ≡ fault (cause_meant cause)
IsConcluded step v (Err NoMemory) = Unit {0}
