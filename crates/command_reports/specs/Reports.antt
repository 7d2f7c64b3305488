-- The texts of reports: words, lines, and the reports that every command has. A command's own stand with what it reports.
use Rattle.std.specs.Prelude.{ℕ, List, ◌++◌, codes}
use Rattle.std.specs.Fmt.{decimal}
use Rattle.tptp_reader.specs.declared.cause.Form.{Form}
use Rattle.tptp_reader.specs.declared.cause.Form.TheVariants.{Typed, RoleForm, Number, Distinct, Dollar}
use Rattle.tptp_reader.specs.declared.cause.ReadCause.{ReadCause}
use Rattle.tptp_reader.specs.declared.cause.ReadCause.TheVariants.{BadByte, Unclosed, Syntax, FreeVariable, Role, SecondConjecture, SelectionMissing, IncludeDepth, TooLong, Nesting, Inappropriate, Load}
use Rattle.clausal_form.specs.declared.fault.FormCause.{FormCause}
use Rattle.clausal_form.specs.declared.fault.FormCause.TheVariants.{Expansion, TooHeavy, TotalLimit}
use Rattle.tstp_writer.specs.LineTexts.{formula_name_text}
use Rattle.command_reports.specs.Names.{shown, problem_name}

-- ---- causes by their names

abbrev pub form_word : Form → List ℕ
form_word Typed = codes "Typed"
form_word RoleForm = codes "RoleForm"
form_word Number = codes "Number"
form_word Distinct = codes "Distinct"
form_word Dollar = codes "Dollar"

abbrev pub read_word : ReadCause → List ℕ
read_word BadByte = codes "BadByte"
read_word Unclosed = codes "Unclosed"
read_word Syntax = codes "Syntax"
read_word FreeVariable = codes "FreeVariable"
read_word Role = codes "Role"
read_word SecondConjecture = codes "SecondConjecture"
read_word SelectionMissing = codes "SelectionMissing"
read_word IncludeDepth = codes "IncludeDepth"
read_word TooLong = codes "TooLong"
read_word Nesting = codes "Nesting"
read_word (Inappropriate form) = form_word form
read_word Load = codes "Load"

abbrev pub limit_word : FormCause → List ℕ
limit_word Expansion = codes "Expansion"
limit_word TooHeavy = codes "TooHeavy"
limit_word TotalLimit = codes "TotalLimit"

-- ---- lines, of the problem in a file

-- the end of a line that names the problem
abbrev pub for_problem : List ℕ → List ℕ
for_problem file = codes " for " ++ problem_name file ++ codes "\n"

-- the line of a status
abbrev pub status_line : List ℕ → List ℕ → List ℕ
status_line word file = codes "% SZS status " ++ word ++ for_problem file

-- a line around a printed text, by `start` or `end` and the word for the form of the text
abbrev pub output_line : List ℕ → List ℕ → List ℕ → List ℕ
output_line place form file = codes "% SZS output " ++ place ++ codes " " ++ form ++ for_problem file

abbrev pub load_line : List ℕ → List ℕ
load_line file = codes "% Load " ++ shown file ++ codes "\n"

-- a cause at a place of a file
abbrev pub place_line : List ℕ → List ℕ → ℕ → List ℕ
place_line word name place = codes "% " ++ word ++ codes " at " ++ shown name ++ codes ":" ++ decimal place ++ codes "\n"

-- a cause in a formula
abbrev pub formula_line : List ℕ → List ℕ → List ℕ
formula_line word name = codes "% " ++ word ++ codes " in " ++ formula_name_text name ++ codes "\n"

-- ---- reports

-- a text between its two lines, after a status
abbrev pub printed_report : List ℕ → List ℕ → List ℕ → List ℕ → List ℕ
printed_report file word form text =
    status_line word file ++ output_line (codes "start") form file ++ text ++ output_line (codes "end") form file

-- the status of a text that isn't read, and the word for it
abbrev pub read_status : ReadCause → ℕ
read_status (Inappropriate form) = 8
read_status Load = 4
read_status cause = 3

abbrev pub read_status_word : ReadCause → List ℕ
read_status_word (Inappropriate form) = codes "Inappropriate"
read_status_word Load = codes "OSError"
read_status_word cause = codes "InputError"

abbrev pub fault_line : ReadCause → List ℕ → ℕ → List ℕ
fault_line Load name place = load_line name
fault_line cause name place = place_line (read_word cause) name place

-- a text that isn't read, a problem without a clausal form, and a file that couldn't be loaded
abbrev pub unread_report : List ℕ → ReadCause → List ℕ → ℕ → List ℕ
unread_report file cause name place = status_line (read_status_word cause) file ++ fault_line cause name place

abbrev pub unformed_report : List ℕ → FormCause → List ℕ → List ℕ
unformed_report file cause name = status_line (codes "InputError") file ++ formula_line (limit_word cause) name

abbrev pub lost_report : List ℕ → List ℕ → List ℕ
lost_report file name = status_line (codes "OSError") file ++ load_line name

-- the program is out of memory
abbrev pub memory_out_report : List ℕ → List ℕ
memory_out_report file = status_line (codes "MemoryOut") file

abbrev pub usage_report : List ℕ
usage_report = codes "usage: prove FILE [--workers=K] [--inferences=N] [--tptp=DIR] [--select=none|negative] [--split=on|off] [--tolerance=T --depth=D]\n       check FILE DERIVATION [--tptp=DIR]\n       bench N\n       model FILE [--size=S] [--tptp=DIR]\n       ground FILE DERIVATION [--tptp=DIR]\n       decide FILE [--tptp=DIR]\n"
