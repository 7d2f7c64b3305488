-- The worked derivations, as lines: two units, one implication, two rewrites, two components, signed names; small problems that each
-- tell one rule; and changes of them.
use Rattle.std.specs.Prelude.{ℕ, Bool, true, false, List, [], ◌∷◌, ◌++◌, map, set, codes}
use Rattle.tptp_tree.specs.Term.{TermTree, variable, application, terms_of}
use Rattle.tptp_tree.specs.Formula.{for_all, implies, FormulaTree, truth, falsity, predicate, equation, negation, disjunction, connected, quantified, formulas_of}
use Rattle.tptp_tree.specs.declared.role.Role.{Role}
use Rattle.tptp_tree.specs.declared.role.Role.TheVariants.{Axiom, NegatedConjecture, Plain, Conjecture}
use Rattle.tptp_tree.specs.declared.problem.Annotated.{Annotated}
use Rattle.signature.specs.Examples.{program_formula}
use Rattle.tptp_source.specs.declared.sign.NumberSign.TheVariants.{Unsigned}
use Rattle.tptp_source.specs.General.{GeneralTree, word, number, listed, trees_of}
use Rattle.tptp_source.specs.Sources.{SourceTree, file_source, inference_source, component_source, opposite_source}
use Rattle.clausal_form.specs.DerivationLine.{LineTree}
use Rattle.clausal_form.specs.DerivationLines.{Answer, verdict_on_lines}

-- ---- terms and formulas

abbrev pub constant : List ℕ → TermTree
constant name = application name (terms_of [])

abbrev pub a : TermTree
a = constant (codes "a")

abbrev pub b : TermTree
b = constant (codes "b")

abbrev pub c : TermTree
c = constant (codes "c")

abbrev pub f : TermTree → TermTree
f t = application (codes "f") (terms_of (t ∷ []))

abbrev pub x : TermTree
x = variable (codes "X")

abbrev pub y : TermTree
y = variable (codes "Y")

abbrev pub x0 : TermTree
x0 = variable (codes "X0")

abbrev pub x1 : TermTree
x1 = variable (codes "X1")

-- an atom without arguments, or with one
abbrev pub atom : List ℕ → FormulaTree
atom name = predicate name (terms_of [])

abbrev pub p : TermTree → FormulaTree
p t = predicate (codes "p") (terms_of (t ∷ []))

abbrev pub q : TermTree → FormulaTree
q t = predicate (codes "q") (terms_of (t ∷ []))

abbrev pub spl0 : FormulaTree
spl0 = atom (codes "spl0")

abbrev pub spl1 : FormulaTree
spl1 = atom (codes "spl1")

abbrev pub one_of : List FormulaTree → FormulaTree
one_of fs = disjunction (formulas_of fs)

abbrev pub not_true : FormulaTree
not_true = negation truth

-- `! [X] : (p(X) => q(X))`
abbrev pub all_p_are_q : FormulaTree
all_p_are_q = quantified for_all (codes "X" ∷ []) (connected implies (p x) (q x))

-- ---- sources

abbrev pub name : List ℕ → GeneralTree
name w = word w (trees_of [])

abbrev pub call : List ℕ → List GeneralTree → GeneralTree
call w ts = word w (trees_of ts)

abbrev pub list_of : List GeneralTree → GeneralTree
list_of ts = listed (trees_of ts)

abbrev pub digits : List ℕ → GeneralTree
digits ds = number Unsigned ds

abbrev pub n0 : GeneralTree
n0 = digits (codes "0")

abbrev pub n1 : GeneralTree
n1 = digits (codes "1")

abbrev pub left : GeneralTree
left = name (codes "left")

abbrev pub right : GeneralTree
right = name (codes "right")

abbrev pub status : List ℕ → GeneralTree
status w = call (codes "status") (name w ∷ [])

abbrev pub thm : GeneralTree
thm = status (codes "thm")

abbrev pub bind : List GeneralTree → GeneralTree
bind ts = call (codes "bind") (list_of ts ∷ [])

-- `from(0,left)` and `into(0,left,[..])`
abbrev pub from_first : GeneralTree → GeneralTree
from_first side = call (codes "from") (n0 ∷ side ∷ [])

abbrev pub into_first : List GeneralTree → GeneralTree
into_first place = call (codes "into") (n0 ∷ left ∷ list_of place ∷ [])

abbrev pub infer : List ℕ → List GeneralTree → List (List ℕ) → SourceTree
infer rule items parents = inference_source (name rule) items parents

abbrev pub by_clausify : GeneralTree → List ℕ → SourceTree
by_clausify index parent = infer (codes "clausify") (status (codes "esa") ∷ call (codes "index") (index ∷ []) ∷ []) (parent ∷ [])

abbrev pub by_negate : List ℕ → SourceTree
by_negate parent = infer (codes "negate") (status (codes "cth") ∷ []) (parent ∷ [])

abbrev pub by_para : List GeneralTree → List GeneralTree → List ℕ → List ℕ → SourceTree
by_para first second a b = infer (codes "para") (thm ∷ from_first left ∷ into_first [] ∷ bind first ∷ bind second ∷ []) (a ∷ b ∷ [])

abbrev pub by_refl : List GeneralTree → List ℕ → SourceTree
by_refl ts parent = infer (codes "refl") (thm ∷ call (codes "lit") (n0 ∷ []) ∷ bind ts ∷ []) (parent ∷ [])

abbrev pub by_split : List (List GeneralTree) → List (List ℕ) → SourceTree
by_split parts parents =
    infer (codes "split") (status (codes "esa") ∷ call (codes "parts") (list_of (map list_of parts) ∷ []) ∷ []) parents

abbrev pub by_chain : List GeneralTree → List (List ℕ) → SourceTree
by_chain pivots parents = infer (codes "chain") (thm ∷ call (codes "pivots") (list_of pivots ∷ []) ∷ []) parents

abbrev pub by_file : List ℕ → List ℕ → SourceTree
by_file file formula = file_source (name file) formula

-- ---- problems and lines

abbrev pub entry : List ℕ → Role → Bool → FormulaTree → Annotated
entry n role is_clause g = record { name = n; role = role; clause = is_clause; formula = program_formula g; file = []; place = 0 }

abbrev pub line_as : List ℕ → Role → Bool → FormulaTree → SourceTree → LineTree
line_as n role is_clause g source = record { entry = record { name = n; role = role; is_clause = is_clause; formula = g }; source = source }

abbrev pub clause_line : List ℕ → FormulaTree → SourceTree → LineTree
clause_line n g source = line_as n Plain true g source

-- ---- two units: p, and not p

abbrev pub atom_p : FormulaTree
atom_p = atom (codes "p")

abbrev pub units : List Annotated
units = entry (codes "a") Axiom true atom_p ∷ entry (codes "b") NegatedConjecture true (negation atom_p) ∷ []

abbrev pub units_lines : List LineTree
units_lines =
    line_as (codes "c0") Axiom true atom_p (by_file (codes "r1.p") (codes "a"))
    ∷ line_as (codes "c1") NegatedConjecture true (negation atom_p) (by_file (codes "r1.p") (codes "b"))
    ∷ clause_line (codes "c2") atom_p (by_clausify n0 (codes "c0"))
    ∷ clause_line (codes "c3") (negation atom_p) (by_clausify n1 (codes "c1"))
    ∷ clause_line (codes "c4") not_true (by_para [] [] (codes "c2") (codes "c3"))
    ∷ clause_line (codes "c5") falsity (by_refl [] (codes "c4"))
    ∷ []

-- the answer with another line in the place of one, places counted from 0
abbrev pub units_answer : ℕ → LineTree → Answer
units_answer n t = verdict_on_lines units (set units_lines n t)

-- p twice, the second time under that name, and not p; the clause of the second p cites the line of the first
abbrev pub twice : List ℕ → List Annotated
twice second =
    entry (codes "a") Axiom true atom_p ∷ entry second Axiom true atom_p ∷ entry (codes "b") NegatedConjecture true (negation atom_p) ∷ []

abbrev pub twice_lines : List LineTree
twice_lines =
    line_as (codes "c0") Axiom true atom_p (by_file (codes "t.p") (codes "a"))
    ∷ line_as (codes "c1") NegatedConjecture true (negation atom_p) (by_file (codes "t.p") (codes "b"))
    ∷ clause_line (codes "c2") atom_p (by_clausify n1 (codes "c0"))
    ∷ clause_line (codes "c3") (negation atom_p) (by_clausify (digits (codes "2")) (codes "c1"))
    ∷ clause_line (codes "c4") not_true (by_para [] [] (codes "c2") (codes "c3"))
    ∷ clause_line (codes "c5") falsity (by_refl [] (codes "c4"))
    ∷ []

-- ---- one implication: p implies q, and p(a); so q(a)

abbrev pub implication : List Annotated
implication =
    entry (codes "a") Axiom false all_p_are_q ∷ entry (codes "b") Axiom false (p a) ∷ entry (codes "c") Conjecture false (q a) ∷ []

-- with what binds the variable of line 8's second parent
abbrev pub implication_bound : GeneralTree → List LineTree
implication_bound t =
    line_as (codes "c0") Axiom false all_p_are_q (by_file (codes "r5.p") (codes "a"))
    ∷ line_as (codes "c1") Axiom false (p a) (by_file (codes "r5.p") (codes "b"))
    ∷ line_as (codes "c2") Conjecture false (q a) (by_file (codes "r5.p") (codes "c"))
    ∷ line_as (codes "c3") NegatedConjecture false (negation (q a)) (by_negate (codes "c2"))
    ∷ clause_line (codes "c4") (one_of (negation (p x0) ∷ q x0 ∷ [])) (by_clausify n0 (codes "c0"))
    ∷ clause_line (codes "c5") (p a) (by_clausify n1 (codes "c1"))
    ∷ clause_line (codes "c6") (negation (q a)) (by_clausify (digits (codes "2")) (codes "c3"))
    ∷ clause_line (codes "c7") (one_of (not_true ∷ q a ∷ [])) (by_para [] (t ∷ []) (codes "c5") (codes "c4"))
    ∷ clause_line (codes "c8") (q a) (by_refl [] (codes "c7"))
    ∷ clause_line (codes "c9") not_true (by_para [] [] (codes "c8") (codes "c6"))
    ∷ clause_line (codes "c10") falsity (by_refl [] (codes "c9"))
    ∷ []

abbrev pub implication_lines : List LineTree
implication_lines = implication_bound (name (codes "a"))

-- the answer with another line in the place of one, places counted from 0
abbrev pub implication_answer : ℕ → LineTree → Answer
implication_answer n t = verdict_on_lines implication (set implication_lines n t)

-- line 8, whose source is given
abbrev pub para_line : SourceTree → LineTree
para_line source = clause_line (codes "c7") (one_of (not_true ∷ q a ∷ [])) source

abbrev pub para_items : List GeneralTree → SourceTree
para_items items = infer (codes "para") items (codes "c5" ∷ codes "c4" ∷ [])

-- the items of line 8 as they are
abbrev pub from_item : GeneralTree
from_item = from_first left

abbrev pub into_item : GeneralTree
into_item = into_first []

abbrev pub bind_a : GeneralTree
bind_a = bind (name (codes "a") ∷ [])

-- lines 5, 9 and 11, each with a part given
abbrev pub first_clause_line : SourceTree → LineTree
first_clause_line source = clause_line (codes "c4") (one_of (negation (p x0) ∷ q x0 ∷ [])) source

abbrev pub resolved_line : FormulaTree → LineTree
resolved_line g = clause_line (codes "c8") g (by_refl [] (codes "c7"))

abbrev pub last_line : List ℕ → SourceTree → LineTree
last_line n source = clause_line n falsity source

-- ---- two rewrites: a = b and f(a) = c, but f(b) != c

abbrev pub equal : TermTree → TermTree → FormulaTree
equal s t = equation true s t

abbrev pub unequal : TermTree → TermTree → FormulaTree
unequal s t = equation false s t

abbrev pub rewrites : List Annotated
rewrites =
    entry (codes "a") Axiom true (equal a b) ∷ entry (codes "b") Axiom true (equal (f a) c)
    ∷ entry (codes "c") Axiom true (unequal (f b) c) ∷ []

abbrev pub rewrites_lines : List LineTree
rewrites_lines =
    line_as (codes "c0") Axiom true (equal a b) (by_file (codes "r8.p") (codes "a"))
    ∷ line_as (codes "c1") Axiom true (equal (f a) c) (by_file (codes "r8.p") (codes "b"))
    ∷ line_as (codes "c2") Axiom true (unequal (f b) c) (by_file (codes "r8.p") (codes "c"))
    ∷ clause_line (codes "c3") (equal a b) (by_clausify n0 (codes "c0"))
    ∷ clause_line (codes "c4") (equal (f a) c) (by_clausify n1 (codes "c1"))
    ∷ clause_line (codes "c5") (unequal (f b) c) (by_clausify (digits (codes "2")) (codes "c2"))
    ∷ clause_line (codes "c6") (unequal (f a) c)
    (infer (codes "para") (thm ∷ from_first right ∷ into_first (n0 ∷ []) ∷ bind [] ∷ bind [] ∷ []) (codes "c3" ∷ codes "c5" ∷ []))
    ∷ clause_line (codes "c7") (unequal c c) (by_para [] [] (codes "c4") (codes "c6"))
    ∷ clause_line (codes "c8") falsity (by_refl [] (codes "c7"))
    ∷ []

-- ---- merging: p(X) or p(a), but not p(a)

abbrev pub merging : List Annotated
merging = entry (codes "a") Axiom true (one_of (p x ∷ p a ∷ [])) ∷ entry (codes "b") Axiom true (negation (p a)) ∷ []

-- with the clause of line 5, and what binds its parent's variable
abbrev pub merging_with : FormulaTree → GeneralTree → List LineTree
merging_with g t =
    line_as (codes "c0") Axiom true (one_of (p x ∷ p a ∷ [])) (by_file (codes "m.p") (codes "a"))
    ∷ line_as (codes "c1") Axiom true (negation (p a)) (by_file (codes "m.p") (codes "b"))
    ∷ clause_line (codes "c2") (one_of (p x0 ∷ p a ∷ [])) (by_clausify n0 (codes "c0"))
    ∷ clause_line (codes "c3") (negation (p a)) (by_clausify n1 (codes "c1"))
    ∷ clause_line (codes "c4") g
    (infer (codes "merge") (thm ∷ call (codes "lit") (n0 ∷ []) ∷ call (codes "lit") (n1 ∷ []) ∷ bind (t ∷ []) ∷ []) (codes "c2" ∷ []))
    ∷ clause_line (codes "c5") not_true (by_para [] [] (codes "c4") (codes "c3"))
    ∷ clause_line (codes "c6") falsity (by_refl [] (codes "c5"))
    ∷ []

abbrev pub merging_lines : List LineTree
merging_lines = merging_with (p a) (name (codes "a"))

-- ---- an equation and its turned form: a = b or b = a, but a != b

abbrev pub turned : List Annotated
turned = entry (codes "a") Axiom true (one_of (equal a b ∷ equal b a ∷ [])) ∷ entry (codes "b") Axiom true (unequal a b) ∷ []

-- with the lines after the clauses of the form
abbrev pub turned_then : List LineTree → List LineTree
turned_then ts =
    line_as (codes "c0") Axiom true (one_of (equal a b ∷ equal b a ∷ [])) (by_file (codes "e.p") (codes "a"))
    ∷ line_as (codes "c1") Axiom true (unequal a b) (by_file (codes "e.p") (codes "b"))
    ∷ clause_line (codes "c2") (one_of (equal a b ∷ equal b a ∷ [])) (by_clausify n0 (codes "c0"))
    ∷ clause_line (codes "c3") (unequal a b) (by_clausify n1 (codes "c1"))
    ∷ ts

-- The first literal becomes `b != b`, by a, which stands on its left and on the right of the second.
abbrev pub factored_lines : List LineTree
factored_lines = turned_then (
    clause_line (codes "c4") (one_of (unequal b b ∷ equal b a ∷ []))
    (infer (codes "factor") (thm ∷ call (codes "lit") (n0 ∷ left ∷ []) ∷ call (codes "lit") (n1 ∷ right ∷ []) ∷ bind [] ∷ []) (codes "c2" ∷ []))
    ∷ clause_line (codes "c5") (equal b a) (by_refl [] (codes "c4"))
    ∷ clause_line (codes "c6") (unequal a a)
    (infer (codes "para") (thm ∷ from_first left ∷ call (codes "into") (n0 ∷ right ∷ list_of [] ∷ []) ∷ bind [] ∷ bind [] ∷ []) (codes "c5" ∷ codes "c3" ∷ []))
    ∷ clause_line (codes "c7") falsity (by_refl [] (codes "c6"))
    ∷ [])

-- The first literal stays and the second goes, with the clause of line 5.
abbrev pub turned_merged : FormulaTree → List LineTree
turned_merged g = turned_then (
    clause_line (codes "c4") g
    (infer (codes "merge") (thm ∷ call (codes "lit") (n0 ∷ []) ∷ call (codes "lit") (n1 ∷ []) ∷ bind [] ∷ []) (codes "c2" ∷ []))
    ∷ clause_line (codes "c5") (unequal b b) (by_para [] [] (codes "c4") (codes "c3"))
    ∷ clause_line (codes "c6") falsity (by_refl [] (codes "c5"))
    ∷ [])

-- ---- an irreflexive variable: X != X, with what it is bound to

abbrev pub irreflexive : List Annotated
irreflexive = entry (codes "a") Axiom true (unequal x x) ∷ []

abbrev pub irreflexive_bound : GeneralTree → List LineTree
irreflexive_bound t =
    line_as (codes "c0") Axiom true (unequal x x) (by_file (codes "r25.p") (codes "a"))
    ∷ clause_line (codes "c1") (unequal x0 x0) (by_clausify n0 (codes "c0"))
    ∷ clause_line (codes "c2") falsity (by_refl (t ∷ []) (codes "c1"))
    ∷ []

-- ---- two variables: X != Y, with what they are bound to

abbrev pub all_differ : List Annotated
all_differ = entry (codes "a") Axiom true (unequal x y) ∷ []

abbrev pub all_differ_bound : List GeneralTree → List LineTree
all_differ_bound ts =
    line_as (codes "c0") Axiom true (unequal x y) (by_file (codes "d.p") (codes "a"))
    ∷ clause_line (codes "c1") (unequal x0 x1) (by_clausify n0 (codes "c0"))
    ∷ clause_line (codes "c2") falsity (by_refl ts (codes "c1"))
    ∷ []

-- ---- two components: p(X) or q(Y), but neither p(a) nor q(b)

abbrev pub components : List Annotated
components =
    entry (codes "a") Axiom true (one_of (p x ∷ q y ∷ [])) ∷ entry (codes "b") Axiom true (negation (p a))
    ∷ entry (codes "c") Axiom true (negation (q b)) ∷ []

abbrev pub not_spl0 : FormulaTree
not_spl0 = negation spl0

abbrev pub not_spl1 : FormulaTree
not_spl1 = negation spl1

abbrev pub component_line : List ℕ → FormulaTree → List ℕ → LineTree
component_line n g introduced = clause_line n g (component_source introduced)

abbrev pub components_lines : List LineTree
components_lines =
    line_as (codes "c0") Axiom true (one_of (p x ∷ q y ∷ [])) (by_file (codes "r10.p") (codes "a"))
    ∷ line_as (codes "c1") Axiom true (negation (p a)) (by_file (codes "r10.p") (codes "b"))
    ∷ line_as (codes "c2") Axiom true (negation (q b)) (by_file (codes "r10.p") (codes "c"))
    ∷ clause_line (codes "c3") (one_of (p x0 ∷ q x1 ∷ [])) (by_clausify n0 (codes "c0"))
    ∷ clause_line (codes "c4") (negation (p a)) (by_clausify n1 (codes "c1"))
    ∷ clause_line (codes "c5") (negation (q b)) (by_clausify (digits (codes "2")) (codes "c2"))
    ∷ component_line (codes "c6") (one_of (p x0 ∷ not_spl0 ∷ [])) (codes "spl0")
    ∷ component_line (codes "c7") (one_of (q x0 ∷ not_spl1 ∷ [])) (codes "spl1")
    ∷ clause_line (codes "c8") (one_of (spl0 ∷ spl1 ∷ [])) (by_split ((n0 ∷ []) ∷ (n1 ∷ []) ∷ []) (codes "c3" ∷ codes "c6" ∷ codes "c7" ∷ []))
    ∷ clause_line (codes "c9") (one_of (not_true ∷ not_spl0 ∷ [])) (by_para (name (codes "a") ∷ []) [] (codes "c6") (codes "c4"))
    ∷ clause_line (codes "c10") not_spl0 (by_refl [] (codes "c9"))
    ∷ clause_line (codes "c11") (one_of (not_true ∷ not_spl1 ∷ [])) (by_para (name (codes "b") ∷ []) [] (codes "c7") (codes "c5"))
    ∷ clause_line (codes "c12") not_spl1 (by_refl [] (codes "c11"))
    ∷ clause_line (codes "c13") falsity
    (by_chain (name (codes "spl0") ∷ name (codes "spl1") ∷ []) (codes "c8" ∷ codes "c10" ∷ codes "c12" ∷ []))
    ∷ []

-- the answer with another line in the place of one
abbrev pub components_answer : ℕ → LineTree → Answer
components_answer n t = verdict_on_lines components (set components_lines n t)

-- ---- signed names: the four clauses of p and q, where a literal and its complement share a name

abbrev pub atom_q : FormulaTree
atom_q = atom (codes "q")

abbrev pub both : FormulaTree → FormulaTree → FormulaTree
both g h = one_of (g ∷ h ∷ [])

abbrev pub four_clauses : List Annotated
four_clauses =
    entry (codes "a") Axiom true (both atom_p atom_q) ∷ entry (codes "b") Axiom true (both (negation atom_p) atom_q)
    ∷ entry (codes "c") Axiom true (both atom_p (negation atom_q)) ∷ entry (codes "d") Axiom true (both (negation atom_p) (negation atom_q)) ∷ []

abbrev pub r_of_a : FormulaTree
r_of_a = predicate (codes "r") (terms_of (a ∷ []))

-- and r(a)
abbrev pub four_clauses_and : List Annotated
four_clauses_and = four_clauses ++ entry (codes "e") Axiom true r_of_a ∷ []

abbrev pub split_in_two : List ℕ → List ℕ → List ℕ → SourceTree
split_in_two parent first second = by_split ((n0 ∷ []) ∷ (n1 ∷ []) ∷ []) (parent ∷ first ∷ second ∷ [])

abbrev pub opposite_line : List ℕ → FormulaTree → List ℕ → LineTree
opposite_line n g introduced = clause_line n g (opposite_source introduced)

-- with the clause of line 9, which introduces the first name
abbrev pub four_clauses_with : FormulaTree → List LineTree
four_clauses_with g =
    line_as (codes "c0") Axiom true (both atom_p atom_q) (by_file (codes "r11.p") (codes "a"))
    ∷ line_as (codes "c1") Axiom true (both (negation atom_p) atom_q) (by_file (codes "r11.p") (codes "b"))
    ∷ line_as (codes "c2") Axiom true (both atom_p (negation atom_q)) (by_file (codes "r11.p") (codes "c"))
    ∷ line_as (codes "c3") Axiom true (both (negation atom_p) (negation atom_q)) (by_file (codes "r11.p") (codes "d"))
    ∷ clause_line (codes "c4") (both atom_p atom_q) (by_clausify n0 (codes "c0"))
    ∷ clause_line (codes "c5") (both (negation atom_p) atom_q) (by_clausify n1 (codes "c1"))
    ∷ clause_line (codes "c6") (both atom_p (negation atom_q)) (by_clausify (digits (codes "2")) (codes "c2"))
    ∷ clause_line (codes "c7") (both (negation atom_p) (negation atom_q)) (by_clausify (digits (codes "3")) (codes "c3"))
    ∷ component_line (codes "c8") g (codes "spl0")
    ∷ component_line (codes "c9") (both atom_q not_spl1) (codes "spl1")
    ∷ opposite_line (codes "c10") (both (negation atom_p) spl0) (codes "spl0")
    ∷ opposite_line (codes "c11") (both (negation atom_q) spl1) (codes "spl1")
    ∷ clause_line (codes "c12") (both spl0 spl1) (split_in_two (codes "c4") (codes "c8") (codes "c9"))
    ∷ clause_line (codes "c13") (both not_spl0 spl1) (split_in_two (codes "c5") (codes "c10") (codes "c9"))
    ∷ clause_line (codes "c14") (both spl0 not_spl1) (split_in_two (codes "c6") (codes "c8") (codes "c11"))
    ∷ clause_line (codes "c15") (both not_spl0 not_spl1) (split_in_two (codes "c7") (codes "c10") (codes "c11"))
    ∷ clause_line (codes "c16") spl1 (by_chain (name (codes "spl0") ∷ []) (codes "c12" ∷ codes "c13" ∷ []))
    ∷ clause_line (codes "c17") not_spl1 (by_chain (name (codes "spl0") ∷ []) (codes "c14" ∷ codes "c15" ∷ []))
    ∷ clause_line (codes "c18") falsity (by_chain (name (codes "spl1") ∷ []) (codes "c16" ∷ codes "c17" ∷ []))
    ∷ []

abbrev pub four_clauses_lines : List LineTree
four_clauses_lines = four_clauses_with (both atom_p not_spl0)

-- the answer with another line in the place of one
abbrev pub four_clauses_answer : ℕ → LineTree → Answer
four_clauses_answer n t = verdict_on_lines four_clauses (set four_clauses_lines n t)

-- ---- texts

-- `$false` itself
abbrev pub falsum : List Annotated
falsum = entry (codes "a") Axiom true falsity ∷ []

-- its derivation, with quoted words and a blank
abbrev pub falsum_text : List ℕ
falsum_text = codes "cnf(a,axiom,$false,file('f',a)).cnf(b,plain,$false, inference(clausify,[status(esa),index(0)],['a']))."

abbrev pub falsum_lines : List LineTree
falsum_lines =
    line_as (codes "a") Axiom true falsity (by_file (codes "f") (codes "a"))
    ∷ clause_line (codes "b") falsity (by_clausify n0 (codes "a"))
    ∷ []

-- and a final `.` that ends no line
abbrev pub falsum_text_then_dot : List ℕ
falsum_text_then_dot = falsum_text ++ codes "."
