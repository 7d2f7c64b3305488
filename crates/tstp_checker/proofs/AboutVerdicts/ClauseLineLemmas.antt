-- The verdict on lines of clauses that come from the form or introduce a name.
use Rattle.std.proofs.Common.{◌≡◌, ℕ, Bool, true, false, not, ◌&&◌, ◌||◌, List, [], ◌∷◌, Option, Some, None, refl, ap, ap₂, sym, ◌∙◌, subst}
use Rattle.std.specs.Prelude.{option_map, option_and_then, unwrap_or, codes, Result, if◌then◌else◌}
use Rattle.std.proofs.lemmas.Bool.{eq-eqb}
use Rattle.plain_types.specs.declared.sequence.NameLit.{NameLit}
use Rattle.fol_base.specs.Tree.{Tree, Trees, no_trees, tree_then, variable, application, tree_eq, trees_eq}
use Rattle.fol_base.specs.Clause.{TreeLiteral, TreeClause, literals_eq, names_eq, clause_eq}
use Rattle.fol_base.specs.Ground.{is_ground_literal}
use Rattle.fol_base.specs.Literal.{clause_of}
use Rattle.tptp_source.specs.General.{GeneralTree}
use Rattle.kernel_steps.specs.Derivation.{component_clause}
use Rattle.kernel_steps.specs.declared.step.Step.{Step}
use Rattle.kernel_steps.specs.declared.step.Line.{Line}
use Rattle.clausal_form.specs.DerivationClause.{is_written_clause, name_number}
use Rattle.clausal_form.specs.DerivationItems.{only_one, row_arguments}
use Rattle.clausal_form.specs.DerivationSteps.{of_number}
use Rattle.clausal_form.specs.DerivationLine.{LineTree, Taken, kernel_lines}
use Rattle.kernel_steps.specs.FromTrees.{line_of}
use Rattle.clausal_form.specs.DerivationParts.{Setting, line_kind, line_names, line_clause}
use Rattle.clausal_form.specs.DerivationCauses.{text, clausification, rule, conclusion, new_symbol, Given, fault, gives_clause, is_clausified, given_by_clausify, opposite_from, given_by_opposite, given_by, is_formula_kind, has_new_symbol, is_old_name, LineVerdict, refused, taken, compared, line_verdict}
use Rattle.clausal_form.proofs.AboutNaming.GivenLemmas.{clause_eq-says}
use Rattle.tstp_lines.specs.declared.parts.LineParts.{LineParts}
use Rattle.tstp_checker.specs.declared.refusal.Refusal.{Refusal}
use Rattle.tstp_checker.specs.ClauseLines.{comes_from, is_form_clause, ground_atom, atom_named, opposite_clause}
use Rattle.tstp_checker.specs.Verdicts.{IsVerdict, with_names_asked, IsClauseLine}
use Rattle.list_lemmas.proofs.Bools.{or-false, beq-self}
use Rattle.kernel_steps.specs.declared.step.Step.TheVariants as step

-- ---- equal clauses

mutual
  tree-refl : (t : Tree) → tree_eq t t ≡ true
  tree-refl (variable v) = eq-eqb v v refl
  tree-refl (application f ts) = ap₂ ◌&&◌ (eq-eqb f f refl) (trees-refl ts)

  trees-refl : (ts : Trees) → trees_eq ts ts ≡ true
  trees-refl no_trees = refl
  trees-refl (tree_then t ts) = ap₂ ◌&&◌ (tree-refl t) (trees-refl ts)

literals-refl : (ls : List TreeLiteral) → literals_eq ls ls ≡ true
literals-refl [] = refl
literals-refl (l ∷ ls) = ap₂ ◌&&◌ (ap₂ ◌&&◌ (ap₂ ◌&&◌ (beq-self l.positive) (tree-refl l.left)) (tree-refl l.right)) (literals-refl ls)

names-refl : (ns : List NameLit) → names_eq ns ns ≡ true
names-refl [] = refl
names-refl (n ∷ ns) = ap₂ ◌&&◌ (ap₂ ◌&&◌ (beq-self n.positive) (eq-eqb n.name n.name refl)) (names-refl ns)

pub clause_eq-refl : (c : TreeClause) → clause_eq c c ≡ true
clause_eq-refl c = ap₂ ◌&&◌ (literals-refl c.literals) (names-refl c.names)

-- ---- what is asked first

pub clause-asked :
    (s : Setting) (e : Taken) (t : LineTree)
    → is_formula_kind (line_kind t) ≡ false
    → (if not ((t.entry).is_clause && is_written_clause (line_names e t) (t.entry).formula) then refused text
    else with_names_asked e t (compared s e t (given_by s e t (line_kind t))))
    ≡ line_verdict s e t
clause-asked s e t h =
    ap (λ b. if not (b || ((t.entry).is_clause && is_written_clause (line_names e t) (t.entry).formula)) then refused text
    else with_names_asked e t (compared s e t (given_by s e t (line_kind t)))) (sym h)

-- ---- a clause against the line's

abbrev pub line_unless : Step → TreeClause → Bool → LineVerdict
line_unless st c is_new = if is_new then refused new_symbol else taken (line_of st c)

pub clause-compared :
    (s : Setting) (e : Taken) (t : LineTree) (items : List GeneralTree) (parents : List ℕ) (parts : LineParts) (st : Step) (c : TreeClause)
    → IsClauseLine s e t items parents parts
    → compared s e t (gives_clause st c)
    ≡ (if not (clause_eq c (clause_of parts.clause)) then refused conclusion else line_unless st c parts.has_new_symbol)
clause-compared s e t items parents parts st c l =
    ap (λ d. if not (clause_eq c d) then refused conclusion else line_unless st c (has_new_symbol s e t || is_old_name s e (line_kind t))) (sym l.its_parts.clause)
    ∙ ap (λ b. if not (clause_eq c (clause_of parts.clause)) then refused conclusion else line_unless st c b)
    (ap₂ ◌||◌ (sym l.its_parts.new_symbol) l.no_old_name ∙ or-false parts.has_new_symbol)

-- the same clause
pub clause-equal :
    (s : Setting) (e : Taken) (t : LineTree) (items : List GeneralTree) (parents : List ℕ) (parts : LineParts) (st : Step) (c : TreeClause)
    → IsClauseLine s e t items parents parts → true ≡ clause_eq c (clause_of parts.clause)
    → compared s e t (gives_clause st c) ≡ line_unless st (clause_of parts.clause) parts.has_new_symbol
clause-equal s e t items parents parts st c l h =
    clause-compared s e t items parents parts st c l
    ∙ ap (λ b. if not b then refused conclusion else line_unless st c parts.has_new_symbol) (sym h)
    ∙ ap (λ d. line_unless st d parts.has_new_symbol) (clause_eq-says c (clause_of parts.clause) (sym h))

-- another clause
pub clause-other :
    (s : Setting) (e : Taken) (t : LineTree) (items : List GeneralTree) (parents : List ℕ) (parts : LineParts) (st : Step) (c : TreeClause)
    → IsClauseLine s e t items parents parts → false ≡ clause_eq c (clause_of parts.clause) → compared s e t (gives_clause st c) ≡ refused conclusion
clause-other s e t items parents parts st c l h =
    clause-compared s e t items parents parts st c l
    ∙ ap (λ b. if not b then refused conclusion else line_unless st c parts.has_new_symbol) (sym h)

-- ---- clauses of the form

abbrev clausify_given : Option ℕ → (ℕ → Bool) → TreeClause → Given
clausify_given number test c =
    unwrap_or (option_and_then (λ i. if test i then Some (gives_clause (step.Clausify i) c) else None) number) (fault clausification)

abbrev number_of_items : List GeneralTree → Option ℕ
number_of_items items = option_and_then of_number (option_and_then only_one (row_arguments (codes "esa") (codes "index" ∷ []) items))

clausify-given :
    (s : Setting) (e : Taken) (t : LineTree) (items : List GeneralTree) (parents : List ℕ) (parts : LineParts)
    → IsClauseLine s e t items parents parts
    → given_by_clausify s e t
    ≡ clausify_given (number_of_items items) (λ i. comes_from s e parents i && is_form_clause s (clause_of parts.clause) i) (clause_of parts.clause)
clausify-given s e t items parents parts l =
    ap (λ gs. clausify_given (number_of_items gs) (is_clausified s e t) (line_clause s e t)) l.its_items
    ∙ ap (λ ps. clausify_given (number_of_items items) (λ i. comes_from s e ps i && is_form_clause s (line_clause s e t) i) (line_clause s e t)) l.its_parents
    ∙ ap (λ c. clausify_given (number_of_items items) (λ i. comes_from s e parents i && is_form_clause s c i) c) (sym l.its_parts.clause)

pub clausify-none :
    (s : Setting) (e : Taken) (t : LineTree) (items : List GeneralTree) (parents : List ℕ) (parts : LineParts)
    → IsClauseLine s e t items parents parts → None ≡ number_of_items items → compared s e t (given_by_clausify s e t) ≡ refused clausification
clausify-none s e t items parents parts l h =
    ap (compared s e t)
    (clausify-given s e t items parents parts l
    ∙ ap (λ o. clausify_given o (λ i. comes_from s e parents i && is_form_clause s (clause_of parts.clause) i) (clause_of parts.clause)) (sym h))

pub clausify-so :
    (s : Setting) (e : Taken) (t : LineTree) (items : List GeneralTree) (parents : List ℕ) (parts : LineParts) (i : ℕ) (b : Bool)
    → IsClauseLine s e t items parents parts → Some i ≡ number_of_items items
    → b ≡ (comes_from s e parents i && is_form_clause s (clause_of parts.clause) i)
    → compared s e t (given_by_clausify s e t)
    ≡ (if b then line_unless (step.Clausify i) (clause_of parts.clause) parts.has_new_symbol else refused clausification)
clausify-so s e t items parents parts i b l h test =
    ap (compared s e t)
    (clausify-given s e t items parents parts l
    ∙ ap (λ o. clausify_given o (λ j. comes_from s e parents j && is_form_clause s (clause_of parts.clause) j) (clause_of parts.clause)) (sym h)
    ∙ ap (λ a. unwrap_or (if a then Some (gives_clause (step.Clausify i) (clause_of parts.clause)) else None) (fault clausification)) (sym test))
    ∙ by b
  where
    by :
        (a : Bool)
        → compared s e t (unwrap_or (if a then Some (gives_clause (step.Clausify i) (clause_of parts.clause)) else None) (fault clausification))
        ≡ (if a then line_unless (step.Clausify i) (clause_of parts.clause) parts.has_new_symbol else refused clausification)
    by true = clause-equal s e t items parents parts (step.Clausify i) (clause_of parts.clause) l (sym (clause_eq-refl (clause_of parts.clause)))
    by false = refl

-- ---- the other half of a name's definition

abbrev opposite_given : ℕ → TreeLiteral → Given
opposite_given n l = gives_clause (step.Opposite n) (opposite_clause n l)

one-atom : (n : ℕ) (l : TreeLiteral) → opposite_from n l ≡ option_map (opposite_given n) (ground_atom l)
one-atom n l = by (l.positive && is_ground_literal l)
  where
    by : (b : Bool) → (if b then Some (opposite_given n l) else None) ≡ option_map (opposite_given n) (if b then Some l else None)
    by true = refl
    by false = refl

from-atom : (n : ℕ) (o : Option TreeLiteral) → option_and_then (opposite_from n) o ≡ option_map (opposite_given n) (option_and_then ground_atom o)
from-atom n None = refl
from-atom n (Some l) = one-atom n l

opposite-named :
    (e : Taken) (name : List ℕ) (n : ℕ)
    → Some n ≡ name_number e.introduced name
    → given_by_opposite e name ≡ unwrap_or (option_map (opposite_given n) (atom_named e n)) (fault rule)
opposite-named e name n h =
    ap (λ o. unwrap_or (option_and_then (λ m. option_and_then (opposite_from m) (option_and_then (λ (c : TreeClause). only_one c.literals) (component_clause m (kernel_lines e)))) o) (fault rule)) (sym h)
    ∙ ap (λ o. unwrap_or o (fault rule)) (from-atom n (option_and_then (λ (c : TreeClause). only_one c.literals) (component_clause n (kernel_lines e))))

pub opposite-no-name :
    (s : Setting) (e : Taken) (t : LineTree) (name : List ℕ) → None ≡ name_number e.introduced name → compared s e t (given_by_opposite e name) ≡ refused rule
opposite-no-name s e t name h =
    ap (λ o. compared s e t (unwrap_or (option_and_then (λ m. option_and_then (opposite_from m) (option_and_then (λ (c : TreeClause). only_one c.literals) (component_clause m (kernel_lines e)))) o) (fault rule))) (sym h)

pub opposite-no-atom :
    (s : Setting) (e : Taken) (t : LineTree) (name : List ℕ) (n : ℕ)
    → Some n ≡ name_number e.introduced name → None ≡ atom_named e n → compared s e t (given_by_opposite e name) ≡ refused rule
opposite-no-atom s e t name n h g =
    ap (compared s e t) (opposite-named e name n h) ∙ ap (λ o. compared s e t (unwrap_or (option_map (opposite_given n) o) (fault rule))) (sym g)

pub opposite-gives :
    (s : Setting) (e : Taken) (t : LineTree) (name : List ℕ) (n : ℕ) (l : TreeLiteral)
    → Some n ≡ name_number e.introduced name → Some l ≡ atom_named e n
    → compared s e t (given_by_opposite e name) ≡ compared s e t (gives_clause (step.Opposite n) (opposite_clause n l))
opposite-gives s e t name n l h g =
    ap (compared s e t) (opposite-named e name n h) ∙ ap (λ o. compared s e t (unwrap_or (option_map (opposite_given n) o) (fault rule))) (sym g)

-- a verdict that is another's
pub verdict-as : (v w : LineVerdict) (result : Result Line Refusal) → v ≡ w → IsVerdict w result → IsVerdict v result
verdict-as v w result e h = subst (λ u. IsVerdict u result) (sym e) h

-- a conclusion that is the line's clause
pub same-so :
    (st : Step) (c d : TreeClause) (is_new : Bool)
    → true ≡ clause_eq c d → (if not (clause_eq c d) then refused conclusion else line_unless st c is_new) ≡ line_unless st d is_new
same-so st c d is_new h =
    ap (λ b. if not b then refused conclusion else line_unless st c is_new) (sym h) ∙ ap (λ e. line_unless st e is_new) (clause_eq-says c d (sym h))
