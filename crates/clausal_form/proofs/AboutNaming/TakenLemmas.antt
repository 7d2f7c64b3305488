-- Lines that are taken are a derivation of the kernel.
use Rattle.std.proofs.Common.{◌≡◌, ℕ, ◌≤◌, Bool, true, false, not, ◌||◌, ◌==◌, List, [], ◌∷◌, ◌++◌, map, length, Some, None, refl, ap, ap₂, sym, ◌∙◌, subst, arith}
use Rattle.std.specs.Prelude.{is_some, bytes_eq, if◌then◌else◌}
use Rattle.std.specs.List.{list_all, list_any}
use Rattle.std.proofs.lemmas.Bool.{and_from, eqb-true, false_from_ne_true}
use Rattle.std.proofs.lemmas.List.{append_assoc, append-nil}
use Rattle.fol_base.specs.Tree.{Tree, variable, application}
use Rattle.fol_base.specs.Term.{tree_of}
use Rattle.fol_base.specs.Clause.{TreeLiteral, TreeClause, clause_eq}
use Rattle.fol_base.specs.Literal.{literal_of, clause_of}
use Rattle.fol_base.proofs.AboutTerms.TreeLemmas.{trees_of-list_of}
use Rattle.fol_base.proofs.WorkedExamples.TestLemmas.{list_all-joined}
use Rattle.kernel_steps.specs.Conclusion.{empty_clause}
use Rattle.kernel_steps.specs.Derivation.{is_component_of, component_clause, ComesBy, IsDerivation}
use Rattle.kernel_steps.specs.Soundness.{binds_each}
use Rattle.kernel_steps.specs.declared.step.Step.{Step}
use Rattle.kernel_steps.specs.declared.step.Line.{Line}
use Rattle.kernel_steps.proofs.WorkedExamples.DerivationExamples.{AllCome, derivation-from}
use Rattle.clausal_form.specs.DerivationSteps.{LineKind, kind_of}
use Rattle.clausal_form.specs.DerivationLine.{LineTree, same_formula, NamedLine, Taken, nothing_taken, kernel_lines, names_with, with_line}
use Rattle.kernel_steps.specs.FromTrees.{term_from, literal_from, line_of}
use Rattle.clausal_form.specs.DerivationParts.{Setting, line_kind, parent_places, line_clause}
use Rattle.clausal_form.specs.DerivationCauses.{Cause, text, order, unknown_parent, conclusion, new_symbol, Given, fault, gives_formula, gives_clause, given_by, is_written, has_new_symbol, is_old_name, LineVerdict, refused, taken, compared, line_verdict}
use Rattle.clausal_form.specs.DerivationLines.{LinesVerdict, all_taken, refused_at, after_line, then_line, lines_verdict_from, lines_verdict}
use Rattle.clausal_form.proofs.AboutNaming.GivenLemmas.{NameBelow, Binds, NoneFrom, ComesRight, IsRight, right-given}
use Rattle.list_lemmas.proofs.Bools.{neither-true}
use Rattle.list_lemmas.proofs.Lists.{length-pushed}
use Rattle.kernel_steps.specs.declared.step.Step.TheVariants as step
use Rattle.clausal_form.specs.DerivationSteps as kind

-- ---- the kernel's line has the clause

term_from-tree : (t : Tree) → tree_of (term_from t) ≡ t
term_from-tree (variable v) = refl
term_from-tree (application f ts) = ap (application f) (trees_of-list_of ts)

kernel_literals : (ls : List TreeLiteral) → map literal_of (map literal_from ls) ≡ ls
kernel_literals [] = refl
kernel_literals (l ∷ ls) =
    let make : Tree → Tree → TreeLiteral = λ t u. record { positive = l.positive; left = t; right = u } in
    ap₂ ◌∷◌ (ap₂ make (term_from-tree l.left) (term_from-tree l.right)) (kernel_literals ls)

pub line_of-clause : (st : Step) (c : TreeClause) → clause_of (line_of st c).clause ≡ c
line_of-clause st c =
    let make : List TreeLiteral → TreeClause = λ ls. record { literals = ls; names = c.names } in ap make (kernel_literals c.literals)

-- ---- one line more

-- a test before a verdict that takes a line
not-refused : (b : Bool) (cause : Cause) (v : LineVerdict) (line : Line) → (if b then refused cause else v) ≡ taken line → (b ≡ false) × (v ≡ taken line)
not-refused true cause v line h = absurd (cc)
not-refused false cause v line h = (refl, h)

-- what a line that is taken is
pub record IsTakenAs (test : Tree → Bool) (s : Setting) (e : Taken) (t : LineTree) (line : Line) : Type 0 where
  pub comes : ComesBy line.step (s.form).clauses (kernel_lines e) (clause_of line.clause)
  pub below : NameBelow (length (names_with e.introduced (line_kind t))) line.step
  pub binds : binds_each test line.step ≡ true

-- where all that is bound passes a test, unless the line has a new symbol
abbrev pub KnownPass : (Tree → Bool) → Setting → Taken → LineTree → Type 0
KnownPass test s e t = has_new_symbol s e t ≡ false → Binds test s e t

taken-as :
    (test : Tree → Bool) (s : Setting) (e : Taken) (t : LineTree) (k : LineKind) (st : Step) (c : TreeClause)
    → k ≡ line_kind t → ComesRight test s e t k st c → binds_each test st ≡ true → IsTakenAs test s e t (line_of st c)
taken-as test s e t k st c k_is right bound = record {
  comes = subst (λ d. ComesBy st (s.form).clauses (kernel_lines e) d) (sym (line_of-clause st c)) right.comes;
  below = subst (λ l. NameBelow (length (names_with e.introduced l)) st) k_is right.below;
  binds = bound;
}

same-line : (l m : Line) → taken l ≡ taken m → l ≡ m
same-line l m h = cc

formula-taken : (b : Bool) (l line : Line) → (if b then taken l else refused conclusion) ≡ taken line → l ≡ line
formula-taken true l line h = same-line l line h
formula-taken false l line h = absurd (cc)

compared-taken :
    (test : Tree → Bool) (s : Setting) (e : Taken) (t : LineTree) (g : Given) (line : Line)
    → KnownPass test s e t → IsRight test s e t (line_kind t) g → compared s e t g ≡ taken line → IsTakenAs test s e t line
compared-taken test s e t (fault cause) line known right h = absurd (cc)
compared-taken test s e t (gives_formula st f) line known right h =
    subst (IsTakenAs test s e t) (formula-taken (same_formula f (t.entry).formula) (line_of st empty_clause) line h)
    (taken-as test s e t (line_kind t) st empty_clause refl right.0 right.1)
compared-taken test s e t (gives_clause st c) line known right h =
    let rest : LineVerdict =
    if has_new_symbol s e t || is_old_name s e (line_kind t) then refused new_symbol else taken (line_of st c) in
    let first = not-refused (not (clause_eq c (line_clause s e t))) conclusion rest line h in
    let second = not-refused (has_new_symbol s e t || is_old_name s e (line_kind t)) new_symbol (taken (line_of st c)) line first.1 in
    let tests = neither-true (has_new_symbol s e t) (is_old_name s e (line_kind t)) second.0 in
    let comes = right tests.1 in
    subst (IsTakenAs test s e t) (same-line (line_of st c) line second.1)
    (taken-as test s e t (line_kind t) st c refl comes (comes.binds (known tests.0)))

line-taken :
    (test : Tree → Bool) (s : Setting) (e : Taken) (t : LineTree) (line : Line)
    → KnownPass test s e t → NoneFrom e → line_verdict s e t ≡ taken line → IsTakenAs test s e t line
line-taken test s e t line known none h =
    let last : LineVerdict = compared s e t (given_by s e t (line_kind t)) in
    let parents : LineVerdict = if not (list_all is_some (parent_places e t)) then refused unknown_parent else last in
    let names : LineVerdict = if list_any (λ (l : NamedLine). bytes_eq (t.entry).name l.name) e.lines then refused order else parents in
    let first = not-refused (not (is_written e t)) text names line h in
    let second = not-refused (list_any (λ (l : NamedLine). bytes_eq (t.entry).name l.name) e.lines) order parents line first.1 in
    let third = not-refused (not (list_all is_some (parent_places e t))) unknown_parent last line second.1 in
    compared-taken test s e t (given_by s e t (line_kind t)) line known (right-given test s e t (line_kind t) none) third.1

-- ---- all lines

-- lines that were taken: each comes from the form and those before it, and binds what passes a test
pub record AreTaken (test : Tree → Bool) (s : Setting) (e : Taken) : Type 0 where
  pub come : AllCome (s.form).clauses [] (kernel_lines e)
  pub none : NoneFrom e
  pub bind : list_all (λ (l : Line). binds_each test l.step) (kernel_lines e) ≡ true

all_come-end :
    (form : List TreeClause) (earlier lines : List Line) (l : Line)
    → AllCome form earlier lines → ComesBy l.step form (earlier ++ lines) (clause_of l.clause) → AllCome form earlier (lines ++ l ∷ [])
all_come-end form earlier [] l all comes =
    (subst (λ before. ComesBy l.step form before (clause_of l.clause)) (append-nil earlier) comes, tt)
all_come-end form earlier (k ∷ ks) l all comes = (
  all.0,
  all_come-end form (earlier ++ k ∷ []) ks l all.1
      (subst (λ before. ComesBy l.step form before (clause_of l.clause)) (sym (append_assoc earlier (k ∷ []) ks)) comes),
)

kernel_lines-end : (ls : List NamedLine) (l : NamedLine) → map (λ (k : NamedLine). k.line) (ls ++ l ∷ []) ≡ map (λ (k : NamedLine). k.line) ls ++ l.line ∷ []
kernel_lines-end [] l = refl
kernel_lines-end (k ∷ ks) l = ap (λ ms. k.line ∷ ms) (kernel_lines-end ks l)

none-end : (n : ℕ) (lines : List Line) (l : Line) → component_clause n lines ≡ None → is_component_of n l.step ≡ false → component_clause n (lines ++ l ∷ []) ≡ None
none-end n [] l none h = ap (λ b. if b then Some (clause_of l.clause) else None) h
none-end n (k ∷ ks) l none h = by (is_component_of n k.step) (λ e. none-end n ks l e h) none
  where
    by :
        (b : Bool) → (component_clause n ks ≡ None → component_clause n (ks ++ l ∷ []) ≡ None)
        → (if b then Some (clause_of k.clause) else component_clause n ks) ≡ None
        → (if b then Some (clause_of k.clause) else component_clause n (ks ++ l ∷ [])) ≡ None
    by true more e = e
    by false more e = more e

not-component : (n m : ℕ) (st : Step) → m ≤ n → NameBelow m st → is_component_of n st ≡ false
not-component n m (step.Input place) le below = refl
not-component n m (step.Negate place) le below = refl
not-component n m (step.Clausify i) le below = refl
not-component n m (step.Para a b d f g i j k l) le below = refl
not-component n m (step.Refl a b d) le below = refl
not-component n m (step.Factor a b d f g i) le below = refl
not-component n m (step.Merge a b d f) le below = refl
not-component n m (step.Component k) le below =
    false_from_ne_true (k == n) λ same. let e : k ≡ n = eqb-true k n same in let no : ⊥ = omega (arith, e, le, below) in no
not-component n m (step.Opposite k) le below = refl
not-component n m (step.Split a b d) le below = refl
not-component n m (step.Chain a b) le below = refl

names-grow : (names : List (List ℕ)) (k : LineKind) → length names ≤ length (names_with names k)
names-grow names kind.input_kind = omega arith
names-grow names kind.negate_kind = omega arith
names-grow names kind.clausify_kind = omega arith
names-grow names kind.para_kind = omega arith
names-grow names kind.refl_kind = omega arith
names-grow names kind.factor_kind = omega arith
names-grow names kind.merge_kind = omega arith
names-grow names (kind.component_kind name) = by (list_any (bytes_eq name) names)
  where
    by : (b : Bool) → length names ≤ length (if b then names else names ++ name ∷ [])
    by true = omega arith
    by false = omega (arith, length-pushed names name)
names-grow names (kind.opposite_kind name) = omega arith
names-grow names kind.split_kind = omega arith
names-grow names kind.chain_kind = omega arith
names-grow names kind.no_rule_kind = omega arith

taken-end :
    (test : Tree → Bool) (s : Setting) (e : Taken) (t : LineTree) (line : Line)
    → AreTaken test s e → IsTakenAs test s e t line → AreTaken test s (with_line e t line)
taken-end test s e t line all one =
    let ended : kernel_lines (with_line e t line) ≡ kernel_lines e ++ line ∷ [] =
    kernel_lines-end e.lines (record { name = (t.entry).name; line = line }) in
    record {
      come =
          subst (AllCome (s.form).clauses []) (sym ended) (all_come-end (s.form).clauses [] (kernel_lines e) line all.come one.comes);
      none =
          λ n le.
          ap (component_clause n) ended
          ∙ none-end n (kernel_lines e) line (all.none n (omega (arith, names-grow e.introduced (line_kind t), le)))
          (not-component n (length (names_with e.introduced (line_kind t))) line.step le one.below);
      bind =
          ap (list_all (λ (l : Line). binds_each test l.step)) ended
          ∙ list_all-joined (λ (l : Line). binds_each test l.step) (kernel_lines e) (line ∷ []) all.bind
          (and_from (binds_each test line.step) true one.binds refl);
    }

-- and so for a verdict on lines
abbrev AreTakenBy : (Tree → Bool) → Setting → LinesVerdict → Type 0
AreTakenBy test s (all_taken e) = AreTaken test s e
AreTakenBy test s (refused_at n cause) = Unit {0}

after-taken :
    (test : Tree → Bool) (s : Setting) (e : Taken) (t : LineTree) (v : LineVerdict)
    → AreTaken test s e → ((line : Line) → v ≡ taken line → IsTakenAs test s e t line) → AreTakenBy test s (after_line e t v)
after-taken test s e t (refused cause) all one = tt
after-taken test s e t (taken line) all one = taken-end test s e t line all (one line refl)

then-taken :
    (test : Tree → Bool) (s : Setting) (v : LinesVerdict) (t : LineTree) → ((e : Taken) → KnownPass test s e t)
    → AreTakenBy test s v → AreTakenBy test s (then_line s v t)
then-taken test s (refused_at n cause) t known all = tt
then-taken test s (all_taken e) t known all =
    after-taken test s e t (line_verdict s e t) all (λ line h. line-taken test s e t line (known e) all.none h)

lines-taken :
    (test : Tree → Bool) (s : Setting) (v : LinesVerdict) (ts : List LineTree) → ((e : Taken) (t : LineTree) → KnownPass test s e t)
    → AreTakenBy test s v → AreTakenBy test s (lines_verdict_from s v ts)
lines-taken test s v [] known all = all
lines-taken test s v (t ∷ ts) known all =
    lines-taken test s (then_line s v t) ts known (then-taken test s v t (λ e. known e t) all)

pub all-taken :
    (test : Tree → Bool) (s : Setting) (ts : List LineTree) (e : Taken) → ((e : Taken) (t : LineTree) → KnownPass test s e t)
    → lines_verdict s ts ≡ all_taken e → AreTaken test s e
all-taken test s ts e known h =
    subst (AreTakenBy test s) h
    (lines-taken test s (all_taken nothing_taken) ts known (record { come = tt; none = λ n le. refl; bind = refl }))

pub taken-derivation : (test : Tree → Bool) (s : Setting) (e : Taken) → AreTaken test s e → IsDerivation (s.form).clauses (kernel_lines e)
taken-derivation test s e all = derivation-from (s.form).clauses (kernel_lines e) all.come
