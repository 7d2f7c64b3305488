-- The faults of a problem don't depend on the numbers of its symbols: whatever they are, the clauses have the same shapes.
use Rattle.std.proofs.Common.{◌≡◌, ℕ, suc, ◌+◌, Bool, true, false, not, List, [], ◌∷◌, ◌++◌, length, map, max, refl, ap, ap₂, sym, ◌∙◌, subst, arith}
use Rattle.std.specs.Prelude.{flat_map, nat_le, nat_lt, bytes_eq, ◌*◌, ◌&&◌, Some, if◌then◌else◌}
use mathlib.Core.Bool.{beq}
use Rattle.std.proofs.lemmas.List.Sums.{sum_by-cons}
use Rattle.tptp_tree.specs.Term.{TermTree, variable as named_variable, application as named_application, TermTrees, no_terms, term_then}
use Rattle.tptp_tree.specs.Formula.{implies, implied, equivalent, different, nor, nand, FormulaTree, truth, falsity, predicate, equation, negation, conjunction, disjunction, connected, quantified, FormulaTrees, no_formulas, formula_then}
use Rattle.tptp_tree.specs.Entries.{is_conjecture}
use Rattle.tptp_tree.specs.Shape.{formula_of}
use Rattle.tptp_tree.specs.declared.problem.Annotated.{Annotated}
use Rattle.fol_base.specs.Tree.{Tree, variable, application, Trees, no_trees, tree_then, trees_of, tree_size, trees_size, tree_variables, trees_variables}
use Rattle.fol_base.specs.Clause.{TreeLiteral, literal_size, literal_variables}
use Rattle.signature.specs.declared.symbol.Symbol.{Symbol}
use Rattle.signature.specs.Environment.{Environment, free_names, without_names, closed, term_in_force, term_under, terms_under}
use Rattle.signature.specs.Clausal.{SymbolNumbers, Made, Worked, Scope, Literals, Work, made_in_order, applied, with_variables, skolem_arguments, with_skolem_terms, makes_variables, scope_of, all_pairs, is_large, atom_literal, named, product, joined, truth_value, one_literal, clauses_of, listed_clauses, product_clauses, begun, annotated_clauses}
use Rattle.formula_nnf.specs.Expanded.{expanded_count}
use Rattle.clausal_form.specs.Measure.{literals_size, symbols_in, largest}
use Rattle.clausal_form.specs.Fault.{limit_fault, counted_in, formula_fault, fault_or, first_fault}
use Rattle.clausal_form.specs.declared.fault.FormCause.TheVariants.{Expansion}
use Rattle.clausal_form.specs.declared.fault.TheConstants.{MOST_EXPANDED}

-- ---- the shape of a tree: all its symbols have one number

abbrev mutual
  shape : Tree → Tree
  shape (variable v) = variable v
  shape (application f ts) = application 0 (shapes ts)

  shapes : Trees → Trees
  shapes no_trees = no_trees
  shapes (tree_then t ts) = tree_then (shape t) (shapes ts)

mutual
  shape-size : (t : Tree) → tree_size (shape t) ≡ tree_size t
  shape-size (variable v) = refl
  shape-size (application f ts) = ap (λ n. 1 + n) (shapes-size ts)

  shapes-size : (ts : Trees) → trees_size (shapes ts) ≡ trees_size ts
  shapes-size no_trees = refl
  shapes-size (tree_then t ts) = ap₂ (λ m n. m + n) (shape-size t) (shapes-size ts)

mutual
  shape-variables : (t : Tree) → tree_variables (shape t) ≡ tree_variables t
  shape-variables (variable v) = refl
  shape-variables (application f ts) = shapes-variables ts

  shapes-variables : (ts : Trees) → trees_variables (shapes ts) ≡ trees_variables ts
  shapes-variables no_trees = refl
  shapes-variables (tree_then t ts) = ap₂ (λ vs ws. vs ++ ws) (shape-variables t) (shapes-variables ts)

abbrev literal_shape : TreeLiteral → TreeLiteral
literal_shape l = record { positive = l.positive; left = shape l.left; right = shape l.right }

abbrev literals_shape : Literals → Literals
literals_shape c = map literal_shape c

abbrev clauses_shape : List Literals → List Literals
clauses_shape cs = map literals_shape cs

literal-size : (l : TreeLiteral) → literal_size (literal_shape l) ≡ literal_size l
literal-size l = ap₂ (λ m n. m + n) (shape-size l.left) (shape-size l.right)

literals-size : (c : Literals) → literals_size (literals_shape c) ≡ literals_size c
literals-size [] = refl
literals-size (l ∷ c) =
    omega
    (arith, literal-size l, literals-size c, sum_by-cons literal_size l c, sum_by-cons literal_size (literal_shape l) (literals_shape c))

symbols-shape : (cs : List Literals) → symbols_in (clauses_shape cs) ≡ symbols_in cs
symbols-shape [] = refl
symbols-shape (c ∷ cs) =
    omega
    (arith, literals-size c, symbols-shape cs, sum_by-cons literals_size c cs, sum_by-cons literals_size (literals_shape c) (clauses_shape cs))

largest-shape : (cs : List Literals) → largest (clauses_shape cs) ≡ largest cs
largest-shape [] = refl
largest-shape (c ∷ cs) = ap₂ (λ m n. max m n) (literals-size c) (largest-shape cs)

length-shape : (cs : List Literals) → length (clauses_shape cs) ≡ length cs
length-shape [] = refl
length-shape (c ∷ cs) = ap suc (length-shape cs)

literal-variables : (l : TreeLiteral) → literal_variables (literal_shape l) ≡ literal_variables l
literal-variables l = ap₂ (λ vs ws. vs ++ ws) (shape-variables l.left) (shape-variables l.right)

literals-variables : (c : Literals) → flat_map literal_variables (literals_shape c) ≡ flat_map literal_variables c
literals-variables [] = refl
literals-variables (l ∷ c) = ap₂ (λ vs ws. vs ++ ws) (literal-variables l) (literals-variables c)

abbrev variables_in : List Literals → List ℕ
variables_in cs = flat_map (λ c. flat_map literal_variables c) cs

variables-shape : (cs : List Literals) → variables_in (clauses_shape cs) ≡ variables_in cs
variables-shape [] = refl
variables-shape (c ∷ cs) = ap₂ (λ vs ws. vs ++ ws) (literals-variables c) (variables-shape cs)

literals-joined : (c d : Literals) → literals_shape (c ++ d) ≡ literals_shape c ++ literals_shape d
literals-joined [] d = refl
literals-joined (l ∷ c) d = ap (λ e. literal_shape l ∷ e) (literals-joined c d)

clauses-joined : (a b : List Literals) → clauses_shape (a ++ b) ≡ clauses_shape a ++ clauses_shape b
clauses-joined [] b = refl
clauses-joined (c ∷ a) b = ap (λ e. literals_shape c ∷ e) (clauses-joined a b)

before-shape : (c : Literals) (b : List Literals) → clauses_shape (map (λ d. c ++ d) b) ≡ map (λ d. literals_shape c ++ d) (clauses_shape b)
before-shape c [] = refl
before-shape c (d ∷ b) = ap₂ (λ e f. e ∷ f) (literals-joined c d) (before-shape c b)

pairs-shape : (a b : List Literals) → clauses_shape (all_pairs a b) ≡ all_pairs (clauses_shape a) (clauses_shape b)
pairs-shape [] b = refl
pairs-shape (c ∷ a) b =
    clauses-joined (map (λ d. c ++ d) b) (all_pairs a b) ∙ ap₂ (λ e f. e ++ f) (before-shape c b) (pairs-shape a b)

headed-shape : (l : TreeLiteral) (cs : List Literals) → clauses_shape (map (λ c. l ∷ c) cs) ≡ map (λ c. literal_shape l ∷ c) (clauses_shape cs)
headed-shape l [] = refl
headed-shape l (c ∷ cs) = ap (λ e. (literal_shape l ∷ literals_shape c) ∷ e) (headed-shape l cs)

-- ---- clauses of the same shapes

abbrev SameClauses : List Literals → List Literals → Type 0
SameClauses cs ds = clauses_shape cs ≡ clauses_shape ds

length-same : (cs ds : List Literals) → SameClauses cs ds → length cs ≡ length ds
length-same cs ds h = sym (length-shape cs) ∙ ap length h ∙ length-shape ds

counted-same : (cs ds : List Literals) → SameClauses cs ds → counted_in cs ≡ counted_in ds
counted-same cs ds h = ap₂ (λ m n. m + n) (length-same cs ds h) (sym (symbols-shape cs) ∙ ap symbols_in h ∙ symbols-shape ds)

largest-same : (cs ds : List Literals) → SameClauses cs ds → largest cs ≡ largest ds
largest-same cs ds h = sym (largest-shape cs) ∙ ap largest h ∙ largest-shape ds

variables-same : (cs ds : List Literals) → SameClauses cs ds → variables_in cs ≡ variables_in ds
variables-same cs ds h = sym (variables-shape cs) ∙ ap variables_in h ∙ variables-shape ds

joined-same : (ps qs cs ds : List Literals) → SameClauses ps qs → SameClauses cs ds → SameClauses (ps ++ cs) (qs ++ ds)
joined-same ps qs cs ds h k = clauses-joined ps cs ∙ ap₂ (λ e f. e ++ f) h k ∙ sym (clauses-joined qs ds)

pairs-same : (ps qs cs ds : List Literals) → SameClauses ps qs → SameClauses cs ds → SameClauses (all_pairs ps cs) (all_pairs qs ds)
pairs-same ps qs cs ds h k = pairs-shape ps cs ∙ ap₂ all_pairs h k ∙ sym (pairs-shape qs ds)

record SameMade (m o : Made) : Type 0 where
  variables : m.variables ≡ o.variables
  skolem : m.skolem_arities ≡ o.skolem_arities
  naming : m.naming_arities ≡ o.naming_arities
  defining : SameClauses m.defining o.defining

record SameWorked (w v : Worked) : Type 0 where
  clauses : SameClauses w.clauses v.clauses
  made : SameMade w.made v.made

record SameWork (w v : Work) : Type 0 where
  by : (m o : Made) → SameMade m o → SameWorked (w m) (v o)

-- ---- terms

record SameForce (env other : Environment) : Type 0 where
  at : (x : List ℕ) → shape (term_in_force env x) ≡ shape (term_in_force other x)

force-more :
    (env other : Environment) (y : List ℕ) (t u : Tree) → shape t ≡ shape u → SameForce env other → SameForce ((y, t) ∷ env) ((y, u) ∷ other)
force-more env other y t u e h = record { at = λ x. by x (bytes_eq y x) }
  where
    by :
        (x : List ℕ) (b : Bool) → shape (if b then t else term_in_force env x) ≡ shape (if b then u else term_in_force other x)
    by x true = e
    by x false = h.at x

mutual
  term-same :
      (known others : List Symbol) (env other : Environment) → SameForce env other → (t : TermTree)
      → shape (term_under known env t) ≡ shape (term_under others other t)
  term-same known others env other h (named_variable x) = h.at x
  term-same known others env other h (named_application f ts) = ap (λ us. application 0 us) (terms-same known others env other h ts)

  terms-same :
      (known others : List Symbol) (env other : Environment) → SameForce env other → (ts : TermTrees)
      → shapes (terms_under known env ts) ≡ shapes (terms_under others other ts)
  terms-same known others env other h no_terms = refl
  terms-same known others env other h (term_then t ts) =
      ap₂ (λ u us. tree_then u us) (term-same known others env other h t) (terms-same known others env other h ts)

-- ---- quantifiers

record SameScope (s t : Scope) : Type 0 where
  environment : SameForce s.environment t.environment
  made : SameMade s.made t.made

variables-scope :
    (xs : List (List ℕ)) (env other : Environment) (m o : Made) → SameForce env other → SameMade m o
    → SameScope (with_variables xs env m) (with_variables xs other o)
variables-scope [] env other m o h g = record { environment = h; made = g }
variables-scope (x ∷ xs) env other m o h g =
    variables-scope xs ((x, variable m.variables) ∷ env) ((x, variable o.variables) ∷ other) _ _
    (force-more env other x (variable m.variables) (variable o.variables) (ap (λ v. variable v) g.variables) h)
    (record { variables = ap (λ v. v + 1) g.variables; skolem = g.skolem; naming = g.naming; defining = g.defining })

force-variables :
    (free : List (List ℕ)) (env other : Environment) → SameForce env other
    → flat_map (λ x. tree_variables (term_in_force env x)) free ≡ flat_map (λ x. tree_variables (term_in_force other x)) free
force-variables [] env other h = refl
force-variables (x ∷ free) env other h =
    ap₂ (λ vs ws. vs ++ ws)
    (sym (shape-variables (term_in_force env x)) ∙ ap tree_variables (h.at x) ∙ shape-variables (term_in_force other x))
    (force-variables free env other h)

arguments-same :
    (free : List (List ℕ)) (env other : Environment) (m o : Made) → SameForce env other → SameMade m o
    → skolem_arguments free env m ≡ skolem_arguments free other o
arguments-same free env other m o h g = ap₂ made_in_order g.variables (force-variables free env other h)

applied-same : (f g : ℕ) (vs ws : List ℕ) → vs ≡ ws → shape (applied f vs) ≡ shape (applied g ws)
applied-same f g vs ws e = ap (λ us. application 0 (shapes (trees_of (map variable us)))) e

skolem-scope :
    (n k : SymbolNumbers) (free xs : List (List ℕ)) (env other : Environment) (m o : Made) → SameForce env other → SameMade m o
    → SameScope (with_skolem_terms n free xs env m) (with_skolem_terms k free xs other o)
skolem-scope n k free [] env other m o h g = record { environment = h; made = g }
skolem-scope n k free (x ∷ xs) env other m o h g =
    let arguments = arguments-same (without_names (x ∷ xs) free) env other m o h g in
    skolem-scope n k free xs _ _ _ _
    (force-more env other x _ _ (applied-same (n.first_skolem + length m.skolem_arities) (k.first_skolem + length o.skolem_arities) _ _ arguments) h)
    (record {
      variables = g.variables;
      skolem = ap₂ (λ ps vs. ps ++ length vs ∷ []) g.skolem arguments;
      naming = g.naming;
      defining = g.defining;
    })

scope-same :
    (n k : SymbolNumbers) (new : Bool) (xs : List (List ℕ)) (body : FormulaTree) (env other : Environment) (m o : Made)
    → SameForce env other → SameMade m o → SameScope (scope_of n new xs body env m) (scope_of k new xs body other o)
scope-same n k true xs body env other m o h g = variables-scope xs env other m o h g
scope-same n k false xs body env other m o h g = skolem-scope n k (free_names body) xs env other m o h g

-- ---- products

named-same :
    (n k : SymbolNumbers) (began : ℕ) (cs ds : List Literals) (m o : Made) → SameClauses cs ds → SameMade m o
    → SameWorked (named n began cs m) (named k began ds o)
named-same n k began cs ds m o h g =
    record {
      clauses = ap (λ t. (atom_literal true t ∷ []) ∷ []) name;
      made =
          record {
            variables = g.variables;
            skolem = g.skolem;
            naming = ap₂ (λ ps vs. ps ++ length vs ∷ []) g.naming arguments;
            defining =
                joined-same m.defining o.defining _ _ g.defining
                (headed-shape (atom_literal false (applied (n.first_naming + length m.naming_arities) (made_in_order began (variables_in cs)))) cs
                ∙ ap₂ (λ t es. map (λ c. atom_literal false t ∷ c) es) name h
                ∙ sym (headed-shape (atom_literal false (applied (k.first_naming + length o.naming_arities) (made_in_order began (variables_in ds)))) ds));
          };
    }
  where
    arguments : made_in_order began (variables_in cs) ≡ made_in_order began (variables_in ds)
    arguments = ap (made_in_order began) (variables-same cs ds h)

    name :
        shape (applied (n.first_naming + length m.naming_arities) (made_in_order began (variables_in cs)))
        ≡ shape (applied (k.first_naming + length o.naming_arities) (made_in_order began (variables_in ds)))
    name = applied-same (n.first_naming + length m.naming_arities) (k.first_naming + length o.naming_arities) _ _ arguments

abbrev pub product_by : SymbolNumbers → ℕ → List Literals → List Literals → Bool → Bool → Made → Worked
product_by n began first second large longer m =
    if not large then record { clauses = all_pairs first second; made = m }
    else if longer then
    (let w : Worked = named n began second m in record { clauses = all_pairs first w.clauses; made = w.made })
    else (let w : Worked = named n began first m in record { clauses = all_pairs w.clauses second; made = w.made })

product-same :
    (n k : SymbolNumbers) (began : ℕ) (ps qs cs ds : List Literals) (m o : Made) → SameClauses ps qs → SameClauses cs ds → SameMade m o
    → SameWorked (product n began ps cs m) (product k began qs ds o)
product-same n k began ps qs cs ds m o h j g =
    subst (λ t. SameWorked (product_by n began ps cs (is_large ps cs) (nat_lt (length ps) (length cs)) m) (product_by k began qs ds t (nat_lt (length qs) (length ds)) o))
    (ap₂ (λ x y. nat_le 2 x && (nat_le 2 y && nat_lt 64 (x * y))) one other)
    (subst (λ u. SameWorked (product_by n began ps cs (is_large ps cs) (nat_lt (length ps) (length cs)) m) (product_by k began qs ds (is_large ps cs) u o))
    (ap₂ nat_lt one other) (by (is_large ps cs) (nat_lt (length ps) (length cs))))
  where
    one : length ps ≡ length qs
    one = length-same ps qs h

    other : length cs ≡ length ds
    other = length-same cs ds j

    by : (t u : Bool) → SameWorked (product_by n began ps cs t u m) (product_by k began qs ds t u o)
    by false u = record { clauses = pairs-same ps qs cs ds h j; made = g }
    by true true =
        let w = named-same n k began cs ds m o j g in
        record { clauses = pairs-same ps qs (named n began cs m).clauses (named k began ds o).clauses h w.clauses; made = w.made }
    by true false =
        let w = named-same n k began ps qs m o h g in
        record { clauses = pairs-same (named n began ps m).clauses (named k began qs o).clauses cs ds w.clauses j; made = w.made }

-- ---- formulas

work-joined :
    (n k : SymbolNumbers) (listed : Bool) (a b c d : Work) → SameWork a b → SameWork c d → SameWork (joined n listed a c) (joined k listed b d)
work-joined n k true a b c d h j =
    record {
      by =
          λ m o g.
          let w = h.by m o g in
          let v = j.by (a m).made (b o).made w.made in
          record {
            clauses = joined-same (a m).clauses (b o).clauses (c (a m).made).clauses (d (b o).made).clauses w.clauses v.clauses;
            made = v.made;
          };
    }
work-joined n k false a b c d h j =
    record {
      by =
          λ m o g.
          let w = h.by m o g in
          let v = j.by (a m).made (b o).made w.made in
          subst (λ began. SameWorked (product n m.variables (a m).clauses (c (a m).made).clauses (c (a m).made).made)
          (product k began (b o).clauses (d (b o).made).clauses (d (b o).made).made)) g.variables
          (product-same n k m.variables (a m).clauses (b o).clauses (c (a m).made).clauses (d (b o).made).clauses (c (a m).made).made (d (b o).made).made
          w.clauses v.clauses v.made);
    }

truth-same : (sign : Bool) → SameWork (truth_value sign) (truth_value sign)
truth-same true = record { by = λ m o g. record { clauses = refl; made = g } }
truth-same false = record { by = λ m o g. record { clauses = refl; made = g } }

literal-same : (l k : TreeLiteral) → literal_shape l ≡ literal_shape k → SameWork (one_literal l) (one_literal k)
literal-same l k e = record { by = λ m o g. record { clauses = ap (λ x. (x ∷ []) ∷ []) e; made = g } }

mutual
  formula-same :
      (n k : SymbolNumbers) (f : FormulaTree) (sign : Bool) (env other : Environment) → SameForce env other
      → SameWork (clauses_of n f sign env) (clauses_of k f sign other)
  formula-same n k truth sign env other h = record { by = (truth-same sign).by }
  formula-same n k falsity sign env other h = record { by = (truth-same (not sign)).by }
  formula-same n k (predicate p ts) sign env other h =
      record {
        by =
            (literal-same _ _
            (ap (λ us. atom_literal sign (application 0 us)) (terms-same n.symbols k.symbols env other h ts))).by;
      }
  formula-same n k (equation positive s t) sign env other h =
      record {
        by =
            (literal-same _ _
            (ap₂ (λ x y. let l : TreeLiteral = record { positive = beq positive sign; left = x; right = y } in l)
            (term-same n.symbols k.symbols env other h s) (term-same n.symbols k.symbols env other h t))).by;
      }
  formula-same n k (negation f) sign env other h = record { by = (formula-same n k f (not sign) env other h).by }
  formula-same n k (conjunction fs) true env other h = record { by = (listed-same n k fs true env other h).by }
  formula-same n k (conjunction fs) false env other h =
      record {
        by =
            λ m o g.
            subst (λ began. SameWorked (product_clauses n m.variables ([] ∷ []) fs false env m) (product_clauses k began ([] ∷ []) fs false other o))
            g.variables (products-same n k m.variables ([] ∷ []) ([] ∷ []) fs false env other m o refl h g);
      }
  formula-same n k (disjunction fs) true env other h =
      record {
        by =
            λ m o g.
            subst (λ began. SameWorked (product_clauses n m.variables ([] ∷ []) fs true env m) (product_clauses k began ([] ∷ []) fs true other o))
            g.variables (products-same n k m.variables ([] ∷ []) ([] ∷ []) fs true env other m o refl h g);
      }
  formula-same n k (disjunction fs) false env other h = record { by = (listed-same n k fs false env other h).by }
  formula-same n k (connected implies f g) sign env other h =
      record { by = (work-joined n k (not sign) _ _ _ _ (formula-same n k f (not sign) env other h) (formula-same n k g sign env other h)).by }
  formula-same n k (connected implied f g) sign env other h =
      record { by = (work-joined n k (not sign) _ _ _ _ (formula-same n k f sign env other h) (formula-same n k g (not sign) env other h)).by }
  formula-same n k (connected nor f g) sign env other h =
      record { by = (work-joined n k sign _ _ _ _ (formula-same n k f (not sign) env other h) (formula-same n k g (not sign) env other h)).by }
  formula-same n k (connected nand f g) sign env other h =
      record { by = (work-joined n k (not sign) _ _ _ _ (formula-same n k f (not sign) env other h) (formula-same n k g (not sign) env other h)).by }
  formula-same n k (connected equivalent f g) sign env other h =
      record {
        by =
            (work-joined n k true _ _ _ _
            (work-joined n k false _ _ _ _ (formula-same n k f (not sign) env other h) (formula-same n k g true env other h))
            (work-joined n k false _ _ _ _ (formula-same n k f sign env other h) (formula-same n k g false env other h))).by;
      }
  formula-same n k (connected different f g) sign env other h =
      record {
        by =
            (work-joined n k true _ _ _ _
            (work-joined n k false _ _ _ _ (formula-same n k f sign env other h) (formula-same n k g true env other h))
            (work-joined n k false _ _ _ _ (formula-same n k f (not sign) env other h) (formula-same n k g false env other h))).by;
      }
  formula-same n k (quantified q xs f) sign env other h =
      record {
        by =
            λ m o g.
            let s : Scope = scope_of n (makes_variables q sign) xs f env m in
            let t : Scope = scope_of k (makes_variables q sign) xs f other o in
            let both = scope-same n k (makes_variables q sign) xs f env other m o h g in
            (formula-same n k f sign s.environment t.environment both.environment).by s.made t.made both.made;
      }

  listed-same :
      (n k : SymbolNumbers) (fs : FormulaTrees) (sign : Bool) (env other : Environment) → SameForce env other
      → SameWork (listed_clauses n fs sign env) (listed_clauses k fs sign other)
  listed-same n k no_formulas sign env other h = record { by = (truth-same true).by }
  listed-same n k (formula_then f fs) sign env other h =
      record { by = (work-joined n k true _ _ _ _ (formula-same n k f sign env other h) (listed-same n k fs sign env other h)).by }

  products-same :
      (n k : SymbolNumbers) (began : ℕ) (cs ds : List Literals) (fs : FormulaTrees) (sign : Bool) (env other : Environment) (m o : Made)
      → SameClauses cs ds → SameForce env other → SameMade m o
      → SameWorked (product_clauses n began cs fs sign env m) (product_clauses k began ds fs sign other o)
  products-same n k began cs ds no_formulas sign env other m o e h g = record { clauses = e; made = g }
  products-same n k began cs ds (formula_then f fs) sign env other m o e h g =
      let x : Worked = clauses_of n f sign env m in
      let y : Worked = clauses_of k f sign other o in
      let w = (formula-same n k f sign env other h).by m o g in
      let v = product-same n k began cs ds x.clauses y.clauses x.made y.made e w.clauses w.made in
      let p : Worked = product n began cs x.clauses x.made in
      let q : Worked = product k began ds y.clauses y.made in
      products-same n k began p.clauses q.clauses fs sign env other p.made q.made v.clauses h v.made

-- ---- problems

annotated-same :
    (n k : SymbolNumbers) (a : Annotated) (m o : Made) → SameMade m o → SameWorked (annotated_clauses n a m) (annotated_clauses k a o)
annotated-same n k a m o g =
    let w = (formula-same n k (closed a) (not (is_conjecture a.role)) [] [] (record { at = λ x. refl })).by (begun m) (begun o)
    (record { variables = refl; skolem = g.skolem; naming = g.naming; defining = refl }) in
    let x : Worked = clauses_of n (closed a) (not (is_conjecture a.role)) [] (begun m) in
    let y : Worked = clauses_of k (closed a) (not (is_conjecture a.role)) [] (begun o) in
    record { clauses = joined-same x.clauses y.clauses x.made.defining y.made.defining w.clauses w.made.defining; made = w.made }

fault-same :
    (n k : SymbolNumbers) (a : Annotated) (counted : ℕ) (m o : Made) → SameMade m o → formula_fault n a counted m ≡ formula_fault k a counted o
fault-same n k a counted m o g =
    let w = annotated-same n k a m o g in
    ap (λ c. if nat_lt MOST_EXPANDED (expanded_count (formula_of a.formula)) then Some Expansion else c)
    (ap₂ limit_fault (largest-same (annotated_clauses n a m).clauses (annotated_clauses k a o).clauses w.clauses)
    (ap₂ (λ x y. counted + x + length y) (counted-same (annotated_clauses n a m).clauses (annotated_clauses k a o).clauses w.clauses) w.made.skolem))

faults-same :
    (n k : SymbolNumbers) (fs : List Annotated) (counted : ℕ) (m o : Made) → SameMade m o
    → first_fault n fs counted m ≡ first_fault k fs counted o
faults-same n k [] counted m o g = refl
faults-same n k (a ∷ fs) counted m o g =
    let w = annotated-same n k a m o g in
    ap₂ (λ c rest. fault_or c a.name rest) (fault-same n k a counted m o g)
    (ap (λ x. first_fault n fs (counted + x) (annotated_clauses n a m).made)
    (counted-same (annotated_clauses n a m).clauses (annotated_clauses k a o).clauses w.clauses)
    ∙ faults-same n k fs (counted + counted_in (annotated_clauses k a o).clauses) (annotated_clauses n a m).made (annotated_clauses k a o).made w.made)

pub sizes-without-numbers :
    (n k : SymbolNumbers) (fs : List Annotated) (counted : ℕ) (m : Made) → first_fault n fs counted m ≡ first_fault k fs counted m
sizes-without-numbers n k fs counted m = faults-same n k fs counted m m (record { variables = refl; skolem = refl; naming = refl; defining = refl })
