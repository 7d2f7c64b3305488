-- Works on matrices, as the program's naming does them step by step.
use Rattle.std.proofs.Common.{◌≡◌, ℕ, ◌+◌, ◌<◌, ◌≤◌, Bool, true, false, not, List, [], ◌∷◌, ◌++◌, length, map, refl, ap, sym, ◌∙◌, append-nil, append_assoc, arith}
use Rattle.std.specs.Prelude.{nat_lt, if◌then◌else◌}
use Rattle.std.proofs.lemmas.Bool.{lt-ltb}
use Rattle.fol_base.specs.Tree.{Tree, true_tree}
use Rattle.fol_base.specs.Clause.{TreeLiteral}
use Rattle.signature.specs.Clausal.{SymbolNumbers, Made, Worked, Literals, all_pairs, atom_literal, applied, made_in_order, named, is_large_count, product}
use Rattle.skolem.specs.Matrix.{MatrixTree, matrix_size, matrices_size, matrices_of}
use Rattle.skolem.specs.Shape.{matrix_tree}
use Rattle.skolem.specs.declared.matrix.Matrix.{Matrix}
use Rattle.skolem.specs.MatrixClauses.{matrix_clauses, listed_matrices, product_of_matrices}
use Rattle.clausal_form.specs.Measure.{ClauseMeasure, capped_measured}
use Rattle.clausal_form.specs.Occurring.{clauses_variables}
use Rattle.clausal_form.specs.Naming.{IsMeasured, IsWork, defining_clauses, naming_made, naming_numbers}
use Rattle.clausal_form.specs.declared.measure.Measure.{Measure}
use Rattle.clausal_form.specs.declared.naming.Naming.{Naming}
use Rattle.list_lemmas.proofs.Numbers.{not-less}

-- ---- one after another

abbrev listed_left : SymbolNumbers → List Matrix → Naming → Worked
listed_left n ms s = listed_matrices n (matrices_of (map matrix_tree ms)) (naming_made s)

-- the clauses that are there and those of the matrices that are left are all
pub record IsListing (n : SymbolNumbers) (ms : List Matrix) (s : Naming) (cs : List Literals) (all : Worked) : Type 0 where
  pub clauses : cs ++ (listed_left n ms s).clauses ≡ all.clauses
  pub made : (listed_left n ms s).made ≡ all.made

pub listing-begin :
    (n : SymbolNumbers) (ms : List Matrix) (all : List MatrixTree) (s : Naming) → map matrix_tree ms ≡ all
    → IsListing n ms s [] (listed_matrices n (matrices_of all) (naming_made s))
listing-begin n ms all s e =
    record {
      clauses = ap (λ us. (listed_matrices n (matrices_of us) (naming_made s)).clauses) e;
      made = ap (λ us. (listed_matrices n (matrices_of us) (naming_made s)).made) e;
    }

-- the first matrix of a list, and those that are left
pub first-size :
    (ms rest : List Matrix) (m : Matrix) → ms ≡ m ∷ rest
    → matrices_size (matrices_of (map matrix_tree ms)) ≡ matrix_size (matrix_tree m) + matrices_size (matrices_of (map matrix_tree rest))
first-size ms rest m e = ap (λ ns. matrices_size (matrices_of (map matrix_tree ns))) e

pub listing-then :
    (first : ℕ) (ms rest : List Matrix) (m : Matrix) (old new : Naming) (before after cs : List Literals) (a : Measure) (all : Worked)
    → ms ≡ m ∷ rest → old.first ≡ first
    → IsWork new (matrix_clauses (naming_numbers old.first) (matrix_tree m) (naming_made old)) cs a
    → after ≡ before ++ cs
    → IsListing (naming_numbers first) ms old before all
    → IsListing (naming_numbers first) rest new after all
listing-then first ms rest m old new before after cs a all e f w g l =
    record {
      clauses =
          ap (λ xs. xs ++ later.clauses) g ∙ append_assoc before cs later.clauses
          ∙ ap (λ xs. before ++ (xs ++ later.clauses)) here
          ∙ ap (λ (m : Made). before ++ (one.clauses ++ (listed_matrices n left m).clauses)) made
          ∙ ap (λ (v : Worked). before ++ v.clauses) (sym whole) ∙ l.clauses;
      made = ap (λ (m : Made). (listed_matrices n left m).made) made ∙ ap (λ (v : Worked). v.made) (sym whole) ∙ l.made;
    }
  where
    n : SymbolNumbers
    n = naming_numbers first

    left : Rattle.skolem.specs.Matrix.MatrixTrees
    left = matrices_of (map matrix_tree rest)

    one : Worked
    one = matrix_clauses n (matrix_tree m) (naming_made old)

    later : Worked
    later = listed_matrices n left (naming_made new)

    here : cs ≡ one.clauses
    here = w.clauses ∙ ap (λ k. (matrix_clauses (naming_numbers k) (matrix_tree m) (naming_made old)).clauses) f

    made : naming_made new ≡ one.made
    made = w.made ∙ ap (λ k. (matrix_clauses (naming_numbers k) (matrix_tree m) (naming_made old)).made) f

    whole : listed_left n ms old ≡ record { clauses = one.clauses ++ (listed_matrices n left one.made).clauses; made = (listed_matrices n left one.made).made }
    whole = ap (λ ns. listed_left n ns old) e

pub listing-end :
    (n : SymbolNumbers) (ms : List Matrix) (s : Naming) (cs : List Literals) (a : Measure) (all : Worked)
    → ms ≡ [] → IsListing n ms s cs all → IsMeasured a cs → IsMeasured s.measure (defining_clauses s)
    → IsWork s all cs a
listing-end n ms s cs a all e l k d =
    record {
      clauses = sym (append-nil cs) ∙ ap (λ ns. cs ++ (listed_left n ns s).clauses) (sym e) ∙ l.clauses;
      made = ap (λ ns. (listed_left n ns s).made) (sym e) ∙ l.made;
      measured = k;
      defining = d;
    }

-- ---- products

abbrev product_left : SymbolNumbers → ℕ → List Literals → List Matrix → Naming → Worked
product_left n began cs ms s = product_of_matrices n began cs (matrices_of (map matrix_tree ms)) (naming_made s)

pub product-then :
    (first began : ℕ) (ms rest : List Matrix) (m : Matrix) (old mid new : Naming) (before cs after : List Literals) (a b : Measure) (all : Worked)
    → ms ≡ m ∷ rest → old.first ≡ first → mid.first ≡ old.first
    → IsWork mid (matrix_clauses (naming_numbers old.first) (matrix_tree m) (naming_made old)) cs a
    → IsWork new (product (naming_numbers mid.first) began before cs (naming_made mid)) after b
    → product_left (naming_numbers first) began before ms old ≡ all
    → product_left (naming_numbers first) began after rest new ≡ all
product-then first began ms rest m old mid new before cs after a b all e f g w v l =
    ap (λ ds. product_left n began ds rest new) (v.clauses ∙ ap (λ (u : Worked). u.clauses) second)
    ∙ ap (product_of_matrices n began two.clauses (matrices_of (map matrix_tree rest))) (v.made ∙ ap (λ (u : Worked). u.made) second)
    ∙ ap (λ ns. product_left n began before ns old) (sym e) ∙ l
  where
    n : SymbolNumbers
    n = naming_numbers first

    one : Worked
    one = matrix_clauses n (matrix_tree m) (naming_made old)

    two : Worked
    two = product n began before one.clauses one.made

    here : cs ≡ one.clauses
    here = w.clauses ∙ ap (λ k. (matrix_clauses (naming_numbers k) (matrix_tree m) (naming_made old)).clauses) f

    made : naming_made mid ≡ one.made
    made = w.made ∙ ap (λ k. (matrix_clauses (naming_numbers k) (matrix_tree m) (naming_made old)).made) f

    second : product (naming_numbers mid.first) began before cs (naming_made mid) ≡ two
    second =
        ap (λ k. product (naming_numbers k) began before cs (naming_made mid)) (g ∙ f)
        ∙ ap (λ ds. product n began before ds (naming_made mid)) here ∙ ap (product n began before one.clauses) made

pub product-end :
    (n : SymbolNumbers) (began : ℕ) (ms : List Matrix) (s : Naming) (cs : List Literals) (a : Measure) (all : Worked)
    → ms ≡ [] → product_left n began cs ms s ≡ all → IsMeasured a cs → IsMeasured s.measure (defining_clauses s)
    → IsWork s all cs a
product-end n began ms s cs a all e l k d =
    record {
      clauses = ap (λ (w : Worked). w.clauses) whole;
      made = ap (λ (w : Worked). w.made) whole;
      measured = k;
      defining = d;
    }
  where
    done : Worked
    done = record { clauses = cs; made = naming_made s }

    whole : done ≡ all
    whole = ap (λ ns. product_left n began cs ns s) (sym e) ∙ l

-- ---- one product

pub large-so :
    (a b : Measure) (first second : List Literals) (t : Bool)
    → IsMeasured a first → IsMeasured b second → is_large_count a.clauses b.clauses ≡ t → is_large_count (length first) (length second) ≡ t
large-so a b first second t h k e =
    ap (λ x. is_large_count x (length second)) (sym (ap (λ (m : ClauseMeasure). m.clauses) h))
    ∙ ap (λ x. is_large_count a.clauses x) (sym (ap (λ (m : ClauseMeasure). m.clauses) k)) ∙ e

pub shorter-so :
    (a b : Measure) (first second : List Literals) → IsMeasured a first → IsMeasured b second → a.clauses < b.clauses
    → nat_lt (length first) (length second) ≡ true
shorter-so a b first second h k e =
    lt-ltb (length first) (length second)
    (omega (arith, e, ap (λ (m : ClauseMeasure). m.clauses) h, ap (λ (m : ClauseMeasure). m.clauses) k))

pub longer-so :
    (a b : Measure) (first second : List Literals) → IsMeasured a first → IsMeasured b second → b.clauses ≤ a.clauses
    → nat_lt (length first) (length second) ≡ false
longer-so a b first second h k e =
    not-less (length first) (length second)
    (omega (arith, e, ap (λ (m : ClauseMeasure). m.clauses) h, ap (λ (m : ClauseMeasure). m.clauses) k))

abbrev chosen : SymbolNumbers → ℕ → List Literals → List Literals → Made → Bool → Bool → Worked
chosen n began first second m large shorter =
    if not large then record { clauses = all_pairs first second; made = m }
    else if shorter then
    (let w : Worked = named n began second m in record { clauses = all_pairs first w.clauses; made = w.made })
    else (let w : Worked = named n began first m in record { clauses = all_pairs w.clauses second; made = w.made })

chosen-so :
    (n : SymbolNumbers) (began : ℕ) (first second : List Literals) (m : Made) (large shorter : Bool)
    → is_large_count (length first) (length second) ≡ large → nat_lt (length first) (length second) ≡ shorter
    → product n began first second m ≡ chosen n began first second m large shorter
chosen-so n began first second m large shorter h k =
    ap (λ t. chosen n began first second m t (nat_lt (length first) (length second))) h
    ∙ ap (chosen n began first second m large) k

pub work-plain :
    (n : SymbolNumbers) (began : ℕ) (s : Naming) (first second cs : List Literals) (a : Measure)
    → is_large_count (length first) (length second) ≡ false
    → cs ≡ all_pairs first second → IsMeasured a (all_pairs first second) → IsMeasured s.measure (defining_clauses s)
    → IsWork s (product n began first second (naming_made s)) cs a
work-plain n began s first second cs a l h k d =
    let e : product n began first second (naming_made s) ≡ record { clauses = all_pairs first second; made = naming_made s } =
    chosen-so n began first second (naming_made s) false (nat_lt (length first) (length second)) l refl in
    record {
      clauses = h ∙ ap (λ (w : Worked). w.clauses) (sym e);
      made = ap (λ (w : Worked). w.made) (sym e);
      measured = k ∙ ap capped_measured (sym h);
      defining = d;
    }

pub work-second :
    (n : SymbolNumbers) (began : ℕ) (s : Naming) (m : Made) (first second name cs : List Literals) (a b : Measure)
    → is_large_count (length first) (length second) ≡ true → nat_lt (length first) (length second) ≡ true
    → IsWork s (named n began second m) name a
    → cs ≡ all_pairs first name → IsMeasured b (all_pairs first name)
    → IsWork s (product n began first second m) cs b
work-second n began s m first second name cs a b l t w h k =
    let e : product n began first second m ≡ chosen n began first second m true true = chosen-so n began first second m true true l t in
    record {
      clauses = h ∙ ap (all_pairs first) w.clauses ∙ ap (λ (v : Worked). v.clauses) (sym e);
      made = w.made ∙ ap (λ (v : Worked). v.made) (sym e);
      measured = k ∙ ap capped_measured (sym h);
      defining = w.defining;
    }

pub work-first :
    (n : SymbolNumbers) (began : ℕ) (s : Naming) (m : Made) (first second name cs : List Literals) (a b : Measure)
    → is_large_count (length first) (length second) ≡ true → nat_lt (length first) (length second) ≡ false
    → IsWork s (named n began first m) name a
    → cs ≡ all_pairs name second → IsMeasured b (all_pairs name second)
    → IsWork s (product n began first second m) cs b
work-first n began s m first second name cs a b l t w h k =
    let e : product n began first second m ≡ chosen n began first second m true false = chosen-so n began first second m true false l t in
    record {
      clauses = h ∙ ap (λ ds. all_pairs ds second) w.clauses ∙ ap (λ (v : Worked). v.clauses) (sym e);
      made = w.made ∙ ap (λ (v : Worked). v.made) (sym e);
      measured = k ∙ ap capped_measured (sym h);
      defining = w.defining;
    }

-- ---- one name

atom : (sign : Bool) (l : TreeLiteral) (name : Tree) → l.positive ≡ sign → l.left ≡ name → l.right ≡ true_tree → l ≡ atom_literal sign name
atom sign l name h k e = λ i. record { positive = h i; left = k i; right = e i }

pub name-work :
    (first began : ℕ) (old new : Naming) (cs name : List Literals) (arguments : List ℕ) (symbol arity : ℕ) (term : Tree)
    (plain negated : TreeLiteral) (a : Measure)
    → arguments ≡ made_in_order began (clauses_variables cs)
    → symbol ≡ first + length old.arities.items → arity ≡ length arguments → term ≡ applied symbol arguments
    → plain.positive ≡ true → plain.left ≡ term → plain.right ≡ true_tree
    → negated.positive ≡ false → negated.left ≡ term → negated.right ≡ true_tree
    → new.arities.items ≡ old.arities.items ++ arity ∷ []
    → defining_clauses new ≡ defining_clauses old ++ map (λ c. negated ∷ c) cs
    → IsMeasured new.measure (defining_clauses new)
    → name ≡ (plain ∷ []) ∷ [] → IsMeasured a ((plain ∷ []) ∷ [])
    → IsWork new (named (naming_numbers first) began cs (naming_made old)) name a
name-work first began old new cs name arguments symbol arity term plain negated a g s r t pp pl pr np nl nr ar d dm h k =
    record {
      clauses = h ∙ ap (λ l. (l ∷ []) ∷ []) (atom true plain whole pp (pl ∙ same) pr);
      made =
          λ i. record {
            variables = 0;
            skolem_arities = [];
            naming_arities = (ar ∙ ap (λ x. old.arities.items ++ x ∷ []) (r ∙ ap length g)) i;
            defining = (d ∙ ap (λ l. defining_clauses old ++ map (λ c. l ∷ c) cs) (atom false negated whole np (nl ∙ same) nr)) i;
          };
      measured = k ∙ ap capped_measured (sym h);
      defining = dm;
    }
  where
    whole : Tree
    whole = applied (first + length old.arities.items) (made_in_order began (clauses_variables cs))

    same : term ≡ whole
    same = t ∙ ap (λ x. applied x arguments) s ∙ ap (applied (first + length old.arities.items)) g
