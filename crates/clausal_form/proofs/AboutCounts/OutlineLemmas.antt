-- The outline of a matrix tells how many clauses it has, how large they and those that define names are, and which variables are in them.
use Rattle.std.proofs.Common.{◌≡◌, ℕ, zero, suc, ◌+◌, ◌*◌, ◌≤◌, ◌==◌, Bool, true, false, ◌&&◌, ◌||◌, List, [], ◌∷◌, ◌++◌, length, map, refl, ap, sym, subst, ◌∙◌, append-nil, append_assoc, arith}
use Rattle.std.specs.Prelude.{max, nat_le, nat_lt, not, if◌then◌else◌}
use Rattle.std.specs.List.{list_any}
use Rattle.std.proofs.lemmas.Bool.{and_parts, eq-eqb, eqb-true, leb-true, ne_eqb, true≢false}
use Rattle.std.proofs.lemmas.List.Sums.{sum_by-cons}
use Rattle.fol_base.specs.Tree.{variable, trees_of, trees_variables}
use Rattle.fol_base.specs.Clause.{TreeLiteral, literal_size, literal_variables}
use Rattle.signature.specs.Clausal.{SymbolNumbers, Made, Worked, Literals, all_pairs, is_large, is_large_count, named, product, applied, atom_literal, made_in_order}
use Rattle.skolem.specs.Matrix.{MatrixTree, truth as true_matrix, falsity as false_matrix, literal, conjunction as all_of, disjunction as some_of, MatrixTrees, no_matrices, matrix_then}
use Rattle.skolem.specs.MatrixClauses.{matrix_clauses, listed_matrices, product_of_matrices}
use Rattle.skolem.specs.Outline.{ClauseOutline, constant_outline, sum_outline, pairs_outline_of, pairs_outline, name_size, named_outline, product_outline, outline_of, outlines_of}
use Rattle.skolem.proofs.AboutBindings.BoundTermLemmas.{variables-of, sizes-of}
use Rattle.clausal_form.specs.Occurring.{clauses_variables}
use Rattle.clausal_form.specs.Measure.{literals_size, largest, product_largest}
use Rattle.clausal_form.proofs.AboutNaming.OccurringLemmas.{is_some, any-lists, any-pairs, Same, same-order}
use Rattle.clausal_form.proofs.AboutCounts.MeasureLemmas.{largest-append, before-largest, pairs-length, pairs-largest, some-largest}
use Rattle.list_lemmas.proofs.Tests.{any-joined}
use Rattle.list_lemmas.proofs.Lists.{length-joined}
use Rattle.list_lemmas.proofs.Numbers.{times-none, max-none}

pub record Tells (t : ClauseOutline) (cs : List Literals) : Type 0 where
  pub clauses : length cs ≡ t.clauses
  pub largest : largest cs ≡ t.largest
  pub variables : Same (clauses_variables cs) t.variables

-- with the clauses that define names, of which the largest was that large before
pub record TellsWork (t : ClauseOutline) (before : ℕ) (w : Worked) : Type 0 where
  pub own : Tells t w.clauses
  pub defining : largest w.made.defining ≡ max before t.defining

-- ---- lists

tells-sum : (t u : ClauseOutline) (cs ds : List Literals) → Tells t cs → Tells u ds → Tells (sum_outline t u) (cs ++ ds)
tells-sum t u cs ds h k =
    record {
      clauses = omega (arith, length-joined cs ds, h.clauses, k.clauses);
      largest = omega (arith, largest-append cs ds, h.largest, k.largest);
      variables = λ p.
          any-lists p cs ds ∙ ap (λ b. b || list_any p (clauses_variables ds)) (h.variables p)
          ∙ ap (λ b. list_any p t.variables || b) (k.variables p) ∙ sym (any-joined p t.variables u.variables);
    }

-- ---- products

-- a list is not empty where it is counted
some-of : (cs : List Literals) (n : ℕ) → length cs ≡ n → (n == 0) ≡ false → is_some cs ≡ true
some-of [] n h k = absurd (true≢false (sym (eq-eqb n 0 (sym h)) ∙ k))
some-of (c ∷ cs) n h k = refl

none-times : (b : ℕ) → 0 * b ≡ 0
none-times b = omega arith

times-some : (a b : ℕ) → (a * b == 0) ≡ false → ((a == 0) ≡ false) × ((b == 0) ≡ false)
times-some zero b h = absurd (true≢false (sym (eq-eqb (0 * b) 0 (none-times b)) ∙ h))
times-some (suc a) zero h = absurd (true≢false (sym (eq-eqb (suc a * 0) 0 (times-none (suc a))) ∙ h))
times-some (suc a) (suc b) h = (ne_eqb (suc a) 0 (λ q. omega (arith, q)), ne_eqb (suc b) 0 (λ q. omega (arith, q)))

none-of : (cs : List Literals) → length cs ≡ 0 → cs ≡ []
none-of [] h = refl
none-of (c ∷ cs) h = absurd (omega (arith, h))

tells-pairs : (t u : ClauseOutline) (cs ds : List Literals) → Tells t cs → Tells u ds → Tells (pairs_outline t u) (all_pairs cs ds)
tells-pairs t u cs ds h k = by (t.clauses * u.clauses == 0) refl
  where
    count : length (all_pairs cs ds) ≡ t.clauses * u.clauses
    count = pairs-length cs ds ∙ (λ i. h.clauses i * k.clauses i)

    by : (b : Bool) → (t.clauses * u.clauses == 0) ≡ b → Tells (pairs_outline_of b t u) (all_pairs cs ds)
    by true e =
        let none : all_pairs cs ds ≡ [] = none-of (all_pairs cs ds) (count ∙ eqb-true (t.clauses * u.clauses) 0 e) in
        record {
          clauses = ap length none;
          largest = ap largest none;
          variables = λ p. ap (λ es. list_any p (clauses_variables es)) none;
        }
    by false e =
        let parts : ((t.clauses == 0) ≡ false) × ((u.clauses == 0) ≡ false) = times-some t.clauses u.clauses e in
        let first : is_some cs ≡ true = some-of cs t.clauses h.clauses parts.0 in
        let second : is_some ds ≡ true = some-of ds u.clauses k.clauses parts.1 in
        record {
          clauses = count;
          largest =
              pairs-largest cs ds
              ∙ ap (λ n. product_largest n (largest cs + largest ds)) (λ i. h.clauses i * k.clauses i)
              ∙ sized (t.clauses * u.clauses) e
              ∙ (λ i. h.largest i + k.largest i);
          variables = λ p.
              any-pairs p cs ds
              ∙ ap (λ b. (b && is_some ds) && (list_any p (clauses_variables cs) || list_any p (clauses_variables ds))) first
              ∙ ap (λ b. b && (list_any p (clauses_variables cs) || list_any p (clauses_variables ds))) second
              ∙ ap (λ b. b || list_any p (clauses_variables ds)) (h.variables p)
              ∙ ap (λ b. list_any p t.variables || b) (k.variables p)
              ∙ sym (any-joined p t.variables u.variables);
        }
      where
        sized : (n : ℕ) → (n == 0) ≡ false → product_largest n (largest cs + largest ds) ≡ largest cs + largest ds
        sized zero f = cc
        sized (suc n) f = refl

pairs-defining : (t u : ClauseOutline) → (pairs_outline t u).defining ≡ max t.defining u.defining
pairs-defining t u = by (t.clauses * u.clauses == 0)
  where
    by : (b : Bool) → (pairs_outline_of b t u).defining ≡ max t.defining u.defining
    by true = refl
    by false = refl

-- ---- names

name-literal-size : (symbol : ℕ) (sign : Bool) (vs : List ℕ) → literal_size (atom_literal sign (applied symbol vs)) ≡ length vs + 2
name-literal-size symbol sign vs = omega (arith, sizes-of vs)

name-literal-variables : (symbol : ℕ) (sign : Bool) (vs : List ℕ) → literal_variables (atom_literal sign (applied symbol vs)) ≡ vs
name-literal-variables symbol sign vs = append-nil (trees_variables (trees_of (map variable vs))) ∙ variables-of vs

-- the name of a list with clauses
tells-named :
    (n : SymbolNumbers) (began before : ℕ) (u : ClauseOutline) (ds : List Literals) (m : Made)
    → Tells u ds → 1 ≤ u.clauses → largest m.defining ≡ max before u.defining → TellsWork (named_outline began u) before (named n began ds m)
tells-named n began before u ds m k o d =
    record {
      own =
          record {
            clauses = refl;
            largest = omega (arith, sum_by-cons literal_size (name true) [], size true);
            variables = λ p.
                ap (list_any p)
                (append-nil (literal_variables (name true) ++ []) ∙ append-nil (literal_variables (name true))
                ∙ name-literal-variables symbol true arguments ∙ same);
          };
      defining =
          largest-append m.defining (map (λ c. name false ∷ c) ds)
          ∙ ap (λ x. max (largest m.defining) x)
          (before-largest (name false ∷ []) ds ∙ some-largest (length ds) _ (omega (arith, o, k.clauses)))
          ∙ total;
    }
  where
    arguments : List ℕ
    arguments = made_in_order began (clauses_variables ds)

    symbol : ℕ
    symbol = n.first_naming + length m.naming_arities

    name : Bool → TreeLiteral
    name sign = atom_literal sign (applied symbol arguments)

    same : arguments ≡ made_in_order began u.variables
    same = same-order began (clauses_variables ds) u.variables k.variables

    size : (sign : Bool) → literal_size (name sign) ≡ name_size began u.variables
    size sign = name-literal-size symbol sign arguments ∙ ap (λ vs. length vs + 2) same

    total :
        max (largest m.defining) (literals_size (name false ∷ []) + largest ds)
        ≡ max before (max u.defining (name_size began u.variables + u.largest))
    total = omega (arith, d, k.largest, sum_by-cons literal_size (name false) [], size false)

abbrev product_by : SymbolNumbers → ℕ → List Literals → List Literals → Bool → Bool → Made → Worked
product_by n began first second large longer m =
    if not large then record { clauses = all_pairs first second; made = m }
    else if longer then
    (let w : Worked = named n began second m in record { clauses = all_pairs first w.clauses; made = w.made })
    else (let w : Worked = named n began first m in record { clauses = all_pairs w.clauses second; made = w.made })

abbrev outline_by : ℕ → Bool → Bool → ClauseOutline → ClauseOutline → ClauseOutline
outline_by began large longer t u =
    if large then (if longer then pairs_outline t (named_outline began u) else pairs_outline (named_outline began t) u) else pairs_outline t u

pub tells-product :
    (n : SymbolNumbers) (began before : ℕ) (t u : ClauseOutline) (cs ds : List Literals) (m : Made)
    → Tells t cs → Tells u ds → largest m.defining ≡ max before (max t.defining u.defining)
    → TellsWork (product_outline began t u) before (product n began cs ds m)
tells-product n began before t u cs ds m h k d =
    subst (λ (v : ClauseOutline). TellsWork v before (product n began cs ds m))
    (λ i. outline_by began (is_large_count (h.clauses i) (k.clauses i)) (nat_lt (h.clauses i) (k.clauses i)) t u)
    (by (is_large cs ds) (nat_lt (length cs) (length ds)) refl)
  where
    both-some : is_large cs ds ≡ true → (1 ≤ t.clauses) × (1 ≤ u.clauses)
    both-some e =
        let first : (nat_le 2 (length cs) ≡ true) × ((nat_le 2 (length ds) && nat_lt 64 (length cs * length ds)) ≡ true) = and_parts _ _ e in
        let second : (nat_le 2 (length ds) ≡ true) × (nat_lt 64 (length cs * length ds) ≡ true) = and_parts _ _ first.1 in
        (omega (arith, leb-true 2 (length cs) first.0, h.clauses), omega (arith, leb-true 2 (length ds) second.0, k.clauses))

    by : (large longer : Bool) → is_large cs ds ≡ large → TellsWork (outline_by began large longer t u) before (product_by n began cs ds large longer m)
    by false longer e =
        record {
          own = tells-pairs t u cs ds h k;
          defining = omega (arith, d, pairs-defining t u);
        }
    by true true e =
        let w : TellsWork (named_outline began u) (max before t.defining) (named n began ds m) =
        tells-named n began (max before t.defining) u ds m k (both-some e).1 (omega (arith, d)) in
        record {
          own = tells-pairs t (named_outline began u) cs (named n began ds m).clauses h w.own;
          defining = omega (arith, w.defining, pairs-defining t (named_outline began u));
        }
    by true false e =
        let w : TellsWork (named_outline began t) (max before u.defining) (named n began cs m) =
        tells-named n began (max before u.defining) t cs m h (both-some e).0 (omega (arith, d)) in
        record {
          own = tells-pairs (named_outline began t) u (named n began cs m).clauses ds w.own k;
          defining = omega (arith, w.defining, pairs-defining (named_outline began t) u);
        }

-- ---- matrices

mutual
  pub tells : (n : SymbolNumbers) (x : MatrixTree) (m : Made) → TellsWork (outline_of x) (largest m.defining) (matrix_clauses n x m)
  tells n true_matrix m = record { own = record { clauses = refl; largest = refl; variables = λ p. refl }; defining = max-none (largest m.defining) }
  tells n false_matrix m = record { own = record { clauses = refl; largest = refl; variables = λ p. refl }; defining = max-none (largest m.defining) }
  tells n (literal l) m =
      record {
        own =
            record {
              clauses = refl;
              largest = omega (arith, sum_by-cons literal_size l []);
              variables = λ p. ap (list_any p) (append-nil (literal_variables l ++ []) ∙ append-nil (literal_variables l));
            };
        defining = max-none (largest m.defining);
      }
  tells n (all_of xs) m =
      tells-listed n xs m [] (constant_outline true) (largest m.defining)
      (record { clauses = refl; largest = refl; variables = λ p. refl }) (max-none (largest m.defining))
  tells n (some_of began xs) m =
      tells-products n began xs m ([] ∷ []) (constant_outline false) (largest m.defining)
      (record { clauses = refl; largest = refl; variables = λ p. refl }) (max-none (largest m.defining))

  tells-listed :
      (n : SymbolNumbers) (xs : MatrixTrees) (m : Made) (cs : List Literals) (t : ClauseOutline) (before : ℕ)
      → Tells t cs → largest m.defining ≡ max before t.defining
      → TellsWork (outlines_of true 0 t xs) before (record { clauses = cs ++ (listed_matrices n xs m).clauses; made = (listed_matrices n xs m).made })
  tells-listed n no_matrices m cs t before h d =
      record { own = subst (Tells t) (sym (append-nil cs)) h; defining = d }
  tells-listed n (matrix_then x xs) m cs t before h d =
      let w : Worked = matrix_clauses n x m in
      let v : Worked = listed_matrices n xs w.made in
      let own : TellsWork (outline_of x) (largest m.defining) w = tells n x m in
      let rest : TellsWork (outlines_of true 0 (sum_outline t (outline_of x)) xs) before (record { clauses = (cs ++ w.clauses) ++ v.clauses; made = v.made }) =
      tells-listed n xs w.made (cs ++ w.clauses) (sum_outline t (outline_of x)) before (tells-sum t (outline_of x) cs w.clauses h own.own)
      (omega (arith, own.defining, d)) in
      record {
        own = subst (Tells (outlines_of true 0 (sum_outline t (outline_of x)) xs)) (append_assoc cs w.clauses v.clauses) rest.own;
        defining = rest.defining;
      }

  pub tells-products :
      (n : SymbolNumbers) (began : ℕ) (xs : MatrixTrees) (m : Made) (cs : List Literals) (t : ClauseOutline) (before : ℕ)
      → Tells t cs → largest m.defining ≡ max before t.defining
      → TellsWork (outlines_of false began t xs) before (product_of_matrices n began cs xs m)
  tells-products n began no_matrices m cs t before h d = record { own = h; defining = d }
  tells-products n began (matrix_then x xs) m cs t before h d =
      let w : Worked = matrix_clauses n x m in
      let v : Worked = product n began cs w.clauses w.made in
      let own : TellsWork (outline_of x) (largest m.defining) w = tells n x m in
      let both : TellsWork (product_outline began t (outline_of x)) before v =
      tells-product n began before t (outline_of x) cs w.clauses w.made h own.own (omega (arith, own.defining, d)) in
      tells-products n began xs v.made v.clauses (product_outline began t (outline_of x)) before both.own both.defining

-- the largest clause of all, where no clause defined a name before
pub all-told :
    (n : SymbolNumbers) (x : MatrixTree) (m : Made) (cs : List Literals)
    → m.defining ≡ [] → cs ≡ (matrix_clauses n x m).clauses ++ (matrix_clauses n x m).made.defining
    → largest cs ≡ max (outline_of x).largest (outline_of x).defining
all-told n x m cs e h =
    ap largest h ∙ largest-append (matrix_clauses n x m).clauses (matrix_clauses n x m).made.defining
    ∙ omega (arith, (tells n x m).own.largest, (tells n x m).defining, ap largest e)
