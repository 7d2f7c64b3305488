-- The formula as which a clause is written is read as that clause, each introduced name by its place, and no symbol as a name.
use Rattle.std.proofs.Common.{◌≡◌, ℕ, suc, ◌+◌, ◌<◌, Bool, true, false, cond, not, ◌&&◌, ◌||◌, ◌==◌, List, [], ◌∷◌, ◌++◌, map, length, Option, Some, None, refl, ap, ap₂, sym, ◌∙◌, subst, arith, ⊎_elim}
use Rattle.std.specs.Prelude.{filter, filter_map, nat_lt, nat_eq, slice_get, position, bytes_eq, option_map, option_and_then, is_none, is_some, if◌then◌else◌}
use Rattle.std.specs.List.{list_all, list_any, position_or_len, starts_with, AllByRecursion, cons_option}
use Rattle.std.proofs.lemmas.Bool.{and_parts, and_from, or_cases, or_from, or_parts, eqb-true, eq-eqb, lt-ltb, ltb-true, true≢false, false≢true, false_from_ne_true, cases_Bool}
use Rattle.std.proofs.lemmas.List.{append-nil}
use Rattle.std.proofs.lemmas.Fmt.{decimal_injective}
use Rattle.std.specs.Fmt.{decimal}
use Rattle.plain_types.specs.declared.sequence.NameLit.{NameLit}
use Rattle.plain_types.specs.Names.{signed}
use Rattle.fol_base.specs.Tree.{Trees, no_trees, tree_then, application, true_tree}
use Rattle.fol_base.specs.Instance.{Substitution}
use Rattle.fol_base.specs.Clause.{TreeLiteral, TreeClause, clause_variables, clause_instance}
use Rattle.tptp_tree.specs.Term.{no_terms}
use Rattle.tptp_tree.specs.Formula.{FormulaTree, truth, predicate, equation, with_sign}
use Rattle.signature.specs.declared.symbol.Symbol.{Symbol}
use Rattle.signature.specs.declared.symbol.SymbolKind.TheVariants.{Predicate}
use Rattle.signature.specs.Symbol.{predicate_symbol, same_symbol, has_symbol, are_different}
use Rattle.signature.specs.Prefix.{some_begins_with}
use Rattle.signature.specs.Environment.{Environment}
use Rattle.signature.specs.Clausal.{atom_literal}
use Rattle.kernel_steps.specs.Names.{are_sorted}
use Rattle.kernel_steps.specs.Parents.{all_there}
use Rattle.clausal_form.specs.DerivationItems.{introduced_in}
use Rattle.clausal_form.specs.DerivationClause.{literals_of, is_literal as is_literal_formula, name_number, literal_name, ordinary_literals, clause_names, names_come_last, is_written_clause, literal_by, clause_by}
use Rattle.tstp_writer.specs.Cone.{has_number}
use Rattle.tstp_writer.specs.ClauseTrees.{symbol_name, term_tree, term_trees, atom_formula, literal_formula, introduced_name, signed_name_formula, one_of, clause_formula}
use Rattle.tstp_writer.specs.LineTrees.{place_in, pivot_name, pivot_item}
use Rattle.tstp_writer.specs.ReadableLines.{is_literal_over, Fits, read_name, read_clause}
use Rattle.tstp_writer.specs.DerivedLines.{IsKnown}
use Rattle.tstp_writer.proofs.ReadAgain.SameLemmas.{bytes-same, bytes-self}
use Rattle.tstp_writer.proofs.ReadAgain.LiteralKinds.{IsHeadOver, IsEquationOver, by-kind}
use Rattle.tstp_writer.proofs.AboutPrinted.VariableNames.{AreReadBy}
use Rattle.tstp_writer.proofs.AboutPrinted.WrittenClauses.{item-passes, listed-formulas, head-there, apart-false, IsWrittenAs, written_literals, AreOver, first-over, more-over, first-written, numbered, literals-again}

-- ---- places in lists of numbers

pub place-front : (ns ms : List ℕ) (n : ℕ) → has_number ns n ≡ true → place_in n (ns ++ ms) ≡ place_in n ns
place-front [] ms n has = absurd (false≢true has)
place-front (k ∷ ks) ms n has = by (k == n) has (place-front ks ms n)
  where
    by :
        (t : Bool) → (t || has_number ks n) ≡ true → (has_number ks n ≡ true → place_in n (ks ++ ms) ≡ place_in n ks)
        → cond (not t) (1 + place_in n (ks ++ ms)) 0 ≡ cond (not t) (1 + place_in n ks) 0
    by true h rest = refl
    by false h rest = ap (λ i. 1 + i) (rest h)

pub place-behind : (ns ms : List ℕ) (n : ℕ) → has_number ns n ≡ false → place_in n (ns ++ n ∷ ms) ≡ length ns
place-behind [] ms n none = ap (λ t. cond (not t) (1 + place_in n ms) 0) (eq-eqb n n refl)
place-behind (k ∷ ks) ms n none =
    let parts = or_parts (k == n) (has_number ks n) none in
    let rest : place_in n (ks ++ n ∷ ms) ≡ length ks = place-behind ks ms n parts.1 in
    ap (λ t. cond (not t) (1 + place_in n (ks ++ n ∷ ms)) 0) parts.0 ∙ omega (arith, rest)

-- a list in which nothing passes
none-passes : {X : Type 0} (test : X → Bool) (xs : List X) → list_any test xs ≡ false → position_or_len test xs ≡ length xs
none-passes test [] none = refl
none-passes test (x ∷ xs) none =
    let parts = or_parts (test x) (list_any test xs) none in
    let rest : position_or_len test xs ≡ length xs = none-passes test xs parts.1 in
    ap (λ t. cond (not t) (1 + position_or_len test xs) 0) parts.0 ∙ omega (arith, rest)

pub place-none : (ns : List ℕ) (n : ℕ) → has_number ns n ≡ false → place_in n ns ≡ length ns
place-none ns n none = none-passes (λ m. m == n) ns none

no-position : {X : Type 0} (test : X → Bool) (xs : List X) → list_any test xs ≡ false → position test xs ≡ None
no-position test xs none =
    let long : position_or_len test xs ≡ length xs = none-passes test xs none in
    let not_less : nat_lt (position_or_len test xs) (length xs) ≡ false =
    false_from_ne_true (nat_lt (position_or_len test xs) (length xs))
    (λ less. let low : position_or_len test xs < length xs = ltb-true (position_or_len test xs) (length xs) less in let none : ⊥ = omega (arith, long, low) in none) in
    ap (λ t. cond t (Some (position_or_len test xs)) None) not_less

-- ---- the names that are introduced

begins-itself : (xs ys : List ℕ) → starts_with nat_eq (xs ++ ys) xs ≡ true
begins-itself [] ys = refl
begins-itself (x ∷ xs) ys = and_from _ _ (eq-eqb x x refl) (begins-itself xs ys)

abbrev behind : List ℕ → List ℕ
behind [] = []
behind (b ∷ bs) = bs

rest-same : (xs ys zs : List ℕ) → xs ++ ys ≡ xs ++ zs → ys ≡ zs
rest-same [] ys zs same = same
rest-same (x ∷ xs) ys zs same = rest-same xs ys zs (ap behind same)

module _ (prefix : List ℕ) where
  abbrev pub intro : ℕ → List ℕ
  intro n = introduced_name prefix n

  abbrev pub AllFit : List ℕ → Type 0
  AllFit ns = AllByRecursion Fits ns

  pub intro-eq : (n k : ℕ) → Fits n → Fits k → bytes_eq (intro n) (intro k) ≡ (k == n)
  intro-eq n k n_fits k_fits =
      ⊎_elim
      (λ same. (let e : k ≡ n = eqb-true k n same in ap (λ m. bytes_eq (intro n) (intro m)) e ∙ bytes-self (intro n)) ∙ sym same)
      (λ other.
      false_from_ne_true (bytes_eq (intro n) (intro k))
      (λ same.
      let e : n ≡ k =
      decimal_injective n k n_fits k_fits (rest-same prefix (decimal n) (decimal k) (bytes-same (intro n) (intro k) same)) in
      false≢true (sym other ∙ eq-eqb k n (sym e)))
      ∙ sym other)
      (cases_Bool (k == n))

  pub any-intro : (n : ℕ) (ns : List ℕ) → Fits n → AllFit ns → list_any (bytes_eq (intro n)) (map intro ns) ≡ has_number ns n
  any-intro n [] fits all = refl
  any-intro n (k ∷ ks) fits all = ap₂ ◌||◌ (intro-eq n k fits all.0) (any-intro n ks fits all.1)

  pub place-read : (n : ℕ) (ns : List ℕ) → Fits n → AllFit ns → position_or_len (bytes_eq (intro n)) (map intro ns) ≡ place_in n ns
  place-read n [] fits all = refl
  place-read n (k ∷ ks) fits all =
      ap₂ (λ t i. cond (not t) (1 + i) 0) (intro-eq n k fits all.0) (place-read n ks fits all.1)

  length-intro : (ns : List ℕ) → length (map intro ns) ≡ length ns
  length-intro [] = refl
  length-intro (n ∷ ns) = ap suc (length-intro ns)

  place-below : (n : ℕ) (ns : List ℕ) → has_number ns n ≡ true → place_in n ns < length ns
  place-below n [] has = absurd (false≢true has)
  place-below n (k ∷ ks) has = by (k == n) has (place-below n ks)
    where
      by :
          (t : Bool) → (t || has_number ks n) ≡ true → (has_number ks n ≡ true → place_in n ks < length ks)
          → cond (not t) (1 + place_in n ks) 0 < suc (length ks)
      by true h rest = omega arith
      by false h rest = let low : place_in n ks < length ks = rest h in omega (arith, low)

  -- the number of a name is its place
  pub name-read : (n : ℕ) (ns : List ℕ) → Fits n → AllFit ns → has_number ns n ≡ true → name_number (map intro ns) (intro n) ≡ Some (place_in n ns)
  name-read n ns fits all has =
      let place : position_or_len (bytes_eq (intro n)) (map intro ns) ≡ place_in n ns = place-read n ns fits all in
      let low : place_in n ns < length ns = place-below n ns has in
      ap₂ (λ i k. cond (nat_lt i k) (Some i) None) place (length-intro ns)
      ∙ ap (λ t. cond t (Some (place_in n ns)) None) (lt-ltb (place_in n ns) (length ns) low)

  pub fits-known : (ns : List ℕ) (n : ℕ) → AllFit ns → has_number ns n ≡ true → Fits n
  fits-known [] n all has = absurd (false≢true has)
  fits-known (k ∷ ks) n all has =
      ⊎_elim (λ same. subst Fits (eqb-true k n same) all.0) (λ later. fits-known ks n all.1 later) (or_cases (k == n) (has_number ks n) has)

-- ---- a symbol of which no name begins with the prefix

module _ (symbols : List Symbol) (prefix : List ℕ) (fresh : some_begins_with prefix symbols ≡ false) where
  name-apart : (s : Symbol) (n : ℕ) → starts_with nat_eq s.name prefix ≡ false → bytes_eq s.name (intro prefix n) ≡ false
  name-apart s n apart =
      false_from_ne_true (bytes_eq s.name (intro prefix n)) λ same.
      true≢false
      (sym (ap (λ name. starts_with nat_eq name prefix) (bytes-same s.name (intro prefix n) same) ∙ begins-itself prefix (decimal n)) ∙ apart)

  -- no such name is introduced
  none-introduced : (s : Symbol) (ns : List ℕ) → starts_with nat_eq s.name prefix ≡ false → list_any (bytes_eq s.name) (map (intro prefix) ns) ≡ false
  none-introduced s [] apart = refl
  none-introduced s (n ∷ ns) apart =
      or_from (bytes_eq s.name (intro prefix n)) (list_any (bytes_eq s.name) (map (intro prefix) ns)) (name-apart s n apart)
      (none-introduced s ns apart)

  no-name-at : (f : ℕ) (s : Symbol) (ns : List ℕ) → slice_get symbols f ≡ Some s → name_number (map (intro prefix) ns) s.name ≡ None
  no-name-at f s ns at =
      no-position (bytes_eq s.name) (map (intro prefix) ns)
      (none-introduced s ns
      (false_from_ne_true (starts_with nat_eq s.name prefix)
      (λ begins.
      true≢false (sym (item-passes (λ (u : Symbol). starts_with nat_eq u.name prefix) symbols f s at begins) ∙ fresh))))

  -- and none is a predicate of the list
  pub name-new : (n : ℕ) → has_symbol (predicate_symbol (intro prefix n) 0) symbols ≡ false
  name-new n = by symbols fresh
    where
      u : Symbol
      u = predicate_symbol (intro prefix n) 0

      by : (ss : List Symbol) → some_begins_with prefix ss ≡ false → has_symbol u ss ≡ false
      by [] h = refl
      by (s ∷ ss) h =
          let parts = or_parts (starts_with nat_eq s.name prefix) (some_begins_with prefix ss) h in
          or_from (same_symbol u s) (has_symbol u ss)
          (false_from_ne_true (same_symbol u s)
          (λ same.
          let names = and_parts (bytes_eq (intro prefix n) s.name) (0 == s.arity) (and_parts _ _ same).1 in
          true≢false
          (sym (ap (λ name. starts_with nat_eq name prefix) (sym (bytes-same (intro prefix n) s.name names.0)) ∙ begins-itself prefix (decimal n))
          ∙ parts.0)))
          (by ss parts.1)

  -- ---- ordinary literals

  module _ (known : List ℕ) where
    abbrev pub names : List (List ℕ)
    names = map (intro prefix) known

    abbrev IsOrdinary : TreeLiteral → Type 0
    IsOrdinary l = literal_name names (literal_formula symbols l) ≡ None

    truth-ordinary : (b : Bool) → IsOrdinary (atom_literal b true_tree)
    truth-ordinary true = refl
    truth-ordinary false = refl

    predicate-ordinary : (b : Bool) (f : ℕ) (ts : Trees) → IsHeadOver symbols f ts true → IsOrdinary (atom_literal b (application f ts))
    predicate-ordinary b f ts over =
        ap (λ c. literal_name names (with_sign b (if c then truth else predicate (symbol_name symbols f) (term_trees symbols ts))))
        (apart-false symbols f over.apart)
        ∙ by b ts over
      where
        by :
            (b : Bool) (us : Trees) → IsHeadOver symbols f us true
            → literal_name names (with_sign b (predicate (symbol_name symbols f) (term_trees symbols us))) ≡ None
        by true no_trees h =
            ap (option_map (signed true)) (no-name-at f _ known (head-there symbols f no_trees Predicate h))
        by false no_trees h =
            ap (option_map (signed false)) (no-name-at f _ known (head-there symbols f no_trees Predicate h))
        by true (tree_then u us) h = refl
        by false (tree_then u us) h = refl

    equation-ordinary : (l : TreeLiteral) → IsEquationOver symbols l → IsOrdinary l
    equation-ordinary l over =
        ap
        (λ c.
        literal_name names
        (if c then with_sign l.positive (atom_formula symbols l.left) else equation l.positive (term_tree symbols l.left) (term_tree symbols l.right)))
        over.no_truth

    ordinary : (l : TreeLiteral) → is_literal_over symbols l ≡ true → IsOrdinary l
    ordinary = by-kind symbols IsOrdinary truth-ordinary predicate-ordinary equation-ordinary

    abbrev is_ordinary : FormulaTree → Bool
    is_ordinary f = is_none (literal_name names f)

    front-ordinary :
        (ls : List TreeLiteral) (fs : List FormulaTree) → AreOver symbols ls
        → filter is_ordinary (written_literals symbols ls ++ fs) ≡ written_literals symbols ls ++ filter is_ordinary fs
    front-ordinary [] fs h = refl
    front-ordinary (l ∷ ls) fs h =
        let f : FormulaTree = literal_formula symbols l in
        let rest : List FormulaTree = filter is_ordinary (written_literals symbols ls ++ fs) in
        ap (λ o. if is_none o then f ∷ rest else rest) (ordinary l (first-over symbols l ls h))
        ∙ ap (λ gs. f ∷ gs) (front-ordinary ls fs (more-over symbols l ls h))

    front-names :
        (ls : List TreeLiteral) (fs : List FormulaTree) → AreOver symbols ls
        → filter_map (literal_name names) (written_literals symbols ls ++ fs) ≡ filter_map (literal_name names) fs
    front-names [] fs h = refl
    front-names (l ∷ ls) fs h =
        ap (λ o. cons_option o (filter_map (literal_name names) (written_literals symbols ls ++ fs))) (ordinary l (first-over symbols l ls h))
        ∙ front-names ls fs (more-over symbols l ls h)

    front-last :
        (ls : List TreeLiteral) (fs : List FormulaTree) → AreOver symbols ls
        → names_come_last names (written_literals symbols ls ++ fs) ≡ names_come_last names fs
    front-last [] fs h = refl
    front-last (l ∷ ls) fs h =
        let gs : List FormulaTree = written_literals symbols ls ++ fs in
        ap (λ o. if is_some o then list_all (λ k. is_some (literal_name names k)) gs else names_come_last names gs)
        (ordinary l (first-over symbols l ls h))
        ∙ front-last ls fs (more-over symbols l ls h)

    -- ---- names

    module _ (all others : List ℕ) (whole : all ≡ known ++ others) (fit : AllFit prefix known) where
      abbrev AllKnown : List NameLit → Type 0
      AllKnown ns = AllByRecursion (λ (n : NameLit). IsKnown known n.name) ns

      abbrev written_names : List NameLit → List FormulaTree
      written_names ns = map (signed_name_formula prefix) ns

      number-back : (n : NameLit) → IsKnown known n.name → name_number names (intro prefix n.name) ≡ Some (place_in n.name all)
      number-back n is_known =
          name-read prefix n.name known (fits-known prefix known n.name fit is_known) fit is_known
          ∙ ap Some (sym (place-front known others n.name is_known) ∙ ap (place_in n.name) (sym whole))

      name-back : (n : NameLit) → IsKnown known n.name → literal_name names (signed_name_formula prefix n) ≡ Some (read_name all n)
      name-back n is_known = by n.positive
        where
          by :
              (b : Bool)
              → literal_name names (with_sign b (predicate (intro prefix n.name) no_terms)) ≡ Some (signed b (place_in n.name all))
          by true = ap (option_map (signed true)) (number-back n is_known)
          by false = ap (option_map (signed false)) (number-back n is_known)

      pub names-back : (ns : List NameLit) → AllKnown ns → filter_map (literal_name names) (written_names ns) ≡ map (read_name all) ns
      names-back [] h = refl
      names-back (n ∷ ns) h = ap₂ cons_option (name-back n h.0) (names-back ns h.1)

      -- a pivot is read as a name
      pivot-back : (n : NameLit) → IsKnown known n.name → introduced_in names (pivot_item prefix n) ≡ Some (read_name all n)
      pivot-back n is_known = by n.positive
        where
          by : (b : Bool) → introduced_in names (pivot_name b (intro prefix n.name)) ≡ Some (signed b (place_in n.name all))
          by true = ap (option_map (signed true)) (number-back n is_known)
          by false = ap (option_map (signed false)) (number-back n is_known)

      pub pivots-back : (ns : List NameLit) → AllKnown ns → all_there (map (introduced_in names) (map (pivot_item prefix) ns)) ≡ Some (map (read_name all) ns)
      pivots-back [] h = refl
      pivots-back (n ∷ ns) h =
          ap₂ (λ (o : Option NameLit) os. option_and_then (λ x. option_map (λ xs. x ∷ xs) os) o) (pivot-back n h.0) (pivots-back ns h.1)

      none-ordinary : (ns : List NameLit) → AllKnown ns → filter is_ordinary (written_names ns) ≡ []
      none-ordinary [] h = refl
      none-ordinary (n ∷ ns) h =
          let rest : List FormulaTree = filter is_ordinary (written_names ns) in
          ap (λ o. if is_none o then signed_name_formula prefix n ∷ rest else rest) (name-back n h.0) ∙ none-ordinary ns h.1

      all-names : (ns : List NameLit) → AllKnown ns → list_all (λ k. is_some (literal_name names k)) (written_names ns) ≡ true
      all-names [] h = refl
      all-names (n ∷ ns) h = ap₂ (λ o b. is_some o && b) (name-back n h.0) (all-names ns h.1)

      names-last : (ns : List NameLit) → AllKnown ns → names_come_last names (written_names ns) ≡ true
      names-last [] h = refl
      names-last (n ∷ ns) h =
          ap (λ o. if is_some o then list_all (λ k. is_some (literal_name names k)) (written_names ns) else names_come_last names (written_names ns))
          (name-back n h.0)
          ∙ all-names ns h.1

      -- ---- the formula of a clause

      abbrev formulas : TreeClause → List FormulaTree
      formulas c = written_literals symbols c.literals ++ written_names c.names

      -- an atom, or the negation of one, and the only literal of its clause
      record IsAlone (f : FormulaTree) : Type 0 where
        literal : is_literal_formula f ≡ true
        alone : literals_of f ≡ f ∷ []

      name-alone : (n : NameLit) → IsAlone (signed_name_formula prefix n)
      name-alone n = by n.positive
        where
          by : (b : Bool) → IsAlone (with_sign b (predicate (intro prefix n.name) no_terms))
          by true = record { literal = refl; alone = refl }
          by false = record { literal = refl; alone = refl }

      names-alone : (ns : List NameLit) → AllByRecursion IsAlone (written_names ns)
      names-alone [] = tt
      names-alone (n ∷ ns) = (name-alone n, names-alone ns)

      all-alone : (ls : List TreeLiteral) (ns : List NameLit) → AreOver symbols ls → AllByRecursion IsAlone (written_literals symbols ls ++ written_names ns)
      all-alone [] ns h = names-alone ns
      all-alone (l ∷ ls) ns h =
          let w : IsWrittenAs symbols (literal_formula symbols l) l = first-written symbols l ls h in
          (record { literal = w.written; alone = w.alone }, all-alone ls ns (more-over symbols l ls h))

      listed : (fs : List FormulaTree) → AllByRecursion IsAlone fs → literals_of (one_of fs) ≡ fs
      listed [] h = refl
      listed (f ∷ []) h = h.0.alone
      listed (f ∷ g ∷ fs) h = listed-formulas (f ∷ g ∷ fs)

      all-literals : (fs : List FormulaTree) → AllByRecursion IsAlone fs → list_all is_literal_formula fs ≡ true
      all-literals [] h = refl
      all-literals (f ∷ fs) h = and_from (is_literal_formula f) (list_all is_literal_formula fs) h.0.literal (all-literals fs h.1)

      pub record IsClauseFormula (f : FormulaTree) (c : TreeClause) : Type 0 where
        pub written : is_written_clause names f ≡ true
        pub ordinary_are : ordinary_literals names f ≡ written_literals symbols c.literals
        pub names_are : clause_names names f ≡ map (read_name all) c.names

      pub clause-formula :
          (c : TreeClause) → AreOver symbols c.literals → AllKnown c.names → are_sorted (map (read_name all) c.names) ≡ true
          → IsClauseFormula (clause_formula symbols prefix c) c
      clause-formula c over known_names sorted =
          record {
            written =
                and_from (list_all is_literal_formula (literals_of f)) _
                (ap (list_all is_literal_formula) literals_are ∙ all-literals (formulas c) alone)
                (and_from (names_come_last names (literals_of f)) _
                (ap (names_come_last names) literals_are ∙ front-last c.literals (written_names c.names) over ∙ names-last c.names known_names)
                (ap are_sorted names_are ∙ sorted));
            ordinary_are =
                ap (filter is_ordinary) literals_are ∙ front-ordinary c.literals (written_names c.names) over
                ∙ ap (λ gs. written_literals symbols c.literals ++ gs) (none-ordinary c.names known_names)
                ∙ append-nil (written_literals symbols c.literals);
            names_are = names_are;
          }
        where
          f : FormulaTree
          f = clause_formula symbols prefix c

          alone : AllByRecursion IsAlone (formulas c)
          alone = all-alone c.literals c.names over

          literals_are : literals_of f ≡ formulas c
          literals_are = listed (formulas c) alone

          names_are : clause_names names f ≡ map (read_name all) c.names
          names_are =
              ap (filter_map (literal_name names)) literals_are ∙ front-names c.literals (written_names c.names) over
              ∙ names-back c.names known_names

      -- what is read again, where the variables are read by a substitution
      pub clause-back :
          (different : are_different symbols ≡ true) (environment : Environment) (σ : Substitution) (f : FormulaTree) (c : TreeClause)
          → IsClauseFormula f c → AreOver symbols c.literals → AreReadBy environment σ (clause_variables c)
          → clause_by (numbered symbols different environment σ) names f ≡ read_clause all (clause_instance σ c)
      clause-back different environment σ f c formula over read =
          ap₂ make
          (ap (map (literal_by (numbered symbols different environment σ))) formula.ordinary_are
          ∙ literals-again symbols different environment σ c.literals over read)
          formula.names_are
        where
          make : List TreeLiteral → List NameLit → TreeClause
          make ls ns = record { literals = ls; names = ns }
