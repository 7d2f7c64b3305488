-- Results as they are handed in: the parts of a clause that is split, or one clause at most.
use Rattle.std.proofs.Common.{◌≡◌, ℕ, suc, ◌<◌, ◌≤◌, Bool, true, false, ◌&&◌, ◌==◌, List, [], ◌∷◌, map, length, refl, ap, ap₂, sym, ◌∙◌, subst, arith}
use Rattle.std.specs.Prelude.{filter, flat_map, nat_lt, if◌then◌else◌, All}
use Rattle.std.specs.List.{AllByRecursion, list_all}
use Rattle.std.proofs.lemmas.Bool.{true≢false, and_parts, cond-true, cond-false, ne_eqb, lt-ltb, le-ltb, ltb-true, or_left, or_right}
use Rattle.std.proofs.lemmas.List.{length-map}
use Rattle.std.proofs.lemmas.List.Elements.{All-nil, All-cons}
use Rattle.std.proofs.lemmas.List.Folds.{list_any-append}
use Rattle.std.proofs.lemmas.List.FromFn.{length-range_with_len}
use Rattle.fol_base.specs.Clause.{TreeLiteral, TreeClause, clause_size}
use Rattle.fol_base.specs.Canonical.{IsCanonical}
use Rattle.fol_base.specs.Literal.{clause_of}
use Rattle.fol_base.specs.WellFormed.{SymbolUse, are_literals_of}
use Rattle.fol_base.specs.declared.clause.Clause.{Clause}
use Rattle.fol_base.specs.declared.limits.TheConstants.{MOST_SYMBOLS}
use Rattle.kernel_steps.specs.Derivation.{under_names}
use Rattle.kernel_steps.specs.Split.{has_number, is_part, literals_at, canonical_literals}
use Rattle.kernel_steps.specs.Symbols.{literal_symbols_pass}
use Rattle.split_parts.specs.Components.{IsComponents}
use Rattle.split_parts.proofs.AboutParts.UniqueLemmas.{components-unique}
use Rattle.pool_history.specs.Components.{component_of, components_of, begins_at, parts_of, places, is_to_split}
use Rattle.pool_history.specs.Reduction.{handed_back}
use Rattle.pool_history.specs.Registering.{has_none}
use Rattle.pool_history.proofs.AboutLines.FinestLemmas.{computed-finest}
use Rattle.pool_history.proofs.AboutLines.PartLemmas.{IsPart, one-part, places-inside, some-literals}
use Rattle.pool_core.specs.Parted.{IsFitPart, parts_at}
use Rattle.pool_core.specs.Placing.{AreHandedIn}

-- there are no more components than literals
few-components : (ls : List TreeLiteral) → length (components_of ls) ≤ length ls
few-components ls =
    let all = length-map (filter (λ k. begins_at k (component_of ls k)) (places ls)) (component_of ls) in
    let some = fewer (λ k. begins_at k (component_of ls k)) (places ls) in
    let count : length (places ls) ≡ length ls = length-range_with_len 0 (length ls) in
    omega (arith, all, some, count)
  where
    fewer : (p : ℕ → Bool) (ns : List ℕ) → length (filter p ns) ≤ length ns
    fewer p [] = omega arith
    fewer p (n ∷ ns) = by (p n) (fewer p ns)
      where
        by : (b : Bool) → length (filter p ns) ≤ length ns → length (if b then n ∷ filter p ns else filter p ns) ≤ suc (length ns)
        by true rest = omega (arith, rest)
        by false rest = omega (arith, rest)

-- a clause that is split has two parts or more, and so a literal
pub several-parts : (split : Bool) (ls : List TreeLiteral) → is_to_split split ls ≡ true → 1 < length (parts_of ls)
several-parts split ls splits =
    let both = and_parts split (nat_lt 1 (length (components_of ls))) splits in
    let many : 1 < length (components_of ls) = ltb-true 1 (length (components_of ls)) both.1 in
    let same = length-map (components_of ls) (λ ks. canonical_literals (literals_at ls ks)) in
    omega (arith, many, same)

pub split-some : (split : Bool) (ls : List TreeLiteral) → is_to_split split ls ≡ true → has_none ls ≡ false
split-some split ls splits =
    let many = several-parts split ls splits in
    let same = length-map (components_of ls) (λ ks. canonical_literals (literals_at ls ks)) in
    let few = few-components ls in
    ne_eqb (length ls) 0 (λ none. absurd (omega (arith, many, same, few, none)))

module _ (c : TreeClause) where
  pub parts-same : (parts : List (List ℕ)) → IsComponents c.literals parts → parts ≡ components_of c.literals
  parts-same parts are = components-unique c.literals parts (components_of c.literals) are (computed-finest c.literals)

  never : (split b : Bool) → b ≡ false → (split && b) ≡ false
  never true b none = none
  never false b none = refl

  -- ---- no result, of a clause that isn't split

  no-results : (split : Bool) → is_to_split split c.literals ≡ false → AreHandedIn split c []
  no-results split whole = record { parts = λ splits. absurd (true≢false (sym splits ∙ whole)); whole = λ is. omega arith }

  pub unsplit-none : (split : Bool) → split ≡ false → AreHandedIn split c []
  unsplit-none split off = no-results split (ap (λ b. is_to_split b c.literals) off)

  pub short-none : (split : Bool) → length c.literals < 2 → AreHandedIn split c []
  short-none split short =
      let few = few-components c.literals in
      no-results split
      (never split (nat_lt 1 (length (components_of c.literals))) (le-ltb 1 (length (components_of c.literals)) (omega (arith, few, short))))

  pub single-none : (split : Bool) (parts : List (List ℕ)) → IsComponents c.literals parts → length parts < 2 → AreHandedIn split c []
  single-none split parts are few =
      let same : length parts ≡ length (components_of c.literals) = ap length (parts-same parts are) in
      no-results split
      (never split (nat_lt 1 (length (components_of c.literals))) (le-ltb 1 (length (components_of c.literals)) (omega (arith, few, same))))

  -- ---- parts

  named : (kss : List (List ℕ)) → parts_at c.literals kss ≡ map (λ ls. under_names ls []) (map (λ ks. canonical_literals (literals_at c.literals ks)) kss)
  named [] = refl
  named (ks ∷ kss) = ap (λ (ds : List TreeClause). under_names (canonical_literals (literals_at c.literals ks)) [] ∷ ds) (named kss)

  pub parts-given :
      (split : Bool) (parts : List (List ℕ)) (results : List Clause) → split ≡ true → IsComponents c.literals parts → 2 ≤ length parts
      → map clause_of results ≡ parts_at c.literals parts → AreHandedIn split c results
  parts-given split parts results on are many given =
      let same : length parts ≡ length (components_of c.literals) = ap length (parts-same parts are) in
      let splits : is_to_split split c.literals ≡ true =
      ap₂ (λ a b. a && b) on (lt-ltb 1 (length (components_of c.literals)) (omega (arith, many, same))) in
      record {
        parts = λ is. given ∙ ap (parts_at c.literals) (parts-same parts are) ∙ named (components_of c.literals);
        whole = λ is. absurd (true≢false (sym splits ∙ is));
      }

  -- as a batch hands them back
  pub handed-in : (split : Bool) (results : List Clause) → map clause_of results ≡ handed_back split c → AreHandedIn split c results
  handed-in split results given = record {
    parts = λ is. given ∙ cond-true (is_to_split split c.literals) (map (λ ls. under_names ls []) (parts_of c.literals)) (c ∷ []) is;
    whole =
        λ is.
        let one : length (map clause_of results) ≡ 1 =
        ap length (given ∙ cond-false (is_to_split split c.literals) (map (λ ls. under_names ls []) (parts_of c.literals)) (c ∷ []) is) in
        let same = length-map results clause_of in
        omega (arith, one, same);
  }

  -- ---- what is handed in tells whether the clause is split

  handed-count : (split : Bool) (results : List Clause) → AreHandedIn split c results → is_to_split split c.literals ≡ true → length results ≡ length (parts_of c.literals)
  handed-count split results given is =
      sym (length-map results clause_of) ∙ ap length (given.parts is) ∙ length-map (parts_of c.literals) (λ ls. under_names ls [])

  pub several-split : (split : Bool) (results : List Clause) → AreHandedIn split c results → 1 < length results → is_to_split split c.literals ≡ true
  several-split split results given many = by (is_to_split split c.literals) refl
    where
      by : (b : Bool) → is_to_split split c.literals ≡ b → b ≡ true
      by true is = refl
      by false is = let few = given.whole is in absurd (omega (arith, few, many))

  pub few-whole : (split : Bool) (results : List Clause) → AreHandedIn split c results → length results ≤ 1 → is_to_split split c.literals ≡ false
  few-whole split results given few = by (is_to_split split c.literals) refl
    where
      by : (b : Bool) → is_to_split split c.literals ≡ b → b ≡ false
      by false is = refl
      by true is =
          let many = several-parts split c.literals is in
          let same = handed-count split results given is in
          absurd (omega (arith, few, many, same))

  pub split-count : (split : Bool) (results : List Clause) → AreHandedIn split c results → 1 < length results → length results ≡ length (parts_of c.literals)
  split-count split results given many = handed-count split results given (several-split split results given many)

  -- ---- the parts are fit

  module _ (usage : SymbolUse) (formed : are_literals_of usage c.literals ≡ true) (small : clause_size c ≤ MOST_SYMBOLS) where
    abbrev passing : List TreeClause
    passing = under_names c.literals [] ∷ []

    all-parts :
        (kss : List (List ℕ)) → list_all is_part kss ≡ true → ((j : ℕ) → has_number j (flat_map (λ ks. ks) kss) ≡ true → j < length c.literals)
        → AllByRecursion (IsPart usage passing) (map (λ ks. canonical_literals (literals_at c.literals ks)) kss)
    all-parts [] are inside = tt
    all-parts (ks ∷ kss) are inside =
        let both = and_parts (is_part ks) (list_all is_part kss) are in
        let here : (j : ℕ) → has_number j ks ≡ true → j < length c.literals = λ j there.
        inside j
        (list_any-append (λ k. j == k) ks (flat_map (λ js. js) kss) ∙ or_left (has_number j ks) (has_number j (flat_map (λ js. js) kss)) there) in
        let later : (j : ℕ) → has_number j (flat_map (λ js. js) kss) ≡ true → j < length c.literals = λ j there.
        inside j
        (list_any-append (λ k. j == k) ks (flat_map (λ js. js) kss) ∙ or_right (has_number j ks) (has_number j (flat_map (λ js. js) kss)) there) in (
          one-part usage passing c.literals ks small formed
              (λ test truth pass.
              (and_parts (list_all (literal_symbols_pass test) c.literals) true pass).0)
              both.0 (some-literals c.literals ks both.0 here),
          all-parts kss both.1 later,
        )

    one-fit : (ls : List TreeLiteral) (x : Clause) → clause_of x ≡ under_names ls [] → IsPart usage passing ls → IsFitPart x
    one-fit ls x same is = record {
      some = ap (λ (d : TreeClause). has_none d.literals) same ∙ ne_eqb (length ls) 0 is.some;
      canonical = subst IsCanonical (sym same) is.canonical;
      no_names = ap (λ (d : TreeClause). d.names) same;
      small = subst (λ (d : TreeClause). clause_size d ≤ MOST_SYMBOLS) (sym same) is.small;
    }

    all-fit :
        (lss : List (List TreeLiteral)) (xs : List Clause) → map clause_of xs ≡ map (λ ls. under_names ls []) lss → AllByRecursion (IsPart usage passing) lss
        → All IsFitPart xs
    all-fit [] [] same are = All-nil IsFitPart
    all-fit [] (x ∷ xs) same are = absurd cc
    all-fit (ls ∷ lss) [] same are = absurd cc
    all-fit (ls ∷ lss) (x ∷ xs) same are =
        let first : clause_of x ≡ under_names ls [] = cc in
        let rest : map clause_of xs ≡ map (λ ls. under_names ls []) lss = cc in
        All-cons IsFitPart x xs (one-fit ls x first are.0) (all-fit lss xs rest are.1)

    pub parts-fit : (split : Bool) (results : List Clause) → AreHandedIn split c results → 1 < length results → All IsFitPart results
    parts-fit split results given many =
        all-fit (parts_of c.literals) results (given.parts (several-split split results given many))
        (all-parts (components_of c.literals) (computed-finest c.literals).are_parts (places-inside c.literals))
