-- A clause that is split is grounded: ground instances of its parts, chosen for the positive names of the definitions, are together
-- an instance of the parent, since no two parts share a variable.
use Rattle.std.proofs.Common.{◌≡◌, ℕ, ◌⊎◌, inl, inr, Bool, true, false, ◌||◌, ◌==◌, List, [], ◌∷◌, ◌++◌, map, Some, refl, ap, sym, ◌∙◌, subst, ⊎_elim}
use Rattle.std.specs.Prelude.{not, flat_map, if◌then◌else◌}
use Rattle.std.specs.List.{list_all, AllByRecursion}
use Rattle.std.proofs.lemmas.Bool.{and_parts, or_left, or_right, cases_Bool, eq-eqb, false≢true, cond_both, cond-true, cond-false}
use Rattle.std.proofs.lemmas.List.{map-append}
use Rattle.plain_types.specs.declared.sequence.NameLit.{NameLit}
use Rattle.plain_types.specs.Names.{opposite, has_name, positive_of, negative_of}
use Rattle.fol_base.specs.Instance.{Substitution}
use Rattle.fol_base.specs.Clause.{TreeLiteral, TreeClause, literals_eq, literal_variables}
use Rattle.fol_base.specs.Ground.{ground_over, IsGroundOver, GroundClause, GroundInstance, is_ground_literal, literals_instance}
use Rattle.fol_base.specs.Symbols.{FunctionSymbols}
use Rattle.fol_base.specs.Interpretation.{Interpretation, literal_true_under, no_values, clause_true}
use Rattle.fol_base.proofs.AboutInstances.InstanceLemmas.{Agree, literals-agree}
use Rattle.fol_base.proofs.AboutInstances.GroundInstanceLemmas.{ground_instances_of_canonical}
use Rattle.kernel_steps.specs.Parents.{Parent}
use Rattle.kernel_steps.specs.Split.{has_number, share_variable, share_no_variables, canonical_literals, defines, are_defined}
use Rattle.kernel_steps.specs.Derivation.{complement}
use Rattle.kernel_steps.specs.Soundness.{IsUsable, IsChoice}
use Rattle.kernel_steps.proofs.AboutGrounding.GroundTrees.{one_literal-ground}
use Rattle.kernel_steps.proofs.AboutSoundness.RuleTruth.{complement-truth}
use Rattle.kernel_steps.proofs.AboutSplits.SplitTests.{literals_eq-says, share_variable-fails}
use Rattle.kernel_steps.proofs.AboutGrounding.GroundedLemmas.{Supports, Supports-always, Supports-instance, Supports-then}
use Rattle.kernel_steps.proofs.AboutGrounding.GroundedLemmasNames.{list_any-name, AreAmong, AreAmong-front, AreAmong-back, chosen_name_true, chosen_true}

-- ---- definitions of names

-- the clause of a component line: the literals of the name's body, and the name's negative
pub record DefinesBody (bodies : ℕ → TreeClause) (c : TreeClause) : Type 0 where
  pub name : ℕ
  pub one_name : c.names ≡ negative_of name ∷ []
  pub same_literals : (bodies name).literals ≡ c.literals

-- the clause of an opposite line: the complement of the ground literal that is the name's body, and the name
pub record DefinesOpposite (bodies : ℕ → TreeClause) (c : TreeClause) : Type 0 where
  pub name : ℕ
  pub one_name : c.names ≡ positive_of name ∷ []
  pub literal : TreeLiteral
  pub ground : is_ground_literal literal ≡ true
  pub same_literals : (bodies name).literals ≡ literal ∷ []
  pub complemented : c.literals ≡ complement literal ∷ []

abbrev pub DefinesName : (ℕ → TreeClause) → TreeClause → Type 0
DefinesName bodies c = DefinesBody bodies c ⊎ DefinesOpposite bodies c

-- ---- literals

-- a literal or its complement is true, and not both
the_one : (b : Bool) → (b || false) ≡ b
the_one true = refl
the_one false = refl

complement_true : (i : Interpretation) (l : TreeLiteral) → clause_true i (complement l ∷ []) ≡ not (clause_true i (l ∷ []))
complement_true i l =
    the_one (literal_true_under i no_values (complement l))
    ∙ complement-truth i no_values l
    ∙ ap not (sym (the_one (literal_true_under i no_values l)))

pub complement-other :
    (i : Interpretation) (l : TreeLiteral) → clause_true i (l ∷ []) ≡ true → clause_true i (complement l ∷ []) ≡ true → ⊥
complement-other i l holds other = false≢true (ap not (sym holds) ∙ sym (complement_true i l) ∙ other)

pub complement-or :
    (i : Interpretation) (l : TreeLiteral) → (clause_true i (l ∷ []) ≡ true) ⊎ (clause_true i (complement l ∷ []) ≡ true)
complement-or i l =
    ⊎_elim inl (λ fails. inr (complement_true i l ∙ ap not fails)) (cases_Bool (clause_true i (l ∷ [])))

-- ---- one substitution for all parts

-- the first for the variables of some literals, and the second for all others
abbrev joined : List TreeLiteral → Substitution → Substitution → Substitution
joined ls σ τ v = if has_number v (flat_map literal_variables ls) then σ v else τ v

agree-listed : (σ τ : Substitution) (vs : List ℕ) → ((v : ℕ) → has_number v vs ≡ true → σ v ≡ τ v) → Agree σ τ vs
agree-listed σ τ [] same = tt
agree-listed σ τ (v ∷ vs) same = (
  same v (or_left (v == v) (has_number v vs) (eq-eqb v v refl)),
  agree-listed σ τ vs (λ w has. same w (or_right (w == v) (has_number w vs) has)),
)

joined-first : (ls : List TreeLiteral) (σ τ : Substitution) → literals_instance (joined ls σ τ) ls ≡ literals_instance σ ls
joined-first ls σ τ =
    literals-agree (joined ls σ τ) σ ls
    (agree-listed (joined ls σ τ) σ (flat_map literal_variables ls)
    (λ v has. cond-true (has_number v (flat_map literal_variables ls)) (σ v) (τ v) has))

joined-second :
    (ls ks : List TreeLiteral) (σ τ : Substitution)
    → not (share_variable ls ks) ≡ true → literals_instance (joined ls σ τ) ks ≡ literals_instance τ ks
joined-second ls ks σ τ apart =
    literals-agree (joined ls σ τ) τ ks
    (agree-listed (joined ls σ τ) τ (flat_map literal_variables ks)
    (λ v has. cond-false (has_number v (flat_map literal_variables ls)) (σ v) (τ v) (share_variable-fails ls ks v apart has)))

-- ---- parts under a choice

module _ {is_predicate : ℕ → Bool} (functions : FunctionSymbols is_predicate) (form : List TreeClause) (bodies : ℕ → TreeClause) (ns : List NameLit) (choice : ℕ → GroundClause) where
  -- a ground clause whose truth makes what is chosen true
  abbrev pub Chosen : GroundClause → Type 0
  Chosen g = Supports functions (IsUsable form bodies ns) (λ i. clause_true i g ≡ true → chosen_true i choice ns ≡ true)

  -- such a ground instance of literals
  pub record ChosenPart (ls : List TreeLiteral) : Type 0 where
    pub trees : Substitution
    pub trees_ground : IsGroundOver functions trees
    pub chosen : Chosen (literals_instance trees ls)

  -- and ground instances of all parts, under one substitution
  pub record ChosenParts (lss : List (List TreeLiteral)) : Type 0 where
    pub trees : Substitution
    pub trees_ground : IsGroundOver functions trees
    pub chosen : AllByRecursion (λ ls. Chosen (literals_instance trees ls)) lss

  -- a part whose canonical form has a ground instance that makes what is chosen true
  from_canonical :
      (ls ks : List TreeLiteral) (g : GroundClause) (σ : Substitution)
      → canonical_literals ls ≡ ks → IsGroundOver functions σ → g ≡ literals_instance σ ks → Chosen g → ChosenPart ls
  from_canonical ls ks g σ same ground is chosen =
      record { trees = made.trees; trees_ground = made.trees_ground; chosen = subst Chosen made.literals chosen }
    where
      part : TreeClause
      part = record { literals = ls; names = [] }

      made : GroundInstance functions part g
      made =
          (ground_instances_of_canonical is_predicate functions part g).1
          (record { trees = σ; trees_ground = ground; literals = is ∙ ap (literals_instance σ) (sym same) })

  -- The part of a component line is chosen for its name. That of an opposite line is false where the name's body is true, which is
  -- usable.
  part-chosen :
      (σ : Substitution) (d : Parent) (ls : List TreeLiteral)
      → IsGroundOver functions σ → IsChoice functions bodies ns choice
      → AreAmong (map opposite d.clause.names) ns → DefinesName bodies d.clause → canonical_literals ls ≡ d.clause.literals
      → ChosenPart ls
  part-chosen σ d ls ground is_choice among (inl it) same =
      from_canonical ls (bodies it.name).literals (choice it.name) made.trees (same ∙ sym it.same_literals) made.trees_ground made.literals
      (Supports-always functions (λ i holds. list_any-name (chosen_name_true i choice) (positive_of it.name) ns has holds))
    where
      has : has_name (positive_of it.name) ns ≡ true
      has =
          among (positive_of it.name)
          (ap (λ ms. has_name (positive_of it.name) (map opposite ms)) it.one_name
          ∙ or_left (it.name == it.name) false (eq-eqb it.name it.name refl))

      made : GroundInstance functions (bodies it.name) (choice it.name)
      made = is_choice it.name has
  part-chosen σ d ls ground is_choice among (inr it) same =
      from_canonical ls (complement it.literal ∷ []) (complement it.literal ∷ []) σ (same ∙ it.complemented) ground
      (sym (one_literal-ground σ (complement it.literal) it.ground))
      (Supports-then functions (λ i ok holds other. absurd (complement-other i it.literal holds other))
      (Supports-instance functions (bodies it.name) (it.literal ∷ []) (inr (it.name, has, refl)) (record {
        trees = σ;
        trees_ground = ground;
        literals =
            sym (one_literal-ground σ it.literal it.ground) ∙ ap (literals_instance σ) (sym it.same_literals);
      })))
    where
      has : has_name (negative_of it.name) ns ≡ true
      has =
          among (negative_of it.name)
          (ap (λ ms. has_name (negative_of it.name) (map opposite ms)) it.one_name
          ∙ or_left (it.name == it.name) false (eq-eqb it.name it.name refl))

  -- parts that share no variables with some literals keep their instances
  chosen-joined :
      (ls : List TreeLiteral) (σ τ : Substitution) (lss : List (List TreeLiteral))
      → list_all (λ ks. not (share_variable ls ks)) lss ≡ true
      → AllByRecursion (λ ks. Chosen (literals_instance τ ks)) lss
      → AllByRecursion (λ ks. Chosen (literals_instance (joined ls σ τ) ks)) lss
  chosen-joined ls σ τ [] apart chosen = tt
  chosen-joined ls σ τ (ks ∷ lss) apart chosen =
      let parts = and_parts (not (share_variable ls ks)) (list_all (λ ms. not (share_variable ls ms)) lss) apart in (
        subst Chosen (sym (joined-second ls ks σ τ parts.0)) chosen.0,
        chosen-joined ls σ τ lss parts.1 chosen.1,
      )

  -- one more part
  part-joined :
      (ls : List TreeLiteral) (lss : List (List TreeLiteral))
      → list_all (λ ks. not (share_variable ls ks)) lss ≡ true → ChosenPart ls → ChosenParts lss → ChosenParts (ls ∷ lss)
  part-joined ls lss apart first rest = record {
    trees = joined ls first.trees rest.trees;
    trees_ground = λ v.
        cond_both (has_number v (flat_map literal_variables ls)) (first.trees v) (rest.trees v) (λ t. ground_over functions.symbols t ≡ true)
        (λ here. first.trees_ground v)
        (λ other. rest.trees_ground v);
    chosen = (
      subst Chosen (sym (joined-first ls first.trees rest.trees)) first.chosen,
      chosen-joined ls first.trees rest.trees lss apart rest.chosen,
    );
  }

  pub parts-chosen :
      (σ : Substitution) (ds : List Parent) (lss : List (List TreeLiteral))
      → IsGroundOver functions σ → IsChoice functions bodies ns choice
      → AreAmong (map opposite (flat_map (λ (d : Parent). d.clause.names) ds)) ns
      → AllByRecursion (λ (d : Parent). d.introduces ≡ true → DefinesName bodies d.clause) ds
      → are_defined (map Some ds) lss ≡ true → share_no_variables lss ≡ true
      → ChosenParts lss
  parts-chosen σ [] [] ground is_choice among define defined apart = record { trees = σ; trees_ground = ground; chosen = tt }
  parts-chosen σ [] (ls ∷ lss) ground is_choice among define defined apart = absurd (false≢true defined)
  parts-chosen σ (d ∷ ds) [] ground is_choice among define defined apart = absurd (false≢true defined)
  parts-chosen σ (d ∷ ds) (ls ∷ lss) ground is_choice among define defined apart =
      let rest : List NameLit = flat_map (λ (e : Parent). e.clause.names) ds in
      let among_all : AreAmong (map opposite d.clause.names ++ map opposite rest) ns =
      λ n has. among n (ap (has_name n) (map-append opposite d.clause.names rest) ∙ has) in
      let definitions = and_parts (defines d ls) (are_defined (map Some ds) lss) defined in
      let one = and_parts d.introduces (literals_eq (canonical_literals ls) d.clause.literals) definitions.0 in
      let aparts = and_parts (list_all (λ ks. not (share_variable ls ks)) lss) (share_no_variables lss) apart in
      part-joined ls lss aparts.0
      (part-chosen σ d ls ground is_choice
      (λ n has. among_all n (AreAmong-front (map opposite d.clause.names) (map opposite rest) n has))
      (define.0 one.0) (literals_eq-says (canonical_literals ls) d.clause.literals one.1))
      (parts-chosen σ ds lss ground is_choice
      (λ n has. among_all n (AreAmong-back (map opposite d.clause.names) (map opposite rest) n has))
      define.1 definitions.1 aparts.1)
