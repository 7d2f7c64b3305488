-- Verdicts taken apart: what holds where a step has a conclusion.
use Rattle.std.proofs.Common.{◌≡◌, ℕ, Bool, true, false, ◌&&◌, List, [], ◌∷◌, ◌++◌, map, Option, Some, None, refl, subst}
use Rattle.std.specs.Prelude.{option_map, option_and_then, flat_map}
use Rattle.std.specs.List.{AllByRecursion}
use Rattle.std.proofs.lemmas.Bool.{and_parts}
use Rattle.std.proofs.lemmas.Option.{option_and_then_some, none-some, same_Some}
use Rattle.plain_types.specs.declared.sequence.NameLit.{NameLit}
use Rattle.plain_types.specs.Names.{opposite}
use Rattle.fol_base.specs.Tree.{Tree}
use Rattle.fol_base.specs.Clause.{TreeLiteral, TreeClause}
use Rattle.fol_base.proofs.WorkedExamples.TestLemmas.{option_map-some, if_some}
use Rattle.kernel_steps.specs.Names.{chained}
use Rattle.kernel_steps.specs.Parents.{Parent, Parents, all_there}
use Rattle.kernel_steps.specs.Split.{is_split}
use Rattle.kernel_steps.specs.Conclusion.{binds, binds_parent, bound_literals, concludes, verdict_of, verdict_if, clause_with, by_one, by_two, split_from, names_at, clause_of_names}

pub verdict_of-some : (made : Option TreeClause) (c : TreeClause) → verdict_of made ≡ concludes c → made ≡ Some c
verdict_of-some None c h = absurd (cc)
verdict_of-some (Some d) c h = cc

pub verdict_if-some :
    (bound : Bool) (made : Option TreeClause) (c : TreeClause) → verdict_if bound made ≡ concludes c → (bound ≡ true) × (made ≡ Some c)
verdict_if-some true made c h = (refl, verdict_of-some made c h)
verdict_if-some false made c h = absurd (cc)

-- ---- rules of one parent

pub record OneParts (parent : Option Parent) (bind : List Tree) (rule : List TreeLiteral → Option (List TreeLiteral)) (c : TreeClause) : Type 0 where
  pub source : Parent
  pub there : parent ≡ Some source
  pub bound : binds bind source.clause ≡ true
  pub literals : List TreeLiteral
  pub made : rule (bound_literals bind source.clause) ≡ Some literals
  pub gives : clause_with source.clause.names literals ≡ c

pub by_one-parts :
    (parent : Option Parent) (bind : List Tree) (rule : List TreeLiteral → Option (List TreeLiteral)) (c : TreeClause)
    → by_one parent bind rule ≡ concludes c → OneParts parent bind rule c
by_one-parts None bind rule c h = absurd (cc)
by_one-parts (Some p) bind rule c h =
    let parts = verdict_if-some (binds bind p.clause) (option_map (clause_with p.clause.names) (rule (bound_literals bind p.clause))) c h in
    option_map-some (clause_with p.clause.names) (rule (bound_literals bind p.clause)) c parts.1 λ ls ls_is gives.
    record { source = p; there = refl; bound = parts.0; literals = ls; made = ls_is; gives = gives }

-- ---- rules of two

pub record TwoParts
    (first : Option Parent) (first_bind : List Tree) (second : Option Parent) (second_bind : List Tree)
    (rule : List TreeLiteral → List TreeLiteral → Option (List TreeLiteral)) (c : TreeClause) : Type 0 where
  pub source : Parent
  pub first_there : first ≡ Some source
  pub first_bound : binds first_bind source.clause ≡ true
  pub target : Parent
  pub second_there : second ≡ Some target
  pub second_bound : binds second_bind target.clause ≡ true
  pub literals : List TreeLiteral
  pub made : rule (bound_literals first_bind source.clause) (bound_literals second_bind target.clause) ≡ Some literals
  pub gives : clause_with (source.clause.names ++ target.clause.names) literals ≡ c

pub by_two-parts :
    (first : Option Parent) (first_bind : List Tree) (second : Option Parent) (second_bind : List Tree)
    (rule : List TreeLiteral → List TreeLiteral → Option (List TreeLiteral)) (c : TreeClause)
    → by_two first first_bind second second_bind rule ≡ concludes c → TwoParts first first_bind second second_bind rule c
by_two-parts None first_bind second second_bind rule c h =
    absurd (none-some c (verdict_if-some (true && binds_parent second_bind second) None c h).1)
by_two-parts (Some p) first_bind None second_bind rule c h =
    absurd (none-some c (verdict_if-some (binds first_bind p.clause && true) None c h).1)
by_two-parts (Some p) first_bind (Some q) second_bind rule c h =
    let whole : Option (List TreeLiteral) = rule (bound_literals first_bind p.clause) (bound_literals second_bind q.clause) in
    let parts =
    verdict_if-some (binds first_bind p.clause && binds second_bind q.clause) (option_map (clause_with (p.clause.names ++ q.clause.names)) whole) c h in
    let both = and_parts (binds first_bind p.clause) (binds second_bind q.clause) parts.0 in
    option_map-some (clause_with (p.clause.names ++ q.clause.names)) whole c parts.1 λ ls ls_is gives.
    record {
      source = p;
      first_there = refl;
      first_bound = both.0;
      target = q;
      second_there = refl;
      second_bound = both.1;
      literals = ls;
      made = ls_is;
      gives = gives;
    }

-- ---- splits and chains

-- what holds of each value that can be looked up holds of those of a list that are there
pub all_there-each :
    {X N : Type 0} (P : X → Type 0) (look : N → Option X) (ns : List N) (xs : List X)
    → ((n : N) (x : X) → look n ≡ Some x → P x) → all_there (map look ns) ≡ Some xs → AllByRecursion P xs
all_there-each P look [] xs each h = subst (AllByRecursion P) (same_Some [] xs h) tt
all_there-each P look (n ∷ ns) xs each h =
    option_and_then_some (λ x. option_map (λ ys. x ∷ ys) (all_there (map look ns))) (look n) xs h λ x x_is x_step.
    option_map-some (λ ys. x ∷ ys) (all_there (map look ns)) xs x_step λ ys ys_is gives.
    subst (AllByRecursion P) gives (each n x x_is, all_there-each P look ns ys each ys_is)

pub record SplitParts (parent : Option Parent) (definitions : List (Option Parent)) (parts : List (List ℕ)) (c : TreeClause) : Type 0 where
  pub source : Parent
  pub there : parent ≡ Some source
  pub defined : List Parent
  pub definitions_there : all_there definitions ≡ Some defined
  pub is_one : is_split source.clause.literals defined parts ≡ true
  pub gives : clause_with (source.clause.names ++ map opposite (flat_map (λ (d : Parent). d.clause.names) defined)) [] ≡ c

pub split-parts :
    (parent : Option Parent) (definitions : List (Option Parent)) (parts : List (List ℕ)) (c : TreeClause)
    → verdict_of (option_and_then (λ p. option_and_then (λ ds. split_from p ds parts) (all_there definitions)) parent) ≡ concludes c
    → SplitParts parent definitions parts c
split-parts parent definitions parts c h =
    option_and_then_some (λ p. option_and_then (λ ds. split_from p ds parts) (all_there definitions)) parent c
    (verdict_of-some (option_and_then (λ p. option_and_then (λ ds. split_from p ds parts) (all_there definitions)) parent) c h) λ p p_is p_step.
    option_and_then_some (λ ds. split_from p ds parts) (all_there definitions) c p_step λ ds ds_is ds_step.
    let made : TreeClause = clause_with (p.clause.names ++ map opposite (flat_map (λ (d : Parent). d.clause.names) ds)) [] in
    let tests = if_some (is_split p.clause.literals ds parts) (Some made) c ds_step in
    record {
      source = p;
      there = p_is;
      defined = ds;
      definitions_there = ds_is;
      is_one = tests.0;
      gives = same_Some made c tests.1;
    }

pub record ChainParts (parents : Parents) (numbers : List ℕ) (pivots : List NameLit) (c : TreeClause) : Type 0 where
  pub lists : List (List NameLit)
  pub there : all_there (map (names_at parents) numbers) ≡ Some lists
  pub names : List NameLit
  pub made : chained lists pivots ≡ Some names
  pub gives : clause_of_names names ≡ c

pub chain-parts :
    (parents : Parents) (numbers : List ℕ) (pivots : List NameLit) (c : TreeClause)
    → verdict_of (option_map clause_of_names (option_and_then (λ nss. chained nss pivots) (all_there (map (names_at parents) numbers)))) ≡ concludes c
    → ChainParts parents numbers pivots c
chain-parts parents numbers pivots c h =
    let names_of : Option (List NameLit) = option_and_then (λ nss. chained nss pivots) (all_there (map (names_at parents) numbers)) in
    option_map-some clause_of_names names_of c (verdict_of-some (option_map clause_of_names names_of) c h) λ names names_is gives.
    option_and_then_some (λ nss. chained nss pivots) (all_there (map (names_at parents) numbers)) names names_is λ nss nss_is made.
    record { lists = nss; there = nss_is; names = names; made = made; gives = gives }
