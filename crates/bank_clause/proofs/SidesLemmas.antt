-- The sides of a clause's literals, interned one literal after another.
use Rattle.std.proofs.Common.{◌≡◌, ℕ, zero, suc, ◌+◌, ◌<◌, List, [], ◌∷◌, ◌++◌, length, map, take, drop, get_or, Some, refl, sym, ap, ◌∙◌, subst, append-nil, arith, Result, Ok, Err, OnErr}
use Rattle.std.proofs.lemmas.List.{map-append}
use Rattle.std.proofs.lemmas.List.Elements.{All-push}
use Rattle.std.proofs.lemmas.Grind.{flat_map-append}
use Rattle.std.specs.List.{All}
use Rattle.std.specs.Map.{lookup}
use Rattle.fol_base.specs.Tree.{Tree, tree_eq}
use Rattle.fol_base.specs.Clause.{TreeLiteral}
use Rattle.fol_base.specs.Literal.{literal_of}
use Rattle.fol_base.specs.declared.clause.Literal.{Literal}
use Rattle.fol_base.proofs.ListLemmas.{map-take_more_item}
use Rattle.term_bank.specs.Bank.{number, tree_at}
use Rattle.term_bank.specs.Table.{entries, number_in}
use Rattle.term_bank.specs.Interning.{InternsAll, InternsFirst}
use Rattle.term_bank.specs.Literal.{IsLiteralOf, AreLiteralsOf, literal_at, literals_at}
use Rattle.term_bank.proofs.LookupLemmas.{lookup-more}
use Rattle.term_bank.proofs.InterningLemmas.{interns_onward, interns_partly_onward, interns_first_of_more}
use Rattle.term_bank.specs.declared.literal.BankLit.{BankLit}
use Rattle.term_bank.specs.declared.reference.TermRef.{TermRef}
use Rattle.term_bank.specs.declared.bank.Bank.{Bank}
use Rattle.term_bank.specs.declared.table.Table.{Table}
use Rattle.bank_clause.specs.Clause.{IsKnown, literal_sides, sides}
use Rattle.bank_clause.specs.Laws.{KeepsKnownLiterals, KeepsLiteralsOnTheWay}

-- ---- nothing is forgotten

-- a reference with the table's number keeps it when further trees are interned
pub known-kept :
    (trees : List Tree) (known learned : Table) (r : TermRef) (t : Tree)
    → InternsAll trees known learned → tree_at r ≡ t → number_in known t ≡ Some (number r)
    → number_in learned (tree_at r) ≡ Some (number r)
known-kept trees known learned r t all tree has =
    (λ j. lookup (tree_eq (tree j)) (all.table j)) ∙ lookup-more (tree_eq t) (entries known) all.more (number r) has

-- and so do those of literals
pub known-literals-kept : KeepsKnownLiterals
known-literals-kept trees known learned ls all has k d below =
    let l : BankLit = get_or ls k d in
    let left : number_in learned (tree_at l.left) ≡ Some (number l.left) =
    known-kept trees known learned l.left (tree_at l.left) all refl (has k d below).0 in
    let right : number_in learned (tree_at l.right) ≡ Some (number l.right) =
    known-kept trees known learned l.right (tree_at l.right) all refl (has k d below).1 in
    (left, right)

pub literals-kept-on-the-way : KeepsLiteralsOnTheWay
literals-kept-on-the-way trees known learned ls part has = known-literals-kept part.0 known learned ls part.3 has

-- one more literal, after its sides are interned
pub literals-push :
    (trees : List Tree) (known learned : Table) (bank : Bank) (ls : List BankLit) (l : BankLit) (made : List TreeLiteral) (t : TreeLiteral)
    → InternsAll trees known learned
    → AreLiteralsOf bank ls → literals_at ls ≡ made → All (IsKnown known) ls
    → IsLiteralOf bank l → literal_at l ≡ t → IsKnown learned l
    → AreLiteralsOf bank (ls ++ l ∷ []) × (literals_at (ls ++ l ∷ []) ≡ made ++ t ∷ []) × All (IsKnown learned) (ls ++ l ∷ [])
literals-push trees known learned bank ls l made t all are_of same has is_of stands is_known = (
  All-push (IsLiteralOf bank) ls l are_of is_of,
  map-append literal_at ls (l ∷ []) ∙ (λ j. same j ++ stands j ∷ []),
  All-push (IsKnown learned) ls l (known-literals-kept trees known learned ls all has) is_known,
)

-- ---- the sides of the first literals, and of all

sides-take :
    (ls : List Literal) (i : ℕ) (l : Literal) → i < length ls → l ≡ get_or ls i l
    → sides (map literal_of (take (i + 1) ls)) ≡ sides (map literal_of (take i ls)) ++ literal_sides (literal_of l)
sides-take ls i l below is =
    ap sides (map-take_more_item literal_of ls i l below is)
    ∙ flat_map-append literal_sides (map literal_of (take i ls)) (literal_of l ∷ [])

sides-split :
    (ls : List Literal) (i : ℕ) (l : Literal) → i < length ls → l ≡ get_or ls i l
    → sides (map literal_of ls)
    ≡ sides (map literal_of (take i ls)) ++ (literal_sides (literal_of l) ++ sides (map literal_of (drop (suc i) ls)))
sides-split [] i l below is = absurd (omega (arith, below))
sides-split (x ∷ xs) zero l below is = ap (λ y. literal_sides (literal_of y) ++ sides (map literal_of xs)) (sym is)
sides-split (x ∷ xs) (suc i) l below is =
    ap (λ ts. literal_sides (literal_of x) ++ ts) (sides-split xs i l (omega (arith, below)) is)

part-of :
    (front its behind : List Tree) (first second third : Table)
    → InternsAll front first second → InternsFirst its second third → InternsFirst (front ++ (its ++ behind)) first third
part-of front its behind first second third near far =
    interns_partly_onward front (its ++ behind) first second third near (interns_first_of_more its behind second third far)

-- all of the trees are some first ones of them
pub interned-whole :
    (trees : List Tree) (known learned : Table) → InternsAll trees known learned → InternsFirst trees known learned
interned-whole trees known learned all = (trees, [], sym (append-nil trees), all)

-- what holds anyway holds where a call fails
pub on-err : {T X P : Type 0} (r : Result T X) → P → OnErr r P
on-err (Ok x) p = tt
on-err (Err e) p = p

-- the sides of one literal more
pub interned-literal :
    (ls : List Literal) (i : ℕ) (l : Literal) (first second third : Table)
    → i < length ls → l ≡ get_or ls i l
    → InternsAll (sides (map literal_of (take i ls))) first second
    → InternsAll (literal_sides (literal_of l)) second third
    → InternsAll (sides (map literal_of (take (i + 1) ls))) first third
interned-literal ls i l first second third below is near far =
    subst (λ ts. InternsAll ts first third) (sym (sides-take ls i l below is))
    (interns_onward (sides (map literal_of (take i ls))) (literal_sides (literal_of l)) first second third near far)

-- the first ones of them are first ones of all
pub interned-part :
    (ls : List Literal) (i : ℕ) (l : Literal) (first second third : Table)
    → i < length ls → l ≡ get_or ls i l
    → InternsAll (sides (map literal_of (take i ls))) first second
    → InternsFirst (literal_sides (literal_of l)) second third
    → InternsFirst (sides (map literal_of ls)) first third
interned-part ls i l first second third below is near far =
    subst (λ ts. InternsFirst ts first third) (sym (sides-split ls i l below is))
    (part-of (sides (map literal_of (take i ls))) (literal_sides (literal_of l)) (sides (map literal_of (drop (suc i) ls))) first second third near far)
