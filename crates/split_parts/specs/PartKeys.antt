-- Parts as keys: equality of parts is an equivalence, under which equal parts are hashed alike.
use mathlib.Core.Bool.{beq}
use Rattle.std.specs.Prelude.{◌≡◌, Bool, true, false, ◌&&◌, List, [], ◌∷◌, map, IsTrue}
use Rattle.std.specs.Cmp.{IsEquivalence, on_equiv, decided}
use Rattle.std.specs.Hash as fed
use Rattle.std.proofs.Common.{refl, ap, subst}
use Rattle.std.proofs.lemmas.Bool.{and_from}
use Rattle.fol_base.specs.Tree.{tree_eq}
use Rattle.fol_base.specs.Clause.{TreeLiteral, literal_eq, literals_eq}
use Rattle.fol_base.specs.Literal.{literal_of}
use Rattle.fol_base.proofs.AboutTerms.TreeLemmas.{tree_eq-refl}
use Rattle.kernel_steps.specs.Derivation.{complement}
use Rattle.kernel_steps.proofs.AboutSplits.SplitTests.{literals_eq-says}
use Rattle.split_parts.specs.PartHash.{part_hash}
use Rattle.split_parts.specs.declared.key.PartKey.{PartKey}
use Rattle.split_parts.specs.declared.key.PartRef.{PartRef}
use Rattle.split_parts.specs.declared.key.OppositeRef.{OppositeRef}

abbrev pub key_part : PartKey → List TreeLiteral
key_part k = map literal_of k.literals

abbrev pub lent_part : PartRef → List TreeLiteral
lent_part r = map literal_of r.literals.now

-- the part of one literal with the opposite sign
abbrev pub opposite_part : OppositeRef → List TreeLiteral
opposite_part r = complement (literal_of r.literal.now) ∷ []

abbrev pub same_part : PartKey → PartKey → Bool
same_part k j = literals_eq (key_part k) (key_part j)

-- ---- laws

beq-refl : (b : Bool) → beq b b ≡ true
beq-refl true = refl
beq-refl false = refl

pub literals_eq-refl : (ls : List TreeLiteral) → literals_eq ls ls ≡ true
literals_eq-refl [] = refl
literals_eq-refl (l ∷ ls) =
    and_from (literal_eq l l) (literals_eq ls ls)
    (and_from (beq l.positive l.positive && tree_eq l.left l.left) (tree_eq l.right l.right)
    (and_from (beq l.positive l.positive) (tree_eq l.left l.left) (beq-refl l.positive) (tree_eq-refl l.left)) (tree_eq-refl l.right))
    (literals_eq-refl ls)

pub literals_equiv : IsEquivalence literals_eq
literals_equiv = decided literals_eq (λ ls ks. (literals_eq-says ls ks, λ e. subst (λ ms. literals_eq ls ms ≡ true) e (literals_eq-refl ls)))

pub same_parts : IsEquivalence same_part
same_parts = on_equiv key_part literals_equiv

pub parts_hash_alike : (ls ks : List TreeLiteral) → IsTrue (literals_eq ls ks) → fed.u64 (part_hash 0 ls) ≡ fed.u64 (part_hash 0 ks)
parts_hash_alike ls ks h = ap (λ ms. fed.u64 (part_hash 0 ms)) (literals_eq-says ls ks h)
