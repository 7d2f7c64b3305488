-- The form of a result that was made.
use Rattle.std.proofs.Common.{◌≡◌, ◌+◌, ◌<◌, ◌≤◌, Bool, true, List, [], ◌∷◌, map, length, refl, ap, ap₂, subst, arith}
use Rattle.std.specs.Prelude.{All, vec_len, vec_capacity}
use Rattle.fol_base.specs.Clause.{TreeLiteral, TreeClause}
use Rattle.fol_base.specs.Literal.{clause_of}
use Rattle.fol_base.specs.Subsumption.{assertions}
use Rattle.fol_base.specs.declared.clause.Clause.{Clause}
use Rattle.kernel_steps.specs.Derivation.{under_names}
use Rattle.split_parts.specs.Components.{IsComponents}
use Rattle.term_bank.specs.Literal.{AreLiteralsOf}
use Rattle.term_bank.specs.declared.bank.Bank.{Bank}
use Rattle.term_bank.specs.declared.table.Table.{Table}
use Rattle.bank_clause.specs.Clause.{clause_at, IsKnown}
use Rattle.bank_clause.specs.ClauseHash.{clause_hash}
use Rattle.pool_history.specs.Components.{parts_of}
use Rattle.pool_history.specs.Registering.{has_none}
use Rattle.pool_core.specs.Parted.{AreParts, literals_of_parts}
use Rattle.pool_core.specs.Placing.{AreHandedIn, IsSplitClause, IsWholeClause}
use Rattle.pool_core.specs.declared.form.InternedClause.{InternedClause}
use Rattle.pool_core.specs.declared.form.SplitClause.{SplitClause}
use Rattle.pool_core.proofs.AboutSplits.HandedLemmas.{few-whole, parts-same, several-split, split-count}

handed-literals :
    (results : List Clause) (lss : List (List TreeLiteral)) → map clause_of results ≡ map (λ ls. under_names ls []) lss → literals_of_parts results ≡ lss
handed-literals [] [] same = refl
handed-literals [] (ls ∷ lss) same = absurd cc
handed-literals (x ∷ xs) [] same = absurd cc
handed-literals (x ∷ xs) (ls ∷ lss) same =
    let first : clause_of x ≡ under_names ls [] = cc in
    let rest : map clause_of xs ≡ map (λ ls. under_names ls []) lss = cc in
    ap₂ (λ (ms : List TreeLiteral) (mss : List (List TreeLiteral)). ms ∷ mss) (ap (λ (d : TreeClause). d.literals) first) (handed-literals xs lss rest)

pub split-made :
    (bank : Bank) (table : Table) (split : Bool) (c : TreeClause) (results : List Clause) (x : SplitClause)
    → AreHandedIn split c results → 1 < length results → IsComponents c.literals x.places → AreParts bank table (literals_of_parts results) x.parts
    → x.parts.tags.items ≡ [] → vec_len x.parts.tags + length results ≤ vec_capacity x.parts.tags
    → x.asserted.tags.items ≡ assertions c.names → x.asserted.names.items ≡ []
    → vec_len x.asserted.names + (length x.asserted.tags.items + length results) ≤ vec_capacity x.asserted.names
    → x.definitions.items ≡ [] → vec_len x.definitions + length results ≤ vec_capacity x.definitions
    → IsSplitClause bank table split c x
split-made bank table split c results x given many components parts no_tags tags_room tags names names_room definitions definitions_room =
    let splits = several-split c split results given many in
    let count : length results ≡ length (parts_of c.literals) = split-count c split results given many in
    record {
      splits = splits;
      places = parts-same c x.places components;
      parts = subst (λ lss. AreParts bank table lss x.parts) (handed-literals results (parts_of c.literals) (given.parts splits)) parts;
      no_tags = no_tags;
      tags_room = omega (arith, tags_room, count);
      asserted = record { tags = tags; names = names; room = omega (arith, names_room, count) };
      definitions = definitions;
      definitions_room = omega (arith, definitions_room, count);
    }

pub whole-made :
    (bank : Bank) (table : Table) (split : Bool) (c : TreeClause) (results : List Clause) (x : InternedClause)
    → AreHandedIn split c results → length results ≤ 1 → clause_at x.clause ≡ c → x.hash ≡ clause_hash x.clause → AreLiteralsOf bank x.clause.literals
    → All (IsKnown table) x.clause.literals → (has_none c.literals ≡ true → c.names ≡ []) → IsWholeClause bank table split c x
whole-made bank table split c results x given few same hashed of_bank known bare = record {
  whole = few-whole c split results given few;
  same = same;
  hashed = hashed;
  of_bank = of_bank;
  known = known;
  refutes = bare;
}
