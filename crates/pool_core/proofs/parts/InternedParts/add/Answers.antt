use Rattle.std.proofs.Common.{map, ap, sym, ◌∙◌, subst}
use Rattle.std.specs.Prelude.{All}
use Rattle.fol_base.specs.Clause.{TreeClause}
use Rattle.fol_base.specs.Literal.{clause_of, literal_of}
use Rattle.term_bank.specs.Literal.{AreLiteralsOf, literals_at}
use Rattle.bank_clause.specs.Clause.{IsKnown}
use Rattle.bank_clause.specs.ClauseHash.{literals_hash}
use Rattle.bank_clause.specs.Parts.{ClauseParts}
use Rattle.bank_clause.proofs.SidesLemmas.{known-literals-kept, literals-kept-on-the-way}
use Rattle.pool_core.specs.declared.parts.InternedPart.{InternedPart}
use Rattle.pool_core.proofs.AboutSplits.PartedLemmas.{one-more-part}
use Rattle.pool_core.proofs.parts.InternedParts.add.Goals as goal

pub returns-in_err-clause-clause-knows : goal.returns-in_err-clause-clause-knows
returns-in_err-clause-clause-knows g c = λ ls known. literals-kept-on-the-way _ c.args.table.now c.of_clause.new.table ls c.in_err-clause.ensures.interned_first known

pub returns-in_err-clause-2-clause-knows : goal.returns-in_err-clause-2-clause-knows
returns-in_err-clause-2-clause-knows g c = λ ls known. known-literals-kept _ c.args.table.now c.of_clause.new.table ls c.in_ok-clause.ensures.interned known

pub returns-in_err-push-clause-knows : goal.returns-in_err-push-clause-knows
returns-in_err-push-clause-knows g c = λ ls known. known-literals-kept _ c.args.table.now c.of_clause.new.table ls c.in_ok-clause.ensures.interned known

pub returns-in_err-push-2-clause-knows : goal.returns-in_err-push-2-clause-knows
returns-in_err-push-2-clause-knows g c = λ ls known. known-literals-kept _ c.args.table.now c.of_clause.new.table ls c.in_ok-clause.ensures.interned known

pub returns-clause-knows : goal.returns-clause-knows
returns-clause-knows g c = λ ls known. known-literals-kept _ c.args.table.now c.of_clause.new.table ls c.in_ok-clause.ensures.interned known

pub returns-clause-added : goal.returns-clause-added
returns-clause-added g c = λ lss are.
    let x : InternedPart = record { clause = c.in_ok-clause-2.clause; hash = c.literals_hash-hash.result } in
    one-more-part c.args.bank.now c.args.table.now c.of_clause.new.table lss c.args.self.now.keys.items c.push.new.self.items
    c.args.self.now.clauses.items c.push-2.new.self.items (clause_of c.args.part.now).literals c.in_ok-key.key x
    (λ ls known. known-literals-kept _ c.args.table.now c.of_clause.new.table ls c.in_ok-clause.ensures.interned known)
    c.in_ok-push.ensures.items c.in_ok-push-2.ensures.items are
    (record {
      keyed = c.in_ok-key.ensures ∙ ap (map literal_of) c.as_slice.ensures;
      clause = record {
        some = c.requires.fit.some;
        same = ap (λ (p : ClauseParts). literals_at p.literals) c.in_ok-clause-2.ensures ∙ ap (λ (d : TreeClause). d.literals) c.in_ok-clause.ensures.same;
        hashed =
            c.literals_hash-hash.ensures ∙ ap literals_hash c.literals.ensures.literals
            ∙ sym (ap (λ (p : ClauseParts). literals_hash p.literals) c.in_ok-clause-2.ensures);
        of_bank = subst (λ (p : ClauseParts). AreLiteralsOf c.args.bank.now p.literals) (sym c.in_ok-clause-2.ensures) c.in_ok-clause.ensures.of_bank;
        known = subst (λ (p : ClauseParts). All (IsKnown c.of_clause.new.table) p.literals) (sym c.in_ok-clause-2.ensures) c.in_ok-clause.ensures.known;
      };
    })
