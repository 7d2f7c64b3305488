use Rattle.std.proofs.Common.{◌<◌, List, sym, subst}
use Rattle.std.specs.Prelude.{All}
use Rattle.std.proofs.lemmas.List.Elements.{All-nil}
use Rattle.kernel_steps.specs.declared.step.TheConstants.{CLAUSE_NUMBERS}
use Rattle.bank_clause.specs.declared.member.Member.{Member}
use Rattle.given_work.specs.Index.{AreParts}
use Rattle.given_work.specs.Occurring.{ListsMembers}
use Rattle.given_work.specs.Sets.{AreSetsOf}
use Rattle.given_work.specs.declared.store.Store.{Store}
use Rattle.given_work.proofs.index.Index.new.Goals as goal

pub invariant_of-result : goal.invariant_of-result
invariant_of-result c =
    let mode = c.args.options.select in
    let boxed = c.in_ok-sets.sets.value in
    subst (λ (store : Store). AreParts mode store boxed) (sym c.in_ok-store.ensures.ok)
    (subst (AreParts mode c.in_ok-new.field-0) (sym c.in_ok-sets.ensures.ok)
    (record {
      mode = c.in_ok-new.ensures.mode;
      placed = c.in_ok-new.ensures.placed;
      listed = subst (λ (ms : List Member). ListsMembers c.in_ok-new.field-0.terms ms) (sym c.in_ok-new.ensures.none) c.in_ok-new.ensures.listed;
      kept = subst (λ (ms : List Member). AreSetsOf ms c.in_ok-new-2.field-0) (sym c.in_ok-new.ensures.none) c.in_ok-new-2.ensures;
      numbered =
          subst (λ (ms : List Member). All (λ (m : Member). m.number < CLAUSE_NUMBERS) ms) (sym c.in_ok-new.ensures.none)
          (All-nil (λ (m : Member). m.number < CLAUSE_NUMBERS));
    }))
