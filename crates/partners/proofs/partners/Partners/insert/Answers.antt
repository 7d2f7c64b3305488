use Rattle.std.proofs.Common.{◌≡◌, ◌<◌, None, Some, ap, refl, sym, ◌∙◌, subst, arith}
use Rattle.std.specs.Prelude.{nat_eq, cond}
use Rattle.std.specs.Map.{lookup}
use Rattle.fol_base.specs.Clause.{clause_size}
use Rattle.fol_base.specs.declared.limits.TheConstants.{SIZE_LIMIT}
use Rattle.bank_clause.specs.Clause.{clause_at}
use Rattle.partners.specs.Partners.{HasAlso, PartnerSet, placed_numbered}
use Rattle.partners.specs.declared.partners.Partner.{Partner}
use Rattle.partners.proofs.FewLemmas.{few-sites}
use Rattle.partners.proofs.KnownLemmas.{absent-kept, also-of-bank, made-known, put-known, put-seen, seen}
use Rattle.list_lemmas.proofs.Results.{on-ok-at}
use Rattle.partners.proofs.partners.Partners.insert.Goals as goal

pub invariant_of-self : goal.invariant_of-self
invariant_of-self c = λ n p there. c.self.invariant n p (ap (lookup (nat_eq n)) (sym c.reserve.ensures.entries) ∙ there)

pub put_all-requires : goal.put_all-requires
put_all-requires c =
    let clause = clause_at c.args.member.now.clause in
    let small : clause_size clause < SIZE_LIMIT = omega arith in
    few-sites clause c.in_ok-sites.sites c.in_ok-sites.ensures.sites small

pub invariant_of-self-in_err-put_all : goal.invariant_of-self-in_err-put_all
invariant_of-self-in_err-put_all c =
    let a = c.self.inside in
    absent-kept a.mode c.args.member.now.number a.starts a.places c.put_all.new.starts c.put_all.new.places a.known.entries c.reserve.new.self.entries
    c.reserve.ensures.entries c.put_all.ensures.starts_kept c.put_all.ensures.places_kept
    (subst (λ (s : PartnerSet). placed_numbered c.args.member.now.number s.members ≡ None) (sym c.self.view_is) c.requires.number) c.self.invariant

pub invariant_of-self-2 : goal.invariant_of-self-2
invariant_of-self-2 c =
    let a = c.self.inside in
    let number = c.args.member.now.number in
    let small : clause_size (clause_at c.args.member.now.clause) < SIZE_LIMIT = omega arith in
    let q : Partner = record { position = c.args.position; member = record { number = number; clause = c.in_ok-clause.clause }; sites = c.in_ok-sites.sites } in
    let updates = on-ok-at c.insert.result c.unwrap.result c.unwrap.ensures c.insert.ensures.updates in
    put-known a.mode number a.starts a.places c.put_all.new.starts c.put_all.new.places a.known.entries c.insert.new.self.entries q
    (λ n. updates.0 n ∙ ap (λ es. cond (nat_eq number n) (Some q) (lookup (nat_eq n) es)) c.reserve.ensures.entries)
    c.put_all.ensures.starts_kept c.put_all.ensures.places_kept
    (made-known a.mode c.put_all.new.starts c.put_all.new.places c.args.member.now c.in_ok-clause.clause c.args.position c.in_ok-sites.sites
    c.lend-literals.result c.in_ok-clause.ensures c.in_ok-sites.ensures.sites c.in_ok-sites.ensures.mode
    (few-sites (clause_at c.args.member.now.clause) c.in_ok-sites.sites c.in_ok-sites.ensures.sites small) c.lend-literals.ensures
    c.in_ok-put_all.ensures.put)
    c.self.invariant

pub returns-clause-ok : goal.returns-clause-ok
returns-clause-ok c =
    let a = c.self.inside in
    let m = c.args.member.now in
    let q : Partner = record { position = c.args.position; member = record { number = m.number; clause = c.in_ok-clause.clause }; sites = c.in_ok-sites.sites } in
    let updates = on-ok-at c.insert.result c.unwrap.result c.unwrap.ensures c.insert.ensures.updates in
    subst (λ (s : PartnerSet). HasAlso (record { position = c.args.position; member = m }) s (seen a.mode c.insert.new.self.entries)) c.self.view_is
    (put-seen a.mode m.number a.known.entries c.insert.new.self.entries q m c.args.position refl refl c.in_ok-clause.ensures
    (λ n. updates.0 n ∙ ap (λ es. cond (nat_eq m.number n) (Some q) (lookup (nat_eq n) es)) c.reserve.ensures.entries))

pub returns-clause-of_bank : goal.returns-clause-of_bank
returns-clause-of_bank c = λ all.
    also-of-bank c.args.bank.now (record { position = c.args.position; member = c.args.member.now }) c.args.self.now
    (seen c.self.inside.mode c.insert.new.self.entries) (returns-clause-ok c) c.requires.member all
