use Rattle.std.proofs.Common.{◌≡◌, true, false, None, map, ap, sym, ◌∙◌, subst, rules}
use Rattle.std.specs.Prelude.{All, IsTrue}
use Rattle.std.proofs.lemmas.Result.{IfOk-weaker}
use Rattle.fol_base.specs.Clause.{LiteralVariablesBelow}
use Rattle.fol_base.specs.Lent.{lent_of}
use Rattle.fol_base.specs.Subsumption.{is_among}
use Rattle.subsume.specs.Target.{IsMapped}
use Rattle.subsume.specs.Placing.{IsFoundFor}
use Rattle.subsume.specs.Kinds.{AreLiterals}
use Rattle.subsume.proofs.AboutSearch.ChoosingLemmas.{found-asserted}
use Rattle.subsume.proofs.subsuming.find_matcher.Goals as goal

pub returns-then-not-found-clause-found : goal.returns-then-not-found-clause-found
returns-then-not-found-clause-found g c =
    let ls = g.L.LendsLiterals.meaning c.args.literals.now in
    let no : c.in_ok-found.found ≡ false = search rules in
    let none =
    subst (λ ts. IsFoundFor ls (map lent_of ts) (IsMapped ls (map lent_of ts)) None) c.as_slice-targets.ensures.value (c.in_ok-found.ensures no) in
    λ p wl wd σ puts maps. none p wl wd σ puts maps.literals

pub returns-clause-found : goal.returns-clause-found
returns-clause-found g c =
    let ls = g.L.LendsLiterals.meaning c.args.literals.now in
    let asserted : is_among c.args.names.now c.as_slice.result.now ≡ true = search rules in
    let needed : IsTrue (is_among c.args.names.now c.args.target.now.assertions.items) =
    subst (λ xs. is_among c.args.names.now xs ≡ true) c.as_slice.ensures.value asserted in
    let lent : map lent_of c.as_slice-2.result.now ≡ ls = ap (map lent_of) c.as_slice-2.ensures.value ∙ c.in_ok-patterns.ensures in
    IfOk-weaker c.find_places.result _ _
    (λ found h.
    found-asserted c.args.names.now c.args.target.now.assertions.items ls (map lent_of c.args.target.now.literals.items) found needed
    (subst (λ ks. IsFoundFor ks (map lent_of c.args.target.now.literals.items) (IsMapped ks (map lent_of c.args.target.now.literals.items)) found) lent
    (subst (λ xs. IsFoundFor (map lent_of c.as_slice-2.result.now) (map lent_of xs) (IsMapped (map lent_of c.as_slice-2.result.now) (map lent_of xs)) found)
    c.as_slice-targets.ensures.value h)))
    c.find_places.ensures.found

pub returns-clause-below : goal.returns-clause-below
returns-clause-below g c =
    let lent : map lent_of c.as_slice-2.result.now ≡ g.L.LendsLiterals.meaning c.args.literals.now =
    ap (map lent_of) c.as_slice-2.ensures.value ∙ c.in_ok-patterns.ensures in
    IfOk-weaker c.find_places.result _ _ (λ found h. λ count all. h count (subst (All (LiteralVariablesBelow count)) (sym lent) all))
    c.find_places.ensures.below

pub returns-clause-function_terms : goal.returns-clause-function_terms
returns-clause-function_terms g c =
    let lent : map lent_of c.as_slice-2.result.now ≡ g.L.LendsLiterals.meaning c.args.literals.now =
    ap (map lent_of) c.as_slice-2.ensures.value ∙ c.in_ok-patterns.ensures in
    IfOk-weaker c.find_places.result _ _
    (λ found h. λ p wl wd. h p (subst (AreLiterals p) (sym lent) wl) (subst (λ xs. AreLiterals p (map lent_of xs)) (sym c.as_slice-targets.ensures.value) wd))
    c.find_places.ensures.function_terms
