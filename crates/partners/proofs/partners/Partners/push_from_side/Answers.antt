use Rattle.std.proofs.Common.{◌≡◌, List, ℕ, ◌+◌, length, take, ap, ap₂, refl, sym, ◌∙◌, subst, inl, inr, arith}
use Rattle.std.proofs.lemmas.List.{take_all}
use Rattle.std.proofs.lemmas.Option.{same_Some, slice_get_read}
use Rattle.fol_base.specs.Term.{tree_of}
use Rattle.eq_rules.specs.Inferences.{is_enough}
use Rattle.superpose.proofs.AboutSites.TriedLemmas.{begins-again, begins-self}
use Rattle.partners.specs.Meeting.{AddsNamed, name_into, names}
use Rattle.partners.specs.SiteTerms.{start_term}
use Rattle.partners.proofs.NamedLemmas.{named-next, named-nothing}
use Rattle.partners.proofs.TryLemmas.{places-met, places-none, places-some}
use Rattle.partners.proofs.partners.Partners.push_from_side.Goals as goal

pub loop-candidate-init : goal.loop-candidate-init
loop-candidate-init c = (
  (λ s at. named-nothing c.args.bound c.args.self.now c.args.given.now.member.now c.args.found.now.items),
  begins-self c.args.found.now.items,
)

pub loop-candidate-preserved : goal.loop-candidate-preserved
loop-candidate-preserved c =
    let items = c.as_slice-candidate-items.result.now in (
      (λ s at.
          named-next c.args.bound c.args.self.now c.args.given.now.member.now
          (name_into c.args.bound c.args.self.now c.args.given.now.member.now.number s) items c.loop-candidate.candidate-index
          c.args.found.now.items c.loop-candidate.found.items c.try_place.new.found.items c.loop-candidate-test.true
          (c.loop-candidate.invariant.0 s at) (c.in_ok-try_place.ensures.ok s at)),
      begins-again c.args.found.now.items c.loop-candidate.found.items c.try_place.new.found.items c.loop-candidate.invariant.1
          c.try_place.ensures.begins,
    )

-- the candidates up to this one are enough
pub returns-then-is_enough-clause-ok : goal.returns-then-is_enough-clause-ok
returns-then-is_enough-clause-ok c = λ s at.
    let g = c.args.given.now.member.now in
    let items = c.as_slice-candidate-items.result.now in
    let k = c.loop-candidate.candidate-index in
    inr (
      ap (is_enough c.args.most) (sym (c.len.ensures ∙ c.try_place.new.found.ok.0)) ∙ sym c.is_enough.ensures ∙ c.if-is_enough.true,
      places-some c.args.bound c.args.self.now g s (tree_of c.in-Some.side.now) c.in_ok-candidates.candidates (k + 1) c.args.found.now.items
          c.try_place.new.found.items c.in_ok-candidates.ensures
          (subst
          (λ (es : List ℕ).
          AddsNamed c.args.bound c.args.self.now g (names (name_into c.args.bound c.args.self.now g.number s) (take (k + 1) es)) c.args.found.now.items
          c.try_place.new.found.items)
          c.as_slice-candidate-items.ensures
          (named-next c.args.bound c.args.self.now g (name_into c.args.bound c.args.self.now g.number s) items k
          c.args.found.now.items c.loop-candidate.found.items c.try_place.new.found.items c.loop-candidate-test.true
          (c.loop-candidate.invariant.0 s at) (c.in_ok-try_place.ensures.ok s at))),
    )

pub returns-then-is_enough-clause-begins : goal.returns-then-is_enough-clause-begins
returns-then-is_enough-clause-begins c =
    begins-again c.args.found.now.items c.loop-candidate.found.items c.try_place.new.found.items c.loop-candidate.invariant.1
    c.try_place.ensures.begins

pub returns-in_default-clause-ok : goal.returns-in_default-clause-ok
returns-in_default-clause-ok c = λ s at.
    let sites = c.args.given.now.sites.now in
    let read = c.index.result.now in
    let same : read ≡ s =
    same_Some read s (sym (slice_get_read sites.from.items (length sites.from.items) c.args.from read refl c.requires.inside c.index.ensures) ∙ at) in
    inl
    (places-none c.args.bound c.args.self.now c.args.given.now.member.now s c.args.found.now.items
    (ap₂ start_term (sym c.lend-literals.ensures) (sym same) ∙ sym c.in_default.ensures))

pub returns-clause-ok : goal.returns-clause-ok
returns-clause-ok c = λ s at.
    let g = c.args.given.now.member.now in
    let sites = c.args.given.now.sites.now in
    let items = c.as_slice-candidate-items.result.now in
    let read = c.index.result.now in
    let same : read ≡ s =
    same_Some read s (sym (slice_get_read sites.from.items (length sites.from.items) c.args.from read refl c.requires.inside c.index.ensures) ∙ at) in
    inl
    (places-met c.args.bound c.args.self.now g s (tree_of c.in-Some.side.now) c.in_ok-candidates.candidates c.args.found.now.items
    c.loop-candidate.found.items
    (ap₂ start_term (sym c.lend-literals.ensures) (sym same) ∙ sym c.in-Some.ensures) c.in_ok-candidates.ensures
    (subst
    (λ (es : List ℕ).
    AddsNamed c.args.bound c.args.self.now g (names (name_into c.args.bound c.args.self.now g.number s) es) c.args.found.now.items
    c.loop-candidate.found.items)
    (take_all c.loop-candidate.candidate-index items (omega arith) ∙ c.as_slice-candidate-items.ensures)
    (c.loop-candidate.invariant.0 s at)))
