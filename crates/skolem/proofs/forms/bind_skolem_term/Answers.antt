use Rattle.std.proofs.Common.{ℕ, Vec, Global, ap, refl, sym, subst, ◌+◌, ◌∙◌, length}
use Rattle.fol_base.specs.Tree.{tree_variables}
use Rattle.signature.specs.Clausal.{applied}
use Rattle.skolem.specs.declared.bound_term.BoundTerm.TheVariants.{Skolem}
use Rattle.skolem.specs.Bindings.{HasVariables, Covers}
use Rattle.skolem.proofs.AboutBindings.BoundTermLemmas.{variables-of}
use Rattle.skolem.proofs.AboutBindings.PlaceLemmas.{has-last}
use Rattle.skolem.proofs.AboutFormulas.FormLemmas.{scope-step}
use Rattle.skolem.proofs.forms.bind_skolem_term.Goals as goal

pub returns-clause-scope : goal.returns-clause-scope
returns-clause-scope c =
    scope-step c.args.signature.now c.args.name.now c.args.progress.now c.bind_term.new.self c.args.arguments.now.value.items
    (Skolem c.in_ok-symbol.symbol c.in_ok-clone.field-0) c.in_ok-symbol.symbol c.in_ok-arity.arity
    (c.in_ok-symbol.ensures ∙ ap (λ k. length c.args.signature.now + k) (ap length c.as_slice-made.ensures.value))
    (c.in_ok-arity.ensures ∙ ap length (c.as_slice.ensures.value ∙ ap (λ (v : Vec ℕ Global). v.items) c.deref.ensures)) (ap (λ (v : Vec ℕ Global). applied c.in_ok-symbol.symbol v.items) c.in_ok-clone.ensures.cases)
    c.in_ok-bind_term.ensures.bindings c.in_ok-bind_term.ensures.variables c.in_ok-bind_term.ensures.arities

pub bind_term-requires : goal.bind_term-requires
bind_term-requires c =
    record {
      alike =
          subst (HasVariables c.args.progress.now.bindings c.args.alike)
          (sym
          (ap (λ (v : Vec ℕ Global). tree_variables (applied c.in_ok-symbol.symbol v.items)) c.in_ok-clone.ensures.cases
          ∙ variables-of c.args.arguments.now.value.items)) c.requires.alike;
      covers =
          subst (Covers c.args.progress.now.bindings c.args.covers)
          (sym
          (ap (λ (v : Vec ℕ Global). tree_variables (applied c.in_ok-symbol.symbol v.items)) c.in_ok-clone.ensures.cases
          ∙ variables-of c.args.arguments.now.value.items)) c.requires.covers;
    }

pub returns-clause-last : goal.returns-clause-last
returns-clause-last c =
    has-last c.args.progress.now.bindings _ _ _ c.args.arguments.now.value.items c.in_ok-bind_term.ensures.bindings refl
    (ap (λ (v : Vec ℕ Global). tree_variables (applied c.in_ok-symbol.symbol v.items)) c.in_ok-clone.ensures.cases
    ∙ variables-of c.args.arguments.now.value.items)
