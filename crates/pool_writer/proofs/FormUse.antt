-- The use of symbols in a form's clauses is that which its signature tells.
use Rattle.std.proofs.Common.{◌≡◌, true, List, [], ◌∷◌, refl, subst}
use Rattle.std.specs.List.{list_all}
use Rattle.std.proofs.lemmas.Bool.{and_parts, and_from}
use Rattle.fol_base.specs.Kind.{is_literal}
use Rattle.fol_base.specs.Clause.{TreeLiteral, TreeClause}
use Rattle.fol_base.specs.WellFormed.{SymbolUse, is_literal_of, are_literals_of}
use Rattle.tptp_tree.specs.declared.problem.Annotated.{Annotated}
use Rattle.signature.specs.declared.symbol.Symbol.{Symbol}
use Rattle.signature.specs.Form.{clausal_form}
use Rattle.kernel_steps.specs.Symbols.{literal_symbols_pass}
use Rattle.clausal_form.specs.FormFunctions.{is_predicate_in}
use Rattle.clausal_form.specs.FormLaws.{use_of}
use Rattle.clausal_form.proofs.AboutForms.WellFormedLemmas.{forms-are-well-formed}
use Rattle.tstp_writer.specs.ReadableLines.{is_symbol_in, is_literal_over}

pub literals-over :
    (symbols : List Symbol) (ls : List TreeLiteral)
    → are_literals_of (use_of symbols) ls ≡ true → list_all (literal_symbols_pass (is_symbol_in symbols)) ls ≡ true
    → list_all (is_literal_over symbols) ls ≡ true
literals-over symbols [] used known = refl
literals-over symbols (l ∷ ls) used known =
    let one = and_parts (is_literal_of (use_of symbols) l) (are_literals_of (use_of symbols) ls) used in
    let two = and_parts (literal_symbols_pass (is_symbol_in symbols) l) (list_all (literal_symbols_pass (is_symbol_in symbols)) ls) known in
    let kind = (and_parts (is_literal (is_predicate_in symbols) l) _ one.0).0 in
    and_from (is_literal_over symbols l) (list_all (is_literal_over symbols) ls)
    (and_from (is_literal (is_predicate_in symbols) l) (literal_symbols_pass (is_symbol_in symbols) l) kind two.0)
    (literals-over symbols ls one.1 two.1)

pub form-used :
    (problem : List Annotated)
    → list_all (λ (c : TreeClause). are_literals_of (use_of (clausal_form problem).symbols) c.literals) (clausal_form problem).clauses ≡ true
form-used problem =
    let formed = forms-are-well-formed problem in
    subst (λ (u : SymbolUse). list_all (λ (c : TreeClause). are_literals_of u c.literals) (clausal_form problem).clauses ≡ true) formed.1 formed.0.used
