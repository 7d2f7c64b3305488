-- Members as values of a model.
use Rattle.std.specs.Prelude.{ℕ, List, refl}
use Rattle.std.specs.Coded.{Coded, code_by, coded×, coded_ℕ, coded_list}
use Rattle.bank_clause.specs.Parts.{ClauseParts, clause_parts_code}
use Rattle.bank_clause.specs.declared.member.Member.{Member}

-- a member is stored as its number and its clause
abbrev pub member_code : Coded Member
member_code =
    code_by (ℕ × ClauseParts) (coded× coded_ℕ clause_parts_code) (λ (m : Member). (m.number, m.clause))
    (λ p. record { number = p.0; clause = p.1 }) (λ _. refl)

-- members, and how many times they are divided
abbrev pub content_code : Coded (List Member × ℕ)
content_code = coded× (coded_list member_code) coded_ℕ
