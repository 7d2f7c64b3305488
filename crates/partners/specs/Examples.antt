-- A set of two members, for the worked examples.
use Rattle.std.specs.Prelude.{ℕ, [], ◌∷◌}
use Rattle.literal_selection.specs.declared.choice.Selection.TheVariants.{Negative}
use Rattle.bank_clause.specs.declared.member.Member.{Member}
use Rattle.partners.specs.Partners.{PartnerSet}

-- the empty clause, under a number
abbrev pub bare : ℕ → Member
bare n = record { number = n; clause = record { literals = []; names = [] } }

-- 3 at the position 0, and 5 at the position 1
abbrev pub two : PartnerSet
two = record { mode = Negative; members = record { position = 0; member = bare 3 } ∷ record { position = 1; member = bare 5 } ∷ [] }
