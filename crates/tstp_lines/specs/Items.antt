-- Words of items, and items that are lent.
use Rattle.std.specs.Prelude.{ℕ, List, codes, map}
use Rattle.std.specs.Borrow.{Bor}
use Rattle.tptp_source.specs.General.{GeneralTree}
use Rattle.tptp_source.specs.Shape.{tree_of}
use Rattle.tptp_source.specs.declared.term.GeneralTerm.{GeneralTerm}
use Rattle.clausal_form.specs.DerivationSteps.{OfLiteral}
use Rattle.tstp_lines.specs.declared.items.ItemWord.{ItemWord}
use Rattle.tstp_lines.specs.declared.items.ItemWord.TheVariants.{Index, From, Into, Literal, Bind, Parts, Pivots}
use Rattle.tstp_lines.specs.declared.items.LiteralSide.{LiteralSide}
use Rattle.tstp_lines.specs.declared.items.LiteralPlace.{LiteralPlace}

abbrev pub item_word : ItemWord → List ℕ
item_word Index = codes "index"
item_word From = codes "from"
item_word Into = codes "into"
item_word Literal = codes "lit"
item_word Bind = codes "bind"
item_word Parts = codes "parts"
item_word Pivots = codes "pivots"

abbrev pub literal_meant : LiteralSide → OfLiteral
literal_meant l = record { literal = l.literal; side = l.side }

abbrev pub into_meant : LiteralPlace → OfLiteral × List ℕ
into_meant l = (record { literal = l.literal; side = l.side }, l.place)

abbrev pub terms_lent : Bor (List GeneralTerm) → List GeneralTree
terms_lent ts = map tree_of ts.now
