use Rattle.std.proofs.Common.{◌≡◌, arith}
use Rattle.split_parts.specs.Forest.{IsColouring}
use Rattle.split_parts.proofs.AboutParts.ForestLemmas.{linked-roots}
use Rattle.split_parts.proofs.forest.join.Goals as goal

pub returns-then-one-other-clause-colouring : goal.returns-then-one-other-clause-colouring
returns-then-one-other-clause-colouring c = λ colour is.
    let one = c.root_of-one.result in
    let other = c.root_of-other.result in
    let after : IsColouring colour c.root_of-one.new.links = c.root_of-one.ensures.colouring colour is in
    let last : IsColouring colour c.root_of-other.new.links = c.root_of-other.ensures.colouring colour after in
    let one_root : colour one ≡ one = after.roots one (omega arith) c.root_of-one.ensures.root in
    let other_root : colour other ≡ other = last.roots other (omega arith) c.root_of-other.ensures.root in
    let first : colour one ≡ colour c.args.first = c.root_of-one.ensures.colour colour is in
    let second : colour other ≡ colour c.args.second = c.root_of-other.ensures.colour colour after in
    linked-roots c.root_of-other.new.links other one colour (colour c.args.first) (colour c.args.second) last other_root one_root
    (omega arith) (omega (arith, one_root, other_root, first, second)) (omega (arith, one_root, other_root, first, second))

pub returns-else-one-other-clause-colouring : goal.returns-else-one-other-clause-colouring
returns-else-one-other-clause-colouring c = λ colour is.
    let one = c.root_of-one.result in
    let other = c.root_of-other.result in
    let after : IsColouring colour c.root_of-one.new.links = c.root_of-one.ensures.colouring colour is in
    let last : IsColouring colour c.root_of-other.new.links = c.root_of-other.ensures.colouring colour after in
    let one_root : colour one ≡ one = after.roots one (omega arith) c.root_of-one.ensures.root in
    let other_root : colour other ≡ other = last.roots other (omega arith) c.root_of-other.ensures.root in
    let first : colour one ≡ colour c.args.first = c.root_of-one.ensures.colour colour is in
    let second : colour other ≡ colour c.args.second = c.root_of-other.ensures.colour colour after in
    linked-roots c.root_of-other.new.links one other colour (colour c.args.first) (colour c.args.second) last one_root other_root
    (omega arith) (omega (arith, one_root, other_root, first, second)) (omega (arith, one_root, other_root, first, second))
