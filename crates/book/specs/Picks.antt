-- Which orders a cancel means.
use Rattle.std.specs.Prelude.{Bool, true}
use Rattle.terms.specs.declared.Order.{Order}
use Rattle.market.specs.Grounds.{is_order}
use Rattle.market.specs.Markets.{is_of}
use Rattle.book.specs.declared.picked.Picked.{Picked}
use Rattle.book.specs.declared.picked.Picked.TheVariants.{One, OfMember}
use Rattle.book.specs.declared.picked.Picked.TheVariants.{All as Every}

abbrev pub picks : Picked → Order → Bool
picks (One member number) order = is_order member number order
picks (OfMember member) order = is_of member order
picks Every order = true
