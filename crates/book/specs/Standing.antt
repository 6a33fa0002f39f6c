-- What holds of every book, as a test: entries in order, of instruments 0 to 15.
use Rattle.std.specs.Prelude.{Bool, true, not, ◌&&◌, List, [], ◌∷◌, nat_lt}
use Rattle.book.specs.declared.entry.Entry.{Entry}
use Rattle.book.specs.Entries.{precedes}

-- None of these precedes the entry.
abbrev pub is_unpreceded : Entry → List Entry → Bool
is_unpreceded entry [] = true
is_unpreceded entry (other ∷ others) = not (precedes other entry) && is_unpreceded entry others

abbrev pub stands : List Entry → Bool
stands [] = true
stands (entry ∷ entries) = nat_lt entry.instrument 16 && (is_unpreceded entry entries && stands entries)
