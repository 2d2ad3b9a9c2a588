-- Each field is the word that the definition names.
use borrow.Author.Rules.{rules}
use Rattle.file_trailer.specs.File.{back_of, edges_at, edges_of, operations_at, operations_of, trailer_at}
use Rattle.file_trailer.proofs.numbers.Goals as goal

pub returns : goal.returns
unfolding operations_at operations_of edges_at edges_of back_of trailer_at
returns c = search rules
