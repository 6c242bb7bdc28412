use Rattle.book.proofs.Written.{books_read_back}
use Rattle.layout_book.proofs.Theorems.{written_book_is_read}
use Rattle.book.proofs.Cover.{names_cover_text, found_lies_in_text}
use Rattle.book.proofs.HandedBack.{part_holds_name, only_part, lookup_refusals}
use Rattle.claims.proofs.name_books.Goals as goal

pub returns : goal.returns
returns c = (books_read_back, written_book_is_read, names_cover_text, found_lies_in_text, part_holds_name, only_part, lookup_refusals)
