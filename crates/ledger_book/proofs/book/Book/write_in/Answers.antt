use Rattle.ledger_book.proofs.book.Book.write_in.Goals as goal

pub returns-in-Ok : goal.returns-in-Ok
returns-in-Ok g c = record { goes = λ honest free w. c.commit.ensures.goes honest (c.put_all.ensures.goes honest free w) }

pub returns-in-Err : goal.returns-in-Err
returns-in-Err g c = record { goes = λ honest free w. c.roll_back.ensures.goes honest (c.put_all.ensures.goes honest free w) }
