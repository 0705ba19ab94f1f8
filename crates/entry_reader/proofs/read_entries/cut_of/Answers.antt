use Rattle.entry_reader.proofs.ReadPieces.{kept_cut}
use Rattle.entry_reader.proofs.read_entries.cut_of.Goals as goal

pub returns-in_err-connection_of-clause-of : goal.returns-in_err-connection_of-clause-of
returns-in_err-connection_of-clause-of c = λ p k up down f e.
    let w = kept_cut k up down c.args.text.now _ _ _ _ f e c.parts.ensures.front c.parts.ensures.behind c.parts-2.ensures.front c.parts-2.ensures.behind in
    absurd (cc (c.connection_of.ensures.of k w.conn, c.in_err-connection_of.was))

pub returns-in_err-number32_of-clause-of : goal.returns-in_err-number32_of-clause-of
returns-in_err-number32_of-clause-of c = λ p k up down f e.
    let w = kept_cut k up down c.args.text.now _ _ _ _ f e c.parts.ensures.front c.parts.ensures.behind c.parts-2.ensures.front c.parts-2.ensures.behind in
    absurd (cc (c.number32_of.ensures.of up w.up_small w.up, c.in_err-number32_of.was))

pub returns-in_err-number32_of-2-clause-of : goal.returns-in_err-number32_of-2-clause-of
returns-in_err-number32_of-2-clause-of c = λ p k up down f e.
    let w = kept_cut k up down c.args.text.now _ _ _ _ f e c.parts.ensures.front c.parts.ensures.behind c.parts-2.ensures.front c.parts-2.ensures.behind in
    absurd (cc (c.number32_of-2.ensures.of down w.down_small w.down, c.in_err-number32_of-2.was))

pub returns-clause-of : goal.returns-clause-of
returns-clause-of c = λ p k up down f e.
    let w = kept_cut k up down c.args.text.now _ _ _ _ f e c.parts.ensures.front c.parts.ensures.behind c.parts-2.ensures.front c.parts-2.ensures.behind in
    cc (c.connection_of.ensures.of k w.conn, c.number32_of.ensures.of up w.up_small w.up, c.number32_of-2.ensures.of down w.down_small w.down, c.in_ok-connection_of.was, c.in_ok-number32_of.was, c.in_ok-number32_of-2.was)
