use Rattle.std.proofs.Common.{◌≡◌, Some}
use Rattle.entry_reader.proofs.ReadPieces.{message_found, sent_cut}
use Rattle.entry_reader.proofs.read_entries.sent_of.Goals as goal

pub returns-in_err-conn-clause-of : goal.returns-in_err-conn-clause-of
returns-in_err-conn-clause-of c = λ k d m line fit e.
    let w = sent_cut k d m c.args.text.now _ _ _ _ e c.parts.ensures.front c.parts.ensures.behind c.parts-2.ensures.front c.parts-2.ensures.behind in
    absurd (cc (c.connection_of.ensures.of k w.conn, c.in_err-conn.was))

pub returns-in_err-dir-clause-of : goal.returns-in_err-dir-clause-of
returns-in_err-dir-clause-of c = λ k d m line fit e.
    let w = sent_cut k d m c.args.text.now _ _ _ _ e c.parts.ensures.front c.parts.ensures.behind c.parts-2.ensures.front c.parts-2.ensures.behind in
    absurd (cc (c.direction_of.ensures.of d w.dir, c.in_err-dir.was))

pub returns-in_err-message_of-clause-of : goal.returns-in_err-message_of-clause-of
returns-in_err-message_of-clause-of c = λ k d m line fit e.
    let w = sent_cut k d m c.args.text.now _ _ _ _ e c.parts.ensures.front c.parts.ensures.behind c.parts-2.ensures.front c.parts-2.ensures.behind in
    let conn : c.in_ok-conn.conn ≡ k = cc (c.connection_of.ensures.of k w.conn, c.in_ok-conn.was) in
    let dir : c.in_ok-dir.dir ≡ d = cc (c.direction_of.ensures.of d w.dir, c.in_ok-dir.was) in
    absurd (cc (message_found _ _ _ _ _ _ m _ conn dir line fit c.message_of.ensures.of w.name, c.in_err-message_of.was))

pub returns-clause-of : goal.returns-clause-of
returns-clause-of c = λ k d m line fit e.
    let w = sent_cut k d m c.args.text.now _ _ _ _ e c.parts.ensures.front c.parts.ensures.behind c.parts-2.ensures.front c.parts-2.ensures.behind in
    let conn : c.in_ok-conn.conn ≡ k = cc (c.connection_of.ensures.of k w.conn, c.in_ok-conn.was) in
    let dir : c.in_ok-dir.dir ≡ d = cc (c.direction_of.ensures.of d w.dir, c.in_ok-dir.was) in
    let message : c.in_ok-message_of.field-0 ≡ m = cc (message_found _ _ _ _ _ _ m _ conn dir line fit c.message_of.ensures.of w.name, c.in_ok-message_of.was) in
    λ i. Some (conn i, dir i, message i)
