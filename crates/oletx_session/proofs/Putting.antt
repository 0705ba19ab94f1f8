-- A frame is put on the way, piece by piece.
use Rattle.std.proofs.Common.{◌≡◌, ℕ, ◌+◌, ◌<◌, ◌≤◌, min, true, false, List, [], ◌∷◌, ◌++◌, length, map, take, drop, refl, ap, sym, ◌∙◌, arith, append_assoc}
use Rattle.std.proofs.lemmas.Bool.{and_from, cond-false, cond-true}
use Rattle.std.proofs.lemmas.List.{append-nil, append_cancel_left, map-append, take-append-drop, take_at, take_min}
use Rattle.std.proofs.lemmas.List.Elements.{filter-append}
use Rattle.dtx_values.specs.declared.message.Conn.{Conn}
use Rattle.dtx_values.specs.declared.message.Dir.{Dir}
use Rattle.dtx_model.specs.Outcome.{is_empty}
use Rattle.dtx_model.specs.Wires.{same_connection, same_direction}
use Rattle.oletx_session.specs.declared.piece.Piece.{Piece}
use Rattle.oletx_session.specs.Queues.{AreSameElse, bytes_in, is_on, on_way}
use Rattle.oletx_session.specs.Crossing.{cut}
use Rattle.dtx_model.proofs.Connections.{same_self, same_way}
use Rattle.oletx_session.proofs.Cutting.{cut_first}
use Rattle.oletx_session.proofs.Pieces.{not_on}

-- bytes of which there is one at least aren't empty
not_empty : (b : List ℕ) → 0 < length b → is_empty b ≡ false
not_empty [] some = absurd (omega arith)
not_empty (x ∷ b) some = refl

-- what comes off bytes is their first piece
pub cut_part : (n : ℕ) (b x rest : List ℕ) → 1 ≤ n → b ≡ x ++ rest → length x ≡ min n (length b) → 0 < length b → cut n b ≡ x ∷ cut n rest
cut_part n b x rest some is size full =
    let first : x ≡ take n b = sym (take_at x rest (length x) refl) ∙ ap (take (length x)) (sym is) ∙ ap (λ k. take k b) size ∙ take_min n b in
    let behind : drop n b ≡ rest = append_cancel_left (take n b) (drop n b) rest (take-append-drop n b ∙ is ∙ ap (λ (xs : List ℕ). xs ++ rest) first) in
    cut_first n b some (not_empty b full) ∙ (λ k. sym first k ∷ cut n (behind k))

-- a piece on this connection in this direction
on_its : (c : Conn) (d : Dir) (p : Piece) → p.connection ≡ c → p.direction ≡ d → is_on c d p ≡ true
on_its c d p at way =
    and_from (same_connection c p.connection) (same_direction d p.direction) ((λ k. same_connection c (at k)) ∙ same_self c) ((λ k. same_direction d (way k)) ∙ same_way d)

-- the first piece of what is to be put is put behind those on the way
pub put_piece : (c : Conn) (d : Dir) (n : ℕ) (ps : List Piece) (p : Piece) (b x rest : List ℕ) (all : List (List ℕ)) → 1 ≤ n → p.connection ≡ c → p.direction ≡ d → bytes_in p ≡ x → b ≡ x ++ rest
    → length x ≡ min n (length b) → 0 < length b → map bytes_in (on_way c d ps) ++ cut n b ≡ all → map bytes_in (on_way c d (ps ++ p ∷ [])) ++ cut n rest ≡ all
put_piece c d n ps p b x rest all some at way held is size full so_far =
    let lane = map bytes_in (on_way c d ps) in
    let more : on_way c d (ps ++ p ∷ []) ≡ on_way c d ps ++ p ∷ [] =
    filter-append (is_on c d) ps (p ∷ []) ∙ ap (λ xs. on_way c d ps ++ xs) (cond-true (is_on c d p) (p ∷ []) [] (on_its c d p at way)) in
    let put : map bytes_in (on_way c d (ps ++ p ∷ [])) ≡ lane ++ x ∷ [] =
    ap (map bytes_in) more ∙ map-append bytes_in (on_way c d ps) (p ∷ []) ∙ ap (λ (xs : List ℕ). lane ++ xs ∷ []) held in
    ap (λ xs. xs ++ cut n rest) put ∙ append_assoc lane (x ∷ []) (cut n rest) ∙ ap (λ xs. lane ++ xs) (sym (cut_part n b x rest some is size full)) ∙ so_far

-- the others are as before
pub put_else : (c : Conn) (d : Dir) (old ps : List Piece) (p : Piece) → p.connection ≡ c → p.direction ≡ d → AreSameElse c d old ps → AreSameElse c d old (ps ++ p ∷ [])
put_else c d old ps p at way same x e other =
    filter-append (is_on x e) ps (p ∷ []) ∙ ap (λ xs. on_way x e ps ++ xs) (cond-false (is_on x e p) (p ∷ []) [] (not_on c d x e p (on_its c d p at way) other))
    ∙ append-nil (on_way x e ps) ∙ same x e other

-- the pieces that are still to be put are one fewer
pub put_fewer : (n : ℕ) (b x rest : List ℕ) → 1 ≤ n → b ≡ x ++ rest → length x ≡ min n (length b) → 0 < length b → length (cut n b) ≡ length (cut n rest) + 1
put_fewer n b x rest some is size full = omega (arith, ap length (cut_part n b x rest some is size full))
