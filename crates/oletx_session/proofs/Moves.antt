-- What a start, a message, an end and a loss make of what is seen.
use Rattle.std.proofs.Common.{◌≡◌, ◌≤◌, ℕ, min, Bool, true, false, ◌&&◌, ◌||◌, not, List, [], ◌∷◌, ◌++◌, length, map, take, drop, Option, Some, None, Result, Ok, IfSome, is_some, refl, ap, sym, subst, ◌∙◌}
use Rattle.std.specs.List.{flat_map, list_any}
use Rattle.std.specs.Bool.{OnTrue}
use Rattle.std.proofs.lemmas.Bool.{and_from, and_parts, and_right, cond-false, cond-true, not-false, not-true, or_left, or_parts, OnTrue_at}
use Rattle.std.proofs.lemmas.List.{append-nil, take-append-drop}
use Rattle.std.proofs.lemmas.List.Concat.{flat_map-append}
use Rattle.std.proofs.lemmas.List.Folds.{flat_map-map, list_all-append}
use Rattle.dtx_values.specs.declared.message.Conn.{Conn}
use Rattle.dtx_values.specs.declared.message.Dir.{Dir}
use Rattle.dtx_values.specs.declared.message.Dir.TheVariants.{Up, Down}
use Rattle.dtx_values.specs.declared.message.Message.{Message}
use Rattle.dtx_model.specs.Frames.{frame_of, is_valid}
use Rattle.dtx_model.specs.Words.{each}
use Rattle.dtx_model.specs.Wires.{same_connection, same_direction}
use Rattle.oletx_session.specs.declared.link.Link.{Link}
use Rattle.oletx_session.specs.declared.piece.Piece.{Piece}
use Rattle.oletx_frames.specs.declared.refusal.FrameRefusal.{FrameRefusal}
use Rattle.oletx_session.specs.Crossing.{AreCutUp, AreKept, Takes, pieces_of}
use Rattle.oletx_session.specs.Queues.{AreSameElse, Changes, bytes_on, ended_in, bytes_in, has_ended, is_ending, is_on, link_of, lost_link, new_link, on_way, stopped_link, wire_in, wires_in}
use Rattle.dtx_model.specs.Outcome.{is_empty}
use Rattle.oletx_session.specs.Traffic.{Becomes, Delivers, Ends, IsCut, Spells, Wire, fresh, has_left, is_open, is_taken, lane, lost_at_once, lost_with, may_send, opposite, sent_on, wire_of, with_bytes, with_end}
use Rattle.dtx_model.proofs.Connections.{same_is}
use Rattle.oletx_session.proofs.Cutting.{cut_spells, pieces_joined}
use Rattle.oletx_session.proofs.Reading.{same_spelled}
use Rattle.oletx_session.proofs.Views.{AreOthers, any_bytes, becomes, frame_full, kept_lane, lane_bytes, lane_ended, left_seen, link_is, made, others_else, stays, wire_found, wire_missing}

-- what holds of a found link's wire holds of the connection's
of_found : (c : Conn) (ps : List Piece) (ls : List Link) (l : Link) (ws : List Wire) (P : Wire → Type 0) → wires_in ps ls ≡ ws → link_of c ls ≡ Some l → P (wire_in ps l) → IfSome (wire_of c ws) P
of_found c ps ls l ws P seen found h =
    let Q : Option Wire → Type 0 = λ o. IfSome o P in
    subst Q (sym (wire_found c ps ls l ws seen found)) h

-- the found link's connection is the one that was looked for
same_found : (c : Conn) (ls : List Link) (l : Link) → link_of c ls ≡ Some l → c ≡ l.connection
same_found c ls l found = same_is c l.connection (link_is c ls l found)

-- the other way isn't this way
not_opposite : (d : Dir) → same_direction (opposite d) d ≡ false
not_opposite Up = refl
not_opposite Down = refl

-- who sends in a direction may where the link says that its side saw no end
pub send_seen : (c : Conn) (d : Dir) (ps : List Piece) (ls : List Link) (l : Link) (ws : List Wire) → wires_in ps ls ≡ ws → link_of c ls ≡ Some l
    → may_send d (wire_of c ws) ≡ not (has_ended (opposite d) l)
send_seen c d ps ls l ws seen found = ap (may_send d) (wire_found c ps ls l ws seen found) ∙ ap not (lane_ended (opposite d) ps l)

-- on a lost connection a message is dropped
pub sent_dropped : (c : Conn) (d : Dir) (m : Message) (ws : List Wire) (o : Option Wire) → wire_of c ws ≡ o → is_open o ≡ false → IfSome o (λ w. Becomes c (sent_on d m w) ws ws)
sent_dropped c d m ws None at shut = tt
sent_dropped c d m ws (Some w) at shut = record {
  here = at ∙ ap Some (sym (cond-true w.lost w (with_bytes d ((lane d w).bytes ++ frame_of m) w) (not-false w.lost shut)));
  others = λ x other. refl;
}

-- with one lane's bytes changed
pub lane_changed : (d : Dir) (ps qs : List Piece) (l : Link) (b : List ℕ) → bytes_on l.connection d qs ≡ b → bytes_on l.connection (opposite d) qs ≡ bytes_on l.connection (opposite d) ps
    → wire_in qs l ≡ with_bytes d b (wire_in ps l)
lane_changed Up ps qs l b is same = λ k. made l (is k) (same k)
lane_changed Down ps qs l b is same = λ k. made l (same k) (is k)

-- the bytes of pieces together
lane_joined : (ps : List Piece) → flat_map bytes_in ps ≡ flat_map (λ (x : List ℕ). x) (map bytes_in ps)
lane_joined ps = sym (flat_map-map (λ (x : List ℕ). x) bytes_in ps)

-- the bytes on a lane after a frame was put there
put_bytes : (n : ℕ) (old new : List Piece) (m : Message) → 1 ≤ n → map bytes_in new ≡ map bytes_in old ++ pieces_of n m → flat_map bytes_in new ≡ flat_map bytes_in old ++ frame_of m
put_bytes n old new m some put =
    let together = flat_map (λ (x : List ℕ). x) in
    lane_joined new ∙ ap together put ∙ flat_map-append (λ (x : List ℕ). x) (map bytes_in old) (pieces_of n m)
    ∙ (λ k. sym (lane_joined old) k ++ pieces_joined n m some k)

-- on an open connection that is found its frame comes last
sent_push : (c : Conn) (d : Dir) (m : Message) (n : ℕ) (ps qs : List Piece) (ls : List Link) (l : Link) (ws : List Wire) → 1 ≤ n → wires_in ps ls ≡ ws → link_of c ls ≡ Some l → l.lost ≡ false
    → map bytes_in (on_way c d qs) ≡ map bytes_in (on_way c d ps) ++ pieces_of n m → AreSameElse c d ps qs → IfSome (wire_of c ws) (λ w. Becomes c (sent_on d m w) ws (wires_in qs ls))
sent_push c d m n ps qs ls l ws some seen found lost put others =
    let w = wire_in ps l in
    let b = (lane d w).bytes ++ frame_of m in
    let here = sym (same_found c ls l found) in
    let added : bytes_on l.connection d qs ≡ b =
    ap (λ x. bytes_on x d qs) here ∙ put_bytes n (on_way c d ps) (on_way c d qs) m some put
    ∙ ap (λ xs. xs ++ frame_of m) (sym (lane_bytes d ps l ∙ ap (λ x. bytes_on x d ps) here)) in
    let same : bytes_on l.connection (opposite d) qs ≡ bytes_on l.connection (opposite d) ps =
    ap (flat_map bytes_in) (others l.connection (opposite d) (and_right (same_connection l.connection c) (same_direction (opposite d) d) (not_opposite d))) in
    let is : wire_in qs l ≡ sent_on d m w = lane_changed d ps qs l b added same ∙ sym (cond-false l.lost w (with_bytes d b w) lost) in
    let all = becomes c l ls ls ps qs (stays c l ls found) (others_else c d ps qs others) in
    let P : List Wire → Type 0 = λ xs. Becomes c (sent_on d m w) xs (wires_in qs ls) in
    let Q : Wire → Type 0 = λ v. Becomes c v (wires_in ps ls) (wires_in qs ls) in
    of_found c ps ls l ws (λ v. Becomes c (sent_on d m v) ws (wires_in qs ls)) seen found (subst P seen (subst Q is all))

-- on an open connection a link is found, which isn't lost
open_link : (c : Conn) (ps : List Piece) (ls : List Link) (ws : List Wire) (o : Option Link) → wires_in ps ls ≡ ws → link_of c ls ≡ o → is_open (wire_of c ws) ≡ true
    → (l : Link) × (link_of c ls ≡ Some l) × (l.lost ≡ false)
open_link c ps ls ws None seen found open' = absurd (let missing = ap is_open (wire_missing c ps ls ws seen found) in cc (missing, open'))
open_link c ps ls ws (Some l) seen found open' = (l, found, not-true l.lost (sym (ap is_open (wire_found c ps ls l ws seen found)) ∙ open'))

-- so on an open connection the frame of a message that is sent comes last
pub sent_last : (c : Conn) (d : Dir) (m : Message) (n : ℕ) (ps qs : List Piece) (ls : List Link) (ws : List Wire) → 1 ≤ n → wires_in ps ls ≡ ws → is_open (wire_of c ws) ≡ true
    → map bytes_in (on_way c d qs) ≡ map bytes_in (on_way c d ps) ++ pieces_of n m → AreSameElse c d ps qs → IfSome (wire_of c ws) (λ w. Becomes c (sent_on d m w) ws (wires_in qs ls))
sent_last c d m n ps qs ls ws some seen open' put others =
    let l = open_link c ps ls ws (link_of c ls) seen refl open' in
    sent_push c d m n ps qs ls l.0 ws some seen l.1 l.2 put others

-- pieces of a valid message behind those of others
whole_put : (n : ℕ) (old new : List Piece) (m : Message) → is_valid m ≡ true → map bytes_in new ≡ map bytes_in old ++ pieces_of n m → AreCutUp n old → AreCutUp n new
whole_put n old new m valid put whole = record {
  messages = whole.messages ++ m ∷ [];
  valid = list_all-append is_valid whole.messages (m ∷ []) ∙ and_from (each is_valid whole.messages) (each is_valid (m ∷ [])) whole.valid (and_from (is_valid m) true valid refl);
  pieces =
      put ∙ (λ k. whole.pieces k ++ sym (append-nil (pieces_of n m)) k) ∙ sym (flat_map-append (pieces_of n) whole.messages (m ∷ []));
}

-- and all is kept as it was
pub kept_sent : (c : Conn) (d : Dir) (m : Message) (n : ℕ) (ps qs : List Piece) (ls : List Link) (ws : List Wire) → wires_in ps ls ≡ ws → is_open (wire_of c ws) ≡ true → is_valid m ≡ true
    → map bytes_in (on_way c d qs) ≡ map bytes_in (on_way c d ps) ++ pieces_of n m → AreSameElse c d ps qs → AreKept n ls ps → AreKept n ls qs
kept_sent c d m n ps qs ls ws seen open' valid put others kept =
    let l = open_link c ps ls ws (link_of c ls) seen refl open' in
    kept_lane c d n l.0 ls ls ps qs kept (stays c l.0 ls l.1) others (whole_put n (on_way c d ps) (on_way c d qs) m valid put (kept.whole c d))

-- what is taken is the first message, and the others are left
pub record TakesOne (n : ℕ) (m : Message) (old new : List Piece) : Type 0 where
  pub first : flat_map bytes_in old ≡ frame_of m ++ flat_map bytes_in new
  pub valid : is_valid m ≡ true
  pub whole : AreCutUp n new

-- what comes is a message, which was the first
pub record CameOne (n : ℕ) (old new : List Piece) (came : Result Message FrameRefusal) : Type 0 where
  pub message : Message
  pub is : came ≡ Ok message
  pub takes : TakesOne n message old new

comes_first : (n : ℕ) (old new : List Piece) (ms : List Message) (came : Result Message FrameRefusal) → 1 ≤ n → each is_valid ms ≡ true → flat_map bytes_in old ≡ flat_map frame_of ms
    → Takes n (Some came) ms new → CameOne n old new came
comes_first n old new [] came some valid bytes takes = absurd (let none = takes.0 in cc)
comes_first n old new (m ∷ ms) came some valid bytes takes =
    let both = and_parts (is_valid m) (each is_valid ms) valid in
    let whole : AreCutUp n new = record { messages = ms; valid = both.1; pieces = takes.1 } in
    record {
      message = m;
      is = (let same = takes.0 in cc);
      takes = record {
        first = bytes ∙ ap (λ (xs : List ℕ). frame_of m ++ xs) (sym (cut_spells n new some whole).bytes);
        valid = both.0;
        whole = whole;
      };
    }

pub came_one : (n : ℕ) (old new : List Piece) (came : Result Message FrameRefusal) → 1 ≤ n → (whole : AreCutUp n old) → Takes n (Some came) whole.messages new → CameOne n old new came
came_one n old new came some whole takes = comes_first n old new whole.messages came some whole.valid (cut_spells n old some whole).bytes takes

-- where none comes, none was on the way
takes_none : (n : ℕ) (old new : List Piece) (ms : List Message) (answer : Option (Result Message FrameRefusal)) → map bytes_in old ≡ flat_map (pieces_of n) ms → Takes n answer ms new → answer ≡ None → old ≡ []
takes_none n [] new ms answer pieces takes is = refl
takes_none n (p ∷ old) new [] answer pieces takes is = absurd cc
takes_none n (p ∷ old) new (m ∷ ms) answer pieces takes is = absurd (let both = sym takes.0 ∙ is in cc)

pub came_none : (n : ℕ) (old new : List Piece) (answer : Option (Result Message FrameRefusal)) → (whole : AreCutUp n old) → Takes n answer whole.messages new → answer ≡ None → old ≡ []
came_none n old new answer whole takes is = takes_none n old new whole.messages answer whole.pieces takes is

-- the first frame of a lane is taken off
pub delivered : (c : Conn) (d : Dir) (m : Message) (n : ℕ) (ps qs : List Piece) (ls : List Link) (l : Link) (ws : List Wire) → wires_in ps ls ≡ ws → link_of c ls ≡ Some l
    → TakesOne n m (on_way c d ps) (on_way c d qs) → AreSameElse c d ps qs → IfSome (wire_of c ws) (λ w. Delivers c d m w ws (wires_in qs ls))
delivered c d m n ps qs ls l ws seen found takes others =
    let w = wire_in ps l in
    let here = sym (same_found c ls l found) in
    let rest = bytes_on c d qs in
    let same : bytes_on l.connection (opposite d) qs ≡ bytes_on l.connection (opposite d) ps =
    ap (flat_map bytes_in) (others l.connection (opposite d) (and_right (same_connection l.connection c) (same_direction (opposite d) d) (not_opposite d))) in
    let is = lane_changed d ps qs l rest (ap (λ x. bytes_on x d qs) here) same in
    let all = becomes c l ls ls ps qs (stays c l ls found) (others_else c d ps qs others) in
    let P : List Wire → Type 0 = λ xs. Becomes c (with_bytes d rest w) xs (wires_in qs ls) in
    let Q : Wire → Type 0 = λ v. Becomes c v (wires_in ps ls) (wires_in qs ls) in
    of_found c ps ls l ws (λ v. Delivers c d m v ws (wires_in qs ls)) seen found (record {
      rest = rest;
      first = lane_bytes d ps l ∙ ap (λ x. bytes_on x d ps) here ∙ takes.first;
      valid = takes.valid;
      taken = subst P seen (subst Q is all);
    })

-- a link whose end is seen is seen so
end_seen : (d : Dir) (ps : List Piece) (l : Link) → wire_in ps (ended_in d l) ≡ with_end d (wire_in ps l)
end_seen Up ps l = refl
end_seen Down ps l = refl

-- the end of a lost connection is seen after the last piece
pub ended : (c : Conn) (d : Dir) (ps : List Piece) (ls ks : List Link) (l : Link) (ws : List Wire) → wires_in ps ls ≡ ws → link_of c ls ≡ Some l → on_way c d ps ≡ [] → is_ending d l ≡ true
    → Changes c (ended_in d l) ls ks → IfSome (wire_of c ws) (λ w. Ends c d w ws (wires_in ps ks))
ended c d ps ls ks l ws seen found none ending changes =
    let w = wire_in ps l in
    let here = sym (same_found c ls l found) in
    let both = and_parts l.lost (not (has_ended d l)) ending in
    let all = becomes c (ended_in d l) ls ks ps ps changes (λ x e other. refl) in
    let P : List Wire → Type 0 = λ xs. Becomes c (with_end d w) xs (wires_in ps ks) in
    let Q : Wire → Type 0 = λ v. Becomes c v (wires_in ps ls) (wires_in ps ks) in
    of_found c ps ls l ws (λ v. Ends c d v ws (wires_in ps ks)) seen found (record {
      empty = lane_bytes d ps l ∙ ap (λ x. bytes_on x d ps) here ∙ ap (flat_map bytes_in) none;
      lost = both.0;
      unseen = lane_ended d ps l ∙ not-true (has_ended d l) both.1;
      taken = subst P seen (subst Q (end_seen d ps l) all);
    })

-- something is left where a frame is on the way
pub left_frame : (c : Conn) (d : Dir) (m : Message) (n : ℕ) (ps qs : List Piece) (ls : List Link) (l : Link) (ws : List Wire) → wires_in ps ls ≡ ws → link_of c ls ≡ Some l
    → TakesOne n m (on_way c d ps) (on_way c d qs) → has_left d (wire_of c ws) ≡ true
left_frame c d m n ps qs ls l ws seen found takes =
    let here = sym (same_found c ls l found) in
    let bytes = lane_bytes d ps l ∙ ap (λ x. bytes_on x d ps) here ∙ takes.first in
    ap (has_left d) (wire_found c ps ls l ws seen found)
    ∙ or_left (not (is_empty (lane d (wire_in ps l)).bytes)) (l.lost && not (lane d (wire_in ps l)).ended) (ap (λ (xs : List ℕ). not (is_empty xs)) bytes ∙ ap not (frame_full m (bytes_on c d qs)))

-- where none is, the end may be
pub left_end : (c : Conn) (d : Dir) (ps : List Piece) (ls : List Link) (l : Link) (ws : List Wire) → wires_in ps ls ≡ ws → link_of c ls ≡ Some l → on_way c d ps ≡ []
    → has_left d (wire_of c ws) ≡ is_ending d l
left_end c d ps ls l ws seen found none =
    let here = sym (same_found c ls l found) in
    let bytes = lane_bytes d ps l ∙ ap (λ x. bytes_on x d ps) here ∙ ap (flat_map bytes_in) none in
    ap (has_left d) (wire_found c ps ls l ws seen found) ∙ (λ k. not (is_empty (bytes k)) || (l.lost && not (lane_ended d ps l k)))

-- what a connection's link was replaced by
pub replaced : (c : Conn) (l k : Link) (ls ks : List Link) (r : Bool) → link_of c ls ≡ Some l → k.connection ≡ l.connection → r ≡ is_some (link_of k.connection ls)
    → OnTrue r (Changes k.connection k ls ks) → Changes c k ls ks
replaced c l k ls ks r found same was changed =
    let here : k.connection ≡ c = same ∙ sym (same_found c ls l found) in
    let P : Conn → Type 0 = λ x. Changes x k ls ks in
    subst P here (OnTrue_at (was ∙ ap (λ x. is_some (link_of x ls)) here ∙ ap is_some found) changed)

-- a link keeps its connection where its end is seen
pub end_connection : (d : Dir) (l : Link) → (ended_in d l).connection ≡ l.connection
end_connection Up l = refl
end_connection Down l = refl

-- no bytes are there where they are empty
no_bytes : (b : List ℕ) → is_empty b ≡ true → b ≡ []
no_bytes [] h = refl
no_bytes (x ∷ b) h = absurd cc

-- nothing is on the way where nothing is left
free_lane : (c : Conn) (d : Dir) (n : ℕ) (ps : List Piece) (ls : List Link) (ws : List Wire) (o : Option Link) → wires_in ps ls ≡ ws → AreKept n ls ps → link_of c ls ≡ o → has_left d (wire_of c ws) ≡ false
    → bytes_on c d ps ≡ []
free_lane c d n ps ls ws None seen kept missing free = ap (flat_map bytes_in) (kept.stray c d missing)
free_lane c d n ps ls ws (Some l) seen kept found free =
    let neither = or_parts (list_any (is_on c d) ps) (is_ending d l) (sym (left_seen c d n ps ls l ws kept seen found) ∙ free) in
    no_bytes (bytes_on c d ps) (not-false (is_empty (bytes_on c d ps)) (sym (any_bytes c d n ps kept.some (kept.whole c d)) ∙ neither.0))

-- nothing is left of a connection that isn't taken
free_left : (d : Dir) (o : Option Wire) → is_taken o ≡ false → has_left d o ≡ false
free_left Up o free = (or_parts (is_open o) (has_left Up o) (or_parts (is_open o || has_left Up o) (has_left Down o) free).0).1
free_left Down o free = (or_parts (is_open o || has_left Up o) (has_left Down o) free).1

-- so nothing is on the way on it
free_lanes : (c : Conn) (d : Dir) (n : ℕ) (ps : List Piece) (ls : List Link) (ws : List Wire) → wires_in ps ls ≡ ws → AreKept n ls ps → is_taken (wire_of c ws) ≡ false → bytes_on c d ps ≡ []
free_lanes c d n ps ls ws seen kept free = free_lane c d n ps ls ws (link_of c ls) seen kept refl (free_left d (wire_of c ws) free)

-- a connection that isn't taken is started
pub started : (c : Conn) (n : ℕ) (ps : List Piece) (ls ks : List Link) (ws : List Wire) → wires_in ps ls ≡ ws → AreKept n ls ps → is_taken (wire_of c ws) ≡ false → Changes c (new_link c) ls ks
    → Becomes c (fresh c) ws (wires_in ps ks)
started c n ps ls ks ws seen kept free changes =
    let all = becomes c (new_link c) ls ks ps ps changes (λ x e other. refl) in
    let is : wire_in ps (new_link c) ≡ fresh c = λ k. made (new_link c) (free_lanes c Up n ps ls ws seen kept free k) (free_lanes c Down n ps ls ws seen kept free k) in
    let P : List Wire → Type 0 = λ xs. Becomes c (fresh c) xs (wires_in ps ks) in
    let Q : Wire → Type 0 = λ v. Becomes c v (wires_in ps ls) (wires_in ps ks) in
    subst P seen (subst Q is all)

-- or started while the coordinator stands stopped
pub started_lost : (c : Conn) (n : ℕ) (ps : List Piece) (ls ks : List Link) (ws : List Wire) → wires_in ps ls ≡ ws → AreKept n ls ps → is_taken (wire_of c ws) ≡ false
    → Changes c (stopped_link (new_link c)) ls ks → Becomes c (lost_at_once c) ws (wires_in ps ks)
started_lost c n ps ls ks ws seen kept free changes =
    let l = stopped_link (new_link c) in
    let all = becomes c l ls ks ps ps changes (λ x e other. refl) in
    let is : wire_in ps l ≡ lost_at_once c = λ k. made l (free_lanes c Up n ps ls ws seen kept free k) (free_lanes c Down n ps ls ws seen kept free k) in
    let P : List Wire → Type 0 = λ xs. Becomes c (lost_at_once c) xs (wires_in ps ks) in
    let Q : Wire → Type 0 = λ v. Becomes c v (wires_in ps ls) (wires_in ps ks) in
    subst P seen (subst Q is all)

-- the first messages of those that whole frames spell
abbrev whole_cut : (n keep : ℕ) (old new : List Piece) → (whole : AreCutUp n old) → map bytes_in new ≡ flat_map (pieces_of n) (take keep whole.messages) → AreCutUp n new
whole_cut n keep old new whole cut = record {
  messages = take keep whole.messages;
  valid =
      (and_parts (each is_valid (take keep whole.messages)) (each is_valid (drop keep whole.messages))
      (sym (list_all-append is_valid (take keep whole.messages) (drop keep whole.messages)) ∙ ap (each is_valid) (take-append-drop keep whole.messages) ∙ whole.valid)).0;
  pieces = cut;
}

-- a lane of which the first frames are kept, in the words of any messages that it spells
pub record KeepsFirst (n keep count : ℕ) (old new : List Piece) : Type 0 where
  pub whole : AreCutUp n new
  pub bytes : (ms : List Message) → Spells (flat_map bytes_in old) ms → flat_map bytes_in new ≡ flat_map frame_of (take keep ms)
  pub counted : (ms : List Message) → Spells (flat_map bytes_in old) ms → count ≡ min keep (length ms)

pub keeps_first : (n keep count : ℕ) (old new : List Piece) → 1 ≤ n → (whole : AreCutUp n old) → map bytes_in new ≡ flat_map (pieces_of n) (take keep whole.messages) → count ≡ min keep (length whole.messages)
    → KeepsFirst n keep count old new
keeps_first n keep count old new some whole cut counted =
    let kept = whole_cut n keep old new whole cut in
    let same = λ (ms : List Message) (s : Spells (flat_map bytes_in old) ms). same_spelled (flat_map bytes_in old) whole.messages ms (cut_spells n old some whole) s in
    record {
      whole = kept;
      bytes = λ ms s. (cut_spells n new some kept).bytes ∙ ap (λ xs. flat_map frame_of (take keep xs)) (same ms s);
      counted = λ ms s. counted ∙ ap (λ (xs : List Message). min keep (length xs)) (same ms s);
    }

-- a loss keeps the first frames of each lane
pub lost : (c : Conn) (b u n : ℕ) (k : ℕ × ℕ) (ps mid qs : List Piece) (ls ks : List Link) (l : Link) (ws : List Wire) → wires_in ps ls ≡ ws → link_of c ls ≡ Some l
    → Changes c (lost_link l) ls ks → KeepsFirst b u k.0 (on_way c Up ps) (on_way c Up mid) → AreSameElse c Up ps mid → KeepsFirst b n k.1 (on_way c Down mid) (on_way c Down qs) → AreSameElse c Down mid qs
    → IfSome (wire_of c ws) (λ w. (us ds : List Message) → Spells w.up.bytes us → Spells w.down.bytes ds → IsCut c w us ds u n k ws (wires_in qs ks))
lost c b u n k ps mid qs ls ks l ws seen found changes up up_others down down_others =
    let w = wire_in ps l in
    let here = sym (same_found c ls l found) in
    of_found c ps ls l ws (λ v. (us ds : List Message) → Spells v.up.bytes us → Spells v.down.bytes ds → IsCut c v us ds u n k ws (wires_in qs ks)) seen found (λ us ds spell_up spell_down.
    let up_spells : Spells (bytes_on c Up ps) us = (let P : Conn → Type 0 = λ x. Spells (bytes_on x Up ps) us in subst P here spell_up) in
    let down_spells : Spells (bytes_on c Down ps) ds = (let P : Conn → Type 0 = λ x. Spells (bytes_on x Down ps) ds in subst P here spell_down) in
    let down_same : on_way c Down mid ≡ on_way c Down ps = up_others c Down (and_right (same_connection c c) false refl) in
    let up_same : on_way c Up qs ≡ on_way c Up mid = down_others c Up (and_right (same_connection c c) false refl) in
    let down_then : Spells (bytes_on c Down mid) ds = (let P : List Piece → Type 0 = λ xs. Spells (flat_map bytes_in xs) ds in subst P (sym down_same) down_spells) in
    let up_bytes : bytes_on l.connection Up qs ≡ flat_map frame_of (take u us) = ap (λ x. bytes_on x Up qs) here ∙ ap (flat_map bytes_in) up_same ∙ up.bytes us up_spells in
    let down_bytes : bytes_on l.connection Down qs ≡ flat_map frame_of (take n ds) = ap (λ x. bytes_on x Down qs) here ∙ down.bytes ds down_then in
    let is : wire_in qs (lost_link l) ≡ lost_with (take u us) (take n ds) w = λ j. made (lost_link l) (up_bytes j) (down_bytes j) in
    let others : AreOthers c ps qs = λ x e other. others_else c Down mid qs down_others x e other ∙ others_else c Up ps mid up_others x e other in
    let all = becomes c (lost_link l) ls ks ps qs changes others in
    let P : List Wire → Type 0 = λ xs. Becomes c (lost_with (take u us) (take n ds) w) xs (wires_in qs ks) in
    let Q : Wire → Type 0 = λ v. Becomes c v (wires_in ps ls) (wires_in qs ks) in
    record {
      up = up.counted us up_spells;
      down = down.counted ds down_then;
      lost = subst P seen (subst Q is all);
    })

-- and all is kept as it was
pub kept_lost : (c : Conn) (n : ℕ) (l : Link) (ls ks : List Link) (ps mid qs : List Piece) → AreKept n ls ps → Changes c l ls ks → AreCutUp n (on_way c Up mid) → AreSameElse c Up ps mid
    → AreCutUp n (on_way c Down qs) → AreSameElse c Down mid qs → AreKept n ks qs
kept_lost c n l ls ks ps mid qs kept changes up up_others down down_others =
    let first = kept_lane c Up n l ls ks ps mid kept changes up_others up in
    kept_lane c Down n l ks ks mid qs first (stays c l ks changes.here) down_others down
