-- A stop loses every connection: nothing upward is kept and all downward is, and the coordinator sees no end of it any more.
use Rattle.std.proofs.Common.{◌≡◌, ℕ, true, false, List, [], ◌∷◌, map, filter, Option, Some, None, refl, ap, sym, subst, ◌∙◌, cond, inl, inr}
use Rattle.std.specs.List.{flat_map}
use Rattle.std.specs.Option.{option_map}
use Rattle.std.proofs.lemmas.Bool.{and_right, cases_Bool, cond-false, cond-true, or_right}
use Rattle.dtx_values.specs.declared.entry.Entry.{Entry}
use Rattle.dtx_values.specs.declared.entry.Entry.TheVariants.{Stopped}
use Rattle.dtx_values.specs.declared.message.Conn.{Conn}
use Rattle.dtx_values.specs.declared.message.Dir.{Dir}
use Rattle.dtx_values.specs.declared.message.Dir.TheVariants.{Up, Down}
use Rattle.dtx_model.specs.Wires.{lost_after, same_connection, same_direction}
use Rattle.oletx_session.specs.declared.link.Link.{Link}
use Rattle.oletx_session.specs.declared.piece.Piece.{Piece}
use Rattle.oletx_session.specs.Crossing.{AreCutUp, AreKept}
use Rattle.oletx_session.specs.Queues.{bytes_in, goes, is_of, is_on, link_of, on_way, stopped_link, wire_in, wires_in}
use Rattle.oletx_session.specs.Traffic.{Wire, stopped_wire, wire_of}
use Rattle.oletx_session.specs.Carries.{Carries, IsLane, IsWire}
use Rattle.dtx_model.proofs.Connections.{same_way_is}
use Rattle.oletx_session.proofs.Views.{made}

-- of the pieces that go in one direction none on a lane in this direction is missing
way_kept : (c : Conn) (d : Dir) (ps : List Piece) → on_way c d (filter (goes d) ps) ≡ on_way c d ps
way_kept c d [] = refl
way_kept c d (p ∷ ps) =
    let rest = filter (goes d) ps in
    elim (cases_Bool (goes d p)) [
      | inl same ↦ ap (on_way c d) (cond-true (goes d p) (p ∷ rest) rest same) ∙ ap (λ xs. cond (is_on c d p) (p ∷ xs) xs) (way_kept c d ps)
      | inr other ↦ ap (on_way c d) (cond-false (goes d p) (p ∷ rest) rest other) ∙ way_kept c d ps
          ∙ sym (cond-false (is_on c d p) (p ∷ on_way c d ps) (on_way c d ps) (and_right (same_connection c p.connection) (goes d p) other))
    ]

-- and none is on a lane in the other
way_dropped : (c : Conn) (d e : Dir) (ps : List Piece) → same_direction e d ≡ false → on_way c e (filter (goes d) ps) ≡ []
way_dropped c d e [] other = refl
way_dropped c d e (p ∷ ps) other =
    let rest = filter (goes d) ps in
    let P : Dir → Type 0 = λ f. same_direction e f ≡ false in
    elim (cases_Bool (goes d p)) [
      | inl same ↦ ap (on_way c e) (cond-true (goes d p) (p ∷ rest) rest same)
          ∙ cond-false (is_on c e p) (p ∷ on_way c e rest) (on_way c e rest) (and_right (same_connection c p.connection) (same_direction e p.direction) (subst P (same_way_is d p.direction same) other))
          ∙ way_dropped c d e ps other
      | inr off ↦ ap (on_way c e) (cond-false (goes d p) (p ∷ rest) rest off) ∙ way_dropped c d e ps other
    ]

-- the link of a connection after the stop
link_stopped : (c : Conn) (ls : List Link) → link_of c (map stopped_link ls) ≡ option_map stopped_link (link_of c ls)
link_stopped c [] = refl
link_stopped c (l ∷ ls) =
    elim (cases_Bool (is_of c l)) [
      | inl is ↦ cond-true (is_of c l) (Some (stopped_link l)) (link_of c (map stopped_link ls)) is ∙ sym (ap (option_map stopped_link) (cond-true (is_of c l) (Some l) (link_of c ls) is))
      | inr other ↦ cond-false (is_of c l) (Some (stopped_link l)) (link_of c (map stopped_link ls)) other ∙ link_stopped c ls
          ∙ sym (ap (option_map stopped_link) (cond-false (is_of c l) (Some l) (link_of c ls) other))
    ]

-- where there is none after it, there was none before
none_before : (o : Option Link) → option_map stopped_link o ≡ None → o ≡ None
none_before None h = refl
none_before (Some l) h = absurd cc

-- where nothing was on the way on a lane, nothing is
lane_free : (c : Conn) (d : Dir) (ps : List Piece) → on_way c d ps ≡ [] → on_way c d (filter (goes Down) ps) ≡ []
lane_free c Up ps none = way_dropped c Down Up ps refl
lane_free c Down ps none = way_kept c Down ps ∙ none

-- whole frames are left on each lane
whole_free : (c : Conn) (d : Dir) (n : ℕ) (ps : List Piece) → AreCutUp n (on_way c d ps) → AreCutUp n (on_way c d (filter (goes Down) ps))
whole_free c Up n ps whole = record { messages = []; valid = refl; pieces = ap (map bytes_in) (way_dropped c Down Up ps refl) }
whole_free c Down n ps whole = (let P : List Piece → Type 0 = λ xs. AreCutUp n xs in subst P (sym (way_kept c Down ps)) whole)

-- still nothing is on the way on a connection that was never started, and all is kept as it was
pub kept_stopped : (n : ℕ) (ps qs : List Piece) (ls ks : List Link) → ks ≡ map stopped_link ls → qs ≡ filter (goes Down) ps → AreKept n ls ps → AreKept n ks qs
kept_stopped n ps qs ls ks links pieces kept = record {
  some = kept.some;
  stray = λ c d missing. ap (on_way c d) pieces ∙ lane_free c d ps (kept.stray c d (none_before (link_of c ls) (sym (link_stopped c ls) ∙ ap (link_of c) (sym links) ∙ missing)));
  whole = λ c d. (let P : List Piece → Type 0 = λ xs. AreCutUp n (on_way c d xs) in subst P (sym pieces) (whole_free c d n ps (kept.whole c d)));
}

-- what is seen of a link after the stop
wire_stopped : (ps : List Piece) (l : Link) → wire_in (filter (goes Down) ps) (stopped_link l) ≡ stopped_wire (wire_in ps l)
wire_stopped ps l =
    λ k. made (stopped_link l) (flat_map bytes_in (way_dropped l.connection Down Up ps refl k)) (flat_map bytes_in (way_kept l.connection Down ps k))

-- and of all links
wires_stopped : (ps : List Piece) (ls : List Link) → wires_in (filter (goes Down) ps) (map stopped_link ls) ≡ map stopped_wire (wires_in ps ls)
wires_stopped ps [] = refl
wires_stopped ps (l ∷ ls) = λ k. wire_stopped ps l k ∷ wires_stopped ps ls k

-- the same, where the lists after it are named
pub stopped : (ps qs : List Piece) (ls ks : List Link) (ws : List Wire) → wires_in ps ls ≡ ws → ks ≡ map stopped_link ls → qs ≡ filter (goes Down) ps → wires_in qs ks ≡ map stopped_wire ws
stopped ps qs ls ks ws seen links pieces = (λ k. wires_in (pieces k) (links k)) ∙ wires_stopped ps ls ∙ ap (map stopped_wire) seen

-- a connection's wire after the stop
pub wire_after : (c : Conn) (ws : List Wire) → wire_of c (map stopped_wire ws) ≡ option_map stopped_wire (wire_of c ws)
wire_after c [] = refl
wire_after c (w ∷ ws) =
    let is = same_connection c w.connection in
    elim (cases_Bool is) [
      | inl here ↦ cond-true is (Some (stopped_wire w)) (wire_of c (map stopped_wire ws)) here ∙ sym (ap (option_map stopped_wire) (cond-true is (Some w) (wire_of c ws) here))
      | inr other ↦ cond-false is (Some (stopped_wire w)) (wire_of c (map stopped_wire ws)) other ∙ wire_after c ws
          ∙ sym (ap (option_map stopped_wire) (cond-false is (Some w) (wire_of c ws) other))
    ]

-- a lane after the stop
lane_after : (c : Conn) (d : Dir) (w : Wire) (h : List Entry) → IsLane c d w h → IsLane c d (stopped_wire w) (Stopped ∷ h)
lane_after c Up w h is = record { queue = record { valid = refl; bytes = refl }; ended = refl }
lane_after c Down w h is = record { queue = is.queue; ended = is.ended }

-- after a stop a connection stands as the history says
stop_here : (c : Conn) (o : Option Wire) (h : List Entry) → IsWire c o h → IsWire c (option_map stopped_wire o) (Stopped ∷ h)
stop_here c None h is = ap (lost_after c h Stopped) is
stop_here c (Some w) h is = (ap (lost_after c h Stopped) is.0 ∙ ap Some (or_right w.lost true refl), λ d. lane_after c d w h (is.1 d))

-- so each does
pub carried_stop : (old new : List Wire) (h : List Entry) → new ≡ map stopped_wire old → Carries old h → Carries new (Stopped ∷ h)
carried_stop old new h stops carries c =
    let P : Option Wire → Type 0 = λ o. IsWire c o (Stopped ∷ h) in
    subst P (sym (ap (wire_of c) stops ∙ wire_after c old)) (stop_here c (wire_of c old) h (carries c))
