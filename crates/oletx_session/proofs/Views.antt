-- What is seen of links and pieces.
use Rattle.std.proofs.Common.{◌≡◌, ◌≤◌, ℕ, Bool, filter, map, true, false, ◌&&◌, ◌||◌, not, List, [], ◌∷◌, ◌++◌, Option, Some, None, IfSome, refl, ap, sym, subst, ◌∙◌, inl, inr}
use Rattle.std.specs.List.{flat_map, list_any}
use Rattle.std.specs.Option.{option_map}
use Rattle.std.proofs.lemmas.Bool.{and_left, and_parts, cases_Bool, cond-false, cond-true, or_left}
use Rattle.dtx_values.specs.declared.message.Conn.{Conn}
use Rattle.dtx_values.specs.declared.message.Dir.{Dir}
use Rattle.dtx_values.specs.declared.message.Dir.TheVariants.{Up, Down}
use Rattle.dtx_values.specs.declared.message.Message.{Message}
use Rattle.dtx_model.specs.Frames.{frame_of}
use Rattle.dtx_model.specs.Wires.{same_connection, same_direction}
use Rattle.oletx_frames.proofs.Pieces.{frame_is}
use Rattle.oletx_session.specs.declared.link.Link.{Link}
use Rattle.oletx_session.specs.declared.piece.Piece.{Piece}
use Rattle.oletx_session.specs.Crossing.{AreCutUp, AreKept, pieces_of}
use Rattle.oletx_session.specs.Queues.{AreSameElse, Changes, HasNoStray, bytes_on, bytes_in, has_ended, is_ending, is_of, is_on, link_of, on_way, wire_in, wires_in}
use Rattle.dtx_model.specs.Outcome.{is_empty}
use Rattle.oletx_session.specs.Traffic.{Becomes, Spells, Wire, has_left, lane, wire_of}
use Rattle.dtx_model.proofs.Connections.{not_same_as, same_is, same_way_is}
use Rattle.oletx_session.proofs.Cutting.{cut_first, cut_spells}

-- the wire of a connection is what is seen of its link
pub wire_seen : (ps : List Piece) (ls : List Link) (c : Conn) → wire_of c (wires_in ps ls) ≡ option_map (wire_in ps) (link_of c ls)
wire_seen ps [] c = refl
wire_seen ps (l ∷ ls) c =
    elim (cases_Bool (is_of c l)) [
      | inl is ↦ cond-true (is_of c l) (Some (wire_in ps l)) (wire_of c (wires_in ps ls)) is ∙ sym (ap (option_map (wire_in ps)) (cond-true (is_of c l) (Some l) (link_of c ls) is))
      | inr other ↦ cond-false (is_of c l) (Some (wire_in ps l)) (wire_of c (wires_in ps ls)) other ∙ wire_seen ps ls c
          ∙ sym (ap (option_map (wire_in ps)) (cond-false (is_of c l) (Some l) (link_of c ls) other))
    ]

-- the link that is found for a connection is that connection's
pub link_is : (c : Conn) (ls : List Link) (l : Link) → link_of c ls ≡ Some l → same_connection c l.connection ≡ true
link_is c [] l h = absurd cc
link_is c (k ∷ ls) l h =
    elim (cases_Bool (is_of c k)) [
      | inl is ↦ let same : k ≡ l = (let e = sym (cond-true (is_of c k) (Some k) (link_of c ls) is) ∙ h in cc) in let P : Link → Type 0 = λ x. is_of c x ≡ true in subst P same is
      | inr other ↦ link_is c ls l (sym (cond-false (is_of c k) (Some k) (link_of c ls) other) ∙ h)
    ]

-- the pieces of each other connection are as before
abbrev pub AreOthers : Conn → List Piece → List Piece → Type 0
AreOthers c old new = (x : Conn) (e : Dir) → same_connection x c ≡ false → on_way x e new ≡ on_way x e old

-- a wire of a link with these bytes
abbrev pub made : Link → List ℕ → List ℕ → Wire
made l u d = record { connection = l.connection; lost = l.lost; up = record { bytes = u; ended = l.up_ended }; down = record { bytes = d; ended = l.down_ended } }

-- what is seen of another connection's link is as before
same_wire : (c : Conn) (old new : List Piece) (l : Link) → AreOthers c old new → same_connection l.connection c ≡ false → wire_in new l ≡ wire_in old l
same_wire c old new l others other =
    λ k. made l (flat_map bytes_in (others l.connection Up other k)) (flat_map bytes_in (others l.connection Down other k))

-- what is seen of another connection is as before
same_seen : (c x : Conn) (old new : List Piece) (o : Option Link) → AreOthers c old new → same_connection x c ≡ false → ((l : Link) → o ≡ Some l → same_connection x l.connection ≡ true)
    → option_map (wire_in new) o ≡ option_map (wire_in old) o
same_seen c x old new None others other is = refl
same_seen c x old new (Some l) others other is = ap Some (same_wire c old new l others (not_same_as x l.connection c other (is l refl)))

-- one connection's link and pieces change, and so does what is seen of it alone
pub becomes : (c : Conn) (l : Link) (ls ks : List Link) (ps qs : List Piece) → Changes c l ls ks → AreOthers c ps qs → Becomes c (wire_in qs l) (wires_in ps ls) (wires_in qs ks)
becomes c l ls ks ps qs changes others = record {
  here = wire_seen qs ks c ∙ ap (option_map (wire_in qs)) changes.here;
  others = λ x other.
      wire_seen qs ks x ∙ ap (option_map (wire_in qs)) (changes.others x other) ∙ same_seen c x ps qs (link_of x ls) others other (link_is x ls) ∙ sym (wire_seen ps ls x);
}

-- a link that stays
pub stays : (c : Conn) (l : Link) (ls : List Link) → link_of c ls ≡ Some l → Changes c l ls ls
stays c l ls found = record { here = found; others = λ x other. refl }

-- lists that differ on one lane differ on its connection alone
pub others_else : (c : Conn) (d : Dir) (ps qs : List Piece) → AreSameElse c d ps qs → AreOthers c ps qs
others_else c d ps qs same x e other = same x e (and_left (same_connection x c) (same_direction e d) other)

-- still nothing is on the way on a connection that was never started
pub no_stray : (c : Conn) (l : Link) (ls ks : List Link) (ps qs : List Piece) → Changes c l ls ks → AreOthers c ps qs → HasNoStray ls ps → HasNoStray ks qs
no_stray c l ls ks ps qs changes others none x e missing =
    elim (cases_Bool (same_connection x c)) [
      | inl is ↦ (let P : Conn → Type 0 = λ y. link_of y ks ≡ None in let unfound = subst P (same_is x c is) missing in let here = changes.here in absurd cc)
      | inr other ↦ others x e other ∙ none x e (sym (changes.others x other) ∙ missing)
    ]

-- the bytes of a lane are those on the way
pub lane_bytes : (d : Dir) (ps : List Piece) (l : Link) → (lane d (wire_in ps l)).bytes ≡ bytes_on l.connection d ps
lane_bytes Up ps l = refl
lane_bytes Down ps l = refl

-- and its end was seen where the link says so
pub lane_ended : (d : Dir) (ps : List Piece) (l : Link) → (lane d (wire_in ps l)).ended ≡ has_ended d l
lane_ended Up ps l = refl
lane_ended Down ps l = refl

-- frames aren't empty
pub frame_full : (m : Message) (r : List ℕ) → is_empty (frame_of m ++ r) ≡ false
frame_full m r = ap (λ (xs : List ℕ). is_empty (xs ++ r)) (frame_is m)

-- there is one that passes where those that pass aren't none
any_filtered : {X : Type 0} (p : X → Bool) (xs : List X) → list_any p xs ≡ not (is_empty (filter p xs))
any_filtered p [] = refl
any_filtered p (x ∷ xs) =
    let rest = filter p xs in
    elim (cases_Bool (p x)) [
      | inl passes ↦ or_left (p x) (list_any p xs) passes ∙ sym (ap (λ ys. not (is_empty ys)) (cond-true (p x) (x ∷ rest) rest passes))
      | inr fails ↦ ap (λ b. b || list_any p xs) fails ∙ any_filtered p xs ∙ sym (ap (λ ys. not (is_empty ys)) (cond-false (p x) (x ∷ rest) rest fails))
    ]

-- a list is empty where what is mapped is
empty_map : {X Y : Type 0} (f : X → Y) (xs : List X) → is_empty (map f xs) ≡ is_empty xs
empty_map f [] = refl
empty_map f (x ∷ xs) = refl

-- frames have bytes where they have pieces
empty_frames : (n : ℕ) (ms : List Message) → 1 ≤ n → is_empty (flat_map (pieces_of n) ms) ≡ is_empty (flat_map frame_of ms)
empty_frames n [] some = refl
empty_frames n (m ∷ ms) some =
    let full = ap is_empty (frame_is m) in
    ap (λ ps. is_empty (ps ++ flat_map (pieces_of n) ms)) (cut_first n (frame_of m) some full) ∙ sym (frame_full m (flat_map frame_of ms))

-- bytes are on the way where a piece is
pub any_bytes : (c : Conn) (d : Dir) (n : ℕ) (ps : List Piece) → 1 ≤ n → AreCutUp n (on_way c d ps) → list_any (is_on c d) ps ≡ not (is_empty (bytes_on c d ps))
any_bytes c d n ps some whole =
    any_filtered (is_on c d) ps
    ∙ ap not (sym (empty_map bytes_in (on_way c d ps)) ∙ ap is_empty whole.pieces ∙ empty_frames n whole.messages some ∙ sym (ap is_empty (cut_spells n (on_way c d ps) some whole).bytes))

-- whether something is left is seen by the pieces and the link
pub left_seen : (c : Conn) (d : Dir) (n : ℕ) (ps : List Piece) (ls : List Link) (l : Link) (ws : List Wire) → AreKept n ls ps → wires_in ps ls ≡ ws → link_of c ls ≡ Some l
    → has_left d (wire_of c ws) ≡ (list_any (is_on c d) ps || is_ending d l)
left_seen c d n ps ls l ws kept seen found =
    let same = sym (same_is c l.connection (link_is c ls l found)) in
    let bytes = lane_bytes d ps l ∙ ap (λ x. bytes_on x d ps) same in
    ap (λ xs. has_left d (wire_of c xs)) (sym seen) ∙ ap (has_left d) (wire_seen ps ls c ∙ ap (option_map (wire_in ps)) found)
    ∙ (λ k. not (is_empty (bytes k)) || (l.lost && not (lane_ended d ps l k))) ∙ ap (λ b. b || is_ending d l) (sym (any_bytes c d n ps kept.some (kept.whole c d)))

-- nothing is left of what was never started
pub left_unstarted : (c : Conn) (d : Dir) (ps : List Piece) (ls : List Link) (ws : List Wire) → wires_in ps ls ≡ ws → link_of c ls ≡ None → has_left d (wire_of c ws) ≡ false
left_unstarted c d ps ls ws seen missing =
    ap (λ xs. has_left d (wire_of c xs)) (sym seen) ∙ ap (has_left d) (wire_seen ps ls c ∙ ap (option_map (wire_in ps)) missing)

-- a connection's wire, where its link is found
pub wire_found : (c : Conn) (ps : List Piece) (ls : List Link) (l : Link) (ws : List Wire) → wires_in ps ls ≡ ws → link_of c ls ≡ Some l → wire_of c ws ≡ Some (wire_in ps l)
wire_found c ps ls l ws seen found = ap (wire_of c) (sym seen) ∙ wire_seen ps ls c ∙ ap (option_map (wire_in ps)) found

-- and none where no link is
pub wire_missing : (c : Conn) (ps : List Piece) (ls : List Link) (ws : List Wire) → wires_in ps ls ≡ ws → link_of c ls ≡ None → wire_of c ws ≡ None
wire_missing c ps ls ws seen missing = ap (wire_of c) (sym seen) ∙ wire_seen ps ls c ∙ ap (option_map (wire_in ps)) missing

-- what is on the way on a connection spells messages
pub frames_seen : (c : Conn) (d : Dir) (n : ℕ) (ps : List Piece) (ls : List Link) (l : Link) (ws : List Wire) → AreKept n ls ps → wires_in ps ls ≡ ws → link_of c ls ≡ Some l
    → IfSome (wire_of c ws) (λ w. (ms : List Message) × Spells (lane d w).bytes ms)
frames_seen c d n ps ls l ws kept seen found =
    let whole = kept.whole l.connection d in
    let P : Option Wire → Type 0 = λ o. IfSome o (λ w. (ms : List Message) × Spells (lane d w).bytes ms) in
    let Q : List ℕ → Type 0 = λ b. (ms : List Message) × Spells b ms in
    subst P (sym (wire_found c ps ls l ws seen found))
    (subst Q (sym (lane_bytes d ps l)) (whole.messages, cut_spells n (on_way l.connection d ps) kept.some whole))

-- the lanes that differ from before hold whole frames where this one does
pub whole_else : (c : Conn) (d : Dir) (n : ℕ) (ps qs : List Piece) → AreSameElse c d ps qs → AreCutUp n (on_way c d qs) → ((x : Conn) (e : Dir) → AreCutUp n (on_way x e ps))
    → (x : Conn) (e : Dir) → AreCutUp n (on_way x e qs)
whole_else c d n ps qs others here all x e =
    elim (cases_Bool (same_connection x c && same_direction e d)) [
      | inl same ↦ (let both = and_parts (same_connection x c) (same_direction e d) same in
          let P : Conn → Type 0 = λ y. AreCutUp n (on_way y e qs) in
          let Q : Dir → Type 0 = λ f. AreCutUp n (on_way c f qs) in
          subst P (sym (same_is x c both.0)) (subst Q (sym (same_way_is e d both.1)) here))
      | inr other ↦ (let P : List Piece → Type 0 = λ xs. AreCutUp n xs in subst P (sym (others x e other)) (all x e))
    ]

-- one connection's link and one lane of it change, and all is kept as it was
pub kept_lane : (c : Conn) (d : Dir) (n : ℕ) (l : Link) (ls ks : List Link) (ps qs : List Piece) → AreKept n ls ps → Changes c l ls ks → AreSameElse c d ps qs → AreCutUp n (on_way c d qs) → AreKept n ks qs
kept_lane c d n l ls ks ps qs kept changes others here = record {
  some = kept.some;
  stray = no_stray c l ls ks ps qs changes (others_else c d ps qs others) kept.stray;
  whole = whole_else c d n ps qs others here kept.whole;
}

-- a link alone changes
pub kept_link : (c : Conn) (n : ℕ) (l : Link) (ls ks : List Link) (ps : List Piece) → AreKept n ls ps → Changes c l ls ks → AreKept n ks ps
kept_link c n l ls ks ps kept changes = record {
  some = kept.some;
  stray = no_stray c l ls ks ps ps changes (λ x e other. refl) kept.stray;
  whole = kept.whole;
}
