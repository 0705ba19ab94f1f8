-- The frames that begin what is on the way are counted.
use Rattle.std.proofs.Common.{◌≡◌, ℕ, suc, ◌+◌, ◌<◌, ◌≤◌, inl, inr, true, false, List, [], ◌∷◌, ◌++◌, length, map, take, drop, drop-cons, get_or, None, refl, ap, sym, subst, ◌∙◌, arith, append_assoc, length-append}
use Rattle.std.specs.List.{flat_map}
use Rattle.std.proofs.Math.Nat.{eq-or-lt_of_le}
use Rattle.std.proofs.lemmas.Bool.{and_parts, cond-false, cond-true}
use Rattle.std.proofs.lemmas.List.{take-append-drop, take_all, take_at}
use Rattle.std.proofs.lemmas.List.Concat.{flat_map-append}
use Rattle.dtx_values.specs.declared.message.Conn.{Conn}
use Rattle.dtx_values.specs.declared.message.Dir.{Dir}
use Rattle.dtx_values.specs.declared.message.Message.{Message}
use Rattle.dtx_model.specs.Frames.{is_valid}
use Rattle.dtx_model.specs.Words.{each}
use Rattle.oletx_frames.specs.Feeding.{Feeds, Reading}
use Rattle.oletx_frames.specs.declared.fed.Fed.{Fed}
use Rattle.oletx_frames.specs.declared.fed.Fed.TheVariants.{Msg}
use Rattle.oletx_session.specs.declared.piece.Piece.{Piece}
use Rattle.oletx_session.specs.Queues.{bytes_in, is_on, on_way}
use Rattle.oletx_session.specs.Crossing.{Begins, pieces_of}
use Rattle.oletx_session.proofs.Receiving.{AreLeft, all_left, answers, none_left}

-- so many frames, at most `keep`, and so many pieces were counted: where more are wanted, what is left is to be read, and else these are all
pub record Counts (n keep : ℕ) (reader : Reading) (frames count : ℕ) (left : List (List ℕ)) (ms : List Message) : Type 0 where
  pub done : List Message
  pub rest : List Message
  pub all : ms ≡ done ++ rest
  pub valid : each is_valid rest ≡ true
  pub counted : frames ≡ length done
  pub few : frames ≤ keep
  pub going : frames < keep → AreLeft n reader.held left rest × (reader.ended ≡ None) × (count + length left ≡ length (flat_map (pieces_of n) ms))
  pub stopped : frames ≡ keep → count ≡ length (flat_map (pieces_of n) done)

-- before the first piece
pub count_start : (n keep : ℕ) (reader : Reading) (ms : List Message) (left : List (List ℕ)) → reader.held ≡ [] → reader.ended ≡ None → each is_valid ms ≡ true → left ≡ flat_map (pieces_of n) ms
    → Counts n keep reader 0 0 left ms
count_start n keep reader ms left held going valid is =
    let P : List ℕ → Type 0 = λ xs. AreLeft n xs left ms in
    let Q : List (List ℕ) → Type 0 = λ ps. AreLeft n [] ps ms in
    record {
      done = [];
      rest = ms;
      all = refl;
      valid = valid;
      counted = refl;
      few = omega arith;
      going = λ more. (subst P (sym held) (subst Q (sym is) (all_left n ms)), going, omega (arith, ap length is));
      stopped = λ end. refl;
    }

-- where the frames that are wanted were counted, a piece more changes nothing
pub count_enough : (n keep : ℕ) (reader : Reading) (frames count : ℕ) (left more : List (List ℕ)) (ms : List Message) → Counts n keep reader frames count left ms → keep ≤ frames
    → Counts n keep reader frames count more ms
count_enough n keep reader frames count left more ms so_far enough = record {
  done = so_far.done;
  rest = so_far.rest;
  all = so_far.all;
  valid = so_far.valid;
  counted = so_far.counted;
  few = so_far.few;
  going = λ wanted. absurd (omega (arith, wanted, enough));
  stopped = so_far.stopped;
}

-- a piece is read
pub count_piece : (n keep : ℕ) (old new : Reading) (frames count : ℕ) (p : List ℕ) (left : List (List ℕ)) (call : ℕ × Fed) (ms : List Message) → 1 ≤ n
    → Counts n keep old frames count (p ∷ left) ms → frames < keep → Feeds old p call new
    → ((m : Message) → call.1 ≡ Msg m → Counts n keep new (frames + 1) (count + 1) left ms) × (((m : Message) → call.1 ≡ Msg m → ⊥) → Counts n keep new frames (count + 1) left ms)
count_piece n keep old new frames count p left call ms some so_far wanted feeds =
    let now = so_far.going wanted in
    let got = answers n old new p left call so_far.rest some so_far.valid now.1 now.0 feeds in
    let total = now.2 in
    elim got.answer [
      | inl whole ↦ (
        λ m is. (let done = so_far.done ++ got.first ∷ [] in
            let all : ms ≡ done ++ got.behind = so_far.all ∙ ap (λ xs. so_far.done ++ xs) got.all ∙ sym (append_assoc so_far.done (got.first ∷ []) got.behind) in
            let parts = ap (λ xs. length (flat_map (pieces_of n) xs)) all ∙ ap length (flat_map-append (pieces_of n) done got.behind)
            ∙ length-append (flat_map (pieces_of n) done) (flat_map (pieces_of n) got.behind) in
            let behind = ap length whole.2 in
            let P : List ℕ → Type 0 = λ xs. AreLeft n xs left got.behind in
            let Q : List (List ℕ) → Type 0 = λ ps. AreLeft n [] ps got.behind in
            let valid : each is_valid (got.first ∷ got.behind) ≡ true = ap (each is_valid) (sym got.all) ∙ so_far.valid in
            record {
              done = done;
              rest = got.behind;
              all = all;
              valid = (and_parts (is_valid got.first) (each is_valid got.behind) valid).1;
              counted = omega (arith, so_far.counted, length-append so_far.done (got.first ∷ []));
              few = omega (arith, wanted);
              going = λ more. (subst P (sym whole.1) (subst Q (sym whole.2) (all_left n got.behind)), got.going, omega (arith, total));
              stopped = λ end. omega (arith, total, parts, behind);
            }),
        λ no. absurd (no got.first whole.0),
      )
      | inr part ↦ (
        λ m is. absurd (let both = sym part.0 ∙ is in cc),
        λ no. record {
          done = so_far.done;
          rest = so_far.rest;
          all = so_far.all;
          valid = so_far.valid;
          counted = so_far.counted;
          few = so_far.few;
          going = λ more. (let P : List Message → Type 0 = λ xs. AreLeft n new.held left xs in subst P (sym got.all) part.1, got.going, omega (arith, total));
          stopped = λ end. absurd (omega (arith, wanted, end));
        },
      )
    ]

-- behind the last piece the frames are as many as there are messages or as are to be kept, and their pieces were counted
pub count_end : (n keep : ℕ) (reader : Reading) (frames count : ℕ) (ms : List Message) → 1 ≤ n → Counts n keep reader frames count [] ms → Begins n keep ms (frames, count)
count_end n keep reader frames count ms some so_far =
    let size = ap length so_far.all ∙ length-append so_far.done so_far.rest in
    elim (eq-or-lt_of_le so_far.few) [
      | inr wanted ↦ (let now = so_far.going wanted in
          let none = none_left n reader.held [] so_far.rest some now.0 refl in
          let last = ap (λ (xs : List Message). length xs) none.0 in
          record {
            frames = omega (arith, size, last, so_far.counted, wanted);
            pieces = omega (arith, now.2) ∙ sym (ap (λ xs. length (flat_map (pieces_of n) xs)) (take_all keep ms (omega (arith, size, last, so_far.counted, wanted))));
          })
      | inl enough ↦ (let first : take keep ms ≡ so_far.done = ap (take keep) so_far.all ∙ take_at so_far.done so_far.rest keep (sym so_far.counted ∙ enough) in
          record {
            frames = omega (arith, size, so_far.counted, enough);
            pieces = so_far.stopped enough ∙ sym (ap (λ xs. length (flat_map (pieces_of n) xs)) first);
          })
    ]

-- the first pieces of frames are those of the first frames, where they are as many
pub first_pieces : (n keep : ℕ) (ms : List Message) → take (length (flat_map (pieces_of n) (take keep ms))) (flat_map (pieces_of n) ms) ≡ flat_map (pieces_of n) (take keep ms)
first_pieces n keep ms =
    let front = flat_map (pieces_of n) (take keep ms) in
    ap (take (length front)) (sym (ap (flat_map (pieces_of n)) (take-append-drop keep ms)) ∙ flat_map-append (pieces_of n) (take keep ms) (drop keep ms))
    ∙ take_at front (flat_map (pieces_of n) (drop keep ms)) (length front) refl

-- a piece of the lane is the first that is left
pub lane_on : (c : Conn) (d : Dir) (ps : List Piece) (i : ℕ) (p : Piece) → i < length ps → p ≡ get_or ps i p → is_on c d p ≡ true
    → map bytes_in (on_way c d (drop i ps)) ≡ bytes_in p ∷ map bytes_in (on_way c d (drop (i + 1) ps))
lane_on c d ps i p within is on =
    let rest = drop (suc i) ps in
    let next : suc i ≡ i + 1 = omega arith in
    ap (λ xs. map bytes_in (on_way c d xs)) (drop-cons ps i p within ∙ ap (λ x. x ∷ rest) (sym is))
    ∙ ap (map bytes_in) (cond-true (is_on c d p) (p ∷ on_way c d rest) (on_way c d rest) on) ∙ ap (λ k. bytes_in p ∷ map bytes_in (on_way c d (drop k ps))) next

-- a piece of another isn't there
pub lane_off : (c : Conn) (d : Dir) (ps : List Piece) (i : ℕ) (p : Piece) → i < length ps → p ≡ get_or ps i p → is_on c d p ≡ false
    → map bytes_in (on_way c d (drop i ps)) ≡ map bytes_in (on_way c d (drop (i + 1) ps))
lane_off c d ps i p within is off =
    let rest = drop (suc i) ps in
    let next : suc i ≡ i + 1 = omega arith in
    ap (λ xs. map bytes_in (on_way c d xs)) (drop-cons ps i p within ∙ ap (λ x. x ∷ rest) (sym is))
    ∙ ap (map bytes_in) (cond-false (is_on c d p) (p ∷ on_way c d rest) (on_way c d rest) off) ∙ ap (λ k. map bytes_in (on_way c d (drop k ps))) next

-- the same counts, by other names
pub same_counts : (n keep : ℕ) (r s : Reading) (f g k l : ℕ) (left : List (List ℕ)) (ms : List Message) → r ≡ s → f ≡ g → k ≡ l → Counts n keep s g l left ms → Counts n keep r f k left ms
same_counts n keep r s f g k l left ms reader frames count counts =
    let P : Reading → Type 0 = λ x. Counts n keep x f k left ms in
    let Q : ℕ → Type 0 = λ x. Counts n keep s x k left ms in
    let R : ℕ → Type 0 = λ x. Counts n keep s g x left ms in
    subst P (sym reader) (subst Q (sym frames) (subst R (sym count) counts))

-- a piece of the lane was given to the reader
pub count_given : (c : Conn) (d : Dir) (n keep : ℕ) (old new : Reading) (frames count i : ℕ) (ps : List Piece) (p : Piece) (held : List ℕ) (call : ℕ × Fed) (ms : List Message) → 1 ≤ n
    → i < length ps → p ≡ get_or ps i p → is_on c d p ≡ true → Counts n keep old frames count (map bytes_in (on_way c d (drop i ps))) ms → frames < keep → held ≡ bytes_in p → Feeds old held call new
    → ((m : Message) → call.1 ≡ Msg m → Counts n keep new (frames + 1) (count + 1) (map bytes_in (on_way c d (drop (i + 1) ps))) ms)
    × (((m : Message) → call.1 ≡ Msg m → ⊥) → Counts n keep new frames (count + 1) (map bytes_in (on_way c d (drop (i + 1) ps))) ms)
count_given c d n keep old new frames count i ps p held call ms some within is on so_far wanted bytes feeds =
    let left = map bytes_in (on_way c d (drop (i + 1) ps)) in
    let P : List (List ℕ) → Type 0 = λ xs. Counts n keep old frames count xs ms in
    let split = lane_on c d ps i p within is on ∙ ap (λ (xs : List ℕ). xs ∷ left) (sym bytes) in
    count_piece n keep old new frames count held left call ms some (subst P split so_far) wanted feeds
