-- A reader that is given the pieces of frames.
use Rattle.std.proofs.Common.{◌≡◌, ◌≢◌, ℕ, ◌≤◌, ◌⊎◌, inl, inr, true, false, List, [], ◌∷◌, ◌++◌, length, map, take, drop, Option, Some, None, Result, Ok, refl, ap, sym, subst, ◌∙◌, arith, append_assoc}
use Rattle.std.specs.List.{flat_map}
use Rattle.std.proofs.lemmas.Bool.{and_parts, cases_Bool}
use Rattle.std.proofs.lemmas.List.{append-nil, take-append-drop, take_all}
use Rattle.dtx_values.specs.declared.message.Message.{Message}
use Rattle.dtx_model.specs.Frames.{frame_of, is_valid}
use Rattle.dtx_model.specs.Outcome.{is_empty}
use Rattle.dtx_model.specs.Words.{each}
use Rattle.oletx_frames.specs.Feeding.{Completes, Continues, Feeds, IsBegun, Reading, holding, left_after}
use Rattle.oletx_frames.specs.declared.fed.Fed.{Fed}
use Rattle.oletx_frames.specs.declared.fed.Fed.TheVariants.{More, Msg, Bad}
use Rattle.oletx_frames.proofs.Pieces.{frame_is}
use Rattle.oletx_frames.proofs.Telling.{part_begun}
use Rattle.oletx_frames.specs.declared.refusal.FrameRefusal.{FrameRefusal}
use Rattle.oletx_session.specs.declared.piece.Piece.{Piece}
use Rattle.oletx_session.specs.Queues.{bytes_in}
use Rattle.oletx_session.specs.Crossing.{Takes, cut, pieces_of}
use Rattle.oletx_session.proofs.Cutting.{cut_first}

-- the pieces that are left, once these bytes of the first of the frames were got: none, or the pieces of what that frame has left and of the others
abbrev pub AreLeft : ℕ → List ℕ → List (List ℕ) → List Message → Type 0
AreLeft n held left [] = (held ≡ []) × (left ≡ [])
AreLeft n held left (m ∷ ms) = (b : List ℕ) × (held ++ b ≡ frame_of m) × (is_empty b ≡ false) × (left ≡ cut n b ++ flat_map (pieces_of n) ms)

-- bytes that aren't empty
some_bytes : (b : List ℕ) → is_empty b ≡ false → b ≢ []
some_bytes [] full is = absurd cc
some_bytes (x ∷ b) full is = absurd cc

-- no bytes are there where they are empty
no_bytes : (b : List ℕ) → is_empty b ≡ true → b ≡ []
no_bytes [] h = refl
no_bytes (x ∷ b) h = absurd cc

-- a frame isn't empty
frame_some : (m : Message) → is_empty (frame_of m) ≡ false
frame_some m = ap is_empty (frame_is m)

-- before the first piece all are left
pub all_left : (n : ℕ) (ms : List Message) → AreLeft n [] (flat_map (pieces_of n) ms) ms
all_left n [] = (refl, refl)
all_left n (m ∷ ms) = (frame_of m, refl, frame_some m, refl)

-- what is told of the next piece: with it the frame of the first message is whole, or it isn't yet
pub record Tells (n : ℕ) (held p : List ℕ) (left : List (List ℕ)) (ms : List Message) : Type 0 where
  pub first : Message
  pub behind : List Message
  pub all : ms ≡ first ∷ behind
  pub valid : is_valid first ≡ true
  pub told : ((held ++ p ≡ frame_of first) × (left ≡ flat_map (pieces_of n) behind)) ⊎ (IsBegun (held ++ p) × AreLeft n (held ++ p) left (first ∷ behind))

-- so the next piece has the first bytes of what is left of the frame
pub next_piece : (n : ℕ) (held p : List ℕ) (left : List (List ℕ)) (ms : List Message) → 1 ≤ n → each is_valid ms ≡ true → AreLeft n held (p ∷ left) ms → Tells n held p left ms
next_piece n held p left [] some valid at = absurd (let none = at.1 in cc)
next_piece n held p left (m ∷ ms) some valid (b, whole, full, is) =
    let both = and_parts (is_valid m) (each is_valid ms) valid in
    let rest = drop n b in
    let split = is ∙ ap (λ ps. ps ++ flat_map (pieces_of n) ms) (cut_first n b some full) in
    let piece : p ≡ take n b = cc in
    let behind : left ≡ cut n rest ++ flat_map (pieces_of n) ms = cc in
    let got : (held ++ p) ++ rest ≡ frame_of m = append_assoc held p rest ∙ ap (λ (xs : List ℕ). held ++ xs) (ap (λ (xs : List ℕ). xs ++ rest) piece ∙ take-append-drop n b) ∙ whole in
    record {
      first = m;
      behind = ms;
      all = refl;
      valid = both.0;
      told =
          elim (cases_Bool (is_empty rest)) [
            | inl end ↦ (let none = no_bytes rest end in
                inl (sym (append-nil (held ++ p)) ∙ ap (λ (xs : List ℕ). (held ++ p) ++ xs) (sym none) ∙ got, behind ∙ ap (λ (xs : List ℕ). cut n xs ++ flat_map (pieces_of n) ms) none))
            | inr more ↦ inr (part_begun m (held ++ p) rest (sym got) (some_bytes rest more), (rest, got, more, behind))
          ];
    }

-- so a reader that is given it answers the message, or that more is wanted
pub record Answers (n : ℕ) (old new : Reading) (left : List (List ℕ)) (call : ℕ × Fed) (ms : List Message) : Type 0 where
  pub first : Message
  pub behind : List Message
  pub all : ms ≡ first ∷ behind
  pub answer : ((call.1 ≡ Msg first) × (new.held ≡ []) × (left ≡ flat_map (pieces_of n) behind)) ⊎ ((call.1 ≡ More) × AreLeft n new.held left (first ∷ behind))
  pub going : new.ended ≡ None

-- what the answer of a call is
second : (call : ℕ × Fed) (k : ℕ) (f : Fed) → ◌≡◌ {A = ℕ × Fed} call (k, f) → call.1 ≡ f
second call k f is = ap (λ (x : ℕ × Fed). x.1) is

pub answers : (n : ℕ) (old new : Reading) (p : List ℕ) (left : List (List ℕ)) (call : ℕ × Fed) (ms : List Message) → 1 ≤ n → each is_valid ms ≡ true → old.ended ≡ None
    → AreLeft n old.held (p ∷ left) ms → Feeds old p call new → Answers n old new left call ms
answers n old new p left call ms some valid going at feeds =
    let next = next_piece n old.held p left ms some valid at in
    elim next.told [
      | inl whole ↦ (let framed : Completes old.held p (length p) next.first = (omega arith, record { valid = next.valid; bytes = ap (λ (xs : List ℕ). old.held ++ xs) (take_all (length p) p (omega arith)) ∙ whole.0 }) in
          let is = second call (length p) (Msg next.first) ((feeds.message going (length p) next.first).1 framed) in
          let after = feeds.after ∙ ap (left_after old p) is in
          record {
            first = next.first;
            behind = next.behind;
            all = next.all;
            answer = inl (is, ap (λ (r : Reading). r.held) after, whole.1);
            going = ap (λ (r : Reading). r.ended) after;
          })
      | inr part ↦ (let continues : Continues old.held p (length p) = (refl, part.0) in
          let is = second call (length p) More ((feeds.more going (length p)).1 continues) in
          let after = feeds.after ∙ ap (left_after old p) is in
          let P : List ℕ → Type 0 = λ xs. AreLeft n xs left (next.first ∷ next.behind) in
          record {
            first = next.first;
            behind = next.behind;
            all = next.all;
            answer = inr (is, subst P (sym (ap (λ (r : Reading). r.held) after)) part.1);
            going = ap (λ (r : Reading). r.ended) after;
          })
    ]

-- where nothing is left to read, the messages are none and nothing is held
pub none_left : (n : ℕ) (held : List ℕ) (left : List (List ℕ)) (ms : List Message) → 1 ≤ n → AreLeft n held left ms → left ≡ [] → (ms ≡ []) × (held ≡ [])
none_left n held left [] some at none = (refl, at.0)
none_left n held left (m ∷ ms) some (b, whole, full, is) none =
    absurd (let split = sym none ∙ is ∙ ap (λ ps. ps ++ flat_map (pieces_of n) ms) (cut_first n b some full) in cc)

-- a new reader holds nothing, and all is left
pub start_left : (n : ℕ) (reader : Reading) (left : List (List ℕ)) (ms : List Message) → reader ≡ holding [] → left ≡ flat_map (pieces_of n) ms → AreLeft n reader.held left ms × (reader.ended ≡ None)
start_left n reader left ms new is =
    let P : List ℕ → Type 0 = λ xs. AreLeft n xs left ms in
    let Q : List (List ℕ) → Type 0 = λ ps. AreLeft n [] ps ms in
    (subst P (sym (ap (λ (r : Reading). r.held) new)) (subst Q (sym is) (all_left n ms)), ap (λ (r : Reading). r.ended) new)

-- the first piece of a lane is given to the reader
pub given : (n : ℕ) (old new : Reading) (p : List ℕ) (piece : Piece) (lane behind : List Piece) (call : ℕ × Fed) (ms : List Message) → 1 ≤ n → each is_valid ms ≡ true
    → AreLeft n old.held (map bytes_in lane) ms × (old.ended ≡ None) → lane ≡ piece ∷ behind → p ≡ bytes_in piece → Feeds old p call new → Answers n old new (map bytes_in behind) call ms
given n old new p piece lane behind call ms some valid at first held feeds =
    let P : List (List ℕ) → Type 0 = λ ps. AreLeft n old.held ps ms in
    let split : map bytes_in lane ≡ p ∷ map bytes_in behind = ap (map bytes_in) first ∙ ap (λ (xs : List ℕ). xs ∷ map bytes_in behind) (sym held) in
    answers n old new p (map bytes_in behind) call ms some valid at.1 (subst P split at.0) feeds

-- where it wants more, the rest of the pieces is left
pub wants_more : (n : ℕ) (old new : Reading) (left : List (List ℕ)) (call : ℕ × Fed) (ms : List Message) → Answers n old new left call ms → call.1 ≡ More → AreLeft n new.held left ms × (new.ended ≡ None)
wants_more n old new left call ms got is =
    elim got.answer [
      | inl whole ↦ absurd (let both = sym whole.0 ∙ is in cc)
      | inr part ↦ (let P : List Message → Type 0 = λ xs. AreLeft n new.held left xs in (subst P (sym got.all) part.1, got.going))
    ]

-- where it gives a message, this is the first
pub gives_message : (n : ℕ) (old new : Reading) (left : List Piece) (call : ℕ × Fed) (ms : List Message) (m : Message) → Answers n old new (map bytes_in left) call ms → call.1 ≡ Msg m
    → Takes n (Some (Ok m)) ms left
gives_message n old new left call ms m got is =
    elim got.answer [
      | inl whole ↦ (let P : List Message → Type 0 = λ xs. Takes n (Some (Ok m)) xs left in
          let same : m ≡ got.first = (let both = sym is ∙ whole.0 in cc) in
          subst P (sym got.all) (ap (λ (x : Message). Some (Ok x)) same, whole.2))
      | inr part ↦ absurd (let both = sym part.0 ∙ is in cc)
    ]

-- it refuses nothing
pub refuses_none : (n : ℕ) (old new : Reading) (left : List (List ℕ)) (call : ℕ × Fed) (ms : List Message) (e : FrameRefusal) → Answers n old new left call ms → call.1 ≡ Bad e → ⊥
refuses_none n old new left call ms e got is =
    elim got.answer [
      | inl whole ↦ (let both = sym whole.0 ∙ is in cc)
      | inr part ↦ (let both = sym part.0 ∙ is in cc)
    ]

-- there was a message to read
pub some_message : (n : ℕ) (old new : Reading) (left : List (List ℕ)) (call : ℕ × Fed) (ms : List Message) → Answers n old new left call ms → ms ≡ [] → ⊥
some_message n old new left call ms got none = let both = sym got.all ∙ none in cc

-- where no piece is left, none of a frame is held, and there was none
pub ends_clean : (n : ℕ) (held : List ℕ) (lane : List Piece) (ms : List Message) (answer : Option (Result Message FrameRefusal)) → 1 ≤ n → AreLeft n held (map bytes_in lane) ms → lane ≡ []
    → (held ≡ [] → answer ≡ None) → Takes n answer ms lane
ends_clean n held lane ms answer some at none end =
    let both = none_left n held (map bytes_in lane) ms some at (ap (map bytes_in) none) in
    let P : List Message → Type 0 = λ xs. Takes n answer xs lane in
    subst P (sym both.0) (end both.1, none)
