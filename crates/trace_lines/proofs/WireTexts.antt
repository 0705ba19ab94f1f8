-- A text in the form wire has one trace, up to what its lines leave out.
use Rattle.std.proofs.Common.{◌≡◌, ◌==◌, ℕ, suc, zero, ◌/◌, ◌%◌, Bool, true, false, ◌&&◌, List, [], ◌∷◌, ◌++◌, ap, append_assoc, codes, decimal, drop, get_or, map, refl, sym, ◌∙◌}
use Rattle.std.proofs.lemmas.List.{append-nil, append_cancel_left}
use Rattle.hex.specs.Hex.{encode_lower, encode_with, lower_digits}
use Rattle.dtx_values.specs.declared.entry.Entry.{Entry}
use Rattle.dtx_values.specs.declared.entry.Entry.TheVariants.{Sent, Scope, LogWord}
use Rattle.dtx_values.specs.declared.entry.LogNote.TheVariants.{Armed, Opened as LogOpened}
use Rattle.dtx_values.specs.declared.entry.ScopeNote.TheVariants.{Opened, Finished, Closed}
use Rattle.dtx_values.specs.declared.message.Info.{Info}
use Rattle.dtx_model.specs.Faults.{same_bytes}
use Rattle.dtx_model.specs.Frames.{frame_of}
use Rattle.dtx_model.specs.Traces.{Placed}
use Rattle.dtx_model.specs.TraceText.{entry_text, place_text}
use Rattle.dtx_model.specs.Words.{each}
use Rattle.dtx_model.proofs.Bools.{and_both, and_left, and_right, or_false, or_first, or_second}
use Rattle.line_tail.specs.Cut.{IsWithout, front}
use Rattle.line_tail.proofs.CutLemmas.{cut_same, without_append}
use Rattle.trace_lines.specs.Forms.{frame_text, line_words, wire_line, wire_lines_from, wire_text}
use Rattle.trace_lines.specs.OneTrace.{framed_at, is_frame_typed_at, is_got_carried_at, is_typed_at, told_at, wired_at}
use Rattle.trace_lines.proofs.CutWords.{cut_last, place_apart}
use Rattle.trace_lines.proofs.LineEnds.{body_without}
use Rattle.trace_lines.proofs.Lines.{ended}
use Rattle.trace_lines.proofs.TellFrames.{framed_is, framed_of, wired_is, wired_of, wired_told}
use Rattle.trace_lines.proofs.TellWords.{place_is, place_of}

-- what stands at a place of a text without c isn't c
item_without : (c : ℕ) (xs : List ℕ) (i : ℕ) → (0 == c) ≡ false → IsWithout c xs → (get_or xs i 0 == c) ≡ false
item_without c [] i none h = none
item_without c (x ∷ xs) zero none h = or_first (x == c) _ h
item_without c (x ∷ xs) (suc i) none h = item_without c xs i none (or_second (x == c) _ h)

-- hexadecimal is without what its digits are without
hex_without : (c : ℕ) (bytes : List ℕ) → (0 == c) ≡ false → IsWithout c lower_digits → IsWithout c (encode_lower bytes)
unfolding encode_with
hex_without c [] none h = refl
hex_without c (b ∷ bytes) none h = or_false _ _ (item_without c lower_digits (b / 16) none h) (or_false _ _ (item_without c lower_digits (b % 16) none h) (hex_without c bytes none h))

-- so a frame has no LF, with the space before it
frame_apart : (x : Entry) → IsWithout 10 (frame_text x)
frame_apart (Sent c d m) = hex_without 10 (frame_of m) refl refl
frame_apart _ = refl

-- the entry has a message that is sent
abbrev is_sent : Entry → Bool
is_sent (Sent c d m) = true
is_sent x = false

-- its keyword tells this, which is what stands before the first space
sent_word : (x : Entry) → same_bytes (front 32 (entry_text x ++ frame_text x)) (codes "sent") ≡ is_sent x
sent_word (Scope (Opened i t)) = refl
sent_word (Scope (Finished i)) = refl
sent_word (Scope (Closed i)) = refl
sent_word (LogWord (Armed n i)) = refl
sent_word (LogWord (LogOpened n)) = refl
sent_word _ = refl

-- the digits of its frame
abbrev digits_in : Entry → List ℕ
digits_in (Sent c d m) = encode_lower (frame_of m)
digits_in x = []

-- they stand behind a space
frame_there : (x : Entry) → is_sent x ≡ true → frame_text x ≡ 32 ∷ digits_in x
frame_there (Sent c d m) h = refl
frame_there _ h = absurd cc

-- and hold none
digits_apart : (x : Entry) → IsWithout 32 (digits_in x)
digits_apart (Sent c d m) = hex_without 32 (frame_of m) refl refl
digits_apart _ = refl

-- any other entry has no frame
no_frame : (x : Entry) → is_sent x ≡ false → frame_text x ≡ []
no_frame (Sent c d m) h = absurd cc
no_frame _ h = refl

-- two entries that are one text with their frames, both sent or both not, are one without them
unframed : (b : Bool) (x y : Entry) → is_sent x ≡ b → is_sent y ≡ b → entry_text x ++ frame_text x ≡ entry_text y ++ frame_text y → entry_text x ≡ entry_text y
unframed true x y p q e =
    cut_last 32 (entry_text x) (entry_text y) (digits_in x) (digits_in y) (digits_apart x) (digits_apart y)
    (ap (λ (t : List ℕ). entry_text x ++ t) (sym (frame_there x p)) ∙ e ∙ ap (λ (t : List ℕ). entry_text y ++ t) (frame_there y q))
unframed false x y p q e =
    sym (ap (λ (t : List ℕ). entry_text x ++ t) (no_frame x p) ∙ append-nil (entry_text x)) ∙ e ∙ ap (λ (t : List ℕ). entry_text y ++ t) (no_frame y q) ∙ append-nil (entry_text y)

-- one keyword says both, so that two entries that are one text with their frames are always so
entry_same : (x y : Entry) → entry_text x ++ frame_text x ≡ entry_text y ++ frame_text y → entry_text x ≡ entry_text y
entry_same x y e =
    let both : is_sent y ≡ is_sent x = sym (sent_word y) ∙ ap (λ (t : List ℕ). same_bytes (front 32 t) (codes "sent")) (sym e) ∙ sent_word x in
    unframed (is_sent x) x y refl both e

-- a line before its LF, cut at the spaces around its place
line_parts : (n : ℕ) (x : Placed) → line_words n x ++ frame_text x.1 ≡ decimal n ++ 32 ∷ (place_text x.0 ++ 32 ∷ (entry_text x.1 ++ frame_text x.1))
line_parts n x = simp append_assoc

-- two lines of one number at the front of one text have one place, one entry and one frame, and are followed by one text
record AreAlike (x y : Placed) (r s : List ℕ) : Type 0 where
  place : place_text x.0 ≡ place_text y.0
  entry : entry_text x.1 ≡ entry_text y.1
  frame : frame_text x.1 ≡ frame_text y.1
  after : r ≡ s

-- what follows a line stands after its LF
line-append : (n : ℕ) (x : Placed) (after : List ℕ) → wire_line n x ++ after ≡ (line_words n x ++ frame_text x.1) ++ 10 ∷ after
line-append n x after = append_assoc (line_words n x ++ frame_text x.1) (10 ∷ []) after

-- which is its only one
framed_without : (n : ℕ) (x : Placed) → IsWithout 10 (line_words n x ++ frame_text x.1)
framed_without n x = without_append 10 (line_words n x) (frame_text x.1) (body_without n x) (frame_apart x.1)

alike : (n : ℕ) (x y : Placed) (r s : List ℕ) → wire_line n x ++ r ≡ wire_line n y ++ s → AreAlike x y r s
alike n x y r s e =
    let cut = cut_same 10 (line_words n x ++ frame_text x.1) (line_words n y ++ frame_text y.1) r s (framed_without n x) (framed_without n y) (sym (line-append n x r) ∙ e ∙ line-append n y s) in
    let words = append_cancel_left (decimal n) _ _ (sym (line_parts n x) ∙ cut.0 ∙ line_parts n y) in
    let parts = cut_same 32 (place_text x.0) (place_text y.0) (entry_text x.1 ++ frame_text x.1) (entry_text y.1 ++ frame_text y.1) (place_apart x.0) (place_apart y.0)
    (ap (λ (t : List ℕ). drop 1 t) words) in
    let entry = entry_same x.1 y.1 parts.1 in
    record {
      place = parts.0;
      entry = entry;
      frame = append_cancel_left (entry_text y.1) _ _ (ap (λ (t : List ℕ). t ++ frame_text x.1) (sym entry) ∙ parts.1);
      after = cut.1;
    }

-- the texts of an entry's place, of the entry and of its frame
abbrev Parts : Type 0
Parts = List ℕ × List ℕ × List ℕ

abbrev parts_of : Placed → Parts
parts_of x = (place_text x.0, entry_text x.1, frame_text x.1)

-- so two runs of lines that are one text have one list of these
parts_one : (n : ℕ) (S T : List Placed) → wire_lines_from n S ≡ wire_lines_from n T → map parts_of S ≡ map parts_of T
parts_one n [] [] e = refl
parts_one n [] (y ∷ T) e = absurd (ended (line_words n y) (frame_text y.1) (wire_lines_from (suc n) T) 10 (sym e))
parts_one n (x ∷ S) [] e = absurd (ended (line_words n x) (frame_text x.1) (wire_lines_from (suc n) S) 10 e)
parts_one n (x ∷ S) (y ∷ T) e =
    let k = alike n x y (wire_lines_from (suc n) S) (wire_lines_from (suc n) T) e in
    let rest = parts_one (suc n) S T k.after in
    λ j. (k.place j, k.entry j, k.frame j) ∷ rest j

-- what a reader of these gives for each entry that passes, it gives for a trace of such entries
all_read : (p : Placed → Bool) (read : Parts → Placed) (f : Placed → Placed) → ((x : Placed) → p x ≡ true → read (parts_of x) ≡ f x) → (T : List Placed) → each p T ≡ true → map read (map parts_of T) ≡ map f T
all_read p read f is [] h = refl
all_read p read f is (x ∷ T) h =
    let first = is x (and_left (p x) (each p T) h) in
    let rest = all_read p read f is T (and_right (p x) (each p T) h) in
    λ j. first j ∷ rest j

-- so it gives one answer for two traces of one text
read_one : (p : Placed → Bool) (read : Parts → Placed) (f : Placed → Placed) → ((x : Placed) → p x ≡ true → read (parts_of x) ≡ f x) → (S T : List Placed) → each p S ≡ true → each p T ≡ true → wire_text S ≡ wire_text T → map f S ≡ map f T
unfolding wire_text
read_one p read f is S T h k e = sym (all_read p read f is S h) ∙ ap (λ ps. map read ps) (parts_one 1 S T e) ∙ all_read p read f is T k

-- messages that are got are told by their names, and those that are sent by their frames
pub wire_names : (S T : List Placed) (u : ℕ) (i : Info) → each is_typed_at S ≡ true → each is_typed_at T ≡ true → wire_text S ≡ wire_text T → map (wired_at u i) S ≡ map (wired_at u i) T
wire_names S T u i h k e =
    read_one is_typed_at (λ w. (place_of w.0, wired_of u i w.1 w.2)) (wired_at u i) (λ x typed. let place = place_is x.0 in let entry = wired_is u i x.1 typed in λ j. (place j, entry j)) S T h k e

-- where their connections carry those that are got, names tell them as well
all_told : (u : ℕ) (i : Info) (T : List Placed) → each is_got_carried_at T ≡ true → map (wired_at u i) T ≡ map (told_at u i) T
all_told u i [] h = refl
all_told u i (x ∷ T) h =
    let first = wired_told u i x.1 (and_left (is_got_carried_at x) (each is_got_carried_at T) h) in
    let rest = all_told u i T (and_right (is_got_carried_at x) (each is_got_carried_at T) h) in
    λ j. (x.0, first j) ∷ rest j

pub wire_one : (S T : List Placed) (u : ℕ) (i : Info) → each is_typed_at S ≡ true → each is_typed_at T ≡ true → each is_got_carried_at S ≡ true → each is_got_carried_at T ≡ true
    → wire_text S ≡ wire_text T → map (told_at u i) S ≡ map (told_at u i) T
wire_one S T u i h k a b e = sym (all_told u i S a) ∙ wire_names S T u i h k e ∙ all_told u i T b

-- where both tests hold of each entry, both together hold of each
each_both : (p q : Placed → Bool) (T : List Placed) → each p T ≡ true → each q T ≡ true → each (λ x. p x && q x) T ≡ true
each_both p q [] h k = refl
each_both p q (x ∷ T) h k =
    and_both _ _ (and_both (p x) (q x) (and_left (p x) (each p T) h) (and_left (q x) (each q T) k)) (each_both p q T (and_right (p x) (each p T) h) (and_right (q x) (each q T) k))

-- with identifiers of 128 bits each message that is sent is told whole
pub wire_frames : (S T : List Placed) (u : ℕ) (i : Info) → each is_typed_at S ≡ true → each is_typed_at T ≡ true → each is_frame_typed_at S ≡ true → each is_frame_typed_at T ≡ true
    → wire_text S ≡ wire_text T → map (framed_at u i) S ≡ map (framed_at u i) T
wire_frames S T u i h k f g e =
    read_one (λ x. is_typed_at x && is_frame_typed_at x) (λ w. (place_of w.0, framed_of u i w.1 w.2)) (framed_at u i)
    (λ x both. let place = place_is x.0 in
    let entry = framed_is u i x.1 (and_left (is_typed_at x) (is_frame_typed_at x) both) (and_right (is_typed_at x) (is_frame_typed_at x) both) in
    λ j. (place j, entry j)) S T (each_both is_typed_at is_frame_typed_at S h f) (each_both is_typed_at is_frame_typed_at T k g) e
