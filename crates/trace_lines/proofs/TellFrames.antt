-- A message that is sent is read back from its frame.
use Rattle.std.proofs.Common.{◌≡◌, ◌<◌, ◌^◌, ℕ, zero, suc, nat_le, Bool, true, List, [], ◌∷◌, ◌++◌, codes, drop, get_or, take, Result, refl, ap, ◌∙◌, arith}
use Rattle.std.specs.Int.{w32, w128, byte_at, bytes_high_first, bytes_low_first, to_be_bytes, to_le_bytes}
use Rattle.std.specs.Result.{result_unwrap_or}
use Rattle.std.proofs.lemmas.Bool.Decides.{nat_tests}
use Rattle.std.proofs.lemmas.List.Folds.{list_all-append}
use Rattle.std.proofs.lemmas.Nat.{from_le_bytes-to_le_bytes_4}
use Rattle.hex.specs.declared.error.FromHexError.{FromHexError}
use Rattle.hex.specs.Hex.{IsBytes, decode_of, encode_lower}
use Rattle.hex.proofs.HexLemmas.{decode_of-encode_lower}
use Rattle.dtx_values.specs.declared.entry.Entry.{Entry}
use Rattle.dtx_values.specs.declared.entry.Entry.TheVariants.{Sent, Got}
use Rattle.dtx_values.specs.declared.message.Info.{Info}
use Rattle.dtx_values.specs.declared.message.Message.{Message}
use Rattle.dtx_values.specs.declared.message.Message.TheVariants.{BeginBegin, BeginCommit, BeginAbort, BeginBegun, BeginCommitted, BeginAborted, BeginCommitOne, BeginInDoubt, VoterVoter, VoterYes, VoterNo, VoterCreated, VoterRefused, VoterAsk, VoterCommit, VoterAbort, VoterInDoubt, EnlistEnlist, EnlistPrepared, EnlistNo, EnlistReadonly, EnlistAck, EnlistEnlisted, EnlistRefused, EnlistPrepare, EnlistCommit, EnlistAbort, EnlistSingle, EnlistOneCommitted, EnlistOneAborted, EnlistOneInDoubt, ReenlistReenlist, ReenlistAck, ReenlistCommitted, ReenlistAborted}
use Rattle.dtx_values.specs.RecoveryInfo.{id_bytes, info_bytes, number_in, pair_bytes, wide_in}
use Rattle.dtx_values.proofs.Halves.{from_be_bytes-to_be_bytes_16}
use Rattle.dtx_values.proofs.Infos.{same_info}
use Rattle.dtx_model.specs.Frames.{frame_of}
use Rattle.dtx_model.specs.TraceText.{entry_text}
use Rattle.dtx_model.specs.Words.{each}
use Rattle.dtx_model.proofs.Bools.{and_both, and_left, and_right}
use Rattle.line_tail.specs.Cut.{behind}
use Rattle.trace_lines.specs.Forms.{frame_text}
use Rattle.trace_lines.specs.OneTrace.{carrying, framed, is_cause_typed, is_frame_typed, is_got_carried, is_identifier_typed, is_typed, named, told, wired}
use Rattle.trace_lines.proofs.TellEntries.{entry_is, entry_of, named_told}
use Rattle.trace_lines.proofs.TellWords.{chosen, nearest, nearest_own, nearest_range}

-- each is a byte
abbrev are_bytes : List ℕ → Bool
are_bytes xs = each (λ b. nat_le b 255) xs

-- which is what hexadecimal asks of them
bytes_are : (xs : List ℕ) → are_bytes xs ≡ true → IsBytes xs
bytes_are [] h i = omega arith
bytes_are (x ∷ xs) h zero = let first = and_left (nat_le x 255) (are_bytes xs) h in grind (arith, nat_tests)
bytes_are (x ∷ xs) h (suc i) = bytes_are xs (and_right (nat_le x 255) (are_bytes xs) h) i

-- of two lists
both : (xs ys : List ℕ) → are_bytes xs ≡ true → are_bytes ys ≡ true → are_bytes (xs ++ ys) ≡ true
both xs ys p q = list_all-append (λ b. nat_le b 255) xs ys ∙ and_both _ _ p q

-- the bytes of a number are
byte_small : (k n : ℕ) → nat_le (byte_at k n) 255 ≡ true
byte_small zero n = grind (arith, nat_tests)
byte_small (suc k) n = grind (arith, nat_tests)

high_small : (k n : ℕ) → are_bytes (bytes_high_first k n) ≡ true
high_small zero n = refl
high_small (suc k) n = and_both _ _ (byte_small k n) (high_small k n)

low_small : (i k n : ℕ) → are_bytes (bytes_low_first i k n) ≡ true
low_small i zero n = refl
low_small i (suc k) n = and_both _ _ (byte_small i n) (low_small (suc i) k n)

-- those of recovery information are
info_small : (i : Info) → are_bytes (info_bytes i) ≡ true
unfolding info_bytes pair_bytes
info_small i =
    both (id_bytes i.id) (to_be_bytes w128 i.rm.value ++ to_le_bytes w32 i.enl.value) (high_small 16 i.id)
    (both (to_be_bytes w128 i.rm.value) (to_le_bytes w32 i.enl.value) (high_small 16 i.rm.value) (low_small 0 4 i.enl.value))

-- and those of a frame
frame_small : (m : Message) → is_cause_typed m ≡ true → are_bytes (frame_of m) ≡ true
unfolding frame_of info_bytes pair_bytes
frame_small (BeginBegun u) h = high_small 16 u
frame_small (VoterVoter u) h = high_small 16 u
frame_small (VoterRefused n) h = and_both _ _ h refl
frame_small (EnlistEnlist i) h = info_small i
frame_small (EnlistRefused n) h = and_both _ _ h refl
frame_small (ReenlistReenlist i) h = info_small i
frame_small _ h = refl

-- the information in a body
abbrev info_in : List ℕ → Info
info_in b = record {
  id = wide_in b;
  rm = record { value = nearest 16 (wide_in (drop 16 b)); in_range = nearest_range 16 (wide_in (drop 16 b)) (omega arith) };
  enl = record { value = nearest 9999 (number_in (drop 32 b)); in_range = nearest_range 9999 (number_in (drop 32 b)) (omega arith) };
}

-- is read back
info_is : (i : Info) → i.id < 2 ^ 128 → info_in (info_bytes i) ≡ i
unfolding info_bytes pair_bytes
info_is i small =
    let manager = from_be_bytes-to_be_bytes_16 i.rm.value (omega (arith, i.rm.in_range.1)) in
    let number = from_le_bytes-to_le_bytes_4 i.enl.value (omega (arith, i.enl.in_range.1)) in
    same_info (info_in (info_bytes i)) i (from_be_bytes-to_be_bytes_16 i.id small) (ap (λ (n : ℕ). nearest 16 n) manager ∙ nearest_own 16 i.rm.value i.rm.in_range.0 i.rm.in_range.1)
    (ap (λ (n : ℕ). nearest 9999 n) number ∙ nearest_own 9999 i.enl.value i.enl.in_range.0 i.enl.in_range.1)

-- messages with this identifier, this recovery information and this cause, each with its type and its tag
abbrev messages : ℕ → Info → ℕ → List (List ℕ × Message)
messages u i n =
    (1 ∷ 1 ∷ [], BeginBegin) ∷ (1 ∷ 2 ∷ [], BeginCommit) ∷ (1 ∷ 3 ∷ [], BeginAbort) ∷ (1 ∷ 4 ∷ [], BeginBegun u) ∷ (1 ∷ 5 ∷ [], BeginCommitted) ∷ (1 ∷ 6 ∷ [], BeginAborted) ∷ (1 ∷ 7 ∷ [], BeginCommitOne) ∷ (1 ∷ 8 ∷ [], BeginInDoubt) ∷
    (2 ∷ 1 ∷ [], VoterVoter u) ∷ (2 ∷ 2 ∷ [], VoterYes) ∷ (2 ∷ 3 ∷ [], VoterNo) ∷ (2 ∷ 4 ∷ [], VoterCreated) ∷ (2 ∷ 5 ∷ [], VoterRefused n) ∷ (2 ∷ 6 ∷ [], VoterAsk) ∷
    (2 ∷ 7 ∷ [], VoterCommit) ∷ (2 ∷ 8 ∷ [], VoterAbort) ∷ (2 ∷ 9 ∷ [], VoterInDoubt) ∷ (3 ∷ 1 ∷ [], EnlistEnlist i) ∷ (3 ∷ 2 ∷ [], EnlistPrepared) ∷ (3 ∷ 3 ∷ [], EnlistNo) ∷ (3 ∷ 4 ∷ [], EnlistReadonly) ∷
    (3 ∷ 5 ∷ [], EnlistAck) ∷ (3 ∷ 6 ∷ [], EnlistEnlisted) ∷ (3 ∷ 7 ∷ [], EnlistRefused n) ∷ (3 ∷ 8 ∷ [], EnlistPrepare) ∷ (3 ∷ 9 ∷ [], EnlistCommit) ∷ (3 ∷ 10 ∷ [], EnlistAbort) ∷
    (3 ∷ 11 ∷ [], EnlistSingle) ∷ (3 ∷ 12 ∷ [], EnlistOneCommitted) ∷ (3 ∷ 13 ∷ [], EnlistOneAborted) ∷ (3 ∷ 14 ∷ [], EnlistOneInDoubt) ∷
    (4 ∷ 1 ∷ [], ReenlistReenlist i) ∷ (4 ∷ 2 ∷ [], ReenlistAck) ∷ (4 ∷ 3 ∷ [], ReenlistCommitted) ∷ (4 ∷ 4 ∷ [], ReenlistAborted) ∷ []

-- the message of a frame, with this identifier and this recovery information in place of its own
abbrev kind_in : ℕ → Info → List ℕ → Message
kind_in u i f = chosen (take 2 f) (messages u i (get_or f 4 0)) BeginBegin

-- is read back
kind_is : (u : ℕ) (i : Info) (m : Message) → kind_in u i (frame_of m) ≡ carrying u i m
unfolding frame_of
kind_is u i BeginBegin = refl
kind_is u i _ = refl

-- the message of a frame, with its own
abbrev message_in : List ℕ → Message
message_in f = kind_in (wide_in (drop 4 f)) (info_in (drop 4 f)) f

-- is read back where the identifier is a number of its type
message_is : (m : Message) → is_identifier_typed m ≡ true → message_in (frame_of m) ≡ m
unfolding frame_of
message_is (BeginBegun u) h =
    let small : u < 2 ^ 128 = grind (arith, nat_tests) in
    ap (λ n. BeginBegun n) (from_be_bytes-to_be_bytes_16 u small)
message_is (VoterVoter u) h =
    let small : u < 2 ^ 128 = grind (arith, nat_tests) in
    ap (λ n. VoterVoter n) (from_be_bytes-to_be_bytes_16 u small)
message_is (EnlistEnlist i) h =
    let small : i.id < 2 ^ 128 = grind (arith, nat_tests) in
    ap (λ x. EnlistEnlist x) (info_is i small)
message_is (ReenlistReenlist i) h =
    let small : i.id < 2 ^ 128 = grind (arith, nat_tests) in
    ap (λ x. ReenlistReenlist x) (info_is i small)
message_is _ h = refl

-- the frame that a line ends with
abbrev frame_in : List ℕ → List ℕ
frame_in t = result_unwrap_or (decode_of (behind 32 t)) []

-- is read back
frame_is : (m : Message) → is_cause_typed m ≡ true → frame_in (codes " " ++ encode_lower (frame_of m)) ≡ frame_of m
frame_is m h = ap (λ (r : Result (List ℕ) FromHexError). result_unwrap_or r []) (decode_of-encode_lower (frame_of m) (bytes_are (frame_of m) (frame_small m h)))

-- the entry with this message in place of the one that it sends
abbrev sending : Message → Entry → Entry
sending m (Sent c d n) = Sent c d m
sending m x = x

-- the entry of these words, and of this text of its frame where it has a message that is sent
abbrev pub wired_of : ℕ → Info → List ℕ → List ℕ → Entry
wired_of u i w t = sending (kind_in u i (frame_in t)) (entry_of u i w)

-- the same with the whole message of its frame
abbrev pub framed_of : ℕ → Info → List ℕ → List ℕ → Entry
framed_of u i w t = sending (message_in (frame_in t)) (entry_of u i w)

-- the message of its frame is the entry's
sending_kind : (u : ℕ) (i : Info) (x : Entry) → is_typed x ≡ true → sending (kind_in u i (frame_in (frame_text x))) (named u i x) ≡ wired u i x
sending_kind u i (Sent c d m) h = ap (λ n. Sent c d n) (ap (λ f. kind_in u i f) (frame_is m h) ∙ kind_is u i m)
sending_kind u i _ h = refl

-- so the entry is read back
pub wired_is : (u : ℕ) (i : Info) (x : Entry) → is_typed x ≡ true → wired_of u i (entry_text x) (frame_text x) ≡ wired u i x
wired_is u i x h = ap (λ y. sending (kind_in u i (frame_in (frame_text x))) y) (entry_is u i x h) ∙ sending_kind u i x h

-- the whole message of its frame is the entry's
sending_whole : (u : ℕ) (i : Info) (x : Entry) → is_typed x ≡ true → is_frame_typed x ≡ true → sending (message_in (frame_in (frame_text x))) (named u i x) ≡ framed u i x
sending_whole u i (Sent c d m) h k = ap (λ n. Sent c d n) (ap message_in (frame_is m h) ∙ message_is m k)
sending_whole u i _ h k = refl

-- so the entry is read back whole
pub framed_is : (u : ℕ) (i : Info) (x : Entry) → is_typed x ≡ true → is_frame_typed x ≡ true → framed_of u i (entry_text x) (frame_text x) ≡ framed u i x
framed_is u i x h k = ap (λ y. sending (message_in (frame_in (frame_text x))) y) (entry_is u i x h) ∙ sending_whole u i x h k

-- a message that is got is told by its name, where its connection carries it
pub wired_told : (u : ℕ) (i : Info) (x : Entry) → is_got_carried x ≡ true → wired u i x ≡ told u i x
wired_told u i (Got c d m) h = named_told u i (Got c d m) h
wired_told u i _ h = refl
