-- The text of an identifier.
use Rattle.std.proofs.Common.{◌≡◌, ℕ, zero, suc, ◌<◌, ◌==◌, false, List, [], ◌∷◌, length, All, Some, inl, refl, ap, sym, ◌∙◌, arith}
use Rattle.std.specs.Int.{w128, to_be_bytes, byte_at, bytes_high_first}
use Rattle.std.proofs.lemmas.Bool.Decides.{nat_tests}
use Rattle.std.proofs.lemmas.List.Elements.{All-nil, All-cons}
use Rattle.uuid.specs.Text.{by_index, parsed, lower}
use Rattle.uuid.proofs.TextLemmas.{by_index_length}
use Rattle.uuid.proofs.RoundTrips.{parses_hyphenated}
use Rattle.dtx_model.specs.TraceText.{id_text}
use Rattle.line_tail.specs.Cut.{IsWithout}
use Rattle.line_tail.proofs.CutLemmas.{without_append}

-- a byte of a number is a byte
byte_small : (k n : ℕ) → byte_at k n < 256
byte_small zero n = omega arith
byte_small (suc k) n = omega arith

-- so are all of them
bytes_small : (k n : ℕ) → All (λ b. b < 256) (bytes_high_first k n)
bytes_small zero n = All-nil (λ b. b < 256)
bytes_small (suc k) n = All-cons (λ b. b < 256) (byte_at k n) (bytes_high_first k n) (byte_small k n) (bytes_small k n)

-- an identifier's text parses to its bytes
pub id_parses : (u : ℕ) (w : List ℕ) → w ≡ id_text u → Some (to_be_bytes w128 u) ≡ parsed w
unfolding id_text
id_parses u w e = parses_hyphenated lower (to_be_bytes w128 u) (inl refl) refl (bytes_small 16 u) ∙ ap parsed (sym e)

-- a list by its places is without c where each place is
without_by_index : (c n : ℕ) (f : ℕ → ℕ) → ((k : ℕ) → (f k == c) ≡ false) → IsWithout c (by_index n f)
unfolding by_index
without_by_index c zero f h = refl
without_by_index c (suc n) f h =
    let last = h n in
    let whole : IsWithout c (f n ∷ []) = grind (arith, nat_tests) in
    without_append c (by_index n f) (f n ∷ []) (without_by_index c n f h) whole

-- an identifier's text has no byte below `-`
pub id_without : (c u : ℕ) → c < 45 → IsWithout c (id_text u)
unfolding id_text
id_without c u h = without_by_index c 36 _ (λ k. grind (arith, nat_tests))

-- an identifier's text has 36 bytes
pub length-id : (u : ℕ) → length (id_text u) ≡ 36
unfolding id_text
length-id u = by_index_length 36 _
