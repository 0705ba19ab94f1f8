-- Words with spaces between them, cut apart.
use Rattle.std.proofs.Common.{◌≡◌, ℕ, List, [], ◌∷◌, ◌++◌, codes, refl, ap, ◌∙◌, arith, append_assoc}
use Rattle.dtx_values.specs.declared.entry.Party.{Party}
use Rattle.dtx_values.specs.declared.entry.Party.TheVariants.{Client, Enl}
use Rattle.dtx_values.specs.declared.message.Conn.{Conn}
use Rattle.dtx_values.specs.declared.message.Conn.TheVariants.{Begin, Voter, Enl as OnEnl, Again}
use Rattle.dtx_values.specs.declared.message.Dir.{Dir}
use Rattle.dtx_values.specs.declared.message.Dir.TheVariants.{Up, Down as Downward}
use Rattle.dtx_values.specs.declared.trace.Place.{Place}
use Rattle.dtx_values.specs.declared.trace.Place.TheVariants.{Context, Transaction, Log}
use Rattle.dtx_model.specs.Grammar.{connection_word}
use Rattle.dtx_model.specs.TraceText.{direction_text, party_text, place_text}
use Rattle.line_tail.specs.Cut.{IsWithout, behind, front}
use Rattle.line_tail.proofs.CutLemmas.{front_cut, behind_cut, cut_none}
use Rattle.line_words.proofs.Without.{name_without}

-- the words of a text that is cut at its first space
pub record AreCut (f l a r : List ℕ) : Type 0 where
  pub first : f ≡ a
  pub last : l ≡ r

-- words with a space between them are cut there
pub cut_spaced : (text first last a r : List ℕ) → first ≡ front 32 text → last ≡ behind 32 text → text ≡ a ++ codes " " ++ r → IsWithout 32 a → AreCut first last a r
cut_spaced text first last a r f l e h =
    let whole : text ≡ a ++ 32 ∷ r = e ∙ append_assoc a (codes " ") r in
    record {
      first = f ∙ ap (λ t. front 32 t) whole ∙ front_cut 32 a r h;
      last = l ∙ ap (λ t. behind 32 t) whole ∙ behind_cut 32 a r h;
    }

-- the first of three words with spaces between them is cut off there
pub cut_twice : (text first last a b r : List ℕ) → first ≡ front 32 text → last ≡ behind 32 text → text ≡ a ++ codes " " ++ b ++ codes " " ++ r → IsWithout 32 a
    → AreCut first last a (b ++ codes " " ++ r)
cut_twice text first last a b r f l e h =
    cut_spaced text first last a (b ++ codes " " ++ r) f l (e ∙ ap (λ t. t ++ r) (append_assoc (a ++ codes " ") b (codes " ")) ∙ append_assoc (a ++ codes " ") (b ++ codes " ") r) h

-- two texts that are cut at their last c are cut at one place
pub cut_last : (c : ℕ) (v w r s : List ℕ) → IsWithout c r → IsWithout c s → v ++ c ∷ r ≡ w ++ c ∷ s → v ≡ w
cut_last c [] [] r s hr hs e = refl
cut_last c [] (y ∷ w) r s hr hs e = absurd (cut_none c r w s hr cc)
cut_last c (x ∷ v) [] r s hr hs e = absurd (cut_none c s v r hs cc)
cut_last c (x ∷ v) (y ∷ w) r s hr hs e =
    let head : x ≡ y = cc in
    let rest = cut_last c v w r s hr hs cc in
    λ i. head i ∷ rest i

-- a place has no space
pub place_apart : (p : Place) → IsWithout 32 (place_text p)
place_apart (Context a) = name_without 97 a.value (omega arith)
place_apart (Transaction t) = name_without 116 t.value (omega arith)
place_apart Log = refl

-- a party has no space
pub party_apart : (p : Party) → IsWithout 32 (party_text p)
party_apart Client = refl
party_apart (Enl e) = name_without 101 e.value (omega arith)

-- nor has a connection
pub connection_apart : (c : Conn) → IsWithout 32 (connection_word c)
connection_apart Begin = refl
connection_apart Voter = refl
connection_apart (OnEnl e) = name_without 101 e.value (omega arith)
connection_apart (Again e) = name_without 120 e.value (omega arith)

-- nor has a direction
pub direction_apart : (d : Dir) → IsWithout 32 (direction_text d)
direction_apart Up = refl
direction_apart Downward = refl
