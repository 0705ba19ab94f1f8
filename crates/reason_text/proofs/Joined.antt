-- Phrases after phrases.
use Rattle.std.proofs.Common.{◌≡◌, List, ◌++◌, Result, Ok, Err, OnOk}
use Rattle.std.proofs.lemmas.Grind.{flat_map-append}
use Rattle.reason_text.specs.Phrases.{Phrase, phrase_text, phrases_text}

pub joined : (xs ys : List Phrase) → phrases_text (xs ++ ys) ≡ phrases_text xs ++ phrases_text ys
joined xs ys = flat_map-append phrase_text xs ys

-- what follows where it is Ok
pub then-ok : {A B : Type 0} {P Q : Type 0} (r : Result A B) → (P → Q) → OnOk r P → OnOk r Q
then-ok (Ok a) f p = f p
then-ok (Err e) f p = tt
