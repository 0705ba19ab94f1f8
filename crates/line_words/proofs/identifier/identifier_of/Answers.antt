use Rattle.std.proofs.Common.{◌≡◌, ◌∙◌, ℕ, List, Option, ap, refl, sym, option_map, unwrap_or, [], Some, None}
use Rattle.std.proofs.lemmas.Bool.{false≢true}
use Rattle.std.specs.Int.{w128, from_be_bytes, to_be_bytes}
use Rattle.uuid.proofs.OrderLemmas.{from_be_bytes-to_be_bytes_16}
use Rattle.line_words.proofs.Identifiers.{id_parses}
use Rattle.line_words.proofs.identifier.identifier_of.Goals as goal

-- what isn't there has no image
nothing : (f : List ℕ → ℕ) (o : Option (List ℕ)) → ((x : List ℕ) × (o ≡ Some x) → ⊥) → None ≡ option_map f o
nothing f None h = refl
nothing f (Some x) h = absurd (h (x, refl))

pub returns-in-Ok-clause-value : goal.returns-in-Ok-clause-value
returns-in-Ok-clause-value c = ap Some c.as_u128.ensures ∙ ap (option_map (from_be_bytes w128)) c.in-Ok.ensures.bytes

pub returns-in-Err-clause-value : goal.returns-in-Err-clause-value
returns-in-Err-clause-value c = nothing (from_be_bytes w128) _ (λ found. false≢true (c.in-Err.ensures.ok.1 found))

pub returns-in-Ok-clause-of : goal.returns-in-Ok-clause-of
returns-in-Ok-clause-of c = λ u small e.
    let bytes : c.in-Ok.x ≡ to_be_bytes w128 u = ap (λ o. unwrap_or o []) (c.in-Ok.ensures.bytes ∙ sym (id_parses u c.args.word.now e)) in
    ap Some (c.as_u128.ensures ∙ ap (from_be_bytes w128) bytes ∙ from_be_bytes-to_be_bytes_16 u small)

pub returns-in-Err-clause-of : goal.returns-in-Err-clause-of
returns-in-Err-clause-of c = λ u small e. absurd (false≢true (c.in-Err.ensures.ok.1 (to_be_bytes w128 u, sym (id_parses u c.args.word.now e))))
