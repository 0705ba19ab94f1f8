-- Puts with a script in the bytes that were read are those of all that the source gives.
use Rattle.std.proofs.Common.{◌≡◌, ℕ, ◌≤◌, List, [], length, take, drop, Option, Some, ap, ◌∙◌, subst, arith}
use Rattle.std.proofs.Math.ListN.{drop_of_length-le}
use Rattle.std.proofs.lemmas.List.{length-take}
use Rattle.std.specs.Option.{ForSome}
use Rattle.dtx_values.specs.declared.limits.TheConstants.{SCRIPT_BYTES}
use Rattle.dtx_values.specs.declared.script.BadCause.{BadCause}
use Rattle.dtx_values.specs.declared.script.Line.{Line}
use Rattle.dtx_model.specs.Caused.{Of}
use Rattle.heard_notes.specs.declared.put.Put.{Put}
use Rattle.put_lines.specs.Input.{IsRefused, ReadsInput}
use Rattle.put_lines.specs.Refusals.{IsWhy}
use Rattle.put_lines.specs.declared.error.InputError.{InputError}
use Rattle.put_lines.specs.declared.error.InputError.TheVariants.{Bad}
use Rattle.program_io.proofs.Reading.{IsFront}

module _ (most : ℕ) (o : Of) where
  -- nothing is left after an input
  pub input_left : (given left : Option (List ℕ)) (bytes : List ℕ) (ps : List Put) (s : List Line) → IsFront given bytes → ReadsInput most o bytes ps s → ForSome given (λ b. left ≡ Some (drop 1048577 b)) → ForSome given (λ b. left ≡ Some [])
  input_left given left bytes ps s front reads rest b told =
      let short : length (take 1048577 b) ≤ 1048576 = subst (λ (x : List ℕ). length x ≤ 1048576) (front b told) reads.within in
      rest b told ∙ ap Some (drop_of_length-le b {i = 1048577} (omega (arith, short, length-take 1048577 b)))

  -- an input in what was read is the whole, and what is refused there is refused as a whole, by the law of inputs
  pub input_read : ((b : List ℕ) (ps : List Put) (s : List Line) → ReadsInput most o (take 1048577 b) ps s → ReadsInput most o b ps s)
      → (given : Option (List ℕ)) (bytes : List ℕ) (ps : List Put) (s : List Line) → IsFront given bytes → ReadsInput most o bytes ps s → ForSome given (λ b. ReadsInput most o b ps s)
  input_read whole given bytes ps s front reads b told = whole b ps s (subst (λ (x : List ℕ). ReadsInput most o x ps s) (front b told) reads)

  pub input_refused : ((b : List ℕ) (n : ℕ) (c : BadCause) → IsRefused most o (take 1048577 b) n c → IsRefused most o b n c)
      → (given : Option (List ℕ)) (bytes : List ℕ) (n : ℕ) (c : BadCause) → IsFront given bytes → IsRefused most o bytes n c → ForSome given (λ b. IsRefused most o b n c)
  input_refused longer given bytes n c front refused b told = longer b n c (subst (λ (x : List ℕ). IsRefused most o x n c) (front b told) refused)
