-- What the parts of an input say of the whole.
use Rattle.std.proofs.Common.{◌≡◌, ℕ, ◌+◌, ◌-◌, ◌≤◌, true, List, [], ◌++◌, length, ap, subst, arith, length-append}
use Rattle.std.specs.Prelude.{Result, Ok, Err, IfErr}
use Rattle.std.specs.Result.{IsErrAnd}
use Rattle.dtx_values.specs.declared.limits.TheConstants.{SCRIPT_BYTES}
use Rattle.dtx_values.specs.declared.script.BadCause.{BadCause}
use Rattle.dtx_values.specs.declared.script.Line.{Line}
use Rattle.dtx_model.specs.Caused.{Of}
use Rattle.dtx_model.specs.Grammar.{Reads, script_text}
use Rattle.heard_notes.specs.declared.put.Put.{Put}
use Rattle.put_lines.specs.Input.{AtPut, HasFront, InScript, IsBadLineAfter, IsRefused, ReadsInput, are_good, front_text, puts_text, script_line}
use Rattle.put_lines.specs.Refusals.{IsBadAt, IsBadBody, IsBadPut, IsBadPutAt, IsWhy}
use Rattle.put_lines.specs.declared.error.InputError.{InputError}
use Rattle.put_lines.specs.declared.error.InputError.TheVariants.{Bad, Memory}
use Rattle.put_lines.proofs.FrontLines.{length_puts}

-- how many bytes stand before the script
pub front_taken : (b : List ℕ) (ps : List Put) (rest : List ℕ) → HasFront b ps rest → length b - length rest ≡ length (front_text ps)
front_taken b ps rest h = omega (arith, ap length h.bytes, length-append (front_text ps) rest)

-- they are no more than the most
pub front_within : (b : List ℕ) (ps : List Put) (rest : List ℕ) → HasFront b ps rest → length b - length rest ≤ SCRIPT_BYTES
front_within b ps rest h = omega (arith, front_taken b ps rest h, h.within)

-- nor are they so many lines
pub front_lines : (b : List ℕ) (ps : List Put) (rest : List ℕ) → HasFront b ps rest → length ps + 1 ≤ SCRIPT_BYTES
front_lines b ps rest h = omega (arith, h.within, length_puts ps, length-append (puts_text ps) script_line)

-- the whole is no longer than the most
whole_within : (b : List ℕ) (ps : List Put) (rest : List ℕ) → HasFront b ps rest → (length b - length rest) + length rest ≤ SCRIPT_BYTES → length b ≤ SCRIPT_BYTES
whole_within b ps rest h w = omega (arith, ap length h.bytes, length-append (front_text ps) rest)

-- the script's bytes are known
with_script : (b : List ℕ) (ps : List Put) (rest : List ℕ) (s : List Line) → HasFront b ps rest → Reads rest s → HasFront b ps (script_text s)
with_script b ps rest s h r = subst (λ (t : List ℕ). HasFront b ps t) r.bytes h

-- an input was read
pub was_read : (most : ℕ) (o : Of) (b : List ℕ) (ps : List Put) (rest : List ℕ) (s : List Line) → HasFront b ps rest → Reads rest s → (length b - length rest) + length rest ≤ SCRIPT_BYTES → are_good most s o [] ps ≡ true
    → ReadsInput most o b ps s
was_read most o b ps rest s h r w g = record {
  bytes = (with_script b ps rest s h r).bytes;
  in_range = h.in_range;
  within = whole_within b ps rest h w;
  script = r.script;
  good = g;
}

-- a line of the script is bad
in_script : (most : ℕ) (o : Of) (b : List ℕ) (ps : List Put) (rest : List ℕ) (n : ℕ) (c : BadCause) → HasFront b ps rest → IsBadAt (length b - length rest) (length ps + 1) rest n c → IsRefused most o b n c
in_script most o b ps rest n c h y =
    let taken = front_taken b ps rest h in
    let front : HasFront b ps (script_text y.before ++ y.rest) = subst (λ (t : List ℕ). HasFront b ps t) y.bytes h in
    InScript ps y.before y.rest front y.script (omega (arith, taken, y.within)) y.left y.number (subst (λ (k : ℕ). IsBadLineAfter k y.before y.rest c) taken y.cause)

-- a put is bad
at_put : (most : ℕ) (o : Of) (b : List ℕ) (ps : List Put) (rest : List ℕ) (s : List Line) (n : ℕ) (c : BadCause) → HasFront b ps rest → Reads rest s → (length b - length rest) + length rest ≤ SCRIPT_BYTES
    → IsBadPutAt most s o ps n c → IsRefused most o b n c
at_put most o b ps rest s n c h r w y =
    AtPut y.before y.put y.after s (subst (λ (xs : List Put). HasFront b xs (script_text s)) y.whole (with_script b ps rest s h r)) (whole_within b ps rest h w) r.script y.number y.good y.fault

-- so is why the whole is refused
pub why_script : (most : ℕ) (o : Of) (b : List ℕ) (ps : List Put) (rest : List ℕ) (e : InputError) → HasFront b ps rest → IsBadBody (length b - length rest) (length ps + 1) rest e → IsWhy most o b e
why_script most o b ps rest (Bad n c) h y = in_script most o b ps rest n c h y
why_script most o b ps rest Memory h y = tt

pub why_put : (most : ℕ) (o : Of) (b : List ℕ) (ps : List Put) (rest : List ℕ) (s : List Line) (e : InputError) → HasFront b ps rest → Reads rest s → (length b - length rest) + length rest ≤ SCRIPT_BYTES
    → IsBadPut most s o ps e → IsWhy most o b e
why_put most o b ps rest s (Bad n c) h r w y = at_put most o b ps rest s n c h r w y
why_put most o b ps rest s Memory h r w y = tt

-- an error of which something is known
pub of_error : {T E : Type 0} (r : Result T E) (P Q : E → Type 0) → IsErrAnd r Q → ((e : E) → Q e → P e) → IfErr r P
of_error (Ok x) P Q h f = absurd h
of_error (Err e) P Q h f = f e h
